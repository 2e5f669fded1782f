use Rattle.names_rdata.proofs.PartCalls.{rest_read}
use Rattle.names_rdata.proofs.reading.parse_rest.Goals as goal

pub returns-clause-read : goal.returns-clause-read
returns-clause-read c =
    rest_read (λ o. o.now) c.args.parser.now c.parse_octets.new.self c.remaining-len.result c.parse_octets.result c.as_slice-octets.ensures.place c.remaining-len.ensures c.parse_octets.ensures.taken
