use Rattle.names_rdata.proofs.PartCalls.{name_read}
use Rattle.names_rdata.proofs.reading.parse_name.Goals as goal

pub returns-clause-read : goal.returns-clause-read
returns-clause-read c = name_read c.args.parser.now c.parse.new.parser c.parse.result c.parse.ensures.ok c.parse.ensures.fault c.parse.ensures.unchanged
