use Rattle.std.proofs.Common.{refl, ap, ◌∙◌}
use Rattle.std.specs.Int.{w32, to_be_bytes}
use Rattle.session_grammar.proofs.RecordLemmas.{numbers_are, soa_read}
use Rattle.session_grammar.proofs.zone_lines.read_soa.Goals as goal

pub returns : goal.returns
returns c =
    let octets = to_be_bytes w32 in
    let made = c.new.ensures in
    soa_read c.args.octets.now _ _ _ _ c.in_ok-mname.behind c.in_ok-rname.front c.in_ok-mname.ensures.read c.in_ok-rname.ensures.read c.in_ok-rname.ensures.inside refl c.if-numbers-ne20.false made.mname made.rname
    (numbers_are _ _ c.if-numbers-ne20.false
    (ap octets made.serial ∙ c.number_at.ensures)
    (ap octets (made.refresh ∙ c.from_secs.ensures) ∙ c.number_at-2.ensures)
    (ap octets (made.retry ∙ c.from_secs-2.ensures) ∙ c.number_at-3.ensures)
    (ap octets (made.expire ∙ c.from_secs-3.ensures) ∙ c.number_at-4.ensures)
    (ap octets (made.minimum ∙ c.from_secs-4.ensures) ∙ c.number_at-5.ensures))
