use Rattle.std.proofs.Common.{Some, sym, ap, ◌∙◌}
use Rattle.plain.specs.ZoneData.{zone_type}
use Rattle.session_grammar.specs.Readings.{data_view}
use Rattle.session_grammar.proofs.RecordLemmas.{record_read, is_word}
use Rattle.session_grammar.proofs.zone_lines.record_of.Goals as goal

pub returns : goal.returns
returns c =
    let made = c.new.ensures in
    record_read c.args.word.now c.args.owner.now c.args.ttl.now c.args.class.now c.args.rtype.now c.args.octets.now c.in_ok-owner.owner _ c.in_ok-number_u32.field-0 _ c.in_ok-number_u16.field-0 _ c.in_ok-number_u16-2.field-0 _ _ c.in_ok-octets.octets.items (data_view c.new.result.content)
    (is_word c.args.word.now _ c.if-ne.ensures) c.in_ok-owner.ensures c.in_ok-number_u32.ensures c.in_ok-number_u16.ensures c.in_ok-number_u16-2.ensures c.in_ok-octets.ensures (c.in_ok-data.ensures.read ∙ ap (λ d. Some (data_view d)) (sym made.content))
    made.owner (made.ttl ∙ c.from_secs-ttl.ensures) (made.class ∙ c.from_int-class.ensures) c.from_int-rtype.ensures (ap zone_type made.content ∙ c.in_ok-data.ensures.rtype)
