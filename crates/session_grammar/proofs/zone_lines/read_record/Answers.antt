use Rattle.std.proofs.Common.{arith}
use Rattle.std.proofs.lemmas.Bool.{ltb-true, ltb-false}
use Rattle.std.proofs.lemmas.List.{length-map}
use Rattle.session_grammar.specs.Readings.{texts}
use Rattle.session_grammar.proofs.FieldLemmas.{not_six}
use Rattle.session_grammar.proofs.zone_lines.read_record.Goals as goal
use Rattle.session_grammar.proofs.zone_lines.read_record.Goals.{in_default-via-then-fields-lt6, in_default-via-else-fields-lt6+else-fields-lt7}

pub returns-in_default : goal.returns-in_default
returns-in_default c =
    let fields = c.args.fields.now in
    let same = length-map fields (λ f. f.now) in
    elim c.in_default.branch [
      | in_default-via-then-fields-lt6 w ↦ not_six (texts fields) (λ e. omega (arith, same, e, ltb-true, ltb-false))
      | in_default-via-else-fields-lt6+else-fields-lt7 w ↦ not_six (texts fields) (λ e. omega (arith, same, e, ltb-true, ltb-false))
    ]
