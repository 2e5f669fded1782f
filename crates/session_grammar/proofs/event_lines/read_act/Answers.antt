use Rattle.std.proofs.Common.{arith}
use Rattle.std.proofs.lemmas.List.{length-map}
use Rattle.std.proofs.lemmas.Bool.Decides.{nat_tests}
use Rattle.std.proofs.lemmas.Bool.{ltb-false}
use Rattle.session_grammar.specs.Readings.{texts}
use Rattle.session_grammar.proofs.FieldLemmas.{no_fields, many_fields}
use Rattle.session_grammar.proofs.event_lines.read_act.Goals as goal
use Rattle.session_grammar.proofs.event_lines.read_act.Goals.{in_default-via-then-fields-lt1, in_default-via-else-fields-lt1+else-fields-lt2+else-fields-lt3+else-fields-lt4+else-fields-lt5+else-fields-lt6+else-fields-lt7}

pub returns-in_default-clause-read : goal.returns-in_default-clause-read
returns-in_default-clause-read c =
    let fields = c.args.fields.now in
    let same = length-map fields (λ f. f.now) in
    elim c.in_default.branch [
      | in_default-via-then-fields-lt1 w ↦ no_fields (texts fields) (grind (arith, nat_tests))
      | in_default-via-else-fields-lt1+else-fields-lt2+else-fields-lt3+else-fields-lt4+else-fields-lt5+else-fields-lt6+else-fields-lt7 w ↦ many_fields (texts fields) (omega (arith, same, ltb-false))
    ]
