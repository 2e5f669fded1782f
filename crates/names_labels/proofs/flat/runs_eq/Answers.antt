use Rattle.std.proofs.Common.{◌≡◌, sym, ap, ◌∙◌}
use Rattle.std.specs.Str.{str_to_ascii_lowercase}
use Rattle.std.proofs.lemmas.Slice.Eq.{bytes_eq-Decides}
use Rattle.names_labels.proofs.Lowered.{lowered_same, same_lowered}
use Rattle.names_labels.proofs.flat.runs_eq.Goals as goal

pub returns-then-eq : goal.returns-then-eq
returns-then-eq c =
    let run = c.args.run.now in
    let other = c.args.other.now in
    let equal : run ≡ other = (bytes_eq-Decides run other).0 (sym c.eq.ensures ∙ c.if-eq.true) in
    ((λ h. lowered_same run other c.requires.run c.requires.other (ap str_to_ascii_lowercase equal)), (λ h. c.if-eq.true))

pub returns-else-eq : goal.returns-else-eq
returns-else-eq c =
    let run = c.args.run.now in
    let other = c.args.other.now in (
      (λ h. lowered_same run other c.requires.run c.requires.other (c.eq_ignore_ascii_case.ensures.test.0 h)),
      (λ h. c.eq_ignore_ascii_case.ensures.test.1 (same_lowered run other c.requires.run c.requires.other h)),
    )
