use Rattle.std.proofs.Common.{◌≡◌, true, false, eq-eqb, sym, ◌∙◌}
use Rattle.std.proofs.lemmas.Bool.{eqb-true}
use Rattle.definitions.proofs.PlainSpelling.{ends_zero, ends_other}
use Rattle.definitions.proofs.reference.bitmap.ends_in_zero.Goals as goal

pub returns-clause-zero : goal.returns-clause-zero
returns-clause-zero c h = ends_zero c.args.octets.now c.in-Some.field-0-1.now c.in-Some.last.now c.in-Some.ensures.cases.0 (eqb-true c.in-Some.last.now 0 h)

pub returns-clause-other : goal.returns-clause-other
returns-clause-other c h =
    ends_other c.args.octets.now c.in-Some.field-0-1.now c.in-Some.last.now c.in-Some.ensures.cases.0
    (λ z. let both : true ≡ false = sym (eq-eqb c.in-Some.last.now 0 z) ∙ h in cc)
