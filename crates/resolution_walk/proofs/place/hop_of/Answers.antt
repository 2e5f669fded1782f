use Rattle.std.proofs.Common.{None, refl, subst, sym}
use Rattle.evidence_laws.specs.Step.{Step}
use Rattle.evidence_laws.specs.Told.{told}
use Rattle.resolution_walk.specs.Between.{IsNothing}
use Rattle.resolution_walk.proofs.Turning.{untold_turned}
use Rattle.resolution_walk.proofs.place.hop_of.Goals as goal

pub returns-in-NoCut : goal.returns-in-NoCut
returns-in-NoCut c =
    let nothing : IsNothing (told c.args.step) None = subst (λ (s : Step). IsNothing (told s) None) (sym c.in-NoCut.is) refl in
    untold_turned c.args.query.now _ None c.untold.result nothing c.untold.ensures

pub returns-in-NoneBelow : goal.returns-in-NoneBelow
returns-in-NoneBelow c =
    let nothing : IsNothing (told c.args.step) None = subst (λ (s : Step). IsNothing (told s) None) (sym c.in-NoneBelow.is) refl in
    untold_turned c.args.query.now _ None c.untold-in-NoneBelow.result nothing c.untold-in-NoneBelow.ensures

pub returns-in-Untold : goal.returns-in-Untold
returns-in-Untold c =
    let refusal = c.in-Untold.refusal in
    let nothing : IsNothing (told c.args.step) refusal = subst (λ (s : Step). IsNothing (told s) refusal) (sym c.in-Untold.is) refl in
    untold_turned c.args.query.now _ refusal c.untold-in-Untold.result nothing c.untold-in-Untold.ensures
