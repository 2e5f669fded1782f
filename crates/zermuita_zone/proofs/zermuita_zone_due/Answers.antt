use Rattle.std.proofs.Common.{◌≡◌, ◌∙◌, ap, sym, subst}
use Rattle.std.specs.Prelude.{Option, Some}
use Rattle.zermuita_zone.specs.Calls.{TellsDueOf, zone_in}
use Rattle.zermuita_zone.specs.declared.opened.OpenZone.{OpenZone}
use Rattle.zermuita_zone.proofs.zermuita_zone_due.Goals as goal

pub returns : goal.returns
returns c =
    let now = c.due_octets-code.new in
    let P : Option OpenZone → Type 0 = λ o. TellsDueOf c.args.roll o (zone_in c.of.result) c.args.due.now now.due c.args.out.now now.out c.number-2.result in
    let same : Some c.deref.result.now ≡ Some c.in-Some.open.value = ap (λ (z : OpenZone). Some z) c.deref.ensures in
    subst P (same ∙ c.in-Some.ensures.taken) (record { code = c.due_octets-code.result; says = c.due_octets-code.ensures; stays = c.of.ensures ∙ sym same; reply_is = c.number-2.ensures })
