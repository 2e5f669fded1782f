use Rattle.std.proofs.Common.{◌≡◌, ◌∙◌, ap, subst}
use Rattle.std.specs.Prelude.{Option, Some}
use Rattle.zermuita_zone.specs.Calls.{AppliesTo, zone_in}
use Rattle.zermuita_zone.specs.declared.opened.OpenZone.{OpenZone}
use Rattle.zermuita_zone.proofs.zermuita_zone_apply.Goals as goal

pub returns : goal.returns
returns c =
    let now = c.apply_octets-code.new in
    let P : Option OpenZone → Type 0 = λ o. AppliesTo c.args.line.now o (zone_in c.of.result) c.args.report.now now.report c.args.out.now now.out c.number-2.result in
    let is : Some c.deref_mut.result.now ≡ zone_in c.args.handle.now = ap (λ (z : OpenZone). Some z) c.deref_mut.ensures.value ∙ c.in-Some.ensures.taken in
    subst P is (record { z' = record { zone = now.zone }; code = c.apply_octets-code.result; applies = c.apply_octets-code.ensures; stays_open = c.of.ensures; reply_is = c.number-2.ensures })
