use Rattle.std.proofs.Common.{◌≡◌, ◌∙◌, ap, sym, subst}
use Rattle.std.specs.Prelude.{Option, Some}
use Rattle.zermuita_zone.specs.Calls.{TellsSetOf, zone_in}
use Rattle.zermuita_zone.specs.declared.opened.OpenZone.{OpenZone}
use Rattle.zermuita_zone.proofs.zermuita_zone_records.Goals as goal

pub returns : goal.returns
returns c =
    let now = c.records_octets-code.new in
    let P : Option OpenZone → Type 0 = λ o. TellsSetOf c.args.rtype o (zone_in c.of.result) c.args.report.now now.report c.args.out.now now.out c.number-2.result in
    let same : Some c.deref.result.now ≡ Some c.in-Some.open.value = ap (λ (z : OpenZone). Some z) c.deref.ensures in
    subst P (same ∙ c.in-Some.ensures.taken) (record { code = c.records_octets-code.result; says = c.records_octets-code.ensures; stays = c.of.ensures ∙ sym same; reply_is = c.number-2.ensures })
