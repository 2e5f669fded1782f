use Rattle.std.proofs.Common.{◌≡◌, ◌∙◌, ap, sym, subst}
use Rattle.std.specs.Prelude.{Option, Some}
use Rattle.zermuita_zone.specs.Calls.{TellsFactsOf, zone_in}
use Rattle.zermuita_zone.specs.declared.opened.OpenZone.{OpenZone}
use Rattle.zermuita_zone.proofs.zermuita_zone_facts.Goals as goal

pub returns : goal.returns
returns c =
    let now = c.facts_octets-code.new in
    let P : Option OpenZone → Type 0 = λ o. TellsFactsOf o (zone_in c.of.result) c.args.facts.now now.facts c.args.out.now now.out c.number-2.result in
    let same : Some c.deref.result.now ≡ Some c.in-Some.open.value = ap (λ (z : OpenZone). Some z) c.deref.ensures in
    subst P (same ∙ c.in-Some.ensures.taken) (record { code = c.facts_octets-code.result; says = c.facts_octets-code.ensures; stays = c.of.ensures ∙ sym same; reply_is = c.number-2.ensures })
