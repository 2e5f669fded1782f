use Rattle.std.proofs.Common.{◌≡◌, ◌∙◌, ap}
use Rattle.std.specs.Prelude.{Some}
use Rattle.zermuita_zone.specs.Calls.{zone_in}
use Rattle.zermuita_zone.specs.declared.opened.OpenZone.{OpenZone}
use Rattle.zermuita_zone.proofs.Calls.{forgets}
use Rattle.zermuita_zone.proofs.zermuita_zone_forget.Goals as goal

pub returns : goal.returns
returns c =
    let is : Some c.deref_mut.result.now ≡ zone_in c.args.handle.now = ap (λ (z : OpenZone). Some z) c.deref_mut.ensures.value ∙ c.in-Some.ensures.taken in
    forgets (zone_in c.args.handle.now) (zone_in c.of.result) c.deref_mut.result.now (record { zone = c.forget_gathered.new.self }) c.number-2.result is c.of.ensures c.forget_gathered.ensures.state c.forget_gathered.ensures.rest c.forget_gathered.ensures.addresses c.number-2.ensures
