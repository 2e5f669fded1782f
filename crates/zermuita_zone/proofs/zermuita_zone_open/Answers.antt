use Rattle.std.proofs.Common.{◌≡◌, ◌∙◌, ap, inl, inr, refl, sym, subst}
use Rattle.std.specs.Prelude.{Option, None, Some}
use Rattle.zermuita_zone.specs.Calls.{OpensFrom, zone_in}
use Rattle.zermuita_zone.specs.declared.opened.OpenZone.{OpenZone}
use Rattle.zermuita_zone.proofs.Flags.{flag_none}
use Rattle.zermuita_zone.proofs.zermuita_zone_open.Goals as goal

pub returns-in-Ok-new : goal.returns-in-Ok-new
returns-in-Ok-new c =
    let now = c.open_octets.new in let zone = c.in-Ok.zone in
    let P : Option OpenZone → Type 0 = λ o. OpensFrom c.args.journal.now o (zone_in c.of.result) c.args.report.now now.report c.args.out.now now.out c.number-in-Ok-new.result in
    let closed : zone_in c.args.handle.now ≡ None = flag_none (zone_in c.args.handle.now) (sym c.is_open.ensures ∙ c.if-is_open.false) in
    let opened : zone_in c.of.result ≡ Some (record { zone = zone }) = c.of.ensures ∙ ap (λ (z : OpenZone). Some z) c.in-Ok-new.ensures.ok in
    subst P (sym closed) (inl (record { z = record { zone = zone }; gives = record { known = c.in-Ok.ensures.known; opens = c.in-Ok.ensures.opened.0; accepted = c.in-Ok.ensures.accepted; octets_are = c.in-Ok.ensures.opened.1 }; is_open = opened; reply_is = c.number-in-Ok-new.ensures }))

-- memory runs out for it
pub returns-in-Ok : goal.returns-in-Ok
returns-in-Ok c =
    let now = c.open_octets.new in let zone = c.in-Ok.zone in
    let P : Option OpenZone → Type 0 = λ o. OpensFrom c.args.journal.now o o c.args.report.now now.report c.args.out.now now.out c.number-in-Err-new.result in
    let closed : zone_in c.args.handle.now ≡ None = flag_none (zone_in c.args.handle.now) (sym c.is_open.ensures ∙ c.if-is_open.false) in
    subst P (sym closed) (inr (refl, inr (record { zone = zone }, record { known = c.in-Ok.ensures.known; opens = c.in-Ok.ensures.opened.0; accepted = c.in-Ok.ensures.accepted; octets_are = c.in-Ok.ensures.opened.1 }, c.number-in-Err-new.ensures)))
