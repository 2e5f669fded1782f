use Rattle.std.proofs.Common.{◌≡◌, ◌∙◌, ap, subst}
use Rattle.std.specs.Prelude.{Option, Some}
use Rattle.denial_nsec3_sha1.specs.declared.hasher.Sha1Hasher.{Sha1Hasher}
use Rattle.server_signatures.specs.declared.digests.DigestScheme.{DigestScheme}
use Rattle.server_zone.specs.declared.open_zone.Zone.{Zone}
use Rattle.zermuita_zone.specs.Calls.{AnswersFrom, zone_in}
use Rattle.zermuita_zone.specs.declared.opened.OpenZone.{OpenZone}
use Rattle.zermuita_zone.proofs.zermuita_zone_respond_to.Goals as goal

pub returns : goal.returns
returns c =
    let now = c.respond_octets-code.new in
    let P : Option OpenZone → Type 0 = λ o. AnswersFrom c.args.request.now o (zone_in c.of.result) c.args.report.now now.report c.args.out.now now.out c.number-2.result in
    let is : Some c.deref_mut.result.now ≡ zone_in c.args.handle.now = ap (λ (z : OpenZone). Some z) c.deref_mut.ensures.value ∙ c.in-Some.ensures.taken in
    let held : Zone DigestScheme Sha1Hasher → Option OpenZone = λ z. Some (record { zone = z }) in
    subst P is (record { latest = now.zone.publisher.latest; code = c.respond_octets-code.result; answers = c.respond_octets-code.ensures.answered; stays_open = c.of.ensures ∙ ap held c.respond_octets-code.ensures.rest; reply_is = c.number-2.ensures })
