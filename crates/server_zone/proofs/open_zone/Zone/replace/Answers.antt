use Rattle.std.proofs.Common.{ap, map, refl, sym, ◌∙◌}
use Rattle.messages.specs.HandedRr.{handed_of}
use Rattle.server_glue.specs.Glue.{addresses_of}
use Rattle.server_zone.proofs.OpeningLemmas.{other_zone, same_zone}
use Rattle.server_zone.proofs.open_zone.Zone.replace.Goals as goal

pub returns-in-Ok-clause-holds : goal.returns-in-Ok-clause-holds
returns-in-Ok-clause-holds g c =
    let e = c.in-Ok.ensures in
    let gathered = ap (map handed_of) c.deref-2.ensures.value ∙ sym (ap (map handed_of) c.deref.ensures.value) ∙ sym c.in_ok-copies.ensures in
    other_zone (g.H.Nsec3Hasher.hash_of c.args.self.now.publisher.zone.hasher) (map handed_of c.in_ok-copies.copies.items) c.args.self.now _ e.replaced e.handed e.accepted (c.in_ok-addresses.ensures ∙ ap addresses_of gathered) refl

pub returns-in-Err-clause-holds : goal.returns-in-Err-clause-holds
returns-in-Err-clause-holds g c =
    let same = c.in-Err.ensures.refused in
    same_zone (g.H.Nsec3Hasher.hash_of c.args.self.now.publisher.zone.hasher) c.args.self.now _ (ap (λ p. p.zone) same) (ap (λ p. p.life) same) refl refl
