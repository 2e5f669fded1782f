use Rattle.std.proofs.Common.{ap, refl}
use Rattle.server_zone.proofs.OpeningLemmas.{same_zone}
use Rattle.server_zone.proofs.open_zone.Zone.call.Goals as goal

pub returns-in-Ok-clause-holds : goal.returns-in-Ok-clause-holds
returns-in-Ok-clause-holds g c =
    let rest = c.apply.ensures.rest in
    same_zone (g.H.Nsec3Hasher.hash_of c.args.self.now.publisher.zone.hasher) c.args.self.now _ (ap (λ p. p.zone) rest) (ap (λ p. p.life) rest) refl refl

pub returns-in-Err-clause-holds : goal.returns-in-Err-clause-holds
returns-in-Err-clause-holds g c =
    let rest = c.apply.ensures.rest in
    same_zone (g.H.Nsec3Hasher.hash_of c.args.self.now.publisher.zone.hasher) c.args.self.now _ (ap (λ p. p.zone) rest) (ap (λ p. p.life) rest) refl refl
