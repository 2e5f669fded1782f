use Rattle.std.proofs.Common.{refl}
use Rattle.server_zone.proofs.OpeningLemmas.{same_zone}
use Rattle.server_zone.proofs.open_zone.Zone.gather.Goals as goal

pub returns-in_err-push-clause-holds : goal.returns-in_err-push-clause-holds
returns-in_err-push-clause-holds g c = same_zone (g.H.Nsec3Hasher.hash_of c.args.self.now.publisher.zone.hasher) c.args.self.now _ refl refl refl refl

pub returns-clause-holds : goal.returns-clause-holds
returns-clause-holds g c = same_zone (g.H.Nsec3Hasher.hash_of c.args.self.now.publisher.zone.hasher) c.args.self.now _ refl refl refl refl
