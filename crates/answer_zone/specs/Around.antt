-- Names of the chain around a name that has no record there (RFC 5155, 1.3).
use Rattle.std.specs.Prelude.{◌≡◌, Bool}
use Rattle.definitions.specs.Name.{Name, low}
use Rattle.definitions.specs.Zone.{Zone, star_under}
use Rattle.denial_laws.specs.OwnFacts.{kept_ancestor, next_closer}
use Rattle.answer_zone.specs.declared.zone.around.Around.{Around}

-- the closest kept ancestor of a name in lower case, the next closer name, and the wildcard under the ancestor, up to case
pub record IsAround (z : Zone) (optout : Bool) (q : Name) (a : Around) : Type 0 where
  pub encloser : low a.encloser ≡ kept_ancestor z optout q
  pub closer : low a.closer ≡ next_closer (kept_ancestor z optout q) q
  pub star : low a.star ≡ star_under (kept_ancestor z optout q)
