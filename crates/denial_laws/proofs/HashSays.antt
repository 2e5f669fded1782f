-- What an NSEC3 record that says truly says of a name whose hash it has or covers.
use Rattle.std.proofs.Common.{◌≡◌, ℕ, Bool, true, false, List}
use Rattle.std.specs.Cmp.Lexicographic.{bytes_decides}
use Rattle.definitions.specs.Name.{Name, low}
use Rattle.definitions.specs.Zone.{Zone, kept}
use Rattle.denial_laws.specs.Facts.{HashLink}
use Rattle.denial_laws.specs.Nsec3Rules.{is_at, covers_hash}
use Rattle.denial_laws.specs.Truth.{Concerns, SaysTrulyHash, ShowsTypes}

module _ (z : Zone) (hash : Name → List ℕ) (ex : Bool) (q : Name) (l : HashLink) (k : SaysTrulyHash z hash ex q l) (x : Name) (c : Concerns z q x) where
  pub said_kept : is_at (hash (low x)) l ≡ true → kept z ex x ≡ true
  said_kept h = (k.matched x c ((bytes_decides l.owner (hash (low x))).0 h)).0

  pub said_shows : is_at (hash (low x)) l ≡ true → ShowsTypes z (low x) l.bits
  said_shows h = (k.matched x c ((bytes_decides l.owner (hash (low x))).0 h)).1

  pub said_gone : covers_hash (hash (low x)) l ≡ true → kept z ex x ≡ false
  said_gone h = k.covered x c h
