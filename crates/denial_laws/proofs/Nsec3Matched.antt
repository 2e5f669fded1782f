-- What an NSEC3 record with the hash of the name itself proves is the zone's verdict.
use Rattle.std.proofs.Common.{◌≡◌, ℕ, ◌<◌, Bool, List, Some, ◌∙◌}
use Rattle.std.specs.List.{AllByRecursion}
use Rattle.definitions.specs.Name.{Name, low}
use Rattle.definitions.specs.Zone.{Zone, Verdict}
use Rattle.denial_laws.specs.Facts.{HashLink}
use Rattle.denial_laws.specs.NsecRules.{first_some, at_name}
use Rattle.denial_laws.specs.Nsec3Rules.{is_at, at_hash}
use Rattle.denial_laws.specs.Truth.{Concerns, IsServable, SaysTrulyHash}
use Rattle.denial_laws.specs.Laws.{IsSaidBy}
use Rattle.denial_laws.proofs.ChainBits.{all_at}
use Rattle.denial_laws.proofs.Found.{first_from}
use Rattle.denial_laws.proofs.HashSays.{said_kept, said_shows}
use Rattle.denial_laws.proofs.AtName.{on_true, kept_name_truly}
use Rattle.denial_laws.proofs.ZoneCuts.{kept_lowered}

module _ (z : Zone) (hash : Name → List ℕ) (ex : Bool) (s : IsServable z) (q : Name) (t : ℕ) (l : t < 65536) where
  pub matched_truly : Concerns z q q → (fs : List HashLink) → AllByRecursion (SaysTrulyHash z hash ex q) fs
      → (v : Verdict) → first_some (at_hash z.name q t (hash (low q))) fs ≡ Some v → IsSaidBy z ex q t v
  matched_truly own fs all v h =
      let found = first_from (at_hash z.name q t (hash (low q))) fs v h in
      let f : HashLink = found.0 in
      let k = all_at (SaysTrulyHash z hash ex q) fs f all found.1.0 in
      let r = on_true (is_at (hash (low q)) f) (at_name z.name q t f.bits) v found.1.1 in
      kept_name_truly z s ex q t l f.bits (kept_lowered z ex q ∙ said_kept z hash ex q f k q own r.0)
      (said_shows z hash ex q f k q own r.0) v r.1
