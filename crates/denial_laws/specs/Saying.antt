-- Which verdicts a zone may give on a name and a type: for each its own conditions, and no order among them (RFC 1034, 4.3.2;
-- RFC 4592; RFC 5155, 7.2).
use Rattle.std.specs.Prelude.{◌≡◌, ◌⊎◌, ℕ, Bool, true, false, Some, None}
use Rattle.definitions.specs.Name.{Name, low}
use Rattle.definitions.specs.Zone.{Zone, Verdict, Records, NoType, NoName, StarRecords, StarNoType, Delegated, Open, Unsigned, has, cut, exists, ce, star_under, data_at, is_open}

-- The zone itself answers for the name: below no delegation and existing; or it is the delegation and its DS is asked for.
abbrev pub IsAnswered : Zone → Name → ℕ → Type 0
IsAnswered z q t = ((cut z q ≡ None) × (exists z q ≡ true)) ⊎ ((cut z q ≡ Some q) × (t ≡ 43))

-- The zone delegates what it would answer: at or below a delegation, and not DS at the delegation itself.
pub record IsDelegated (z : Zone) (q : Name) (t : ℕ) : Type 0 where
  pub delegation : Name
  pub cut : cut z q ≡ Some delegation
  pub other : (delegation ≡ q) × (t ≡ 43) → ⊥

-- The name is below no delegation and does not exist.
pub record IsMissing (z : Zone) (q : Name) : Type 0 where
  pub uncut : cut z q ≡ None
  pub gone : exists z q ≡ false

-- The wildcard under its closest encloser speaks for it.
pub record HasStar (z : Zone) (q star : Name) : Type 0 where
  pub missing : IsMissing z q
  pub encloser : Name
  pub closest : ce z q ≡ Some encloser
  pub named : star ≡ star_under encloser
  pub there : exists z star ≡ true

-- No wildcard speaks for it.
pub record HasNoStar (z : Zone) (q : Name) : Type 0 where
  pub missing : IsMissing z q
  pub gone : (encloser : Name) → ce z q ≡ Some encloser → exists z (star_under encloser) ≡ false

-- what must hold for a verdict on a name in lower case that opt-out does not leave open
abbrev pub IsTold : Zone → Name → ℕ → Verdict → Type 0
IsTold z q t (Records ds) = IsAnswered z q t × (has z q t ≡ true) × (ds ≡ data_at z q t)
IsTold z q t NoType = IsAnswered z q t × (has z q t ≡ false)
IsTold z q t NoName = HasNoStar z q
IsTold z q t (StarRecords ds) = (star : Name) × HasStar z q star × (has z star t ≡ true) × (ds ≡ data_at z star t)
IsTold z q t StarNoType = (star : Name) × HasStar z q star × (has z star t ≡ false)
IsTold z q t Delegated = IsDelegated z q t
IsTold z q t Open = ⊥
IsTold z q t Unsigned = ⊥

-- what must hold for a verdict: left open, or told
abbrev pub IsVerdict : Zone → Bool → Name → ℕ → Verdict → Type 0
IsVerdict z optout name t Open = is_open z optout (low name) ≡ true
IsVerdict z optout name t v = (is_open z optout (low name) ≡ false) × IsTold z (low name) t v
