-- A version of a zone, and the RRsets that its signer signs (RFC 4035, 2; RFC 5155, 7.1).
use Rattle.std.specs.Prelude.{◌≡◌, ℕ, ◌<◌, Bool, true, List, [], ◌∷◌, ◌++◌, length, Contains, if◌then◌else◌}
use Rattle.std.specs.List.{AllByRecursion}
use Rattle.std.specs.Int.{w16, to_be_bytes}
use Rattle.definitions.specs.Base32hex.{base32hex}
use Rattle.definitions.specs.Bitmap.{bitmap, is_bitmap}
use Rattle.definitions.specs.Name.{Name, IsName, low, wire}
use Rattle.definitions.specs.Zone.{Zone, apex_of, data_at}
use Rattle.definitions.specs.ZoneChain.{Mode, Nsec, Nsec3, parameters_of, nsec_names, nsec_next, nsec_types, hashed_names, nsec3_data}
use Rattle.denial_laws.specs.Truth.{SaysTruly, SaysTrulyHash, is_signed}
use Rattle.messages.specs.HandedRr.{HandedRr}
use Rattle.answer_terms.specs.Accepting.{zone_of}

-- an RRset under its own owner, in whichever case, with its canonical data
pub record SignedRrset : Type 0 where
  pub owner : Name
  pub rtype : ℕ
  pub datas : List (List ℕ)

-- its records, how its chain is made, and the records of denial that its signer made for questions, beside those of the chain
pub record Version : Type 0 where
  pub records : List HandedRr
  pub mode : Mode
  pub made : List SignedRrset

-- the zone of its records
abbrev pub zone_in : Name → Version → Zone
zone_in apex v = zone_of apex v.records

-- ---- the records of its chain

-- the NSEC record of a live owner; the next name may be spelled in any case (RFC 4034, 4; RFC 6840, 5.1)
pub record IsNsecOf (z : Zone) (x : SignedRrset) : Type 0 where
  pub there : Contains (nsec_names z) (low x.owner)
  pub rtype_is : x.rtype ≡ 47
  pub next : Name
  pub next_is : low next ≡ nsec_next z (low x.owner)
  pub datas_are : x.datas ≡ (wire next ++ bitmap (nsec_types z true (low x.owner))) ∷ []

-- the NSEC3 record of a name of the chain (RFC 5155, 3)
pub record IsNsec3Of (z : Zone) (hash : Name → List ℕ) (iterations : ℕ) (salt : List ℕ) (optout : Bool) (x : SignedRrset) : Type 0 where
  pub name : Name
  pub there : Contains (hashed_names hash z optout) name
  pub owner_is : low x.owner ≡ base32hex (hash name) ∷ apex_of z
  pub rtype_is : x.rtype ≡ 50
  pub datas_are : x.datas ≡ nsec3_data hash z (parameters_of (Nsec3 iterations salt optout)) name ∷ []

abbrev pub IsOfChain : Zone → (Name → List ℕ) → Mode → SignedRrset → Type 0
IsOfChain z hash Nsec x = IsNsecOf z x
IsOfChain z hash (Nsec3 iterations salt optout) x = IsNsec3Of z hash iterations salt optout x

-- ---- records of denial that are made for questions

-- an NSEC record that says what is so about a question, whose next name need not be one of the zone (RFC 4470; RFC 9824)
pub record IsNsecMade (z : Zone) (q : Name) (x : SignedRrset) : Type 0 where
  pub rtype_is : x.rtype ≡ 47
  pub next : Name
  pub bits : List ℕ
  pub named : IsName next
  pub datas_are : x.datas ≡ (wire next ++ bits) ∷ []
  pub says : SaysTruly z q (record { owner = x.owner; next = next; bits = bits })

-- an NSEC3 record's data, of its next hash and its bits (RFC 5155, 3.2)
abbrev pub hashed_data : ℕ → List ℕ → Bool → List ℕ → List ℕ → List ℕ
hashed_data iterations salt optout next bits =
    1 ∷ (if optout then 1 else 0) ∷ to_be_bytes w16 iterations ++ length salt ∷ salt ++ length next ∷ next ++ bits

-- an NSEC3 record that says what is so about a question, whose owner and next hash need not be hashes of names (RFC 7129, B); it has
-- the zone's parameters
pub record IsNsec3Made (z : Zone) (hash : Name → List ℕ) (iterations : ℕ) (salt : List ℕ) (optout : Bool) (q : Name) (x : SignedRrset) : Type 0 where
  pub rtype_is : x.rtype ≡ 50
  pub hashed : List ℕ
  pub octets : AllByRecursion (λ o. o < 256) hashed
  pub owner_is : low x.owner ≡ base32hex hashed ∷ apex_of z
  pub next : List ℕ
  pub bits : List ℕ
  pub windows : is_bitmap bits ≡ true
  pub datas_are : x.datas ≡ hashed_data iterations salt optout next bits ∷ []
  pub says : SaysTrulyHash z hash optout q (record { owner = hashed; next = next; bits = bits; opt_out = optout; iterations = iterations; salt = salt })

abbrev pub IsMade : Zone → (Name → List ℕ) → Mode → Name → SignedRrset → Type 0
IsMade z hash Nsec q x = IsNsecMade z q x
IsMade z hash (Nsec3 iterations salt optout) q x = IsNsec3Made z hash iterations salt optout q x

-- ---- what is signed

-- What a version signs: the data of its live owners, of a delegation its DS records alone (RFC 4035, 2.2); the records of its
-- chain; those that were made for questions; NSEC3PARAM (RFC 5155, 4).
pub data IsRrsetOf (apex : Name) (hash : Name → List ℕ) (v : Version) (x : SignedRrset) : Type 0 where
  OfZone : is_signed (zone_in apex v) (low x.owner) x.rtype ≡ true → x.datas ≡ data_at (zone_in apex v) (low x.owner) x.rtype → IsRrsetOf apex hash v x
  OfChain : IsOfChain (zone_in apex v) hash v.mode x → IsRrsetOf apex hash v x
  OfMade : Contains v.made x → IsRrsetOf apex hash v x
  OfParameters : low x.owner ≡ low apex → x.rtype ≡ 51 → IsRrsetOf apex hash v x
