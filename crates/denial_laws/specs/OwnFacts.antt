-- The facts of a zone's own answer to a question (RFC 4035, 3.1.3; RFC 5155, 7.2).
use Rattle.std.specs.Prelude.{ℕ, Bool, true, false, ◌||◌, List, [], ◌∷◌, map, filter, length, Option, Some, None, if◌then◌else◌}
use Rattle.std.specs.List.{list_any}
use Rattle.std.specs.Str.{bytes_eq}
use Rattle.definitions.specs.Name.{Name, low, labels_eq}
use Rattle.definitions.specs.Signing.{label_count}
use Rattle.definitions.specs.Covering.{covers, hash_covers}
use Rattle.definitions.specs.Bitmap.{bitmap}
use Rattle.definitions.specs.Zone.{Zone, Verdict, Records, NoType, NoName, StarRecords, StarNoType, Delegated, Open, Unsigned, verdict, apex_of, cut, kept, ce, star_under}
use Rattle.definitions.specs.ZoneChain.{Mode, Nsec, Nsec3, optout_of, nsec_names, nsec_next, nsec_types, nsec3_types, hashed_names, nsec3_next}
use Rattle.denial_laws.specs.Facts.{Rrset, Link, HashLink, Facts}

-- one label longer than an ancestor, on the way to a name (RFC 5155, 1.3)
abbrev pub next_closer : Name → Name → Name
next_closer e [] = []
next_closer e (l ∷ q) = let r = next_closer e q in if labels_eq e q then l ∷ q else r

-- the longest proper ancestor that is kept
abbrev pub kept_ancestor : Zone → Bool → Name → Name
kept_ancestor z optout [] = []
kept_ancestor z optout (l ∷ q) = let r = kept_ancestor z optout q in if kept z optout q then q else r

-- whether the proof of an open name speaks of the wildcard too, by the verdict without opt-out: where the name does not exist,
-- and the wildcard's RRset is not given (RFC 5155, 7.2.2 and 7.2.5)
abbrev pub denies_star : Verdict → Bool
denies_star NoName = true
denies_star StarNoType = true
denies_star _ = false

-- the names that the proof of an open name speaks of, with the wildcard or without it
abbrev pub open_spoken : Zone → Mode → Name → Bool → List Name
open_spoken z mode q star = let e = kept_ancestor z (optout_of mode) q in e ∷ next_closer e q ∷ (if star then star_under e ∷ [] else [])

-- the names that the proof of a verdict on a name in lower case speaks of, beside the verdict without opt-out (RFC 4035, 3.1.3;
-- RFC 5155, 7.2)
abbrev pub spoken : Zone → Mode → Name → Verdict → Verdict → List Name
spoken z mode q told (Records ds) = []
spoken z mode q told NoType = q ∷ []
spoken z mode q told NoName = let e = kept_ancestor z (optout_of mode) q in elim mode [ Nsec ↦ q ∷ star_under e ∷ [] | Nsec3 iterations salt optout ↦ e ∷ next_closer e q ∷ star_under e ∷ [] ]
spoken z mode q told (StarRecords ds) = let e = kept_ancestor z (optout_of mode) q in elim mode [ Nsec ↦ q ∷ [] | Nsec3 iterations salt optout ↦ next_closer e q ∷ [] ]
spoken z mode q told StarNoType = let e = kept_ancestor z (optout_of mode) q in elim mode [ Nsec ↦ q ∷ star_under e ∷ [] | Nsec3 iterations salt optout ↦ e ∷ next_closer e q ∷ star_under e ∷ [] ]
spoken z mode q told Delegated = elim (cut z q) [ None ↦ [] | Some c ↦ c ∷ [] ]
spoken z mode q told Open = open_spoken z mode q (denies_star told)
spoken z mode q told Unsigned = []

-- the record of a name of the NSEC chain
abbrev pub link_of : Zone → Name → Link
link_of z o = record { owner = o; next = nsec_next z o; bits = bitmap (nsec_types z true o) }

-- it matches a name or covers it
abbrev pub link_speaks : Zone → Name → Name → Bool
link_speaks z o q = labels_eq o q || covers (apex_of z) o (nsec_next z o) q

-- the record of a name of the NSEC3 chain
abbrev pub hash_link_of : Zone → (Name → List ℕ) → ℕ → List ℕ → Bool → Name → HashLink
hash_link_of z hash iterations salt optout o = record {
  owner = hash o;
  next = nsec3_next hash z optout o;
  bits = bitmap (nsec3_types z true o);
  opt_out = optout;
  iterations = iterations;
  salt = salt;
}

abbrev pub hash_link_speaks : Zone → (Name → List ℕ) → Bool → Name → Name → Bool
hash_link_speaks z hash optout o q = bytes_eq (hash o) (hash q) || hash_covers (hash o) (nsec3_next hash z optout o) (hash q)

-- the RRset that the answer has of the question's name and type: the zone's own, or a wildcard's; the other RRsets of an answer
-- are of other names or types, or not signed
abbrev pub own_star : Zone → Name → Verdict → Option Rrset
own_star z q (StarRecords ds) = elim (ce z (low q)) [ None ↦ None | Some e ↦ Some (record { datas = ds; labels = length e }) ]
own_star z q _ = None

abbrev pub own_rrset : Zone → Name → ℕ → Verdict → Option Rrset
own_rrset z q t (Records ds) = Some (record { datas = ds; labels = label_count q })
own_rrset z q t (StarRecords ds) = own_star z q (StarRecords ds)
own_rrset z q t Open = own_star z q (verdict z false q t)
own_rrset z q t _ = None

-- the records of the chain that speak for one of some names, each once
abbrev pub own_links : Zone → Mode → List Name → List Link
own_links z Nsec qs = map (link_of z) (filter (λ o. list_any (link_speaks z o) qs) (nsec_names z))
own_links z (Nsec3 iterations salt optout) qs = []

abbrev pub own_hash_links : Zone → (Name → List ℕ) → Mode → List Name → List HashLink
own_hash_links z hash Nsec qs = []
own_hash_links z hash (Nsec3 iterations salt optout) qs =
    map (hash_link_of z hash iterations salt optout) (filter (λ o. list_any (hash_link_speaks z hash optout o) qs) (hashed_names hash z optout))

abbrev pub own_facts : Zone → (Name → List ℕ) → Mode → Name → ℕ → Facts
own_facts z hash mode q t =
    let v = verdict z (optout_of mode) q t in
    let qs = spoken z mode (low q) (verdict z false q t) v in
    record { rrset = own_rrset z q t v; links = own_links z mode qs; hash_links = own_hash_links z hash mode qs }
