-- A zone, and what it says of a name and a type (RFC 1034, 4.3.2; RFC 4592; RFC 5155, 7.2).
use Rattle.std.specs.Prelude.{ℕ, Bool, true, false, not, ◌&&◌, ◌||◌, ◌==◌, List, [], ◌∷◌, map, filter, Option, Some, None, is_none, if◌then◌else◌}
use Rattle.std.specs.List.{list_any}
use Rattle.std.specs.Ordering.{nat_cmp}
use Rattle.std.specs.Cmp.Lexicographic.{slice_cmp}
use Rattle.definitions.specs.Sorting.{put_by, sort_by}
use Rattle.definitions.specs.Name.{Name, labels_eq, at_or_above, strictly_above, low}

-- a record: its owner as it is spelled, type, canonical data
pub record Rr : Type 0 where
  pub spelled : Name
  pub rtype : ℕ
  pub bytes : List ℕ

-- the owner, in lower case: in which case it is spelled means nothing (RFC 4343, 3)
abbrev pub owner_of : Rr → Name
owner_of r = low r.spelled

-- the order and repetition of the records mean nothing, nor does the case of the zone's name
pub record Zone : Type 0 where
  pub name : Name
  pub records : List Rr

-- the apex, in lower case
abbrev pub apex_of : Zone → Name
apex_of z = low z.name

-- the owner of each record
abbrev pub owners : Zone → List Name
owners z = map owner_of z.records

-- a record has this owner and type
abbrev pub is_of : Name → ℕ → Rr → Bool
is_of q t r = labels_eq (owner_of r) q && (r.rtype == t)

-- the zone has a record of this owner and type
abbrev pub has : Zone → Name → ℕ → Bool
has z q t = list_any (is_of q t) z.records

-- a delegation: NS strictly below the apex (RFC 1034, 4.2)
abbrev pub is_delegation : Zone → Name → Bool
is_delegation z q = has z q 2 && strictly_above (apex_of z) q

-- the topmost delegation at or above a name
abbrev pub cut : Zone → Name → Option Name
cut z [] = None
cut z (l ∷ q) =
    let here = if is_delegation z (l ∷ q) then Some (l ∷ q) else None in
    elim (cut z q) [ None ↦ here | Some c ↦ Some c ]

-- the topmost delegation strictly above a name
abbrev pub cut_above : Zone → Name → Option Name
cut_above z [] = None
cut_above z (l ∷ q) = cut z q

-- at or below the apex, and not strictly below a delegation
abbrev pub is_live : Zone → Name → Bool
is_live z o = at_or_above (apex_of z) o && is_none (cut_above z o)

-- live; where unsigned delegations are excluded, those without DS are left out (RFC 5155, 6)
abbrev pub is_kept : Zone → Bool → Name → Bool
is_kept z excluding o = is_live z o && not (excluding && is_delegation z o && not (has z o 43))

abbrev pub kept_owners : Zone → Bool → List Name
kept_owners z excluding = filter (is_kept z excluding) (owners z)

-- at or below the apex, and at or above a kept owner; where nothing is excluded: a live one
abbrev pub kept : Zone → Bool → Name → Bool
kept z excluding q = at_or_above (apex_of z) q && list_any (at_or_above q) (kept_owners z excluding)

-- a name exists: empty non-terminals too (RFC 4592, 2.2)
abbrev pub exists : Zone → Name → Bool
exists z q = kept z false q

-- the closest encloser of a name that does not exist: its longest ancestor that does (RFC 4592, 3.3.1)
abbrev pub ce : Zone → Name → Option Name
ce z [] = None
ce z (l ∷ q) = if exists z q then Some q else ce z q

-- the wildcard name under an ancestor (RFC 4592, 2.1.1)
abbrev pub star_under : Name → Name
star_under e = (42 ∷ []) ∷ e

-- a kept delegation stands strictly above a name
abbrev pub kept_cut_above : Zone → Bool → Name → Bool
kept_cut_above z excluding [] = false
kept_cut_above z excluding (l ∷ q) = (is_delegation z q && is_kept z excluding q) || kept_cut_above z excluding q

-- octets in their place among ascending ones, unless they are there
abbrev pub put_datum : List ℕ → List (List ℕ) → List (List ℕ)
put_datum d ds = put_by (slice_cmp nat_cmp) d ds

-- octets in ascending order, each once
abbrev pub sorted_data : List (List ℕ) → List (List ℕ)
sorted_data ds = sort_by (slice_cmp nat_cmp) ds

-- the data of an owner and a type, ascending, each once
abbrev pub data_among : List Rr → Name → ℕ → List (List ℕ)
data_among rs q t = sorted_data (map (λ r. r.bytes) (filter (is_of q t) rs))

abbrev pub data_at : Zone → Name → ℕ → List (List ℕ)
data_at z q t = data_among z.records q t

-- what a zone says: the data; no such type; no such name; by a wildcard, the data or no such type; a delegation; not
-- told under opt-out; not signed
pub data Verdict : Type 0 where
  Records : List (List ℕ) → Verdict
  NoType : Verdict
  NoName : Verdict
  StarRecords : List (List ℕ) → Verdict
  StarNoType : Verdict
  Delegated : Verdict
  Open : Verdict
  Unsigned : Verdict

abbrev pub at_existing : Zone → Name → ℕ → Verdict
at_existing z q t = if has z q t then Records (data_at z q t) else NoType

abbrev pub at_star : Zone → Name → ℕ → Verdict
at_star z s t = if exists z s then (if has z s t then StarRecords (data_at z s t) else StarNoType) else NoName

-- opt-out leaves a name open: it is not kept, and no kept delegation stands above it
abbrev pub is_open : Zone → Bool → Name → Bool
is_open z optout q = optout && not (kept z optout q) && not (kept_cut_above z optout q)

-- the verdict on a name and a type, the first case that applies. Under opt-out unsigned delegations are excluded.
abbrev pub verdict : Zone → Bool → Name → ℕ → Verdict
verdict z optout name t =
    let q = low name in
    elim (is_open z optout q) [
      | true ↦ Open
      | false ↦ elim (cut z q) [
        | Some c ↦ if labels_eq c q && (t == 43) then at_existing z q 43 else Delegated
        | None ↦ elim (exists z q) [
          | true ↦ at_existing z q t
          | false ↦ elim (ce z q) [ None ↦ NoName | Some e ↦ at_star z (star_under e) t ]
        ]
      ]
    ]
