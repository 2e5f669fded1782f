-- What a name owns among a zone's records: of these, types, TTLs, spellings and RRsets are those of the whole zone.
use Rattle.std.proofs.Common.{◌≡◌, ℕ, Bool, true, false, ◌&&◌, ◌||◌, List, [], ◌∷◌, map, Option, Some, None, refl, sym, ap, ◌∙◌, eqb, cond}
use Rattle.std.specs.Prelude.{MatchOption, if◌then◌else◌, nat_eq, min, Vec}
use Rattle.std.specs.declared.alloc.Global.{Global}
use Rattle.std.specs.List.{AllByRecursion, filter, find, list_any}
use Rattle.std.specs.Option.{is_some, option_map}
use Rattle.definitions.specs.Name.{Name, low, same}
use Rattle.plain.specs.declared.record.Record.{Record}
use Rattle.plain.specs.declared.zone_data.ZoneRecordData.{ZoneRecordData}
use Rattle.denial_sorted.specs.Owned.{is_owned}
use Rattle.messages.specs.HandedRr.{HandedRr, handed_of}
use Rattle.answer_terms.specs.GroupView.{all_spelled_by}
use Rattle.answer_terms.specs.Served.{chain_ttl, chain_ttl_of, minimum_of, owner_among, ttl_among, written_of_handed}
use Rattle.answer_terms.specs.ZoneView.{is_of}
use Rattle.answer_terms.proofs.ZoneData.{filter-map}
use Rattle.answer_zone_records.specs.GroupRecords.{HoldsRrset}
use Rattle.answer_zone_records.specs.OwnedRecords.{IsInternet, handed_in, is_of_type, owned_by, ttl_in}
use Rattle.answer_zone_records.specs.declared.group.GroupRecord.{GroupRecord}

-- ---- found among sorted records

module _ {O : Type 0} where
  same_class : (q : Name) (rs : List (Record Name (ZoneRecordData O Name))) → AllByRecursion IsInternet rs → filter (is_owned (λ n. n) 1 q) rs ≡ filter (λ r. same r.owner q) rs
  same_class q [] h = refl
  same_class q (r ∷ rs) h = λ i. cond (nat_eq (h.0 i) 1 && same r.owner q) (r ∷ same_class q rs h.1 i) (same_class q rs h.1 i)

  taken : (o : Option (List (Record Name (ZoneRecordData O Name)))) (ws : List (Record Name (ZoneRecordData O Name))) → MatchOption o (ws ≡ []) (λ g. g ≡ ws) → handed_in o ≡ map handed_of ws
  taken None ws h = ap (map handed_of) (sym h)
  taken (Some g) ws h = ap (map handed_of) h

  pub found_is : (q : Name) (rs : List (Record Name (ZoneRecordData O Name))) (o : Option (List (Record Name (ZoneRecordData O Name)))) → AllByRecursion IsInternet rs
      → MatchOption o (filter (is_owned (λ n. n) 1 q) rs ≡ []) (λ g. g ≡ filter (is_owned (λ n. n) 1 q) rs) → handed_in o ≡ owned_by q (map handed_of rs)
  found_is q rs o h m =
      taken o (filter (is_owned (λ n. n) 1 q) rs) m
      ∙ ap (map handed_of) (same_class q rs h)
      ∙ sym (filter-map (λ (r : HandedRr). same r.owner q) handed_of rs)

-- ---- the first of a type

some_found : {A : Type 0} (p : A → Bool) (xs : List A) → is_some (find p xs) ≡ list_any p xs
some_found p [] = refl
some_found p (x ∷ xs) = elim (p x) as (λ b. is_some (cond b (Some x) (find p xs)) ≡ (b || list_any p xs)) [ true ↦ refl | false ↦ some_found p xs ]

some_mapped : {A B : Type 0} (f : A → B) (o : Option A) → is_some o ≡ is_some (option_map f o)
some_mapped f None = refl
some_mapped f (Some x) = refl

pub has_first : {A B : Type 0} (f : A → B) (p : B → Bool) (xs : List B) (o : Option A) → option_map f o ≡ find p xs → is_some o ≡ list_any p xs
has_first f p xs o e = some_mapped f o ∙ ap is_some e ∙ some_found p xs

-- ---- of one owner

pub any_owned : (q : Name) (t : ℕ) (rs : List HandedRr) → list_any (is_of_type t) (owned_by q rs) ≡ list_any (is_of q t) rs
any_owned q t [] = refl
any_owned q t (r ∷ rs) =
    elim (same r.owner q) as (λ b. list_any (is_of_type t) (cond b (r ∷ owned_by q rs) (owned_by q rs)) ≡ ((b && eqb r.rtype t) || list_any (is_of q t) rs)) [
      | true ↦ ap (λ x. eqb r.rtype t || x) (any_owned q t rs)
      | false ↦ any_owned q t rs
    ]

pub ttl_owned : (q : Name) (t : ℕ) (rs : List HandedRr) → ttl_in (find (is_of_type t) (owned_by q rs)) ≡ ttl_among rs (low q) t
ttl_owned q t [] = refl
ttl_owned q t (r ∷ rs) =
    elim (same r.owner q) as (λ b. ttl_in (find (is_of_type t) (cond b (r ∷ owned_by q rs) (owned_by q rs))) ≡ (if b && eqb r.rtype t then r.ttl else ttl_among rs (low q) t)) [
      | true ↦ elim (eqb r.rtype t) as (λ b. ttl_in (cond b (Some r) (find (is_of_type t) (owned_by q rs))) ≡ (if b then r.ttl else ttl_among rs (low q) t)) [
        | true ↦ refl
        | false ↦ ttl_owned q t rs
      ]
      | false ↦ ttl_owned q t rs
    ]

-- the owner of a record, if there is one
abbrev pub owner_or : Name → Option HandedRr → Name
owner_or o None = o
owner_or o (Some r) = r.owner

pub owner_owned : (q : Name) (t : ℕ) (rs : List HandedRr) → owner_or (low q) (find (is_of_type t) (owned_by q rs)) ≡ owner_among rs (low q) t
owner_owned q t [] = refl
owner_owned q t (r ∷ rs) =
    elim (same r.owner q) as (λ b. owner_or (low q) (find (is_of_type t) (cond b (r ∷ owned_by q rs) (owned_by q rs))) ≡ (if b && eqb r.rtype t then r.owner else owner_among rs (low q) t)) [
      | true ↦ elim (eqb r.rtype t) as (λ b. owner_or (low q) (cond b (Some r) (find (is_of_type t) (owned_by q rs))) ≡ (if b then r.owner else owner_among rs (low q) t)) [
        | true ↦ refl
        | false ↦ owner_owned q t rs
      ]
      | false ↦ owner_owned q t rs
    ]

-- the TTL of a chain by an SOA record, if there is one
abbrev pub chain_ttl_by : Option HandedRr → ℕ
chain_ttl_by None = 0
chain_ttl_by (Some r) = min r.ttl (minimum_of r.bytes)

pub chain_ttl_owned : (apex : Name) (rs : List HandedRr) → chain_ttl_by (find (is_of_type 6) (owned_by apex rs)) ≡ chain_ttl apex rs
chain_ttl_owned apex [] = refl
chain_ttl_owned apex (r ∷ rs) =
    let soas : List HandedRr = filter (λ (r : HandedRr). same r.owner apex && eqb r.rtype 6) rs in
    elim (same r.owner apex) as (λ b. chain_ttl_by (find (is_of_type 6) (cond b (r ∷ owned_by apex rs) (owned_by apex rs))) ≡ chain_ttl_of (cond (b && eqb r.rtype 6) (r ∷ soas) soas)) [
      | true ↦ elim (eqb r.rtype 6) as (λ b. chain_ttl_by (cond b (Some r) (find (is_of_type 6) (owned_by apex rs))) ≡ chain_ttl_of (cond b (r ∷ soas) soas)) [
        | true ↦ refl
        | false ↦ chain_ttl_owned apex rs
      ]
      | false ↦ chain_ttl_owned apex rs
    ]

pub none_owned : (q : Name) (rs : List HandedRr) → list_any (λ r. same r.owner q) rs ≡ false → owned_by q rs ≡ []
none_owned q [] h = refl
none_owned q (r ∷ rs) h = go (same r.owner q) h (none_owned q rs)
  where
    go : (b : Bool) → (b || list_any (λ (r : HandedRr). same r.owner q) rs) ≡ false → (list_any (λ (r : HandedRr). same r.owner q) rs ≡ false → owned_by q rs ≡ []) → cond b (r ∷ owned_by q rs) (owned_by q rs) ≡ []
    go true h later = cc
    go false h later = later h

pub all_owned : (q : Name) (rs : List HandedRr) → AllByRecursion (λ r. same r.owner q ≡ true) (owned_by q rs)
all_owned q [] = tt
all_owned q (r ∷ rs) = go (same r.owner q) refl (all_owned q rs)
  where
    go : (b : Bool) → same r.owner q ≡ b → AllByRecursion (λ r. same r.owner q ≡ true) (owned_by q rs) → AllByRecursion (λ r. same r.owner q ≡ true) (cond b (r ∷ owned_by q rs) (owned_by q rs))
    go true e later = (e, later)
    go false e later = later

-- ---- an RRset

-- of records of one owner those of a type
pub typed_alike : (q : Name) (t : ℕ) (rs : List HandedRr) → AllByRecursion (λ r. same r.owner q ≡ true) rs → filter (is_of_type t) rs ≡ filter (is_of q t) rs
typed_alike q t [] h = refl
typed_alike q t (r ∷ rs) h = λ i. cond (sym h.0 i && eqb r.rtype t) (r ∷ typed_alike q t rs h.1 i) (typed_alike q t rs h.1 i)

data_owned : (q : Name) (t : ℕ) (rs : List HandedRr) → filter (is_of q t) (owned_by q rs) ≡ filter (is_of q t) rs
data_owned q t [] = refl
data_owned q t (r ∷ rs) = go (same r.owner q) refl (data_owned q t rs)
  where
    go : (b : Bool) → same r.owner q ≡ b → filter (is_of q t) (owned_by q rs) ≡ filter (is_of q t) rs → filter (is_of q t) (cond b (r ∷ owned_by q rs) (owned_by q rs)) ≡ cond (b && eqb r.rtype t) (r ∷ filter (is_of q t) rs) (filter (is_of q t) rs)
    go true e later = λ i. cond (e i && eqb r.rtype t) (r ∷ later i) (later i)
    go false e later = later

pub rrset_owned : (own : Bool) (q : Name) (t : ℕ) (rs : List HandedRr) (gs : List GroupRecord) (ds : List (Vec ℕ Global)) → HoldsRrset own q t (owned_by q rs) gs ds → HoldsRrset own q t rs gs ds
rrset_owned own q t rs gs ds h = record {
  written = λ owner. h.written owner ∙ ap (λ xs. all_spelled_by own owner (map written_of_handed xs)) (data_owned q t rs);
  canonical = h.canonical ∙ ap (map (λ r. r.bytes)) (data_owned q t rs);
}
