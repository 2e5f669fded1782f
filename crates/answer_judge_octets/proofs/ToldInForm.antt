-- What tells the RRsets of a zone is in form where the zone's data are canonical.
use Rattle.std.proofs.Common.{◌≡◌, ℕ, ◌+◌, ◌≤◌, Bool, true, false, ◌&&◌, List, [], ◌∷◌, ◌++◌, length, map, Option, Some, None, Result, Ok, Err, inl, inr, refl, sym, ap, subst, ◌∙◌}
use Rattle.std.specs.Prelude.{◌==◌, nat_eq, if◌then◌else◌}
use Rattle.std.specs.List.{AllByRecursion, filter, list_all, list_any}
use Rattle.std.specs.Ordering.{nat_cmp}
use Rattle.std.specs.Cmp.Lexicographic.{slice_cmp}
use Rattle.std.specs.Str.{bytes_eq}
use Rattle.std.proofs.lemmas.Bool.{and_from, and_parts, cases_Bool, eqb-true, or_left, or_parts}
use Rattle.std.proofs.lemmas.List.Folds.{list_all-append}
use Rattle.definitions.specs.Limits.{pointer_limit}
use Rattle.definitions.specs.Name.{Name, labels_eq, low}
use Rattle.definitions.specs.Dnskey.{Dnskey}
use Rattle.definitions.specs.Zone.{Delegated, NoName, NoType, Open, Records, Rr, StarNoType, StarRecords, Unsigned, Verdict, ce, cut, data_at, has, is_of, owner_of, star_under, verdict}
use Rattle.definitions.specs.ZoneChain.{Mode, Nsec, Nsec3, nsec3_data, optout_of, parameters_of}
use Rattle.messages.specs.declared.error.MessageError.{MessageError}
use Rattle.messages.specs.Message.{Asked, Message, Spelled, behind, canonical_data, data_of, ns_data, nsec3_at, nsec_data, records_at, soa_data}
use Rattle.messages.specs.HandedRr.{HandedRr}
use Rattle.messages.proofs.Lists.{all_more, all_sorted}
use Rattle.messages.proofs.MessageParts.{Stands, each_stands, headed}
use Rattle.messages_canonical.specs.Canonical.{canonical_rdata}
use Rattle.messages_canonical.specs.Forms.{is_among}
use Rattle.messages_canonical.specs.InForm.{IsFormOf, IsInForm, are_in_form, has_form, is_in_form, is_record_in_form, read_by_name}
use Rattle.messages_canonical.proofs.Anywhere.{stay_in_form, without_names}
use Rattle.answer_terms.specs.Accepting.{record_cmp, rr_of, sorted_records}
use Rattle.answer_terms.specs.Served.{ServedRrset, Served, ahead, ahead_open, answer_groups, by_tag, chain_names, chain_record, expanded, if_any, key_data, key_group, proofs_of, rrset, soa, speaks_for, spoken, unsigned_ns}
use Rattle.answer_terms.specs.Told.{AreRecords, AreSignatures, IsRecord, Tells, TellsGroups}
use Rattle.answer_judge_octets.specs.Laws.{ToldAreInForm, is_group_in_form, is_zone_in_form}

-- ---- records that were read lie within the message

abbrev Inside : List ℕ → Spelled → Type 0
Inside m r = behind r ≤ length m

all_inside : (n : ℕ) (m : List ℕ) (p : ℕ) (rs : List Spelled) → records_at n pointer_limit m p ≡ Ok rs → AllByRecursion (Inside m) rs
all_inside n m p rs h = all_more (Stands pointer_limit m) (Inside m) rs (λ r s. subst (λ e. e ≤ length m) s.placed.limit s.placed.inside) (each_stands n pointer_limit m p rs h)

-- ---- one record

some_is : (a b : List ℕ) → Some a ≡ Some b → a ≡ b
some_is a b e = cc

abbrev else_data : List ℕ → Spelled → Bool → Option (List ℕ)
else_data m r b = elim b [ true ↦ elim (nsec3_at m r) [ None ↦ None | Some n ↦ Some (data_of m r) ] | false ↦ Some (data_of m r) ]

hashed_or_other : (m : List ℕ) (r : Spelled) (b : Bool) (d : List ℕ) → else_data m r b ≡ Some d → data_of m r ≡ d
hashed_or_other m r true d h = go (nsec3_at m r) h
  where
    go : {A : Type 0} (o : Option A) → (elim o as (λ _. Option (List ℕ)) [ None ↦ None | Some n ↦ Some (data_of m r) ]) ≡ Some d → data_of m r ≡ d
    go None e = cc
    go (Some n) e = some_is (data_of m r) d e
hashed_or_other m r false d h = some_is (data_of m r) d h

-- by whether the type is NS, SOA, NSEC or NSEC3
abbrev by_type : List ℕ → Spelled → Bool → Bool → Bool → Bool → Option (List ℕ)
by_type m r is_ns is_soa is_nsec is_nsec3 = elim is_ns [
  | true ↦ ns_data pointer_limit m r
  | false ↦ elim is_soa [ true ↦ soa_data pointer_limit m r | false ↦ elim is_nsec [ true ↦ nsec_data pointer_limit m r | false ↦ else_data m r is_nsec3 ] ]
]

-- data of another type are read as they stand
stands_so : (m : List ℕ) (r : Spelled) (d : List ℕ) → is_among r.rtype read_by_name ≡ false → canonical_data pointer_limit m r ≡ Some d → data_of m r ≡ d
stands_so m r d other h =
    let a = or_parts (r.rtype == 2) _ other in
    let b = or_parts (r.rtype == 6) _ a.1 in
    let c = or_parts (r.rtype == 46) _ b.1 in
    let e = or_parts (r.rtype == 47) _ c.1 in
    hashed_or_other m r (nat_eq r.rtype 50) d ((λ i. by_type m r (sym a.0 i) (sym b.0 i) (sym e.0 i) (nat_eq r.rtype 50)) ∙ h)

record_in_form : (m : List ℕ) (r : Spelled) (owner : Name) (t : ℕ) (d : List ℕ) → Inside m r → has_form t d ≡ true → IsRecord pointer_limit m r owner t d → is_in_form pointer_limit m r ≡ true
record_in_form m r owner t d inside h is =
    elim (cases_Bool (is_among r.rtype read_by_name)) [
      | inl among ↦ or_left (is_among r.rtype read_by_name) (bytes_eq (canonical_rdata pointer_limit m r) (data_of m r)) among
      | inr other ↦
          let same : data_of m r ≡ d = stands_so m r d other is.data_is in
          stay_in_form m r inside ((λ i. has_form (is.type_is i) (same i)) ∙ h)
    ]

signature_in_form : (m : List ℕ) (r : Spelled) → r.rtype ≡ 46 → is_in_form pointer_limit m r ≡ true
signature_in_form m r e = or_left (is_among r.rtype read_by_name) (bytes_eq (canonical_rdata pointer_limit m r) (data_of m r)) (ap (λ t. is_among t read_by_name) e)

-- ---- groups of records

own_in_form : (m : List ℕ) (rs : List Spelled) (g : ServedRrset) (ds : List (List ℕ)) → AllByRecursion (Inside m) rs → list_all (has_form g.rtype) ds ≡ true → AreRecords pointer_limit m rs g ds → are_in_form pointer_limit m rs ≡ true
own_in_form m [] g ds inside h are = refl
own_in_form m (r ∷ rs) g [] inside h are = absurd are
own_in_form m (r ∷ rs) g (d ∷ ds) inside h are =
    let k = and_parts (has_form g.rtype d) (list_all (has_form g.rtype) ds) h in
    and_from (is_in_form pointer_limit m r) (are_in_form pointer_limit m rs) (record_in_form m r g.owner g.rtype d inside.0 k.0 are.0) (own_in_form m rs g ds inside.1 k.1 are.1)

signatures_in_form : (v : Dnskey → List ℕ → List ℕ → Bool) (m : List ℕ) (rs : List Spelled) (apex : Name) (at life : ℕ) (g : ServedRrset) (keys : List Dnskey) → AreSignatures v pointer_limit m rs apex at life g keys → are_in_form pointer_limit m rs ≡ true
signatures_in_form v m [] apex at life g keys h = refl
signatures_in_form v m (r ∷ rs) apex at life g [] h = absurd h
signatures_in_form v m (r ∷ rs) apex at life g (key ∷ keys) h =
    and_from (is_in_form pointer_limit m r) (are_in_form pointer_limit m rs) (signature_in_form m r h.0.type_is) (signatures_in_form v m rs apex at life g keys h.1)

all_split : (P : Spelled → Type 0) (xs ys : List Spelled) → AllByRecursion P (xs ++ ys) → AllByRecursion P xs × AllByRecursion P ys
all_split P [] ys h = (tt, h)
all_split P (x ∷ xs) ys h = let more = all_split P xs ys h.1 in ((h.0, more.0), more.1)

both_in_form : (m : List ℕ) (xs ys : List Spelled) → are_in_form pointer_limit m xs ≡ true → are_in_form pointer_limit m ys ≡ true → are_in_form pointer_limit m (xs ++ ys) ≡ true
both_in_form m xs ys a b = list_all-append (is_in_form pointer_limit m) xs ys ∙ and_from (are_in_form pointer_limit m xs) (are_in_form pointer_limit m ys) a b

groups_in_form : (v : Dnskey → List ℕ → List ℕ → Bool) (m : List ℕ) (rs : List Spelled) (apex : Name) (at life : ℕ) (keys : List Dnskey) (gs : List ServedRrset) → AllByRecursion (Inside m) rs → AllByRecursion (λ g. is_group_in_form g ≡ true) gs → TellsGroups v pointer_limit m rs apex at life keys gs → are_in_form pointer_limit m rs ≡ true
groups_in_form v m rs apex at life keys [] inside all tells = ap (are_in_form pointer_limit m) tells
groups_in_form v m rs apex at life keys (g ∷ gs) inside all tells =
    let own = tells.0 in
    let signatures = tells.1 in
    let rest = tells.2 in
    let there : AllByRecursion (Inside m) (own ++ signatures ++ rest) = subst (AllByRecursion (Inside m)) tells.3 inside in
    let parts = all_split (Inside m) (own ++ signatures) rest there in
    let front = all_split (Inside m) own signatures parts.0 in
    ap (are_in_form pointer_limit m) tells.3
    ∙ both_in_form m (own ++ signatures) rest
    (both_in_form m own signatures (own_in_form m own g g.datas front.0 all.0 tells.4) (signatures_in_form v m signatures apex at life g (if g.signed then keys else []) tells.5))
    (groups_in_form v m rest apex at life keys gs parts.1 all.1 tells.6)

-- ---- the RRsets of a zone

abbrev InForm : ServedRrset → Type 0
InForm g = is_group_in_form g ≡ true

all_data : (t : ℕ) (q : Name) (rs : List Rr) → list_all (λ r. has_form r.rtype r.bytes) rs ≡ true → AllByRecursion (λ d. has_form t d ≡ true) (map (λ r. r.bytes) (filter (is_of q t) rs))
all_data t q [] h = tt
all_data t q (r ∷ rs) h =
    let k = and_parts (has_form r.rtype r.bytes) (list_all (λ r. has_form r.rtype r.bytes) rs) h in
    go (is_of q t r) refl k.0 (all_data t q rs k.1)
  where
    go : (b : Bool) → is_of q t r ≡ b → has_form r.rtype r.bytes ≡ true → AllByRecursion (λ d. has_form t d ≡ true) (map (λ r. r.bytes) (filter (is_of q t) rs))
        → AllByRecursion (λ d. has_form t d ≡ true) (map (λ r. r.bytes) (if b then r ∷ filter (is_of q t) rs else filter (is_of q t) rs))
    go false is one more = more
    go true is one more =
        let type : r.rtype ≡ t = eqb-true r.rtype t (and_parts (labels_eq (owner_of r) q) (r.rtype == t) is).1 in
        (ap (λ x. has_form x r.bytes) (sym type) ∙ one, more)

all_as_test : (t : ℕ) (ds : List (List ℕ)) → AllByRecursion (λ d. has_form t d ≡ true) ds → list_all (has_form t) ds ≡ true
all_as_test t [] h = refl
all_as_test t (d ∷ ds) h = and_from (has_form t d) (list_all (has_form t) ds) h.0 (all_as_test t ds h.1)

all_front : {A : Type 0} (P : A → Type 0) (xs ys : List A) → AllByRecursion P xs → AllByRecursion P ys → AllByRecursion P (xs ++ ys)
all_front P [] ys p q = q
all_front P (x ∷ xs) ys p q = (p.0, all_front P xs ys p.1 q)

module _ (s : Served) (zone : is_zone_in_form s.zone ≡ true) where
  rrset_in_form : (o : Name) (t : ℕ) → InForm (rrset s o t)
  rrset_in_form o t = all_as_test t (data_at s.zone o t) (all_sorted (λ d. has_form t d ≡ true) (slice_cmp nat_cmp) (map (λ r. r.bytes) (filter (is_of o t) s.zone.records)) (all_data t o s.zone.records zone))

  chain_in_form : (o : Name) → InForm (chain_record s o)
  chain_in_form o = go s.mode refl
    where
      go : (mode : Mode) → s.mode ≡ mode → InForm (chain_record s o)
      go Nsec e = ap (λ m. is_group_in_form (chain_record (record s { mode = m }) o)) e
      go (Nsec3 iterations salt optout) e =
          let d = nsec3_data s.hash s.zone (parameters_of (Nsec3 iterations salt optout)) o in
          ap (λ m. is_group_in_form (chain_record (record s { mode = m }) o)) e ∙ and_from (has_form 50 d) true (without_names 50 d refl) refl

  proofs_in_form : (os : List Name) → AllByRecursion InForm (map (chain_record s) os)
  proofs_in_form [] = tt
  proofs_in_form (o ∷ os) = (chain_in_form o, proofs_in_form os)

  if_any_in_form : (c : Name) (t : ℕ) → AllByRecursion InForm (if_any s c t)
  if_any_in_form c t = go (has s.zone c t)
    where
      go : (b : Bool) → AllByRecursion InForm (if b then rrset s c t ∷ [] else [])
      go true = (rrset_in_form c t, tt)
      go false = tt

  by_star : (q : Name) (t : ℕ) (o : Option Name) → AllByRecursion InForm (elim o [ None ↦ [] | Some e ↦ expanded s (star_under e) q t ])
  by_star q t None = tt
  by_star q t (Some e) = (rrset_in_form (star_under e) t, tt)

  by_cut : (q : Name) (t : ℕ) (o : Option Name) → AllByRecursion InForm (elim o [ None ↦ soa s ∷ [] | Some c ↦ if labels_eq c (low q) && (t == 43) then soa s ∷ [] else unsigned_ns s c ])
  by_cut q t None = (rrset_in_form (low s.zone.name) 6, tt)
  by_cut q t (Some c) = go (labels_eq c (low q) && (t == 43))
    where
      go : (b : Bool) → AllByRecursion InForm (if b then soa s ∷ [] else unsigned_ns s c)
      go true = (rrset_in_form (low s.zone.name) 6, tt)
      go false = (rrset_in_form c 2, tt)

  open_in_form : (q : Name) (t : ℕ) (v : Verdict) → AllByRecursion InForm (ahead_open s q t v)
  open_in_form q t (StarRecords ds) = by_star q t (ce s.zone (low q))
  open_in_form q t (Records ds) = by_cut q t (cut s.zone (low q))
  open_in_form q t NoType = by_cut q t (cut s.zone (low q))
  open_in_form q t NoName = by_cut q t (cut s.zone (low q))
  open_in_form q t StarNoType = by_cut q t (cut s.zone (low q))
  open_in_form q t Delegated = by_cut q t (cut s.zone (low q))
  open_in_form q t Open = by_cut q t (cut s.zone (low q))
  open_in_form q t Unsigned = by_cut q t (cut s.zone (low q))

  delegated : (o : Option Name) → AllByRecursion InForm (elim o [ None ↦ [] | Some c ↦ unsigned_ns s c ++ if_any s c 43 ])
  delegated None = tt
  delegated (Some c) = all_front InForm (unsigned_ns s c) (if_any s c 43) (rrset_in_form c 2, tt) (if_any_in_form c 43)

  ahead_in_form : (q : Name) (t : ℕ) (v : Verdict) → AllByRecursion InForm (ahead s q t v)
  ahead_in_form q t (Records ds) = (rrset_in_form (low q) t, tt)
  ahead_in_form q t NoType = (rrset_in_form (low s.zone.name) 6, tt)
  ahead_in_form q t NoName = (rrset_in_form (low s.zone.name) 6, tt)
  ahead_in_form q t (StarRecords ds) = by_star q t (ce s.zone (low q))
  ahead_in_form q t StarNoType = (rrset_in_form (low s.zone.name) 6, tt)
  ahead_in_form q t Delegated = delegated (cut s.zone (low q))
  ahead_in_form q t Open = open_in_form q t (verdict s.zone false q t)
  ahead_in_form q t Unsigned = tt

  answer_in_form : (q : Name) (t : ℕ) → AllByRecursion InForm (answer_groups s q t)
  answer_in_form q t =
      let v = verdict s.zone (optout_of s.mode) q t in
      all_front InForm (ahead s q t v) (proofs_of s (spoken s (low q) (verdict s.zone false q t) v)) (ahead_in_form q t v) (proofs_in_form (filter (λ o. list_any (speaks_for s o) (spoken s (low q) (verdict s.zone false q t) v)) (chain_names s)))

-- ---- the whole

abbrev FormOf : List ℕ → List ℕ → Result Message MessageError → Type 0
FormOf m octets r = elim r [ Err fault ↦ octets ≡ m | Ok read ↦ IsFormOf (are_in_form pointer_limit m read.records) m octets ]

told_in_form : (v : Dnskey → List ℕ → List ℕ → Bool) (apex : Name) (at life : ℕ) (keys : List Dnskey) (asked : Asked) (groups : List ServedRrset) (bytes judged : List ℕ) → AllByRecursion InForm groups → Tells v pointer_limit apex at life keys asked groups bytes → IsInForm bytes judged → judged ≡ bytes
told_in_form v apex at life keys asked groups bytes judged all tells is =
    let h = headed pointer_limit bytes tells.read tells.reads in
    let inside = all_inside (h.answers + h.authority + h.additional) bytes h.behind tells.read.records h.records in
    let form = groups_in_form v bytes tells.read.records apex at life keys groups inside all tells.groups_are in
    let whole : IsFormOf (are_in_form pointer_limit bytes tells.read.records) bytes judged = subst (FormOf bytes judged) tells.reads is in
    subst (λ b. IsFormOf b bytes judged) form whole

key_data_in_form : (ds : List (List ℕ)) → list_all (has_form 48) ds ≡ true
key_data_in_form ds = all_as_test 48 ds (all_of ds)
  where
    all_of : (ds : List (List ℕ)) → AllByRecursion (λ d. has_form 48 d ≡ true) ds
    all_of [] = tt
    all_of (d ∷ ds) = (without_names 48 d refl, all_of ds)

-- ---- the records that a zone is made of

records_as_test : (rs : List HandedRr) → AllByRecursion (λ r. is_record_in_form r ≡ true) rs → list_all (λ r. has_form r.rtype r.bytes) (map rr_of rs) ≡ true
records_as_test [] h = refl
records_as_test (r ∷ rs) h = ap (λ b. b && list_all (λ r. has_form r.rtype r.bytes) (map rr_of rs)) h.0 ∙ records_as_test rs h.1

each_record : (rs : List HandedRr) → list_all is_record_in_form rs ≡ true → AllByRecursion (λ r. is_record_in_form r ≡ true) rs
each_record [] h = tt
each_record (r ∷ rs) h = let parts = and_parts (is_record_in_form r) (list_all is_record_in_form rs) h in (parts.0, each_record rs parts.1)

pub told : ToldAreInForm
told = record {
  answers = λ v s apex signers at life asked bytes judged zone tells is.
      told_in_form v apex at life (by_tag signers) asked (answer_groups s asked.name asked.rtype) bytes judged (answer_in_form s zone asked.name asked.rtype) tells is;
  keys = λ v ttl apex present signers at life bytes judged tells is.
      told_in_form v apex at life (by_tag signers) (record { name = apex; rtype = 48; class = 1 }) (key_group apex ttl present ∷ []) bytes judged (key_data_in_form (key_data present), tt) tells is;
  records = λ apex rs all. records_as_test (sorted_records rs) (all_sorted (λ r. is_record_in_form r ≡ true) record_cmp rs (each_record rs all));
}
