-- The RRsets of the answers of an accepted zone: their owners are names, their data are read, and none is of signatures.
use Rattle.std.proofs.Common.{◌≡◌, ◌⊎◌, ℕ, ◌<◌, Bool, true, false, ◌&&◌, ◌||◌, List, [], ◌∷◌, ◌++◌, map, Option, Some, None, cond, eqb, inl, inr, refl, sym, subst, ap, ◌∙◌, ⊎_elim}
use Rattle.std.proofs.lemmas.Bool.{eqb-true, or_cases}
use Rattle.std.specs.List.{AllByRecursion, filter, list_any}
use Rattle.definitions.specs.Base32hex.{base32hex}
use Rattle.definitions.specs.Name.{IsName, Name, labels_eq, low}
use Rattle.definitions.specs.Zone.{Delegated, NoName, NoType, Open, Records, StarNoType, StarRecords, Unsigned, Verdict, Zone, ce, cut, has, is_open, star_under, verdict}
use Rattle.definitions.specs.ZoneChain.{Mode, Nsec, Nsec3, nsec3_names, optout_of}
use Rattle.messages.specs.Handed.{AreHanded, IsHanded}
use Rattle.messages.specs.HandedRr.{HandedRr, is_meta}
use Rattle.messages.proofs.Lists.{Has, all_fail, all_sorted}
use Rattle.messages.proofs.ZoneNames.{labels_eq-same}
use Rattle.answer_terms.specs.Accepting.{record_cmp, sorted_records, zone_of, zone_with}
use Rattle.answer_terms.specs.Chainable.{HasChain}
use Rattle.answer_terms.specs.Hashing.{Hasher, hash_in}
use Rattle.answer_terms.specs.Served.{ServedRrset, Served, ahead, ahead_open, answer_groups, chain_names, chain_record, if_any, owner_among, proofs_of, rrset, served_of, served_owner, soa, speaks_for, spelled_among, spelled_as, spoken, under, unsigned_ns}
use Rattle.answer_terms.proofs.ZoneCutNames.{cut_name}
use Rattle.answer_terms.proofs.ZoneNaming.{all_filter, chain_named, either, first_name, lower_name, owner_name}
use Rattle.answer_zone_records.specs.AliasFaults.{IsAcceptedWithAliases}
use Rattle.answer_zone_records.proofs.ZoneInOrder.{records_in_order}
use Rattle.answer_judge.proofs.GivenLists.{contained_has}
use Rattle.server_answers.proofs.WritesData.{of_chain}
use Rattle.server_answers.proofs.WritesGroups.{IsFormed}
use Rattle.server_answers.proofs.WritesZone.{Named, answer_formed}
use Rattle.server_laws.proofs.Alone.{IsOther, NoSignature}
use Rattle.server_laws.proofs.Lists.{all_joined}

all_has : {A : Type 0} (P : A → Type 0) (xs : List A) → ((x : A) → Has xs x → P x) → AllByRecursion P xs
all_has P [] f = tt
all_has P (x ∷ xs) f = (f x (inl refl), all_has P xs (λ y h. f y (inr h)))

-- ---- which are of another type

-- a type of no RRset that stands before the chain's records, but for the one that is asked for
pub record StandsBeside (u : ℕ) : Type 0 where
  pub ns : eqb 2 u ≡ false
  pub soa : eqb 6 u ≡ false
  pub ds : eqb 43 u ≡ false

module _ (s : Served) (q : Name) (t u : ℕ) (beside : StandsBeside u) where
  abbrev Other : List ServedRrset → Type 0
  Other gs = AllByRecursion (IsOther u) gs

  at_cut : (o : Option Name) → Other (elim o [ None ↦ [] | Some c ↦ unsigned_ns s c ++ if_any s c 43 ])
  at_cut None = tt
  at_cut (Some c) = (beside.ns, either Other (has s.zone c 43) (rrset s c 43 ∷ []) [] (beside.ds, tt) tt)

  left_open : (o : Option Name) → Other (elim o [ None ↦ soa s ∷ [] | Some c ↦ cond (labels_eq c (low q) && eqb t 43) (soa s ∷ []) (unsigned_ns s c) ])
  left_open None = (beside.soa, tt)
  left_open (Some c) = either Other (labels_eq c (low q) && eqb t 43) (soa s ∷ []) (unsigned_ns s c) (beside.soa, tt) (beside.ns, tt)

  module _ (unlike : eqb t u ≡ false) where
    at_star : (o : Option Name) → Other (elim o [ None ↦ [] | Some e ↦ under q (rrset s (star_under e) t) ∷ [] ])
    at_star None = tt
    at_star (Some e) = (unlike, tt)

    open_other : (v : Verdict) → Other (ahead_open s q t v)
    open_other (StarRecords ds) = at_star (ce s.zone (low q))
    open_other (Records ds) = left_open (cut s.zone (low q))
    open_other NoType = left_open (cut s.zone (low q))
    open_other NoName = left_open (cut s.zone (low q))
    open_other StarNoType = left_open (cut s.zone (low q))
    open_other Delegated = left_open (cut s.zone (low q))
    open_other Open = left_open (cut s.zone (low q))
    open_other Unsigned = left_open (cut s.zone (low q))

    pub ahead_other : (v : Verdict) → Other (ahead s q t v)
    ahead_other (Records ds) = (unlike, tt)
    ahead_other NoType = (beside.soa, tt)
    ahead_other NoName = (beside.soa, tt)
    ahead_other (StarRecords ds) = at_star (ce s.zone (low q))
    ahead_other StarNoType = (beside.soa, tt)
    ahead_other Delegated = at_cut (cut s.zone (low q))
    ahead_other Open = open_other (verdict s.zone false q t)
    ahead_other Unsigned = tt

pub chain_other : (s : Served) (u : ℕ) → eqb 47 u ≡ false → eqb 50 u ≡ false → (ns : List Name) → AllByRecursion (IsOther u) (map (chain_record s) ns)
chain_other s u nsec nsec3 [] = tt
chain_other s u nsec nsec3 (n ∷ ns) = (one s.mode refl, chain_other s u nsec nsec3 ns)
  where
    one : (m : Mode) → s.mode ≡ m → IsOther u (chain_record s n)
    one Nsec e = subst (λ (x : Mode). IsOther u (chain_record (record s { mode = x }) n)) (sym e) nsec
    one (Nsec3 iterations salt optout) e = subst (λ (x : Mode). IsOther u (chain_record (record s { mode = x }) n)) (sym e) nsec3

-- none is of signatures
pub groups_unsigned : (s : Served) (q : Name) (t : ℕ) → eqb t 46 ≡ false → AllByRecursion NoSignature (answer_groups s q t)
groups_unsigned s q t plain =
    let v = verdict s.zone (optout_of s.mode) q t in
    let said = spoken s (low q) (verdict s.zone false q t) v in
    all_joined NoSignature (ahead s q t v) (proofs_of s said) (ahead_other s q t 46 (record { ns = refl; soa = refl; ds = refl }) plain v)
    (chain_other s 46 refl refl (filter (λ o. list_any (speaks_for s o) said) (chain_names s)))

-- ---- the groups of a referral are of no addresses

-- an address type is no other number
not_address : (u k : ℕ) → (eqb u 1 || eqb u 28) ≡ true → eqb k 1 ≡ false → eqb k 28 ≡ false → eqb k u ≡ false
not_address u k e one other =
    ⊎_elim (λ h. ap (eqb k) (eqb-true u 1 h) ∙ one) (λ h. ap (eqb k) (eqb-true u 28 h) ∙ other) (or_cases (eqb u 1) (eqb u 28) e)

-- what refers a name away does so under opt-out, or opt-out leaves it open
referred : (z : Zone) (optout : Bool) (q : Name) (t : ℕ) → verdict z false q t ≡ Delegated → (verdict z optout q t ≡ Delegated) ⊎ (verdict z optout q t ≡ Open)
referred z optout q t told = go (is_open z optout (low q))
  where
    go : (b : Bool) → ((elim b as (λ _. Verdict) [ true ↦ Open | false ↦ verdict z false q t ]) ≡ Delegated) ⊎ ((elim b as (λ _. Verdict) [ true ↦ Open | false ↦ verdict z false q t ]) ≡ Open)
    go true = inr refl
    go false = inl told

pub referral_other : (s : Served) (q : Name) (t u : ℕ) → (eqb u 1 || eqb u 28) ≡ true → verdict s.zone false q t ≡ Delegated → AllByRecursion (IsOther u) (answer_groups s q t)
referral_other s q t u address told =
    let v = verdict s.zone (optout_of s.mode) q t in
    let said = spoken s (low q) (verdict s.zone false q t) v in
    let beside : StandsBeside u = record { ns = not_address u 2 address refl refl; soa = not_address u 6 address refl refl; ds = not_address u 43 address refl refl } in
    let front : AllByRecursion (IsOther u) (ahead s q t v) =
    ⊎_elim
    (λ e. subst (λ x. AllByRecursion (IsOther u) (ahead s q t x)) (sym e) (at_cut s q t u beside (cut s.zone (low q))))
    (λ e. subst (λ x. AllByRecursion (IsOther u) (ahead s q t x)) (sym e) (subst (λ x. AllByRecursion (IsOther u) (ahead_open s q t x)) (sym told) (left_open s q t u beside (cut s.zone (low q)))))
    (referred s.zone (optout_of s.mode) q t told) in
    all_joined (IsOther u) (ahead s q t v) (proofs_of s said) front
    (chain_other s u (not_address u 47 address refl refl) (not_address u 50 address refl refl) (filter (λ o. list_any (speaks_for s o) said) (chain_names s)))

-- ---- each has a name as its owner

module _ (apex : Name) (mode : Mode) (hash : Name → List ℕ) (rs : List HandedRr) (h : AreHanded apex rs) (q : Name) (t : ℕ) (name : IsName q) where
  abbrev s : Served
  s = served_of apex mode hash rs

  abbrev AllNamed : List ServedRrset → Type 0
  AllNamed gs = AllByRecursion Named gs

  own_named : (o : Name) (u : ℕ) → IsName o → IsName (served_owner rs o u)
  own_named o u is = either IsName (eqb u 47 || eqb u 50) (spelled_among rs o) (owner_among rs o u) (first_name rs o h.records_are is) (owner_name rs o u h.records_are is)

  apex_named : IsName (served_owner rs (low apex) 6)
  apex_named = own_named (low apex) 6 (lower_name apex h.apex_is)

  star_named : (o : Option Name) → AllNamed (elim o [ None ↦ [] | Some e ↦ under q (rrset s (star_under e) t) ∷ [] ])
  star_named None = tt
  star_named (Some e) = (name, tt)

  cut_is : (c : Name) → cut (zone_with apex rs) (low q) ≡ Some c → IsName c
  cut_is c i = cut_name (zone_with apex rs) (low q) c (lower_name q name) i

  cut_named : (o : Option Name) → cut (zone_with apex rs) (low q) ≡ o → AllNamed (elim o [ None ↦ [] | Some c ↦ unsigned_ns s c ++ if_any s c 43 ])
  cut_named None i = tt
  cut_named (Some c) i =
      let is = cut_is c i in
      (own_named c 2 is, either AllNamed (has (zone_with apex rs) c 43) (rrset s c 43 ∷ []) [] (own_named c 43 is, tt) tt)

  open_named : (o : Option Name) → cut (zone_with apex rs) (low q) ≡ o → AllNamed (elim o [ None ↦ soa s ∷ [] | Some c ↦ cond (labels_eq c (low q) && eqb t 43) (soa s ∷ []) (unsigned_ns s c) ])
  open_named None i = (apex_named, tt)
  open_named (Some c) i = either AllNamed (labels_eq c (low q) && eqb t 43) (soa s ∷ []) (unsigned_ns s c) (apex_named, tt) (own_named c 2 (cut_is c i), tt)

  left_named : (v : Verdict) → AllNamed (ahead_open s q t v)
  left_named (StarRecords ds) = star_named (ce (zone_with apex rs) (low q))
  left_named (Records ds) = open_named (cut (zone_with apex rs) (low q)) refl
  left_named NoType = open_named (cut (zone_with apex rs) (low q)) refl
  left_named NoName = open_named (cut (zone_with apex rs) (low q)) refl
  left_named StarNoType = open_named (cut (zone_with apex rs) (low q)) refl
  left_named Delegated = open_named (cut (zone_with apex rs) (low q)) refl
  left_named Open = open_named (cut (zone_with apex rs) (low q)) refl
  left_named Unsigned = open_named (cut (zone_with apex rs) (low q)) refl

  ahead_named : (v : Verdict) → AllNamed (ahead s q t v)
  ahead_named (Records ds) = (name, tt)
  ahead_named NoType = (apex_named, tt)
  ahead_named NoName = (apex_named, tt)
  ahead_named (StarRecords ds) = star_named (ce (zone_with apex rs) (low q))
  ahead_named StarNoType = (apex_named, tt)
  ahead_named Delegated = cut_named (cut (zone_with apex rs) (low q)) refl
  ahead_named Open = left_named (verdict (zone_with apex rs) false q t)
  ahead_named Unsigned = tt

link_names : (apex : Name) (hash : Name → List ℕ) (rs : List HandedRr) → AreHanded apex rs → (ns : List Name) → AllByRecursion IsName ns → AllByRecursion Named (map (chain_record (served_of apex Nsec hash rs)) ns)
link_names apex hash rs h [] is = tt
link_names apex hash rs h (n ∷ ns) is = (first_name rs n h.records_are is.0, link_names apex hash rs h ns is.1)

hash_names : (apex : Name) (iterations : ℕ) (salt : List ℕ) (optout : Bool) (hash : Name → List ℕ) (rs : List HandedRr) (ns : List Name) → AllByRecursion (λ n. Named (chain_record (served_of apex (Nsec3 iterations salt optout) hash rs) n)) ns
    → AllByRecursion Named (map (chain_record (served_of apex (Nsec3 iterations salt optout) hash rs)) ns)
hash_names apex iterations salt optout hash rs [] is = tt
hash_names apex iterations salt optout hash rs (n ∷ ns) is = (is.0, hash_names apex iterations salt optout hash rs ns is.1)

module _ (hasher : Hasher) (apex : Name) (limit : ℕ) (rs : List HandedRr) where
  abbrev pub sorted : List HandedRr
  sorted = sorted_records rs

  -- the apex is spelled as it was handed in
  apex_itself : spelled_as apex sorted (low apex) ≡ apex
  apex_itself = ap (λ b. cond b apex (spelled_among sorted (low apex))) (labels_eq-same (low apex) (low apex) refl)

  spelled_apex : (d : List ℕ) → IsName (base32hex d ∷ apex) → IsName (base32hex d ∷ spelled_as apex sorted (low apex))
  spelled_apex d is = subst (λ (n : Name). IsName (base32hex d ∷ n)) (sym apex_itself) is

  chain_names_are : (mode : Mode) → AreHanded apex sorted → HasChain hasher mode (zone_of apex rs) → (qs : List Name) → AllByRecursion Named (proofs_of (served_of apex mode (hash_in hasher mode) sorted) qs)
  chain_names_are Nsec h chain qs =
      let x = served_of apex Nsec (hash_in hasher Nsec) sorted in
      link_names apex (hash_in hasher Nsec) sorted h (filter (λ o. list_any (speaks_for x o) qs) (chain_names x)) (all_filter IsName (λ o. list_any (speaks_for x o) qs) (chain_names x) (chain_named apex sorted h.records_are))
  chain_names_are (Nsec3 iterations salt optout) h chain qs =
      let mode : Mode = Nsec3 iterations salt optout in
      let hash : Name → List ℕ = hash_in hasher mode in
      let x = served_of apex mode hash sorted in
      let P : Name → Type 0 = λ n. Named (chain_record x n) in
      let each : AllByRecursion P (nsec3_names (zone_with apex sorted) optout) = all_has P (nsec3_names (zone_with apex sorted) optout) (λ n i. spelled_apex (hash n) (chain.fit n (contained_has (nsec3_names (zone_with apex sorted) optout) n i))) in
      hash_names apex iterations salt optout hash sorted (filter (λ o. list_any (speaks_for x o) qs) (chain_names x)) (all_filter P (λ o. list_any (speaks_for x o) qs) (chain_names x) (all_sorted P _ (nsec3_names (zone_with apex sorted) optout) each))

  pub are_handed : (mode : Mode) → IsName apex → AllByRecursion IsHanded rs → IsAcceptedWithAliases hasher apex mode limit rs → AreHanded apex sorted
  are_handed mode name handed accepted = record { apex_is = name; records_are = all_sorted IsHanded record_cmp rs handed; known = all_sorted (λ r. is_meta r ≡ false) record_cmp rs (all_fail is_meta rs accepted.faultless.plain.known) }

  pub groups_formed : (mode : Mode) → IsName apex → AllByRecursion IsHanded rs → IsAcceptedWithAliases hasher apex mode limit rs → (q : Name) (t : ℕ) → IsName q → t < 65536 → of_chain t ≡ false
      → AllByRecursion IsFormed (answer_groups (served_of apex mode (hash_in hasher mode) sorted) q t)
  groups_formed mode name handed accepted q t is small plain =
      let h = are_handed mode name handed accepted in
      let hash : Name → List ℕ = hash_in hasher mode in
      let x = served_of apex mode hash sorted in
      let v = verdict (zone_with apex sorted) (optout_of mode) q t in
      let said = spoken x (low q) (verdict (zone_with apex sorted) false q t) v in
      answer_formed apex mode hash sorted (records_in_order hasher apex mode rs accepted.faultless.plain accepted.faultless.aliases accepted.chained) h q t is small plain
      (all_joined Named (ahead x q t v) (proofs_of x said) (ahead_named apex mode hash sorted h q t is v) (chain_names_are mode h accepted.chained.chain said))
