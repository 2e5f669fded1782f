-- The records that are made are the chain of the zone.
use Rattle.std.proofs.Common.{◌≡◌, ℕ, zero, suc, ◌<◌, Bool, true, false, ◌&&◌, ◌||◌, List, [], ◌∷◌, ◌++◌, drop, length, map, Option, Some, None, refl, sym, ap, subst, ◌∙◌, inl, inr, arith}
use Rattle.std.specs.Str.{bytes_eq}
use Rattle.std.specs.Prelude.{filter, not, ◌==◌, if◌then◌else◌}
use Rattle.std.specs.List.{AllByRecursion, Contains}
use Rattle.std.specs.List.Sorted.{IsStrictlySortedBy}
use Rattle.std.specs.Option.{is_none, unwrap_or}
use Rattle.std.specs.declared.cmp.Ordering.{Ordering}
use Rattle.std.specs.declared.cmp.Ordering.TheVariants.{Less, Equal, Greater}
use Rattle.std.specs.Ordering.{nat_cmp, ordering_reverse}
use Rattle.std.specs.Cmp.{IsTotalOrder, on_total}
use Rattle.std.specs.Cmp.Lexicographic.{slice_cmp}
use Rattle.std.proofs.lemmas.Cmp.{nat_list_cmp_total, tied_itself}
use Rattle.definitions.specs.Bitmap.{bitmap}
use Rattle.definitions.specs.Laws.{IsNsec3Chain, NoneShare}
use Rattle.definitions.specs.Name.{Name, low, same, labels_eq, name_cmp, at_or_above, strictly_above}
use Rattle.definitions.specs.Zone.{Zone, apex_of, owners, owner_of, has, is_of, is_delegation, cut, cut_above, is_kept, is_live, kept_owners, kept}
use Rattle.definitions.specs.ZoneChain.{at_apex, hash_cmp, hashed_names, hashes, links, head_or, behind, nsec3_names, nsec3_next, nsec3_types, of_keys, types_at}
use Rattle.definitions.proofs.Members.{In, Rises, Within, ExactAmong, contained, in_contained, filter_in, in_filter, in_map, map_in, rising_same, sort_has, sort_keeps, sort_rises}
use Rattle.definitions.proofs.NameLaws.{labels_decide}
use Rattle.definitions.proofs.OwnChains.{one_nsec3_record_speaks}
use Rattle.definitions.proofs.ChainSpeaks.{all_from}
use Rattle.definitions.proofs.ZoneNames.{and_parts, and_from, chain_kept, chain_lowered}
use Rattle.plain.specs.ZoneData.{zone_canonical, zone_type}
use Rattle.plain.specs.declared.record.Record.{Record}
use Rattle.plain.specs.declared.zone_data.ZoneRecordData.{ZoneRecordData}
use Rattle.denial_rrsets.specs.Groups.{groups, is_at, of_one_owner, zone_cut, group_owner}
use Rattle.denial_nsec3_hash.specs.Hashing.{Answers, answered, hash_by, FitsName}
use Rattle.denial_nsec3_hash.specs.declared.config.GenerateNsec3Config.{GenerateNsec3Config}
use Rattle.denial_nsec3_names.specs.Chained.{spot_of, chain_name, chain_names_of, IsHashed, IsHashedChain}
use Rattle.denial_nsec3_names.specs.Walk.{Spot, spot_name, spots_of}
use Rattle.denial_nsec3_names.specs.declared.hashed.HashedName.{HashedName}
use Rattle.denial_nsec3_names.proofs.WalkNames.{Climbs, AreKeptOwners, names_are_chain}
use Rattle.denial_nsec3_names.proofs.Spots.{IsSpot, spots_are, spots_named}
use Rattle.denial_nsec3_names.proofs.Assembled.{all_in}
use Rattle.denial_chain_owners.specs.Conditions.{IsOneClass, IsZoneOrder}
use Rattle.denial_chain_owners.specs.Kept.{kept_groups}
use Rattle.denial_chain_owners.specs.Soa.{soa_ttls, ttls_of_one}
use Rattle.denial_chain_owners.specs.Types.{has_type}
use Rattle.denial_chain_owners.specs.declared.soa.SoaTtls.{SoaTtls}
use Rattle.denial_chain_owners.proofs.AtOwner.{delegates_at, group_owns, has_at, owner_of_group, types_of_group}
use Rattle.denial_chain_owners.proofs.ByOwner.{ByOwner, by_owner, whole_of}
use Rattle.denial_chain_owners.proofs.Walked.{rises_kept}
use Rattle.denial_nsec3_chain.specs.Bits.{apex_types, group_types, signed_types, spot_types, types_at_skipped}
use Rattle.denial_nsec3_chain.specs.Chain.{making, zone_among}
use Rattle.denial_nsec3_chain.specs.Linked.{linked, nsec3_record}
use Rattle.denial_nsec3_chain.proofs.Linking.{octets_rise}

not_true : (b : Bool) → (b ≡ true → ⊥) → b ≡ false
not_true true f = absurd (f refl)
not_true false f = refl

to_in : {X : Type 0} (xs : List X) (x : X) → Contains xs x → In x xs
to_in xs x c = in_contained xs x c.0 c.1 c.2

pub strict_of : (ns : List Name) → Climbs ns → IsStrictlySortedBy name_cmp ns
unfolding IsStrictlySortedBy
strict_of [] r = tt
strict_of (n ∷ ns) r = (all_from (λ m. name_cmp n m ≡ Less) ns (λ m i. r.0 m i), strict_of ns r.1)

-- ---- names above a kept owner are kept, where they own records

none_parts : (z : Zone) (l : List ℕ) (q : Name) → cut z (l ∷ q) ≡ None → (is_delegation z (l ∷ q) ≡ false) × (cut z q ≡ None)
none_parts z l q h = go (cut z q) refl (is_delegation z (l ∷ q)) refl h
  where
    go : (c : Option Name) → cut z q ≡ c → (d : Bool) → is_delegation z (l ∷ q) ≡ d
        → elim c as (λ _. Option Name) [ None ↦ (if d then Some (l ∷ q) else None) | Some n ↦ Some n ] ≡ None → (is_delegation z (l ∷ q) ≡ false) × (cut z q ≡ None)
    go None e true g k = absurd cc
    go None e false g k = (g, e)
    go (Some n) e d g k = absurd cc

and_false : (b : Bool) → (b && false) ≡ false
and_false true = refl
and_false false = refl

root_undelegated : (z : Zone) → is_delegation z [] ≡ false
root_undelegated z = and_false (has z [] 2)

uncut : (z : Zone) (k : ℕ) (q : Name) → cut z q ≡ None → (is_delegation z (drop k q) ≡ false) × (cut z (drop k q) ≡ None)
uncut z zero [] h = (root_undelegated z, refl)
uncut z zero (l ∷ q) h = (let p = none_parts z l q h in (p.0, h))
uncut z (suc k) [] h = (root_undelegated z, refl)
uncut z (suc k) (l ∷ q) h = uncut z k q (none_parts z l q h).1

none_from : (c : Option Name) → is_none c ≡ true → c ≡ None
none_from None h = refl
none_from (Some n) h = absurd cc

uncut_above : (z : Zone) (q : Name) → cut z q ≡ None → is_none (cut_above z q) ≡ true
uncut_above z [] h = refl
uncut_above z (l ∷ q) h = ap is_none (none_parts z l q h).1

below_kept : (z : Zone) (excluding : Bool) (o : Name) (k : ℕ) → is_kept z excluding o ≡ true → 0 < k → at_or_above (apex_of z) (drop k o) ≡ true → is_kept z excluding (drop k o) ≡ true
below_kept z excluding o zero h p a = absurd (omega arith)
below_kept z excluding [] (suc k) h p a = h
below_kept z excluding (l ∷ o) (suc k) h p a =
    let live : is_live z (l ∷ o) ≡ true = (and_parts (is_live z (l ∷ o)) _ h).0 in
    let none : cut z o ≡ None = none_from (cut z o) (and_parts (at_or_above (apex_of z) (l ∷ o)) _ live).1 in
    let u = uncut z k o none in
    and_from (is_live z (drop k o)) _ (and_from (at_or_above (apex_of z) (drop k o)) _ a (uncut_above z (drop k o) u.1))
    ((λ i. not (excluding && u.0 i && not (has z (drop k o) 43))) ∙ plain excluding)
  where
    plain : (b : Bool) → not (b && false && not (has z (drop k o) 43)) ≡ true
    plain true = refl
    plain false = refl

-- ---- names that own nothing

unlike_all : (z : Zone) (y : Name) → (In y (owners z) → ⊥) → (t : ℕ) → has z y t ≡ false
unlike_all z y f t = not_true (has z y t) (λ e.
    let r = Rattle.definitions.proofs.Members.any_of (is_of y t) z.records e in
    let is = and_parts (labels_eq (owner_of r.0) y) (r.0.rtype == t) r.1.1 in
    let P : Name → Type 0 = λ n. In n (owners z) in
    f (subst P ((labels_decide (owner_of r.0) y).0 is.0) (in_map owner_of z.records r.0 r.1.0)))

no_types : (z : Zone) (y : Name) → (In y (owners z) → ⊥) → types_at z y ≡ []
no_types z y f = ap (map (λ r. r.rtype)) (none z.records (λ r i. not_true (labels_eq (owner_of r) y) (λ e.
    let P : Name → Type 0 = λ n. In n (owners z) in
    f (subst P ((labels_decide (owner_of r) y).0 e) (in_map owner_of z.records r i)))))
  where
    none : (rs : List Rattle.definitions.specs.Zone.Rr) → ((r : Rattle.definitions.specs.Zone.Rr) → In r rs → labels_eq (owner_of r) y ≡ false) → filter (λ r. labels_eq (owner_of r) y) rs ≡ []
    none rs g = Rattle.denial_chain_owners.proofs.AtOwner.filter_none (λ r. labels_eq (owner_of r) y) rs g

empty_types : (z : Zone) (dnskey : Bool) (y : Name) → (In y (owners z) → ⊥) → nsec3_types z dnskey y ≡ []
empty_types z dnskey y f =
    let undelegated : is_delegation z y ≡ false = ap (λ b. b && strictly_above (apex_of z) y) (unlike_all z y f 2) in
    (λ i. if undelegated i then 2 ∷ (if has z y 43 then 43 ∷ 46 ∷ [] else [])
    else (if length (no_types z y f i) == 0 then [] else no_types z y f i ++ 46 ∷ at_apex z y (of_keys dnskey ++ 51 ∷ [])))

-- ---- bits of an owner

abbrev bits : Bool → Bool → List ℕ → List ℕ → List ℕ
bits cut ds ts more = (if cut then 2 ∷ (if ds then 43 ∷ [] else []) else ts) ++ (signed_types (not cut || ds) ++ more)

abbrev shown : Bool → Bool → List ℕ → List ℕ → List ℕ
shown cut ds ts more = if cut then 2 ∷ (if ds then 43 ∷ 46 ∷ [] else []) else (if length ts == 0 then [] else ts ++ 46 ∷ more)

no_zero : (n : ℕ) → (suc n == 0) ≡ false
no_zero n = not_true (suc n == 0) (λ e. let z : suc n ≡ 0 = Rattle.std.proofs.lemmas.Bool.eqb-true (suc n) 0 e in absurd (omega arith))

some_shown : (t : ℕ) (ts : List ℕ) (ds : Bool) (more : List ℕ) → shown false ds (t ∷ ts) more ≡ (t ∷ ts) ++ 46 ∷ more
some_shown t ts ds more = ap (λ b. if b then [] else (t ∷ ts) ++ 46 ∷ more) (no_zero (length ts))

cut_bits : (ds : Bool) (ts : List ℕ) → bits true ds ts [] ≡ shown true ds ts []
cut_bits true ts = refl
cut_bits false ts = refl

module _ {O N : Type 0} (name : N → Name) (apex : Name) (rs : List (Record N (ZoneRecordData O N))) (one : IsOneClass rs) (order : IsZoneOrder name rs) (excluding : Bool) where
  abbrev Rr : Type 0
  Rr = Record N (ZoneRecordData O N)

  abbrev by_data : ZoneRecordData O N → ZoneRecordData O N → Ordering
  by_data a b = slice_cmp nat_cmp (zone_canonical name a) (zone_canonical name b)

  abbrev z : Zone
  z = zone_among name apex rs

  abbrev gs : List (List Rr)
  gs = groups (of_one_owner name) rs

  by : ByOwner name gs
  by = by_owner name zone_type by_data rs one order

  abbrev keeps : List Rr → Bool
  keeps g = is_kept z excluding (group_owner name g)

  abbrev pub ks : List (List Rr)
  ks = kept_groups name zone_type (zone_canonical name) apex excluding rs

  abbrev pub os : List Name
  os = map (group_owner name) ks

  pub kept_climb : Climbs os
  kept_climb = rises_kept (group_owner name) keeps gs by.rises

  in_os : (g : List Rr) → In g gs → keeps g ≡ true → In (group_owner name g) os
  in_os g i k = in_map (group_owner name) ks g (in_filter keeps gs g i k)

  kept_owner_listed : (o : Name) → In o (kept_owners z excluding) → In o os
  kept_owner_listed o i =
      let f = filter_in (is_kept z excluding) (owners z) o i in
      let g = owner_of_group name zone_type (zone_canonical name) apex gs by rs (whole_of name rs) o f.0 in
      let P : Name → Type 0 = λ n. In n os in
      subst P (sym g.1.1) (in_os g.0 g.1.0 (ap (is_kept z excluding) (sym g.1.1) ∙ f.1))

  listed_owner_kept : (o : Name) → In o os → In o (kept_owners z excluding)
  listed_owner_kept o i =
      let m = map_in (group_owner name) ks o i in
      let f = filter_in keeps gs m.item m.inside in
      let Q : Name → Type 0 = λ n. In n (kept_owners z excluding) in
      subst Q (sym m.makes) (in_filter (is_kept z excluding) (owners z) (group_owner name m.item) (group_owns name zone_type (zone_canonical name) apex gs by rs (whole_of name rs) m.item f.0) f.1)

  are_kept : AreKeptOwners z excluding os
  are_kept = record { climb = kept_climb; are = listed_owner_kept; all = kept_owner_listed }

  -- ---- the apex owns the SOA record

  some_first : (xs : List Rr) (s : SoaTtls) → ttls_of_one xs ≡ Some s → (r : Rr) × In r xs
  some_first [] s e = absurd cc
  some_first (r ∷ xs) s e = (r, inl refl)

  pub apex_owns : (s : SoaTtls) → soa_ttls name apex rs ≡ Some s → Contains (owners z) (apex_of z)
  apex_owns s e =
      let r = some_first (filter (is_at name zone_type apex 6) rs) s e in
      let f = filter_in (is_at name zone_type apex 6) rs r.0 r.1 in
      let here : same (name r.0.owner) apex ≡ true = (and_parts _ (same (name r.0.owner) apex) f.1).1 in
      let is : low (name r.0.owner) ≡ low apex = (labels_decide (low (name r.0.owner)) (low apex)).0 here in
      let P : Name → Type 0 = λ n. In n (owners z) in
      contained (owners z) (apex_of z) (subst P is (in_map owner_of z.records _ (in_map (Rattle.denial_chain_owners.specs.Zones.rr_of name zone_type (zone_canonical name)) rs r.0 f.0)))

  pub names_are : Contains (owners z) (apex_of z) → chain_names_of name ks ≡ nsec3_names z excluding
  names_are c = spots_named (group_owner name) ks ∙ names_are_chain z excluding os c are_kept

  -- ---- the bits of a name

  signed_at : (g : List Rr) (dnskey : Bool) → In g gs → keeps g ≡ true → bitmap (group_types name zone_type apex dnskey g) ≡ bitmap (nsec3_types z dnskey (group_owner name g))
  signed_at g dnskey i k =
      let f = by.some g i in
      let inside : at_or_above (low apex) (group_owner name g) ≡ true = (and_parts (at_or_above (apex_of z) (group_owner name g)) _ (and_parts (is_live z (group_owner name g)) _ k).0).0 in
      let P : List Rr → Type 0 = λ h. bitmap (group_types name zone_type apex dnskey h) ≡ bitmap (nsec3_types z dnskey (group_owner name h)) in
      let Q : List Rr → Type 0 = λ h. (is_delegation z (group_owner name h) ≡ zone_cut name zone_type apex h) in
      let R : List Rr → Type 0 = λ h. (has z (group_owner name h) 43 ≡ has_type zone_type 43 h) in
      let T : List Rr → Type 0 = λ h. (types_at z (group_owner name h) ≡ map (λ r. zone_type r.content) h) in
      subst P (sym f.2) (at_first f.0 f.1 (zone_cut name zone_type apex (f.0 ∷ f.1)) refl
      (subst Q f.2 (delegates_at name zone_type (zone_canonical name) apex gs by rs (whole_of name rs) g i inside))
      (subst R f.2 (has_at name zone_type (zone_canonical name) apex gs by rs (whole_of name rs) 43 g i))
      (subst T f.2 (types_of_group name zone_type (zone_canonical name) apex gs by rs (whole_of name rs) g i)))
    where
      uncut_apex : (r : Rr) (g : List Rr) → zone_cut name zone_type apex (r ∷ g) ≡ true → apex_types apex dnskey (name r.owner) ≡ []
      uncut_apex r g e = go (same (name r.owner) apex) e
        where
          go : (b : Bool) → (not b && has_type zone_type 2 (r ∷ g)) ≡ true → (if b then of_keys dnskey ++ 51 ∷ [] else []) ≡ []
          go true h = absurd cc
          go false h = refl

      same_apex : (r : Rr) → apex_types apex dnskey (name r.owner) ≡ at_apex z (low (name r.owner)) (of_keys dnskey ++ 51 ∷ [])
      same_apex r = refl

      at_first : (r : Rr) (more : List Rr) (b : Bool) → zone_cut name zone_type apex (r ∷ more) ≡ b
          → is_delegation z (group_owner name (r ∷ more)) ≡ zone_cut name zone_type apex (r ∷ more)
          → has z (group_owner name (r ∷ more)) 43 ≡ has_type zone_type 43 (r ∷ more)
          → types_at z (group_owner name (r ∷ more)) ≡ map (λ r. zone_type r.content) (r ∷ more)
          → bitmap (group_types name zone_type apex dnskey (r ∷ more)) ≡ bitmap (nsec3_types z dnskey (group_owner name (r ∷ more)))
      at_first r more true e delegates ds types =
          let ts : List ℕ = map (λ r. zone_type r.content) (r ∷ more) in
          let keys : List ℕ = at_apex z (group_owner name (r ∷ more)) (of_keys dnskey ++ 51 ∷ []) in
          ap bitmap (λ i. bits (e i) (has_type zone_type 43 (r ∷ more)) ts (uncut_apex r more e i))
          ∙ ap bitmap (cut_bits (has_type zone_type 43 (r ∷ more)) ts)
          ∙ sym (ap bitmap (λ i. shown ((delegates ∙ e) i) (ds i) (types_at z (group_owner name (r ∷ more))) keys))
      at_first r more false e delegates ds types =
          let ts : List ℕ = map (λ r. zone_type r.content) (r ∷ more) in
          ap bitmap (λ i. bits (e i) (has_type zone_type 43 (r ∷ more)) ts (apex_types apex dnskey (name r.owner)))
          ∙ ap bitmap (λ i. ts ++ 46 ∷ same_apex r i)
          ∙ ap bitmap (sym (some_shown (zone_type r.content) (map (λ r. zone_type r.content) more) (has_type zone_type 43 (r ∷ more)) (at_apex z (group_owner name (r ∷ more)) (of_keys dnskey ++ 51 ∷ []))))
          ∙ sym (ap bitmap (λ i. shown ((delegates ∙ e) i) (ds i) (types i) (at_apex z (group_owner name (r ∷ more)) (of_keys dnskey ++ 51 ∷ []))))

  no_owner : (s : Spot (List Rr)) → at_or_above (apex_of z) (spot_name (group_owner name) s) ≡ true → IsSpot (group_owner name) ks s → 0 < s.skipped
      → ((g : List Rr) → In g ks → group_owner name g ≡ spot_name (group_owner name) s → ⊥) → In (spot_name (group_owner name) s) (owners z) → ⊥
  no_owner s inside is p none owned =
      let f = filter_in keeps gs s.owner is.inside in
      let kept_there : is_kept z excluding (group_owner name s.owner) ≡ true = f.1 in
      let k : is_kept z excluding (spot_name (group_owner name) s) ≡ true = below_kept z excluding (group_owner name s.owner) s.skipped kept_there p inside in
      let listed : In (spot_name (group_owner name) s) os = kept_owner_listed (spot_name (group_owner name) s) (in_filter (is_kept z excluding) (owners z) (spot_name (group_owner name) s) owned k) in
      let m = map_in (group_owner name) ks (spot_name (group_owner name) s) listed in
      none m.item m.inside (sym m.makes)

  pub types_are : (dnskey : Bool) (s : Spot (List Rr)) → at_or_above (apex_of z) (spot_name (group_owner name) s) ≡ true → IsSpot (group_owner name) ks s
      → bitmap (spot_types name zone_type apex dnskey s) ≡ bitmap (nsec3_types z dnskey (spot_name (group_owner name) s))
  types_are dnskey s inside is = elim is.is [
    | inl e ↦
        let f = filter_in keeps gs s.owner is.inside in
        let T : List ℕ = group_types name zone_type apex dnskey s.owner in
        ap (λ k. bitmap (types_at_skipped k T)) e
        ∙ signed_at s.owner dnskey f.0 f.1
        ∙ ap (λ n. bitmap (nsec3_types z dnskey n)) (ap (λ k. drop k (group_owner name s.owner)) (sym e))
    | inr m ↦
        ap bitmap (skipped_none s.skipped (group_types name zone_type apex dnskey s.owner) m.0)
        ∙ sym (ap bitmap (empty_types z dnskey (spot_name (group_owner name) s) (no_owner s inside is m.0 m.1)))
  ]
    where
      skipped_none : (k : ℕ) (ts : List ℕ) → 0 < k → types_at_skipped k ts ≡ []
      skipped_none zero ts p = absurd (omega arith)
      skipped_none (suc k) ts p = refl

  -- ---- names in the order of their hashes

  module _ {S : Type 0} (answers : Answers) (c : GenerateNsec3Config S) (there : Contains (owners z) (apex_of z)) (hs : List (HashedName N (ZoneRecordData O N))) (made : IsHashedChain name answers c.params (spots_of (group_owner name) ks) hs) where
    abbrev pub hash : Name → List ℕ
    hash = hash_by answers c.params

    abbrev Item : Type 0
    Item = HashedName N (ZoneRecordData O N)

    abbrev item : Item → Name
    item h = chain_name name h.name

    abbrev octets : Item → List ℕ
    octets h = h.hash.items

    abbrev by_hash : Name → Name → Ordering
    by_hash a b = hash_cmp (hash a) (hash b)

    by_hash_total : IsTotalOrder by_hash
    by_hash_total = on_total hash nat_list_cmp_total

    pub hash_is : (h : Item) → In h hs → hash (item h) ≡ octets h
    hash_is h i = ap (λ o. unwrap_or o []) (all_in (IsHashed name answers c.params) hs h made.hashes i)

    rise : Rises hash_cmp nat_list_cmp_total (map octets hs)
    rise = octets_rise (map octets hs) made.ascends

    names_rise : (xs : List Item) → ((h : Item) → In h xs → hash (item h) ≡ octets h) → Rises hash_cmp nat_list_cmp_total (map octets xs) → Rises by_hash by_hash_total (map item xs)
    names_rise [] f r = tt
    names_rise (x ∷ xs) f r = (
      (λ n i.
          let m = map_in item xs n i in
          (λ t. hash_cmp (f x (inl refl) t) ((ap hash m.makes ∙ f m.item (inr m.inside)) t)) ∙ r.0 (octets m.item) (in_map octets xs m.item m.inside)),
      names_rise xs (λ h i. f h (inr i)) r.1,
    )

    climbs : Rises by_hash by_hash_total (map item hs)
    climbs = names_rise hs hash_is rise

    -- a name of the chain is one of the items, and the other way round
    pub in_names : (h : Item) → In h hs → In (item h) (nsec3_names z excluding)
    in_names h i =
        let s : Contains (spots_of (group_owner name) ks) (spot_of h.name) = (made.names (spot_of h.name)).1 (contained (map (λ h. spot_of h.name) hs) (spot_of h.name) (in_map (λ (h : Item). spot_of h.name) hs h i)) in
        let P : List Name → Type 0 = λ ns. In (item h) ns in
        subst P (names_are there) (in_map (spot_name (group_owner name)) (spots_of (group_owner name) ks) (spot_of h.name) (to_in (spots_of (group_owner name) ks) (spot_of h.name) s))

    pub from_names : (n : Name) → In n (nsec3_names z excluding) → In n (map item hs)
    from_names n i =
        let P : List Name → Type 0 = λ ns. In n ns in
        let s = map_in (spot_name (group_owner name)) (spots_of (group_owner name) ks) n (subst P (sym (names_are there)) i) in
        let k : Contains (map (λ h. spot_of h.name) hs) s.item = (made.names s.item).0 (contained (spots_of (group_owner name) ks) s.item s.inside) in
        let h = map_in (λ (h : Item). spot_of h.name) hs s.item (to_in (map (λ h. spot_of h.name) hs) s.item k) in
        let is : n ≡ item h.item = s.makes ∙ ap (spot_name (group_owner name)) h.makes in
        let Q : Name → Type 0 = λ m. In m (map item hs) in
        subst Q (sym is) (in_map item hs h.item h.inside)

    exact : (xs : List Name) → Rises by_hash by_hash_total xs → (a b : Name) → In a xs → In b xs → by_hash a b ≡ Equal → a ≡ b
    exact [] r a b i j e = absurd i
    exact (x ∷ xs) r a b i j e = elim i [
      | inl s ↦ elim j [
        | inl t ↦ s ∙ sym t
        | inr t ↦ let n : Less ≡ Equal = sym (r.0 b t) ∙ ap (λ m. by_hash m b) (sym s) ∙ e in absurd cc
      ]
      | inr s ↦ elim j [
        | inl t ↦ let n : Greater ≡ Equal = sym (by_hash_total.antisymm a x ∙ ap ordering_reverse (r.0 a s)) ∙ ap (by_hash a) (sym t) ∙ e in absurd cc
        | inr t ↦ exact xs r.1 a b s t e
      ]
    ]

    exact_names : ExactAmong by_hash by_hash_total (nsec3_names z excluding)
    exact_names a b i j e = exact (map item hs) climbs a b (from_names a i) (from_names b j) e

    pub apart : NoneShare hash (nsec3_names z excluding)
    apart a b i j e = exact_names a b (to_in (nsec3_names z excluding) a i) (to_in (nsec3_names z excluding) b j) (ap (hash_cmp (hash a)) (sym e) ∙ tied_itself nat_list_cmp_total (hash a))

    pub ordered : map item hs ≡ hashed_names hash z excluding
    ordered = rising_same by_hash by_hash_total (map item hs) (hashed_names hash z excluding) climbs (sort_rises by_hash by_hash_total (nsec3_names z excluding))
        (λ n i. let m = map_in item hs n i in
        let P : Name → Type 0 = λ q. In q (hashed_names hash z excluding) in
        subst P (sym m.makes) (sort_keeps by_hash by_hash_total (nsec3_names z excluding) (item m.item) exact_names (in_names m.item m.inside)))
        (λ n i. from_names n (sort_has by_hash by_hash_total (nsec3_names z excluding) n i))

    pub speaks : IsNsec3Chain hash z excluding
    speaks = one_nsec3_record_speaks hash z excluding there apart

    octets_are : map octets hs ≡ hashes hash z excluding
    octets_are = sym (hashed_octets hs (λ h i. hash_is h i)) ∙ ap (map hash) ordered
      where
        hashed_octets : (xs : List Item) → ((h : Item) → In h xs → hash (item h) ≡ octets h) → map hash (map item xs) ≡ map octets xs
        hashed_octets [] f = refl
        hashed_octets (x ∷ xs) f = λ i. f x (inl refl) i ∷ hashed_octets xs (λ h j. f h (inr j)) i

    pub all_linked : (first : Item) (ls : List (Item × Item)) → ((l : Item × Item) → In l ls → In l.0 hs) → AllByRecursion (λ (m : Item × Item). behind bytes_eq [] (octets m.0) (links (head_or [] (map octets hs)) (map octets hs)) ≡ octets m.1) ls
        → (s : SoaTtls)
        → AllByRecursion (λ (m : Item × Item). linked name zone_type apex (making c s) m
        ≡ nsec3_record (making c s) apex (hash (item m.0)) (nsec3_next hash z excluding (item m.0)) (nsec3_types z c.assume_dnskeys_will_be_added (item m.0))) ls
    all_linked first [] f h s = tt
    all_linked first (l ∷ ls) f h s = (one_link l (f l (inl refl)) h.0 s, all_linked first ls (λ m i. f m (inr i)) h.1 s)
      where
        one_link : (l : Item × Item) → In l.0 hs → behind bytes_eq [] (octets l.0) (links (head_or [] (map octets hs)) (map octets hs)) ≡ octets l.1 → (s : SoaTtls)
            → linked name zone_type apex (making c s) l ≡ nsec3_record (making c s) apex (hash (item l.0)) (nsec3_next hash z excluding (item l.0)) (nsec3_types z c.assume_dnskeys_will_be_added (item l.0))
        one_link l i e s =
            let own : octets l.0 ≡ hash (item l.0) = sym (hash_is l.0 i) in
            let next : octets l.1 ≡ nsec3_next hash z excluding (item l.0) = sym e ∙ (λ t. behind bytes_eq [] (own t) (links (head_or [] (octets_are t)) (octets_are t))) in
            let spotted : In (spot_of l.0.name) (spots_of (group_owner name) ks) = to_in (spots_of (group_owner name) ks) (spot_of l.0.name) ((made.names (spot_of l.0.name)).1 (contained (map (λ h. spot_of h.name) hs) (spot_of l.0.name) (in_map (λ (h : Item). spot_of h.name) hs l.0 i))) in
            let is : IsSpot (group_owner name) ks (spot_of l.0.name) = spots_are (group_owner name) ks kept_climb (spot_of l.0.name) spotted in
            let lowered : low (item l.0) ≡ item l.0 = chain_lowered z excluding (item l.0) (in_names l.0 i) in
            let P : Name → Type 0 = λ n. In n (nsec3_names z excluding) in
            let inside : at_or_above (apex_of z) (item l.0) ≡ true = (and_parts (at_or_above (apex_of z) (item l.0)) _ (chain_kept z excluding (item l.0) (subst P (sym lowered) (in_names l.0 i)))).0 in
            let types = types_are c.assume_dnskeys_will_be_added (spot_of l.0.name) inside is in
            (λ t. record {
              owner = Rattle.denial_nsec3_hash.specs.Hashing.hashed_owner apex (own t);
              class = 1;
              ttl = Rattle.denial_chain_owners.specs.Soa.chain_ttl s;
              content = record { params = c.params; next_owner = next t; types = types t };
            })
