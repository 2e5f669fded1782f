-- The records made of the kept owners, one by one, are the NSEC chain of the zone.
use Rattle.std.proofs.Common.{◌≡◌, ℕ, Bool, true, false, ◌&&◌, ◌||◌, List, [], ◌∷◌, ◌++◌, map, Some, refl, sym, ap, subst, ◌∙◌, inl, inr, append_assoc}
use Rattle.std.specs.Prelude.{nat_eq, filter, if◌then◌else◌}
use Rattle.std.specs.List.{list_any, flat_map, Contains}
use Rattle.std.specs.declared.cmp.Ordering.{Ordering}
use Rattle.std.specs.declared.cmp.Ordering.TheVariants.{Less, Equal}
use Rattle.std.specs.Ordering.{nat_cmp, ordering_reverse}
use Rattle.std.specs.Cmp.Lexicographic.{slice_cmp}
use Rattle.definitions.specs.Bitmap.{bitmap}
use Rattle.definitions.specs.Laws.{IsNsecChain}
use Rattle.definitions.specs.Name.{Name, low, same, labels_eq, name_cmp, at_or_above}
use Rattle.definitions.specs.Zone.{Zone, apex_of, owners, owner_of, has, is_delegation, is_kept, is_live}
use Rattle.definitions.specs.ZoneChain.{at_apex, behind, head_or, links, nsec_names, nsec_next, nsec_types, of_keys, types_at}
use Rattle.definitions.proofs.Members.{In, Rises, Within, contained, filter_in, in_append_right, in_filter, in_flat, in_map, map_in, not_less, rising_same, sort_rises}
use Rattle.definitions.proofs.NameLaws.{apex_first, labels_decide, name_cmp_total}
use Rattle.definitions.proofs.OwnChains.{one_nsec_record_speaks}
use Rattle.definitions.proofs.ZoneNames.{and_parts, kept-live, live_owner, owner_in_chain}
use Rattle.definitions.specs.Zone.{kept_owners}
use Rattle.plain.specs.ZoneData.{zone_canonical, zone_type}
use Rattle.plain.specs.declared.record.Record.{Record}
use Rattle.plain.specs.declared.zone_data.ZoneRecordData.{ZoneRecordData}
use Rattle.denial_rrsets.specs.Groups.{groups, is_at, of_one_owner, zone_cut, group_owner}
use Rattle.denial_chain_owners.specs.Conditions.{IsOneClass, IsZoneOrder}
use Rattle.denial_chain_owners.specs.Kept.{kept_groups}
use Rattle.denial_chain_owners.specs.Soa.{chain_ttl, soa_ttls, ttls_of_one}
use Rattle.denial_chain_owners.specs.Types.{has_type}
use Rattle.denial_chain_owners.specs.Zones.{spelled_among, spelled_as, zone_of}
use Rattle.denial_chain_owners.specs.declared.soa.SoaTtls.{SoaTtls}
use Rattle.denial_chain_owners.proofs.AtOwner.{any_append, delegates_at, group_owns, has_at, itself, later_groups, map_map, owner_of_group, types_of_group}
use Rattle.denial_chain_owners.proofs.Adding.{same_bits}
use Rattle.denial_chain_owners.proofs.ByOwner.{ByOwner, by_owner, class_at, whole_of}
use Rattle.denial_chain_owners.proofs.Cuts.{not_true}
use Rattle.denial_chain_owners.proofs.Walked.{behind_item, before_item, rises_kept}
use Rattle.denial_nsec_chain.specs.Chain.{ChainRecord, class_of, nsec_chain, nsec_record, ttl_of}
use Rattle.denial_nsec_chain.specs.Groups.{group_record, group_records, group_types, next_of}

-- ---- what stands behind a name

links_first : (a x : Name) (xs : List Name) → links a (x ∷ xs) ≡ (x, head_or a xs) ∷ links a xs
links_first a x [] = refl
links_first a x (y ∷ ys) = refl

behind_first : (a o x : Name) (xs : List Name) → behind labels_eq a o (links a (x ∷ xs)) ≡ (if labels_eq o x then head_or a xs else behind labels_eq a o (links a xs))
behind_first a o x xs = ap (behind labels_eq a o) (links_first a x xs)

apart_after : (a b : Name) → name_cmp a b ≡ Less → labels_eq b a ≡ false
apart_after a b l = not_true (labels_eq b a) (λ e.
    not_less name_cmp name_cmp_total a (ap (name_cmp a) (sym ((labels_decide b a).0 e)) ∙ l))

behind_there : (a : Name) (front : List Name) (o : Name) (back : List Name) → ((f : Name) → In f front → name_cmp f o ≡ Less) → behind labels_eq a o (links a (front ++ o ∷ back)) ≡ head_or a back
behind_there a [] o back h = behind_first a o o back ∙ ap (λ b. if b then head_or a back else behind labels_eq a o (links a back)) (itself o)
behind_there a (f ∷ front) o back h =
    behind_first a o f (front ++ o ∷ back)
    ∙ ap (λ b. if b then head_or a (front ++ o ∷ back) else behind labels_eq a o (links a (front ++ o ∷ back))) (apart_after f o (h f (inl refl)))
    ∙ behind_there a front o back (λ g i. h g (inr i))

pub map_append : {A B : Type 0} (f : A → B) (xs ys : List A) → map f (xs ++ ys) ≡ map f xs ++ map f ys
map_append f [] ys = refl
map_append f (x ∷ xs) ys = ap (λ zs. f x ∷ zs) (map_append f xs ys)

-- ---- spelling

apart_before : (a b : Name) → name_cmp a b ≡ Less → labels_eq a b ≡ false
apart_before a b l = not_true (labels_eq a b) (λ e.
    not_less name_cmp name_cmp_total a (ap (name_cmp a) ((labels_decide a b).0 e) ∙ l))

module _ {N D : Type 0} (name : N → Name) where
  pass_over : (xs ys : List (Record N D)) (o : Name) → ((r : Record N D) → In r xs → labels_eq (low (name r.owner)) o ≡ false) → spelled_among name (xs ++ ys) o ≡ spelled_among name ys o
  pass_over [] ys o f = refl
  pass_over (x ∷ xs) ys o f =
      ap (λ b. if b then name x.owner else spelled_among name (xs ++ ys) o) (f x (inl refl)) ∙ pass_over xs ys o (λ r i. f r (inr i))

  spelled_first : (apex : Name) (g : List (Record N D)) (rest : List (Record N D)) → (r : Record N D) (more : List (Record N D)) → g ≡ r ∷ more → spelled_among name (g ++ rest) (group_owner name g) ≡ next_of name apex (g ∷ [])
  spelled_first apex g rest r more e =
      ap (λ h. spelled_among name (h ++ rest) (group_owner name h)) e
      ∙ ap (λ b. if b then name r.owner else spelled_among name (more ++ rest) (low (name r.owner))) (itself (low (name r.owner)))
      ∙ ap (λ h. next_of name apex (h ∷ [])) (sym e)

  spelled_there : (apex : Name) (gs : List (List (Record N D))) → ByOwner name gs → (g : List (Record N D)) → In g gs → spelled_among name (flat_map (λ g. g) gs) (group_owner name g) ≡ next_of name apex (g ∷ [])
  spelled_there apex [] o g i = absurd i
  spelled_there apex (h ∷ gs) o g i = elim i [
    | inl e ↦
        let f = o.some g (inl e) in
        ap (λ x. spelled_among name (x ++ flat_map (λ g. g) gs) (group_owner name g)) (sym e)
        ∙ spelled_first apex g (flat_map (λ g. g) gs) f.0 f.1 f.2
    | inr j ↦
        let l : name_cmp (group_owner name h) (group_owner name g) ≡ Less = o.rises.0 (group_owner name g) (in_map (group_owner name) gs g j) in
        pass_over h (flat_map (λ g. g) gs) (group_owner name g) (λ r k. ap (λ n. labels_eq n (group_owner name g)) (o.owned h (inl refl) r k) ∙ apart_before (group_owner name h) (group_owner name g) l)
        ∙ spelled_there apex gs (later_groups name h gs o) g j
  ]

  class_first : (rs : List (Record N D)) → IsOneClass rs → (r : Record N D) → In r rs → r.class ≡ class_of rs
  class_first [] c r i = absurd i
  class_first (q ∷ rs) c r i = class_at name (q ∷ rs) c r q i (inl refl)

-- ---- bits

or_swapped : (a b c : Bool) → ((a || false) || (b || (c || false))) ≡ (b || (c || (a || false)))
or_swapped true true c = refl
or_swapped true false true = refl
or_swapped true false false = refl
or_swapped false b c = refl

keys_last : (own : List ℕ) (c : Bool) → bitmap (own ++ (of_keys c ++ 46 ∷ 47 ∷ [])) ≡ bitmap (own ++ 46 ∷ 47 ∷ of_keys c)
keys_last own true = same_bits (own ++ 48 ∷ 46 ∷ 47 ∷ []) (own ++ 46 ∷ 47 ∷ 48 ∷ [])
    (λ t. any_append (nat_eq t) own (48 ∷ 46 ∷ 47 ∷ []) ∙ ap (λ b. list_any (nat_eq t) own || b) (turned (nat_eq t 48) (nat_eq t 46) (nat_eq t 47)) ∙ sym (any_append (nat_eq t) own (46 ∷ 47 ∷ 48 ∷ [])))
  where
    turned : (a b c : Bool) → (a || (b || (c || false))) ≡ (b || (c || (a || false)))
    turned true true c = refl
    turned true false true = refl
    turned true false false = refl
    turned false b c = refl
keys_last own false = refl

-- ---- the chain

module _ {O N : Type 0} (name : N → Name) (apex : Name) (rs : List (Record N (ZoneRecordData O N))) (one : IsOneClass rs) (order : IsZoneOrder name rs) where
  abbrev Rr : Type 0
  Rr = Record N (ZoneRecordData O N)

  abbrev by_data : ZoneRecordData O N → ZoneRecordData O N → Ordering
  by_data a b = slice_cmp nat_cmp (zone_canonical name a) (zone_canonical name b)

  abbrev z : Zone
  z = zone_of name zone_type (zone_canonical name) apex rs

  abbrev gs : List (List Rr)
  gs = groups (of_one_owner name) rs

  by : ByOwner name gs
  by = by_owner name zone_type by_data rs one order

  abbrev keeps : List Rr → Bool
  keeps g = is_kept z false (group_owner name g)

  abbrev ks : List (List Rr)
  ks = kept_groups name zone_type (zone_canonical name) apex false rs

  abbrev owner : List Rr → Name
  owner g = group_owner name g

  kept_up : Rises name_cmp name_cmp_total (map owner ks)
  kept_up = rises_kept owner keeps gs by.rises

  live_there : (g : List Rr) → keeps g ≡ true → is_live z (owner g) ≡ true
  live_there g k = sym (kept-live z (owner g)) ∙ k

  names_are : nsec_names z ≡ map owner ks
  names_are = rising_same name_cmp name_cmp_total (nsec_names z) (map owner ks) (sort_rises name_cmp name_cmp_total (kept_owners z false)) kept_up
      (λ o i.
      let l = live_owner z o i in
      let g = owner_of_group name zone_type (zone_canonical name) apex gs by rs (whole_of name rs) o l.0 in
      let k : keeps g.0 ≡ true = ap (is_kept z false) (sym g.1.1) ∙ kept-live z o ∙ l.1 in
      subst (λ n. In n (map owner ks)) (sym g.1.1) (in_map owner ks g.0 (in_filter keeps gs g.0 g.1.0 k)))
      (λ o i.
      let m = map_in owner ks o i in
      let f = filter_in keeps gs m.item m.inside in
      subst (λ n. In n (nsec_names z)) (sym m.makes)
      (owner_in_chain z (owner m.item) (group_owns name zone_type (zone_canonical name) apex gs by rs (whole_of name rs) m.item f.0) (live_there m.item f.1)))

  in_zone_there : (g : List Rr) → keeps g ≡ true → at_or_above (low apex) (owner g) ≡ true
  in_zone_there g k = (and_parts (at_or_above (apex_of z) (owner g)) _ (live_there g k)).0

  -- ---- one record

  module _ (dnskey : Bool) (s : SoaTtls) (soa : soa_ttls name apex rs ≡ Some s) where
    abbrev made : List Rr → ChainRecord
    made g = nsec_record name apex dnskey rs (owner g)

    cut_apart : (r : Rr) (g : List Rr) → zone_cut name zone_type apex (r ∷ g) ≡ true → same (name r.owner) apex ≡ false
    cut_apart r g e = go (same (name r.owner) apex) e
      where
        go : (b : Bool) → (Rattle.std.specs.Prelude.not b && has_type zone_type 2 (r ∷ g)) ≡ true → b ≡ false
        go true h = absurd cc
        go false h = refl

    key_bits : (b c : Bool) → of_keys (b && c) ≡ (if c then of_keys b else [])
    key_bits true true = refl
    key_bits true false = refl
    key_bits false true = refl
    key_bits false false = refl

    -- the types of an owner by what is asked of it: from its records, and from the zone
    abbrev left : Bool → Bool → Bool → List ℕ → List ℕ
    left cut ds keys ts = (if cut then 2 ∷ (if ds then 43 ∷ [] else []) else ts) ++ (of_keys keys ++ 46 ∷ 47 ∷ [])

    abbrev right : Bool → Bool → List ℕ → List ℕ → List ℕ
    right cut ds keys ts = if cut then 2 ∷ (if ds then 43 ∷ [] else []) ++ 46 ∷ 47 ∷ [] else ts ++ 46 ∷ 47 ∷ keys

    and_false : (b c : Bool) → c ≡ false → (b && c) ≡ false
    and_false true c e = e
    and_false false c e = refl

    types_by : (r : Rr) (more : List Rr) (b : Bool) → zone_cut name zone_type apex (r ∷ more) ≡ b
        → is_delegation z (owner (r ∷ more)) ≡ zone_cut name zone_type apex (r ∷ more)
        → has z (owner (r ∷ more)) 43 ≡ has_type zone_type 43 (r ∷ more)
        → types_at z (owner (r ∷ more)) ≡ map (λ r. zone_type r.content) (r ∷ more)
        → bitmap (group_types name zone_type apex dnskey (r ∷ more)) ≡ bitmap (nsec_types z dnskey (owner (r ∷ more)))
    types_by r more true e delegates ds types =
        let ts : List ℕ = map (λ r. zone_type r.content) (r ∷ more) in
        let no_keys : (dnskey && same (name r.owner) apex) ≡ false = and_false dnskey (same (name r.owner) apex) (cut_apart r more e) in
        let cut : is_delegation z (owner (r ∷ more)) ≡ true = delegates ∙ e in
        ap bitmap (λ i. left (e i) (has_type zone_type 43 (r ∷ more)) (no_keys i) ts)
        ∙ sym (ap bitmap (λ i. right (cut i) (ds i) (at_apex z (owner (r ∷ more)) (of_keys dnskey)) (types_at z (owner (r ∷ more)))))
    types_by r more false e delegates ds types =
        let ts : List ℕ = map (λ r. zone_type r.content) (r ∷ more) in
        let uncut : is_delegation z (owner (r ∷ more)) ≡ false = delegates ∙ e in
        ap bitmap (λ i. left (e i) (has_type zone_type 43 (r ∷ more)) (dnskey && same (name r.owner) apex) ts)
        ∙ keys_last ts (dnskey && same (name r.owner) apex)
        ∙ ap (λ ks. bitmap (ts ++ 46 ∷ 47 ∷ ks)) (key_bits dnskey (same (name r.owner) apex))
        ∙ sym (ap bitmap (λ i. right (uncut i) (ds i) (at_apex z (owner (r ∷ more)) (of_keys dnskey)) (types i)))

    types_first : (r : Rr) (more : List Rr) → In (r ∷ more) gs → keeps (r ∷ more) ≡ true → bitmap (group_types name zone_type apex dnskey (r ∷ more)) ≡ bitmap (nsec_types z dnskey (owner (r ∷ more)))
    types_first r more i k =
        types_by r more (zone_cut name zone_type apex (r ∷ more)) refl
        (delegates_at name zone_type (zone_canonical name) apex gs by rs (whole_of name rs) (r ∷ more) i (in_zone_there (r ∷ more) k))
        (has_at name zone_type (zone_canonical name) apex gs by rs (whole_of name rs) 43 (r ∷ more) i)
        (types_of_group name zone_type (zone_canonical name) apex gs by rs (whole_of name rs) (r ∷ more) i)

    types_are : (g : List Rr) → In g gs → keeps g ≡ true → bitmap (group_types name zone_type apex dnskey g) ≡ bitmap (nsec_types z dnskey (owner g))
    types_are g i k =
        let f = by.some g i in
        let P : List Rr → Type 0 = λ h. bitmap (group_types name zone_type apex dnskey h) ≡ bitmap (nsec_types z dnskey (owner h)) in
        subst P (sym f.2) (types_first f.0 f.1 (subst (λ h. In h gs) f.2 i) (ap keeps (sym f.2) ∙ k))

    owner_is : (g : List Rr) → In g gs → spelled_among name rs (owner g) ≡ next_of name apex (g ∷ [])
    owner_is g i = ap (λ xs. spelled_among name xs (owner g)) (sym (whole_of name rs)) ∙ spelled_there name apex gs by g i

    class_is : (g : List Rr) → In g gs → class_of g ≡ class_of rs
    class_is g i =
        let f = by.some g i in
        let there : In f.0 rs = subst (In f.0) (whole_of name rs) (in_flat (λ g. g) gs g f.0 i (subst (In f.0) (sym f.2) (inl refl))) in
        ap class_of f.2 ∙ class_first name rs one f.0 there

    -- the owner behind one that is kept isn't the apex
    not_apex : (g h : List Rr) → keeps g ≡ true → name_cmp (owner g) (owner h) ≡ Less → labels_eq (low apex) (owner h) ≡ false
    not_apex g h k l = not_true (labels_eq (low apex) (owner h)) (λ e.
        let s : low apex ≡ owner h = (labels_decide (low apex) (owner h)).0 e in
        let m : name_cmp (owner g) (low apex) ≡ Less = ap (name_cmp (owner g)) s ∙ l in
        apex_first (low apex) (owner g) (in_zone_there g k) (name_cmp_total.antisymm (low apex) (owner g) ∙ ap ordering_reverse m))

    next_spelled : (g : List Rr) (back : List (List Rr)) → keeps g ≡ true → ((h : List Rr) → In h back → In h gs × (name_cmp (owner g) (owner h) ≡ Less)) → spelled_as name apex rs (head_or (low apex) (map owner back)) ≡ next_of name apex back
    next_spelled g [] k f = ap (λ b. if b then apex else spelled_among name rs (low apex)) (itself (low apex))
    next_spelled g (h ∷ back) k f =
        let at = f h (inl refl) in
        let e = by.some h at.0 in
        ap (λ b. if b then apex else spelled_among name rs (owner h)) (not_apex g h k at.1)
        ∙ owner_is h at.0
        ∙ ap (λ x. next_of name apex (x ∷ [])) e.2
        ∙ ap (λ x. next_of name apex (x ∷ back)) (sym e.2)

    module _ (front : List (List Rr)) (g : List Rr) (back : List (List Rr)) (parts : ks ≡ front ++ g ∷ back) where
      kept_parts : Rises name_cmp name_cmp_total (map owner (front ++ g ∷ back))
      kept_parts = subst (λ xs. Rises name_cmp name_cmp_total (map owner xs)) parts kept_up

      in_kept : In g ks
      in_kept = subst (In g) (sym parts) (in_append_right front (g ∷ back) g (inl refl))

      here : In g gs × (keeps g ≡ true)
      here = filter_in keeps gs g in_kept

      later : (h : List Rr) → In h back → In h gs × (name_cmp (owner g) (owner h) ≡ Less)
      later h i = (
        (filter_in keeps gs h (subst (In h) (sym parts) (in_append_right front (g ∷ back) h (inr i)))).0,
        behind_item owner front g back kept_parts h i,
      )

      names_parts : nsec_names z ≡ map owner front ++ owner g ∷ map owner back
      names_parts = names_are ∙ ap (map owner) parts ∙ map_append owner front (g ∷ back)

      next_is : nsec_next z (owner g) ≡ head_or (low apex) (map owner back)
      next_is =
          ap (λ ns. behind labels_eq (low apex) (owner g) (links (low apex) ns)) names_parts
          ∙ behind_there (low apex) (map owner front) (owner g) (map owner back)
          (λ n i. let m = map_in owner front n i in ap (λ x. name_cmp x (owner g)) m.makes ∙ before_item owner front g back kept_parts m.item m.inside)

      ttl_is : chain_ttl s ≡ ttl_of (soa_ttls name apex rs)
      ttl_is = ap ttl_of (sym soa)

      record_is : group_record name zone_type apex (chain_ttl s) dnskey g (next_of name apex back) ≡ made g
      record_is = λ i. record {
        owner = sym (owner_is g here.0) i;
        class = class_is g here.0 i;
        ttl = ttl_is i;
        next = sym (ap (spelled_as name apex rs) next_is ∙ next_spelled g back here.1 later) i;
        types = types_are g here.0 here.1 i;
      }

    records_from : (front back : List (List Rr)) → ks ≡ front ++ back → group_records name zone_type apex (chain_ttl s) dnskey back ≡ map made back
    records_from front [] e = refl
    records_from front (g ∷ back) e =
        let rest = records_from (front ++ g ∷ []) back (e ∙ sym (append_assoc front (g ∷ []) back)) in
        λ i. record_is front g back e i ∷ rest i

    pub chain_is : group_records name zone_type apex (chain_ttl s) dnskey ks ≡ nsec_chain name apex dnskey rs
    chain_is = records_from [] ks refl ∙ sym (map_map owner (nsec_record name apex dnskey rs) ks) ∙ ap (map (nsec_record name apex dnskey rs)) (sym names_are)

    -- what is made of the groups, where they and the TTL are those of the zone
    pub made_chain : (ttl : ℕ) → ttl ≡ chain_ttl s → (owners : List (List Rr)) → owners ≡ ks → (made : List ChainRecord) → made ≡ group_records name zone_type apex ttl dnskey owners → made ≡ nsec_chain name apex dnskey rs
    made_chain ttl t owners e made m = m ∙ (λ i. group_records name zone_type apex (t i) dnskey (e i)) ∙ chain_is

    -- the apex has records
    soa_there : (xs : List Rr) → ttls_of_one xs ≡ Some s → (r : Rr) × In r xs
    soa_there [] e = absurd cc
    soa_there (r ∷ xs) e = (r, inl refl)

    apex_owns : Contains (owners z) (apex_of z)
    apex_owns =
        let r = soa_there (filter (is_at name zone_type apex 6) rs) soa in
        let f = filter_in (is_at name zone_type apex 6) rs r.0 r.1 in
        let e : low (name r.0.owner) ≡ low apex = (labels_decide (low (name r.0.owner)) (low apex)).0 (and_parts (nat_eq (zone_type r.0.content) 6) (same (name r.0.owner) apex) f.1).1 in
        let there : In (low (name r.0.owner)) (owners z) = in_map owner_of z.records (Rattle.denial_chain_owners.specs.Zones.rr_of name zone_type (zone_canonical name) r.0) (in_map (Rattle.denial_chain_owners.specs.Zones.rr_of name zone_type (zone_canonical name)) rs r.0 f.0) in
        contained (owners z) (apex_of z) (subst (λ n. In n (owners z)) e there)

    pub chain_speaks : IsNsecChain z
    chain_speaks = one_nsec_record_speaks z apex_owns
