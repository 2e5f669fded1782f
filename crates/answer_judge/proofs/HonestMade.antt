-- What a publisher signs: the RRset of its keys, one of the zone's RRsets, or one of its chain.
use Rattle.std.proofs.Common.{◌≡◌, ℕ, ◌<◌, Bool, true, false, ◌&&◌, ◌||◌, not, List, [], ◌∷◌, ◌++◌, map, length, Option, Some, None, refl, sym, ap, subst, ◌∙◌, inl, inr, arith, lit<}
use Rattle.std.specs.Prelude.{◌==◌, Contains, if◌then◌else◌}
use Rattle.std.specs.List.{AllByRecursion, filter, list_any}
use Rattle.std.proofs.lemmas.Bool.{and_from, and_parts, eqb-true, false_from_ne_true, false≢true, ltb-true, or_right}
use Rattle.definitions.specs.Base32hex.{base32hex}
use Rattle.definitions.specs.Dnskey.{Dnskey}
use Rattle.definitions.specs.Name.{Name, IsName, labels_eq, low, at_or_above, strictly_above}
use Rattle.definitions.specs.Signing.{label_count, signed_owner}
use Rattle.definitions.specs.Zone.{Zone, Rr, Verdict, Records, StarRecords, Delegated, Open, apex_of, has, is_of, is_delegation, is_live, exists, is_open, ce, cut, data_at, star_under, verdict}
use Rattle.definitions.specs.ZoneChain.{Mode, Nsec, Nsec3, hash_cmp, hashed_names, nsec_names, nsec3_names, optout_of}
use Rattle.definitions.proofs.Members.{any_of}
use Rattle.definitions.proofs.ZoneNames.{above_itself, above_lowered, low-low}
use Rattle.denial_nsec3_hash.specs.Hashing.{FitsName}
use Rattle.denial_laws.specs.Truth.{IsServable, is_signed}
use Rattle.denial_laws.proofs.NameFacts.{strictly_shorter}
use Rattle.denial_laws.proofs.OwnRrset.{own_records_true, own_star_owner, own_star_true}
use Rattle.denial_laws.proofs.VerdictView.{View, Signed, Missing, Cut, Starred, Unstarred, Gone, view}
use Rattle.denial_laws.proofs.ZoneCuts.{ce_lowered, IsCut, cut_is, cut_live, delegation_low, uncut_live}
use Rattle.messages.specs.Handed.{IsHanded}
use Rattle.messages.specs.HandedRr.{HandedRr}
use Rattle.messages.proofs.Lists.{Has, all_at}
use Rattle.answer_terms.specs.Accepting.{rr_of, sorted_records, zone_of, zone_with}
use Rattle.answer_terms.specs.Chainable.{HasChain}
use Rattle.answer_terms.specs.Hashing.{Hasher, hash_in}
use Rattle.answer_terms.specs.Made.{Content, OfKeys, OfZone, IsOf, groups_of}
use Rattle.answer_terms.specs.Served.{ServedRrset, Served, ahead, ahead_open, chain_names, chain_record, expanded, if_any, key_group, keys_ttl, owner_among, proofs_of, rrset, served_of, served_owner, soa, speaks_for, spoken, under, unsigned_ns}
use Rattle.answer_terms.proofs.HashedLinks.{apex_spelled}
use Rattle.answer_terms.proofs.Servable.{asked_inside}
use Rattle.answer_terms.proofs.ZoneCutNames.{cut_name}
use Rattle.answer_terms.proofs.ZoneData.{label_count-low, low-owner_among}
use Rattle.answer_terms.proofs.ZoneNaming.{chain_named, first_name, lower_name, owner_name}
use Rattle.answer_judge.proofs.GivenFacts.{from_joined}
use Rattle.answer_judge.proofs.GivenLists.{contained_has}
use Rattle.answer_judge_facts.proofs.GivenSorted.{filter_from, in_has, sorted_from}
use Rattle.answer_judge_facts.proofs.KeptItems.{has_from_map}
use Rattle.answer_judge.proofs.HonestTold.{owner_whole}
use Rattle.answer_judge.proofs.OwnAnswer.{some_data}

-- ---- lists

pub signed_only : {A : Type 0} (b : Bool) (xs : List A) (x : A) → Has (if b then xs else []) x → (b ≡ true) × Has xs x
signed_only true xs x h = (refl, h)
signed_only false xs x h = absurd h

-- ---- kinds of RRsets

-- one that the zone has signed, under the owner that its label count is of
pub record IsZoneGroup (z : Zone) (g : ServedRrset) : Type 0 where
  pub named : IsName g.owner
  pub signed : is_signed z (signed_owner (label_count g.source) g.owner) g.rtype ≡ true
  pub datas : g.datas ≡ data_at z (signed_owner (label_count g.source) g.owner) g.rtype
  pub source_is : signed_owner (label_count g.source) g.owner ≡ low g.source

pub data Kind (s : Served) (apex : Name) (published : List Dnskey) (g : ServedRrset) : Type 0 where
  KeyKind : (present : List Dnskey) → AllByRecursion (Contains published) present → g ≡ key_group apex (keys_ttl s) present → Kind s apex published g
  ZoneKind : IsZoneGroup s.zone g → Kind s apex published g
  ChainKind : (o : Name) → Has (chain_names s) o → g ≡ chain_record s o → Kind s apex published g

module _ (apex : Name) (mode : Mode) (hash : Name → List ℕ) (rs : List HandedRr) (servable : IsServable (zone_with apex rs)) (soa_there : has (zone_with apex rs) (low apex) 6 ≡ true) (apex_is : IsName apex) (handed : AllByRecursion IsHanded rs) where
  abbrev z : Zone
  z = zone_with apex rs

  abbrev s : Served
  s = served_of apex mode hash rs

  -- one that is signed is one of the zone's
  abbrev Part : ServedRrset → Type 0
  Part g = g.signed ≡ true → IsZoneGroup z g

  -- an RRset of the zone as its records spell it
  whole_part : (o : Name) (t : ℕ) → served_owner rs o t ≡ owner_among rs o t → low o ≡ o → IsName o → is_signed z o t ≡ true → Part (rrset s o t)
  whole_part o t e lower name h = λ _.
      let owner : low (served_owner rs o t) ≡ o = ap low e ∙ ap (λ m. low (owner_among rs m t)) (sym lower) ∙ low-owner_among rs o t ∙ lower in
      let count : label_count o ≡ label_count (served_owner rs o t) = ap label_count (sym owner) ∙ label_count-low (served_owner rs o t) in
      let is : signed_owner (label_count o) (served_owner rs o t) ≡ o = owner_whole (label_count o) (served_owner rs o t) count ∙ owner in
      record {
        named = subst IsName (sym e) (owner_name rs o t handed name);
        signed = ap (λ n. is_signed z n t) is ∙ h;
        datas = ap (λ n. data_at z n t) (sym is);
        source_is = is ∙ sym lower;
      }

  none_above_apex : (d : Name) → is_delegation z d ≡ true → strictly_above d (low apex) ≡ true → ⊥
  none_above_apex d h a =
      let below : length (low apex) < length d = strictly_shorter (low apex) d (and_parts (has z d 2) (strictly_above (low apex) d) h).1 in
      let above : length d < length (low apex) = strictly_shorter d (low apex) a in
      omega arith

  apex_signed : is_signed z (low apex) 6 ≡ true
  apex_signed =
      let live : is_live z (low apex) ≡ true = uncut_live z (low apex) (low-low apex) (above_itself (low apex)) none_above_apex in
      let plain : is_delegation z (low apex) ≡ false = false_from_ne_true (is_delegation z (low apex)) (λ h.
      let below : length (low apex) < length (low apex) = strictly_shorter (low apex) (low apex) (and_parts (has z (low apex) 2) (strictly_above (low apex) (low apex)) h).1 in
      omega arith) in
      and_from _ _ (and_from _ _ live (ap (λ b. not b || (6 == 43)) plain)) soa_there

  soa_part : Part (soa s)
  soa_part = whole_part (low apex) 6 refl (low-low apex) (lower_name apex apex_is) apex_signed

  module _ (q : Name) (t : ℕ) (name : IsName q) where
    abbrev Parts : Verdict → Type 0
    Parts v = AllByRecursion Part (ahead s q t v)

    signed_parts : is_signed z (low q) t ≡ true → Parts (Records (data_at z (low q) t))
    signed_parts h =
        let r = own_records_true z q t h in (
          (λ _. record {
            named = name;
            signed = ap (λ n. is_signed z (signed_owner n q) t) (label_count-low q) ∙ r.signed;
            datas = r.datas ∙ ap (λ n. data_at z (signed_owner n q) t) (sym (label_count-low q));
            source_is = owner_whole (label_count (low q)) q (label_count-low q) ∙ sym (low-low q);
          }),
          tt,
        )

    star_parts : (e : Name) → exists z (low q) ≡ false → ce z (low q) ≡ Some e → is_signed z (star_under e) t ≡ true → Parts (StarRecords (data_at z (star_under e) t))
    star_parts e x c h =
        let r = own_star_true z q e t x c h in
        let owner : signed_owner (length e) q ≡ star_under e = own_star_owner z q e t x c h in
        let lower : low (star_under e) ≡ star_under e = ap star_under (ce_lowered z (low q) e (low-low q) c) in
        let part : Part (under q (rrset s (star_under e) t)) = λ _. record { named = name; signed = r.signed; datas = r.datas; source_is = owner ∙ sym lower } in
        subst (λ (o : Option Name). AllByRecursion Part (elim o as (λ _. List ServedRrset) [ None ↦ [] | Some n ↦ expanded s (star_under n) q t ])) (sym c) (part, tt)

    -- NS of a delegation is not signed
    unsigned_part : (c : Name) → AllByRecursion Part (unsigned_ns s c)
    unsigned_part c = ((λ e. absurd (false≢true e)), tt)

    ds_part : (c : Name) → cut z (low q) ≡ Some c → AllByRecursion Part (if_any s c 43)
    ds_part c e = go (has z c 43) refl
      where
        k : IsCut z (low q) c
        k = cut_is z (low q) c (low-low q) e

        go : (b : Bool) → has z c 43 ≡ b → AllByRecursion Part (if b then rrset s c 43 ∷ [] else [])
        go true h = (
          whole_part c 43 refl (delegation_low z c k.delegation) (cut_name z (low q) c (lower_name q name) e)
              (and_from _ _ (and_from _ _ (cut_live z (low q) c k) (or_right (not (is_delegation z c)) true refl)) h),
          tt,
        )
        go false h = tt

    cut_parts : (c : Name) → cut z (low q) ≡ Some c → Parts Delegated
    cut_parts c e =
        subst (λ (o : Option Name). AllByRecursion Part (elim o as (λ _. List ServedRrset) [ None ↦ [] | Some d ↦ unsigned_ns s d ++ if_any s d 43 ])) (sym e)
        ((unsigned_part c).0, ds_part c e)

    told_parts : View z q t → Parts (verdict z false q t)
    told_parts (Signed h v) = subst Parts (sym v) (signed_parts h)
    told_parts (Missing x h v) = subst Parts (sym v) (soa_part, tt)
    told_parts (Cut c e n v) = subst Parts (sym v) (cut_parts c e)
    told_parts (Starred e x c h v) = subst Parts (sym v) (star_parts e x c h)
    told_parts (Unstarred e x c y h v) = subst Parts (sym v) (soa_part, tt)
    told_parts (Gone e x c y v) = subst Parts (sym v) (soa_part, tt)

    -- ---- where opt-out leaves it open

    abbrev OpenParts : Verdict → Type 0
    OpenParts v = AllByRecursion Part (ahead_open s q t v)

    by_cut : (o : Option Name) → AllByRecursion Part (elim o as (λ _. List ServedRrset) [ None ↦ soa s ∷ [] | Some c ↦ if labels_eq c (low q) && (t == 43) then soa s ∷ [] else unsigned_ns s c ])
    by_cut None = (soa_part, tt)
    by_cut (Some c) = go (labels_eq c (low q) && (t == 43))
      where
        go : (b : Bool) → AllByRecursion Part (if b then soa s ∷ [] else unsigned_ns s c)
        go true = (soa_part, tt)
        go false = unsigned_part c

    open_parts : View z q t → OpenParts (verdict z false q t)
    open_parts (Signed h v) = subst OpenParts (sym v) (by_cut (cut z (low q)))
    open_parts (Missing x h v) = subst OpenParts (sym v) (by_cut (cut z (low q)))
    open_parts (Cut c e n v) = subst OpenParts (sym v) (by_cut (cut z (low q)))
    open_parts (Starred e x c h v) = subst OpenParts (sym v) (star_parts e x c h)
    open_parts (Unstarred e x c y h v) = subst OpenParts (sym v) (by_cut (cut z (low q)))
    open_parts (Gone e x c y v) = subst OpenParts (sym v) (by_cut (cut z (low q)))

    all_parts : at_or_above (apex_of z) (low q) ≡ true → Parts (verdict z (optout_of mode) q t)
    all_parts a = go (is_open z (optout_of mode) (low q))
      where
        go : (b : Bool) → Parts (elim b as (λ _. Verdict) [ true ↦ Open | false ↦ verdict z false q t ])
        go true = open_parts (view z servable q t a)
        go false = told_parts (view z servable q t a)

  -- ---- whichever message it is of

  chain_part : (published : List Dnskey) (qs : List Name) (g : ServedRrset) → Has (proofs_of s qs) g → Kind s apex published g
  chain_part published qs g h =
      let o = has_from_map (chain_record s) (filter (λ o. list_any (speaks_for s o) qs) (chain_names s)) g h in
      ChainKind o.0 (filter_from (λ o. list_any (speaks_for s o) qs) (chain_names s) o.0 o.1) o.2

  pub kind_of : (published : List Dnskey) (c : Content) (g : ServedRrset) → IsOf apex published c → Has (groups_of s apex c) g → g.signed ≡ true → Kind s apex published g
  kind_of published (OfKeys present) g of h signed = elim h [
    | inl e ↦ KeyKind present of e
    | inr i ↦ absurd i
  ]
  kind_of published (OfZone asked) g of h signed =
      let q : Name = asked.name in
      let t : ℕ = asked.rtype in
      let v : Verdict = verdict z (optout_of mode) q t in
      let inside : at_or_above (apex_of z) (low q) ≡ true = above_lowered (low apex) q ∙ (asked_inside apex asked of.1).inside rs in
      elim (from_joined (ahead s q t v) (proofs_of s (spoken s (low q) (verdict z false q t) v)) g h) [
        | inl i ↦ ZoneKind (all_at Part (ahead s q t v) g (all_parts q t of.0.name inside) i signed)
        | inr i ↦ chain_part published (spoken s (low q) (verdict z false q t) v) g i
      ]

-- ---- what is said of an RRset's octets

-- RRSIG fields have room for its type, a name owns it, and it has a record
pub record IsRoomy (g : ServedRrset) : Type 0 where
  pub small : g.rtype < 65536
  pub named : IsName g.owner
  pub some : 0 < length g.datas

type_small : (rs : List HandedRr) → AllByRecursion IsHanded rs → (x : Rr) → Has (map rr_of rs) x → x.rtype < 65536
type_small [] h x i = absurd i
type_small (r ∷ rs) h x i = elim i [
  | inl e ↦ subst (λ (y : Rr). y.rtype < 65536) (sym e) h.0.rtype
  | inr j ↦ type_small rs h.1 x j
]

pub signed_has : (z : Zone) (o : Name) (t : ℕ) → is_signed z o t ≡ true → has z o t ≡ true
signed_has z o t h = (and_parts (is_live z o && (not (is_delegation z o) || (t == 43))) (has z o t) h).1

zone_roomy : (apex : Name) (rs : List HandedRr) → AllByRecursion IsHanded rs → (g : ServedRrset) → IsZoneGroup (zone_with apex rs) g → IsRoomy g
zone_roomy apex rs handed g is =
    let z : Zone = zone_with apex rs in
    let o : Name = signed_owner (label_count g.source) g.owner in
    let there = signed_has z o g.rtype is.signed in
    let r = any_of (is_of o g.rtype) z.records there in
    let kind : r.0.rtype ≡ g.rtype = eqb-true r.0.rtype g.rtype (and_parts (labels_eq (low r.0.spelled) o) (r.0.rtype == g.rtype) r.1.1).1 in
    record {
      small = subst (λ n. n < 65536) kind (type_small rs handed r.0 (in_has z.records r.0 r.1.0));
      named = is.named;
      some = subst (λ ds. 0 < length ds) (sym is.datas) (some_data z o g.rtype there);
    }

-- the owners of a chain of hashes are names
abbrev pub ChainFits : Name → Mode → (Name → List ℕ) → List HandedRr → Type 0
ChainFits apex Nsec hash rs = Unit {0}
ChainFits apex (Nsec3 iterations salt optout) hash rs = (o : Name) → Has (hashed_names hash (zone_with apex rs) optout) o → FitsName apex (hash o)

chain_roomy : (apex : Name) (mode : Mode) (hash : Name → List ℕ) (rs : List HandedRr) → AllByRecursion IsHanded rs → ChainFits apex mode hash rs → (o : Name) → Has (chain_names (served_of apex mode hash rs)) o → IsRoomy (chain_record (served_of apex mode hash rs) o)
chain_roomy apex Nsec hash rs handed fits o i = record {
  small = lit< tt;
  named = first_name rs o handed (all_at IsName (nsec_names (zone_with apex rs)) o (chain_named apex rs handed) i);
  some = lit< tt;
}
chain_roomy apex (Nsec3 iterations salt optout) hash rs handed fits o i = record {
  small = lit< tt;
  named = subst (λ n. IsName (base32hex (hash o) ∷ n)) (sym (apex_spelled apex rs)) (fits o i);
  some = lit< tt;
}

pub kind_roomy : (apex : Name) (mode : Mode) (hash : Name → List ℕ) (rs : List HandedRr) → IsName apex → AllByRecursion IsHanded rs → ChainFits apex mode hash rs → (published : List Dnskey) (g : ServedRrset) → g.signed ≡ true → Kind (served_of apex mode hash rs) apex published g → IsRoomy g
kind_roomy apex mode hash rs apex_is handed fits published g signed (KeyKind present of e) =
    subst IsRoomy (sym e) (record { small = lit< tt; named = apex_is; some = ltb-true _ _ (ap (λ (x : ServedRrset). x.signed) (sym e) ∙ signed) })
kind_roomy apex mode hash rs apex_is handed fits published g signed (ZoneKind is) = zone_roomy apex rs handed g is
kind_roomy apex mode hash rs apex_is handed fits published g signed (ChainKind o i e) = subst IsRoomy (sym e) (chain_roomy apex mode hash rs handed fits o i)

-- an accepted zone's hashes fit names
pub chain_fits : (hash : Hasher) (apex : Name) (mode : Mode) (rs : List HandedRr) → HasChain hash mode (zone_of apex rs) → ChainFits apex mode (hash_in hash mode) (sorted_records rs)
chain_fits hash apex Nsec rs c = tt
chain_fits hash apex (Nsec3 iterations salt optout) rs c = λ o i.
    let name : Name → List ℕ = hash_in hash (Nsec3 iterations salt optout) in
    let inside : Has (nsec3_names (zone_of apex rs) optout) o = sorted_from (λ x y. hash_cmp (name x) (name y)) (nsec3_names (zone_of apex rs) optout) o i in
    c.fit o (contained_has (nsec3_names (zone_of apex rs) optout) o inside)
