-- The RRsets of a zone's own answer, verdict by verdict: those in front of the chain's records, and which of them is the RRset
-- of the zone's own facts.
use Rattle.std.proofs.Common.{◌≡◌, ℕ, ◌<◌, ◌≤◌, Bool, true, false, ◌&&◌, ◌||◌, not, List, [], ◌∷◌, ◌++◌, map, length, Option, Some, None, eqb, refl, sym, ap, subst, ◌∙◌, inl, arith}
use Rattle.std.specs.Prelude.{◌==◌, nat_lt, if◌then◌else◌}
use Rattle.std.specs.List.{AllByRecursion, filter, list_any}
use Rattle.std.specs.Str.{str_to_ascii_lowercase}
use Rattle.std.proofs.lemmas.Bool.{and_from, and_left, and_parts, and_right, eqb-true, false_from_ne_true, false≢true, le-leb, not-true, or_from, or_right}
use Rattle.std.proofs.lemmas.List.{length-map}
use Rattle.definitions.specs.Name.{Name, labels_eq, low, same, at_or_above}
use Rattle.definitions.specs.Signing.{label_count}
use Rattle.definitions.specs.Zone.{Zone, Rr, Verdict, Records, NoType, StarRecords, Delegated, Open, apex_of, has, is_of, is_delegation, is_live, exists, kept, kept_cut_above, is_open, ce, cut, data_at, sorted_data, star_under, verdict}
use Rattle.definitions.specs.ZoneChain.{Mode, optout_of}
use Rattle.definitions.proofs.Members.{any_of, in_filter, in_map}
use Rattle.definitions.proofs.ZoneNames.{apex_in_chain, low-low}
use Rattle.denial_laws.specs.Facts.{Rrset}
use Rattle.denial_laws.specs.OwnFacts.{own_rrset, own_star}
use Rattle.denial_laws.specs.Truth.{IsServable, is_signed}
use Rattle.denial_laws.proofs.OwnRrset.{starred, own_expanded, own_star_true}
use Rattle.denial_laws.proofs.VerdictView.{View, Signed, Missing, Cut, Starred, Unstarred, Gone, view}
use Rattle.denial_laws.proofs.ZoneCuts.{cut_is, delegation_low}
use Rattle.messages.specs.HandedRr.{HandedRr}
use Rattle.messages.proofs.Lists.{Has, eqb-back}
use Rattle.messages.proofs.ZoneNames.{same_labels}
use Rattle.answer_terms.specs.Accepting.{zone_with}
use Rattle.answer_terms.specs.Served.{ServedRrset, Served, ahead, ahead_open, expanded, if_any, owner_among, rrset, served_of, soa, under, unsigned_ns}
use Rattle.answer_terms.proofs.ZoneData.{label_count-low, low-owner_among}
use Rattle.answer_judge_facts.specs.Trusted.{may_expand}
use Rattle.answer_judge.proofs.GivenGroups.{has_twins, is_nsec, is_nsec3, is_rrset}
use Rattle.answer_judge.proofs.GivenRrset.{is_ordinary, is_signed_rrset}
use Rattle.answer_judge.proofs.GivenSignatures.{fits_equal, fits_owner}
use Rattle.answer_judge_facts.proofs.GivenSorted.{data_has, in_has, some_length, sorted_twice}

-- the RRset of the question, signed, and what it proves
pub record IsRrsetOf (apex q : Name) (t : ℕ) (g : ServedRrset) (r : Rrset) : Type 0 where
  pub signed : g.signed ≡ true
  pub some : 0 < length g.datas
  pub fits : fits_owner apex g ≡ true
  pub sorted : sorted_data g.datas ≡ g.datas
  pub rtype_is : g.rtype ≡ t
  pub owner_is : low g.owner ≡ low q
  pub is : record { datas = g.datas; labels = label_count g.source } ≡ r

-- one of the RRsets is it, or none
abbrev pub Proves : Name → Name → ℕ → List ServedRrset → Option Rrset → Type 0
Proves apex q t gs None = list_any (is_signed_rrset q t) gs ≡ false
Proves apex q t gs (Some r) = (g : ServedRrset) × Has gs g × IsRrsetOf apex q t g r

-- what stands in front of the chain's records
pub record IsFront (apex q : Name) (t : ℕ) (front : List ServedRrset) (r : Option Rrset) : Type 0 where
  pub ordinary : AllByRecursion is_ordinary front
  pub beside : AllByRecursion (λ g. is_nsec g ≡ false) front
  pub unhashed : AllByRecursion (λ g. is_nsec3 g ≡ false) front
  pub alone : has_twins front ≡ false
  pub proves : Proves apex q t front r

-- what a type has is some data
pub some_data : (z : Zone) (o : Name) (t : ℕ) → has z o t ≡ true → 0 < length (data_at z o t)
some_data z o t h =
    let r = any_of (is_of o t) z.records h in
    let there = in_map (λ (r : Rr). r.bytes) (filter (is_of o t) z.records) r.0 (in_filter (is_of o t) z.records r.0 r.1.0 r.1.1) in
    some_length (data_at z o t) r.0.bytes (data_has (map (λ (r : Rr). r.bytes) (filter (is_of o t) z.records)) r.0.bytes (in_has _ _ there))

module _ (apex : Name) (mode : Mode) (hash : Name → List ℕ) (rs : List HandedRr) (q : Name) (t : ℕ) (servable : IsServable (zone_with apex rs)) (soa_there : has (zone_with apex rs) (low apex) 6 ≡ true)
    (not_rrsig : eqb t 46 ≡ false) (not_nsec : eqb t 47 ≡ false) (not_nsec3 : eqb t 50 ≡ false) where
  abbrev z : Zone
  z = zone_with apex rs

  abbrev s : Served
  s = served_of apex mode hash rs

  -- what stands in front where this is the verdict, and the RRset of the zone's own facts
  abbrev Front : Verdict → Type 0
  Front v = IsFront apex q t (ahead s q t v) (own_rrset z q t v)

  -- ---- an RRset of the question's name and type

  -- one RRset of the zone, under the question's name
  asked_front : (o : Name) (r : Rrset) → has z o t ≡ true → fits_owner apex (under q (rrset s o t)) ≡ true → record { datas = data_at z o t; labels = label_count o } ≡ r → IsFront apex q t (under q (rrset s o t) ∷ []) (Some r)
  asked_front o r h fits is = record {
    ordinary = (not_rrsig, tt);
    beside = (not_nsec, tt);
    unhashed = (not_nsec3, tt);
    alone = refl;
    proves = (
      under q (rrset s o t),
      inl refl,
      record { signed = refl; some = some_data z o t h; fits = fits; sorted = sorted_twice (map (λ (r : Rr). r.bytes) (filter (is_of o t) z.records)); rtype_is = refl; owner_is = refl; is = is },
    );
  }

  own_signed : is_signed z (low q) t ≡ true → Front (Records (data_at z (low q) t))
  own_signed h =
      asked_front (low q) _ (and_parts (is_live z (low q) && (not (is_delegation z (low q)) || (t == 43))) (has z (low q) t) h).1
      (fits_equal apex (under q (rrset s (low q) t)) (label_count-low q))
      (ap (λ n. record { datas = data_at z (low q) t; labels = n }) (label_count-low q))

  module _ (e : Name) (x : exists z (low q) ≡ false) (c : ce z (low q) ≡ Some e) (h : is_signed z (star_under e) t ≡ true) where
    star_fits : fits_owner apex (under q (rrset s (star_under e) t)) ≡ true
    star_fits =
        let wider = own_expanded z q e t x c h in
        let inside : length (low apex) ≤ length e = (own_star_true z q e t x c h).inside wider in
        let long : length apex ≤ length e = (let same : length (low apex) ≡ length apex = length-map apex str_to_ascii_lowercase in omega (arith, inside, same)) in
        or_right (label_count (star_under e) == label_count q) _
        (and_from _ _ (and_from (may_expand t) (nat_lt (length e) (label_count q)) (λ i. not (not_nsec i) && not (not_nsec3 i)) wider) (le-leb (length apex) (length e) long))

    -- expanded from the wildcard under the closest encloser
    abbrev by_encloser : Option Name → Type 0
    by_encloser o =
        IsFront apex q t (elim o as (λ _. List ServedRrset) [ None ↦ [] | Some n ↦ expanded s (star_under n) q t ])
        (elim o as (λ _. Option Rrset) [ None ↦ None | Some n ↦ Some (record { datas = data_at z (star_under e) t; labels = length n }) ])

    own_starred : Front (StarRecords (data_at z (star_under e) t))
    own_starred =
        subst by_encloser (sym c)
        (asked_front (star_under e) (starred z e t) (and_parts (is_live z (star_under e) && (not (is_delegation z (star_under e)) || (t == 43))) (has z (star_under e) t) h).1 star_fits refl)

  -- ---- without one

  -- the SOA record alone is in front
  soa_front : (t ≡ 6 → low q ≡ low apex → ⊥) → IsFront apex q t (soa s ∷ []) None
  soa_front other = record {
    ordinary = (refl, tt);
    beside = (refl, tt);
    unhashed = (refl, tt);
    alone = refl;
    proves = or_from _ _ (and_left (is_rrset q t (soa s)) true (false_from_ne_true _ (λ y.
        let both = and_parts (eqb 6 t) (same (owner_among rs (low apex) 6) q) y in
        other (sym (eqb-true 6 t both.0)) (sym (same_labels (low (owner_among rs (low apex) 6)) (low q) both.1) ∙ low-owner_among rs apex 6)))) refl;
  }

  own_missing : has z (low q) t ≡ false → Front NoType
  own_missing h = soa_front (λ six is. false≢true (sym h ∙ (λ i. has z (is i) (six i)) ∙ soa_there))

  own_gone : exists z (low q) ≡ false → IsFront apex q t (soa s ∷ []) None
  own_gone x = soa_front (λ six is. false≢true (sym x ∙ ap (exists z) is ∙ apex_in_chain z false servable.apex))

  -- ---- at or below a delegation

  abbrev unsigned : Name → ServedRrset
  unsigned c = record (rrset s c 2) { signed = false }

  -- NS without a signature proves nothing
  unasked : (c : Name) → is_signed_rrset q t (unsigned c) ≡ false
  unasked c = and_right (is_rrset q t (unsigned c)) false refl

  ns_front : (c : Name) → IsFront apex q t (unsigned_ns s c) None
  ns_front c = record { ordinary = (refl, tt); beside = (refl, tt); unhashed = (refl, tt); alone = refl; proves = or_from _ _ (unasked c) refl }

  -- with it DS where the delegation has it, which is not asked for
  ds_front : (c : Name) → low c ≡ c → (labels_eq c (low q) && (t == 43)) ≡ false → IsFront apex q t (unsigned_ns s c ++ if_any s c 43) None
  ds_front c lc n = go (has z c 43)
    where
      owner : low (owner_among rs c 43) ≡ c
      owner = ap (λ m. low (owner_among rs m 43)) (sym lc) ∙ low-owner_among rs c 43 ∙ lc

      ds : is_signed_rrset q t (rrset s c 43) ≡ false
      ds = and_left (is_rrset q t (rrset s c 43)) true (false_from_ne_true _ (λ y.
          let both = and_parts (eqb 43 t) (same (owner_among rs c 43) q) y in
          false≢true (sym n ∙ and_from _ _ (ap (λ m. labels_eq m (low q)) (sym owner) ∙ both.1) (eqb-back t 43 ∙ both.0))))

      go : (b : Bool) → IsFront apex q t (unsigned c ∷ (if b then rrset s c 43 ∷ [] else [])) None
      go true = record { ordinary = (refl, (refl, tt)); beside = (refl, (refl, tt)); unhashed = (refl, (refl, tt)); alone = refl; proves = or_from _ _ (unasked c) (or_from _ _ ds refl) }
      go false = ns_front c

  own_cut : (c : Name) → cut z (low q) ≡ Some c → (labels_eq c (low q) && (t == 43)) ≡ false → Front Delegated
  own_cut c e n =
      subst (λ (o : Option Name). IsFront apex q t (elim o as (λ _. List ServedRrset) [ None ↦ [] | Some d ↦ unsigned_ns s d ++ if_any s d 43 ]) None) (sym e)
      (ds_front c (delegation_low z c (cut_is z (low q) c (low-low q) e).delegation) n)

  -- ---- where nothing is left open

  told_front : View z q t → Front (verdict z false q t)
  told_front (Signed h v) = subst Front (sym v) (own_signed h)
  told_front (Missing x h v) = subst Front (sym v) (own_missing h)
  told_front (Cut c e n v) = subst Front (sym v) (own_cut c e n)
  told_front (Starred e x c h v) = subst Front (sym v) (own_starred e x c h)
  told_front (Unstarred e x c y h v) = subst Front (sym v) (own_gone x)
  told_front (Gone e x c y v) = subst Front (sym v) (own_gone x)

  -- ---- where opt-out leaves it open

  abbrev OpenFront : Verdict → Type 0
  OpenFront v = IsFront apex q t (ahead_open s q t v) (own_star z q v)

  module _ (open_there : is_open z (optout_of mode) (low q) ≡ true) where
    not_apex : t ≡ 6 → low q ≡ low apex → ⊥
    not_apex six is =
        let gone = (and_parts (optout_of mode) (not (kept z (optout_of mode) (low q))) (and_parts (optout_of mode && not (kept z (optout_of mode) (low q))) (not (kept_cut_above z (optout_of mode) (low q))) open_there).0).1 in
        false≢true (sym (not-true (kept z (optout_of mode) (low q)) gone) ∙ ap (kept z (optout_of mode)) is ∙ apex_in_chain z (optout_of mode) servable.apex)

    -- a delegation that is left out, or none
    by_cut : (o : Option Name) → IsFront apex q t (elim o as (λ _. List ServedRrset) [ None ↦ soa s ∷ [] | Some c ↦ if labels_eq c (low q) && (t == 43) then soa s ∷ [] else unsigned_ns s c ]) None
    by_cut None = soa_front not_apex
    by_cut (Some c) = go (labels_eq c (low q) && (t == 43))
      where
        go : (b : Bool) → IsFront apex q t (if b then soa s ∷ [] else unsigned_ns s c) None
        go true = soa_front not_apex
        go false = ns_front c

    open_front : View z q t → OpenFront (verdict z false q t)
    open_front (Signed h v) = subst OpenFront (sym v) (by_cut (cut z (low q)))
    open_front (Missing x h v) = subst OpenFront (sym v) (by_cut (cut z (low q)))
    open_front (Cut c e n v) = subst OpenFront (sym v) (by_cut (cut z (low q)))
    open_front (Starred e x c h v) = subst OpenFront (sym v) (own_starred e x c h)
    open_front (Unstarred e x c y h v) = subst OpenFront (sym v) (by_cut (cut z (low q)))
    open_front (Gone e x c y v) = subst OpenFront (sym v) (by_cut (cut z (low q)))

  -- ---- whatever the verdict is

  abbrev if_open : Bool → Verdict
  if_open b = elim b [ true ↦ Open | false ↦ verdict z false q t ]

  pub own_front : at_or_above (apex_of z) (low q) ≡ true → Front (verdict z (optout_of mode) q t)
  own_front a = go (is_open z (optout_of mode) (low q)) refl
    where
      go : (b : Bool) → is_open z (optout_of mode) (low q) ≡ b → Front (if_open b)
      go true e = open_front e (view z servable q t a)
      go false e = told_front (view z servable q t a)
