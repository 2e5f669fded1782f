-- Bitmaps of RRSIG and NSEC at most have no other type, and a name of a zone has another.
use Rattle.std.proofs.Common.{◌≡◌, ℕ, ◌<◌, Bool, true, false, ◌||◌, cond, List, [], ◌∷◌, refl, sym, ap, ◌∙◌, ◌⊎◌, inl, inr, arith}
use Rattle.std.specs.Prelude.{filter, nat_eq}
use Rattle.std.specs.List.{list_any}
use Rattle.std.specs.Str.{bytes_eq}
use Rattle.std.specs.Cmp.Lexicographic.{bytes_decides}
use Rattle.std.proofs.lemmas.Bool.{and_from, and_parts, or_parts, not_from_false, not-true, false≢true, false_from_ne_true, eqb-true, eq-eqb}
use Rattle.definitions.specs.Name.{Name, strictly_above}
use Rattle.definitions.specs.Bitmap.{bitmap, bitmap_has, octet_of, window_size, window_count}
use Rattle.definitions.specs.Zone.{Zone, Rr, apex_of, owner_of, owners, is_of, has, is_delegation}
use Rattle.definitions.specs.ZoneChain.{nsec_names, nsec_types}
use Rattle.definitions.proofs.BitmapLaws.{one_spelling, spells_set}
use Rattle.definitions.proofs.Members.{In, Of, any_in, any_of, both_ways, filter_in, in_filter, map_in}
use Rattle.definitions.proofs.NameLaws.{labels_decide}
use Rattle.definitions.proofs.ZoneNames.{live_owner}
use Rattle.denial_laws.specs.Laws.{BareIsOfTwoTypes}
use Rattle.denial_laws.specs.NsecRules.{bare_bitmaps, has_more, has_nxname, is_bare}
use Rattle.denial_laws.specs.Truth.{IsServable, ShowsTypes, is_added_type}
use Rattle.denial_laws.proofs.ChainBits.{all_at, nsec_named, nsec_shows}

-- ---- the types that they have

none_spelled : [] ≡ bitmap []
unfolding octet_of window_size window_count
none_spelled = refl

nsec_spelled : 0 ∷ 6 ∷ 0 ∷ 0 ∷ 0 ∷ 0 ∷ 0 ∷ 1 ∷ [] ≡ bitmap (47 ∷ [])
unfolding octet_of window_size window_count
nsec_spelled = refl

rrsig_spelled : 0 ∷ 6 ∷ 0 ∷ 0 ∷ 0 ∷ 0 ∷ 0 ∷ 2 ∷ [] ≡ bitmap (46 ∷ [])
unfolding octet_of window_size window_count
rrsig_spelled = refl

both_spelled : 0 ∷ 6 ∷ 0 ∷ 0 ∷ 0 ∷ 0 ∷ 0 ∷ 3 ∷ [] ≡ bitmap (46 ∷ 47 ∷ [])
unfolding octet_of window_size window_count
both_spelled = refl

module _ (t : ℕ) (l : t < 65536) (rrsig : nat_eq t 46 ≡ false) (nsec : nat_eq t 47 ≡ false) where
  spelled_lacks : (bits ts : List ℕ) → bits ≡ bitmap ts → list_any (nat_eq t) ts ≡ false → bitmap_has bits t ≡ false
  spelled_lacks bits ts e h = ap (λ b. bitmap_has b t) e ∙ (spells_set ts).members t l ∙ h

  -- no other type
  pub bare_lacks : (bits : List ℕ) → is_bare bits ≡ true → bitmap_has bits t ≡ false
  bare_lacks bits h =
      let r = any_of (bytes_eq bits) bare_bitmaps h in
      let is : bits ≡ r.0 = (bytes_decides bits r.0).0 r.1.1 in
      elim r.1.0 [
        | inl e ↦ spelled_lacks bits [] (is ∙ e ∙ none_spelled) refl
        | inr i ↦ elim i [
          | inl e ↦ spelled_lacks bits (47 ∷ []) (is ∙ e ∙ nsec_spelled) (λ i. nsec i || false)
          | inr i ↦ elim i [
            | inl e ↦ spelled_lacks bits (46 ∷ []) (is ∙ e ∙ rrsig_spelled) (λ i. rrsig i || false)
            | inr i ↦ elim i [
              | inl e ↦ spelled_lacks bits (46 ∷ 47 ∷ []) (is ∙ e ∙ both_spelled) (λ i. rrsig i || (nsec i || false))
              | inr n ↦ absurd n
            ]
          ]
        ]
      ]

-- ---- of the spellings of sets, those of these two types

abbrev two : List ℕ
two = 46 ∷ 47 ∷ []

module _ (ts : List ℕ) where
  only_two : is_bare (bitmap ts) ≡ true → (t : ℕ) → t < 65536 → list_any (nat_eq t) ts ≡ true → (t ≡ 46) ⊎ (t ≡ 47)
  only_two h t l i = go (nat_eq t 46) refl (nat_eq t 47) refl
    where
      go : (a : Bool) → nat_eq t 46 ≡ a → (b : Bool) → nat_eq t 47 ≡ b → (t ≡ 46) ⊎ (t ≡ 47)
      go true e b f = inl (eqb-true t 46 e)
      go false e true f = inr (eqb-true t 47 f)
      go false e false f = absurd (false≢true (sym (bare_lacks t l e f (bitmap ts) h) ∙ (spells_set ts).members t l ∙ i))

  abbrev is_type : ℕ → Bool
  is_type t = list_any (nat_eq t) ts

  abbrev of_two : List ℕ
  of_two = filter is_type two

  two_bare : (a b : Bool) → is_bare (bitmap (cond a (46 ∷ cond b (47 ∷ []) []) (cond b (47 ∷ []) []))) ≡ true
  two_bare true true = ap is_bare (sym both_spelled)
  two_bare true false = ap is_bare (sym rrsig_spelled)
  two_bare false true = ap is_bare (sym nsec_spelled)
  two_bare false false = ap is_bare (sym none_spelled)

  same_types : ((t : ℕ) → t < 65536 → list_any (nat_eq t) ts ≡ true → (t ≡ 46) ⊎ (t ≡ 47)) → (t : ℕ) → t < 65536 → list_any (nat_eq t) ts ≡ list_any (nat_eq t) of_two
  same_types h t l = both_ways (list_any (nat_eq t) ts) (list_any (nat_eq t) of_two) there back
    where
      itself : nat_eq t t ≡ true
      itself = eq-eqb t t refl

      there : list_any (nat_eq t) ts ≡ true → list_any (nat_eq t) of_two ≡ true
      there i =
          let listed : In t two = elim (h t l i) [ inl e ↦ inl e | inr e ↦ inr (inl e) ] in
          any_in (nat_eq t) of_two t (in_filter is_type two t listed i) itself

      back : list_any (nat_eq t) of_two ≡ true → list_any (nat_eq t) ts ≡ true
      back i =
          let r = any_of (nat_eq t) of_two i in
          let is : t ≡ r.0 = eqb-true t r.0 r.1.1 in
          ap (λ n. list_any (nat_eq n) ts) is ∙ (filter_in is_type two r.0 r.1.0).1

pub bare_is_of_two_types : BareIsOfTwoTypes
bare_is_of_two_types ts = (
  only_two ts,
  λ h. ap is_bare ((one_spelling ts (of_two ts)).1 (same_types ts h)) ∙ two_bare ts (is_type ts 46) (is_type ts 47),
)

-- ---- more types

-- they are not bare, and have no NXNAME
pub more_parts : (bits : List ℕ) → has_more bits ≡ true → (is_bare bits ≡ false) × (has_nxname bits ≡ false)
more_parts bits h = let both = and_parts _ _ h in (not-true (is_bare bits) both.0, not-true (has_nxname bits) both.1)

pub more_from : (bits : List ℕ) → is_bare bits ≡ false → has_nxname bits ≡ false → has_more bits ≡ true
more_from bits b n = and_from _ _ (not_from_false (is_bare bits) b) (not_from_false (has_nxname bits) n)

pub bare_no_more : (bits : List ℕ) → is_bare bits ≡ true → has_more bits ≡ false
bare_no_more bits b = false_from_ne_true (has_more bits) (λ h. false≢true (sym (more_parts bits h).0 ∙ b))

pub denied_no_more : (bits : List ℕ) → has_nxname bits ≡ true → has_more bits ≡ false
denied_no_more bits n = false_from_ne_true (has_more bits) (λ h. false≢true (sym (more_parts bits h).1 ∙ n))

module _ (z : Zone) (s : IsServable z) (o : Name) where
  -- an owner has a type of its own
  own_type : In o (owners z) → (t : ℕ) × ((t < 65536) × (is_added_type t ≡ false) × (has z o t ≡ true))
  own_type i =
      let r : Of (λ (x : Rr) y. y ≡ owner_of x) z.records o = map_in owner_of z.records o i in (
        r.item.rtype,
        (
          all_at (λ r. r.rtype < 65536) z.records r.item s.typed r.inside,
          all_at (λ r. is_added_type r.rtype ≡ false) z.records r.item s.ordinary r.inside,
          any_in (is_of o r.item.rtype) z.records r.item r.inside (and_from _ _ ((labels_decide (owner_of r.item) o).1 (sym r.makes)) (eq-eqb r.item.rtype r.item.rtype refl)),
        ),
      )

  -- so bits that are true of it have more types
  shows_more : (bits : List ℕ) → In o (owners z) → ShowsTypes z o bits → is_bare bits ≡ false
  shows_more bits i k = false_from_ne_true (is_bare bits) (λ h. go h (is_delegation z o) refl)
    where
      go : is_bare bits ≡ true → (d : Bool) → is_delegation z o ≡ d → ⊥
      go h true d = false≢true (sym (bare_lacks 2 (omega arith) refl refl bits h) ∙ k.two ∙ (and_parts (has z o 2) (strictly_above (apex_of z) o) d).0)
      go h false d =
          let t = own_type i in
          let rrsig = or_parts (nat_eq t.0 46) _ t.1.1 in
          let nsec = or_parts (nat_eq t.0 47) _ rrsig.1 in
          false≢true (sym (bare_lacks t.0 t.1.0 rrsig.0 nsec.0 bits h) ∙ k.shows t.0 t.1.0 (inl d) t.1.2)

-- the bits of a chain's record
pub nsec_more : (z : Zone) → IsServable z → (o : Name) → In o (nsec_names z) → has_more (bitmap (nsec_types z true o)) ≡ true
nsec_more z s o i = more_from (bitmap (nsec_types z true o)) (shows_more z s o (bitmap (nsec_types z true o)) (live_owner z o i).0 (nsec_shows z s o)) (nsec_named z s o)
