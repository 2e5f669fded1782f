-- Two small zones with aliases in order: one has a CNAME record at `b`, the other a DNAME record.
use Rattle.std.proofs.Common.{◌≡◌, ℕ, true, false, ◌||◌, List, [], ◌∷◌, length, refl, sym, ap, ◌∙◌, ◌⊎◌, inl, inr, arith}
use Rattle.std.specs.Prelude.{◌==◌}
use Rattle.std.proofs.lemmas.Bool.{and_parts, or_cases, false≢true, false_from_ne_true, eqb-true}
use Rattle.definitions.specs.Name.{Name, labels_eq, strictly_above}
use Rattle.definitions.specs.Bitmap.{bitmap, octet_of, window_size, window_count}
use Rattle.definitions.specs.Zone.{Rr, Zone, owners, is_of, has, is_delegation}
use Rattle.definitions.proofs.Members.{in_contained}
use Rattle.definitions.proofs.NameLaws.{labels_decide}
use Rattle.denial_laws.specs.Aliases.{IsOrderly}
use Rattle.denial_laws.specs.Truth.{IsServable}
use Rattle.counterexamples_denial.proofs.Zones.{example, b, rr, soa, zone_of}

-- a record of a type at `b` that leads to the root
abbrev pub leading : ℕ → Rr
leading k = rr b k (0 ∷ [])

abbrev pub with_one : ℕ → Zone
with_one k = zone_of (soa ∷ leading k ∷ [])

abbrev pub aliasing : Zone
aliasing = with_one 5

abbrev pub redirecting : Zone
redirecting = with_one 39

-- ---- bits: of CNAME and of DNAME, by NSEC and by NSEC3

abbrev pub cname_bits : List ℕ
cname_bits = 0 ∷ 6 ∷ 4 ∷ 0 ∷ 0 ∷ 0 ∷ 0 ∷ 3 ∷ []

pub cname_spelled : cname_bits ≡ bitmap (5 ∷ 46 ∷ 47 ∷ [])
unfolding octet_of window_size window_count
cname_spelled = refl

abbrev pub dname_bits : List ℕ
dname_bits = 0 ∷ 6 ∷ 0 ∷ 0 ∷ 0 ∷ 0 ∷ 1 ∷ 3 ∷ []

pub dname_spelled : dname_bits ≡ bitmap (39 ∷ 46 ∷ 47 ∷ [])
unfolding octet_of window_size window_count
dname_spelled = refl

abbrev pub hashed_cname_bits : List ℕ
hashed_cname_bits = 0 ∷ 6 ∷ 4 ∷ 0 ∷ 0 ∷ 0 ∷ 0 ∷ 2 ∷ []

pub hashed_cname_spelled : hashed_cname_bits ≡ bitmap (5 ∷ 46 ∷ [])
unfolding octet_of window_size window_count
hashed_cname_spelled = refl

abbrev pub hashed_dname_bits : List ℕ
hashed_dname_bits = 0 ∷ 6 ∷ 0 ∷ 0 ∷ 0 ∷ 0 ∷ 1 ∷ 2 ∷ []

pub hashed_dname_spelled : hashed_dname_bits ≡ bitmap (39 ∷ 46 ∷ [])
unfolding octet_of window_size window_count
hashed_dname_spelled = refl

-- ---- their aliases are in order

apart : example ≡ b → ⊥
apart e = let n : 1 ≡ 2 = ap (λ (n : Name). length n) e in omega (arith, n)

module _ (k : ℕ) where
  -- what such a zone has
  held : (o : Name) (t : ℕ) → has (with_one k) o t ≡ true → ((example ≡ o) × (6 ≡ t)) ⊎ ((b ≡ o) × (k ≡ t))
  held o t h = elim (or_cases (is_of o t soa) (is_of o t (leading k) || false) h) [
    | inl e ↦ let p = and_parts (labels_eq example o) (6 == t) e in inl ((labels_decide example o).0 p.0, eqb-true 6 t p.1)
    | inr r ↦ elim (or_cases (is_of o t (leading k)) false r) [
      | inl e ↦ let p = and_parts (labels_eq b o) (k == t) e in inr ((labels_decide b o).0 p.0, eqb-true k t p.1)
      | inr e ↦ absurd (false≢true e)
    ]
  ]

  at_b : (6 ≡ k → ⊥) → (o : Name) → has (with_one k) o k ≡ true → b ≡ o
  at_b n o h = elim (held o k h) [ inl e ↦ absurd (n e.1) | inr e ↦ e.0 ]

  none_else : (o : Name) (t : ℕ) → (6 ≡ t → ⊥) → (k ≡ t → ⊥) → has (with_one k) o t ≡ false
  none_else o t n m = false_from_ne_true (has (with_one k) o t) (λ h. elim (held o t h) [ inl e ↦ n e.1 | inr e ↦ m e.1 ])

no_dname : (o : Name) → has aliasing o 39 ≡ false
no_dname o = none_else 5 o 39 (λ e. omega (arith, e)) (λ e. omega (arith, e))

aliasing_orderly : IsOrderly aliasing
aliasing_orderly = record {
  alone = λ o t c h. elim (held 5 o t h) [
    | inl e ↦ absurd (apart (e.0 ∙ sym (at_b 5 (λ f. omega (arith, f)) o c)))
    | inr e ↦ sym e.1
  ];
  uncut = λ o d. absurd (false≢true (sym (no_dname o) ∙ d));
  childless = λ o below d i. absurd (false≢true (sym (no_dname o) ∙ d));
}

no_cname : (o : Name) → has redirecting o 5 ≡ false
no_cname o = none_else 39 o 5 (λ e. omega (arith, e)) (λ e. omega (arith, e))

dname_at : (o : Name) → has redirecting o 39 ≡ true → b ≡ o
dname_at o d = at_b 39 (λ f. omega (arith, f)) o d

redirecting_orderly : IsOrderly redirecting
redirecting_orderly = record {
  alone = λ o t c h. absurd (false≢true (sym (no_cname o) ∙ c));
  uncut = λ o d. ap (is_delegation redirecting) (sym (dname_at o d));
  childless = λ o below d i. elim (in_contained (owners redirecting) below i.0 i.1 i.2) [
    | inl m ↦ (λ j. strictly_above (sym (dname_at o d) j) (m j))
    | inr r ↦ elim r [ inl m ↦ (λ j. strictly_above (sym (dname_at o d) j) (m j)) | inr n ↦ absurd n ]
  ];
}

pub aliasing_served : IsServable aliasing
aliasing_served = record { apex = (0, omega arith, refl); typed = (omega arith, (omega arith, tt)); ordinary = (refl, (refl, tt)); real = (refl, (refl, tt)); stars = (refl, (refl, tt)); aliases = aliasing_orderly }

pub redirecting_served : IsServable redirecting
redirecting_served = record { apex = (0, omega arith, refl); typed = (omega arith, (omega arith, tt)); ordinary = (refl, (refl, tt)); real = (refl, (refl, tt)); stars = (refl, (refl, tt)); aliases = redirecting_orderly }
