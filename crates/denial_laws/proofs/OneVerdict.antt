-- Every question has exactly one verdict.
use Rattle.std.proofs.Common.{◌≡◌, ℕ, Bool, true, false, ◌&&◌, Option, Some, None, refl, sym, ap, subst, ◌∙◌, inl, inr}
use Rattle.std.specs.Prelude.{if◌then◌else◌, ◌==◌}
use Rattle.std.proofs.lemmas.Bool.{and_parts, and_from, false≢true, false_from_ne_true, eqb-true, eq-eqb}
use Rattle.definitions.specs.Name.{Name, low, labels_eq}
use Rattle.definitions.specs.Zone.{Zone, Verdict, Records, NoType, NoName, StarRecords, StarNoType, Delegated, Open, Unsigned, has, cut, exists, ce, star_under, data_at, at_existing, at_star, is_open, verdict}
use Rattle.definitions.proofs.NameLaws.{labels_decide}
use Rattle.definitions.proofs.VerdictCases.{said, verdict-said, verdict-open, verdict-cut, verdict-exists, verdict-alone, verdict-star}
use Rattle.denial_laws.specs.Saying.{IsAnswered, IsDelegated, IsMissing, HasStar, HasNoStar, IsVerdict}
use Rattle.denial_laws.specs.Laws.{OneVerdict}

module _ (z : Zone) (optout : Bool) (name : Name) (t : ℕ) where
  abbrev q : Name
  q = low name

  abbrev Said : Verdict → Type 0
  Said v = v ≡ verdict z optout name t

  -- ---- the conditions of a verdict give it

  answered : is_open z optout q ≡ false → IsAnswered z q t → verdict z optout name t ≡ at_existing z q t
  answered o a = elim a [
    | inl p ↦ verdict-exists z optout name q t refl o p.0 p.1
    | inr p ↦
        let itself : labels_eq q q ≡ true = (labels_decide q q).1 refl in
        verdict-cut z optout name q q t refl o p.0
        ∙ (λ i. if itself i && (p.1 i == 43) then at_existing z q 43 else Delegated)
        ∙ ap (at_existing z q) (sym p.1)
  ]

  missing : (e : Name) → is_open z optout q ≡ false → IsMissing z q → ce z q ≡ Some e → verdict z optout name t ≡ at_star z (star_under e) t
  missing e o m c = verdict-star z optout name q e t refl o m.uncut m.gone c

  starred : (star : Name) → is_open z optout q ≡ false → HasStar z q star → verdict z optout name t ≡ (if has z star t then StarRecords (data_at z star t) else StarNoType)
  starred star o s =
      missing s.encloser o s.missing s.closest
      ∙ ap (λ n. at_star z n t) (sym s.named)
      ∙ ap (λ b. if b then (if has z star t then StarRecords (data_at z star t) else StarNoType) else NoName) s.there

  unstarred : (c : Option Name) → ce z q ≡ c → is_open z optout q ≡ false → HasNoStar z q → Said NoName
  unstarred None e o n = sym (verdict-alone z optout name q t refl o n.missing.uncut n.missing.gone e)
  unstarred (Some c) e o n = sym (missing c o n.missing e ∙ ap (λ b. if b then (if has z (star_under c) t then StarRecords (data_at z (star_under c) t) else StarNoType) else NoName) (n.gone c e))

  delegated : is_open z optout q ≡ false → IsDelegated z q t → Said Delegated
  delegated o d =
      let other : (labels_eq d.delegation q && (t == 43)) ≡ false = false_from_ne_true _ (λ h.
      let both = and_parts (labels_eq d.delegation q) (t == 43) h in
      d.other ((labels_decide d.delegation q).0 both.0, eqb-true t 43 both.1)) in
      sym (verdict-cut z optout name q d.delegation t refl o d.cut ∙ ap (λ b. if b then at_existing z q 43 else Delegated) other)

  only : (v : Verdict) → IsVerdict z optout name t v → Said v
  only (Records ds) (o, (a, h, d)) = ap (λ x. Records x) d ∙ sym (answered o a ∙ ap (λ b. if b then Records (data_at z q t) else NoType) h)
  only NoType (o, (a, h)) = sym (answered o a ∙ ap (λ b. if b then Records (data_at z q t) else NoType) h)
  only NoName (o, n) = unstarred (ce z q) refl o n
  only (StarRecords ds) (o, (star, s, h, d)) = ap (λ x. StarRecords x) d ∙ sym (starred star o s ∙ ap (λ b. if b then StarRecords (data_at z star t) else StarNoType) h)
  only StarNoType (o, (star, s, h)) = sym (starred star o s ∙ ap (λ b. if b then StarRecords (data_at z star t) else StarNoType) h)
  only Delegated (o, d) = delegated o d
  only Open o = sym (verdict-open z optout name q t refl o)
  only Unsigned (o, n) = absurd n

  -- ---- the verdict's conditions hold

  existing : is_open z optout q ≡ false → IsAnswered z q t → IsVerdict z optout name t (at_existing z q t)
  existing o a = go (has z q t) refl
    where
      go : (h : Bool) → has z q t ≡ h → IsVerdict z optout name t (if h then Records (data_at z q t) else NoType)
      go true h = (o, (a, h, refl))
      go false h = (o, (a, h))

  by_cut : (c : Name) → is_open z optout q ≡ false → cut z q ≡ Some c → (b : Bool) → (labels_eq c q && (t == 43)) ≡ b → IsVerdict z optout name t (if b then at_existing z q 43 else Delegated)
  by_cut c o k true b =
      let both = and_parts (labels_eq c q) (t == 43) b in
      let e : t ≡ 43 = eqb-true t 43 both.1 in
      subst (λ n. IsVerdict z optout name t (at_existing z q n)) e (existing o (inr (k ∙ ap (λ n. Some n) ((labels_decide c q).0 both.0), e)))
  by_cut c o k false b = (
    o,
    record {
      delegation = c;
      cut = k;
      other = λ p. false≢true (sym b ∙ and_from (labels_eq c q) (t == 43) ((labels_decide c q).1 p.0) (eq-eqb t 43 p.1));
    },
  )

  by_star : (e : Name) → is_open z optout q ≡ false → IsMissing z q → ce z q ≡ Some e → IsVerdict z optout name t (at_star z (star_under e) t)
  by_star e o m c = go (exists z (star_under e)) refl (has z (star_under e) t) refl
    where
      star : exists z (star_under e) ≡ true → HasStar z q (star_under e)
      star x = record { missing = m; encloser = e; closest = c; named = refl; there = x }

      gone : exists z (star_under e) ≡ false → (n : Name) → ce z q ≡ Some n → exists z (star_under n) ≡ false
      gone x n f = let is : e ≡ n = cc in ap (λ p. exists z (star_under p)) (sym is) ∙ x

      go : (x : Bool) → exists z (star_under e) ≡ x → (h : Bool) → has z (star_under e) t ≡ h
          → IsVerdict z optout name t (if x then (if h then StarRecords (data_at z (star_under e) t) else StarNoType) else NoName)
      go true x true h = (o, (star_under e, star x, h, refl))
      go true x false h = (o, (star_under e, star x, h))
      go false x h f = (o, record { missing = m; gone = gone x })

  held : (left : Bool) → is_open z optout q ≡ left → (c : Option Name) → cut z q ≡ c → (there : Bool) → exists z q ≡ there → (e : Option Name) → ce z q ≡ e
      → IsVerdict z optout name t (said z q t left c there e)
  held true o c k there x e f = o
  held false o (Some c) k there x e f = by_cut c o k (labels_eq c q && (t == 43)) refl
  held false o None k true x e f = existing o (inl (k, x))
  held false o None k false x (Some e) f = by_star e o (record { uncut = k; gone = x }) f
  held false o None k false x None f = (o, record { missing = record { uncut = k; gone = x }; gone = λ n g. absurd cc })

  its_own : IsVerdict z optout name t (verdict z optout name t)
  its_own =
      subst (IsVerdict z optout name t) (sym (verdict-said z optout name q t refl))
      (held (is_open z optout q) refl (cut z q) refl (exists z q) refl (ce z q) refl)

pub each_question_has_one_verdict : OneVerdict
each_question_has_one_verdict z optout name t v = (only z optout name t v, λ e. subst (IsVerdict z optout name t) (sym e) (its_own z optout name t))
