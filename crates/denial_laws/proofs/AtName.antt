-- What the bits of a name's own record prove of the name.
use Rattle.std.proofs.Common.{◌≡◌, ℕ, ◌<◌, Bool, true, false, ◌&&◌, not, List, Option, Some, None, refl, sym, ap, ◌∙◌, ◌⊎◌, inl, inr}
use Rattle.std.specs.Prelude.{◌==◌}
use Rattle.std.proofs.lemmas.Bool.{and_parts, and_from, and_cases, and_right, or_right, not-true, not-false, not_from_false, false≢true, false_from_ne_true, eqb-true}
use Rattle.definitions.specs.Name.{Name, low, labels_eq}
use Rattle.definitions.specs.Bitmap.{bitmap_has}
use Rattle.definitions.specs.Zone.{Zone, Verdict, NoType, Delegated, is_delegation, kept, has, verdict}
use Rattle.definitions.proofs.ZoneNames.{above_itself, low-low}
use Rattle.denial_laws.specs.Aliases.{is_redirected}
use Rattle.denial_laws.specs.NsecRules.{is_cut, lacks, star_lacks, at_name}
use Rattle.denial_laws.specs.Truth.{IsServable, ShowsTypes, is_star}
use Rattle.denial_laws.specs.Laws.{IsSaidBy, is_asked_type}
use Rattle.denial_laws.proofs.ChainBits.{LacksTypes, cut_test}
use Rattle.denial_laws.proofs.Verdicts.{verdict_no_type, verdict_delegated, verdict_ds, lacking}
use Rattle.denial_laws.proofs.ZoneCuts.{cut_from, kept_live, kept_inside, kept_exists, kept_delegation, no_star_ns}
use Rattle.denial_laws.proofs.Unaliased.{kept_unredirected, no_alias, cut_unaliased, there_unaliased, unaliased}

-- what a test lets through
pub on_true : {A : Type 0} (b : Bool) (x : Option A) (y : A) → (elim b [ true ↦ x | false ↦ None ]) ≡ Some y → (b ≡ true) × (x ≡ Some y)
on_true true x y h = (refl, h)
on_true false x y h = absurd cc

-- ---- types that bits lack

-- a type that bits lack is not there; at a delegation of DS alone
pub not_there : (z : Zone) (n : Name) (bits : List ℕ) (t : ℕ) → t < 65536 → ShowsTypes z n bits → (is_delegation z n ≡ false) ⊎ (t ≡ 43) → lacks bits t ≡ true → has z n t ≡ false
not_there z n bits t l k c h = false_from_ne_true (has z n t) (λ e.
    false≢true (sym (not-true (bitmap_has bits t) (and_parts (not (bitmap_has bits t)) _ h).0) ∙ k.shows t l c e))

-- nor is CNAME, without which bits lack no type
pub lacks_cname : (z : Zone) (n : Name) (bits : List ℕ) (t : ℕ) → ShowsTypes z n bits → lacks bits t ≡ true → has z n 5 ≡ false
lacks_cname z n bits t k h = sym k.alias ∙ not-true (bitmap_has bits 5) (and_parts (not (bitmap_has bits t)) _ h).1

-- bits of a name that lacks the type and has no CNAME
pub lacks_from : (z : Zone) (n : Name) (bits : List ℕ) (t : ℕ) → t < 65536 → is_asked_type t ≡ true → ShowsTypes z n bits → LacksTypes z n bits → has z n t ≡ false → has z n 5 ≡ false → lacks bits t ≡ true
lacks_from z n bits t l asked k m h c = and_from _ _ (not_from_false (bitmap_has bits t) (m t l asked h)) (not_from_false (bitmap_has bits 5) (k.alias ∙ c))

-- bits of such a wildcard: they have no NS
pub star_lacks_from : (z : Zone) → IsServable z → (n : Name) (bits : List ℕ) (t : ℕ) → is_star n ≡ true → t < 65536 → is_asked_type t ≡ true → ShowsTypes z n bits → LacksTypes z n bits → has z n t ≡ false → has z n 5 ≡ false → star_lacks bits t ≡ true
star_lacks_from z s n bits t star l asked k m h c = and_from (lacks bits t) _ (lacks_from z n bits t l asked k m h c) (or_right (t == 43) _ (not_from_false (bitmap_has bits 2) (k.two ∙ no_star_ns z s n star)))

-- ---- they prove the zone's verdict, or nothing

module _ (z : Zone) (s : IsServable z) (ex : Bool) (q : Name) (t : ℕ) (l : t < 65536) where
  -- the bits of a kept name
  pub kept_name_truly : (bits : List ℕ) → kept z ex (low q) ≡ true → ShowsTypes z (low q) bits → (v : Verdict) → at_name z.name q t bits ≡ Some v → IsSaidBy z ex q t v
  kept_name_truly bits k shows v h = go (is_cut z.name q bits && not (t == 43)) refl h
    where
      test : is_cut z.name q bits ≡ is_delegation z (low q)
      test = cut_test z q bits (kept_inside z ex (low q) k) shows

      unredirected : is_redirected z (low q) ≡ false
      unredirected = kept_unredirected z s.aliases ex (low q) k

      lacks_type : (is_delegation z (low q) ≡ false) ⊎ (t ≡ 43) → lacks bits t ≡ true → verdict z ex q t ≡ NoType
      lacks_type c n = no_type (is_delegation z (low q)) refl c
        where
          gone : has z (low q) t ≡ false
          gone = not_there z (low q) bits t l shows c n

          no_type : (d : Bool) → is_delegation z (low q) ≡ d → (is_delegation z (low q) ≡ false) ⊎ (t ≡ 43) → verdict z ex q t ≡ NoType
          no_type true d c = elim c [
            | inl n ↦ absurd (false≢true (sym n ∙ d))
            | inr e ↦ verdict_ds z ex q t e d (kept_delegation z ex (low q) d k) ∙ lacking z (low q) t gone
          ]
          no_type false d c = verdict_no_type z ex q t k d gone

      go : (b : Bool) → (is_cut z.name q bits && not (t == 43)) ≡ b
          → (elim b as (λ _. Option Verdict) [ true ↦ Some Delegated | false ↦ elim (lacks bits t) [ true ↦ Some NoType | false ↦ None ] ]) ≡ Some v → IsSaidBy z ex q t v
      go true e h =
          let both = and_parts (is_cut z.name q bits) (not (t == 43)) e in
          let is : Delegated ≡ v = cc in
          let d : is_delegation z (low q) ≡ true = sym test ∙ both.0 in
          let owner = kept_delegation z ex (low q) d k in (
            sym is ∙ sym (verdict_delegated z ex q (low q) t d owner (above_itself (low q)) (and_right (labels_eq (low q) (low q)) (t == 43) (not-true (t == 43) both.1))),
            unaliased z ex q t unredirected (λ _. cut_unaliased z (low q) t (low q) (cut_from z (low q) (low q) (low-low q) d (kept_live z ex (low q) owner) (above_itself (low q)))),
          )
      go false e h =
          let r = on_true (lacks bits t) (Some NoType) v h in
          let is : NoType ≡ v = cc in
          let c : (is_delegation z (low q) ≡ false) ⊎ (t ≡ 43) = elim (and_cases (is_cut z.name q bits) (not (t == 43)) e) [
            | inl n ↦ inl (sym test ∙ n)
            | inr n ↦ inr (eqb-true t 43 (not-false (t == 43) n))
          ] in
          let cname : has z (low q) 5 ≡ false = lacks_cname z (low q) bits t shows r.0 in
          (sym is ∙ sym (lacks_type c r.0), unaliased z ex q t unredirected (λ _. there_unaliased z (low q) t (kept_exists z ex (low q) k) (no_alias z (low q) t cname)))

-- ---- where they prove something

-- some verdict is proved
abbrev pub Answers : Option Verdict → Type 0
Answers o = (w : Verdict) × (o ≡ Some w)

pub cut_answers : (apex q : Name) (t : ℕ) (bits : List ℕ) → (is_cut apex q bits && not (t == 43)) ≡ true → Answers (at_name apex q t bits)
cut_answers apex q t bits h = (Delegated, ap (λ b. elim b as (λ _. Option Verdict) [ true ↦ Some Delegated | false ↦ elim (lacks bits t) [ true ↦ Some NoType | false ↦ None ] ]) h)

pub lack_answers : (apex q : Name) (t : ℕ) (bits : List ℕ) → lacks bits t ≡ true → Answers (at_name apex q t bits)
lack_answers apex q t bits h = go (is_cut apex q bits && not (t == 43))
  where
    go : (b : Bool) → Answers (elim b as (λ _. Option Verdict) [ true ↦ Some Delegated | false ↦ elim (lacks bits t) [ true ↦ Some NoType | false ↦ None ] ])
    go true = (Delegated, refl)
    go false = (NoType, ap (λ b. elim b as (λ _. Option Verdict) [ true ↦ Some NoType | false ↦ None ]) h)
