-- The RRset of a zone's own answer is one that the zone has signed.
use Rattle.std.proofs.Common.{◌≡◌, ℕ, ◌+◌, ◌<◌, ◌≤◌, Bool, true, false, ◌&&◌, ◌||◌, not, [], ◌∷◌, length, Option, Some, None, refl, sym, ap, ◌∙◌, inl, inr, arith}
use Rattle.std.specs.Prelude.{◌==◌, if◌then◌else◌}
use Rattle.std.specs.Str.{bytes_eq, str_to_ascii_lowercase}
use Rattle.std.specs.Cmp.Lexicographic.{bytes_decides}
use Rattle.std.proofs.lemmas.Bool.{and_parts, false≢true, le-ltb, lt-ltb}
use Rattle.definitions.specs.Name.{Name, low, at_or_above, strictly_above}
use Rattle.definitions.specs.Signing.{label_count, signed_owner}
use Rattle.definitions.specs.Zone.{Zone, StarRecords, apex_of, has, is_delegation, is_live, exists, ce, data_at, star_under}
use Rattle.definitions.proofs.ZoneNames.{above_lowered, low-low, kept-live, above_longer}
use Rattle.denial_laws.specs.Facts.{Rrset, is_expanded}
use Rattle.denial_laws.specs.OwnFacts.{own_star}
use Rattle.denial_laws.specs.Truth.{IsTrueRrset, is_signed}
use Rattle.denial_laws.proofs.NameFacts.{same_names, above_cases, strictly_shorter, strictly_at}
use Rattle.denial_laws.proofs.ZoneCuts.{IsEncloser, ce_lowered, has_owner, owner_kept, kept_inside, ce_encloses}
use Rattle.denial_laws.proofs.SignedNames.{whole_owner, star_owner}

abbrev pub named : Zone → Name → ℕ → Rrset
named z q t = record { datas = data_at z (low q) t; labels = label_count q }

abbrev pub starred : Zone → Name → ℕ → Rrset
starred z e t = record { datas = data_at z (star_under e) t; labels = length e }

-- the name's own RRset is not expanded
pub own_whole : (z : Zone) (q : Name) (t : ℕ) → is_expanded (named z q t) q ≡ false
own_whole z q t = le-ltb (label_count q) (label_count q) (omega arith)

module _ (z : Zone) (q : Name) (t : ℕ) where
  pub own_records_true : is_signed z (low q) t ≡ true → IsTrueRrset z q t (named z q t)
  own_records_true h =
      let owner : signed_owner (label_count q) q ≡ low q = whole_owner (named z q t) q (own_whole z q t) in
      record {
        signed = ap (λ n. is_signed z n t) owner ∙ h;
        datas = ap (λ n. data_at z n t) (sym owner);
        inside = λ x. absurd (false≢true (sym (own_whole z q t) ∙ x));
      }

  signed_exists : (n : Name) → is_signed z n t ≡ true → exists z n ≡ true
  signed_exists n h =
      let both = and_parts (is_live z n && (not (is_delegation z n) || (t == 43))) (has z n t) h in
      owner_kept z false n (has_owner z n t both.1) (kept-live z n ∙ (and_parts (is_live z n) _ both.0).0)

module _ (z : Zone) (q e : Name) (t : ℕ) (x : exists z (low q) ≡ false) (c : ce z (low q) ≡ Some e) (h : is_signed z (star_under e) t ≡ true) where
  encloses : IsEncloser z (low q) e
  encloses = ce_encloses z (low q) e c

  -- the wildcard's RRset is expanded, since the wildcard is there and the name is not
  pub own_expanded : is_expanded (starred z e t) q ≡ true
  own_expanded = lt-ltb (length e) (label_count q) (fewer q x (sym (above_strictly q) ∙ encloses.above))
    where
      above_strictly : (q : Name) → strictly_above e (low q) ≡ strictly_above e q
      above_strictly [] = refl
      above_strictly (l ∷ q) = above_lowered e q

      fewer : (q : Name) → exists z (low q) ≡ false → strictly_above e q ≡ true → length e < label_count q
      fewer [] x a = absurd (false≢true a)
      fewer (l ∷ q) x a = go (bytes_eq l (42 ∷ [])) refl
        where
          long : length e ≤ length q
          long = above_longer e q a

          go : (b : Bool) → bytes_eq l (42 ∷ []) ≡ b → length e < (if b then length q else length q + 1)
          go false n = omega (arith, long)
          go true n = elim (above_cases e q a) [
            | inl m ↦
                let star : l ≡ 42 ∷ [] = (bytes_decides l (42 ∷ [])).0 n in
                let is : low (l ∷ q) ≡ star_under e = (λ i. str_to_ascii_lowercase (star i) ∷ sym (same_names e q m) i) ∙ ap star_under (ce_lowered z _ e (low-low _) c) in
                absurd (false≢true (sym x ∙ ap (exists z) is ∙ signed_exists z q t (star_under e) h))
            | inr m ↦ strictly_shorter e q m
          ]

  -- its signature is the wildcard's
  pub own_star_owner : signed_owner (length e) q ≡ star_under e
  own_star_owner =
      let above : at_or_above e q ≡ true = sym (above_lowered e q) ∙ strictly_at e (low q) encloses.above in
      star_owner (starred z e t) q e own_expanded above refl ∙ ap star_under (ce_lowered z (low q) e (low-low q) c)

  pub own_star_true : IsTrueRrset z q t (starred z e t)
  own_star_true =
      record {
        signed = ap (λ n. is_signed z n t) own_star_owner ∙ h;
        datas = ap (λ n. data_at z n t) (sym own_star_owner);
        inside = λ _. above_longer (apex_of z) e (kept_inside z false e encloses.there);
      }

  pub own_star_is : own_star z q (StarRecords (data_at z (star_under e) t)) ≡ Some (starred z e t)
  own_star_is = ap (λ (o : Option Name). elim o as (λ _. Option Rrset) [ None ↦ None | Some n ↦ Some (record { datas = data_at z (star_under e) t; labels = length n }) ]) c
