-- The wildcard under an encloser, which is sought once.
use Rattle.std.proofs.Common.{◌≡◌, ℕ, true, false, List, length, refl, sym, ap, ◌∙◌, nat_eq, subst}
use Rattle.std.specs.Prelude.{Option, Some, None, IfSome, is_none}
use Rattle.std.specs.Option.{option_eq, option_map}
use Rattle.std.proofs.lemmas.Bool.{eqb-true}
use Rattle.definitions.specs.Name.{Name, strictly_above}
use Rattle.definitions.specs.Zone.{Verdict, NoType, star_under}
use Rattle.denial_laws.specs.Facts.{Link}
use Rattle.denial_laws.specs.NsecRules.{first_some, at_star, closest, covered, link_covers}
use Rattle.denial_laws.specs.Nsec3Rules.{last_labels}
use Rattle.answer_judge_rules.specs.Enclosers.{told_of_star, IsUntold}
use Rattle.answer_judge_rules.proofs.Closest.{closest_end}

-- numbers that are equal where there are any
pub same_labels : (a b : Option ℕ) → option_eq nat_eq a b ≡ true → a ≡ b
same_labels None None e = refl
same_labels None (Some n) e = cc
same_labels (Some m) None e = cc
same_labels (Some m) (Some n) e = ap (λ (k : ℕ). Some k) (eqb-true m n e)

pub none_told : {A B : Type 0} (g : A → B) (o : Option A) → is_none o ≡ true → option_map g o ≡ None
none_told g None e = refl
none_told g (Some x) e = cc

module _ (apex q : Name) (t : ℕ) (fs : List Link) (f : Link) where
  -- a name that the link covers and that is no empty non-terminal: the wildcard decides
  pub covered_so : link_covers apex f q ≡ true → strictly_above q f.next ≡ false → covered apex q t fs f ≡ told_of_star apex t fs (closest f q)
  covered_so a b = λ i. elim (a i) as (λ _. Option Verdict) [
    | true ↦ elim (b i) as (λ _. Option Verdict) [ true ↦ Some NoType | false ↦ told_of_star apex t fs (closest f q) ]
    | false ↦ None
  ]

  told_at : (e : Name) → closest f q ≡ Some e → first_some (at_star apex (star_under (last_labels (length e) q)) t) fs ≡ first_some (at_star apex (star_under e) t) fs
  told_at e c = ap (λ m. first_some (at_star apex (star_under m) t) fs) (sym (closest_end f q e c).0)

  still : (o : Option Name) → closest f q ≡ o → IfSome (option_map length o) (IsUntold apex q t fs) → told_of_star apex t fs o ≡ None
  still None c h = refl
  still (Some e) c h = sym (told_at e c) ∙ h

  -- no record tells of it where one that is as long was sought in vain
  pub still_untold : (o : Option ℕ) → o ≡ option_map length (closest f q) → IfSome o (IsUntold apex q t fs) → told_of_star apex t fs (closest f q) ≡ None
  still_untold o e h = still (closest f q) refl (subst (λ x. IfSome x (IsUntold apex q t fs)) e h)

  now : (o : Option Name) → closest f q ≡ o → told_of_star apex t fs o ≡ None → IfSome (option_map length o) (IsUntold apex q t fs)
  now None c h = tt
  now (Some e) c h = told_at e c ∙ h

  pub now_untold : (o : Option ℕ) → o ≡ option_map length (closest f q) → told_of_star apex t fs (closest f q) ≡ None → IfSome o (IsUntold apex q t fs)
  now_untold o e h = subst (λ x. IfSome x (IsUntold apex q t fs)) (sym e) (now (closest f q) refl h)
