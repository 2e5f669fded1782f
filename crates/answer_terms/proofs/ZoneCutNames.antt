-- Names that a zone finds at or above a name are names, in lower case where that one is.
use Rattle.std.proofs.Common.{◌≡◌, ℕ, Bool, true, false, cond, List, [], ◌∷◌, subst, arith}
use Rattle.std.specs.Prelude.{Option, Some, None}
use Rattle.definitions.specs.Name.{Name, IsName, low}
use Rattle.definitions.specs.Zone.{Zone, ce, cut, exists, is_delegation}
use Rattle.messages.proofs.Lists.{some_is}
use Rattle.messages.proofs.NameLaws.{wire_len-cons}

-- what holds of what a name stands under holds of the closest encloser, and of the topmost delegation
module _ (P : Name → Type 0) (above : (l : List ℕ) (n : Name) → P (l ∷ n) → P n) (z : Zone) where
  of_encloser : (q e : Name) → P q → ce z q ≡ Some e → P e
  of_encloser [] e h i = cc
  of_encloser (l ∷ q) e h i = at (exists z q) i (of_encloser q e (above l q h))
    where
      at : (b : Bool) → cond b (Some q) (ce z q) ≡ Some e → (ce z q ≡ Some e → P e) → P e
      at true i more = subst P (some_is q e i) (above l q h)
      at false i more = more i

  of_cut : (q c : Name) → P q → cut z q ≡ Some c → P c
  of_cut [] c h i = cc
  of_cut (l ∷ q) c h i = at (cut z q) i (λ d. of_cut q d (above l q h))
    where
      here : (b : Bool) → cond b (Some (l ∷ q)) None ≡ Some c → P c
      here true i = subst P (some_is (l ∷ q) c i) h
      here false i = cc

      at : (o : Option Name) → elim o [ None ↦ cond (is_delegation z (l ∷ q)) (Some (l ∷ q)) None | Some d ↦ Some d ] ≡ Some c → ((d : Name) → o ≡ Some d → P d) → P c
      at None i more = here (is_delegation z (l ∷ q)) i
      at (Some d) i more = more c i

lower_above : (l : List ℕ) (n : Name) → low (l ∷ n) ≡ l ∷ n → low n ≡ n
lower_above l n e = cc

name_above : (l : List ℕ) (n : Name) → IsName (l ∷ n) → IsName n
name_above l n h = record { labels = h.labels.1; short = omega (arith, h.short, wire_len-cons l n) }

pub ce_lower : (z : Zone) (q e : Name) → low q ≡ q → ce z q ≡ Some e → low e ≡ e
ce_lower z q e h i = of_encloser (λ n. low n ≡ n) lower_above z q e h i

pub cut_lower : (z : Zone) (q c : Name) → low q ≡ q → cut z q ≡ Some c → low c ≡ c
cut_lower z q c h i = of_cut (λ n. low n ≡ n) lower_above z q c h i

pub cut_name : (z : Zone) (q c : Name) → IsName q → cut z q ≡ Some c → IsName c
cut_name z q c h i = of_cut IsName name_above z q c h i
