-- The name above a name.
use Rattle.std.proofs.Common.{◌≡◌, ◌<◌, length, arith, true, false, [], ◌∷◌, drop, Option, Some, None, Result, Ok, Err, IfOk, refl, sym, subst, ◌∙◌}
use Rattle.std.specs.Prelude.{MatchOption}
use Rattle.std.specs.declared.alloc.AllocError.{AllocError}
use Rattle.std.proofs.lemmas.Bool.{false≢true}
use Rattle.definitions.specs.Name.{Name, at_or_above}
use Rattle.definitions.proofs.ZoneNames.{above_itself}
use Rattle.denial_laws.proofs.NameFacts.{above_trans, strictly_at}
use Rattle.resolution_walk.specs.Wanted.{IsParent}

above_dropped : (n q : Name) → at_or_above n q ≡ true → at_or_above (drop 1 n) q ≡ true
above_dropped [] q a = a
above_dropped (l ∷ n) q a = above_trans n (l ∷ n) q (strictly_at n (l ∷ n) (above_itself n)) a

fewer : (n : Name) → (n ≡ [] → ⊥) → length (drop 1 n) < length n
fewer [] some = absurd (some refl)
fewer (l ∷ n) some = omega arith

parent_is : (n parent : Name) → (n ≡ [] → ⊥) → parent ≡ drop 1 n → IsParent n parent
parent_is n parent some is = record {
  is = is;
  shorter = subst (λ m. length m < length n) (sym is) (fewer n some);
  above = λ q a. subst (λ m. at_or_above m q ≡ true) (sym is) (above_dropped n q a);
}

pub parent_in : (n parent : Name) (r : Result (Option Name) AllocError) → (n ≡ [] → true ≡ false) → parent ≡ drop 1 n → IfOk r (λ o. MatchOption o ⊥ (λ m. m ≡ parent))
    → IfOk r (λ o. MatchOption o (n ≡ []) (IsParent n))
parent_in n parent (Ok (Some m)) some is copy = parent_is n m (λ e. false≢true (sym (some e))) (copy ∙ is)
parent_in n parent (Ok None) some is copy = absurd copy
parent_in n parent (Err x) some is copy = tt
