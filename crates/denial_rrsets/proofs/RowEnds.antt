-- A row of labels that ends with another.
use Rattle.std.proofs.Common.{◌≡◌, ℕ, ◌+◌, ◌-◌, ◌<◌, ◌≤◌, Bool, true, false, List, length, take, drop, refl, sym, ap, ◌∙◌, length-drop, subst, ◌⊎◌, inl, inr, arith}
use Rattle.std.specs.Prelude.{◌↔◌, IsTrue}
use Rattle.std.specs.Char.{to_ascii_lowercase}
use Rattle.std.specs.Str.{str_to_ascii_lowercase}
use Rattle.std.proofs.lemmas.Bool.{cases_lt}
use Rattle.std.proofs.lemmas.List.{length-map}
use Rattle.definitions.specs.Name.{Name, same, at_or_above}
use Rattle.names_labels.specs.Flat.{spelled, labels_in, IsRun, StartsLabel}
use Rattle.names_labels.specs.Order.{SameEnds, HaveTail}
use Rattle.names_labels.proofs.Compares.{ends-begins, ends-same, ends_short, same-begins, same_length}
use Rattle.names_labels.proofs.Cuts.{cuts}
use Rattle.names_labels.proofs.Lowered.{lowered_same, same_lowered}

itself : (k : ℕ) → k - k ≡ 0
itself k = omega arith

-- where the octets are the same and a label begins, so many labels are the same
ends_so : (run tail : List ℕ) → IsRun run → IsRun tail → SameEnds run tail (length tail) → StartsLabel (labels_in run) (length run - length tail) → at_or_above (labels_in tail) (labels_in run) ≡ true
ends_so run tail r t s w =
    let k = w.0 in
    let place = length run - length tail in
    let c = cuts run place k r w.2 in
    let octets : str_to_ascii_lowercase (drop place run) ≡ str_to_ascii_lowercase tail = s.2 ∙ ap (λ d. str_to_ascii_lowercase (drop d tail)) (itself (length tail)) in
    let found : same (drop k (labels_in run)) (labels_in tail) ≡ true = ap (λ n. same n (labels_in tail)) (sym c.back) ∙ lowered_same (drop place run) tail c.back_run t octets in
    let few = same_length (drop k (labels_in run)) (labels_in tail) found in
    sym (ends-same true (labels_in tail) (labels_in run) (drop k (labels_in run)) k (omega (arith, w.1, few, length-drop k (labels_in run))) refl ((λ h. found), (λ h. refl)))

record Ends (run tail : List ℕ) : Type 0 where
  pub octets : SameEnds run tail (length tail)
  pub starts : StartsLabel (labels_in run) (length run - length tail)

-- and only there
so_ends : (run tail : List ℕ) → IsRun run → IsRun tail → at_or_above (labels_in tail) (labels_in run) ≡ true → length (labels_in tail) ≤ length (labels_in run) → Ends run tail
so_ends run tail r t h fits =
    let k = length (labels_in run) - length (labels_in tail) in
    let place = length (spelled (take k (labels_in run))) in
    let c = cuts run place k r refl in
    let all : k + length (labels_in tail) ≡ length (labels_in run) = omega (arith, fits) in
    let few : length (drop k (labels_in run)) ≡ length (labels_in tail) = omega (arith, fits, length-drop k (labels_in run)) in
    let found : same (drop k (labels_in run)) (labels_in tail) ≡ true = same-begins (drop k (labels_in run)) (labels_in tail) few ∙ sym (ends-begins (labels_in tail) (labels_in run) k all) ∙ h in
    let octets : str_to_ascii_lowercase (drop place run) ≡ str_to_ascii_lowercase tail = same_lowered (drop place run) tail c.back_run t (ap (λ n. same n (labels_in tail)) c.back ∙ found) in
    let long : length (drop place run) ≡ length tail = sym (length-map (drop place run) to_ascii_lowercase) ∙ ap length octets ∙ length-map tail to_ascii_lowercase in
    let at : place ≡ length run - length tail = omega (arith, c.within, long, length-drop place run) in
    record {
      octets = (omega (arith, c.within, long, length-drop place run), omega arith, ap (λ p. str_to_ascii_lowercase (drop p run)) (sym at) ∙ octets ∙ ap (λ d. str_to_ascii_lowercase (drop d tail)) (sym (itself (length tail))));
      starts = (k, omega arith, sym at);
    }

fits : (base n : Name) → at_or_above base n ≡ true → (length n < length base) ⊎ (length base ≤ length n) → length base ≤ length n
fits base n h (inl l) = let x : false ≡ true = ends_short base n l ∙ h in absurd cc
fits base n h (inr l) = l

ends_found : (run tail : List ℕ) → IsRun run → IsRun tail → at_or_above (labels_in tail) (labels_in run) ≡ true → Ends run tail
ends_found run tail r t h = so_ends run tail r t h (fits (labels_in tail) (labels_in run) h (cases_lt (length (labels_in run)) (length (labels_in tail))))

-- rows with less in common at their ends
pub ends_not : (run tail : List ℕ) (count : ℕ) → IsRun run → IsRun tail → HaveTail run tail count → (count ≡ length tail → ⊥) → false ≡ at_or_above (labels_in tail) (labels_in run)
ends_not run tail count r t have apart = go (at_or_above (labels_in tail) (labels_in run)) refl
  where
    go : (b : Bool) → at_or_above (labels_in tail) (labels_in run) ≡ b → false ≡ b
    go false e = refl
    go true e = let m = have.most (length tail) (ends_found run tail r t e).octets in absurd (apart (omega (arith, m, have.same.1)))

-- rows with all of the second in common
pub ends_where : (run tail : List ℕ) (count : ℕ) (b : Bool) → IsRun run → IsRun tail → HaveTail run tail count → count ≡ length tail → IsTrue b ↔ StartsLabel (labels_in run) (length run - length tail) → b ≡ at_or_above (labels_in tail) (labels_in run)
ends_where run tail count b r t have e is = go b (at_or_above (labels_in tail) (labels_in run)) is refl
  where
    all : SameEnds run tail (length tail)
    all = subst (SameEnds run tail) e have.same

    go : (b u : Bool) → IsTrue b ↔ StartsLabel (labels_in run) (length run - length tail) → at_or_above (labels_in tail) (labels_in run) ≡ u → b ≡ u
    go true u is h = sym (ends_so run tail r t all (is.0 refl)) ∙ h
    go false true is h = is.1 (ends_found run tail r t h).starts
    go false false is h = refl

lowered_length : (run other : List ℕ) → str_to_ascii_lowercase run ≡ str_to_ascii_lowercase other → length run ≡ length other
lowered_length run other e = sym (length-map run to_ascii_lowercase) ∙ ap length e ∙ length-map other to_ascii_lowercase

-- rows of unlike lengths
pub same_not : (run other : List ℕ) → IsRun run → IsRun other → (length run ≡ length other → ⊥) → false ≡ same (labels_in run) (labels_in other)
same_not run other r t apart = go (same (labels_in run) (labels_in other)) refl
  where
    go : (b : Bool) → same (labels_in run) (labels_in other) ≡ b → false ≡ b
    go false e = refl
    go true e = absurd (apart (lowered_length run other (same_lowered run other r t e)))

-- rows as long as each other are the same where they have all in common
pub same_where : (run other : List ℕ) (count : ℕ) (b : Bool) → IsRun run → IsRun other → HaveTail run other count → length run ≡ length other → IsTrue b ↔ (count ≡ length run) → b ≡ same (labels_in run) (labels_in other)
same_where run other count b r t have long is = go b (same (labels_in run) (labels_in other)) is refl
  where
    whole : (n : ℕ) → SameEnds run other n → n ≡ length run → str_to_ascii_lowercase run ≡ str_to_ascii_lowercase other
    whole n s e =
        let left : length run - n ≡ 0 = omega (arith, e) in
        let right : length other - n ≡ 0 = omega (arith, e, long) in
        ap (λ d. str_to_ascii_lowercase (drop d run)) (sym left) ∙ s.2 ∙ ap (λ d. str_to_ascii_lowercase (drop d other)) right

    ends : str_to_ascii_lowercase run ≡ str_to_ascii_lowercase other → SameEnds run other (length run)
    ends e =
        let left : length run - length run ≡ 0 = omega arith in
        let right : length other - length run ≡ 0 = omega (arith, long) in
        (omega arith, omega (arith, long), ap (λ d. str_to_ascii_lowercase (drop d run)) left ∙ e ∙ ap (λ d. str_to_ascii_lowercase (drop d other)) (sym right))

    go : (b u : Bool) → IsTrue b ↔ (count ≡ length run) → same (labels_in run) (labels_in other) ≡ u → b ≡ u
    go true u is h = sym (lowered_same run other r t (whole count have.same (is.0 refl))) ∙ h
    go false true is h =
        let m = have.most (length run) (ends (same_lowered run other r t h)) in is.1 (omega (arith, m, have.same.0))
    go false false is h = refl
