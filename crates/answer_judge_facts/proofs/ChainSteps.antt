-- One run of chains' records more, as a loop reads them.
use Rattle.std.proofs.Common.{◌≡◌, ℕ, zero, suc, ◌<◌, ◌≤◌, ◌+◌, ◌-◌, true, false, ◌&&◌, List, [], ◌∷◌, ◌++◌, map, take, drop, length, get_or, refl, sym, ap, subst, ◌∙◌, arith}
use Rattle.std.specs.List.{AllByRecursion}
use Rattle.std.proofs.lemmas.Bool.{and_parts, eqb-true}
use Rattle.std.proofs.lemmas.List.{length-drop}
use Rattle.definitions.specs.Name.{Name, same}
use Rattle.messages.specs.Message.{Spelled}
use Rattle.messages.specs.Record.{spelled}
use Rattle.messages.specs.declared.view.ViewRecord.{ViewRecord}
use Rattle.answer_judge_facts.specs.Marked.{has_place, holds_one, is_chain_type}
use Rattle.answer_judge_facts.specs.Ranked.{IsRun, alike_len, are_alike, run_data}
use Rattle.answer_judge_facts.specs.declared.groups.SignedRrset.{SignedRrset}
use Rattle.answer_judge_facts.proofs.ChainRuns.{Gathering, run_front, run_more, run_none}
use Rattle.messages.proofs.Lists.{items_from}

map_take : (n : ℕ) (vs : List ViewRecord) → map spelled (take n vs) ≡ take n (map spelled vs)
map_take zero vs = refl
map_take (suc n) [] = refl
map_take (suc n) (v ∷ vs) = ap (λ ss. spelled v ∷ ss) (map_take n vs)

map_drop : (n : ℕ) (vs : List ViewRecord) → map spelled (drop n vs) ≡ drop n (map spelled vs)
map_drop zero vs = refl
map_drop (suc n) [] = refl
map_drop (suc n) (v ∷ vs) = map_drop n vs

drop_none : (n : ℕ) → drop {A = ViewRecord} n [] ≡ []
drop_none zero = refl
drop_none (suc n) = refl

drop_drop : (a b : ℕ) (vs : List ViewRecord) → drop b (drop a vs) ≡ drop (a + b) vs
drop_drop zero b vs = ap (λ n. drop n vs) (omega arith)
drop_drop (suc a) b [] = drop_none b ∙ sym (drop_none (suc a + b))
drop_drop (suc a) b (v ∷ vs) = let e : suc a + b ≡ suc (a + b) = omega arith in drop_drop a b vs ∙ ap (λ n. drop n (v ∷ vs)) (sym e)

-- what stands from a place to the end
pub take_rest : (k : ℕ) (vs : List ViewRecord) → take (length vs - k) (drop k vs) ≡ drop k vs
take_rest k vs = take_long (length vs - k) (drop k vs) (omega (arith, length-drop k vs))
  where
    take_long : (n : ℕ) (ws : List ViewRecord) → length ws ≤ n → take n ws ≡ ws
    take_long zero [] h = refl
    take_long zero (w ∷ ws) h = absurd (omega arith)
    take_long (suc n) [] h = refl
    take_long (suc n) (w ∷ ws) h = ap (λ xs. w ∷ xs) (take_long n ws (omega arith))

unmapped : (P : Spelled → Type 0) (vs : List ViewRecord) → AllByRecursion P (map spelled vs) → AllByRecursion (λ (v : ViewRecord). P (spelled v)) vs
unmapped P [] h = tt
unmapped P (v ∷ vs) h = (h.0, unmapped P vs h.1)

types : (r : Spelled) (vs : List ViewRecord) → AllByRecursion (λ (v : ViewRecord). are_alike r (spelled v) ≡ true) vs → AllByRecursion (λ (v : ViewRecord). v.rtype ≡ r.rtype) vs
types r [] h = tt
types r (v ∷ vs) h = (sym (eqb-true r.rtype v.rtype (and_parts _ (same r.owner v.owner) h.0).0), types r vs h.1)

module _ (m : List ℕ) (apex : Name) (vs : List ViewRecord) (i : ℕ) (v : ViewRecord) (gs : List SignedRrset) (inside : i < length vs) (is : v ≡ get_or vs i v) (now : Gathering m apex (map spelled vs) (map spelled (drop i vs)) gs) (end : ℕ) (ends : end ≡ i + 1 + alike_len (spelled v) (map spelled (drop (i + 1) vs))) where
  abbrev others : List Spelled
  others = map spelled (drop (i + 1) vs)

  abbrev count : ℕ
  count = alike_len (spelled v) (map spelled (drop (i + 1) vs))

  from : drop i vs ≡ v ∷ drop (i + 1) vs
  from = items_from vs i v inside is

  left : map spelled (drop i vs) ≡ spelled v ∷ others
  left = ap (map spelled) from

  state : Gathering m apex (map spelled vs) (spelled v ∷ others) gs
  state = subst (λ ss. Gathering m apex (map spelled vs) ss gs) left now

  pub first_chain : is_chain_type v.rtype ≡ true
  first_chain = (and_parts (is_chain_type v.rtype) _ state.chain.0).0

  run_vs : take (end - i) (drop i vs) ≡ v ∷ take count (drop (i + 1) vs)
  run_vs = let e : end - i ≡ suc count = omega (arith, ends) in (λ j. take (e j) (from j))

  run_is : map spelled (take (end - i) (drop i vs)) ≡ spelled v ∷ take count others
  run_is = ap (map spelled) run_vs ∙ ap (λ ss. spelled v ∷ ss) (map_take count (drop (i + 1) vs))

  behind_is : map spelled (drop end vs) ≡ drop count others
  behind_is = ap (λ n. map spelled (drop n vs)) ends ∙ ap (map spelled) (sym (drop_drop (i + 1) count vs)) ∙ map_drop count (drop (i + 1) vs)

  pub run_types : AllByRecursion (λ (w : ViewRecord). w.rtype ≡ v.rtype) (take (end - i) (drop i vs))
  run_types =
      let front : AllByRecursion (λ (w : ViewRecord). are_alike (spelled v) (spelled w) ≡ true) (take count (drop (i + 1) vs)) = unmapped (λ s. are_alike (spelled v) s ≡ true) (take count (drop (i + 1) vs)) (subst (AllByRecursion (λ s. are_alike (spelled v) s ≡ true)) (sym (map_take count (drop (i + 1) vs))) (run_front (spelled v) others)) in
      subst (AllByRecursion (λ (w : ViewRecord). w.rtype ≡ v.rtype)) (sym run_vs) (refl, types (spelled v) (take count (drop (i + 1) vs)) front)

  pub step_none : (has_place v.rtype apex v.owner && holds_one v.rtype (run_data m (map spelled (take (end - i) (drop i vs))))) ≡ false → Gathering m apex (map spelled vs) (map spelled (drop end vs)) gs
  step_none fails =
      subst (λ ss. Gathering m apex (map spelled vs) ss gs) (sym behind_is)
      (run_none m apex (map spelled vs) (spelled v) others gs state (ap (λ ss. has_place v.rtype apex v.owner && holds_one v.rtype (run_data m ss)) (sym run_is) ∙ fails))

  pub step_more : (g : SignedRrset) → IsRun m apex (spelled v) (run_data m (map spelled (take (end - i) (drop i vs)))) g → Gathering m apex (map spelled vs) (map spelled (drop end vs)) (gs ++ g ∷ [])
  step_more g made =
      subst (λ ss. Gathering m apex (map spelled vs) ss (gs ++ g ∷ [])) (sym behind_is)
      (run_more m apex (map spelled vs) (spelled v) others gs state g (subst (λ ss. IsRun m apex (spelled v) (run_data m ss) g) run_is made))
