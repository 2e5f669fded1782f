use Rattle.std.proofs.Common.{◌≡◌, ◌&&◌, ◌∙◌, sym, ap, refl, rules, tests, Bool, List, [], ◌∷◌, map}
use Rattle.std.specs.List.{list_all}
use Rattle.std.proofs.lemmas.Iterator.{YieldsList-from_slice}
use Rattle.std.proofs.lemmas.Iterator.Search.{all_from_yields_List}
use Rattle.keyset.specs.KeyState.{algorithm_is_within}
use Rattle.keyset.proofs.set.KeySet.algorithms_are_within.Goals as goal

list_all-map : {X Y : Type 0} (p : Y → Bool) (f : X → Y) (xs : List X) → list_all p (map f xs) ≡ list_all (λ x. p (f x)) xs
list_all-map p f [] = refl
list_all-map p f (x ∷ xs) = ap (λ b. p (f x) && b) (list_all-map p f xs)

pub returns : goal.returns
returns g c =
    let text = g.T.AsStr.text in
    let within = algorithm_is_within c.args.self.now (map text c.args.second.now) in
    let test = λ (r : g.row.T.Denot). within (text r) in
    all_from_yields_List test _ _ _ c.all.ensures.ran (YieldsList-from_slice c.args.first.now cc) (λ x b q k. search (rules, tests))
    ∙ sym (list_all-map within text c.args.first.now)
