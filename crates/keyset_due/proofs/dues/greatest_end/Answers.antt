use Rattle.std.proofs.Common.{◌≡◌, ℕ, List, [], ◌∙◌, ap, arith, map, max}
use Rattle.std.specs.Map.{values_of}
use Rattle.keyset.specs.KeyState.{greatest, Key}
use Rattle.keyset_rolls.specs.Rolls.{awaited}
use Rattle.keyset.proofs.KeyMaps.{greatest-by_reference}
use Rattle.keyset_due.specs.Dues.{end_of}
use Rattle.keyset_due.proofs.dues.greatest_end.Goals as goal

ended : (f : Key → ℕ) (n : ℕ) (left all : List Key) → max n (greatest (map f left)) ≡ greatest (map f all) → left ≡ [] → n ≡ greatest (map f all)
ended f n left all h e =
    let a : max n (greatest (map f left)) ≡ max n 0 = ap (λ l. max n (greatest (map f l))) e in
    omega (arith, a, h)

pub returns-clause-exact : goal.returns-clause-exact
returns-clause-exact c =
    let f = λ (k : Key). end_of c.args.ttl (awaited c.args.turn c.args.rolltype k) in
    let start : c.into_iter-key-iterator.result ≡ values_of c.args.keys.now.entries = cc in
    ended f c.loop-key.greatest c.loop-key.key-iterator c.into_iter-key-iterator.result c.loop-key.invariant.0 c.in-None.ensures.steps.0
    ∙ ap (λ l. greatest (map f l)) start
    ∙ greatest-by_reference f c.args.keys.now.entries c.values-key-items.ensures.unique
