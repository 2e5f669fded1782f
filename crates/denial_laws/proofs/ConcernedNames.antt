-- The names that a question concerns are names where its own is one.
use Rattle.std.proofs.Common.{ℕ, ◌≤◌, List, [], ◌∷◌, map, sym, subst, inl, inr, ⊎_elim, arith, lit<, lit≤}
use Rattle.std.specs.Prelude.{filter}
use Rattle.definitions.specs.Name.{Name, IsLabel, IsName, at_or_above, wire_len}
use Rattle.definitions.specs.Zone.{star_under}
use Rattle.definitions.specs.ZoneChain.{with_parents}
use Rattle.definitions.proofs.Members.{In, append_in, filter_in, in_contained, map_in}
use Rattle.definitions.proofs.ReadingLaws.{wire_len-cons}
use Rattle.denial_laws.specs.Laws.{ConcernedAreNames}
use Rattle.denial_laws.specs.Truth.{concerned, parents}

tail_name : (l : List ℕ) (q : Name) → IsName (l ∷ q) → IsName q
tail_name l q h = record { labels = h.labels.1; short = omega (arith, h.short, wire_len-cons l q) }

above_name : (q : Name) → IsName q → (p : Name) → In p (with_parents q) → IsName p
above_name [] h p i = elim i [ inl e ↦ subst IsName (sym e) h | inr none ↦ absurd none ]
above_name (l ∷ q) h p i = elim i [ inl e ↦ subst IsName (sym e) h | inr j ↦ above_name q (tail_name l q h) p j ]

above_short : (q p : Name) → In p (with_parents q) → wire_len p ≤ wire_len q
above_short [] p i = elim i [ inl e ↦ subst (λ n. wire_len n ≤ wire_len []) (sym e) (omega arith) | inr none ↦ absurd none ]
above_short (l ∷ q) p i = elim i [
  | inl e ↦ subst (λ n. wire_len n ≤ wire_len (l ∷ q)) (sym e) (omega arith)
  | inr j ↦ let r = above_short q p j in omega (arith, r, wire_len-cons l q)
]

star_label : IsLabel (42 ∷ [])
star_label = record { some = lit< tt; short = lit≤ tt }

star_name : (q : Name) → IsName q → (p : Name) → In p (parents q) → IsName (star_under p)
star_name [] h p i = absurd i
star_name (l ∷ q) h p i =
    let name : IsName p = above_name q (tail_name l q h) p i in
    let short = above_short q p i in
    record {
      labels = (star_label, name.labels);
      short = omega (arith, short, h.short, h.labels.0.some, wire_len-cons l q, wire_len-cons (42 ∷ []) p);
    }

pub concerned_are_names : ConcernedAreNames
concerned_are_names apex q n h c =
    let i : In n (concerned apex q) = in_contained (concerned apex q) n c.0 c.1 c.2 in
    ⊎_elim
    (λ (here : In n (filter (at_or_above apex) (with_parents q))). above_name q h n (filter_in (at_or_above apex) (with_parents q) n here).0)
    (λ (star : In n (map star_under (filter (at_or_above apex) (parents q)))).
    let p = map_in star_under (filter (at_or_above apex) (parents q)) n star in
    subst IsName (sym p.makes) (star_name q h p.item (filter_in (at_or_above apex) (parents q) p.item p.inside).0))
    (append_in (filter (at_or_above apex) (with_parents q)) (map star_under (filter (at_or_above apex) (parents q))) n i)
