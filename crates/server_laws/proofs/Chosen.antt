-- The type that is chosen where all are asked for is one that the zone answers for.
use Rattle.std.proofs.Common.{◌≡◌, ℕ, Bool, true, false, not, ◌&&◌, ◌||◌, List, [], ◌∷◌, nat_le, eqb, refl, sym, subst}
use Rattle.std.specs.Prelude.{MatchBool}
use Rattle.std.proofs.lemmas.Bool.{and_parts, or_parts}
use Rattle.definitions.specs.Name.{at_or_above}
use Rattle.messages.specs.HandedRr.{among}
use Rattle.messages.specs.Message.{Asked}
use Rattle.answer_terms.specs.Asking.{is_allowed}
use Rattle.answer_publisher_keys.specs.Bindings.{ZoneKeys}
use Rattle.server_answers.specs.Listed.{listed}
use Rattle.server_answers.specs.Aliases.{for_type}
use Rattle.server_answers.specs.Subset.{IsChosen, IsFirst, IsHeld, is_no_data}
use Rattle.server_answers.specs.World.{World}

pub not_true : (b : Bool) → not b ≡ true → b ≡ false
not_true true e = sym e
not_true false e = refl

module _ (w : World) (keys : ZoneKeys) (at : ℕ) (a : Asked) (t : ℕ) where
  abbrev Allowed : ℕ → Type 0
  Allowed u = is_allowed w.zone.apex (for_type u a) ≡ true

  module _ (reserved : Allowed 65535) where
    first_allowed : (us : List ℕ) → IsFirst w keys at (for_type 65535 a) us t → Allowed t
    first_allowed [] e = subst Allowed (sym e) reserved
    first_allowed (u ∷ us) h = go (λ k. first_allowed us k) h.0 h.1 h.2
      where
        go : (IsFirst w keys at (for_type 65535 a) us t → Allowed t) → (b : Bool) → IsHeld w keys at (for_type u a) b
            → MatchBool b (t ≡ u) (IsFirst w keys at (for_type 65535 a) us t) → Allowed t
        go more true held e = subst Allowed (sym e) held.1.0
        go more false held rest = more rest

    by_denial : (b : Bool) (m : List ℕ) → MatchBool b (IsFirst w keys at (for_type 65535 a) (listed m) t) (t ≡ 65535) → Allowed t
    by_denial true m first = first_allowed (listed m) first
    by_denial false m e = subst Allowed (sym e) reserved

  chosen_allowed : IsChosen w keys at a t → Allowed t
  chosen_allowed h = by_denial h.1.0 (is_no_data h.0) h.0 h.2

  -- so it is none of those that signatures and records of chains have
  pub chosen_plain : IsChosen w keys at a t → among (46 ∷ 47 ∷ 50 ∷ []) t ≡ false
  chosen_plain h =
      let q = for_type t a in
      let signing = among (46 ∷ 47 ∷ 48 ∷ 50 ∷ 51 ∷ 5 ∷ 39 ∷ 0 ∷ 41 ∷ []) t in
      let here = eqb q.class 1 && at_or_above w.zone.apex q.name in
      let low = and_parts (here && not signing) (not (nat_le 128 t && nat_le t 255)) (chosen_allowed h) in
      let none = not_true signing (and_parts here (not signing) low.0).1 in
      let p46 = or_parts (eqb t 46) _ none in
      let p47 = or_parts (eqb t 47) _ p46.1 in
      let p48 = or_parts (eqb t 48) _ p47.1 in
      let p50 = or_parts (eqb t 50) _ p48.1 in
      λ i. p46.0 i || (p47.0 i || (p50.0 i || false))
