-- A label that is read from characters, one by one.
use Rattle.std.specs.Prelude.{◌≡◌, ◌⊎◌, ℕ, ◌≤◌, true, List, [], ◌∷◌, ◌++◌, length, Option, Some, None}
use Rattle.std.specs.Iterator.{Yields, Drains}
use Rattle.definitions.specs.Text.{Symbol, is_dot, is_bracket}

-- why a symbol can't go behind some octets of a label: it separates, it would begin a binary label, or there are 63
abbrev pub CannotFollow : List ℕ → Symbol → Type 0
CannotFollow octets s = (is_dot s ≡ true) ⊎ ((octets ≡ []) × (is_bracket s ≡ true)) ⊎ (63 ≤ length octets)

-- Nothing is read from the characters that an iterator gave: whatever may come behind them, or there are no more.
abbrev pub SpellsNothing : {S A : Type 0} → (S → Option ℕ → S → Type 0) → S → (List ℕ → Option A) → Type 0
SpellsNothing {S} steps s read =
    ((text : List ℕ) × (t : S) × Yields steps s text t × ((rest : List ℕ) → read (text ++ rest) ≡ None))
    ⊎ ((text : List ℕ) × Drains steps s text × (read text ≡ None))

-- the iterator gave a text that is read as this value
abbrev pub CharsSpell : {S A : Type 0} → (S → Option ℕ → S → Type 0) → S → (List ℕ → Option A) → A → Type 0
CharsSpell {S} steps s read a = (text : List ℕ) × Drains steps s text × (read text ≡ Some a)

-- the characters of a text, one by one
abbrev pub in_turn : List ℕ → Option ℕ → List ℕ → Type 0
in_turn text None rest = text ≡ []
in_turn text (Some c) rest = text ≡ c ∷ rest
