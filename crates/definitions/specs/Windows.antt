-- The first window of a set of types (RFC 4034, 4.1.2).
use Rattle.std.specs.Prelude.{ℕ, true, false, ◌&&◌, ◌==◌, if◌then◌else◌, List, [], ◌∷◌, length, take, drop, Option, Some, None, nat_le}

-- a window and what is behind it
pub record Split : Type 0 where
  pub number : ℕ
  pub octets : List ℕ
  pub rest : List ℕ

abbrev pub split : ℕ → List ℕ → List ℕ → Split
split w octets rest = record { number = w; octets = octets; rest = rest }

-- the window at the front: a number, a length of 1 to 32, and that many octets
abbrev pub first_window : List ℕ → Option Split
first_window [] = None
first_window (w ∷ []) = None
first_window (w ∷ len ∷ bs) = elim (nat_le 1 len && nat_le len 32 && nat_le len (length bs)) [ true ↦ Some (split w (take len bs) (drop len bs)) | false ↦ None ]

-- octets with a window's number and length before them, nothing where there are none
abbrev pub numbered : ℕ → List ℕ → List ℕ
numbered w os = if length os == 0 then [] else w ∷ length os ∷ os
