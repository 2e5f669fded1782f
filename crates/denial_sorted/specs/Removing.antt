-- The records that are asked for by owner, class and type, and what is left without the first of them.
use Rattle.std.specs.Prelude.{◌≡◌, ℕ, ◌<◌, length, false, Bool, true, ◌&&◌, nat_eq, List, [], ◌∷◌, Option, if◌then◌else◌}
use Rattle.std.specs.declared.option.Option.TheVariants.{None, Some}
use Rattle.std.specs.List.{list_any, remove}
use Rattle.definitions.specs.Name.{Name, same}
use Rattle.plain.specs.declared.record.Record.{Record}

-- the number, where one is asked for
abbrev pub is_wanted : Option ℕ → ℕ → Bool
is_wanted None n = true
is_wanted (Some k) n = nat_eq n k

-- a record of this owner, up to ASCII case, and of the class and type that are asked for
abbrev pub is_asked : {N D : Type 0} → (N → Name) → (D → ℕ) → Name → Option ℕ → Option ℕ → Record N D → Bool
is_asked name rtype owner class type r = is_wanted class r.class && (is_wanted type (rtype r.content) && same (name r.owner) owner)

-- all but the first item that passes
abbrev pub without_first : {A : Type 0} → (A → Bool) → List A → List A
without_first p [] = []
without_first p (x ∷ xs) = if p x then xs else x ∷ without_first p xs

-- where the first item stands that passes, if one does
abbrev pub IsFirstOf : {A : Type 0} → (A → Bool) → List A → Option ℕ → Type 0
IsFirstOf p xs None = list_any p xs ≡ false
IsFirstOf p xs (Some i) = (i < length xs) × (list_any p xs ≡ true) × (remove xs i ≡ without_first p xs)
