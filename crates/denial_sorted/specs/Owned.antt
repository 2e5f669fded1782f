-- Records of a class and an owner, and those that stand before them in canonical order.
use Rattle.std.specs.Prelude.{ℕ, Bool, ◌&&◌, nat_eq}
use Rattle.std.specs.Ordering.{is_lt, nat_cmp, ordering_then}
use Rattle.definitions.specs.Name.{Name, name_cmp, same}
use Rattle.plain.specs.declared.record.Record.{Record}

-- a record of this class and owner, up to ASCII case
abbrev pub is_owned : {N D : Type 0} → (N → Name) → ℕ → Name → Record N D → Bool
is_owned name class owner r = nat_eq r.class class && same (name r.owner) owner

-- whether a record has a lesser class, or this class and an owner that comes before
abbrev pub is_before : {N D : Type 0} → (N → Name) → ℕ → Name → Record N D → Bool
is_before name class owner r = is_lt (ordering_then (nat_cmp r.class class) (name_cmp (name r.owner) owner))
