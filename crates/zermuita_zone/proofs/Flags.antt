-- What the flag of a handle tells.
use Rattle.std.proofs.Common.{◌≡◌, ℕ, ◌==◌, refl, sym, ◌∙◌, arith, false}
use Rattle.std.specs.Prelude.{Option, Some, None}
use Rattle.zermuita_zone.specs.declared.opened.OpenZone.{OpenZone}
use Rattle.zermuita_zone.specs.Handles.{flag_of}

pub held_open : (o : Option OpenZone) (n : ℕ) → n ≡ flag_of o → n ≡ 1 → (x : OpenZone) × (o ≡ Some x)
held_open None n e is = absurd (let h : 1 ≡ 0 = sym is ∙ e in omega (arith, h))
held_open (Some x) n e is = (x, refl)

pub held_closed : (o : Option OpenZone) (n : ℕ) → n ≡ flag_of o → (n ≡ 1 → ⊥) → o ≡ None
held_closed None n e is = refl
held_closed (Some x) n e is = absurd (is e)

pub flag_none : (o : Option OpenZone) → (flag_of o == 1) ≡ false → o ≡ None
flag_none None is = refl
flag_none (Some x) is = cc
