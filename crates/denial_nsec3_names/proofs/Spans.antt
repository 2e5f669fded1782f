-- Counting up to the last label that differs.
use Rattle.std.proofs.Common.{◌≡◌, ℕ, zero, suc, ◌+◌, true, false, refl, arith}
use Rattle.denial_nsec3_names.specs.Differing.{one_more}

-- behind so many labels, of which so many are up to the last that differs, with so many more up to the last
abbrev pub spans : ℕ → ℕ → ℕ → ℕ
spans place last zero = last
spans place last (suc n) = place + suc n

pub spans_all : (d : ℕ) → spans 0 0 d ≡ d
spans_all zero = refl
spans_all (suc n) = omega arith

pub spans_alike : (place last d : ℕ) → spans place last (one_more true d) ≡ spans (place + 1) last d
spans_alike place last zero = refl
spans_alike place last (suc n) = omega arith

pub spans_unlike : (place last d : ℕ) → spans place last (one_more false d) ≡ spans (place + 1) (place + 1) d
spans_unlike place last zero = refl
spans_unlike place last (suc n) = omega arith
