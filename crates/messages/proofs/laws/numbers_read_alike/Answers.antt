use Rattle.std.proofs.Common.{◌≡◌, ℕ, zero, suc, ◌+◌, ◌<◌, List, [], ◌∷◌, length, refl, ap, ◌∙◌, arith}
use Rattle.std.specs.Prelude.{Some, None, Ok, Err, Result, Option, slice_get, slice_index}
use Rattle.messages.specs.declared.error.MessageError.{MessageError}
use Rattle.messages.specs.declared.error.MessageError.TheVariants.{ShortInput}
use Rattle.messages.specs.Message.{◌>>=◌, octet_at, of_octets, of_pairs, pair, quad, u16_at, u32_at}
use Rattle.messages.proofs.laws.numbers_read_alike.Goals as goal

there : (m : List ℕ) (p : ℕ) → p < length m → slice_get m p ≡ Some (slice_index m p)
there [] p h = absurd (omega (arith, h))
there (x ∷ m) zero h = refl
there (x ∷ m) (suc p) h = there m p (omega (arith, h))

octet : (m : List ℕ) (p : ℕ) → p < length m → octet_at m p ≡ Ok (slice_index m p)
octet m p h = ap (λ (o : Option ℕ). elim o as (λ _. Result ℕ MessageError) [ None ↦ Err ShortInput | Some b ↦ Ok b ]) (there m p h)

pairs : (m : List ℕ) (p : ℕ) → p + 1 < length m → u16_at m p ≡ Ok (pair m p)
pairs m p h =
    (λ i. octet m p (omega (arith, h)) i >>= (λ a. octet_at m (p + 1) >>= (λ b. Ok (of_octets a b))))
    ∙ (λ i. octet m (p + 1) h i >>= (λ b. Ok (of_octets (slice_index m p) b)))

quads : (m : List ℕ) (p : ℕ) → p + 3 < length m → u32_at m p ≡ Ok (quad m p)
quads m p h =
    (λ i. pairs m p (omega (arith, h)) i >>= (λ a. u16_at m (p + 2) >>= (λ b. Ok (of_pairs a b))))
    ∙ (λ i. pairs m (p + 2) (omega (arith, h)) i >>= (λ b. Ok (of_pairs (pair m p) b)))

pub returns : goal.returns
returns c = record { pairs = pairs; quads = quads }
