-- base32hex, block by block.
use Rattle.std.proofs.lemmas.List.{take-append-drop}
use Rattle.std.proofs.Math.Seq.{take-append_seam}
use Rattle.std.proofs.Common.{◌≡◌, ℕ, ◌≤◌, List, [], ◌∷◌, ◌++◌, length, take, drop, refl, sym, ap, ◌∙◌, arith, get_or, append_assoc, length-take-le}
use Rattle.definitions.specs.Base32hex.{base32hex}
use Rattle.numbers.specs.Blocks.{front_digits, back_digits, block_text}

-- five octets or more
pub first_five : (xs : List ℕ) → 5 ≤ length xs → front_digits (get_or xs 0 0) (get_or xs 1 0) (get_or xs 2 0) ++ back_digits (get_or xs 2 0) (get_or xs 3 0) (get_or xs 4 0) ≡ block_text xs
first_five [] h = absurd (omega (arith, h))
first_five (a ∷ []) h = absurd (omega (arith, h))
first_five (a ∷ b ∷ []) h = absurd (omega (arith, h))
first_five (a ∷ b ∷ c ∷ []) h = absurd (omega (arith, h))
first_five (a ∷ b ∷ c ∷ d ∷ []) h = absurd (omega (arith, h))
first_five (a ∷ b ∷ c ∷ d ∷ e ∷ xs) h = refl

-- five octets
pub block_digits : (xs : List ℕ) → length xs ≡ 5 → base32hex xs ≡ front_digits (get_or xs 0 0) (get_or xs 1 0) (get_or xs 2 0) ++ back_digits (get_or xs 2 0) (get_or xs 3 0) (get_or xs 4 0)
block_digits [] h = absurd (omega (arith, h))
block_digits (a ∷ []) h = absurd (omega (arith, h))
block_digits (a ∷ b ∷ []) h = absurd (omega (arith, h))
block_digits (a ∷ b ∷ c ∷ []) h = absurd (omega (arith, h))
block_digits (a ∷ b ∷ c ∷ d ∷ []) h = absurd (omega (arith, h))
block_digits (a ∷ b ∷ c ∷ d ∷ e ∷ []) h = refl
block_digits (a ∷ b ∷ c ∷ d ∷ e ∷ f ∷ xs) h = absurd (omega (arith, h))

-- five octets in front of others
pub block_first : (xs rest : List ℕ) → length xs ≡ 5 → base32hex (xs ++ rest) ≡ base32hex xs ++ base32hex rest
block_first [] rest h = absurd (omega (arith, h))
block_first (a ∷ []) rest h = absurd (omega (arith, h))
block_first (a ∷ b ∷ []) rest h = absurd (omega (arith, h))
block_first (a ∷ b ∷ c ∷ []) rest h = absurd (omega (arith, h))
block_first (a ∷ b ∷ c ∷ d ∷ []) rest h = absurd (omega (arith, h))
block_first (a ∷ b ∷ c ∷ d ∷ e ∷ []) rest h = refl
block_first (a ∷ b ∷ c ∷ d ∷ e ∷ f ∷ xs) rest h = absurd (omega (arith, h))

-- a block more
pub one_block : (old new : List ℕ) (rest block behind all : List ℕ) → 5 ≤ length rest → block ≡ take 5 rest → behind ≡ drop 5 rest → new ≡ old ++ base32hex block → old ++ base32hex rest ≡ all → new ++ base32hex behind ≡ all
one_block old new rest block behind all some b d n h =
    let len : length block ≡ 5 = ap length b ∙ length-take-le 5 rest some in
    let whole : block ++ behind ≡ rest = (λ i. b i ++ d i) ∙ take-append-drop 5 rest in
    ap (λ t. t ++ base32hex behind) n ∙ append_assoc old (base32hex block) (base32hex behind)
    ∙ ap (λ t. old ++ t) (sym (block_first block behind len) ∙ ap base32hex whole) ∙ h

-- what stands in front stays there when more is appended
pub kept : (old xs ys : List ℕ) → take (length old) xs ≡ old → take (length old) (xs ++ ys) ≡ old
kept old xs ys h =
    let rest = drop (length old) xs in
    let whole : old ++ rest ≡ xs = (λ i. sym h i ++ rest) ∙ take-append-drop (length old) xs in
    ap (λ t. take (length old) (t ++ ys)) (sym whole) ∙ ap (take (length old)) (append_assoc old rest ys) ∙ take-append_seam old (rest ++ ys)
