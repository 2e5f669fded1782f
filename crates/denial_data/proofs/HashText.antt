-- Hashes are read back from their texts.
use Rattle.std.proofs.Common.{◌≡◌, ℕ, zero, suc, ◌+◌, ◌*◌, ◌/◌, ◌%◌, ◌<◌, ◌≤◌, inl, inr, Bool, true, false, List, [], ◌∷◌, length, Ok, Err, Some, None, refl, sym, ap, subst, ◌∙◌, arith, cond, ltb}
use Rattle.std.specs.Prelude.{◌==◌, ◌&&◌, not}
use Rattle.std.specs.List.{AllByRecursion, prefix_len}
use Rattle.std.specs.Char.{to_ascii_lowercase}
use Rattle.std.specs.Str.{str_to_ascii_lowercase}
use Rattle.std.proofs.lemmas.Bool.{and_parts, cases_lt, eqb-true, le-ltb}
use Rattle.definitions.specs.Base32hex.{base32hex, digit}
use Rattle.numbers.specs.Decoding.{is_digit, first_no_digit, decoded}
use Rattle.numbers.specs.Refusing.{IsBadLength}
use Rattle.numbers.specs.declared.base32hex.DecodeError.TheVariants as decode
use Rattle.numbers.proofs.Decodes.{decodes}
use Rattle.denial_fields.specs.declared.error.OwnerHashFromStrError.TheVariants.{DecodeError, OwnerHashError, Memory}
use Rattle.denial_data.specs.HashTexts.{HashesAreReadBack}

-- a digit, in lower case
abbrev fine : ℕ → Bool
fine c = is_digit c && (to_ascii_lowercase c == c)

abbrev all_fine : ℕ → Bool
all_fine zero = true
all_fine (suc n) = fine (digit n) && all_fine n

fine_at : (n d : ℕ) → all_fine n ≡ true → d < n → fine (digit d) ≡ true
fine_at zero d h lt = absurd (omega arith)
fine_at (suc n) d h lt =
    let parts = and_parts (fine (digit n)) (all_fine n) h in
    elim (cases_lt d n) [
      | inl below ↦ fine_at n d parts.1 below
      | inr top ↦
          let e : d ≡ n = omega arith in
          rw e parts.0
    ]

is_fine : (d : ℕ) → d < 32 → fine (digit d) ≡ true
is_fine d h = fine_at 32 d refl h

digits : (o : List ℕ) → AllByRecursion (λ x. x < 256) o → AllByRecursion (λ c. fine c ≡ true) (base32hex o)
digits [] h = tt
digits (a ∷ []) h = (is_fine (a / 8) (omega (arith, h.0)), (is_fine (a % 8 * 4) (omega arith), tt))
digits (a ∷ b ∷ []) h = (is_fine (a / 8) (omega (arith, h.0)), (is_fine (a % 8 * 4 + b / 64) (omega (arith, h.1.0)), (is_fine (b / 2 % 32) (omega arith), (is_fine (b % 2 * 16) (omega arith), tt))))
digits (a ∷ b ∷ c ∷ []) h = (is_fine (a / 8) (omega (arith, h.0)), (is_fine (a % 8 * 4 + b / 64) (omega (arith, h.1.0)), (is_fine (b / 2 % 32) (omega arith), (is_fine (b % 2 * 16 + c / 16) (omega (arith, h.1.1.0)), (is_fine (c % 16 * 2) (omega arith), tt)))))
digits (a ∷ b ∷ c ∷ d ∷ []) h = (is_fine (a / 8) (omega (arith, h.0)), (is_fine (a % 8 * 4 + b / 64) (omega (arith, h.1.0)), (is_fine (b / 2 % 32) (omega arith), (is_fine (b % 2 * 16 + c / 16) (omega (arith, h.1.1.0)), (is_fine (c % 16 * 2 + d / 128) (omega (arith, h.1.1.1.0)), (is_fine (d / 4 % 32) (omega arith), (is_fine (d % 4 * 8) (omega arith), tt)))))))
digits (a ∷ b ∷ c ∷ d ∷ e ∷ o) h = (is_fine (a / 8) (omega (arith, h.0)), (is_fine (a % 8 * 4 + b / 64) (omega (arith, h.1.0)), (is_fine (b / 2 % 32) (omega arith), (is_fine (b % 2 * 16 + c / 16) (omega (arith, h.1.1.0)), (is_fine (c % 16 * 2 + d / 128) (omega (arith, h.1.1.1.0)), (is_fine (d / 4 % 32) (omega arith), (is_fine (d % 4 * 8 + e / 32) (omega (arith, h.1.1.1.1.0)), (is_fine (e % 32) (omega arith), digits o h.1.1.1.1.1))))))))

lowered : (xs : List ℕ) → AllByRecursion (λ c. fine c ≡ true) xs → str_to_ascii_lowercase xs ≡ xs
lowered [] h = refl
lowered (c ∷ xs) h =
    let low = (and_parts (is_digit c) (to_ascii_lowercase c == c) h.0).1 in
    λ i. eqb-true (to_ascii_lowercase c) c low i ∷ lowered xs h.1 i

all_digits : (xs : List ℕ) → AllByRecursion (λ c. fine c ≡ true) xs → prefix_len (λ c. not (not (is_digit c))) xs ≡ length xs
all_digits [] h = refl
all_digits (c ∷ xs) h =
    rw ((and_parts (is_digit c) (to_ascii_lowercase c == c) h.0).0) (omega (arith, all_digits xs h.1))

no_other : (xs : List ℕ) → AllByRecursion (λ c. fine c ≡ true) xs → first_no_digit xs ≡ None
no_other xs h =
    let past : ltb (prefix_len (λ c. not (not (is_digit c))) xs) (length xs) ≡ false = le-ltb (prefix_len (λ c. not (not (is_digit c))) xs) (length xs) (omega (arith, all_digits xs h)) in
    ap (λ b. cond b (Some (prefix_len (λ c. not (not (is_digit c))) xs)) None) past

-- how many digits octets have
long : (o : List ℕ) → (8 * length o ≤ 5 * length (base32hex o)) × (5 * length (base32hex o) ≤ 8 * length o + 4)
long [] = (omega arith, omega arith)
long (a ∷ []) = (omega arith, omega arith)
long (a ∷ b ∷ []) = (omega arith, omega arith)
long (a ∷ b ∷ c ∷ []) = (omega arith, omega arith)
long (a ∷ b ∷ c ∷ d ∷ []) = (omega arith, omega arith)
long (a ∷ b ∷ c ∷ d ∷ e ∷ o) = (omega (arith, (long o).0), omega (arith, (long o).1))

good : (o : List ℕ) → IsBadLength (length (base32hex o)) → ⊥
good o (inl h) = omega (arith, h, (long o).0, (long o).1)
good o (inr (inl h)) = omega (arith, h, (long o).0, (long o).1)
good o (inr (inr h)) = omega (arith, h, (long o).0, (long o).1)

nothing : {A : Type 0} {x : A} → None ≡ Some x → ⊥
nothing h = cc h

pub hashes_back : HashesAreReadBack
hashes_back o (Ok s) h few bs r =
    let same : base32hex s ≡ base32hex o = r.0 ∙ lowered (base32hex o) (digits o h) in
    inl (ap Ok (sym (decodes s bs) ∙ ap decoded same ∙ decodes o h))
hashes_back o (Err (DecodeError (decode.BadChar p))) h few bs r =
    absurd (nothing (sym (no_other (base32hex o) (digits o h)) ∙ ap first_no_digit (sym (lowered (base32hex o) (digits o h))) ∙ r))
hashes_back o (Err (DecodeError decode.BadLength)) h few bs r =
    absurd (good o (subst IsBadLength (ap length (lowered (base32hex o) (digits o h))) r.1))
hashes_back o (Err (DecodeError decode.TrailingBits)) h few bs r =
    absurd (r.1.1 o h (sym (lowered (base32hex o) (digits o h))))
hashes_back o (Err (DecodeError decode.Memory)) h few bs r = inr (inr refl)
hashes_back o (Err (OwnerHashError e)) h few bs r =
    let same : length (base32hex r.0) ≡ length (base32hex o) = ap length (r.1 ∙ lowered (base32hex o) (digits o h)) in
    absurd (omega (arith, same, few, r.2, (long r.0).0, (long o).1))
hashes_back o (Err Memory) h few bs r = inr (inl refl)
