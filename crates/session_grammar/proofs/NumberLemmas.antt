-- What a text of digits parses as.
use Rattle.std.proofs.Common.{◌≡◌, ℕ, ◌<◌, ◌^◌, ◌&&◌, List, [], ◌∷◌, length, true, Result, Err, None, refl, sym, ◌∙◌, ap, arith, subst}
use Rattle.std.proofs.lemmas.Bool.Decides.{nat_tests}
use Rattle.std.proofs.lemmas.Str.Parse.{IsNumeralModel, numerals_by_value, tells_all_ascii_digits, parse_digits}
use Rattle.std.specs.Result.{OkIff}
use Rattle.std.specs.List.{list_all}
use Rattle.std.specs.Char.{is_ascii_digit}
use Rattle.std.specs.Str.{all_ascii_digits}
use Rattle.std.specs.Str.Parse.{ParsesUnsigned, digits_value}
use Rattle.session_grammar.specs.Numbers.{number_field}

same_test : (ds : List ℕ) → all_ascii_digits ds ≡ list_all is_ascii_digit ds
same_test [] = refl
same_test (c ∷ cs) = ap (λ b. is_ascii_digit c && b) (same_test cs)

own : IsNumeralModel (λ ds. all_ascii_digits ds ≡ true) (digits_value 10)
own = numerals_by_value _ tells_all_ascii_digits

parsed : {E : Type 0} (ds : List ℕ) (r : Result ℕ E) → ParsesUnsigned 64 10 ds r → list_all is_ascii_digit ds ≡ true
    → OkIff r ((0 < length ds) × (digits_value 10 ds < 2 ^ 64)) (digits_value 10 ds)
parsed ds r h p = parse_digits own 64 ds r h (same_test ds ∙ p)

refused : (ds : List ℕ) → list_all is_ascii_digit ds ≡ true → ((0 < length ds) × (digits_value 10 ds < 2 ^ 64) → ⊥) → number_field 64 ds ≡ None
refused ds p low = grind (arith, nat_tests)

pub number_not_parsed : {E : Type 0} (ds : List ℕ) (r : Result ℕ E) (x : E) → ParsesUnsigned 64 10 ds r → list_all is_ascii_digit ds ≡ true → r ≡ Err x → None ≡ number_field 64 ds
number_not_parsed ds r x h p e =
    let low : OkIff (Err x) ((0 < length ds) × (digits_value 10 ds < 2 ^ 64)) (digits_value 10 ds) = subst (λ w. OkIff w ((0 < length ds) × (digits_value 10 ds < 2 ^ 64)) (digits_value 10 ds)) e (parsed ds r h p) in
    sym (refused ds p low)
