use Rattle.std.proofs.Common.{◌≡◌, ℕ, ◌<◌, map, get_or, refl, ap, ◌∙◌, arith}
use Rattle.std.proofs.lemmas.List.FromFn.{get_or-map-range_with_len}
use Rattle.std.specs.List.{range_with_len}
use Rattle.definitions.specs.Base32hex.{digit}
use Rattle.numbers.specs.declared.base32hex.digits.TheConstants.{DIGITS}
use Rattle.numbers.proofs.base32hex.digits.digit_octet.Goals as goal

table_is : DIGITS ≡ map digit (range_with_len 0 32)
table_is = refl

at : (d : ℕ) → d < 32 → get_or DIGITS d 0 ≡ digit d
at d h = ap (λ t. get_or t d 0) table_is ∙ get_or-map-range_with_len digit 0 32 d d 0 h (omega arith)

pub returns : goal.returns
returns c = at c.args.value c.requires
