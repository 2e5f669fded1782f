use Rattle.std.proofs.Common.{◌≡◌, ◌∙◌, not, true, false, sym, subst}
use Rattle.std.specs.Char.{to_ascii_lowercase}
use Rattle.std.proofs.lemmas.List.{length-map}
use Rattle.numbers.specs.Decoding.{is_digit}
use Rattle.numbers.specs.Refusing.{IsBadLength}
use Rattle.numbers.proofs.Spelling.{position_lower}
use Rattle.numbers.proofs.base32hex.refusal.Goals as goal

pub returns-in-Some : goal.returns-in-Some
returns-in-Some c = position_lower (λ o. not (is_digit o)) c.args.digits.now ∙ sym c.first_no_digit.ensures ∙ c.in-Some.is

pub returns-then-is_bad_length : goal.returns-then-is_bad_length
returns-then-is_bad_length c = (
  position_lower (λ o. not (is_digit o)) c.args.digits.now ∙ sym c.first_no_digit.ensures ∙ c.in_default.is,
  subst IsBadLength (sym (length-map c.args.digits.now to_ascii_lowercase)) (c.is_bad_length.ensures.0 c.if-is_bad_length.true),
)

pub returns : goal.returns
returns c = (
  position_lower (λ o. not (is_digit o)) c.args.digits.now ∙ sym c.first_no_digit.ensures ∙ c.in_default.is,
  (
    λ bad. let x : true ≡ false = sym (c.is_bad_length.ensures.1 (subst IsBadLength (length-map c.args.digits.now to_ascii_lowercase) bad)) ∙ c.if-is_bad_length.false in absurd (cc),
    c.requires,
  ),
)
