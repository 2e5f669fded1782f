use Rattle.std.proofs.Common.{◌≡◌, ◌+◌, ◌-◌, ◌*◌, ◌∙◌, true, sym}
use Rattle.definitions.specs.Text.{is_digit}
use Rattle.names_builder.proofs.TextWalks.{reads_decimal}
use Rattle.names_builder.proofs.walk.decimal.Goals as goal

pub returns-clause-symbol : goal.returns-clause-symbol
returns-clause-symbol c = λ in_label.
    let second = c.in_ok-second.field-0-0.now in
    let third = c.in_ok-third.field-0-0.now in
    let value = c.from.result * 100 + c.from-2.result * 10 + c.from-3.result in
    let e : is_digit second ≡ true = sym c.is_ascii_digit.ensures.value ∙ c.if-not-is_ascii_digit.false in
    let f : is_digit third ≡ true = sym c.is_ascii_digit-else-not-is_ascii_digit.ensures.value ∙ c.if-not-is_ascii_digit-2.false in
    let is : value ≡ (c.args.first - 48) * 100 + (second - 48) * 10 + (third - 48) = λ i. c.from.ensures i * 100 + c.from-2.ensures i * 10 + c.from-3.ensures i in
    rw (c.in_ok-second.ensures.cases.0, c.in_ok-third.ensures.cases.0) (reads_decimal c.args.first second third value _ in_label c.requires e f is c.if-value-gt255.false)
