use Rattle.std.proofs.Common.{◌∷◌, [], ◌∙◌, sym}
use Rattle.numbers.proofs.Digits.{block_digits}
use Rattle.numbers.proofs.base32hex.block_digits.Goals as goal

pub returns : goal.returns
returns c =
    (λ i. c.digit_octet.ensures i ∷ c.digit_octet-2.ensures i ∷ c.digit_octet-3.ensures i ∷ c.digit_octet-4.ensures i ∷ c.digit_octet-5.ensures i
    ∷ c.digit_octet-6.ensures i ∷ c.digit_octet-7.ensures i ∷ c.digit_octet-8.ensures i ∷ [])
    ∙ sym (block_digits c.args.octets.now c.requires)
