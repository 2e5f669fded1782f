use Rattle.std.proofs.Common.{◌≡◌, ◌++◌, ◌∙◌, sym, ap, subst}
use Rattle.std.specs.Str.{IsAscii}
use Rattle.std.proofs.lemmas.Str.{IsUtf8-from_ascii}
use Rattle.definitions.specs.Base32hex.{base32hex}
use Rattle.numbers.proofs.Spelling.{digits_ascii}
use Rattle.numbers.proofs.base32hex.encode.Goals as goal

pub from_utf8_unchecked-requires : goal.from_utf8_unchecked-requires
from_utf8_unchecked-requires c =
    let octets = base32hex c.args.octets.now in
    let whole : c.append.new.digits.items ≡ octets = c.in_ok-append.ensures.ok ∙ ap (λ t. t ++ octets) c.in_ok-digits.ensures.items in
    IsUtf8-from_ascii _ (subst IsAscii (sym whole) (digits_ascii c.args.octets.now (λ i. (c.type_inv.octets i).fits)))
