use Rattle.std.proofs.Common.{◌≡◌, ◌==◌, ℕ, ◌<◌, ◌≤◌, Bool, true, false, not, cond, get_or, ltb, refl, sym, ap, ◌∙◌, arith}
use Rattle.std.specs.Char.{to_ascii_lowercase}
use Rattle.std.proofs.lemmas.Bool.{agree_below_at, eqb-true, not-true, lt-ltb, le-ltb}
use Rattle.definitions.specs.Base32hex.{digit}
use Rattle.numbers.specs.Decoding.{is_digit}
use Rattle.numbers.specs.declared.base32hex.digits.TheConstants.{VALUES}
use Rattle.numbers.proofs.base32hex.digits.value.Goals as goal

-- an entry is that of a digit, or there is none
abbrev is_right : ℕ → Bool
is_right c = cond (ltb (get_or VALUES c 0) 32) (digit (get_or VALUES c 0) == to_ascii_lowercase c) (not (is_digit (to_ascii_lowercase c)))

right : (c : ℕ) → c < 256 → is_right c ≡ true
right c h = agree_below_at is_right (λ n. true) 256 c refl h

stands : (c : ℕ) → c < 256 → get_or VALUES c 0 < 32 → digit (get_or VALUES c 0) ≡ to_ascii_lowercase c
stands c h small =
    let v = get_or VALUES c 0 in
    eqb-true (digit v) (to_ascii_lowercase c)
    (sym (ap (λ t. cond t (digit v == to_ascii_lowercase c) (not (is_digit (to_ascii_lowercase c)))) (lt-ltb v 32 small)) ∙ right c h)

none : (c : ℕ) → c < 256 → 32 ≤ get_or VALUES c 0 → is_digit (to_ascii_lowercase c) ≡ false
none c h large =
    let v = get_or VALUES c 0 in
    not-true (is_digit (to_ascii_lowercase c))
    (sym (ap (λ t. cond t (digit v == to_ascii_lowercase c) (not (is_digit (to_ascii_lowercase c)))) (le-ltb v 32 large)) ∙ right c h)

pub returns-then-value-lt32 : goal.returns-then-value-lt32
returns-then-value-lt32 c = let small = c.if-value-lt32.true in (small, stands c.args.octet (omega arith) small)

pub returns-else-value-lt32 : goal.returns-else-value-lt32
returns-else-value-lt32 c = none c.args.octet (omega arith) c.if-value-lt32.false
