-- What is decoded of the digits of octets are these octets.
use Rattle.std.proofs.Common.{◌≡◌, ℕ, ◌+◌, ◌-◌, ◌*◌, ◌/◌, ◌%◌, ◌<◌, ◌≤◌, Bool, true, false, cond, List, [], ◌∷◌, refl, ap, ◌∙◌, arith, ltb}
use Rattle.std.specs.List.{AllByRecursion}
use Rattle.std.proofs.lemmas.Bool.{le-leb, lt-leb, ltb-true, ltb-false}
use Rattle.definitions.specs.Base32hex.{base32hex, digit}
use Rattle.numbers.specs.Decoding.{value, octet_one, octet_two, octet_three, octet_four, octet_five, decoded}

-- ---- digits

value_low : (c d : ℕ) → c ≡ 48 + d → d < 10 → value c ≡ d
value_low c d e small =
    let x : (c - 48) % 32 ≡ d = omega arith in
    ap (λ b. cond b (c - 48) (c - 87) % 32) (le-leb c 57 (omega arith)) ∙ x

value_high : (c d : ℕ) → c ≡ 87 + d → 10 ≤ d → d < 32 → value c ≡ d
value_high c d e large small =
    let x : (c - 87) % 32 ≡ d = omega arith in
    ap (λ b. cond b (c - 48) (c - 87) % 32) (lt-leb c 57 (omega arith)) ∙ x

value_digit : (d : ℕ) → d < 32 → value (digit d) ≡ d
value_digit d small = go (ltb d 10) refl
  where
    go : (t : Bool) → ltb d 10 ≡ t → value (digit d) ≡ d
    go true e = value_low (digit d) d (ap (λ b. cond b (48 + d) (87 + d)) e) (ltb-true d 10 e)
    go false e = value_high (digit d) d (ap (λ b. cond b (48 + d) (87 + d)) e) (ltb-false d 10 e) small

-- ---- the octets of a block

one : (a x y : ℕ) → a < 256 → x ≡ a / 8 → y / 4 ≡ a % 8 → y < 32 → octet_one (digit x) (digit y) ≡ a
one a x y h e f small =
    let sum : x * 8 + y / 4 ≡ a = omega arith in
    (λ i. value_digit x (omega arith) i * 8 + value_digit y small i / 4) ∙ sum

two : (b x y z : ℕ) → b < 256 → x % 4 ≡ b / 64 → x < 32 → y ≡ b / 2 % 32 → z / 16 ≡ b % 2 → z < 32 → octet_two (digit x) (digit y) (digit z) ≡ b
two b x y z h e sx f g sz =
    let sum : x % 4 * 64 + y * 2 + z / 16 ≡ b = omega arith in
    (λ i. value_digit x sx i % 4 * 64 + value_digit y (omega arith) i * 2 + value_digit z sz i / 16) ∙ sum

three : (c x y : ℕ) → c < 256 → x % 16 ≡ c / 16 → x < 32 → y / 2 ≡ c % 16 → y < 32 → octet_three (digit x) (digit y) ≡ c
three c x y h e sx f sy =
    let sum : x % 16 * 16 + y / 2 ≡ c = omega arith in
    (λ i. value_digit x sx i % 16 * 16 + value_digit y sy i / 2) ∙ sum

four : (d x y z : ℕ) → d < 256 → x % 2 ≡ d / 128 → x < 32 → y ≡ d / 4 % 32 → z / 8 ≡ d % 4 → z < 32 → octet_four (digit x) (digit y) (digit z) ≡ d
four d x y z h e sx f g sz =
    let sum : x % 2 * 128 + y * 4 + z / 8 ≡ d = omega arith in
    (λ i. value_digit x sx i % 2 * 128 + value_digit y (omega arith) i * 4 + value_digit z sz i / 8) ∙ sum

five : (e x y : ℕ) → e < 256 → x % 8 ≡ e / 32 → x < 32 → y ≡ e % 32 → octet_five (digit x) (digit y) ≡ e
five e x y h f sx g =
    let sum : x % 8 * 32 + y ≡ e = omega arith in
    (λ i. value_digit x sx i % 8 * 32 + value_digit y (omega arith) i) ∙ sum

-- each octet of a block, by the digits that it has part in
first_of : (a b : ℕ) → a < 256 → b < 256 → octet_one (digit (a / 8)) (digit (a % 8 * 4 + b / 64)) ≡ a
first_of a b ha hb = one a (a / 8) (a % 8 * 4 + b / 64) ha refl (omega arith) (omega arith)

second_of : (a b c : ℕ) → b < 256 → c < 256 → octet_two (digit (a % 8 * 4 + b / 64)) (digit (b / 2 % 32)) (digit (b % 2 * 16 + c / 16)) ≡ b
second_of a b c hb hc = two b (a % 8 * 4 + b / 64) (b / 2 % 32) (b % 2 * 16 + c / 16) hb (omega arith) (omega arith) refl (omega arith) (omega arith)

third_of : (b c d : ℕ) → c < 256 → d < 256 → octet_three (digit (b % 2 * 16 + c / 16)) (digit (c % 16 * 2 + d / 128)) ≡ c
third_of b c d hc hd = three c (b % 2 * 16 + c / 16) (c % 16 * 2 + d / 128) hc (omega arith) (omega arith) (omega arith) (omega arith)

fourth_of : (c d e : ℕ) → d < 256 → e < 256 → octet_four (digit (c % 16 * 2 + d / 128)) (digit (d / 4 % 32)) (digit (d % 4 * 8 + e / 32)) ≡ d
fourth_of c d e hd he = four d (c % 16 * 2 + d / 128) (d / 4 % 32) (d % 4 * 8 + e / 32) hd (omega arith) (omega arith) refl (omega arith) (omega arith)

fifth_of : (d e : ℕ) → e < 256 → octet_five (digit (d % 4 * 8 + e / 32)) (digit (e % 32)) ≡ e
fifth_of d e he = five e (d % 4 * 8 + e / 32) (e % 32) he (omega arith) (omega arith) refl

pub decodes : (o : List ℕ) → AllByRecursion (λ x. x < 256) o → decoded (base32hex o) ≡ o
decodes [] h = refl
decodes (a ∷ []) h = λ i. one a (a / 8) (a % 8 * 4) h.0 refl (omega arith) (omega arith) i ∷ []
decodes (a ∷ b ∷ []) h = λ i.
    first_of a b h.0 h.1.0 i ∷ two b (a % 8 * 4 + b / 64) (b / 2 % 32) (b % 2 * 16) h.1.0 (omega arith) (omega arith) refl (omega arith) (omega arith) i ∷ []
decodes (a ∷ b ∷ c ∷ []) h = λ i.
    first_of a b h.0 h.1.0 i ∷ second_of a b c h.1.0 h.1.1.0 i
    ∷ three c (b % 2 * 16 + c / 16) (c % 16 * 2) h.1.1.0 (omega arith) (omega arith) (omega arith) (omega arith) i ∷ []
decodes (a ∷ b ∷ c ∷ d ∷ []) h = λ i.
    first_of a b h.0 h.1.0 i ∷ second_of a b c h.1.0 h.1.1.0 i ∷ third_of b c d h.1.1.0 h.1.1.1.0 i
    ∷ four d (c % 16 * 2 + d / 128) (d / 4 % 32) (d % 4 * 8) h.1.1.1.0 (omega arith) (omega arith) refl (omega arith) (omega arith) i ∷ []
decodes (a ∷ b ∷ c ∷ d ∷ e ∷ rest) h = λ i.
    first_of a b h.0 h.1.0 i ∷ second_of a b c h.1.0 h.1.1.0 i ∷ third_of b c d h.1.1.0 h.1.1.1.0 i
    ∷ fourth_of c d e h.1.1.1.0 h.1.1.1.1.0 i ∷ fifth_of d e h.1.1.1.1.0 i ∷ decodes rest h.1.1.1.1.1 i
