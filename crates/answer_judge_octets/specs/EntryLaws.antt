-- Entries of lists in octets stand there once, and take octets.
use Rattle.std.proofs.Common.{◌≡◌, ℕ, ◌+◌, ◌*◌, ◌<◌, Bool, true, false, List, ◌∷◌, ◌++◌, length, get_or, drop, Some, refl, sym, ap, ◌∙◌, append_assoc, length-append, arith}
use Rattle.std.specs.Int.{w16, w32, byte_at, to_be_bytes, from_be_bytes}
use Rattle.std.specs.Option.{unwrap_or}
use Rattle.std.proofs.lemmas.Nat.{from_be_bytes-to_be_bytes_2, from_be_bytes-to_be_bytes_4}
use Rattle.names_rdata.specs.Composing.{with_length}
use Rattle.definitions.specs.Dnskey.{Dnskey, Ds, dnskey_data, dnskey_of_data}
use Rattle.definitions.proofs.SignedLaws.{pieces}
use Rattle.denial_keys.specs.Keys.{ds_data}
use Rattle.answer_findings.specs.Table.{Checked, tried}
use Rattle.answer_judge_octets.specs.Written.{FitsChecked, FitsDs, IsLong, IsShort, checked_octets, ds_octets, passes_octets, with_long_length}

-- ---- octets behind their number

-- how a number is written: in one width, and numbers below a bound unlike
pub record Writes (to : ℕ → List ℕ) (bound : ℕ) : Type 0 where
  pub width : (m n : ℕ) → length (to m) ≡ length (to n)
  pub once : (m n : ℕ) → m < bound → n < bound → to m ≡ to n → m ≡ n

pub two : Writes (to_be_bytes w16) 65536
two = record {
  width = λ m n. refl;
  once = λ m n fm fn e. sym (from_be_bytes-to_be_bytes_2 m fm) ∙ ap (from_be_bytes w16) e ∙ from_be_bytes-to_be_bytes_2 n fn;
}

pub four : Writes (to_be_bytes w32) 4294967296
four = record {
  width = λ m n. refl;
  once = λ m n fm fn e. sym (from_be_bytes-to_be_bytes_4 m fm) ∙ ap (from_be_bytes w32) e ∙ from_be_bytes-to_be_bytes_4 n fn;
}

module _ (to : ℕ → List ℕ) (bound : ℕ) (writes : Writes to bound) where
  abbrev led : List ℕ → List ℕ
  led a = to (length a) ++ a

  abbrev Few : List ℕ → Type 0
  Few a = length a < bound

  -- one part stands in front of octets
  pub once_led : (a b x y : List ℕ) → Few a → Few b → led a ++ x ≡ led b ++ y → (a ≡ b) × (x ≡ y)
  once_led a b x y fa fb e =
      let whole : to (length a) ++ (a ++ x) ≡ to (length b) ++ (b ++ y) = sym (append_assoc (to (length a)) a x) ∙ e ∙ append_assoc (to (length b)) b y in
      let p = pieces (to (length a)) (to (length b)) (a ++ x) (b ++ y) (writes.width (length a) (length b)) whole in
      pieces a b x y (writes.once (length a) (length b) fa fb p.0) p.1

-- ---- parts

pub once_short : (a b x y : List ℕ) → IsShort a → IsShort b → with_length a ++ x ≡ with_length b ++ y → (a ≡ b) × (x ≡ y)
once_short a b x y fa fb e = once_led (to_be_bytes w16) 65536 two a b x y fa fb e

pub once_long : (a b x y : List ℕ) → IsLong a → IsLong b → with_long_length a ++ x ≡ with_long_length b ++ y → (a ≡ b) × (x ≡ y)
once_long a b x y fa fb e = once_led (to_be_bytes w32) 4294967296 four a b x y fa fb e

first : (a b : ℕ) (x y : List ℕ) → a ∷ x ≡ b ∷ y → a ≡ b
first a b x y e = ap (λ (l : List ℕ). get_or l 0 0) e

rest : (a b : ℕ) (x y : List ℕ) → a ∷ x ≡ b ∷ y → x ≡ y
rest a b x y e = ap (drop 1) e

pub once_passes : (a b : Bool) (x y : List ℕ) → passes_octets a ++ x ≡ passes_octets b ++ y → (a ≡ b) × (x ≡ y)
once_passes true true x y e = (refl, rest 1 1 x y e)
once_passes true false x y e = absurd (let h : 1 ≡ 0 = first 1 0 x y e in omega (arith, h))
once_passes false true x y e = absurd (let h : 0 ≡ 1 = first 0 1 x y e in omega (arith, h))
once_passes false false x y e = (refl, rest 0 0 x y e)

-- ---- DS records

two_back : (a b : ℕ) → a < 65536 → b < 65536 → to_be_bytes w16 a ≡ to_be_bytes w16 b → a ≡ b
two_back a b fa fb e = sym (from_be_bytes-to_be_bytes_2 a fa) ∙ ap (from_be_bytes w16) e ∙ from_be_bytes-to_be_bytes_2 b fb

pub ds_back : (a b : Ds) → a.tag < 65536 → b.tag < 65536 → ds_data a ≡ ds_data b → a ≡ b
ds_back a b fa fb e =
    let p = pieces (to_be_bytes w16 a.tag) (to_be_bytes w16 b.tag) (a.algorithm ∷ a.digest_type ∷ a.digest) (b.algorithm ∷ b.digest_type ∷ b.digest) refl e in
    let tag : a.tag ≡ b.tag = two_back a.tag b.tag fa fb p.0 in
    let algorithm : a.algorithm ≡ b.algorithm = first a.algorithm b.algorithm (a.digest_type ∷ a.digest) (b.digest_type ∷ b.digest) p.1 in
    let others : a.digest_type ∷ a.digest ≡ b.digest_type ∷ b.digest = rest a.algorithm b.algorithm (a.digest_type ∷ a.digest) (b.digest_type ∷ b.digest) p.1 in
    let digest_type : a.digest_type ≡ b.digest_type = first a.digest_type b.digest_type a.digest b.digest others in
    let digest : a.digest ≡ b.digest = rest a.digest_type b.digest_type a.digest b.digest others in
    λ i. record { tag = tag i; algorithm = algorithm i; digest_type = digest_type i; digest = digest i }

pub short_ds : (d : Ds) → FitsDs d → IsShort (ds_data d)
short_ds d fits = let n : length (ds_data d) ≡ 4 + length d.digest = omega (arith, length-append (to_be_bytes w16 d.tag) (d.algorithm ∷ d.digest_type ∷ d.digest)) in omega (arith, n, fits.short)

pub once_ds : (a b : Ds) (x y : List ℕ) → FitsDs a → FitsDs b → ds_octets a ++ x ≡ ds_octets b ++ y → (a ≡ b) × (x ≡ y)
once_ds a b x y fa fb e =
    let p = once_short (ds_data a) (ds_data b) x y (short_ds a fa) (short_ds b fb) e in
    (ds_back a b fa.tag fb.tag p.0, p.1)

pub some_ds : (d : Ds) → 0 < length (ds_octets d)
some_ds d = omega (arith, length-append (to_be_bytes w16 (length (ds_data d))) (ds_data d))

-- ---- checked signatures

pub short_key : (c : Checked) → FitsChecked c → IsShort (dnskey_data c.tried.key)
short_key c fits =
    let k = c.tried.key in
    let n : length (dnskey_data k) ≡ 4 + length k.octets = omega (arith, length-append (to_be_bytes w16 k.flags) (k.protocol ∷ k.algorithm ∷ k.octets)) in
    omega (arith, n, fits.short)

-- a key's data spell it
read_back : (k : Dnskey) → k.flags < 65536 → dnskey_of_data (dnskey_data k) ≡ Some k
read_back k small =
    let back = from_be_bytes-to_be_bytes_2 k.flags small in
    let value : byte_at 1 k.flags * 256 + byte_at 0 k.flags ≡ k.flags = omega (arith, back) in
    λ i. Some (record { flags = value i; protocol = k.protocol; algorithm = k.algorithm; octets = k.octets })

pub key_back : (j k : Dnskey) → j.flags < 65536 → k.flags < 65536 → dnskey_data j ≡ dnskey_data k → j ≡ k
key_back j k fj fk e = ap (λ o. unwrap_or o j) (sym (read_back j fj) ∙ ap dnskey_of_data e ∙ read_back k fk)

-- the parts of an entry, one in front of the next
pub parted : (c : Checked) (x : List ℕ) → checked_octets c ++ x
    ≡ with_length (dnskey_data c.tried.key) ++ (with_long_length c.tried.octets ++ (with_length c.tried.signature ++ (passes_octets c.passes ++ x)))
parted c x =
    let k = with_length (dnskey_data c.tried.key) in
    let o = with_long_length c.tried.octets in
    let s = with_length c.tried.signature in
    let p = passes_octets c.passes in
    append_assoc (k ++ o ++ s) p x ∙ append_assoc (k ++ o) s (p ++ x) ∙ append_assoc k o (s ++ (p ++ x))

pub once_checked : (a b : Checked) (x y : List ℕ) → FitsChecked a → FitsChecked b → checked_octets a ++ x ≡ checked_octets b ++ y → (a ≡ b) × (x ≡ y)
once_checked a b x y fa fb e =
    let whole = sym (parted a x) ∙ e ∙ parted b y in
    let k = once_short (dnskey_data a.tried.key) (dnskey_data b.tried.key) _ _ (short_key a fa) (short_key b fb) whole in
    let o = once_long a.tried.octets b.tried.octets _ _ fa.octets fb.octets k.1 in
    let s = once_short a.tried.signature b.tried.signature _ _ fa.signature fb.signature o.1 in
    let p = once_passes a.passes b.passes x y s.1 in
    let key = key_back a.tried.key b.tried.key fa.flags fb.flags k.0 in
    (λ i. record { tried = tried (key i) (o.0 i) (s.0 i); passes = p.0 i }, p.1)

pub some_checked : (c : Checked) → 0 < length (checked_octets c)
some_checked c =
    let k = with_length (dnskey_data c.tried.key) in
    let o = with_long_length c.tried.octets in
    let s = with_length c.tried.signature in
    omega (arith, length-append (k ++ o ++ s) (passes_octets c.passes))
