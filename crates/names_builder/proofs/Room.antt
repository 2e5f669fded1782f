-- The names of addresses are short.
use Rattle.std.proofs.Common.{◌≡◌, ℕ, ◌+◌, ◌*◌, ◌<◌, ◌≤◌, Bool, true, false, nat_lt, List, [], ◌∷◌, ◌++◌, length, take, refl, ap, length-append, arith}
use Rattle.std.proofs.lemmas.List.{append-nil, length-take-le}
use Rattle.definitions.specs.Name.{Name}
use Rattle.names_labels.specs.Flat.{spelled}
use Rattle.names_labels.proofs.Runs.{spelled-append}
use Rattle.names_builder.specs.Addresses.{decimal_label, decimal_labels, hex_labels}
use Rattle.names_builder.specs.Building.{Building, octets_of_building, with_labels}
use Rattle.names_builder.specs.declared.push_error.PushError.{PushError}
use Rattle.names_builder.specs.declared.push_error.PushError.TheVariants.{LongLabel, LongName, ShortBuf}
use Rattle.names_builder.proofs.Builds.{longer_labels}
use Rattle.names_builder.proofs.Numbers.{ended_with}

-- a push that is refused for no length is refused for want of room
pub for_want_of_room : (e : PushError) (len : ℕ) → (e ≡ LongLabel → ⊥) → (e ≡ LongName → 254 < len) → len ≤ 254 → e ≡ ShortBuf
for_want_of_room LongLabel len label name short = absurd (label refl)
for_want_of_room LongName len label name short = let long : 254 < len = name refl in absurd (omega arith)
for_want_of_room ShortBuf len label name short = refl

-- the octets of a builder in which no label is open
length-ended : (b : Building) (n more : Name) → b ≡ ended_with (n ++ more) → length (octets_of_building b) ≡ length (spelled n) + length (spelled more)
length-ended b n more e =
    omega (
      arith,
      ap (λ x. length (octets_of_building x)) e,
      ap length (append-nil (spelled (n ++ more))),
      ap length (spelled-append n more),
      length-append (spelled n) (spelled more),
    )

-- a number has at most three digits
length-decimal_label : (v : ℕ) → length (decimal_label v) ≤ 3
length-decimal_label v = go (nat_lt v 10) (nat_lt v 100) refl refl
  where
    go : (a b : Bool) → nat_lt v 10 ≡ a → nat_lt v 100 ≡ b → length (decimal_label v) ≤ 3
    go true b e f = rw e (omega arith)
    go false true e f = rw (e, f) (omega arith)
    go false false e f = rw (e, f) (omega arith)

length-spelled_decimal : (xs : List ℕ) → length (spelled (decimal_labels xs)) ≤ 4 * length xs
length-spelled_decimal [] = omega arith
length-spelled_decimal (x ∷ xs) =
    omega (arith, length-spelled_decimal xs, length-decimal_label x, length-append (decimal_label x) (spelled (decimal_labels xs)))

length-spelled_hex : (xs : List ℕ) → length (spelled (hex_labels xs)) ≡ 4 * length xs
length-spelled_hex [] = omega arith
length-spelled_hex (x ∷ xs) = omega (arith, length-spelled_hex xs)

-- the label of the octet at a place, behind those of the octets before it
pub decimal_fits : (b : Building) (n : Name) (xs : List ℕ) (i v : ℕ) → b ≡ ended_with (n ++ decimal_labels (take i xs)) → length (spelled n) + 4 * length xs ≤ 254 → i < length xs → length (octets_of_building (with_labels b (decimal_label v ∷ []))) ≤ 254
decimal_fits b n xs i v e room h =
    omega (
      arith,
      room,
      h,
      longer_labels b (decimal_label v ∷ []),
      length-ended b n (decimal_labels (take i xs)) e,
      length-spelled_decimal (take i xs),
      length-take-le i xs (omega (arith, h)),
      length-decimal_label v,
      length-append (decimal_label v) [],
    )

-- the label of its lower four bits
pub low_fits : (b : Building) (n : Name) (xs : List ℕ) (i low : ℕ) → b ≡ ended_with (n ++ hex_labels (take i xs)) → length (spelled n) + 4 * length xs ≤ 254 → i < length xs → length (octets_of_building (with_labels b ((low ∷ []) ∷ []))) ≤ 254
low_fits b n xs i low e room h =
    omega (
      arith,
      room,
      h,
      longer_labels b ((low ∷ []) ∷ []),
      length-ended b n (hex_labels (take i xs)) e,
      length-spelled_hex (take i xs),
      length-take-le i xs (omega (arith, h)),
    )

-- and behind it that of its upper four
pub high_fits : (b new : Building) (n : Name) (xs : List ℕ) (i low high : ℕ) → b ≡ ended_with (n ++ hex_labels (take i xs)) → new ≡ with_labels b ((low ∷ []) ∷ []) → length (spelled n) + 4 * length xs ≤ 254 → i < length xs → length (octets_of_building (with_labels new ((high ∷ []) ∷ []))) ≤ 254
high_fits b new n xs i low high e f room h =
    omega (
      arith,
      room,
      h,
      longer_labels new ((high ∷ []) ∷ []),
      ap (λ x. length (octets_of_building x)) f,
      longer_labels b ((low ∷ []) ∷ []),
      length-ended b n (hex_labels (take i xs)) e,
      length-spelled_hex (take i xs),
      length-take-le i xs (omega (arith, h)),
    )

-- a builder that had no labels and got one for each octet
pub length-of_octets : (b start : Building) (xs : List ℕ) → start ≡ ended_with [] → b ≡ ended_with (start.done ++ decimal_labels xs) → length (octets_of_building b) ≤ 4 * length xs
length-of_octets b start xs s e =
    omega (arith, length-ended b start.done (decimal_labels xs) e, ap (λ x. length (spelled x.done)) s, length-spelled_decimal xs)

-- the same with one for each four bits
pub length-of_nibbles : (b start : Building) (xs : List ℕ) → start ≡ ended_with [] → b ≡ ended_with (start.done ++ hex_labels xs) → length (octets_of_building b) ≤ 4 * length xs
length-of_nibbles b start xs s e =
    omega (arith, length-ended b start.done (hex_labels xs) e, ap (λ x. length (spelled x.done)) s, length-spelled_hex xs)
