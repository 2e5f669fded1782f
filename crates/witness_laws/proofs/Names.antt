-- The names of the zones are names; so is what is one up to case, or stands above one.
use Rattle.std.proofs.Common.{◌≡◌, ℕ, Bool, true, List, [], ◌∷◌, length, nat_le, nat_lt, refl, sym, subst, inl, inr, arith}
use Rattle.std.specs.Prelude.{◌&&◌}
use Rattle.std.specs.Char.{to_ascii_lowercase}
use Rattle.std.specs.List.{AllByRecursion, list_all}
use Rattle.std.specs.Str.{str_to_ascii_lowercase}
use Rattle.std.proofs.lemmas.Bool.{and_parts, leb-true, ltb-true}
use Rattle.std.proofs.lemmas.List.{length-map}
use Rattle.definitions.specs.Name.{IsLabel, IsName, Name, at_or_above, low, same, wire_len}
use Rattle.definitions.proofs.Members.{either}
use Rattle.messages.proofs.NameLaws.{wire_len-cons}
use Rattle.messages.proofs.ZoneNames.{same_labels}

-- ---- by a test

abbrev is_label : List ℕ → Bool
is_label l = nat_lt 0 (length l) && nat_le (length l) 63

labels_are : (n : Name) → list_all is_label n ≡ true → AllByRecursion IsLabel n
labels_are [] e = tt
labels_are (l ∷ n) e =
    let both = and_parts (is_label l) (list_all is_label n) e in
    let one = and_parts (nat_lt 0 (length l)) (nat_le (length l) 63) both.0 in
    (record { some = ltb-true 0 (length l) one.0; short = leb-true (length l) 63 one.1 }, labels_are n both.1)

pub is_name : (n : Name) → list_all is_label n ≡ true → nat_le (wire_len n) 255 ≡ true → IsName n
is_name n labels short = record { labels = labels_are n labels; short = leb-true (wire_len n) 255 short }

-- ---- alike, and above

low_len : (n : Name) → wire_len (low n) ≡ wire_len n
low_len [] = refl
low_len (l ∷ n) = omega (arith, wire_len-cons l n, wire_len-cons (str_to_ascii_lowercase l) (low n), low_len n, length-map l to_ascii_lowercase)

lowered : (n : Name) → AllByRecursion IsLabel n → AllByRecursion IsLabel (low n)
lowered [] h = tt
lowered (l ∷ n) h = (record { some = omega (arith, h.0.some, length-map l to_ascii_lowercase); short = omega (arith, h.0.short, length-map l to_ascii_lowercase) }, lowered n h.1)

raised : (n : Name) → AllByRecursion IsLabel (low n) → AllByRecursion IsLabel n
raised [] h = tt
raised (l ∷ n) h = (record { some = omega (arith, h.0.some, length-map l to_ascii_lowercase); short = omega (arith, h.0.short, length-map l to_ascii_lowercase) }, raised n h.1)

pub name_like : (n m : Name) → low n ≡ low m → IsName m → IsName n
name_like n m alike is =
    let same_len : wire_len (low n) ≡ wire_len (low m) = λ i. wire_len (alike i) in
    record {
      labels = raised n (subst (λ (x : Name). AllByRecursion IsLabel x) (sym alike) (lowered m is.labels));
      short = omega (arith, is.short, same_len, low_len n, low_len m);
    }

parent : (l : List ℕ) (n : Name) → IsName (l ∷ n) → IsName n
parent l n is = record { labels = is.labels.1; short = omega (arith, is.short, wire_len-cons l n) }

pub name_above : (n m : Name) → at_or_above n m ≡ true → IsName m → IsName n
name_above n [] above is = name_like n [] (same_labels (low n) (low []) above) is
name_above n (l ∷ m) above is = elim (either (same n (l ∷ m)) (at_or_above n m) above) [
  | inl here ↦ name_like n (l ∷ m) (same_labels (low n) (low (l ∷ m)) here) is
  | inr more ↦ name_above n m more (parent l m is)
]
