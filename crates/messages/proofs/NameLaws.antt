-- What holds of names and of their parts.
use Rattle.std.proofs.Common.{◌≡◌, ℕ, zero, suc, ◌+◌, ◌*◌, ◌<◌, ◌≤◌, List, [], ◌∷◌, ◌++◌, length, drop, take, map, get_or, sym, ap, ◌∙◌, append_assoc, lit<, lit≤, arith}
use Rattle.std.specs.List.{AllByRecursion, flat_map}
use Rattle.std.proofs.lemmas.List.Sums.{sum_by-cons}
use Rattle.std.proofs.lemmas.List.{append-nil}
use Rattle.std.proofs.lemmas.List.Concat.{flat_map-append}
use Rattle.definitions.specs.Name.{Name, Label, IsLabel, IsName, wire_len}

pub wire_len-cons : (l : Label) (n : Name) → wire_len (l ∷ n) ≡ length l + 1 + wire_len n
wire_len-cons l n = omega (arith, sum_by-cons (λ k. length k + 1) l n)

pub wire_len-drop-le : (k : ℕ) (n : Name) → wire_len (drop k n) ≤ wire_len n
wire_len-drop-le zero n = omega arith
wire_len-drop-le (suc k) [] = omega arith
wire_len-drop-le (suc k) (l ∷ n) = omega (arith, wire_len-cons l n, wire_len-drop-le k n)

all_drop : {X : Type 0} (P : X → Type 0) (k : ℕ) (xs : List X) → AllByRecursion P xs → AllByRecursion P (drop k xs)
all_drop P zero xs h = h
all_drop P (suc k) [] h = h
all_drop P (suc k) (x ∷ xs) h = all_drop P k xs h.1

pub IsName-drop : (k : ℕ) (n : Name) → IsName n → IsName (drop k n)
IsName-drop k n h = record { labels = all_drop IsLabel k n h.labels; short = omega (arith, wire_len-drop-le k n, h.short) }

all_at : (n : Name) (i : ℕ) → AllByRecursion IsLabel n → i < length n → IsLabel (get_or n i [])
all_at [] i h lt = absurd (omega arith)
all_at (l ∷ n) zero h lt = h.0
all_at (l ∷ n) (suc i) h lt = all_at n i h.1 (omega arith)

-- a name's labels are labels
pub label_of : (n : Name) (i : ℕ) → IsName n → i < length n → IsLabel (get_or n i [])
label_of n i h lt = all_at n i h.labels lt

-- each label takes two octets or more
pub length-le-wire_len : (n : Name) → AllByRecursion IsLabel n → 2 * length n + 1 ≤ wire_len n
length-le-wire_len [] h = omega arith
length-le-wire_len (l ∷ n) h = omega (arith, wire_len-cons l n, length-le-wire_len n h.1, h.0.some)

-- what reading the label at a place gives
pub record LabelRead {X : Type 0} (f : X → Label) (xs : List X) (i : ℕ) (x : X) : Type 0 where
  pub some : 0 < length (f x)
  pub short : length (f x) ≤ 63
  pub room : wire_len (map f (take i xs)) + (length (f x) + 1) ≤ wire_len (map f xs)
  pub len : wire_len (map f (take (i + 1) xs)) ≡ wire_len (map f (take i xs)) + (length (f x) + 1)
  pub taken : map f (take (i + 1) xs) ≡ map f (take i xs) ++ f x ∷ []
  pub whole : wire_len (map f xs) ≤ 255

-- the wire form of labels so far, with one more
pub spelled_push : (n : Name) (l : Label) → flat_map (λ k. length k ∷ k) (n ++ l ∷ []) ≡ flat_map (λ k. length k ∷ k) n ++ length l ∷ l
spelled_push n l = flat_map-append (λ k. length k ∷ k) n (l ∷ []) ∙ ap (λ s. flat_map (λ k. length k ∷ k) n ++ s) (append-nil (length l ∷ l))

-- one more label behind what is written
pub spelled_more : (start a b d : List ℕ) (n : ℕ) (ls : Name) (l : Label) (after : Name) → after ≡ ls ++ l ∷ [] → a ≡ start ++ flat_map (λ k. length k ∷ k) ls → b ≡ a ++ n ∷ [] → d ≡ b ++ l → n ≡ length l → d ≡ start ++ flat_map (λ k. length k ∷ k) after
spelled_more start a b d n ls l after e f g h k =
    h ∙ ap (λ s. s ++ l) g ∙ append_assoc a (n ∷ []) l ∙ (λ t. f t ++ k t ∷ l) ∙ append_assoc start (flat_map (λ k. length k ∷ k) ls) (length l ∷ l)
    ∙ ap (λ s. start ++ s) (sym (spelled_push ls l) ∙ ap (flat_map (λ k. length k ∷ k)) (sym e))

pub few_labels : (n : Name) → IsName n → length n ≤ 127
few_labels n h = omega (arith, length-le-wire_len n h.labels, h.short)

-- under a name with room
pub IsName-star : (n : Name) → IsName n → wire_len n ≤ 253 → IsName ((42 ∷ []) ∷ n)
IsName-star n h room = record { labels = (record { some = lit< tt; short = lit≤ tt }, h.labels); short = omega (arith, wire_len-cons (42 ∷ []) n) }

pub wire_len-star : (n : Name) → wire_len ((42 ∷ []) ∷ n) ≡ wire_len n + 2
wire_len-star n = omega (arith, wire_len-cons (42 ∷ []) n)

-- one more part behind what was written so far
pub grow : (old acc x b y : List ℕ) → x ≡ old ++ acc → y ≡ x ++ b → y ≡ old ++ (acc ++ b)
grow old acc x b y h g = g ∙ ap (λ s. s ++ b) h ∙ append_assoc old acc b

pub wire_len-some : (n : Name) → 1 ≤ wire_len n
wire_len-some n = omega arith

-- an ancestor leaves room for a star
pub star_room : (k : ℕ) (n : Name) → IsName n → 0 < k → k ≤ length n → wire_len ((42 ∷ []) ∷ drop k n) ≤ 255
star_room zero n h a b = absurd (omega arith)
star_room (suc k) [] h a b = absurd (omega arith)
star_room (suc k) (l ∷ n) h a b = omega (arith, wire_len-star (drop k n), wire_len-cons l n, wire_len-drop-le k n, h.short, h.labels.0.some)
