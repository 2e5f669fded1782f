-- Parts of names.
use Rattle.std.specs.Prelude.{slice_range}
use Rattle.std.proofs.Common.{◌≡◌, ℕ, zero, suc, ◌+◌, ◌-◌, ◌<◌, ◌≤◌, Bool, true, false, List, [], ◌∷◌, ◌++◌, length, take, drop, refl, sym, ap, subst, ◌∙◌, append_assoc, length-append, arith, leb}
use Rattle.std.specs.List.{AllByRecursion}
use Rattle.std.proofs.lemmas.List.{take_at, drop_at, take-append-drop, drop-take, map-append, length-map}
use Rattle.std.proofs.lemmas.Bool.{leb-true, leb-false}
use Rattle.std.specs.Str.{str_to_ascii_lowercase}
use Rattle.std.specs.Char.{to_ascii_lowercase}
use Rattle.definitions.specs.Name.{Name, Label, low, wire, wire_len, IsLabel, IsName}
use Rattle.names_labels.specs.Flat.{spelled, labels_in, name_in, IsRun, SplitsLabel, SpellsName, SpellsRelative, StartsLabel}
use Rattle.names_labels.proofs.Runs.{spelled-append, labels_in-spelled, name_in-wire, wire-spelled}
use Rattle.names_labels.proofs.Lowered.{lower-spelled}
use Rattle.names_labels.proofs.Relatives.{all_short}
use Rattle.names_labels.proofs.Wholes.{wire_len-append, wire_len-cons}
use Rattle.names_labels.proofs.Cuts.{starts_rise}

-- the labels of a name in a row
pub name_run : (bs : List ℕ) (n : Name) → bs ≡ spelled n → IsName n → IsRun bs
name_run bs n e h =
    let l : labels_in bs ≡ n = ap labels_in e ∙ labels_in-spelled n in
    record { whole = e ∙ ap spelled (sym l); short = rw l (all_short n h.labels) }

pub name_labels : (bs : List ℕ) (n : Name) → bs ≡ spelled n → labels_in bs ≡ n
name_labels bs n e = ap labels_in e ∙ labels_in-spelled n

pub without_root : (n : Name) (bs : List ℕ) → bs ≡ wire n → take (length bs - 1) bs ≡ spelled n
without_root n bs e =
    ap (λ xs. take (length xs - 1) xs) e ∙ take_at (spelled n) (0 ∷ []) (length (wire n) - 1) (omega (arith, length-append (spelled n) (0 ∷ [])))

all_front : {X : Type 0} (P : X → Type 0) (a b : List X) → AllByRecursion P (a ++ b) → AllByRecursion P a
all_front P [] b h = tt
all_front P (x ∷ a) b h = (h.0, all_front P a b h.1)

all_back : {X : Type 0} (P : X → Type 0) (a b : List X) → AllByRecursion P (a ++ b) → AllByRecursion P b
all_back P [] b h = h
all_back P (x ∷ a) b h = all_back P a b h.1

some_wire : (n : Name) → 1 ≤ wire_len n
some_wire n = omega arith

pub front_name : (a b : Name) → IsName (a ++ b) → IsName a
front_name a b h = record { labels = all_front IsLabel a b h.labels; short = omega (arith, h.short, wire_len-append a b, some_wire b) }

pub back_name : (a b : Name) → IsName (a ++ b) → IsName b
back_name a b h = record { labels = all_back IsLabel a b h.labels; short = omega (arith, h.short, wire_len-append a b, some_wire a) }

-- a name in two parts, cut at a place
pub record SplitAt (n : Name) (place : ℕ) : Type 0 where
  pub front : Name
  pub back : Name
  pub are : front ++ back ≡ n
  pub place_is : length (spelled front) ≡ place

pub split_there : (n : Name) (place : ℕ) → StartsLabel n place → SplitAt n place
split_there n place s = record { front = take s.0 n; back = drop s.0 n; are = take-append-drop s.0 n; place_is = sym s.2 }

octets_there : (n : Name) (place : ℕ) (s : SplitAt n place) → spelled n ≡ spelled s.front ++ spelled s.back
octets_there n place s = ap spelled (sym s.are) ∙ spelled-append s.front s.back

wire_there : (n : Name) (place : ℕ) (s : SplitAt n place) → wire n ≡ spelled s.front ++ wire s.back
wire_there n place s = ap (λ bs. bs ++ 0 ∷ []) (octets_there n place s) ∙ append_assoc (spelled s.front) (spelled s.back) (0 ∷ [])

name_there : (n : Name) (place : ℕ) (s : SplitAt n place) → IsName n → IsName (s.front ++ s.back)
name_there n place s h = subst IsName (sym s.are) h

pub place_within : (n : Name) (place : ℕ) → StartsLabel n place → place ≤ length (spelled n)
place_within n place w = let s = split_there n place w in omega (arith, ap length (octets_there n place s), length-append (spelled s.front) (spelled s.back), s.place_is)

pub place_in_wire : (n : Name) (place : ℕ) → StartsLabel n place → place ≤ length (wire n)
place_in_wire n place w = omega (arith, place_within n place w, length-append (spelled n) (0 ∷ []))

-- the octets in front of a place, of a name with more behind
pub front_spells : (n : Name) (place : ℕ) (more : List ℕ) → IsName n → (w : StartsLabel n place) → SpellsRelative (take place (spelled n ++ more)) (split_there n place w).front
front_spells n place more h w =
    let s = split_there n place w in
    record {
      octets = sym (ap (take place) (ap (λ bs. bs ++ more) (octets_there n place s) ∙ append_assoc (spelled s.front) (spelled s.back) more) ∙ take_at (spelled s.front) (spelled s.back ++ more) place s.place_is);
      name = front_name s.front s.back (name_there n place s h);
    }

pub back_spells : (n : Name) (place : ℕ) → IsName n → (w : StartsLabel n place) → SpellsName (drop place (wire n)) (split_there n place w).back
back_spells n place h w =
    let s = split_there n place w in
    record {
      octets = sym (ap (drop place) (wire_there n place s) ∙ drop_at (spelled s.front) (wire s.back) place s.place_is);
      name = back_name s.front s.back (name_there n place s h);
    }

pub back_spells_relative : (n : Name) (place : ℕ) → IsName n → (w : StartsLabel n place) → SpellsRelative (drop place (spelled n)) (split_there n place w).back
back_spells_relative n place h w =
    let s = split_there n place w in
    record {
      octets = sym (ap (drop place) (octets_there n place s) ∙ drop_at (spelled s.front) (spelled s.back) place s.place_is);
      name = back_name s.front s.back (name_there n place s h);
    }

-- what is read of octets that spell a name
pub read_name : (bs : List ℕ) (n : Name) → SpellsName bs n → name_in bs ≡ n
read_name bs n s = ap name_in (sym s.octets) ∙ name_in-wire n

pub read_relative : (bs : List ℕ) (n : Name) → SpellsRelative bs n → labels_in bs ≡ n
read_relative bs n s = ap labels_in (sym s.octets) ∙ labels_in-spelled n

-- between two places
ordered : (n : Name) (j k : ℕ) → k ≤ length n → length (spelled (take j n)) ≤ length (spelled (take k n)) → j ≤ length n → j ≤ k
ordered n j k b h a = go (leb j k) refl
  where
    go : (t : Bool) → leb j k ≡ t → j ≤ k
    go true e = leb-true j k e
    go false e =
        let l : k < j = leb-false j k e in
        absurd (omega (arith, h, starts_rise n k j l (omega arith)))

take_front : {X : Type 0} (j k : ℕ) (xs : List X) → j ≤ k → take j (take k xs) ≡ take j xs
take_front zero k xs h = refl
take_front (suc j) zero xs h = absurd (omega arith)
take_front (suc j) (suc k) [] h = refl
take_front (suc j) (suc k) (x ∷ xs) h = ap (λ ys. x ∷ ys) (take_front j k xs (omega arith))

pub between : (n : Name) (begin stop : ℕ) (more : List ℕ) → IsName n → (a : StartsLabel n begin) → (b : StartsLabel n stop) → begin ≤ stop → (m : Name) × SpellsRelative (slice_range (spelled n ++ more) begin stop) m
between n begin stop more h a b o =
    let j = a.0 in
    let k = b.0 in
    let jk : j ≤ k = ordered n j k b.1 (omega (arith, a.2, b.2, o)) a.1 in
    let m = drop j (take k n) in
    let f : take k n ≡ take j n ++ m = sym (take-append-drop j (take k n)) ∙ ap (λ xs. xs ++ m) (take_front j k n jk) in
    let g : spelled (take k n) ≡ spelled (take j n) ++ spelled m = ap spelled f ∙ spelled-append (take j n) m in
    let w : spelled n ++ more ≡ spelled (take j n) ++ (spelled m ++ (spelled (drop k n) ++ more)) =
    ap (λ xs. xs ++ more) (ap spelled (sym (take-append-drop k n)) ∙ spelled-append (take k n) (drop k n) ∙ ap (λ xs. xs ++ spelled (drop k n)) g)
    ∙ append_assoc (spelled (take j n) ++ spelled m) (spelled (drop k n)) more
    ∙ append_assoc (spelled (take j n)) (spelled m) (spelled (drop k n) ++ more) in
    let d : drop begin (spelled n ++ more) ≡ spelled m ++ (spelled (drop k n) ++ more) = ap (drop begin) w ∙ drop_at (spelled (take j n)) (spelled m ++ (spelled (drop k n) ++ more)) begin (sym a.2) in
    let t : take (stop - begin) (drop begin (spelled n ++ more)) ≡ spelled m =
    ap (take (stop - begin)) d ∙ take_at (spelled m) (spelled (drop k n) ++ more) (stop - begin) (omega (arith, a.2, b.2, ap length g, length-append (spelled (take j n)) (spelled m))) in
    let whole : IsName (take k n ++ drop k n) = subst IsName (sym (take-append-drop k n)) h in
    (m, record { octets = sym t; name = back_name (take j n) m (subst IsName f (front_name (take k n) (drop k n) whole)) })

range_of : (xs : List ℕ) (begin stop : ℕ) → begin ≤ stop → drop begin (take stop xs) ≡ slice_range xs begin stop
range_of xs begin stop h = ap (λ k. drop begin (take k xs)) (let e : stop ≡ begin + (stop - begin) = omega arith in e) ∙ drop-take begin (stop - begin) xs

-- the same in two steps
pub part_spells : (n : Name) (begin stop : ℕ) (more octets front part : List ℕ) → octets ≡ spelled n ++ more → front ≡ take stop octets → part ≡ drop begin front → IsName n → (a : StartsLabel n begin) → (b : StartsLabel n stop) → begin ≤ stop → (m : Name) × SpellsRelative part m × (part ≡ slice_range (spelled n ++ more) begin stop)
part_spells n begin stop more octets front part e f p h a b o =
    let t = between n begin stop more h a b o in
    let q : part ≡ slice_range (spelled n ++ more) begin stop =
    p ∙ ap (drop begin) (f ∙ ap (take stop) e) ∙ range_of (spelled n ++ more) begin stop o in
    (t.0, subst (λ xs. SpellsRelative xs t.0) (sym q) t.1, q)

-- the first label of a name's row
pub first_split : (n : Name) (run rest : List ℕ) (l : Label) → run ≡ spelled n → IsName n → SplitsLabel run l rest → (m : Name) × (n ≡ l ∷ m) × SpellsRelative rest m
first_split n run rest l e h s =
    let ls : n ≡ l ∷ labels_in rest = sym (name_labels run n e) ∙ s.first in (
      labels_in rest,
      ls,
      record { octets = sym s.behind.whole; name = back_name (l ∷ []) (labels_in rest) (subst IsName ls h) },
    )

-- the first label of a name's row with the root's, where it isn't the root's
pub first_of_name : (n : Name) (run rest : List ℕ) (l : Label) → labels_in run ≡ n ++ [] ∷ [] → IsName n → SplitsLabel run l rest → (l ≡ [] → ⊥) → (m : Name) × (n ≡ l ∷ m) × SpellsName rest m
first_of_name n run rest l e h s some = go n h (sym e ∙ s.first)
  where
    go : (n : Name) → IsName n → n ++ [] ∷ [] ≡ l ∷ labels_in rest → (m : Name) × (n ≡ l ∷ m) × SpellsName rest m
    go [] i x = let y : [] ≡ l = cc in absurd (some (sym y))
    go (k ∷ m) i x =
        let y : k ≡ l = cc in
        let z : m ++ [] ∷ [] ≡ labels_in rest = cc in (
          m,
          (λ t. y t ∷ m),
          record { octets = wire-spelled m ∙ ap spelled z ∙ sym s.behind.whole; name = back_name (k ∷ []) m i },
        )

pub only_root_label : (n : Name) (run rest : List ℕ) (l : Label) → labels_in run ≡ n ++ [] ∷ [] → IsName n → SplitsLabel run l rest → l ≡ [] → n ≡ []
only_root_label n run rest l e h s none = go n h (sym e ∙ s.first)
  where
    go : (n : Name) → IsName n → n ++ [] ∷ [] ≡ l ∷ labels_in rest → n ≡ []
    go [] i x = refl
    go (k ∷ m) i x = let y : k ≡ l = cc in absurd (omega (arith, i.labels.0.some, ap length (y ∙ none)))

-- ---- lower case

lower_labels : (n : Name) → AllByRecursion IsLabel n → AllByRecursion IsLabel (low n)
lower_labels [] a = tt
lower_labels (l ∷ n) a = (record { some = omega (arith, a.0.some, length-map l to_ascii_lowercase); short = omega (arith, a.0.short, length-map l to_ascii_lowercase) }, lower_labels n a.1)

lower_len : (n : Name) → wire_len (low n) ≡ wire_len n
lower_len [] = refl
lower_len (l ∷ n) = omega (arith, wire_len-cons l n, wire_len-cons (str_to_ascii_lowercase l) (low n), lower_len n, length-map l to_ascii_lowercase)

lower_name : (n : Name) → IsName n → IsName (low n)
lower_name n h = record { labels = lower_labels n h.labels; short = omega (arith, h.short, lower_len n) }

pub lower_spells_relative : (bs : List ℕ) (n : Name) → SpellsRelative bs n → SpellsRelative (str_to_ascii_lowercase bs) (low n)
lower_spells_relative bs n s = record { octets = sym (lower-spelled n (all_short n s.name.labels)) ∙ ap str_to_ascii_lowercase s.octets; name = lower_name n s.name }

pub lower_spells : (bs : List ℕ) (n : Name) → SpellsName bs n → SpellsName (str_to_ascii_lowercase bs) (low n)
lower_spells bs n s = record {
  octets = ap (λ xs. xs ++ 0 ∷ []) (sym (lower-spelled n (all_short n s.name.labels))) ∙ sym (map-append to_ascii_lowercase (spelled n) (0 ∷ [])) ∙ ap str_to_ascii_lowercase s.octets;
  name = lower_name n s.name;
}
