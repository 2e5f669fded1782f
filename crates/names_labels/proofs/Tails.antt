-- What two rows have in common at their ends.
use Rattle.std.proofs.Common.{◌≡◌, ◌⊎◌, inl, inr, ℕ, suc, ◌+◌, ◌-◌, ◌<◌, ◌≤◌, Bool, true, false, ◌&&◌, List, [], ◌∷◌, ◌++◌, length, take, drop, refl, sym, ap, subst, ◌∙◌, arith, append_assoc, length-append, Option, Some, None}
use Rattle.std.proofs.Math.ListN.{get_or}
use Rattle.std.proofs.Math.Seq.{drop-cons}
use Rattle.std.specs.Str.{bytes_eq, str_to_ascii_lowercase}
use Rattle.std.specs.Char.{to_ascii_lowercase}
use Rattle.std.specs.Option.{option_cmp}
use Rattle.std.specs.Ordering.{nat_cmp, ordering_then}
use Rattle.std.specs.Cmp.Lexicographic.{slice_cmp}
use Rattle.std.specs.declared.cmp.Ordering.{Ordering}
use Rattle.std.specs.declared.cmp.Ordering.TheVariants.{Equal}
use Rattle.std.proofs.lemmas.Bool.{cases_lt}
use Rattle.std.proofs.lemmas.List.{drop_at, drop-drop, drop-map, length-map, map-append, take-append-drop, get_or-take, get_or-drop, get_or_past, length-take}
use Rattle.names_wire.specs.Name.{Name, Label, same, name_cmp}
use Rattle.names_wire.proofs.NameLaws.{equal_is_same, same_is_equal}
use Rattle.names_wire.specs.Label.{octets_of}
use Rattle.names_wire.specs.declared.label.Label.{Label as LabelOf}
use Rattle.names_labels.specs.Flat.{spelled, labels_in, IsRun, SplitsLabel}
use Rattle.names_labels.specs.Order.{SameEnds, HaveTail}
use Rattle.names_labels.specs.Walked.{Behind, Walked, HasWalked, reach, BeginsBefore, WalksTo}
use Rattle.names_labels.proofs.Compares.{same_length}
use Rattle.names_labels.proofs.Lowered.{lowered_same, same_lowered}
use Rattle.names_labels.proofs.Orders.{from_root_cmp, behind_equal, last_decides, none_before, some_behind}

-- what stands behind the first label
label_behind : (whole run rest : List ℕ) (label : Label) → Behind whole run → IsRun run → SplitsLabel run label rest → Behind whole rest
label_behind whole run rest label b r s =
    let split : run ≡ (length label ∷ label) ++ rest = r.whole ∙ ap spelled s.first ∙ ap (λ x. (length label ∷ label) ++ x) (sym s.behind.whole) in
    (b.0 ++ (length label ∷ label), b.1 ∙ ap (λ x. b.0 ++ x) split ∙ sym (append_assoc b.0 (length label ∷ label) rest))

-- as many octets at the end
end_is : (whole end : List ℕ) → Behind whole end → drop (length whole - length end) whole ≡ end
end_is whole end b =
    let k : length whole - length end ≡ length b.0 = omega (arith, ap length b.1, length-append b.0 end) in
    (λ i. drop (k i) (b.1 i)) ∙ drop_at b.0 end (length b.0) refl

length_behind : (whole end : List ℕ) → Behind whole end → length end ≤ length whole
length_behind whole end b = omega (arith, ap length b.1, length-append b.0 end)

-- fewer octets at the end are the same too
fewer : (a b : List ℕ) (count less : ℕ) → SameEnds a b count → less ≤ count → SameEnds a b less
fewer a b count less t h =
    let part : (xs : List ℕ) → count ≤ length xs → str_to_ascii_lowercase (drop (length xs - less) xs) ≡ drop (count - less) (str_to_ascii_lowercase (drop (length xs - count) xs)) =
    λ xs fits.
    let k : length xs - less ≡ length xs - count + (count - less) = omega (arith, fits, h) in
    ap (λ n. str_to_ascii_lowercase (drop n xs)) k
    ∙ ap str_to_ascii_lowercase (sym (drop-drop (count - less) (length xs - count) xs))
    ∙ sym (drop-map to_ascii_lowercase (count - less) (drop (length xs - count) xs)) in
    (omega (arith, t.0, h), omega (arith, t.1, h), part a t.0 ∙ ap (drop (count - less)) t.2 ∙ sym (part b t.1))

-- octets at the end of both that are as many are the same where so many are
ends_are_same : (a b end other : List ℕ) → Behind a end → Behind b other → length end ≡ length other → SameEnds a b (length end) → str_to_ascii_lowercase end ≡ str_to_ascii_lowercase other
ends_are_same a b end other p q e h =
    ap str_to_ascii_lowercase (sym (end_is a end p))
    ∙ h.2
    ∙ ap (λ n. str_to_ascii_lowercase (drop (length b - n) b)) e
    ∙ ap str_to_ascii_lowercase (end_is b other q)

same_ends : (a b end other : List ℕ) → Behind a end → Behind b other → length end ≡ length other → str_to_ascii_lowercase end ≡ str_to_ascii_lowercase other → SameEnds a b (length end)
same_ends a b end other p q e h = (
  length_behind a end p,
  omega (arith, e, length_behind b other q),
  ap str_to_ascii_lowercase (end_is a end p) ∙ h ∙ ap str_to_ascii_lowercase (sym (end_is b other q)) ∙ ap (λ n. str_to_ascii_lowercase (drop (length b - n) b)) (sym e),
)

-- ---- octets that are the same, one by one from the end

one_before : (xs : List ℕ) (count : ℕ) → count < length xs → drop (length xs - (count + 1)) xs ≡ get_or xs (length xs - 1 - count) 0 ∷ drop (length xs - count) xs
one_before xs count h =
    let k : length xs - (count + 1) ≡ length xs - 1 - count = omega (arith, h) in
    let next : suc (length xs - 1 - count) ≡ length xs - count = omega (arith, h) in
    ap (λ n. drop n xs) k
    ∙ drop-cons xs (length xs - 1 - count) 0 (omega (arith, h))
    ∙ ap (λ n. get_or xs (length xs - 1 - count) 0 ∷ drop n xs) next

pub one_more : (a b : List ℕ) (count : ℕ) → SameEnds a b count → count < length a → count < length b → to_ascii_lowercase (get_or a (length a - 1 - count) 0) ≡ to_ascii_lowercase (get_or b (length b - 1 - count) 0) → SameEnds a b (count + 1)
one_more a b count s h k e = (
  omega (arith, h),
  omega (arith, k),
  ap str_to_ascii_lowercase (one_before a count h) ∙ (λ i. e i ∷ s.2 i) ∙ ap str_to_ascii_lowercase (sym (one_before b count k)),
)

-- ---- eight octets at once

-- the octets before those at the end
split_before : (xs : List ℕ) (count k : ℕ) → count + k ≤ length xs → str_to_ascii_lowercase (drop (length xs - (count + k)) xs) ≡ str_to_ascii_lowercase (take k (drop (length xs - (count + k)) xs)) ++ str_to_ascii_lowercase (drop (length xs - count) xs)
split_before xs count k h =
    let p = length xs - (count + k) in
    let next : p + k ≡ length xs - count = omega (arith, h) in
    ap str_to_ascii_lowercase (sym (take-append-drop k (drop p xs)))
    ∙ map-append to_ascii_lowercase (take k (drop p xs)) (drop k (drop p xs))
    ∙ ap (λ ys. str_to_ascii_lowercase (take k (drop p xs)) ++ str_to_ascii_lowercase ys) (drop-drop k p xs ∙ ap (λ n. drop n xs) next)

pub eight_more : (a b : List ℕ) (count : ℕ) → SameEnds a b count → count + 8 ≤ length a → count + 8 ≤ length b → take 8 (drop (length a - (count + 8)) a) ≡ take 8 (drop (length b - (count + 8)) b) → SameEnds a b (count + 8)
eight_more a b count s h k e = (h, k, split_before a count 8 h ∙ (λ i. str_to_ascii_lowercase (e i) ++ s.2 i) ∙ sym (split_before b count 8 k))

taken_one : (xs : List ℕ) (p q k : ℕ) → q ≡ suc p → p < length xs → take (suc k) (drop p xs) ≡ get_or xs p 0 ∷ take k (drop q xs)
taken_one xs p q k e h = ap (take (suc k)) (drop-cons xs p 0 h) ∙ ap (λ n. get_or xs p 0 ∷ take k (drop n xs)) (sym e)

pub eight_taken : (xs : List ℕ) (p : ℕ) → p + 8 ≤ length xs → take 8 (drop p xs) ≡ get_or xs p 0 ∷ get_or xs (p + 1) 0 ∷ get_or xs (p + 2) 0 ∷ get_or xs (p + 3) 0 ∷ get_or xs (p + 4) 0 ∷ get_or xs (p + 5) 0 ∷ get_or xs (p + 6) 0 ∷ get_or xs (p + 7) 0 ∷ []
eight_taken xs p h =
    let g : ℕ → ℕ = λ n. get_or xs n 0 in
    taken_one xs p (p + 1) 7 (omega arith) (omega (arith, h))
    ∙ ap (λ ys. g p ∷ ys) (taken_one xs (p + 1) (p + 2) 6 (omega arith) (omega (arith, h))
    ∙ ap (λ ys. g (p + 1) ∷ ys) (taken_one xs (p + 2) (p + 3) 5 (omega arith) (omega (arith, h))
    ∙ ap (λ ys. g (p + 2) ∷ ys) (taken_one xs (p + 3) (p + 4) 4 (omega arith) (omega (arith, h))
    ∙ ap (λ ys. g (p + 3) ∷ ys) (taken_one xs (p + 4) (p + 5) 3 (omega arith) (omega (arith, h))
    ∙ ap (λ ys. g (p + 4) ∷ ys) (taken_one xs (p + 5) (p + 6) 2 (omega arith) (omega (arith, h))
    ∙ ap (λ ys. g (p + 5) ∷ ys) (taken_one xs (p + 6) (p + 7) 1 (omega arith) (omega (arith, h))
    ∙ ap (λ ys. g (p + 6) ∷ ys) (taken_one xs (p + 7) (p + 8) 0 (omega arith) (omega (arith, h)))))))))

-- octets of a part are octets
pub octets_below : (xs : List ℕ) (p : ℕ) → ((i : ℕ) → get_or xs i 0 < 256) → (i : ℕ) → get_or (take 8 (drop p xs)) i 0 < 256
octets_below xs p below i = go (cases_lt i 8)
  where
    go : (i < 8) ⊎ (8 ≤ i) → get_or (take 8 (drop p xs)) i 0 < 256
    go (inl h) = rw (get_or-take 8 (drop p xs) i 0 h, get_or-drop p xs i 0) (below (p + i))
    go (inr h) = rw (get_or_past (take 8 (drop p xs)) i 0 (omega (arith, h, length-take 8 (drop p xs)))) (omega arith)

-- ---- where no more are the same

pub none_of_more : (a b : List ℕ) (count : ℕ) → SameEnds a b count → count < length a → count < length b → (to_ascii_lowercase (get_or a (length a - 1 - count) 0) ≡ to_ascii_lowercase (get_or b (length b - 1 - count) 0) → ⊥) → HaveTail a b count
none_of_more a b count s h k other = record { same = s; most = λ more t. go more t (cases_lt count more) }
  where
    go : (more : ℕ) → SameEnds a b more → (count < more) ⊎ (more ≤ count) → more ≤ count
    go more t (inr x) = x
    go more t (inl x) =
        let one = fewer a b more (count + 1) t (omega (arith, x)) in
        let both = ap str_to_ascii_lowercase (sym (one_before a count h)) ∙ one.2 ∙ ap str_to_ascii_lowercase (one_before b count k) in
        let first : to_ascii_lowercase (get_or a (length a - 1 - count) 0) ≡ to_ascii_lowercase (get_or b (length b - 1 - count) 0) = cc in
        absurd (other first)

pub whole_of_one : (a b : List ℕ) (count : ℕ) → SameEnds a b count → (length a ≤ count) ⊎ (length b ≤ count) → HaveTail a b count
whole_of_one a b count s none = record { same = s; most = λ more t. go none more t }
  where
    go : (length a ≤ count) ⊎ (length b ≤ count) → (more : ℕ) → SameEnds a b more → more ≤ count
    go (inl z) more t = omega (arith, z, t.0)
    go (inr z) more t = omega (arith, z, t.1)

-- ---- a walk over one row: the label that was walked over last, and what stands behind it

from_len : (run left : List ℕ) (l : Label) (w : Walked run left l) → length w.from ≡ length left + (length l + 1)
from_len run left l w =
    omega (arith, ap length (w.row.whole ∙ ap spelled w.splits.first ∙ ap (λ x. (length l ∷ l) ++ x) (sym w.splits.behind.whole)), length-append l left)

row_here : (run left : List ℕ) (o : Option LabelOf) → IsRun run → HasWalked run left o → IsRun left
row_here run left None r w = subst IsRun (sym w) r
row_here run left (Some l) r w = w.splits.behind

behind_here : (run left : List ℕ) (o : Option LabelOf) → HasWalked run left o → Behind run left
behind_here run left None w = ([], sym w)
behind_here run left (Some l) w = label_behind run w.from left (octets_of l) w.here w.row w.splits

labels_behind : (run left : List ℕ) (l : Label) (w : Walked run left l) → labels_in run ≡ (w.before ++ l ∷ []) ++ labels_in left
labels_behind run left l w = w.labels ∙ ap (λ x. w.before ++ x) w.splits.first ∙ sym (append_assoc w.before (l ∷ []) (labels_in left))

labels_here : (run left : List ℕ) (o : Option LabelOf) → HasWalked run left o → (before : Name) × (labels_in run ≡ before ++ labels_in left)
labels_here run left None w = ([], ap labels_in (sym w))
labels_here run left (Some l) w = (w.before ++ octets_of l ∷ [], labels_behind run left (octets_of l) w)

-- a label in front of a row, counted from the end
reached : (left rest : List ℕ) (l : LabelOf) → IsRun left → SplitsLabel left (octets_of l) rest → length left ≡ reach rest l
reached left rest l r s =
    omega (arith, ap length (r.whole ∙ ap spelled s.first ∙ ap (λ x. (length (octets_of l) ∷ octets_of l) ++ x) (sym s.behind.whole)), length-append (octets_of l) rest)

pub walks_on : (run left rest : List ℕ) (o : Option LabelOf) (l : LabelOf) → IsRun run → HasWalked run left o → SplitsLabel left (octets_of l) rest → HasWalked run rest (Some l)
walks_on run left rest o l r w s =
    let b = labels_here run left o w in
    record { before = b.0; from = left; labels = b.1; here = behind_here run left o w; row = row_here run left o r w; splits = s }

-- a row without labels is empty
no_octets : (run : List ℕ) → IsRun run → labels_in run ≡ [] → length run ≡ 0
no_octets run r e = ap length (r.whole ∙ ap spelled e)

pub rest_shorter : (run left rest : List ℕ) (o : Option LabelOf) (l : LabelOf) → IsRun run → HasWalked run left o → SplitsLabel left (octets_of l) rest → length rest ≤ length left
rest_shorter run left rest o l r w s = omega (arith, reached left rest l (row_here run left o r w) s)

-- up to so many octets at the end
pub walks_before : (run left rest : List ℕ) (o : Option LabelOf) (l : LabelOf) (tail : ℕ) → IsRun run → HasWalked run left o → SplitsLabel left (octets_of l) rest → tail < length left → BeginsBefore tail rest (Some l)
walks_before run left rest o l tail r w s h = omega (arith, reached left rest l (row_here run left o r w) s, h)

-- a walk is at its end only where no octets are left
pub walk_ends : (run left : List ℕ) (o : Option LabelOf) → IsRun run → HasWalked run left o → labels_in left ≡ [] → length left ≡ 0
walk_ends run left o r w e = no_octets left (row_here run left o r w) e

-- ---- over both, the longer rest first

-- where the label and the rest are within the end that both have in common, what is left of the other is shorter
abbrev pub IsPassed : List ℕ → Option LabelOf → List ℕ → ℕ → Type 0
IsPassed left None right tail = Unit {0}
IsPassed left (Some l) right tail = reach left l ≤ tail → length right < reach left l

abbrev pub IsLonger : List ℕ → Option LabelOf → List ℕ → Type 0
IsLonger left None right = Unit {0}
IsLonger left (Some l) right = length right < reach left l

-- both labels begin at unlike places from the end, or before what both have in common
abbrev pub BeginApart : List ℕ → Option LabelOf → List ℕ → Option LabelOf → ℕ → Type 0
BeginApart left None right k tail = Unit {0}
BeginApart left (Some l) right None tail = Unit {0}
BeginApart left (Some l) right (Some k) tail = reach left l ≡ reach right k → reach left l ≤ tail → ⊥

pub record WalkBoth (run other left right : List ℕ) (l k : Option LabelOf) (tail : ℕ) : Type 0 where
  pub walked : HasWalked run left l
  pub others : HasWalked other right k
  pub passed : IsPassed left l right tail
  pub longer : IsLonger right k left
  pub apart : BeginApart left l right k tail

-- both were walked as far as what they have in common
pub walk_begins : (run other left right : List ℕ) (l k : Option LabelOf) (tail : ℕ) → WalksTo run tail l left → WalksTo other tail k right → WalkBoth run other left right l k tail
walk_begins run other left right l k tail w v = record { walked = w.walked; others = v.walked; passed = passed l w.begins; longer = longer k v.begins; apart = apart l k w.begins }
  where
    passed : (l : Option LabelOf) → BeginsBefore tail left l → IsPassed left l right tail
    passed None b = tt
    passed (Some x) b = λ h. absurd (omega (arith, b, h))

    longer : (k : Option LabelOf) → BeginsBefore tail right k → IsLonger right k left
    longer None b = tt
    longer (Some y) b = omega (arith, b, w.within)

    apart : (l k : Option LabelOf) → BeginsBefore tail left l → BeginApart left l right k tail
    apart None k b = tt
    apart (Some x) None b = tt
    apart (Some x) (Some y) b = λ e h. omega (arith, b, h)

pub left_walks : (run other left right rest : List ℕ) (o k : Option LabelOf) (l : LabelOf) (tail : ℕ) → IsRun run → WalkBoth run other left right o k tail → SplitsLabel left (octets_of l) rest → (length left ≡ length right → length left ≤ tail → ⊥) → length right ≤ length left → WalkBoth run other rest right (Some l) k tail
left_walks run other left right rest o k l tail r w s apart h = go k w.others w.longer
  where
    far : length left ≡ reach rest l
    far = reached left rest l (row_here run left o r w.walked) s

    past : reach rest l ≤ tail → length right < reach rest l
    past t = go2 (cases_lt (length right) (length left))
      where
        go2 : (length right < length left) ⊎ (length left ≤ length right) → length right < reach rest l
        go2 (inl x) = omega (arith, x, far)
        go2 (inr x) = absurd (apart (omega (arith, x, h)) (omega (arith, far, t)))

    go : (k : Option LabelOf) → HasWalked other right k → IsLonger right k left → WalkBoth run other rest right (Some l) k tail
    go None v u = record { walked = walks_on run left rest o l r w.walked s; others = v; passed = past; longer = tt; apart = tt }
    go (Some m) v u = record {
      walked = walks_on run left rest o l r w.walked s;
      others = v;
      passed = past;
      longer = omega (arith, u, far);
      apart = λ e t. omega (arith, e, u, far);
    }

pub right_walks : (run other left right rest : List ℕ) (o k : Option LabelOf) (l : LabelOf) (tail : ℕ) → IsRun other → WalkBoth run other left right o k tail → SplitsLabel right (octets_of l) rest → length left < length right → WalkBoth run other left rest o (Some l) tail
right_walks run other left right rest o k l tail r w s h = go o w.walked w.passed
  where
    far : length right ≡ reach rest l
    far = reached right rest l (row_here other right k r w.others) s

    go : (o : Option LabelOf) → HasWalked run left o → IsPassed left o right tail → WalkBoth run other left rest o (Some l) tail
    go None v u = record { walked = v; others = walks_on other right rest k l r w.others s; passed = tt; longer = omega (arith, h, far); apart = tt }
    go (Some m) v u = record {
      walked = v;
      others = walks_on other right rest k l r w.others s;
      passed = λ t. omega (arith, u t, far);
      longer = omega (arith, h, far);
      apart = λ e t. omega (arith, u t, e, far);
    }

-- ---- what decides

rests_equal : (run other left right : List ℕ) (l k : Option LabelOf) (tail : ℕ) → IsRun run → IsRun other → HaveTail run other tail → WalkBoth run other left right l k tail → length left ≡ length right → length left ≤ tail → same (labels_in left) (labels_in right) ≡ true
rests_equal run other left right l k tail r s t w e h =
    lowered_same left right (row_here run left l r w.walked) (row_here other right k s w.others)
    (ends_are_same run other left right (behind_here run left l w.walked) (behind_here other right k w.others) e (fewer run other tail (length left) t.same h))

same_onto : (a b : Label) (m n : Name) → same (a ∷ []) (b ∷ []) ≡ true → same m n ≡ true → same (a ∷ m) (b ∷ n) ≡ true
same_onto a b m n h e = go (bytes_eq (str_to_ascii_lowercase a) (str_to_ascii_lowercase b)) refl
  where
    go : (t : Bool) → bytes_eq (str_to_ascii_lowercase a) (str_to_ascii_lowercase b) ≡ t → same (a ∷ m) (b ∷ n) ≡ true
    go true k = (λ i. k i && e i)
    go false k = let x : false ≡ true = sym (ap (λ t. t && true) k) ∙ h in cc

-- labels that begin apart are no equal ones
labels_differ : (run other left right : List ℕ) (l k : LabelOf) (tail : ℕ) → HaveTail run other tail → (w : Walked run left (octets_of l)) → (v : Walked other right (octets_of k)) → (reach left l ≡ reach right k → reach left l ≤ tail → ⊥) → same (labels_in left) (labels_in right) ≡ true → slice_cmp nat_cmp (str_to_ascii_lowercase (octets_of l)) (str_to_ascii_lowercase (octets_of k)) ≡ Equal → ⊥
labels_differ run other left right l k tail t w v apart e c =
    let one : same (octets_of l ∷ []) (octets_of k ∷ []) ≡ true = equal_is_same (octets_of l ∷ []) (octets_of k ∷ []) (ap (λ o. ordering_then o Equal) c) in
    let both : same (octets_of l ∷ labels_in left) (octets_of k ∷ labels_in right) ≡ true = same_onto (octets_of l) (octets_of k) (labels_in left) (labels_in right) one e in
    let rows : str_to_ascii_lowercase w.from ≡ str_to_ascii_lowercase v.from = same_lowered w.from v.from w.row v.row ((λ i. same (w.splits.first i) (v.splits.first i)) ∙ both) in
    let even : length w.from ≡ length v.from = sym (length-map w.from to_ascii_lowercase) ∙ ap length rows ∙ length-map v.from to_ascii_lowercase in
    apart (omega (arith, even, from_len run left (octets_of l) w, from_len other right (octets_of k) v))
    (omega (arith, t.most (length w.from) (same_ends run other w.from v.from w.here v.here even rows), from_len run left (octets_of l) w))

abbrev label_order : LabelOf → LabelOf → Ordering
label_order a b = slice_cmp nat_cmp (str_to_ascii_lowercase (octets_of a)) (str_to_ascii_lowercase (octets_of b))

pub walk_decides : (run other left right : List ℕ) (l k : Option LabelOf) (tail : ℕ) → IsRun run → IsRun other → HaveTail run other tail → WalkBoth run other left right l k tail → length left ≡ length right → length left ≤ tail → option_cmp label_order l k ≡ name_cmp (labels_in run) (labels_in other)
walk_decides run other left right l k tail r s t w e h = sym (go l k w.walked w.others w.apart)
  where
    both : same (labels_in left) (labels_in right) ≡ true
    both = rests_equal run other left right l k tail r s t w e h

    behind : (m n : Name) → labels_in run ≡ m ++ labels_in left → labels_in other ≡ n ++ labels_in right → name_cmp (labels_in run) (labels_in other) ≡ from_root_cmp m n
    behind m n f g =
        (λ i. name_cmp (f i) (g i))
        ∙ behind_equal m n (labels_in left) (labels_in right) (same_length (labels_in left) (labels_in right) both) (same_is_equal (labels_in left) (labels_in right) both)

    go : (l k : Option LabelOf) → HasWalked run left l → HasWalked other right k → BeginApart left l right k tail → name_cmp (labels_in run) (labels_in other) ≡ option_cmp label_order l k
    go None None v u a = behind [] [] (ap labels_in (sym v)) (ap labels_in (sym u))
    go None (Some y) v u a = behind [] (u.before ++ octets_of y ∷ []) (ap labels_in (sym v)) (labels_behind other right (octets_of y) u) ∙ none_before u.before (octets_of y)
    go (Some x) None v u a = behind (v.before ++ octets_of x ∷ []) [] (labels_behind run left (octets_of x) v) (ap labels_in (sym u)) ∙ some_behind v.before (octets_of x)
    go (Some x) (Some y) v u a =
        behind (v.before ++ octets_of x ∷ []) (u.before ++ octets_of y ∷ []) (labels_behind run left (octets_of x) v) (labels_behind other right (octets_of y) u)
        ∙ last_decides v.before u.before (octets_of x) (octets_of y) (labels_differ run other left right x y tail t v u a both)
