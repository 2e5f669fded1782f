-- Reading back the labels that octets spell.
use Rattle.std.specs.Prelude.{slice_get, None, Some}
use Rattle.std.proofs.Common.{◌≡◌, ℕ, zero, suc, ◌+◌, ◌-◌, ◌<◌, ◌≤◌, List, [], ◌∷◌, ◌++◌, length, take, drop, refl, sym, ap, ◌∙◌, append_assoc, length-append, add-one, arith}
use Rattle.std.proofs.lemmas.List.{take_at, drop_at, drop-drop, take-append-drop}
use Rattle.std.specs.List.{AllByRecursion}
use Rattle.names_wire.specs.Name.{Name, Label, wire}
use Rattle.names_labels.specs.Flat.{spelled, labels_up_to, labels_in, name_in, IsRun, SplitsLabel}

pub spelled-append : (a b : Name) → spelled (a ++ b) ≡ spelled a ++ spelled b
spelled-append [] b = refl
spelled-append (l ∷ a) b =
    ap (λ s. (length l ∷ l) ++ s) (spelled-append a b) ∙ sym (append_assoc (length l ∷ l) (spelled a) (spelled b))

labels_up_to-spelled : (k : ℕ) (ls : Name) → length (spelled ls) ≤ k → labels_up_to k (spelled ls) ≡ ls
labels_up_to-spelled zero [] h = refl
labels_up_to-spelled (suc k) [] h = refl
labels_up_to-spelled zero (l ∷ ls) h = absurd (omega arith)
labels_up_to-spelled (suc k) (l ∷ ls) h =
    let e : take (length l) (l ++ spelled ls) ≡ l = take_at l (spelled ls) (length l) refl in
    let f : drop (length l) (l ++ spelled ls) ≡ spelled ls = drop_at l (spelled ls) (length l) refl in
    let s : length (spelled ls) ≤ k = omega (arith, length-append l (spelled ls)) in
    λ i. e i ∷ (ap (labels_up_to k) f ∙ labels_up_to-spelled k ls s) i

-- labels are read back from what they spell
pub labels_in-spelled : (ls : Name) → labels_in (spelled ls) ≡ ls
unfolding labels_in
labels_in-spelled ls = labels_up_to-spelled (length (spelled ls)) ls (omega arith)

-- labels that spell the same are the same
pub spelled-injective : (a b : Name) → spelled a ≡ spelled b → a ≡ b
spelled-injective a b e = sym (labels_in-spelled a) ∙ ap labels_in e ∙ labels_in-spelled b

pub wire-spelled : (n : Name) → wire n ≡ spelled (n ++ [] ∷ [])
wire-spelled n = sym (spelled-append n ([] ∷ []))

pub labels_in-wire : (n : Name) → labels_in (wire n) ≡ n ++ [] ∷ []
labels_in-wire n = ap labels_in (wire-spelled n) ∙ labels_in-spelled (n ++ [] ∷ [])

front-push : (n : Name) (l : Label) → take (length (n ++ l ∷ []) - 1) (n ++ l ∷ []) ≡ n
front-push n l = take_at n (l ∷ []) (length (n ++ l ∷ []) - 1) (omega (arith, length-append n (l ∷ [])))

pub name_in-wire : (n : Name) → name_in (wire n) ≡ n
name_in-wire n = ap (λ ls. take (length ls - 1) ls) (labels_in-wire n) ∙ front-push n []

-- a run that begins with an octet begins with the label of that length
pub splits_label : (run rest : List ℕ) (b : ℕ) → IsRun run → run ≡ b ∷ rest → (b ≤ length rest) × SplitsLabel run (take b rest) (drop b rest)
splits_label run rest b r e = go (labels_in run) refl
  where
    go : (ls : Name) → labels_in run ≡ ls → (b ≤ length rest) × SplitsLabel run (take b rest) (drop b rest)
    go [] h = let x : b ∷ rest ≡ [] = sym e ∙ r.whole ∙ ap spelled h in cc
    go (l ∷ ls) h =
        let x : b ∷ rest ≡ length l ∷ (l ++ spelled ls) = sym e ∙ r.whole ∙ ap spelled h in
        let bl : b ≡ length l = cc in
        let rl : rest ≡ l ++ spelled ls = cc in
        let t : take b rest ≡ l = ap (take b) rl ∙ take_at l (spelled ls) b (sym bl) in
        let d : drop b rest ≡ spelled ls = ap (drop b) rl ∙ drop_at l (spelled ls) b (sym bl) in
        let ld : labels_in (drop b rest) ≡ ls = ap labels_in d ∙ labels_in-spelled ls in
        let all : AllByRecursion (λ k. length k ≤ 63) (l ∷ ls) = rw h at r.short in (
          omega (arith, bl, ap length rl, length-append l (spelled ls)),
          record {
            first = h ∙ (λ i. sym t i ∷ sym ld i);
            behind = record { whole = d ∙ ap spelled (sym ld); short = rw ld all.1 };
          },
        )

pub empty_run : (run : List ℕ) → length run ≡ 0 → labels_in run ≡ []
unfolding labels_in
empty_run [] h = refl
empty_run (b ∷ bs) h = absurd (omega arith)

pub no_row : IsRun []
no_row = let e : labels_in [] ≡ [] = empty_run [] refl in record { whole = ap spelled (sym e); short = rw e tt }

pub length-spelled : (ls : Name) → length ls ≤ length (spelled ls)
length-spelled [] = omega arith
length-spelled (l ∷ ls) = omega (arith, length-spelled ls, length-append l (spelled ls))

-- a row has no more labels than octets
pub length-labels_in : (run : List ℕ) → IsRun run → length (labels_in run) ≤ length run
length-labels_in run r = omega (arith, length-spelled (labels_in run), ap length r.whole)

-- the label at the front of the row is no longer than 63 octets
pub first_short : (run rest : List ℕ) (label : Label) → IsRun run → SplitsLabel run label rest → length label ≤ 63
first_short run rest label r s = let all : AllByRecursion (λ k. length k ≤ 63) (label ∷ labels_in rest) = rw s.first at r.short in all.0

pub slice_get-drop : {X : Type 0} (xs : List X) (i : ℕ) → slice_get xs i ≡ slice_get (drop i xs) 0
slice_get-drop [] zero = refl
slice_get-drop [] (suc i) = refl
slice_get-drop (x ∷ xs) zero = refl
slice_get-drop (x ∷ xs) (suc i) = slice_get-drop xs i

pub drop-one : {X : Type 0} (xs : List X) (i : ℕ) (x : X) (rest : List X) → drop i xs ≡ x ∷ rest → drop (i + 1) xs ≡ rest
drop-one xs i x rest e = sym (drop-drop 1 i xs) ∙ ap (drop 1) e

pub nothing_at : {X : Type 0} (xs : List X) (i j : ℕ) → drop i xs ≡ [] → i ≤ j → slice_get xs j ≡ None
nothing_at [] i j e h = refl
nothing_at (x ∷ xs) zero j e h = cc
nothing_at (x ∷ xs) (suc i) zero e h = absurd (omega arith)
nothing_at (x ∷ xs) (suc i) (suc j) e h = nothing_at xs i j e (omega arith)

pub there : {X : Type 0} (xs ys : List X) (i : ℕ) (x : X) (rest : List X) → drop i xs ≡ ys → ys ≡ x ∷ rest → Some x ≡ slice_get xs i
there xs ys i x rest e h = sym (slice_get-drop xs i ∙ ap (λ zs. slice_get zs 0) (e ∙ h))

pub few_labels : (ls : Name) → length (spelled ls) ≤ 255 → length ls ≤ 255
few_labels ls h = omega (arith, length-spelled ls)

pub none_past : {X : Type 0} (xs : List X) (i : ℕ) → None ≡ slice_get xs i → length xs ≤ i
none_past [] i h = omega arith
none_past (x ∷ xs) zero h = cc
none_past (x ∷ xs) (suc i) h = omega (arith, none_past xs i h)

pub some_within : {X : Type 0} (xs : List X) (i : ℕ) (x : X) → Some x ≡ slice_get xs i → i < length xs
some_within [] i x h = cc
some_within (y ∷ xs) zero x h = omega arith
some_within (y ∷ xs) (suc i) x h = omega (arith, some_within xs i x h)

take_suc : {X : Type 0} (xs : List X) (i : ℕ) (x : X) → Some x ≡ slice_get xs i → take (suc i) xs ≡ take i xs ++ x ∷ []
take_suc [] i x h = cc
take_suc (y ∷ xs) zero x h = let e : y ≡ x = cc in λ t. e t ∷ []
take_suc (y ∷ xs) (suc i) x h = ap (λ zs. y ∷ zs) (take_suc xs i x h)

pub take_one : {X : Type 0} (xs : List X) (i : ℕ) (x : X) → Some x ≡ slice_get xs i → take (i + 1) xs ≡ take i xs ++ x ∷ []
take_one xs i x h = ap (λ k. take k xs) (add-one i) ∙ take_suc xs i x h

pub length-spelled_push : (ls : Name) (l : Label) → length (spelled (ls ++ l ∷ [])) ≡ length (spelled ls) + (length l + 1)
length-spelled_push ls l =
    omega (arith, ap length (spelled-append ls (l ∷ [])), length-append (spelled ls) (spelled (l ∷ [])), length-append l [])

-- the octets of the labels up to a place and of the one there
pub spelled_more : (ls : Name) (i : ℕ) (l : Label) → Some l ≡ slice_get ls i → length (spelled (take (i + 1) ls)) ≡ length (spelled (take i ls)) + (length l + 1)
spelled_more ls i l h = ap (λ m. length (spelled m)) (take_one ls i l h) ∙ length-spelled_push (take i ls) l

pub length-spelled-take : (i : ℕ) (ls : Name) → length (spelled (take i ls)) ≤ length (spelled ls)
length-spelled-take i ls =
    omega (arith, ap (λ m. length (spelled m)) (take-append-drop i ls), ap length (spelled-append (take i ls) (drop i ls)), length-append (spelled (take i ls)) (spelled (drop i ls)))

-- a label moved from behind to the front
pub moved : (done labels rest n : Name) (l : Label) → done ++ labels ≡ n → labels ≡ l ∷ rest → (done ++ l ∷ []) ++ rest ≡ n
moved done labels rest n l h e = append_assoc done (l ∷ []) rest ∙ ap (λ ls. done ++ ls) (sym e) ∙ h
