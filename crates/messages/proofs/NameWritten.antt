-- A name that is written without pointers reads back, whatever number of them may be followed.
use Rattle.std.proofs.Common.{◌≡◌, ℕ, ◌+◌, ◌-◌, ◌≤◌, List, [], ◌∷◌, ◌++◌, length, take, drop, Some, Ok, refl, sym, ap, subst, ◌∙◌, append_assoc, length-append, arith}
use Rattle.std.specs.Prelude.{slice_get, slice_range}
use Rattle.std.specs.List.{AllByRecursion, flat_map}
use Rattle.std.proofs.lemmas.List.{drop_at, take_at}
use Rattle.definitions.specs.Name.{Name, Label, IsLabel, IsName, wire, wire_len}
use Rattle.definitions.specs.Reading.{Reads, root, label}
use Rattle.messages.specs.Message.{owner_at}
use Rattle.messages.proofs.NameLaws.{wire_len-cons}
use Rattle.messages.proofs.NameRead.{owner_reads}

pub slice_get_at : (pre : List ℕ) (x : ℕ) (post : List ℕ) → slice_get (pre ++ x ∷ post) (length pre) ≡ Some x
slice_get_at [] x post = refl
slice_get_at (y ∷ pre) x post = slice_get_at pre x post

pub octet_there : (m pre : List ℕ) (x : ℕ) (post : List ℕ) (p : ℕ) → m ≡ pre ++ x ∷ post → p ≡ length pre → slice_get m p ≡ Some x
octet_there m pre x post p e s = (λ t. slice_get (e t) (s t)) ∙ slice_get_at pre x post

pub range_there : (m pre mid post : List ℕ) (a b : ℕ) → m ≡ pre ++ (mid ++ post) → a ≡ length pre → b ≡ a + length mid → slice_range m a b ≡ mid
range_there m pre mid post a b e s k =
    (λ t. take (b - a) (drop a (e t))) ∙ ap (take (b - a)) (drop_at pre (mid ++ post) a (sym s)) ∙ take_at mid post (b - a) (omega (arith, k))

regroup : (m pre post : List ℕ) (l : Label) (n : Name) → m ≡ pre ++ (wire (l ∷ n) ++ post) → m ≡ pre ++ (length l ∷ (l ++ (wire n ++ post)))
regroup m pre post l n e =
    e ∙ ap (λ s. pre ++ (s ++ post)) (append_assoc (length l ∷ l) (flat_map (λ k. length k ∷ k) n) (0 ∷ [])) ∙ ap (λ s. pre ++ s) (append_assoc (length l ∷ l) (wire n) post)

-- its labels stand there, whatever number of pointers may be followed
reads_wire : (n : Name) (k : ℕ) (pre post m : List ℕ) (p : ℕ) → AllByRecursion IsLabel n → m ≡ pre ++ (wire n ++ post) → p ≡ length pre → Reads m p k n (p + wire_len n)
reads_wire [] k pre post m p all e s = root (octet_there m pre 0 post p e s) refl
reads_wire (l ∷ n) k pre post m p all e s =
    let size = length l in
    let x = wire n ++ post in
    let f : m ≡ pre ++ (size ∷ (l ++ x)) = regroup m pre post l n e in
    let g : m ≡ (pre ++ size ∷ []) ++ (l ++ x) = f ∙ sym (append_assoc pre (size ∷ []) (l ++ x)) in
    let h : m ≡ (pre ++ size ∷ l) ++ x = f ∙ sym (append_assoc pre (size ∷ l) x) in
    let a : p + 1 ≡ length (pre ++ size ∷ []) = omega (arith, length-append pre (size ∷ []), s) in
    let q : p + 1 + size ≡ length (pre ++ size ∷ l) = omega (arith, length-append pre (size ∷ l), s) in
    let inside : p + 1 + size ≤ length m = omega (arith, ap length h, length-append (pre ++ size ∷ l) x, q) in
    let range = range_there m (pre ++ size ∷ []) l x (p + 1) (p + 1 + size) g a refl in
    let rest = reads_wire n k (pre ++ size ∷ l) post m (p + 1 + size) all.1 h q in
    let place : p + 1 + size + wire_len n ≡ p + wire_len (l ∷ n) = omega (arith, wire_len-cons l n) in
    subst (λ b. Reads m p k (l ∷ n) b) place (label (octet_there m pre size (l ++ x) p f s) all.0.some all.0.short refl inside (sym range) rest)

-- a name at a place, whatever stands before and behind it
pub owner_wire : (k : ℕ) (n : Name) (pre post m : List ℕ) (p : ℕ) → IsName n → m ≡ pre ++ (wire n ++ post) → p ≡ length pre → owner_at k m p ≡ Ok (n, p + wire_len n)
owner_wire k n pre post m p name e s =
    owner_reads k m p n (p + wire_len n) (reads_wire n k pre post m p name.labels e s) name.short
