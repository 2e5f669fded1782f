-- Parts of data that were written are read again.
use Rattle.std.proofs.Common.{◌≡◌, ℕ, ◌+◌, ◌-◌, ◌≤◌, List, ◌++◌, length, take, refl, sym, ap, ◌∙◌, append_assoc, length-append, arith, Ok}
use Rattle.std.specs.Prelude.{slice_range}
use Rattle.std.proofs.Math.Seq.{take-append_seam, drop-append_seam}
use Rattle.std.proofs.lemmas.Bool.{le-leb, eq-eqb}
use Rattle.definitions.specs.Limits.{pointer_limit}
use Rattle.definitions.specs.Name.{Name, IsName, wire}
use Rattle.definitions.proofs.ReadingLaws.{reads_exactly}
use Rattle.names_rdata.specs.Reading.{Part, name_inside, name_part, octets_part, rest_part, two_parts, limited, ended}
use Rattle.names_rdata.specs.ReadBack.{IsReadBack}
use Rattle.names_rdata.proofs.Parts.{two_ok}
use Rattle.names_rdata.proofs.WrittenNames.{written_names}

-- the part is read as these octets wherever they stand within the data
abbrev pub Written : Part → List ℕ → Type 0
Written part xs = (before behind : List ℕ) (e : ℕ) → length before + length xs ≤ e → part (before ++ (xs ++ behind)) (length before) e ≡ Ok (xs, length before + length xs)

range_there : (before xs behind : List ℕ) → slice_range (before ++ (xs ++ behind)) (length before) (length before + length xs) ≡ xs
range_there before xs behind =
    let e : length before + length xs - length before ≡ length xs = omega arith in
    rw e (ap (take (length xs)) (drop-append_seam before (xs ++ behind)) ∙ take-append_seam xs behind)

pub written_name : (n : Name) → IsName n → Written name_part (wire n)
written_name n h before behind e le =
    let s = written_names before behind n h in
    let b = length before + length (wire n) in
    ap (name_inside e) ((reads_exactly (before ++ (wire n ++ behind)) (length before) pointer_limit n b).1 (s.reads, s.short)) ∙ rw (le-leb b e le) refl

pub written_octets : (n : ℕ) (xs : List ℕ) → length xs ≡ n → Written (octets_part n) xs
written_octets n xs h before behind e le =
    let b : length before + n ≡ length before + length xs = omega (arith, h) in
    rw (b, le-leb (length before + length xs) e le) (ap Ok (λ i. (range_there before xs behind i, length before + length xs)))

pub written_two : (a b : Part) (xs ys : List ℕ) → Written a xs → Written b ys → Written (two_parts a b) (xs ++ ys)
written_two a b xs ys f g before behind e le =
    let m = before ++ ((xs ++ ys) ++ behind) in
    let first : before ++ (xs ++ (ys ++ behind)) ≡ m = ap (λ x. before ++ x) (sym (append_assoc xs ys behind)) in
    let second : (before ++ xs) ++ (ys ++ behind) ≡ m = append_assoc before xs (ys ++ behind) ∙ first in
    let there : length (before ++ xs) ≡ length before + length xs = length-append before xs in
    let end : length (before ++ xs) + length ys ≡ length before + length (xs ++ ys) = omega (arith, there, length-append xs ys) in
    two_ok a b m (length before) e (length before + length xs) (length before + length (xs ++ ys)) xs ys
    (sym (ap (λ x. a x (length before) e) first) ∙ f before (ys ++ behind) e (omega (arith, le, length-append xs ys)))
    ((λ i. b (sym second i) (sym there i) e) ∙ g (before ++ xs) behind e (omega (arith, le, end)) ∙ ap Ok (λ i. (ys, end i)))

-- all data that are such a part
pub written_data : (part : Part) (xs : List ℕ) → Written part xs → IsReadBack part xs
written_data part xs w before behind =
    let e = length before + length xs in
    ap (ended e) (w before behind e (omega arith)) ∙ rw (eq-eqb e e refl) refl

pub written_rest : (xs : List ℕ) → length xs ≤ 65535 → IsReadBack (limited rest_part) xs
written_rest xs h before behind =
    let e = length before + length xs in
    rw (range_there before xs behind, le-leb (length xs) 65535 h, eq-eqb e e refl) refl
