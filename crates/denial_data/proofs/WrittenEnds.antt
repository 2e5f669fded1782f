-- Data whose last part goes to their end, read again.
use Rattle.std.proofs.Common.{◌≡◌, ℕ, ◌+◌, ◌-◌, ◌≤◌, true, List, ◌∷◌, ◌++◌, length, take, refl, sym, ap, ◌∙◌, append_assoc, length-append, arith, Result, Ok, Err, [], cond}
use Rattle.std.specs.Prelude.{slice_range}
use Rattle.std.proofs.Math.Seq.{take-append_seam, drop-append_seam}
use Rattle.std.proofs.lemmas.Bool.{le-leb, eq-eqb}
use Rattle.definitions.specs.Bitmap.{is_bitmap}
use Rattle.definitions.specs.Reading.{ReadFault}
use Rattle.names_rdata.specs.Reading.{Part, octets_part, behind_octets, rest_part, two_parts, if_short, limited, ended}
use Rattle.names_rdata.specs.ReadBack.{IsReadBack}
use Rattle.names_rdata.proofs.Parts.{two_ok}
use Rattle.names_rdata.proofs.WrittenParts.{Written, written_octets}
use Rattle.denial_fields.specs.Counted.{counted, counted_by, counted_part}
use Rattle.denial_nsec_data.specs.Bitmaps.{bitmap_part, bitmap_fault}

-- the part is read as these octets where they stand at the end of the data
abbrev pub WrittenLast : Part → List ℕ → Type 0
WrittenLast part xs = (before behind : List ℕ) (e : ℕ) → e ≡ length before + length xs → part (before ++ (xs ++ behind)) (length before) e ≡ Ok (xs, e)

range_there : (before xs behind : List ℕ) (e : ℕ) → e ≡ length before + length xs → slice_range (before ++ (xs ++ behind)) (length before) e ≡ xs
range_there before xs behind e h =
    let len : e - length before ≡ length xs = omega (arith, h) in
    rw len (ap (take (length xs)) (drop-append_seam before (xs ++ behind)) ∙ take-append_seam xs behind)

pub last_rest : (xs : List ℕ) → WrittenLast rest_part xs
last_rest xs before behind e h = ap (λ o. Ok (o, e)) (range_there before xs behind e h)

pub last_bitmap : (xs : List ℕ) → is_bitmap xs ≡ true → WrittenLast bitmap_part xs
last_bitmap xs b before behind e h =
    ap (λ o. cond {A = Result (List ℕ × ℕ) ReadFault} (is_bitmap o) (Ok (o, e)) (Err (bitmap_fault o))) (range_there before xs behind e h) ∙ rw b refl

pub last_written : (part : Part) (xs : List ℕ) → Written part xs → WrittenLast part xs
last_written part xs w before behind e h =
    w before behind e (omega (arith, h)) ∙ ap (λ x. Ok (xs, x)) (sym h)

pub last_two : (a b : Part) (xs ys : List ℕ) → Written a xs → WrittenLast b ys → WrittenLast (two_parts a b) (xs ++ ys)
last_two a b xs ys f g before behind e h =
    let m = before ++ ((xs ++ ys) ++ behind) in
    let first : before ++ (xs ++ (ys ++ behind)) ≡ m = ap (λ x. before ++ x) (sym (append_assoc xs ys behind)) in
    let second : (before ++ xs) ++ (ys ++ behind) ≡ m = append_assoc before xs (ys ++ behind) ∙ first in
    let there : length (before ++ xs) ≡ length before + length xs = length-append before xs in
    two_ok a b m (length before) e (length before + length xs) e xs ys
    (sym (ap (λ x. a x (length before) e) first) ∙ f before (ys ++ behind) e (omega (arith, h, length-append xs ys)))
    ((λ i. b (sym second i) (sym there i) e) ∙ g (before ++ xs) behind e (omega (arith, h, there, length-append xs ys)))

pub last_limited : (part : Part) (xs : List ℕ) → length xs ≤ 65535 → WrittenLast part xs → WrittenLast (limited part) xs
last_limited part xs few w before behind e h = ap if_short (w before behind e h) ∙ rw (le-leb (length xs) 65535 few) refl

-- all data that are such a part
pub last_data : (part : Part) (xs : List ℕ) → WrittenLast part xs → IsReadBack part xs
last_data part xs w before behind =
    let e = length before + length xs in
    ap (ended e) (w before behind e refl) ∙ rw (eq-eqb e e refl) refl

-- octets behind their number
pub written_counted : (xs : List ℕ) → Written counted_part (counted xs)
written_counted xs before behind e h =
    let m = before ++ (counted xs ++ behind) in
    let next : (before ++ length xs ∷ []) ++ (xs ++ behind) ≡ m = append_assoc before (length xs ∷ []) (xs ++ behind) in
    let there : length (before ++ length xs ∷ []) ≡ length before + 1 = length-append before (length xs ∷ []) in
    let end : length (before ++ length xs ∷ []) + length xs ≡ length before + length (counted xs) = omega (arith, there) in
    ap (counted_by m e) (written_octets 1 (length xs ∷ []) refl before (xs ++ behind) e (omega (arith, h)))
    ∙ ap (behind_octets (length xs ∷ [])) ((λ i. octets_part (length xs) (sym next i) (sym there i) e) ∙ written_octets (length xs) xs refl (before ++ length xs ∷ []) behind e (omega (arith, there, h)))
    ∙ ap (λ x. Ok (counted xs, x)) end
