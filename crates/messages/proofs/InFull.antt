-- A name that takes as many octets as its wire form has stands in full where it is read.
use Rattle.std.proofs.Common.{◌≡◌, ℕ, suc, ◌+◌, ◌-◌, ◌<◌, ◌≤◌, Bool, true, false, List, [], ◌∷◌, ◌++◌, length, take, drop, get_or, append_assoc, flat_map, refl, sym, ap, ◌∙◌, Ok, Err, Result, arith}
use Rattle.std.specs.Prelude.{Option, Some, None, nat_le, slice_range, ◌&&◌}
use Rattle.std.proofs.Math.Seq.{take-add}
use Rattle.std.proofs.lemmas.Bool.{leb-true}
use Rattle.std.proofs.lemmas.List.{drop-drop, drop_more}
use Rattle.std.proofs.lemmas.Option.{get_or_from_slice_get, slice_get_within}
use Rattle.definitions.specs.Bitmap.{is_bitmap}
use Rattle.definitions.specs.Limits.{pointer_limit}
use Rattle.definitions.specs.Name.{Name, wire, wire_len}
use Rattle.definitions.specs.Reading.{Reads, root, label, pointer, ReadFault, name_at}
use Rattle.definitions.proofs.ReadingLaws.{length-range, reads_exactly, wire_len-cons, wire_len_some}
use Rattle.definitions.proofs.SignedLaws.{Labelled}
use Rattle.messages.specs.declared.error.MessageError.{MessageError}
use Rattle.messages.specs.Message.{Spelled, behind, data_of, fault_of, fits, if_true, nsec_at, owner_at}
use Rattle.messages.proofs.MessageWritten.{wire-length}
use Rattle.messages.proofs.ReadNames.{reads_labelled}

-- ---- octets from a place on

range_more : (m : List ℕ) (p e : ℕ) → p < e → p < length m → slice_range m p e ≡ get_or m p 0 ∷ slice_range m (p + 1) e
range_more m p e h inside =
    let left : e - p ≡ suc (e - (p + 1)) = omega (arith, h) in
    ap (λ n. take n (drop p m)) left ∙ ap (take (suc (e - (p + 1)))) (drop_more m p 0 inside)

range_join : (m : List ℕ) (p q e : ℕ) → p ≤ q → q ≤ e → slice_range m p e ≡ slice_range m p q ++ slice_range m q e
range_join m p q e h k =
    let n : e - p ≡ (q - p) + (e - q) = omega (arith, h, k) in
    let at : p + (q - p) ≡ q = omega (arith, h) in
    ap (λ n. take n (drop p m)) n ∙ take-add (q - p) (e - q) (drop p m)
    ∙ ap (λ xs. slice_range m p q ++ take (e - q) xs) (drop-drop (q - p) p m ∙ ap (λ k. drop k m) at)

-- ---- names

not_two : (ls : Name) → Labelled ls → wire_len ls ≡ 2 → ⊥
not_two [] h e = omega (arith, e)
not_two (l ∷ ls) h e = omega (arith, h.0, e, wire_len-cons l ls, wire_len_some ls)

-- behind a pointer would stand fewer octets, or one more
stands_in_full : {m : List ℕ} {p k b : ℕ} {ls : Name} → Reads m p k ls b → b ≡ p + wire_len ls → slice_range m p b ≡ wire ls
stands_in_full {m} {p} {b = b} (root h e) same =
    let inside = slice_get_within m p 0 h in
    let none : b - (p + 1) ≡ 0 = omega (arith, e) in
    range_more m p b (omega (arith, e)) inside ∙ (λ i. get_or_from_slice_get m p 0 0 h i ∷ take (none i) (drop (p + 1) m))
stands_in_full {m} {p} {b = b} (label {n = n} {e = e} {l = l} {ls = rest} h a c d f g r) same =
    let inside = slice_get_within m p n h in
    let len : length l ≡ n = ap length g ∙ ap (λ x. length (slice_range m (p + 1) x)) d ∙ length-range m (p + 1) n (omega (arith, d, f)) in
    let first : get_or m p 0 ≡ length l = get_or_from_slice_get m p n 0 h ∙ sym len in
    let more : b ≡ e + wire_len rest = omega (arith, same, wire_len-cons l rest, len, d) in
    let behind : slice_range m (p + 1) b ≡ l ++ wire rest = range_join m (p + 1) e b (omega (arith, d)) (omega (arith, more)) ∙ (λ i. sym g i ++ stands_in_full r more i) in
    range_more m p b (omega (arith, more, d)) inside ∙ (λ i. first i ∷ behind i) ∙ sym (append_assoc (length l ∷ l) (flat_map (λ k. length k ∷ k) rest) (0 ∷ []))
stands_in_full {m} {p} {ls = ls} (pointer h a c d e f r) same = absurd (not_two ls (reads_labelled r) (omega (arith, same, f)))

-- ---- NSEC data

abbrev owner_of : Result (Name × ℕ) ReadFault → Result (Name × ℕ) MessageError
owner_of r = elim r [ Ok r ↦ Ok r | Err f ↦ Err (fault_of f) ]

owner_is : (r : Result (Name × ℕ) ReadFault) (n : Name × ℕ) → owner_of r ≡ Ok n → r ≡ Ok n
owner_is (Ok x) n h = let e : x ≡ n = cc in ap (λ (y : Name × ℕ). Ok y) e
owner_is (Err f) n h = cc

named : (m : List ℕ) (p : ℕ) (n : Name × ℕ) → owner_at pointer_limit m p ≡ Ok n → name_at pointer_limit m p ≡ Ok n
unfolding owner_at
named m p n h = owner_is (name_at pointer_limit m p) n h

-- what is read of a next name that is there
abbrev next_as : List ℕ → Spelled → Result (Name × ℕ) MessageError → Bool → Option (Name × List ℕ)
next_as m r o there = elim (elim there as (λ _. Option (Name × ℕ)) [
  | false ↦ None
  | true ↦ elim o [ Err e ↦ None | Ok n ↦ if_true (nat_le n.1 (behind r)) n ]
]) [
  | None ↦ None
  | Some n ↦ let bits = slice_range m n.1 (behind r) in if_true (is_bitmap bits && fits (wire n.0 ++ bits)) (n.0, bits)
]

abbrev cut_at : List ℕ → Spelled → Name × ℕ → Bool → Option (Name × List ℕ)
cut_at m r n within = elim (if_true within n) as (λ _. Option (Name × List ℕ)) [
  | None ↦ None
  | Some n ↦ let bits = slice_range m n.1 (behind r) in if_true (is_bitmap bits && fits (wire n.0 ++ bits)) (n.0, bits)
]

held : {A : Type 0} (t : Bool) (x y : A) → if_true t x ≡ Some y → x ≡ y
held true x y h = cc
held false x y h = cc

-- where the next name ends, and that the bitmap is behind it
pub record Next (m : List ℕ) (r : Spelled) (l : Name × List ℕ) : Type 0 where
  pub end : ℕ
  pub there : behind r ≤ length m
  pub within : end ≤ behind r
  pub read : owner_at pointer_limit m r.start ≡ Ok (l.0, end)
  pub bits : l.1 ≡ slice_range m end (behind r)

next_is : (m : List ℕ) (r : Spelled) (l : Name × List ℕ) (o : Result (Name × ℕ) MessageError) (there : Bool) → owner_at pointer_limit m r.start ≡ o → nat_le (behind r) (length m) ≡ there → next_as m r o there ≡ Some l → Next m r l
next_is m r l o false e t h = cc
next_is m r l (Err x) true e t h = cc
next_is m r l (Ok n) true e t h = go (nat_le n.1 (behind r)) refl h
  where
    go : (within : Bool) → nat_le n.1 (behind r) ≡ within → cut_at m r n within ≡ Some l → Next m r l
    go false w k = cc
    go true w k =
        let bits = slice_range m n.1 (behind r) in
        let is : (n.0, bits) ≡ l = held (is_bitmap bits && fits (wire n.0 ++ bits)) (n.0, bits) l k in
        record {
          end = n.1;
          there = leb-true (behind r) (length m) t;
          within = leb-true n.1 (behind r) w;
          read = e ∙ ap (λ (x : Name × List ℕ). Ok (x.0, n.1)) is;
          bits = sym (ap (λ (x : Name × List ℕ). x.1) is);
        }

-- data that are as long as the next name in full and the bitmap are these
pub in_full : (m : List ℕ) (r : Spelled) (l : Name × List ℕ) → nsec_at pointer_limit m r ≡ Some l → length (data_of m r) ≡ length (wire l.0) + length l.1 → data_of m r ≡ wire l.0 ++ l.1
in_full m r l h len =
    let n = next_is m r l (owner_at pointer_limit m r.start) (nat_le (behind r) (length m)) refl refl h in
    let reads = ((reads_exactly m r.start pointer_limit l.0 n.end).0 (named m r.start (l.0, n.end) n.read)).0 in
    let whole : length (data_of m r) ≡ r.length = length-range m r.start r.length n.there in
    let left : behind r ≡ n.end + (behind r - n.end) = omega (arith, n.within) in
    let bits : length l.1 ≡ behind r - n.end =
    ap length n.bits ∙ ap (λ x. length (slice_range m n.end x)) left ∙ length-range m n.end (behind r - n.end) (omega (arith, n.within, n.there)) in
    let end : n.end ≡ r.start + wire_len l.0 = omega (arith, len, whole, bits, n.within, wire-length l.0) in
    range_join m r.start n.end (behind r) (omega (arith, end)) n.within ∙ (λ i. stands_in_full reads end i ++ sym n.bits i)
