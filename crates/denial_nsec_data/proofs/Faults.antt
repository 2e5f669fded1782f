-- Why octets are no bitmap, as a fault of reading.
use Rattle.std.proofs.Common.{◌≡◌, ℕ, zero, suc, ◌<◌, ◌≤◌, Bool, true, false, List, [], ◌∷◌, ◌++◌, length, Result, Ok, Err, refl, sym, ap, ◌∙◌, arith, length-append, cond}
use Rattle.std.specs.Prelude.{slice_range}
use Rattle.std.proofs.lemmas.Bool.{lt-ltb, le-ltb, ne_eqb}
use Rattle.std.proofs.Math.Seq.{drop-append_seam}
use Rattle.definitions.specs.Bitmap.{is_bitmap}
use Rattle.definitions.specs.Reading.{ReadFault, Short, Malformed}
use Rattle.names_parser.specs.declared.error.ParseError.{ParseError}
use Rattle.names_parsed.specs.Heads.{fault_of}
use Rattle.names_rdata.specs.Reading.{rest_part}
use Rattle.names_rdata.proofs.PartCalls.{has_text}
use Rattle.denial_bitmap.specs.Faults.{BreaksOff, alone, empty, long, short, behind, as_parse_error}
use Rattle.denial_bitmap.specs.declared.error.RtypeBitmapError.{RtypeBitmapError}
use Rattle.denial_bitmap.specs.declared.error.RtypeBitmapError.TheVariants.{BadRtypeBitmap, ShortInput}
use Rattle.denial_nsec_data.specs.Bitmaps.{fault_upto, bitmap_fault, bitmap_part}
use Rattle.denial_fields.proofs.Ending.{EndsThere, place_of}

abbrev kind : RtypeBitmapError → ReadFault
kind BadRtypeBitmap = Malformed
kind ShortInput = Short

kind_of : (e : RtypeBitmapError) (p : ParseError) → as_parse_error e p → fault_of p ≡ kind e
kind_of BadRtypeBitmap p h = has_text p _ h
kind_of ShortInput p h = ap fault_of h

-- a window whose octets are there
past : (n w : ℕ) (octets rest : List ℕ) → 0 < length octets → length octets ≤ 32 → fault_upto (suc n) (w ∷ length octets ∷ (octets ++ rest)) ≡ fault_upto n rest
past n w octets rest some most =
    rw (ne_eqb (length octets) 0 (λ e. omega (arith, e, some)), le-ltb 32 (length octets) most, le-ltb (length (octets ++ rest)) (length octets) (omega (arith, length-append octets rest)), drop-append_seam octets rest) refl

breaks : (n : ℕ) (xs : List ℕ) (e : RtypeBitmapError) → length xs ≤ n → BreaksOff xs e → fault_upto n xs ≡ kind e
breaks zero (w ∷ []) e h alone = refl
breaks (suc n) (w ∷ []) e h alone = refl
breaks zero (w ∷ zero ∷ rest) e h empty = absurd (omega (arith, h))
breaks (suc n) (w ∷ zero ∷ rest) e h empty = refl
breaks zero (w ∷ len ∷ rest) e h (long l) = absurd (omega (arith, h))
breaks (suc n) (w ∷ len ∷ rest) e h (long l) = rw (ne_eqb len 0 (λ k. omega (arith, k, l)), lt-ltb 32 len l) refl
breaks zero (w ∷ len ∷ rest) e h (short some most few) = absurd (omega (arith, h))
breaks (suc n) (w ∷ len ∷ rest) e h (short some most few) = rw (ne_eqb len 0 (λ k. omega (arith, k, some)), le-ltb 32 len most, lt-ltb (length rest) len few) refl
breaks zero xs e h (behind octets some most is b) = absurd (omega (arith, h, ap length is))
breaks (suc n) xs e h (behind {w} {rest} octets some most is b) =
    ap (fault_upto (suc n)) is ∙ past n w octets rest some most ∙ breaks n rest e (omega (arith, h, ap length is, length-append octets rest)) b

is_not : (b : Bool) → (b ≡ true → ⊥) → b ≡ false
is_not true h = absurd (h refl)
is_not false h = refl

-- what is left is no bitmap
pub no_bitmap : (m : List ℕ) (p e q : ℕ) (xs : List ℕ) (f : RtypeBitmapError) (g : ParseError) → rest_part m p e ≡ Ok (xs, q) → (is_bitmap xs ≡ true → ⊥) → BreaksOff xs f → as_parse_error f g → bitmap_part m p e ≡ Err (fault_of g)
no_bitmap m p e q xs f g r not b a =
    let k : Ok (slice_range m p e, e) ≡ Ok (xs, q) = r in
    let pair : (slice_range m p e, e) ≡ (xs, q) = cc in
    let there : slice_range m p e ≡ xs = ap (λ (t : List ℕ × ℕ). t.0) pair in
    ap (λ o. cond (is_bitmap o) (Ok (o, e)) (Err (bitmap_fault o))) there
    ∙ ap (λ t. cond t (Ok (xs, e)) (Err (bitmap_fault xs))) (is_not (is_bitmap xs) not)
    ∙ ap Err (breaks (length xs) xs f (omega arith) b ∙ sym (kind_of f g a))

pub bitmap_ends : EndsThere bitmap_part
bitmap_ends m p e xs q h = go (is_bitmap (slice_range m p e)) h
  where
    differ : {A : Type 0} {x : A} {f : ReadFault} → Err f ≡ Ok x → ⊥
    differ j = cc j

    go : (b : Bool) → cond {A = Result (List ℕ × ℕ) ReadFault} b (Ok (slice_range m p e, e)) (Err (bitmap_fault (slice_range m p e))) ≡ Ok (xs, q) → q ≡ e
    go true k = place_of k refl
    go false k = absurd (differ k)
