-- Where octets are no bitmap.
use Rattle.std.proofs.Common.{◌≡◌, ◌⊎◌, ℕ, suc, zero, ◌+◌, ◌<◌, ◌≤◌, Bool, true, false, ◌&&◌, List, [], ◌∷◌, length, take, drop, Some, None, Option, refl, sym, ap, inl, inr, leb, arith, get_or, length-take-le, subst}
use Rattle.std.proofs.lemmas.Bool.{leb-true}
use Rattle.std.proofs.lemmas.List.{take-append-drop}
use Rattle.definitions.specs.Windows.{Split, split, first_window}
use Rattle.denial_bitmap.specs.Faults.{BreaksOff, alone, empty, long, short, behind}
use Rattle.denial_bitmap.specs.declared.error.RtypeBitmapError.{RtypeBitmapError}
use Rattle.denial_bitmap.specs.declared.error.RtypeBitmapError.TheVariants.{BadRtypeBitmap, ShortInput}

-- fewer than two octets
pub few_octets : (bs : List ℕ) → length bs < 2 → (length bs ≡ 0) ⊎ BreaksOff bs ShortInput
few_octets [] h = inl refl
few_octets (w ∷ []) h = inr alone
few_octets (w ∷ n ∷ bs) h = absurd (omega (arith, h))

-- a window of no octets
pub no_octets : (bs : List ℕ) → 2 ≤ length bs → get_or bs 1 0 ≡ 0 → (length bs ≡ 0) ⊎ BreaksOff bs BadRtypeBitmap
no_octets [] h e = inl refl
no_octets (w ∷ []) h e = absurd (omega (arith, h))
no_octets (w ∷ zero ∷ bs) h e = inr empty
no_octets (w ∷ suc n ∷ bs) h e = absurd (omega (arith, e))

-- a window of too many
pub many_octets : (bs : List ℕ) → 2 ≤ length bs → 32 < get_or bs 1 0 → (length bs ≡ 0) ⊎ BreaksOff bs BadRtypeBitmap
many_octets [] h e = inl refl
many_octets (w ∷ []) h e = absurd (omega (arith, h))
many_octets (w ∷ n ∷ bs) h e = inr (long e)

-- a window whose octets are not all there
pub missing_octets : (bs : List ℕ) → 2 ≤ length bs → 0 < get_or bs 1 0 → get_or bs 1 0 ≤ 32 → length bs < 2 + get_or bs 1 0 → (length bs ≡ 0) ⊎ BreaksOff bs ShortInput
missing_octets [] h some most few = inl refl
missing_octets (w ∷ []) h some most few = absurd (omega (arith, h))
missing_octets (w ∷ n ∷ bs) h some most few = inr (short some most (omega (arith, few)))

abbrev front : Bool → Split → Option Split
front b s = elim b [ true ↦ Some s | false ↦ None ]

both : (s t : Bool) → (s && t) ≡ true → (s ≡ true) × (t ≡ true)
both true true h = (refl, h)
both true false h = cc
both false t h = cc

-- octets behind a window break off as they do alone
pub behind_window : (bs : List ℕ) (s : Split) (e : RtypeBitmapError) → first_window bs ≡ Some s → BreaksOff s.rest e → BreaksOff bs e
behind_window [] s e h r = cc
behind_window (w ∷ []) s e h r = cc
behind_window (w ∷ n ∷ bs) s e h r = go (leb 1 n && leb n 32 && leb n (length bs)) refl h
  where
    go : (t : Bool) → (leb 1 n && leb n 32 && leb n (length bs)) ≡ t → front t (split w (take n bs) (drop n bs)) ≡ Some s → BreaksOff (w ∷ n ∷ bs) e
    go true q k =
        let outer = both (leb 1 n && leb n 32) (leb n (length bs)) q in
        let inner = both (leb 1 n) (leb n 32) outer.0 in
        let len : length (take n bs) ≡ n = length-take-le n bs (leb-true n (length bs) outer.1) in
        let same : split w (take n bs) (drop n bs) ≡ s = cc in
        let rest : s.rest ≡ drop n bs = ap (λ x. x.rest) (sym same) in
        behind (take n bs) (omega (arith, len, leb-true 1 n inner.0)) (omega (arith, len, leb-true n 32 inner.1))
        (λ i. w ∷ sym len i ∷ sym (take-append-drop n bs) i) (subst (λ x. BreaksOff x e) rest r)
    go false q k = cc
