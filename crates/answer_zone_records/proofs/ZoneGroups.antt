-- Items that are taken one after another.
use Rattle.std.proofs.Common.{[], ◌≡◌, ℕ, zero, suc, ◌+◌, ◌<◌, Bool, not, eqb, ltb, cond, List, ◌∷◌, ◌++◌, length, map, take, drop, drop-cons, get_or, refl, sym, ap, add-one, arith, ◌∙◌}
use Rattle.std.specs.List.{filter}
use Rattle.std.proofs.lemmas.Bool.{lt-ltb, ne_eqb}
use Rattle.std.proofs.lemmas.List.{map-append, take_more}
use Rattle.std.proofs.lemmas.List.Elements.{filter_more}

pub step : {A : Type 0} (p : A → Bool) (rs : List A) (i : ℕ) (r : A) (b : Bool) → i < length rs → r ≡ get_or rs i r → p r ≡ b → filter p (take (i + 1) rs) ≡ filter p (take i rs) ++ cond b (r ∷ []) []
step p rs i r b h e t = filter_more p rs i r h ∙ ap (λ x. filter p (take i rs) ++ cond (p x) (x ∷ []) []) (sym e) ∙ ap (λ b. filter p (take i rs) ++ cond b (r ∷ []) []) t

-- records that are written one after another
pub written_more : {A C D : Type 0} (h : A → C) (f : D → C) (gs hs : List A) (g : A) (ds : List D) (i : ℕ) (d : D) → hs ≡ gs ++ g ∷ [] → i < length ds → d ≡ get_or ds i d → h g ≡ f d
    → map h gs ≡ map f (take i ds) → map h hs ≡ map f (take (i + 1) ds)
written_more h f gs hs g ds i d pushed inside e made before =
    ap (map h) pushed ∙ map-append h gs (g ∷ []) ∙ (λ j. before j ++ made j ∷ [])
    ∙ sym (ap (map f) (take_more ds i d inside ∙ ap (λ x. take i ds ++ x ∷ []) (sym e)) ∙ map-append f (take i ds) (d ∷ []))

pub not_empty : (n : ℕ) → not (eqb n 0) ≡ ltb 0 n
not_empty zero = refl
not_empty (suc n) = ap not (ne_eqb (suc n) 0 (λ e. omega (arith, e))) ∙ sym (lt-ltb 0 (suc n) (omega arith))

-- what is left of a list at a place
pub left_is : {A : Type 0} (xs : List A) (i : ℕ) (x : A) → i < length xs → x ≡ get_or xs i x → drop i xs ≡ x ∷ drop (i + 1) xs
left_is xs i x h e = drop-cons xs i x h ∙ (λ j. sym e j ∷ drop (sym (add-one i) j) xs)
