-- References that are found by their hash.
use Rattle.std.proofs.Common.{◌≡◌, ◌<◌, ◌+◌, ℕ, Bool, true, false, Bor, List, [], ◌∷◌, ◌++◌, take, drop, get_or, length, map, refl, sym, ap, ◌∙◌, ◌||◌, not, add-one}
use Rattle.std.specs.Prelude.{None, Some, slice_get}
use Rattle.std.specs.List.{list_any}
use Rattle.std.specs.List.Sorted.{IsPermutation}
use Rattle.std.specs.Bool.{MatchBool}
use Rattle.std.specs.Str.{bytes_eq}
use Rattle.std.proofs.lemmas.List.{take-map}
use Rattle.std.proofs.lemmas.List.Folds.{list_any-append}
use Rattle.std.proofs.lemmas.List.Sorted.{list_any-IsPermutation}
use Rattle.std.proofs.lemmas.Option.{slice_get-get_or}
use Rattle.std.proofs.lemmas.Slice.Eq.{bytes_eq-Decides}
use Rattle.std.proofs.Math.Seq.{drop-cons}
use Rattle.keyset.specs.KeyState.{KeySetState, Reference, first_new_fault, listed, new_fault}
use Rattle.keyset_rolls.specs.declared.rolls.RollType.{RollType}
use Rattle.keyset.specs.Listing.{IsIndexOf}
use Rattle.keyset.proofs.KeyMaps.{bytes_eq-sym}
use Rattle.keyset.proofs.Lists.{take_one}

either_way : (a b : Bool) → (a || b) ≡ (b || (a || false))
either_way true true = refl
either_way true false = refl
either_way false true = refl
either_way false false = refl

-- of a test that passes already, once more says nothing
absorbed : (a b : Bool) → (a ≡ true → b ≡ true) → b ≡ (b || (a || false))
absorbed true b h = h refl ∙ ap (λ t. t || (true || false)) (sym (h refl))
absorbed false true h = refl
absorbed false false h = refl

not_false : (b : Bool) → false ≡ not b → b ≡ true
not_false true h = refl
not_false false h = h

among : (ks : List (Bor Reference)) (p q : Reference) → p ≡ q → list_any (λ x. bytes_eq p x.now) ks ≡ list_any (λ x. bytes_eq x.now q) ks
among ks p q e = λ t. list_any (λ x. (ap (λ z. bytes_eq z x.now) e ∙ bytes_eq-sym q x.now) t) ks

-- what is hashed once more
pub index_grows : (qs : List Reference) (ks ns : List (Bor Reference)) (k : Bor Reference) (added : Bool) → IsIndexOf qs ks → added ≡ not (list_any (λ x. bytes_eq k.now x.now) ks) → MatchBool added (IsPermutation (k ∷ ks) ns) (ns ≡ ks) → IsIndexOf (qs ++ k.now ∷ []) ns
index_grows qs ks ns k true h a p q =
    sym (list_any-IsPermutation (λ x. bytes_eq x.now q) (k ∷ ks) ns p)
    ∙ ap (λ b. bytes_eq k.now q || b) (h q)
    ∙ either_way (bytes_eq k.now q) (listed qs q)
    ∙ sym (list_any-append (λ x. bytes_eq x q) qs (k.now ∷ []))
index_grows qs ks ns k false h a p q =
    ap (λ xs. list_any (λ x. bytes_eq x.now q) xs) p
    ∙ h q
    ∙ absorbed (bytes_eq k.now q) (listed qs q) (λ e. sym (h q) ∙ sym (among ks k.now q ((bytes_eq-Decides k.now q).0 e)) ∙ not_false (list_any (λ x. bytes_eq k.now x.now) ks) a)
    ∙ sym (list_any-append (λ x. bytes_eq x q) qs (k.now ∷ []))

map_snoc : {X : Type 0} (text : X → Reference) (rs : List X) (r : X) → map text (rs ++ r ∷ []) ≡ map text rs ++ text r ∷ []
map_snoc text [] r = refl
map_snoc text (x ∷ rs) r = ap (λ ts. text x ∷ ts) (map_snoc text rs r)

-- one more of some references
pub texts_one : {X : Type 0} (text : X → Reference) (rs : List X) (i : ℕ) (r : X) → Some r ≡ slice_get rs i → take (i + 1) (map text rs) ≡ take i (map text rs) ++ text r ∷ []
texts_one text rs i r h = take-map text (i + 1) rs ∙ ap (map text) (take_one rs i r h) ∙ map_snoc text (take i rs) r ∙ ap (λ ts. ts ++ text r ∷ []) (sym (take-map text i rs))

-- of a new key that is not at fault, the first fault is that of the keys behind it
pub past_new : {X : Type 0} (text : X → Reference) (r : RollType) (s : KeySetState) (olds before : List Reference) (rs : List X) (i : ℕ) (x : X) (q : Reference) → i < length rs → x ≡ get_or rs i x → q ≡ text x → before ≡ map text (take i rs) → new_fault r s olds before q ≡ None → first_new_fault r s olds (map text (take (i + 1) rs)) (map text (drop (i + 1) rs)) ≡ first_new_fault r s olds (map text (take i rs)) (map text (drop i rs))
past_new text r s olds before rs i x q h there named b none =
    let behind = map text (drop (i + 1) rs) in
    let first = map text (take i rs) in
    let said : text (get_or rs i x) ≡ q = ap text (sym there) ∙ sym named in
    let more = ap (map text) (take_one rs i (get_or rs i x) (sym (slice_get-get_or rs i x h))) ∙ map_snoc text (take i rs) (get_or rs i x) ∙ ap (λ p. first ++ p ∷ []) said in
    let left : map text (drop i rs) ≡ q ∷ behind = ap (map text) (drop-cons rs i x h) ∙ (λ j. said j ∷ map text (drop (sym (add-one i) j) rs)) in
    ap (λ qs. first_new_fault r s olds qs behind) more
    ∙ sym (ap (first_new_fault r s olds first) left
    ∙ ap (λ f. elim f [ Some e ↦ Some e | None ↦ first_new_fault r s olds (first ++ q ∷ []) behind ]) (ap (λ qs. new_fault r s olds qs q) (sym b) ∙ none))
