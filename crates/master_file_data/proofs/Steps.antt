-- Steps of loops over texts, fields and parts: what is read so far, and what is left.
use Rattle.std.proofs.Common.{◌≡◌, ℕ, ◌+◌, ◌<◌, ◌≤◌, List, [], ◌∷◌, ◌++◌, Option, Some, codes, drop, get_or, length, refl, sym, subst, append_assoc, add-one, drop-cons, arith}
use Rattle.std.proofs.lemmas.List.{append-nil, drop_all}
use Rattle.definitions.specs.Name.{Name}
use Rattle.master_file_data.specs.declared.field.Field.{Field}
use Rattle.master_file_data.specs.declared.layout.Part.{Part}
use Rattle.master_file_data.specs.Fields.{text_of}
use Rattle.master_file_data.specs.Parts.{AreParts, AreTexts, IsGeneric, IsGenericData, TakesPart}
use Rattle.master_file_data.specs.Text.{Spells, SpellsCounted, octet_at}

-- one octet more of a text
pub spells_step : (text rest behind out : List ℕ) (o : ℕ) → ((os : List ℕ) → Spells rest os → Spells text (out ++ os)) → octet_at rest ≡ Some (o, behind) → (os : List ℕ) → Spells behind os → Spells text ((out ++ o ∷ []) ++ os)
spells_step text rest behind out o inv e os h =
    subst (λ (l : List ℕ). Spells text l) (sym (append_assoc out (o ∷ []) os)) (inv (o ∷ os) (behind, (e, h)))

-- one text more
pub texts_step : (all left fs : List Field) (f : Field) (out head : List ℕ) → ((os : List ℕ) → AreTexts left os → AreTexts all (out ++ os)) → left ≡ f ∷ fs → SpellsCounted (text_of f) head → (os : List ℕ) → AreTexts fs os → AreTexts all ((out ++ head) ++ os)
texts_step all left fs f out head inv e h os t =
    let whole : AreTexts left (head ++ os) = subst (λ (l : List Field). AreTexts l (head ++ os)) (sym e) (head, os, (h, t, refl)) in
    subst (λ (l : List ℕ). AreTexts all l) (sym (append_assoc out head os)) (inv (head ++ os) whole)

-- one part more
pub parts_step : (all left ps : List Part) (p : Part) (origin : Option Name) (fs rest behind : List Field) (out head : List ℕ) → ((os : List ℕ) → AreParts left origin rest os → AreParts all origin fs (out ++ os)) → left ≡ p ∷ ps → TakesPart p origin rest head behind → (os : List ℕ) → AreParts ps origin behind os → AreParts all origin fs ((out ++ head) ++ os)
parts_step all left ps p origin fs rest behind out head inv e h os t =
    let whole : AreParts left origin rest (head ++ os) = subst (λ (l : List Part). AreParts l origin rest (head ++ os)) (sym e) (head, os, behind, (h, t, refl)) in
    subst (λ (l : List ℕ). AreParts all origin fs l) (sym (append_assoc out head os)) (inv (head ++ os) whole)

-- the whole text
pub spells_all : (text rest out : List ℕ) → ((os : List ℕ) → Spells rest os → Spells text (out ++ os)) → rest ≡ [] → Spells text out
spells_all text rest out inv e = subst (λ (l : List ℕ). Spells text l) (append-nil out) (inv [] e)

-- an item of what is left
pub drop_item : {A : Type 0} (xs : List A) (i : ℕ) (x : A) → i < length xs → x ≡ get_or xs i x → drop i xs ≡ x ∷ drop (i + 1) xs
drop_item {A} xs i x h e =
    let found : drop i xs ≡ get_or xs i x ∷ drop (i + 1) xs = rw (add-one, drop-cons xs i x) in
    subst (λ (y : A). drop i xs ≡ y ∷ drop (i + 1) xs) (sym e) found

pub drop_at : {A : Type 0} (xs : List A) (i : ℕ) (d : A) → i < length xs → drop i xs ≡ get_or xs i d ∷ drop (i + 1) xs
drop_at xs i d h = rw (add-one, drop-cons xs i d)

-- nothing is left
pub none_left : {A : Type 0} (xs : List A) (i : ℕ) → length xs ≤ i → drop i xs ≡ []
none_left xs i h = drop_all i xs h

pub texts_all : (all left : List Field) (out : List ℕ) → ((os : List ℕ) → AreTexts left os → AreTexts all (out ++ os)) → left ≡ [] → AreTexts all out
texts_all all left out inv e =
    let none : AreTexts left [] = subst (λ (l : List Field). AreTexts l []) (sym e) refl in
    subst (λ (l : List ℕ). AreTexts all l) (append-nil out) (inv [] none)

pub parts_all : (all left : List Part) (origin : Option Name) (fs rest : List Field) (out : List ℕ) → ((os : List ℕ) → AreParts left origin rest os → AreParts all origin fs (out ++ os)) → left ≡ [] → rest ≡ [] → AreParts all origin fs out
parts_all all left origin fs rest out inv e none =
    let end : AreParts left origin rest [] = subst (λ (l : List Part). AreParts l origin rest []) (sym e) (none, refl) in
    subst (λ (l : List ℕ). AreParts all origin fs l) (append-nil out) (inv [] end)

-- data of any type
pub generic_data : (fs : List Field) (f g : Field) (os : List ℕ) → 2 ≤ length fs → f ≡ get_or fs 0 f → g ≡ get_or fs 1 g → text_of f ≡ codes "\\#" → IsGeneric g (drop 2 fs) os → IsGenericData fs os
generic_data [] f g os h ef eg t d = absurd (omega arith)
generic_data (a ∷ []) f g os h ef eg t d = absurd (omega arith)
generic_data (a ∷ b ∷ rest) f g os h ef eg t d =
    (subst (λ (x : Field). text_of x ≡ codes "\\#") ef t, subst (λ (x : Field). IsGeneric x rest os) eg d)
