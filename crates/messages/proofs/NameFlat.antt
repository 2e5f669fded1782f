-- Names as the octets of their wire form.
use Rattle.std.proofs.Common.{[], ◌≡◌, ℕ, ◌<◌, ◌≤◌, ◌||◌, List, ◌∷◌, ◌++◌, length, drop, refl, sym, ap, ◌∙◌, subst}
use Rattle.std.specs.Prelude.{IfOk, IfSome, IsOk, None, Option, Result, Ok, Err, slice_index_or}
use Rattle.std.specs.Result.{result_ok}
use Rattle.std.specs.List.{list_any}
use Rattle.std.specs.Str.{bytes_eq}
use Rattle.std.proofs.lemmas.List.{drop-append-le}
use Rattle.definitions.specs.Name.{Name, IsName, wire, wire_len}
use Rattle.names_labels.specs.Flat.{labels_in, name_in, IsRun, IsFlat, SpellsName}
use Rattle.names_labels.proofs.Runs.{labels_in-wire, name_in-wire}
use Rattle.names_labels.proofs.Checks.{length-wire, spells_flat}
use Rattle.names_labels.proofs.Rooted.{flat_run, row_spells}
use Rattle.names_flat.proofs.Splits.{read_name}
use Rattle.messages.specs.HandedRr.{has_star}
use Rattle.messages.specs.Star.{begins_with_star}
use Rattle.messages.proofs.NameLaws.{IsName-drop, IsName-star, star_room}

-- octets that are the wire form of a name
pub wire_spells : (bs : List ℕ) (n : Name) → bs ≡ wire n → IsName n → SpellsName bs n
wire_spells bs n e h = record { octets = sym e; name = h }

pub wire_flat : (bs : List ℕ) (n : Name) → bs ≡ wire n → IsName n → IsFlat bs
wire_flat bs n e h = spells_flat bs n (wire_spells bs n e h)

pub wire_run : (bs : List ℕ) (n : Name) → bs ≡ wire n → IsName n → IsRun bs
wire_run bs n e h = flat_run bs (wire_flat bs n e h)

pub wire_labels : (bs : List ℕ) (n : Name) → bs ≡ wire n → labels_in bs ≡ n ++ [] ∷ []
wire_labels bs n e = ap labels_in e ∙ labels_in-wire n

pub drop-rooted : (k : ℕ) (n : Name) → k ≤ length n → drop k (n ++ [] ∷ []) ≡ drop k n ++ [] ∷ []
drop-rooted k n h = drop-append-le k n ([] ∷ []) h

-- what is left of a name's wire form behind some labels
pub suffix_spells : (bs run : List ℕ) (n : Name) (k : ℕ) → k ≤ length n → run ≡ wire n → IsName n → IsRun bs → labels_in bs ≡ drop k (labels_in run) → SpellsName bs (drop k n)
suffix_spells bs run n k h v i r d = row_spells bs (drop k n) r (d ∙ ap (drop k) (wire_labels run n v) ∙ drop-rooted k n h) (IsName-drop k n i)

-- one octet for each of the wire form's
pub row_len : (run : List ℕ) (n : Name) → run ≡ wire n → length run ≡ wire_len n
row_len run n e = ap length e ∙ length-wire n

-- a suffix leaves room for a star
pub suffix_room : (bs : List ℕ) (n : Name) (k : ℕ) → IsName n → 0 < k → k ≤ length n → SpellsName bs (drop k n) → wire_len ((42 ∷ []) ∷ name_in bs) ≤ 255
suffix_room bs n k h a b s = subst (λ x. wire_len ((42 ∷ []) ∷ x) ≤ 255) (sym (read_name bs (drop k n) s)) (star_room k n h a b)

-- a star in front
pub star_octets : (bs start mid run : List ℕ) (n : Name) → start ≡ [] → mid ≡ start ++ 1 ∷ 42 ∷ [] → bs ≡ mid ++ run → run ≡ wire n → bs ≡ wire ((42 ∷ []) ∷ n)
star_octets bs start mid run n z e f g = f ∙ (λ i. (e ∙ ap (λ s. s ++ 1 ∷ 42 ∷ []) z) i ++ g i)

-- the root's label is no star
pub star_rooted : (n : Name) → list_any (bytes_eq (42 ∷ [])) (n ++ [] ∷ []) ≡ has_star n
star_rooted [] = refl
star_rooted (l ∷ n) = ap (λ t. bytes_eq (42 ∷ []) l || t) (star_rooted n)

-- a name with a star in front
pub star_spells : (bs : List ℕ) (n : Name) → bs ≡ wire ((42 ∷ []) ∷ n) → IsName n → wire_len n ≤ 253 → SpellsName bs ((42 ∷ []) ∷ n)
star_spells bs n e h r = record { octets = sym e; name = IsName-star n h r }

-- a first label that is a star, or none
pub first_star : (n : Name) → bytes_eq (slice_index_or n 0 []) (42 ∷ []) ≡ begins_with_star n
first_star [] = refl
first_star (l ∷ n) = refl

-- a name that octets spell is the one whose wire form they are
pub one_spelled : (bs : List ℕ) (n m : Name) → SpellsName bs m → bs ≡ wire n → m ≡ n
one_spelled bs n m s w = sym (read_name bs m s) ∙ ap name_in w ∙ name_in-wire n

pub spelled_one : {E : Type 0} (bs : List ℕ) (n : Name) (r : Result Name E) (o : Option Name) → o ≡ result_ok r → IfOk r (SpellsName bs) → bs ≡ wire n → IfSome o (λ m. m ≡ n)
spelled_one bs n (Ok m) o e s w = subst (λ x. IfSome x (λ m. m ≡ n)) (sym e) (one_spelled bs n m s w)
spelled_one bs n (Err f) o e s w = subst (λ x. IfSome x (λ m. m ≡ n)) (sym e) tt

-- what succeeds is something
pub never_none : {A E C : Type 0} (r : Result A E) (o : Option A) → o ≡ result_ok r → IsOk r → o ≡ None → C
never_none (Ok x) o e i z = cc
never_none (Err f) o e i z = cc
