-- Octets in front of others, compared.
use Rattle.std.proofs.Common.{◌≡◌, ℕ, ◌&&◌, true, false, List, [], ◌∷◌, ◌++◌, length, take, drop, map, refl, sym, ap, ◌∙◌}
use Rattle.std.specs.Prelude.{nat_eq}
use Rattle.std.specs.declared.cmp.Ordering.{Ordering}
use Rattle.std.specs.declared.cmp.Ordering.TheVariants.{Less, Equal, Greater}
use Rattle.std.specs.Ordering.{nat_cmp, ordering_then}
use Rattle.std.specs.Cmp.{nat_cmp_total, ranked}
use Rattle.std.specs.Cmp.Lexicographic.{slice_cmp}
use Rattle.std.proofs.lemmas.Bool.{eq-eqb}
use Rattle.std.proofs.lemmas.Cmp.{tied_itself}
use Rattle.std.proofs.lemmas.List.{map-append, take-append-drop}
use Rattle.std.proofs.lemmas.Slice.Eq.{bytes_eq-Decides}
use Rattle.definitions.specs.Name.{Name, Label, low, wire}
use Rattle.names_wire.specs.Label.{wire_label}
use Rattle.names_labels.specs.Flat.{spelled}
use Rattle.names_labels.specs.Order.{in_case}
use Rattle.names_labels.specs.declared.order.Case.TheVariants.{Lowered}
use Rattle.names_labels.proofs.Checks.{spelled-push}
use Rattle.names_labels.proofs.Runs.{spelled-append}
use Rattle.names_rdata.proofs.Names.{lowered_is_wire}
use lib.Pointwise.{pointwise}

-- the same octets in front of both decide nothing
pub same_front : (s a b : List ℕ) → slice_cmp nat_cmp (s ++ a) (s ++ b) ≡ slice_cmp nat_cmp a b
same_front [] a b = refl
same_front (x ∷ s) a b = rw (tied_itself nat_cmp_total x) (same_front s a b)

-- where octets stand in front, the rest is behind them
pub in_front : (w rest behind : List ℕ) → pointwise nat_eq (take (length w) rest) w ≡ true → behind ≡ drop (length w) rest → rest ≡ w ++ behind
in_front w rest behind h d =
    sym (take-append-drop (length w) rest) ∙ (λ i. (bytes_eq-Decides (take (length w) rest) w).0 h i ++ sym d i)

-- octets that don't stand in front of others differ from them, whatever is behind
pub not_in_front : (w rest behind : List ℕ) → pointwise nat_eq (take (length w) rest) w ≡ false → slice_cmp nat_cmp (w ++ behind) rest ≡ slice_cmp nat_cmp w rest
not_in_front [] rest behind h = cc
not_in_front (x ∷ w) [] behind h = refl
not_in_front (x ∷ w) (y ∷ rest) behind h = go (λ k. not_in_front w rest behind k) (nat_cmp x y) refl
  where
    go : (pointwise nat_eq (take (length w) rest) w ≡ false → slice_cmp nat_cmp (w ++ behind) rest ≡ slice_cmp nat_cmp w rest) → (o : Ordering) → nat_cmp x y ≡ o → ordering_then o (slice_cmp nat_cmp (w ++ behind) rest) ≡ ordering_then o (slice_cmp nat_cmp w rest)
    go further Less e = refl
    go further Greater e = refl
    go further Equal e =
        let same : y ≡ x = sym (ranked x y Equal (sym e)) in
        further (ap (λ t. t && pointwise nat_eq (take (length w) rest) w) (sym (eq-eqb y x same)) ∙ h)

-- some octets come behind none
pub some_behind : (r : Name) (t : List ℕ) → slice_cmp nat_cmp (wire r ++ t) [] ≡ Greater
some_behind [] t = refl
some_behind (l ∷ r) t = refl

-- a name in lower case, at one of its labels
pub split_at : (done more labels n : Name) (l : Label) → done ++ (l ∷ more) ≡ labels → labels ≡ n ++ [] ∷ [] → wire (low n) ≡ spelled (map (in_case Lowered) done) ++ (wire_label (in_case Lowered l) ++ spelled (map (in_case Lowered) more))
split_at done more labels n l d e =
    sym (lowered_is_wire labels n e) ∙ ap (λ x. spelled (map (in_case Lowered) x)) (sym d)
    ∙ ap spelled (map-append (in_case Lowered) done (l ∷ more))
    ∙ spelled-append (map (in_case Lowered) done) (in_case Lowered l ∷ map (in_case Lowered) more)

pub one_more : (done : Name) (l : Label) → spelled (map (in_case Lowered) (done ++ l ∷ [])) ≡ spelled (map (in_case Lowered) done) ++ wire_label (in_case Lowered l)
one_more done l = ap spelled (map-append (in_case Lowered) done (l ∷ [])) ∙ spelled-push (map (in_case Lowered) done) (in_case Lowered l)
