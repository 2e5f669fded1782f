-- The records of a type taken one after another from those that are left.
use Rattle.std.proofs.Common.{[], ◌≡◌, ℕ, Bool, true, false, cond, List, ◌∷◌, ◌++◌, map, refl, sym, ap, ◌∙◌, append_assoc}
use Rattle.std.specs.Prelude.{Vec}
use Rattle.std.specs.declared.alloc.Global.{Global}
use Rattle.std.specs.List.{AllByRecursion, filter}
use Rattle.std.proofs.lemmas.Bool.{eqb-true}
use Rattle.std.proofs.lemmas.List.{append-nil, map-append}
use Rattle.definitions.specs.Name.{Name, same}
use Rattle.messages.specs.HandedRr.{HandedRr}
use Rattle.messages.specs.Written.{Written}
use Rattle.answer_terms.specs.GroupView.{all_spelled_by, spelled_by}
use Rattle.answer_terms.specs.Served.{written_of_handed}
use Rattle.answer_zone_records.specs.GroupRecords.{HoldsRrset, record_under}
use Rattle.answer_zone_records.specs.OwnedRecords.{is_of_type}
use Rattle.answer_zone_records.specs.declared.group.GroupRecord.{GroupRecord}
use Rattle.answer_zone_records.proofs.OwnedFacts.{typed_alike}

-- the records of a type, as they are written
abbrev pub spelled_of : Bool → ℕ → Name → List HandedRr → List Written
spelled_of own t owner rs = all_spelled_by own owner (map written_of_handed (filter (is_of_type t) rs))

abbrev pub bytes_of : ℕ → List HandedRr → List (List ℕ)
bytes_of t rs = map (λ r. r.bytes) (filter (is_of_type t) rs)

-- what was taken, and what is left, are all
pub record Taking (own : Bool) (t : ℕ) (all left : List HandedRr) (gs : List GroupRecord) (ds : List (Vec ℕ Global)) : Type 0 where
  pub written : (owner : Name) → map (record_under owner t) gs ++ spelled_of own t owner left ≡ spelled_of own t owner all
  pub canonical : map (λ d. d.items) ds ++ bytes_of t left ≡ bytes_of t all

more_written : (own : Bool) (owner : Name) (r : HandedRr) (ws : List Written) → all_spelled_by own owner (written_of_handed r ∷ ws) ≡ spelled_by own owner r ∷ all_spelled_by own owner ws
more_written true owner r ws = refl
more_written false owner r ws = refl

module _ (own : Bool) (t : ℕ) (all : List HandedRr) where
  pub begins : Taking own t all all [] []
  begins = record { written = λ owner. refl; canonical = refl }

  pub passes : (r : HandedRr) (left : List HandedRr) (gs : List GroupRecord) (ds : List (Vec ℕ Global)) → is_of_type t r ≡ false → Taking own t all (r ∷ left) gs ds → Taking own t all left gs ds
  passes r left gs ds off k = record {
    written = λ owner. ap (λ b. map (record_under owner t) gs ++ all_spelled_by own owner (map written_of_handed (cond b (r ∷ filter (is_of_type t) left) (filter (is_of_type t) left)))) (sym off) ∙ k.written owner;
    canonical = ap (λ b. map (λ d. d.items) ds ++ map (λ r. r.bytes) (cond b (r ∷ filter (is_of_type t) left) (filter (is_of_type t) left))) (sym off) ∙ k.canonical;
  }

  pub takes : (r : HandedRr) (left : List HandedRr) (gs hs : List GroupRecord) (g : GroupRecord) (ds es : List (Vec ℕ Global)) (d : Vec ℕ Global) → is_of_type t r ≡ true
      → hs ≡ gs ++ g ∷ [] → es ≡ ds ++ d ∷ [] → ((owner : Name) → record_under owner r.rtype g ≡ spelled_by own owner r) → d.items ≡ r.bytes
      → Taking own t all (r ∷ left) gs ds → Taking own t all left hs es
  takes r left gs hs g ds es d on pushed put made is k =
      let kind : r.rtype ≡ t = eqb-true r.rtype t on in
      record {
        written = λ owner.
            let W : List Written = spelled_of own t owner left in
            let one : record_under owner t g ≡ spelled_by own owner r = ap (λ n. record_under owner n g) (sym kind) ∙ made owner in
            ap (λ xs. map (record_under owner t) xs ++ W) pushed
            ∙ ap (λ xs. xs ++ W) (map-append (record_under owner t) gs (g ∷ []))
            ∙ append_assoc (map (record_under owner t) gs) (record_under owner t g ∷ []) W
            ∙ ap (λ w. map (record_under owner t) gs ++ w ∷ W) one
            ∙ ap (λ ws. map (record_under owner t) gs ++ ws) (sym (more_written own owner r (map written_of_handed (filter (is_of_type t) left))))
            ∙ ap (λ b. map (record_under owner t) gs ++ all_spelled_by own owner (map written_of_handed (cond b (r ∷ filter (is_of_type t) left) (filter (is_of_type t) left)))) (sym on)
            ∙ k.written owner;
        canonical =
            let B : List (List ℕ) = bytes_of t left in
            ap (λ xs. map (λ d. d.items) xs ++ B) put
            ∙ ap (λ xs. xs ++ B) (map-append (λ d. d.items) ds (d ∷ []))
            ∙ append_assoc (map (λ d. d.items) ds) (d.items ∷ []) B
            ∙ ap (λ b. map (λ d. d.items) ds ++ b ∷ B) is
            ∙ ap (λ b. map (λ d. d.items) ds ++ map (λ r. r.bytes) (cond b (r ∷ filter (is_of_type t) left) (filter (is_of_type t) left))) (sym on)
            ∙ k.canonical;
      }

-- all are taken
pub taken_all : (own : Bool) (t : ℕ) (all : List HandedRr) (gs : List GroupRecord) (ds : List (Vec ℕ Global)) → Taking own t all [] gs ds → (q : Name) → AllByRecursion (λ r. same r.owner q ≡ true) all → HoldsRrset own q t all gs ds
taken_all own t all gs ds k q h = record {
  written = λ owner. written own owner ∙ k.written owner ∙ ap (λ xs. all_spelled_by own owner (map written_of_handed xs)) (typed_alike q t all h);
  canonical = sym (append-nil (map (λ d. d.items) ds)) ∙ k.canonical ∙ ap (map (λ r. r.bytes)) (typed_alike q t all h);
}
  where
    written : (b : Bool) (owner : Name) → map (record_under owner t) gs ≡ map (record_under owner t) gs ++ all_spelled_by b owner []
    written true owner = sym (append-nil (map (record_under owner t) gs))
    written false owner = sym (append-nil (map (record_under owner t) gs))
