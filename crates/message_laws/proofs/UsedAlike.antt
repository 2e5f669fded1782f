-- RRsets and signatures of messages whose used records are alike.
use Rattle.std.proofs.Common.{◌≡◌, ℕ, Bool, true, false, ◌&&◌, ◌||◌, List, [], ◌∷◌, Option, Some, None, eqb, refl, sym, ap, ◌∙◌}
use Rattle.std.specs.List.{AllZip, filter, filter_map, list_any}
use Rattle.std.specs.Option.{option_map}
use Rattle.std.proofs.lemmas.Bool.{eqb-true, eq-eqb, or_parts, or_right, true≢false}
use Rattle.definitions.specs.Name.{Name, labels_eq, low, same}
use Rattle.definitions.specs.Signing.{Fields}
use Rattle.definitions.specs.Zone.{sorted_data}
use Rattle.denial_laws.specs.NsecRules.{first_some}
use Rattle.messages.specs.Message.{Spelled, canonical_data, rrsig_at}
use Rattle.answer_terms.specs.Alike.{IsLike}
use Rattle.answer_judge_keys.specs.Trusted.{signs}
use Rattle.answer_judge_facts.specs.Verified.{Trusting, datum_of, is_verified, rrset_in, verified_by, verified_rrset, verified_with, verifies_with}
use Rattle.message_laws.specs.SeenAlike.{is_covering, is_used, is_used_type}
use Rattle.message_laws.proofs.Picked.{any_picked, any_zipped, first_picked, first_zipped, some_picked, some_zipped}

-- a record that is not used is of no type that is
pub of_no_used : (t u : ℕ) (r : Spelled) → is_used_type t u ≡ true → is_used t r ≡ false → eqb r.rtype u ≡ false
of_no_used t u r used unused = go (eqb r.rtype u) refl
  where
    go : (b : Bool) → eqb r.rtype u ≡ b → b ≡ false
    go true e = absurd (true≢false (sym used ∙ ap (is_used_type t) (sym (eqb-true r.rtype u e)) ∙ unused))
    go false e = refl

pub asked_used : (t : ℕ) → is_used_type t t ≡ true
asked_used t = or_right _ (eqb t t) (eq-eqb t t refl)

module _ (k : ℕ) (m n : List ℕ) (t : ℕ) (rs ss : List Spelled) (z : AllZip (IsLike k m n) (filter (is_used t) rs) (filter (is_used t) ss)) where
  -- what only records of one type come to
  by_type : {C : Type 0} (u : ℕ) (none : C) (f g : Spelled → C) → ((r : Spelled) → eqb r.rtype u ≡ false → f r ≡ none) → ((r : Spelled) → eqb r.rtype u ≡ false → g r ≡ none)
      → ((r s : Spelled) → IsLike k m n r s → r.rtype ≡ u → f r ≡ g s) → (r s : Spelled) → IsLike k m n r s → f r ≡ g s
  by_type u none f g a b c r s like = go (eqb r.rtype u) refl
    where
      go : (x : Bool) → eqb r.rtype u ≡ x → f r ≡ g s
      go true e = c r s like (eqb-true r.rtype u e)
      go false e = a r e ∙ sym (b s (ap (λ v. eqb v u) (sym like.type_is) ∙ e))

  pub some_alike : {B : Type 0} (u : ℕ) (f g : Spelled → Option B) → is_used_type t u ≡ true → ((r : Spelled) → eqb r.rtype u ≡ false → f r ≡ None) → ((r : Spelled) → eqb r.rtype u ≡ false → g r ≡ None)
      → ((r s : Spelled) → IsLike k m n r s → r.rtype ≡ u → f r ≡ g s) → filter_map f rs ≡ filter_map g ss
  some_alike u f g used a b c =
      some_picked (is_used t) f rs (λ r e. a r (of_no_used t u r used e))
      ∙ some_zipped (IsLike k m n) f g (filter (is_used t) rs) (filter (is_used t) ss) (by_type u None f g a b c) z
      ∙ sym (some_picked (is_used t) g ss (λ r e. b r (of_no_used t u r used e)))

  pub any_alike : (u : ℕ) (f g : Spelled → Bool) → is_used_type t u ≡ true → ((r : Spelled) → eqb r.rtype u ≡ false → f r ≡ false) → ((r : Spelled) → eqb r.rtype u ≡ false → g r ≡ false)
      → ((r s : Spelled) → IsLike k m n r s → r.rtype ≡ u → f r ≡ g s) → list_any f rs ≡ list_any g ss
  any_alike u f g used a b c =
      any_picked (is_used t) f rs (λ r e. a r (of_no_used t u r used e))
      ∙ any_zipped (IsLike k m n) f g (filter (is_used t) rs) (filter (is_used t) ss) (by_type u false f g a b c) z
      ∙ sym (any_picked (is_used t) g ss (λ r e. b r (of_no_used t u r used e)))

  pub first_alike : {B : Type 0} (u : ℕ) (f g : Spelled → Option B) → is_used_type t u ≡ true → ((r : Spelled) → eqb r.rtype u ≡ false → f r ≡ None) → ((r : Spelled) → eqb r.rtype u ≡ false → g r ≡ None)
      → ((r s : Spelled) → IsLike k m n r s → r.rtype ≡ u → f r ≡ g s) → first_some f rs ≡ first_some g ss
  first_alike u f g used a b c =
      first_picked (is_used t) f rs (λ r e. a r (of_no_used t u r used e))
      ∙ first_zipped (IsLike k m n) f g (filter (is_used t) rs) (filter (is_used t) ss) (by_type u None f g a b c) z
      ∙ sym (first_picked (is_used t) g ss (λ r e. b r (of_no_used t u r used e)))

  -- ---- RRsets

  abbrev datum_when : Bool → Option (List ℕ) → Option (List ℕ)
  datum_when b d = elim b [ true ↦ d | false ↦ None ]

  never : (c s : Bool) → ((c && false) && s) ≡ false
  never true s = refl
  never false s = refl

  no_datum : (q : List ℕ) (o : Name) (u : ℕ) (r : Spelled) → eqb r.rtype u ≡ false → datum_of k q o u r ≡ None
  no_datum q o u r e =
      ap (λ b. datum_when (eqb r.class 1 && b && same r.owner o) (canonical_data k q r)) e
      ∙ ap (λ b. datum_when b (canonical_data k q r)) (never (eqb r.class 1) (same r.owner o))

  datum_alike : (o : Name) (u : ℕ) (r s : Spelled) → IsLike k m n r s → datum_of k m o u r ≡ datum_of k n o u s
  datum_alike o u r s like = λ i. datum_when (eqb (like.class_is i) 1 && eqb (like.type_is i) u && labels_eq (like.owner_is i) (low o)) (like.data_are i)

  pub rrset_alike : (o : Name) (u : ℕ) → is_used_type t u ≡ true → rrset_in k m rs o u ≡ rrset_in k n ss o u
  rrset_alike o u used =
      ap sorted_data (some_alike u (datum_of k m o u) (datum_of k n o u) used (no_datum m o u) (no_datum n o u) (λ r s like is. datum_alike o u r s like))

  -- ---- signatures

  module _ (w : Trusting) (o : Name) (u : ℕ) (items : List (List ℕ)) where
    abbrev says : Option (Fields × List ℕ) → Bool
    says x = elim x [ None ↦ false | Some f ↦ eqb f.0.covered u && signs w.answers w.apex w.keys w.now o items f.0 f.1 ]

    abbrev says_when : Bool → Option (Fields × List ℕ) → Bool
    says_when b x = elim b [ false ↦ false | true ↦ says x ]

    no_signature : (q : List ℕ) (r : Spelled) → eqb r.rtype 46 ≡ false → verifies_with w k q o u items r ≡ false
    no_signature q r e = ap (λ b. says_when (b && eqb r.class 1 && same r.owner o) (rrsig_at k q r)) e

    signature_alike : (r s : Spelled) → IsLike k m n r s → r.rtype ≡ 46 → verifies_with w k m o u items r ≡ verifies_with w k n o u items s
    signature_alike r s like is =
        let sig = like.signature_is is in
        λ i. says_when (eqb (like.type_is i) 46 && eqb (like.class_is i) 1 && labels_eq (like.owner_is i) (low o)) (sig i)

    pub verified_alike : is_verified w k m rs o u items ≡ is_verified w k n ss o u items
    verified_alike = any_alike 46 (verifies_with w k m o u items) (verifies_with w k n o u items) refl (no_signature m) (no_signature n) signature_alike

    abbrev fields_when : Bool → Option (Fields × List ℕ) → Option Fields
    fields_when b x = elim b [ true ↦ option_map (λ f. f.0) x | false ↦ None ]

    no_fields : (q : List ℕ) (r : Spelled) → eqb r.rtype 46 ≡ false → verified_with w k q o u items r ≡ None
    no_fields q r e = ap (λ b. fields_when b (rrsig_at k q r)) (no_signature q r e)

    fields_alike : (r s : Spelled) → IsLike k m n r s → r.rtype ≡ 46 → verified_with w k m o u items r ≡ verified_with w k n o u items s
    fields_alike r s like is =
        let sig = like.signature_is is in
        λ i. fields_when (signature_alike r s like is i) (sig i)

    pub first_verified : verified_by w k m rs o u items ≡ verified_by w k n ss o u items
    first_verified = first_alike 46 (verified_with w k m o u items) (verified_with w k n o u items) refl (no_fields m) (no_fields n) fields_alike

  -- the RRset that was asked for
  pub asked_alike : (w : Trusting) (o : Name) → verified_rrset w k m rs o t ≡ verified_rrset w k n ss o t
  asked_alike w o =
      let items = rrset_alike o t (asked_used t) in
      λ i. option_map (λ (f : Fields). record { datas = items i; labels = f.labels }) ((first_verified w o t (rrset_in k m rs o t) ∙ ap (verified_by w k n ss o t) items) i)

  -- ---- signatures that cover a type

  abbrev covers_when : Bool → ℕ → Option (Fields × List ℕ) → Bool
  covers_when b u x = b && elim x [ None ↦ false | Some f ↦ eqb f.0.covered u ]

  no_covering : (q : List ℕ) (u : ℕ) (r : Spelled) → eqb r.rtype 46 ≡ false → is_covering k q u r ≡ false
  no_covering q u r e = ap (λ b. covers_when b u (rrsig_at k q r)) e

  pub covering_alike : (u : ℕ) → list_any (is_covering k m u) rs ≡ list_any (is_covering k n u) ss
  covering_alike u =
      any_alike 46 (is_covering k m u) (is_covering k n u) refl (no_covering m u) (no_covering n u)
      (λ r s like is. let sig = like.signature_is is in λ i. covers_when (eqb (like.type_is i) 46) u (sig i))

-- ---- where no signature covers a type

module _ (w : Trusting) (k : ℕ) (q : List ℕ) (o : Name) (u : ℕ) (items : List (List ℕ)) where
  abbrev told : Option (Fields × List ℕ) → Bool
  told x = elim x [ None ↦ false | Some f ↦ eqb f.0.covered u && signs w.answers w.apex w.keys w.now o items f.0 f.1 ]

  abbrev told_when : Bool → Option (Fields × List ℕ) → Bool
  told_when b x = elim b [ false ↦ false | true ↦ told x ]

  untold : (b : Bool) (x : Option (Fields × List ℕ)) → told x ≡ false → told_when b x ≡ false
  untold true x e = e
  untold false x e = refl

  not_told : (b c s : Bool) (x : Option (Fields × List ℕ)) → (b && elim x as (λ _. Bool) [ None ↦ false | Some f ↦ eqb f.0.covered u ]) ≡ false → told_when (b && c && s) x ≡ false
  not_told false c s x e = refl
  not_told true c s None e = untold (true && c && s) None refl
  not_told true c s (Some f) e = untold (true && c && s) (Some f) (ap (λ b. b && signs w.answers w.apex w.keys w.now o items f.0 f.1) e)

  no_fields_of : (r : Spelled) → is_covering k q u r ≡ false → verified_with w k q o u items r ≡ None
  no_fields_of r e =
      ap (λ b. elim b as (λ _. Option Fields) [ true ↦ option_map (λ f. f.0) (rrsig_at k q r) | false ↦ None ])
      (not_told (eqb r.rtype 46) (eqb r.class 1) (same r.owner o) (rrsig_at k q r) e)

  none_of : (xs : List Spelled) → list_any (is_covering k q u) xs ≡ false → first_some (verified_with w k q o u items) xs ≡ None
  none_of [] e = refl
  none_of (x ∷ xs) e =
      let p = or_parts (is_covering k q u x) (list_any (is_covering k q u) xs) e in
      ap (λ y. elim y as (λ _. Option Fields) [ None ↦ first_some (verified_with w k q o u items) xs | Some f ↦ Some f ]) (no_fields_of x p.0) ∙ none_of xs p.1

-- nothing verifies an RRset of it
pub none_verified : (w : Trusting) (k : ℕ) (q : List ℕ) (xs : List Spelled) (o : Name) (u : ℕ) (items : List (List ℕ)) → list_any (is_covering k q u) xs ≡ false → verified_by w k q xs o u items ≡ None
none_verified w k q xs o u items e = none_of w k q o u items xs e

pub no_rrset : (w : Trusting) (k : ℕ) (q : List ℕ) (xs : List Spelled) (o : Name) (u : ℕ) → list_any (is_covering k q u) xs ≡ false → verified_rrset w k q xs o u ≡ None
no_rrset w k q xs o u e = ap (option_map (λ (f : Fields). record { datas = rrset_in k q xs o u; labels = f.labels })) (none_verified w k q xs o u (rrset_in k q xs o u) e)
