-- The RRset that was asked for, as a given message proves it: with the label count of its source, whichever signature of it
-- is the first that verifies it.
use Rattle.std.proofs.Common.{◌≡◌, ℕ, Bool, true, false, ◌&&◌, ◌||◌, List, [], ◌∷◌, ◌++◌, Option, Some, None, eqb, refl, sym, ap, subst, ◌∙◌, ⊎_elim, inl, inr}
use Rattle.std.specs.Prelude.{if◌then◌else◌}
use Rattle.std.specs.List.{AllByRecursion, list_any}
use Rattle.std.specs.Option.{option_map}
use Rattle.std.proofs.lemmas.Bool.{and_from, and_parts, eqb-true, false≢true, or_parts}
use Rattle.definitions.specs.Name.{Name, labels_eq, low, same}
use Rattle.definitions.specs.Dnskey.{Dnskey}
use Rattle.definitions.specs.Signing.{Fields, label_count}
use Rattle.definitions.specs.Zone.{sorted_data}
use Rattle.denial_laws.specs.Facts.{Rrset}
use Rattle.messages.specs.Message.{Spelled, rrsig_at}
use Rattle.messages.proofs.Lists.{Has, all_fail, all_at}
use Rattle.messages.proofs.ZoneNames.{same_labels}
use Rattle.answer_terms.specs.Told.{TellsGroups, AreRecords, AreSignatures, IsRecord, IsValidSignature, fields_for}
use Rattle.answer_terms.specs.Served.{ServedRrset}
use Rattle.answer_judge_facts.specs.Trusted.{is_signature, signs}
use Rattle.answer_judge_facts.specs.Verified.{Trusting, is_verified, rrset_in, verified_by, verified_rrset, verifies_with}
use Rattle.answer_judge.proofs.GivenGroups.{has_twins, is_rrset}
use Rattle.answer_judge.proofs.GivenRecords.{rrset_given, rrset_here}
use Rattle.answer_judge.proofs.GivenSignatures.{IsSignedBy, verified_given}

-- ---- what holds of each record of a message

pub all_joined : {A : Type 0} (P : A → Type 0) (xs ys : List A) → AllByRecursion P xs → AllByRecursion P ys → AllByRecursion P (xs ++ ys)
all_joined P [] ys h k = k
all_joined P (x ∷ xs) ys h k = (h.0, all_joined P xs ys h.1 k)

module _ (v : Dnskey → List ℕ → List ℕ → Bool) (k : ℕ) (m : List ℕ) (apex : Name) (at life : ℕ) (P : Spelled → Type 0) where
  records_each : (g : ServedRrset) → ((r : Spelled) (d : List ℕ) → IsRecord k m r g.owner g.rtype d → P r) → (rs : List Spelled) (ds : List (List ℕ)) → AreRecords k m rs g ds → AllByRecursion P rs
  records_each g f [] [] h = tt
  records_each g f [] (d ∷ ds) h = absurd h
  records_each g f (r ∷ rs) [] h = absurd h
  records_each g f (r ∷ rs) (d ∷ ds) h = (f r d h.0, records_each g f rs ds h.1)

  no_signatures : (g : ServedRrset) (rs : List Spelled) → AreSignatures v k m rs apex at life g [] → AllByRecursion P rs
  no_signatures g [] h = tt
  no_signatures g (r ∷ rs) h = absurd h

  signatures_each : (g : ServedRrset) → ((key : Dnskey) (r : Spelled) → IsValidSignature v k m r apex at life g key → P r) → (rs : List Spelled) (keys : List Dnskey) → AreSignatures v k m rs apex at life g keys → AllByRecursion P rs
  signatures_each g f [] [] h = tt
  signatures_each g f [] (key ∷ keys) h = absurd h
  signatures_each g f (r ∷ rs) [] h = absurd h
  signatures_each g f (r ∷ rs) (key ∷ keys) h = (f key r h.0, signatures_each g f rs keys h.1)

  signed_each : (g : ServedRrset) (b : Bool) (rs : List Spelled) (keys : List Dnskey) → (b ≡ true → (key : Dnskey) (r : Spelled) → IsValidSignature v k m r apex at life g key → P r) → AreSignatures v k m rs apex at life g (if b then keys else []) → AllByRecursion P rs
  signed_each g true rs keys f h = signatures_each g (f refl) rs keys h
  signed_each g false rs keys f h = no_signatures g rs h

  -- each is a record of an RRset, or a signature of one that is signed
  told_each : (rs : List Spelled) (keys : List Dnskey) (gs : List ServedRrset) → ((g : ServedRrset) → Has gs g → (r : Spelled) (d : List ℕ) → IsRecord k m r g.owner g.rtype d → P r)
      → ((g : ServedRrset) → Has gs g → g.signed ≡ true → (key : Dnskey) (r : Spelled) → IsValidSignature v k m r apex at life g key → P r) → TellsGroups v k m rs apex at life keys gs → AllByRecursion P rs
  told_each rs keys [] f s h = subst (AllByRecursion P) (sym h) tt
  told_each rs keys (g ∷ gs) f s (own, signatures, rest, are, records, signs, more) =
      subst (AllByRecursion P) (sym are)
      (all_joined P (own ++ signatures) rest
      (all_joined P own signatures (records_each g (f g (inl refl)) own g.datas records) (signed_each g g.signed signatures keys (s g (inl refl)) signs))
      (told_each rest keys gs (λ x i. f x (inr i)) (λ x i. s x (inr i)) more))

-- an RRset of records, none of them a signature
abbrev pub is_ordinary : ServedRrset → Type 0
is_ordinary g = eqb g.rtype 46 ≡ false

no_signature : (k : ℕ) (m : List ℕ) (r : Spelled) (g : ServedRrset) (d : List ℕ) → is_ordinary g → IsRecord k m r g.owner g.rtype d → is_signature r ≡ false
no_signature k m r g d n is = ap (λ t. eqb t 46) is.type_is ∙ n

abbrev fields_when : Bool → Option (Fields × List ℕ) → (Fields → List ℕ → Bool) → Bool
fields_when b o passes = elim b [ false ↦ false | true ↦ elim o [ None ↦ false | Some f ↦ passes f.0 f.1 ] ]

-- ---- where no RRset of the owner and the type is signed

-- a signature of another owner or type
other_gate : (c a b s : Bool) → (a && b) ≡ false → (elim (c && b) [ false ↦ false | true ↦ (a && s) ]) ≡ false
other_gate false a b s h = refl
other_gate true a false s h = refl
other_gate true false true s h = refl
other_gate true true true s h = absurd (false≢true (sym h))

module _ (w : Trusting) (k : ℕ) (m : List ℕ) (apex : Name) (at life : ℕ) (o : Name) (t : ℕ) (items : List (List ℕ)) where
  record_verifies_nothing : (g : ServedRrset) (r : Spelled) (d : List ℕ) → is_ordinary g → IsRecord k m r g.owner g.rtype d → verifies_with w k m o t items r ≡ false
  record_verifies_nothing g r d n is =
      ap (λ b. fields_when ((b && eqb r.class 1) && same r.owner o) (rrsig_at k m r) (λ f s. eqb f.covered t && signs w.answers w.apex w.keys w.now o items f s)) (no_signature k m r g d n is)

  signature_verifies_nothing : (g : ServedRrset) (key : Dnskey) (r : Spelled) → is_rrset o t g ≡ false → IsValidSignature w.answers.verifies k m r apex at life g key → verifies_with w k m o t items r ≡ false
  signature_verifies_nothing g key r n is =
      (λ i. fields_when ((is_signature r && eqb r.class 1) && labels_eq (is.owner_is i) (low o)) (is.fields_are i) (λ f s. eqb f.covered t && signs w.answers w.apex w.keys w.now o items f s))
      ∙ other_gate (is_signature r && eqb r.class 1) (eqb g.rtype t) (same g.owner o) (signs w.answers w.apex w.keys w.now o items (fields_for apex at life g key) is.signature) n

  none_first : (rs : List Spelled) → AllByRecursion (λ r. verifies_with w k m o t items r ≡ false) rs → verified_by w k m rs o t items ≡ None
  none_first [] h = refl
  none_first (r ∷ rs) h =
      ap (λ b. elim (elim b as (λ _. Option Fields) [ true ↦ option_map (λ f. f.0) (rrsig_at k m r) | false ↦ None ]) as (λ _. Option Fields) [ None ↦ verified_by w k m rs o t items | Some y ↦ Some y ]) h.0
      ∙ none_first rs h.1

-- the RRset of an owner and a type, where it is signed
abbrev pub is_signed_rrset : Name → ℕ → ServedRrset → Bool
is_signed_rrset o t g = is_rrset o t g && g.signed

not_both : (a b : Bool) → (a && b) ≡ false → b ≡ true → a ≡ false
not_both true b h e = sym e ∙ h
not_both false b h e = refl

pub verified_rrset_missing : (w : Trusting) (k : ℕ) (m : List ℕ) (rs : List Spelled) (apex : Name) (at life : ℕ) (keys : List Dnskey) (gs : List ServedRrset) (o : Name) (t : ℕ) → TellsGroups w.answers.verifies k m rs apex at life keys gs
    → AllByRecursion is_ordinary gs → list_any (is_signed_rrset o t) gs ≡ false → verified_rrset w k m rs o t ≡ None
verified_rrset_missing w k m rs apex at life keys gs o t are plain none =
    let items : List (List ℕ) = rrset_in k m rs o t in
    let unsigned : AllByRecursion (λ g. is_signed_rrset o t g ≡ false) gs = all_fail (is_signed_rrset o t) gs none in
    let each : AllByRecursion (λ r. verifies_with w k m o t items r ≡ false) rs = told_each w.answers.verifies k m apex at life (λ r. verifies_with w k m o t items r ≡ false) rs keys gs
    (λ g i r d is. record_verifies_nothing w k m apex at life o t items g r d (all_at is_ordinary gs g plain i) is)
    (λ g i s key r is. signature_verifies_nothing w k m apex at life o t items g key r (not_both (is_rrset o t g) g.signed (all_at (λ g. is_signed_rrset o t g ≡ false) gs g unsigned i) s) is)
    are in
    ap (option_map (λ f. record { datas = items; labels = f.labels })) (none_first w k m apex at life o t items rs each)

-- ---- where one is

-- a signature of the owner and the type has so many labels
abbrev SaysLabels : ℕ → List ℕ → Name → ℕ → ℕ → Spelled → Type 0
SaysLabels k m o t n r = (f : Fields × List ℕ) → is_signature r ≡ true → same r.owner o ≡ true → rrsig_at k m r ≡ Some f → eqb f.0.covered t ≡ true → f.0.labels ≡ n

some_fields : (f g : Fields × List ℕ) → Some f ≡ Some g → f ≡ g
some_fields f g e = cc

signature_says : (v : Dnskey → List ℕ → List ℕ → Bool) (k : ℕ) (m : List ℕ) (apex : Name) (at life : ℕ) (o : Name) (t n : ℕ) (g : ServedRrset) (key : Dnskey) (r : Spelled) → (is_rrset o t g ≡ true → label_count g.source ≡ n) → IsValidSignature v k m r apex at life g key → SaysLabels k m o t n r
signature_says v k m apex at life o t n g key r labels is f s same_owner reads covered =
    let says : f ≡ (fields_for apex at life g key, is.signature) = some_fields f (fields_for apex at life g key, is.signature) (sym reads ∙ is.fields_are) in
    let type : eqb g.rtype t ≡ true = ap (λ (x : Fields × List ℕ). eqb x.0.covered t) (sym says) ∙ covered in
    let owner : same g.owner o ≡ true = ap (λ x. labels_eq x (low o)) (sym is.owner_is) ∙ same_owner in
    ap (λ (x : Fields × List ℕ). x.0.labels) says ∙ labels (and_from (eqb g.rtype t) (same g.owner o) type owner)

module _ (w : Trusting) (k : ℕ) (m : List ℕ) (o : Name) (t n : ℕ) (items : List (List ℕ)) where
  abbrev rrset_with : Fields → Rrset
  rrset_with f = record { datas = items; labels = f.labels }

  abbrev rrset_one : Rrset
  rrset_one = record { datas = items; labels = n }

  labels_here : (r : Spelled) → SaysLabels k m o t n r → verifies_with w k m o t items r ≡ true → (f : Fields) × ((option_map (λ (x : Fields × List ℕ). x.0) (rrsig_at k m r) ≡ Some f) × (f.labels ≡ n))
  labels_here r says h = go (is_signature r && eqb r.class 1 && same r.owner o) (rrsig_at k m r) refl refl h
    where
      go : (b : Bool) (x : Option (Fields × List ℕ)) → (is_signature r && eqb r.class 1 && same r.owner o) ≡ b → rrsig_at k m r ≡ x → fields_when b x (λ f s. eqb f.covered t && signs w.answers w.apex w.keys w.now o items f s) ≡ true
          → (f : Fields) × ((option_map (λ (x : Fields × List ℕ). x.0) x ≡ Some f) × (f.labels ≡ n))
      go false x g e h = absurd (false≢true h)
      go true None g e h = absurd (false≢true h)
      go true (Some f) g e h =
          let gate = and_parts (is_signature r && eqb r.class 1) (same r.owner o) g in
          let both = and_parts (eqb f.0.covered t) (signs w.answers w.apex w.keys w.now o items f.0 f.1) h in
          (f.0, (refl, says f (and_parts (is_signature r) (eqb r.class 1) gate.0).0 gate.1 e both.0))

  first_labels : (rs : List Spelled) → AllByRecursion (SaysLabels k m o t n) rs → is_verified w k m rs o t items ≡ true → option_map rrset_with (verified_by w k m rs o t items) ≡ Some rrset_one
  first_labels [] each h = absurd (false≢true h)
  first_labels (r ∷ rs) each h = go (verifies_with w k m o t items r) refl h (first_labels rs each.1)
    where
      go : (b : Bool) → verifies_with w k m o t items r ≡ b → (b || is_verified w k m rs o t items) ≡ true → (is_verified w k m rs o t items ≡ true → option_map rrset_with (verified_by w k m rs o t items) ≡ Some rrset_one)
          → option_map rrset_with (elim (elim b as (λ _. Option Fields) [ true ↦ option_map (λ f. f.0) (rrsig_at k m r) | false ↦ None ]) as (λ _. Option Fields) [ None ↦ verified_by w k m rs o t items | Some y ↦ Some y ]) ≡ Some rrset_one
      go true e h later =
          let f = labels_here r each.0 e in
          ap (λ (x : Option Fields). option_map rrset_with (elim x as (λ _. Option Fields) [ None ↦ verified_by w k m rs o t items | Some y ↦ Some y ])) f.1.0
          ∙ ap (λ l. Some (record { datas = items; labels = l })) f.1.1
      go false e h later = later h

-- of RRsets that are apart one is of the owner and the type
one_rrset : (o : Name) (t : ℕ) (gs : List ServedRrset) (g x : ServedRrset) → has_twins gs ≡ false → Has gs g → Has gs x → is_rrset o t g ≡ true → is_rrset o t x ≡ true → g ≡ x
one_rrset o t [] g x alone i j e f = absurd i
one_rrset o t (y ∷ gs) g x alone i j e f =
    let apart = or_parts (list_any (is_rrset y.owner y.rtype) gs) (has_twins gs) alone in
    let others : AllByRecursion (λ z. is_rrset y.owner y.rtype z ≡ false) gs = all_fail (is_rrset y.owner y.rtype) gs apart.0 in
    let unlike : (a b : ServedRrset) → b ≡ y → Has gs a → is_rrset o t a ≡ true → is_rrset o t b ≡ true → ⊥ = λ a b s l p q.
    let pa = and_parts (eqb a.rtype t) (same a.owner o) p in
    let pb = and_parts (eqb b.rtype t) (same b.owner o) q in
    let type : a.rtype ≡ y.rtype = eqb-true a.rtype t pa.0 ∙ sym (eqb-true b.rtype t pb.0) ∙ ap (λ (z : ServedRrset). z.rtype) s in
    let owner : low a.owner ≡ low y.owner = same_labels (low a.owner) (low o) pa.1 ∙ sym (same_labels (low b.owner) (low o) pb.1) ∙ ap (λ (z : ServedRrset). low z.owner) s in
    false≢true (sym (all_at (λ z. is_rrset y.owner y.rtype z ≡ false) gs a others l) ∙ rrset_here y.owner y.rtype a type owner) in
    ⊎_elim
    (λ (s : g ≡ y). ⊎_elim (λ (r : x ≡ y). s ∙ sym r) (λ (l : Has gs x). absurd (unlike x g s l f e)) j)
    (λ (l : Has gs g). ⊎_elim (λ (r : x ≡ y). absurd (unlike g x r l e f)) (λ (m : Has gs x). one_rrset o t gs g x apart.1 l m e f) j)
    i

pub verified_rrset_given : (w : Trusting) (k : ℕ) (m : List ℕ) (rs : List Spelled) (apex : Name) (at life : ℕ) (keys : List Dnskey) (gs : List ServedRrset) (o : Name) (t : ℕ) (g : ServedRrset) (key : Dnskey) → TellsGroups w.answers.verifies k m rs apex at life keys gs → AllByRecursion is_ordinary gs → IsSignedBy w apex at life keys gs g key
    → eqb 46 t ≡ false → has_twins gs ≡ false → sorted_data g.datas ≡ g.datas → g.rtype ≡ t → low g.owner ≡ low o → verified_rrset w k m rs o t ≡ Some (record { datas = g.datas; labels = label_count g.source })
verified_rrset_given w k m rs apex at life keys gs o t g key are plain by other alone sorted f e =
    let n : ℕ = label_count g.source in
    let there : rrset_in k m rs o t ≡ g.datas = rrset_given w.answers.verifies k m rs apex at life keys gs o t g other are alone by.group f e ∙ sorted in
    let labels : (x : ServedRrset) → Has gs x → is_rrset o t x ≡ true → label_count x.source ≡ n = λ x i h. ap (λ (y : ServedRrset). label_count y.source) (one_rrset o t gs x g alone i by.group h (rrset_here o t g f e)) in
    let each : AllByRecursion (SaysLabels k m o t n) rs = told_each w.answers.verifies k m apex at life (SaysLabels k m o t n) rs keys gs
    (λ x i r d is y s _ _ _. absurd (false≢true (sym (no_signature k m r x d (all_at is_ordinary gs x plain i) is) ∙ s)))
    (λ x i s y r is. signature_says w.answers.verifies k m apex at life o t n x y r (labels x i) is)
    are in
    (λ i. option_map (λ (f : Fields). record { datas = there i; labels = f.labels }) (verified_by w k m rs o t (there i)))
    ∙ first_labels w k m o t n g.datas rs each (verified_given w k m rs apex at life keys gs o t g key are by f e)
