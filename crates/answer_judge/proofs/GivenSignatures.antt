-- The signatures of a given message verify its RRsets.
use Rattle.std.proofs.Common.{◌≡◌, ℕ, ◌<◌, Bool, true, false, not, ◌&&◌, ◌||◌, List, [], ◌∷◌, ◌++◌, Option, Some, None, length, eqb, refl, sym, ap, subst, ◌∙◌, ⊎_elim, inl, inr, arith}
use Rattle.std.specs.Prelude.{◌==◌, nat_le, nat_lt, if◌then◌else◌}
use Rattle.std.specs.List.{find}
use Rattle.std.proofs.lemmas.Bool.{and_from, eq-eqb, ne_eqb, or_left}
use Rattle.definitions.specs.Name.{Name, low}
use Rattle.definitions.specs.Dnskey.{Dnskey}
use Rattle.definitions.specs.Signing.{Fields, label_count}
use Rattle.answer_judge_facts.specs.Trusted.{fits_key, is_due, may_expand, signs}
use Rattle.answer_terms.specs.Told.{TellsGroups, AreSignatures, IsValidSignature, fields_for, octets_for}
use Rattle.answer_judge.specs.Meeting.{holds}
use Rattle.messages.specs.Message.{Spelled}
use Rattle.answer_terms.specs.Served.{ServedRrset}
use Rattle.answer_judge_facts.specs.Verified.{Trusting, is_verified, verifies_with}
use Rattle.answer_judge.proofs.GivenLists.{has_left, has_right}
use Rattle.answer_judge_facts.proofs.JudgeCase.{is_verified-owner}
use Rattle.messages.proofs.Lists.{Has, any_from}
use Rattle.messages.proofs.ZoneNames.{labels_eq-same, low-low}

-- ---- a signature of each key

-- a record that is a key's signature of an RRset
pub record Signed (v : Dnskey → List ℕ → List ℕ → Bool) (k : ℕ) (m : List ℕ) (rs : List Spelled) (apex : Name) (at life : ℕ) (g : ServedRrset) (key : Dnskey) : Type 0 where
  pub spelled : Spelled
  pub inside : Has rs spelled
  pub is : IsValidSignature v k m spelled apex at life g key

signed_among : (v : Dnskey → List ℕ → List ℕ → Bool) (k : ℕ) (m : List ℕ) (rs : List Spelled) (apex : Name) (at life : ℕ) (g : ServedRrset) (keys : List Dnskey) (key : Dnskey) → AreSignatures v k m rs apex at life g keys → Has keys key → Signed v k m rs apex at life g key
signed_among v k m [] apex at life g [] key h i = absurd i
signed_among v k m [] apex at life g (x ∷ keys) key h i = absurd h
signed_among v k m (r ∷ rs) apex at life g [] key h i = absurd i
signed_among v k m (r ∷ rs) apex at life g (x ∷ keys) key h i = ⊎_elim
    (λ (e : key ≡ x). record { spelled = r; inside = inl refl; is = subst (IsValidSignature v k m r apex at life g) (sym e) h.0 })
    (λ (later : Has keys key).
    let s : Signed v k m rs apex at life g key = signed_among v k m rs apex at life g keys key h.1 later in
    record { spelled = s.spelled; inside = inr s.inside; is = s.is })
    i

signed_in : (v : Dnskey → List ℕ → List ℕ → Bool) (k : ℕ) (m : List ℕ) (rs : List Spelled) (apex : Name) (at life : ℕ) (keys : List Dnskey) (gs : List ServedRrset) (g : ServedRrset) (key : Dnskey) → TellsGroups v k m rs apex at life keys gs → Has gs g → g.signed ≡ true → Has keys key → Signed v k m rs apex at life g key
signed_in v k m rs apex at life keys [] g key h i s j = absurd i
signed_in v k m rs apex at life keys (x ∷ gs) g key (own, signatures, rest, are, records, signs, more) i s j = ⊎_elim
    (λ (e : g ≡ x).
    let by : AreSignatures v k m signatures apex at life g (if g.signed then keys else []) = subst (λ (y : ServedRrset). AreSignatures v k m signatures apex at life y (if y.signed then keys else [])) (sym e) signs in
    let all : AreSignatures v k m signatures apex at life g keys = subst (λ b. AreSignatures v k m signatures apex at life g (if b then keys else [])) s by in
    let one : Signed v k m signatures apex at life g key = signed_among v k m signatures apex at life g keys key all j in
    record { spelled = one.spelled; inside = subst (λ xs. Has xs one.spelled) (sym are) (has_left (own ++ signatures) rest one.spelled (has_right own signatures one.spelled one.inside)); is = one.is })
    (λ (later : Has gs g).
    let one : Signed v k m rest apex at life g key = signed_in v k m rest apex at life keys gs g key more later s j in
    record { spelled = one.spelled; inside = subst (λ xs. Has xs one.spelled) (sym are) (has_right (own ++ signatures) rest one.spelled one.inside); is = one.is })
    i

-- ---- it verifies

is_some_data : (ds : List (List ℕ)) → 0 < length ds → not (eqb (length ds) 0) ≡ true
is_some_data ds h = ap not (ne_eqb (length ds) 0 (λ e. omega (arith, e, h)))

-- the labels of the RRset's source are those of its owner, or fewer where a wildcard's is expanded
abbrev pub fits_owner : Name → ServedRrset → Bool
fits_owner apex g =
    (label_count g.source == label_count g.owner)
    || (may_expand g.rtype && nat_lt (label_count g.source) (label_count g.owner) && nat_le (length apex) (label_count g.source))

pub fits_equal : (apex : Name) (g : ServedRrset) → label_count g.source ≡ label_count g.owner → fits_owner apex g ≡ true
fits_equal apex g e = or_left (label_count g.source == label_count g.owner) _ (eq-eqb (label_count g.source) (label_count g.owner) e)

due : (w : Trusting) (apex : Name) (at life : ℕ) (g : ServedRrset) (key : Dnskey) → w.apex ≡ apex → fits_owner apex g ≡ true → holds at life w.now ≡ true → is_due w.apex w.now g.owner (fields_for apex at life g key) ≡ true
due w apex at life g key a c h =
    and_from _ _ (and_from _ _ (ap (λ n. fits_owner n g) a ∙ c) h) (labels_eq-same (low (low apex)) (low w.apex) (low-low apex ∙ ap low (sym a)))

abbrev signs_when : Bool → Option Dnskey → (Dnskey → Bool) → Bool
signs_when b o passes = elim b [ false ↦ false | true ↦ elim o [ None ↦ false | Some k ↦ passes k ] ]

signs_by_key : (w : Trusting) (apex : Name) (at life : ℕ) (g : ServedRrset) (key : Dnskey) (signature : List ℕ) → w.apex ≡ apex → 0 < length g.datas → fits_owner apex g ≡ true → holds at life w.now ≡ true → find (fits_key (fields_for apex at life g key)) w.keys ≡ Some key
    → w.answers.verifies key (octets_for apex at life g key) signature ≡ true → signs w.answers w.apex w.keys w.now g.owner g.datas (fields_for apex at life g key) signature ≡ true
signs_by_key w apex at life g key signature a some c h f passes =
    let ready = and_from (not (eqb (length g.datas) 0)) (is_due w.apex w.now g.owner (fields_for apex at life g key)) (is_some_data g.datas some) (due w apex at life g key a c h) in
    (λ i. signs_when (ready i) (f i) (λ k. w.answers.verifies k (octets_for apex at life g key) signature)) ∙ passes

abbrev when_fields : Bool → Option (Fields × List ℕ) → (Fields → List ℕ → Bool) → Bool
when_fields b o passes = elim b [ false ↦ false | true ↦ elim o [ None ↦ false | Some f ↦ passes f.0 f.1 ] ]

verifies_by_key : (w : Trusting) (k : ℕ) (m : List ℕ) (r : Spelled) (apex : Name) (at life : ℕ) (g : ServedRrset) (key : Dnskey) → w.apex ≡ apex → 0 < length g.datas → fits_owner apex g ≡ true → holds at life w.now ≡ true → find (fits_key (fields_for apex at life g key)) w.keys ≡ Some key
    → IsValidSignature w.answers.verifies k m r apex at life g key → verifies_with w k m g.owner g.rtype g.datas r ≡ true
verifies_by_key w k m r apex at life g key a some c h f is =
    let here = and_from _ _ (and_from _ _ (eq-eqb r.rtype 46 is.type_is) (eq-eqb r.class 1 is.class_is)) (labels_eq-same (low r.owner) (low g.owner) is.owner_is) in
    (λ i. when_fields (here i) (is.fields_are i) (λ f signature. eqb f.covered g.rtype && signs w.answers w.apex w.keys w.now g.owner g.datas f signature))
    ∙ and_from _ _ (eq-eqb g.rtype g.rtype refl) (signs_by_key w apex at life g key is.signature a some c h f is.passes)

-- an RRset that is there, signed by a key that is trusted
pub record IsSignedBy (w : Trusting) (apex : Name) (at life : ℕ) (keys : List Dnskey) (gs : List ServedRrset) (g : ServedRrset) (key : Dnskey) : Type 0 where
  pub apex_is : w.apex ≡ apex
  pub group : Has gs g
  pub signed : g.signed ≡ true
  pub some : 0 < length g.datas
  pub fits : fits_owner apex g ≡ true
  pub signer : Has keys key
  pub found : find (fits_key (fields_for apex at life g key)) w.keys ≡ Some key
  pub hold : holds at life w.now ≡ true

pub verified_given : (w : Trusting) (k : ℕ) (m : List ℕ) (rs : List Spelled) (apex : Name) (at life : ℕ) (keys : List Dnskey) (gs : List ServedRrset) (o : Name) (t : ℕ) (g : ServedRrset) (key : Dnskey) → TellsGroups w.answers.verifies k m rs apex at life keys gs → IsSignedBy w apex at life keys gs g key
    → g.rtype ≡ t → low g.owner ≡ low o → is_verified w k m rs o t g.datas ≡ true
verified_given w k m rs apex at life keys gs o t g key are by f e =
    let s : Signed w.answers.verifies k m rs apex at life g key = signed_in w.answers.verifies k m rs apex at life keys gs g key are by.group by.signed by.signer in
    is_verified-owner w k m rs o g.owner t g.datas (sym e) ∙ ap (λ n. is_verified w k m rs g.owner n g.datas) (sym f)
    ∙ any_from (verifies_with w k m g.owner g.rtype g.datas) rs s.spelled s.inside (verifies_by_key w k m s.spelled apex at life g key by.apex_is by.some by.fits by.hold by.found s.is)
