-- One signature record and the RRsets that it may verify.
use Rattle.std.proofs.Common.{◌≡◌, ℕ, suc, Bool, true, false, ◌&&◌, ◌||◌, ◌==◌, List, [], ◌∷◌, map, length, get_or, set, ◌+◌, ◌<◌, ◌≤◌, drop, cond, refl, sym, subst, ap, ◌∙◌}
use Rattle.std.specs.Prelude.{IfSome, Option, Some, None, is_some}
use Rattle.std.specs.Option.{option_map}
use Rattle.answer_judge_facts.specs.declared.groups.Signed.{Signed}
use Rattle.std.specs.List.{list_any, filter}
use Rattle.std.proofs.lemmas.Bool.{and_parts, eq-eqb, eqb-true, false≢true}
use Rattle.definitions.proofs.Members.{both_ways}
use Rattle.definitions.specs.Name.{Name, low, same}
use Rattle.definitions.specs.Signing.{Fields}
use Rattle.definitions.specs.Limits.{pointer_limit}
use Rattle.answer_judge_facts.specs.declared.groups.SignedRrset.{SignedRrset}
use Rattle.answer_judge_keys.specs.Trusted.{is_signature, signs}
use Rattle.messages.specs.Record.{Signature, fields_read, signature_of, spelled}
use Rattle.messages.specs.declared.view.ViewRecord.{ViewRecord}
use Rattle.std.proofs.lemmas.List.{drop_all, set-get_or}
use Rattle.messages.proofs.Lists.{items_from}
use Rattle.answer_judge_facts.proofs.JudgeCase.{signs-signer}
use Rattle.messages.specs.Message.{Spelled, if_true, rrsig_at}
use Rattle.answer_judge_facts.specs.Verified.{Trusting, is_verified, verified_by, verifies_with}
use Rattle.answer_judge_facts.specs.Marked.{data_in, is_of, marked_if, marked, or_first, signed_of}
use Rattle.messages.proofs.ZoneNames.{same_labels, labels_eq-same}
use Rattle.answer_judge_facts.proofs.JudgeMarks.{are_apart, is_like, or_no, or_rest, unmarked, unmarked_by, marked_at, marked_next, marked_done}

gate_class : (a s x : Bool) → elim (a && false && s) as (λ _. Bool) [ false ↦ false | true ↦ x ] ≡ false
gate_class true s x = refl
gate_class false s x = refl

gate_owner : (a c x : Bool) → elim (a && c && false) as (λ _. Bool) [ false ↦ false | true ↦ x ] ≡ false
gate_owner true true x = refl
gate_owner true false x = refl
gate_owner false c x = refl

gate_shut : (b : Bool) → elim b as (λ _. Bool) [ false ↦ false | true ↦ false ] ≡ false
gate_shut true = refl
gate_shut false = refl

pub eq_swap : (a b : ℕ) → (a == b) ≡ (b == a)
eq_swap a b = both_ways (a == b) (b == a) (λ h. eq-eqb b a (sym (eqb-true a b h))) (λ h. eq-eqb a b (sym (eqb-true b a h)))

-- what a record says of data
abbrev says_of : Trusting → Name → ℕ → List (List ℕ) → Option (Fields × List ℕ) → Bool
says_of w owner t items o = elim o [ None ↦ false | Some f ↦ (f.0.covered == t) && signs w.answers w.apex w.keys w.now owner items f.0 f.1 ]

-- whether one record verifies a group
abbrev pub tried : Trusting → List ℕ → Spelled → SignedRrset → Bool
tried w m r g = is_verified w pointer_limit m (r ∷ []) g.owner g.rtype (data_in g)

-- what it says then
abbrev pub gives : Trusting → List ℕ → Spelled → SignedRrset → Option Signed
gives w m r g = option_map signed_of (verified_by w pointer_limit m (r ∷ []) g.owner g.rtype (data_in g))

abbrev given_by : (b : Bool) (o : Option (Fields × List ℕ)) → Option Signed
given_by b o = option_map signed_of (or_rest (elim b as (λ _. Option Fields) [ true ↦ option_map (λ f. f.0) o | false ↦ None ]) None)

gives_none : (w : Trusting) (m : List ℕ) (r : Spelled) (g : SignedRrset) → tried w m r g ≡ false → gives w m r g ≡ None
gives_none w m r g h = ap (λ b. given_by b (rrsig_at pointer_limit m r)) (sym (or_no (verifies_with w pointer_limit m g.owner g.rtype (data_in g) r)) ∙ h)

given_own : (b : Bool) (f : Fields × List ℕ) → given_by b (Some f) ≡ if_true b (signed_of f.0)
given_own true f = refl
given_own false f = refl

gives_own : (w : Trusting) (m : List ℕ) (r : Spelled) (f : Fields × List ℕ) (g : SignedRrset) → rrsig_at pointer_limit m r ≡ Some f → gives w m r g ≡ if_true (tried w m r g) (signed_of f.0)
gives_own w m r f g e =
    let p = verifies_with w pointer_limit m g.owner g.rtype (data_in g) r in
    ap (given_by p) e ∙ given_own p f ∙ ap (λ b. if_true b (signed_of f.0)) (sym (or_no p))

first_kept : (v x : Option Signed) → is_some v ≡ true → v ≡ or_first v x
first_kept (Some s) x h = refl
first_kept None x h = absurd (false≢true h)

first_new : (v x : Option Signed) → is_some v ≡ false → x ≡ or_first v x
first_new None x h = refl
first_new (Some s) x h = absurd (false≢true (sym h))

pub class_other : (w : Trusting) (m : List ℕ) (r : Spelled) (g : SignedRrset) → (r.class == 1) ≡ false → tried w m r g ≡ false
class_other w m r g h =
    (λ i. elim (is_signature r && h i && same r.owner g.owner) as (λ _. Bool) [ false ↦ false | true ↦ says_of w g.owner g.rtype (data_in g) (rrsig_at pointer_limit m r) ] || false)
    ∙ ap (λ b. b || false) (gate_class (is_signature r) (same r.owner g.owner) (says_of w g.owner g.rtype (data_in g) (rrsig_at pointer_limit m r)))

pub no_signature : (w : Trusting) (m : List ℕ) (r : Spelled) (g : SignedRrset) → rrsig_at pointer_limit m r ≡ None → tried w m r g ≡ false
no_signature w m r g h =
    (λ i. elim (is_signature r && (r.class == 1) && same r.owner g.owner) as (λ _. Bool) [ false ↦ false | true ↦ says_of w g.owner g.rtype (data_in g) (h i) ] || false)
    ∙ ap (λ b. b || false) (gate_shut (is_signature r && (r.class == 1) && same r.owner g.owner))

-- no signature record
pub unsigned : (w : Trusting) (m : List ℕ) (r : Spelled) (g : SignedRrset) → is_signature r ≡ false → tried w m r g ≡ false
unsigned w m r g h = (λ i. elim (h i && (r.class == 1) && same r.owner g.owner) as (λ _. Bool) [ false ↦ false | true ↦ says_of w g.owner g.rtype (data_in g) (rrsig_at pointer_limit m r) ] || false)

-- a group of another owner or type than a signature has
pub tried_other : (w : Trusting) (m : List ℕ) (r : Spelled) (f : Fields × List ℕ) → rrsig_at pointer_limit m r ≡ Some f → (g : SignedRrset) → is_of r.owner f.0.covered g ≡ false → tried w m r g ≡ false
tried_other w m r f e g h =
    let k = λ (s : Bool). is_signature r && (r.class == 1) && s in
    let go : (a s : Bool) → (g.rtype == f.0.covered) ≡ a → same r.owner g.owner ≡ s → (a && s) ≡ false → tried w m r g ≡ false = λ a s ea es t. elim a as (λ a. (g.rtype == f.0.covered) ≡ a → (a && s) ≡ false → tried w m r g ≡ false) [
      | false ↦ (λ ea t.
          (λ i. elim (k (same r.owner g.owner)) as (λ _. Bool) [ false ↦ false | true ↦ says_of w g.owner g.rtype (data_in g) (e i) ] || false)
          ∙ (λ i. elim (k (same r.owner g.owner)) as (λ _. Bool) [ false ↦ false | true ↦ (eq_swap f.0.covered g.rtype ∙ ea) i && signs w.answers w.apex w.keys w.now g.owner (data_in g) f.0 f.1 ] || false)
          ∙ ap (λ b. b || false) (gate_shut (k (same r.owner g.owner))))
      | true ↦ (λ ea t.
          (λ i. elim (k ((es ∙ t) i)) as (λ _. Bool) [ false ↦ false | true ↦ says_of w g.owner g.rtype (data_in g) (rrsig_at pointer_limit m r) ] || false)
          ∙ ap (λ b. b || false) (gate_owner (is_signature r) (r.class == 1) (says_of w g.owner g.rtype (data_in g) (rrsig_at pointer_limit m r))))
    ] ea t in
    go (g.rtype == f.0.covered) (same r.owner g.owner) refl refl h

-- groups of one owner and type
pub both_of : (o : Name) (t : ℕ) (g h : SignedRrset) → is_of o t g ≡ true → is_of o t h ≡ true → is_like g h ≡ true
both_of o t g h a b =
    let p = and_parts (g.rtype == t) (same o g.owner) a in
    let q = and_parts (h.rtype == t) (same o h.owner) b in
    let types = eq-eqb g.rtype h.rtype (eqb-true g.rtype t p.0 ∙ sym (eqb-true h.rtype t q.0)) in
    let owners = labels_eq-same (low g.owner) (low h.owner) (sym (same_labels (low o) (low g.owner) p.1) ∙ same_labels (low o) (low h.owner) q.1) in
    (λ i. types i && owners i)

-- a group of the owner and type that a signature has
pub tried_own : (w : Trusting) (m : List ℕ) (r : Spelled) (f : Fields × List ℕ) → rrsig_at pointer_limit m r ≡ Some f → is_signature r ≡ true → (r.class == 1) ≡ true → (g : SignedRrset) → is_of r.owner f.0.covered g ≡ true
    → tried w m r g ≡ signs w.answers w.apex w.keys w.now g.owner (data_in g) f.0 f.1
tried_own w m r f e s c g h =
    let p = and_parts (g.rtype == f.0.covered) (same r.owner g.owner) h in
    let t = eq_swap f.0.covered g.rtype ∙ p.0 in
    let own = p.1 in
    (λ i. elim (s i && c i && own i) as (λ _. Bool) [ false ↦ false | true ↦ says_of w g.owner g.rtype (data_in g) (e i) ] || false)
    ∙ (λ i. (t i && signs w.answers w.apex w.keys w.now g.owner (data_in g) f.0 f.1) || false)
    ∙ or_no (signs w.answers w.apex w.keys w.now g.owner (data_in g) f.0 f.1)

-- nothing is marked by a record that verifies no group
pub untried : (w : Trusting) (m : List ℕ) (r : Spelled) (gs : List SignedRrset) → ((g : SignedRrset) → tried w m r g ≡ false) → gs ≡ map (marked w m (r ∷ [])) gs
untried w m r gs h = sym (unmarked_by (gives w m r) (λ g. gives_none w m r g (h g)) gs)

-- no group has the owner and type of the signature
pub tried_none : (w : Trusting) (m : List ℕ) (r : Spelled) (f : Fields × List ℕ) (gs : List SignedRrset) → rrsig_at pointer_limit m r ≡ Some f → list_any (is_of r.owner f.0.covered) gs ≡ false → gs ≡ map (marked w m (r ∷ [])) gs
tried_none w m r f gs e h = sym (unmarked (is_of r.owner f.0.covered) (gives w m r) (λ g n. gives_none w m r g (tried_other w m r f e g n)) gs h)

-- the group of the signature's owner and type is verified or not
pub tried_at : (w : Trusting) (m : List ℕ) (r : Spelled) (f : Fields × List ℕ) (gs : List SignedRrset) (i : ℕ) (g : SignedRrset) → rrsig_at pointer_limit m r ≡ Some f → are_apart gs ≡ true → i < length gs → g ≡ get_or gs i g → is_of r.owner f.0.covered g ≡ true
    → set gs i (marked_if (gives w m r g) g) ≡ map (marked w m (r ∷ [])) gs
tried_at w m r f gs i g e a h at own = sym (marked_at (is_of r.owner f.0.covered) (gives w m r) (λ g n. gives_none w m r g (tried_other w m r f e g n)) (both_of r.owner f.0.covered) gs i g a h at own)

-- it was verified before
pub tried_again : (w : Trusting) (m : List ℕ) (r : Spelled) (f : Fields × List ℕ) (gs : List SignedRrset) (i : ℕ) (g : SignedRrset) → rrsig_at pointer_limit m r ≡ Some f → are_apart gs ≡ true → i < length gs → g ≡ get_or gs i g → is_of r.owner f.0.covered g ≡ true → is_some g.verified ≡ true
    → set gs i (get_or gs i g) ≡ map (marked w m (r ∷ [])) gs
tried_again w m r f gs i g e a h at own v =
    let same : g ≡ marked_if (gives w m r g) g = (λ j. record { owner = g.owner; rtype = g.rtype; items = g.items; verified = first_kept g.verified (gives w m r g) v j }) in
    ap (set gs i) (sym at ∙ same) ∙ tried_at w m r f gs i g e a h at own

-- it was not, and what the signature says of its data was found out
pub tried_now : (w : Trusting) (m : List ℕ) (r : Spelled) (s : Signature) (gs : List SignedRrset) (i : ℕ) (g : SignedRrset) (v : Option Signed) → rrsig_at pointer_limit m r ≡ Some (signature_of s) → is_signature r ≡ true → (r.class == 1) ≡ true
    → are_apart gs ≡ true → i < length gs → g ≡ get_or gs i g → is_of r.owner (fields_read s).covered g ≡ true → is_some g.verified ≡ false → v ≡ if_true (signs w.answers w.apex w.keys w.now (get_or gs i g).owner (data_in (get_or gs i g)) (fields_read s) s.signature) (signed_of (fields_read s))
    → set gs i (record { owner = (get_or gs i g).owner; rtype = (get_or gs i g).rtype; items = (get_or gs i g).items; verified = v }) ≡ map (marked w m (r ∷ [])) gs
tried_now w m r s gs i g v e sig class a h at own not_yet is =
    let f = signature_of s in
    let t : signs w.answers w.apex w.keys w.now (get_or gs i g).owner (data_in (get_or gs i g)) (fields_read s) s.signature ≡ tried w m r g = ap (λ (y : SignedRrset). signs w.answers w.apex w.keys w.now y.owner (data_in y) (fields_read s) s.signature) (sym at) ∙ sym (signs-signer w.answers w.apex w.keys w.now g.owner (data_in g) s s.signature) ∙ sym (tried_own w m r f e sig class g own) in
    let b : v ≡ or_first g.verified (gives w m r g) = is ∙ ap (λ x. if_true x (signed_of (fields_read s))) t ∙ sym (gives_own w m r f g e) ∙ first_new g.verified (gives w m r g) not_yet in
    (λ j. set gs i (record { owner = (sym at j).owner; rtype = (sym at j).rtype; items = (sym at j).items; verified = b j })) ∙ tried_at w m r f gs i g e a h at own

-- ---- the covered type alone, which is that of the signature where it reads

-- there is none
pub type_unread : (m : List ℕ) (r : Spelled) (t : Option ℕ) → IfSome (rrsig_at pointer_limit m r) (λ f. t ≡ Some f.0.covered) → t ≡ None → rrsig_at pointer_limit m r ≡ None
type_unread m r t is none = go (rrsig_at pointer_limit m r) refl is
  where
    go : (o : Option (Fields × List ℕ)) → rrsig_at pointer_limit m r ≡ o → IfSome o (λ f. t ≡ Some f.0.covered) → rrsig_at pointer_limit m r ≡ None
    go None e k = e
    go (Some f) e k = cc

pub type_read : (m : List ℕ) (r : Spelled) (t : ℕ) (f : Fields × List ℕ) → IfSome (rrsig_at pointer_limit m r) (λ f. Some t ≡ Some f.0.covered) → rrsig_at pointer_limit m r ≡ Some f → t ≡ f.0.covered
type_read m r t f is e = let same : Some t ≡ Some f.0.covered = subst (λ (o : Option (Fields × List ℕ)). IfSome o (λ f. Some t ≡ Some f.0.covered)) e is in cc

-- no group is of it
pub type_none : (w : Trusting) (m : List ℕ) (r : Spelled) (gs : List SignedRrset) (t : ℕ) → IfSome (rrsig_at pointer_limit m r) (λ f. Some t ≡ Some f.0.covered) → list_any (is_of r.owner t) gs ≡ false
    → gs ≡ map (marked w m (r ∷ [])) gs
type_none w m r gs t is h = go (rrsig_at pointer_limit m r) refl is
  where
    go : (o : Option (Fields × List ℕ)) → rrsig_at pointer_limit m r ≡ o → IfSome o (λ f. Some t ≡ Some f.0.covered) → gs ≡ map (marked w m (r ∷ [])) gs
    go None e k = untried w m r gs (λ g. no_signature w m r g e)
    go (Some f) e k = let same : t ≡ f.0.covered = cc in tried_none w m r f gs e (ap (λ (t : ℕ). list_any (is_of r.owner t) gs) (sym same) ∙ h)

-- its group was verified before
pub type_again : (w : Trusting) (m : List ℕ) (r : Spelled) (gs : List SignedRrset) (i : ℕ) (g : SignedRrset) (t : ℕ) → IfSome (rrsig_at pointer_limit m r) (λ f. Some t ≡ Some f.0.covered) → are_apart gs ≡ true → i < length gs → g ≡ get_or gs i g → is_of r.owner t g ≡ true → is_some g.verified ≡ true
    → gs ≡ map (marked w m (r ∷ [])) gs
type_again w m r gs i g t is a h at own v = go (rrsig_at pointer_limit m r) refl is
  where
    go : (o : Option (Fields × List ℕ)) → rrsig_at pointer_limit m r ≡ o → IfSome o (λ f. Some t ≡ Some f.0.covered) → gs ≡ map (marked w m (r ∷ [])) gs
    go None e k = untried w m r gs (λ g. no_signature w m r g e)
    go (Some f) e k =
        let same : t ≡ f.0.covered = cc in
        sym (set-get_or gs i g) ∙ tried_again w m r f gs i g e a h at (ap (λ (t : ℕ). is_of r.owner t g) (sym same) ∙ own) v

-- the groups after one record more
pub after_next : (w : Trusting) (m : List ℕ) (rs : List ViewRecord) (i : ℕ) (r : ViewRecord) (old now new : List SignedRrset) → i < length rs → r ≡ get_or rs i r → new ≡ map (marked w m (spelled r ∷ [])) now
    → map (marked w m (map spelled (drop i rs))) now ≡ map (marked w m (map spelled rs)) old → map (marked w m (map spelled (drop (i + 1) rs))) new ≡ map (marked w m (map spelled rs)) old
after_next w m rs i r old now new h e n inv =
    let rest = map spelled (drop (i + 1) rs) in
    ap (map (marked w m rest)) n ∙ marked_next w m (spelled r) rest now
    ∙ sym (ap (λ ys. map (marked w m (map spelled ys)) now) (items_from rs i r h e)) ∙ inv

-- and after the last
pub after_last : (w : Trusting) (m : List ℕ) (rs : List ViewRecord) (i : ℕ) (old now : List SignedRrset) → length rs ≤ i → map (marked w m (map spelled (drop i rs))) now ≡ map (marked w m (map spelled rs)) old → now ≡ map (marked w m (map spelled rs)) old
after_last w m rs i old now h inv = sym (ap (λ ys. map (marked w m (map spelled ys)) now) (drop_all i rs h) ∙ marked_done w m now) ∙ inv

-- signature records from a place on
pub signatures_next : (rs : List ViewRecord) (i : ℕ) (r : ViewRecord) → i < length rs → r ≡ get_or rs i r → is_signature (spelled r) ≡ true → length (filter is_signature (map spelled (drop i rs))) ≡ suc (length (filter is_signature (map spelled (drop (i + 1) rs))))
signatures_next rs i r h e s = ap (λ ys. length (filter is_signature (map spelled ys))) (items_from rs i r h e) ∙ ap (λ b. length (cond b (spelled r ∷ filter is_signature (map spelled (drop (i + 1) rs))) (filter is_signature (map spelled (drop (i + 1) rs))))) s

pub signatures_same : (rs : List ViewRecord) (i : ℕ) (r : ViewRecord) → i < length rs → r ≡ get_or rs i r → is_signature (spelled r) ≡ false → length (filter is_signature (map spelled (drop i rs))) ≡ length (filter is_signature (map spelled (drop (i + 1) rs)))
signatures_same rs i r h e s = ap (λ ys. length (filter is_signature (map spelled ys))) (items_from rs i r h e) ∙ ap (λ b. length (cond b (spelled r ∷ filter is_signature (map spelled (drop (i + 1) rs))) (filter is_signature (map spelled (drop (i + 1) rs))))) s
