-- The times of the signatures that verified groups are those of a message's proof.
use Rattle.std.proofs.Common.{◌≡◌, ℕ, Bool, true, false, not, ◌&&◌, ◌||◌, ◌==◌, List, [], ◌∷◌, map, length, eqb, refl, sym, ap, subst, ◌∙◌, inl, inr}
use Rattle.std.specs.Prelude.{Option, Some, None, is_some}
use Rattle.std.specs.List.{cons_option, filter_map, list_any}
use Rattle.std.specs.Option.{option_map}
use Rattle.std.proofs.lemmas.Bool.{and_from, and_parts, eq-eqb, eqb-true, false_from_ne_true, false≢true, or_cases, or_left}
use Rattle.definitions.specs.Limits.{pointer_limit}
use Rattle.definitions.specs.Name.{Name, labels_eq, low, same}
use Rattle.definitions.specs.Signing.{Fields}
use Rattle.denial_laws.specs.NsecRules.{first_some}
use Rattle.messages.specs.Message.{Spelled, rrsig_at}
use Rattle.messages.proofs.Lists.{Has, all_at, any_from, both_ways, found}
use Rattle.messages.proofs.ZoneNames.{labels_eq-same, same_labels}
use Rattle.answer_judge_keys.specs.Trusted.{is_signature, signs}
use Rattle.answer_judge_facts.specs.Validity.{rests_on}
use Rattle.answer_judge_facts.specs.Marked.{data_in, is_of, is_unlike, marked, or_first, signed_of, times_by, times_in}
use Rattle.answer_judge_facts.specs.Sought.{Sought, answer_sought, is_alone}
use Rattle.answer_judge_facts.specs.Times.{Times, are_unlike, proof_times, same_times, times_at, times_of}
use Rattle.answer_judge_facts.specs.Verified.{Trusting, is_hash_alone, is_verified, one_known, rrset_in, verified_by, verifies_with}
use Rattle.answer_judge_facts.specs.declared.groups.SignedRrset.{SignedRrset}
use Rattle.answer_judge_facts.specs.declared.groups.Signed.{Signed}
use Rattle.answer_judge_facts.proofs.JudgeCase.{above-owner, rrset_in-owner, spells-owner, verifies_with-owner}
use Rattle.answer_judge_facts.proofs.JudgeCounted.{AreSought}
use Rattle.answer_judge_facts.proofs.JudgeMarks.{by_is}
use Rattle.answer_judge_facts.proofs.JudgeSought.{record_there}
use Rattle.answer_judge_facts.proofs.KeptItems.{has_from_map, has_map, kept_from, kept_has, mapped, when}

-- ---- unlike times

same_is : (a b : Times) → same_times a b ≡ true → a ≡ b
same_is a b e =
    let p = and_parts (a.inception == b.inception) (a.expiration == b.expiration) e in
    let i = eqb-true a.inception b.inception p.0 in
    let x = eqb-true a.expiration b.expiration p.1 in
    λ j. record { inception = i j; expiration = x j }

is_same : (a : Times) → same_times a a ≡ true
is_same a = and_from _ _ (eq-eqb a.inception a.inception refl) (eq-eqb a.expiration a.expiration refl)

abbrev differs : Times → Times → Bool
differs a b = not (same_times a b)

not_false : (b : Bool) → not b ≡ false → b ≡ true
not_false true e = refl
not_false false e = absurd (false≢true (sym e))

-- it is enough to look beside the first
pub by_first : (t : Times) (ts : List Times) → are_unlike (t ∷ ts) ≡ list_any (differs t) (t ∷ ts)
by_first t ts = both_ways (are_unlike (t ∷ ts)) (list_any (differs t) (t ∷ ts)) down up
  where
    up : list_any (differs t) (t ∷ ts) ≡ true → are_unlike (t ∷ ts) ≡ true
    up h = or_left (list_any (differs t) (t ∷ ts)) (list_any (λ a. list_any (differs a) (t ∷ ts)) ts) h

    go : (b : Bool) → list_any (differs t) (t ∷ ts) ≡ b → are_unlike (t ∷ ts) ≡ true → b ≡ true
    go true e h = refl
    go false e h =
        let alike : (x : Times) → Has (t ∷ ts) x → t ≡ x = λ x i. same_is t x (not_false (same_times t x) (false_from_ne_true (differs t x) (λ k. false≢true (sym e ∙ any_from (differs t) (t ∷ ts) x i k)))) in
        let a = found (λ a. list_any (differs a) (t ∷ ts)) (t ∷ ts) h in
        let b = found (differs a.0) (t ∷ ts) a.2 in
        absurd (false≢true (sym (ap not (is_same t)) ∙ (λ i. differs (alike a.0 a.1 i) (alike b.0 b.1 i)) ∙ b.2))

    down : are_unlike (t ∷ ts) ≡ true → list_any (differs t) (t ∷ ts) ≡ true
    down h = go (list_any (differs t) (t ∷ ts)) refl h

-- neither order nor repetition means anything
within_unlike : (ts us : List Times) → ((t : Times) → Has ts t → Has us t) → are_unlike ts ≡ true → are_unlike us ≡ true
within_unlike ts us sub h =
    let a = found (λ a. list_any (differs a) ts) ts h in
    let b = found (differs a.0) ts a.2 in
    any_from (λ a. list_any (differs a) us) us a.0 (sub a.0 a.1) (any_from (differs a.0) us b.0 (sub b.0 b.1) b.2)

pub same_unlike : (ts us : List Times) → ((t : Times) → Has ts t → Has us t) → ((t : Times) → Has us t → Has ts t) → are_unlike ts ≡ are_unlike us
same_unlike ts us to from = both_ways (are_unlike ts) (are_unlike us) (within_unlike ts us to) (within_unlike us ts from)

pub alike_all : (t : Times) (ts : List Times) → ((x : Times) → Has ts x → x ≡ t) → are_unlike ts ≡ false
alike_all t ts same = false_from_ne_true (are_unlike ts) (λ h.
    let a = found (λ a. list_any (differs a) ts) ts h in
    let b = found (differs a.0) ts a.2 in
    false≢true (sym (ap not (is_same t)) ∙ (λ i. differs (sym (same a.0 a.1) i) (sym (same b.0 b.1) i)) ∙ b.2))

-- ---- groups

abbrev verified_of : SignedRrset → Option Signed
verified_of g = g.verified

abbrev beside : List SignedRrset → Option Signed → Bool
beside gs o = elim o as (λ _. Bool) [ None ↦ false | Some s ↦ list_any (is_unlike s) gs ]

unlike_each : (s : Signed) (gs : List SignedRrset) → list_any (is_unlike s) gs ≡ list_any (differs (times_in s)) (filter_map times_by gs)
unlike_each s [] = refl
unlike_each s (g ∷ gs) = go g.verified (unlike_each s gs)
  where
    go : (v : Option Signed) → list_any (is_unlike s) gs ≡ list_any (differs (times_in s)) (filter_map times_by gs)
        → (elim v as (λ _. Bool) [ None ↦ false | Some x ↦ not (same_times (times_in s) (times_in x)) ] || list_any (is_unlike s) gs) ≡ list_any (differs (times_in s)) (cons_option (option_map times_in v) (filter_map times_by gs))
    go None later = later
    go (Some x) later = ap (λ b. differs (times_in s) (times_in x) || b) later

-- what the first verified group has stands first
abbrev IsFirst : List Times → Option Signed → Type 0
IsFirst ts None = ts ≡ []
IsFirst ts (Some s) = (rest : List Times) × (ts ≡ times_in s ∷ rest)

first_is : (gs : List SignedRrset) → IsFirst (filter_map times_by gs) (first_some verified_of gs)
first_is [] = refl
first_is (g ∷ gs) = go g.verified (first_is gs)
  where
    go : (v : Option Signed) → IsFirst (filter_map times_by gs) (first_some verified_of gs) → IsFirst (cons_option (option_map times_in v) (filter_map times_by gs)) (elim v as (λ _. Option Signed) [ None ↦ first_some verified_of gs | Some s ↦ Some s ])
    go None later = later
    go (Some s) later = (filter_map times_by gs, refl)

pub unlike_groups : (gs : List SignedRrset) (o : Option Signed) → o ≡ first_some verified_of gs → are_unlike (filter_map times_by gs) ≡ beside gs o
unlike_groups gs o e = go o (subst (IsFirst (filter_map times_by gs)) (sym e) (first_is gs))
  where
    go : (o : Option Signed) → IsFirst (filter_map times_by gs) o → are_unlike (filter_map times_by gs) ≡ beside gs o
    go None h = ap are_unlike h
    go (Some s) (rest, h) = ap are_unlike h ∙ by_first (times_in s) rest ∙ sym (unlike_each s gs ∙ ap (list_any (differs (times_in s))) h)

-- ---- signatures that verify

and_no : (b : Bool) → (b && false) ≡ false
and_no true = refl
and_no false = refl

-- none verifies an RRset without a record
nothing_signed : (w : Trusting) (k : ℕ) (m : List ℕ) (o : Name) (t : ℕ) (r : Spelled) → verifies_with w k m o t [] r ≡ false
nothing_signed w k m o t r = go (is_signature r && (r.class == 1) && same r.owner o) (rrsig_at k m r)
  where
    go : (b : Bool) (x : Option (Fields × List ℕ)) → (elim b as (λ _. Bool) [
      | false ↦ false
      | true ↦ elim x as (λ _. Bool) [ None ↦ false | Some f ↦ (f.0.covered == t) && signs w.answers w.apex w.keys w.now o [] f.0 f.1 ]
    ]) ≡ false
    go false x = refl
    go true None = refl
    go true (Some f) = and_no (f.0.covered == t)

nothing_verified : (w : Trusting) (k : ℕ) (m : List ℕ) (o : Name) (t : ℕ) (rs : List Spelled) → is_verified w k m rs o t [] ≡ false
nothing_verified w k m o t [] = refl
nothing_verified w k m o t (r ∷ rs) = λ i. nothing_signed w k m o t r i || nothing_verified w k m o t rs i

pub some_items : (w : Trusting) (k : ℕ) (m : List ℕ) (rs : List Spelled) (o : Name) (t : ℕ) (items : List (List ℕ)) (f : Fields) → verified_by w k m rs o t items ≡ Some f → items ≡ [] → ⊥
some_items w k m rs o t items f e none =
    false≢true (sym (nothing_verified w k m o t rs) ∙ ap (is_verified w k m rs o t) (sym none) ∙ sym (by_is w k m rs o t items) ∙ ap is_some e)

-- the times of the first signature of an RRset of a message
abbrev pub first_times : Trusting → ℕ → List ℕ → List Spelled → Name → ℕ → Option Times
first_times w k m rs o t = option_map times_of (verified_by w k m rs o t (rrset_in k m rs o t))

by-owner : (w : Trusting) (k : ℕ) (m : List ℕ) (rs : List Spelled) (a b : Name) (t : ℕ) (items : List (List ℕ)) → low a ≡ low b → verified_by w k m rs a t items ≡ verified_by w k m rs b t items
by-owner w k m rs a b t items h = λ i. first_some (λ r. elim (verifies_with-owner w k m a b t items r h i) as (λ _. Option Fields) [ true ↦ option_map (λ f. f.0) (rrsig_at k m r) | false ↦ None ]) rs

-- an RRset under its owner in another case is verified by the same signature
pub alike_verified : (w : Trusting) (k : ℕ) (m : List ℕ) (rs : List Spelled) (a b : Name) (t u : ℕ) → low a ≡ low b → t ≡ u
    → verified_by w k m rs a t (rrset_in k m rs a t) ≡ verified_by w k m rs b u (rrset_in k m rs b u)
alike_verified w k m rs a b t u h e =
    by-owner w k m rs a b t (rrset_in k m rs a t) h ∙ ap (verified_by w k m rs b t) (rrset_in-owner k m rs a b t h)
    ∙ ap (λ n. verified_by w k m rs b n (rrset_in k m rs b n)) e

alike_times : (w : Trusting) (k : ℕ) (m : List ℕ) (rs : List Spelled) (a b : Name) (t u : ℕ) → low a ≡ low b → t ≡ u → first_times w k m rs a t ≡ first_times w k m rs b u
alike_times w k m rs a b t u h e = ap (option_map times_of) (alike_verified w k m rs a b t u h e)

-- an RRset that is sought is that of a record
pub sought-owner : (k : ℕ) (m : List ℕ) (apex : Name) (rs : List Spelled) (q : Name) (t : ℕ) (a b : Name) (u : ℕ) → low a ≡ low b → (answer_sought k m apex rs q t).is a u ≡ (answer_sought k m apex rs q t).is b u
sought-owner k m apex rs q t a b u h = λ i.
    ((47 == u) && (above-owner apex a b h i && (length (rrset_in-owner k m rs a b 47 h i) == 1)))
    || ((50 == u) && (spells-owner apex a b h i && one_known (rrset_in-owner k m rs a b 50 h i)))
    || ((t == u) && labels_eq (h i) (low q))

-- its first signature's times are among those of the proof
pub first_used : (w : Trusting) (k : ℕ) (m : List ℕ) (rs : List Spelled) (q : Name) (t : ℕ) (o : Name) (u : ℕ) → (answer_sought k m w.apex rs q t).is o u ≡ true → (f : Fields) → verified_by w k m rs o u (rrset_in k m rs o u) ≡ Some f → Has (proof_times w k m rs q t) (times_of f)
first_used w k m rs q t o u sought f e =
    let r = record_there k m rs o u (some_items w k m rs o u (rrset_in k m rs o u) f e) in
    let p = and_parts ((r.0.class == 1) && (r.0.rtype == u)) (same r.0.owner o) r.2 in
    let c = and_parts (r.0.class == 1) (r.0.rtype == u) p.0 in
    let kind : r.0.rtype ≡ u = eqb-true r.0.rtype u c.1 in
    let owner : low r.0.owner ≡ low o = same_labels (low r.0.owner) (low o) p.1 in
    let here : (answer_sought k m w.apex rs q t).is r.0.owner r.0.rtype ≡ true = sought-owner k m w.apex rs q t r.0.owner o r.0.rtype owner ∙ ap ((answer_sought k m w.apex rs q t).is o) kind ∙ sought in
    kept_has (times_at w k m rs q t) rs r.0 (times_of f) r.1
    (ap (λ b. elim b as (λ _. Option Times) [ true ↦ first_times w k m rs r.0.owner r.0.rtype | false ↦ None ]) (and_from _ _ c.0 here)
    ∙ alike_times w k m rs r.0.owner o r.0.rtype u owner kind
    ∙ ap (option_map times_of) e)

-- whichever RRset is sought, an RRset of keys is not
pub not_of_keys : (k : ℕ) (m : List ℕ) (apex : Name) (rs : List Spelled) (q : Name) (t : ℕ) (o : Name) (u : ℕ) → eqb t 48 ≡ false → (answer_sought k m apex rs q t).is o u ≡ true → eqb u 48 ≡ false
not_of_keys k m apex rs q t o u other h = elim (or_cases (((47 == u) && is_alone k m apex rs o) || ((50 == u) && is_hash_alone k m apex rs o)) ((t == u) && same o q) h) [
  | inl chain ↦ elim (or_cases ((47 == u) && is_alone k m apex rs o) ((50 == u) && is_hash_alone k m apex rs o) chain) [
    | inl link ↦ ap (λ n. eqb n 48) (sym (eqb-true 47 u (and_parts (47 == u) (is_alone k m apex rs o) link).0))
    | inr hashed ↦ ap (λ n. eqb n 48) (sym (eqb-true 50 u (and_parts (50 == u) (is_hash_alone k m apex rs o) hashed).0))
  ]
  | inr asked ↦ ap (λ n. eqb n 48) (sym (eqb-true t u (and_parts (t == u) (same o q) asked).0)) ∙ other
]

-- times of a proof that are not unlike are the same
pub alike_from : (ts : List Times) → are_unlike ts ≡ false → (x y : Times) → Has ts x → Has ts y → x ≡ y
alike_from ts e x y i j = same_is x y (not_false (same_times x y) (false_from_ne_true (differs x y) (λ h. false≢true (sym e ∙ any_from (λ a. list_any (differs a) ts) ts x i (any_from (differs x) ts y j h)))))

-- ---- groups and records

abbrev pub SaysOf : {X : Type 0} → (Fields → X) → (Signed → X) → Type 0
SaysOf of by = (f : Fields) → by (signed_of f) ≡ of f

pub marked_said : {X : Type 0} (of : Fields → X) (by : Signed → X) → SaysOf of by → (v : Option Signed) (o : Option Fields) → v ≡ None → option_map by (or_first v (option_map signed_of o)) ≡ option_map of o
marked_said {X} of by says v o e = ap (λ v. option_map by (or_first v (option_map signed_of o))) e ∙ go o
  where
    go : (o : Option Fields) → option_map by (option_map signed_of o) ≡ option_map of o
    go None = refl
    go (Some f) = ap (λ (x : X). Some x) (says f)

is_own : (g : SignedRrset) → is_of g.owner g.rtype g ≡ true
is_own g = and_from _ _ (eq-eqb g.rtype g.rtype refl) (labels_eq-same (low g.owner) (low g.owner) refl)

module _ (w : Trusting) (m : List ℕ) (rs : List Spelled) (q : Name) (t : ℕ) (gs : List SignedRrset) (a : AreSought (answer_sought pointer_limit m w.apex rs q t) gs) where
  abbrev s : Sought
  s = answer_sought pointer_limit m w.apex rs q t

  -- whatever is taken of what first signatures say
  module _ {X : Type 0} (of : Fields → X) (by : Signed → X) (says : SaysOf of by) where
    abbrev first_said : Name → ℕ → Option X
    first_said o u = option_map of (verified_by w pointer_limit m rs o u (rrset_in pointer_limit m rs o u))

    abbrev said_in : SignedRrset → Option X
    said_in g = option_map by g.verified

    alike_said : (o p : Name) (u v : ℕ) → low o ≡ low p → u ≡ v → first_said o u ≡ first_said p v
    alike_said o p u v h e = ap (option_map of) (alike_verified w pointer_limit m rs o p u v h e)

    group_said : (g : SignedRrset) → Has gs g → said_in (marked w m rs g) ≡ first_said g.owner g.rtype
    group_said g i =
        marked_said of by says g.verified (verified_by w pointer_limit m rs g.owner g.rtype (data_in g)) (all_at (λ (y : SignedRrset). y.verified ≡ None) gs g a.fresh i)
        ∙ ap (λ ds. option_map of (verified_by w pointer_limit m rs g.owner g.rtype ds)) (all_at (λ (y : SignedRrset). is_of g.owner g.rtype y ≡ true → data_in y ≡ rrset_in pointer_limit m rs g.owner g.rtype) gs g (a.datas g.owner g.rtype) i (is_own g))

    -- a record of a group's RRset has what is said of it
    record_said : (g : SignedRrset) → Has gs g → (r : Spelled) → ((r.class == 1) && (r.rtype == g.rtype) && same r.owner g.owner) ≡ true → rests_on of w pointer_limit m rs q t r ≡ first_said g.owner g.rtype
    record_said g i r e =
        let p = and_parts ((r.class == 1) && (r.rtype == g.rtype)) (same r.owner g.owner) e in
        let c = and_parts (r.class == 1) (r.rtype == g.rtype) p.0 in
        let kind : r.rtype ≡ g.rtype = eqb-true r.rtype g.rtype c.1 in
        let own : is_of r.owner r.rtype g ≡ true = and_from _ _ (eq-eqb g.rtype r.rtype (sym kind)) p.1 in
        let gate : ((r.class == 1) && s.is r.owner r.rtype) ≡ true = and_from _ _ c.0 (a.found r.owner r.rtype ∙ any_from (is_of r.owner r.rtype) gs g i own) in
        ap (λ b. elim b as (λ _. Option X) [ true ↦ first_said r.owner r.rtype | false ↦ None ]) gate
        ∙ alike_said r.owner g.owner r.rtype g.rtype (same_labels (low r.owner) (low g.owner) p.1) kind

    pub to_records : (x : X) → Has (filter_map said_in (map (marked w m rs) gs)) x → Has (filter_map (rests_on of w pointer_limit m rs q t) rs) x
    to_records x h =
        let k = kept_from said_in (map (marked w m rs) gs) x h in
        let from = has_from_map (marked w m rs) gs k.0 k.1 in
        let g : SignedRrset = from.0 in
        let said : first_said g.owner g.rtype ≡ Some x = sym (group_said g from.1) ∙ ap said_in (sym from.2) ∙ k.2 in
        let f = mapped of (verified_by w pointer_limit m rs g.owner g.rtype (rrset_in pointer_limit m rs g.owner g.rtype)) x said in
        let r = record_there pointer_limit m rs g.owner g.rtype (some_items w pointer_limit m rs g.owner g.rtype (rrset_in pointer_limit m rs g.owner g.rtype) f.0 f.1) in
        kept_has (rests_on of w pointer_limit m rs q t) rs r.0 x r.1 (record_said g from.1 r.0 r.2 ∙ said)

    pub to_groups : (x : X) → Has (filter_map (rests_on of w pointer_limit m rs q t) rs) x → Has (filter_map said_in (map (marked w m rs) gs)) x
    to_groups x h =
        let k = kept_from (rests_on of w pointer_limit m rs q t) rs x h in
        let r : Spelled = k.0 in
        let there = when ((r.class == 1) && s.is r.owner r.rtype) (first_said r.owner r.rtype) x k.2 in
        let sought = (and_parts (r.class == 1) (s.is r.owner r.rtype) there.0).1 in
        let g = found (is_of r.owner r.rtype) gs (sym (a.found r.owner r.rtype) ∙ sought) in
        let p = and_parts (g.0.rtype == r.rtype) (same r.owner g.0.owner) g.2 in
        let said : said_in (marked w m rs g.0) ≡ Some x =
        group_said g.0 g.1
        ∙ sym (alike_said r.owner g.0.owner r.rtype g.0.rtype (same_labels (low r.owner) (low g.0.owner) p.1) (sym (eqb-true g.0.rtype r.rtype p.0)))
        ∙ there.1 in
        kept_has said_in (map (marked w m rs) gs) (marked w m rs g.0) x (has_map (marked w m rs) gs g.0 g.1) said

  pub times_to_records : (x : Times) → Has (filter_map times_by (map (marked w m rs) gs)) x → Has (proof_times w pointer_limit m rs q t) x
  times_to_records = to_records times_of times_in (λ f. refl)

  pub times_to_groups : (x : Times) → Has (proof_times w pointer_limit m rs q t) x → Has (filter_map times_by (map (marked w m rs) gs)) x
  times_to_groups = to_groups times_of times_in (λ f. refl)

  pub times_verified : (new : List SignedRrset) → new ≡ map (marked w m rs) gs → are_unlike (filter_map times_by new) ≡ are_unlike (proof_times w pointer_limit m rs q t)
  times_verified new n = ap (λ ys. are_unlike (filter_map times_by ys)) n ∙ same_unlike (filter_map times_by (map (marked w m rs) gs)) (proof_times w pointer_limit m rs q t) times_to_records times_to_groups
