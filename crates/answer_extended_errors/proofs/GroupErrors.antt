-- Groups that were gathered of a message prove no verdict for the reason for which its RRsets prove none.
use Rattle.std.proofs.Common.{◌≡◌, ℕ, suc, Bool, true, false, not, ◌&&◌, ◌||◌, ◌==◌, List, [], ◌∷◌, length, map, refl, sym, ap, ◌∙◌, ⊎_elim, inl, arith}
use Rattle.std.specs.Prelude.{Option, Some, None, is_some, if◌then◌else◌}
use Rattle.std.specs.List.{AllByRecursion, list_any}
use Rattle.std.specs.Cow.{cow_slice_items}
use Rattle.std.proofs.lemmas.List.{length-map}
use Rattle.std.proofs.lemmas.Bool.{and_from, and_parts, eq-eqb, eqb-true, false_from_ne_true, false≢true}
use Rattle.definitions.specs.Limits.{pointer_limit}
use Rattle.definitions.specs.Name.{Name, at_or_above, low, same}
use Rattle.messages.specs.Message.{Asked, Spelled}
use Rattle.messages.proofs.Lists.{Has, all_at, any_from, both_ways, found, list_any-map}
use Rattle.messages.proofs.ZoneNames.{labels_eq-same, same_labels}
use Rattle.answer_terms.specs.HashOwner.{spells_hash}
use Rattle.answer_judge_facts.specs.Marked.{AreGathered, IsAlone, IsGathered, data_in, is_chain, is_chain_type, is_of, marked, stands_alone}
use Rattle.answer_judge_facts.specs.Sought.{is_alone}
use Rattle.answer_judge_facts.specs.Verified.{Trusting, is_hash_alone, is_verified, one_known, rrset_in}
use Rattle.answer_judge_facts.specs.declared.groups.SignedRrset.{SignedRrset}
use Rattle.answer_judge_facts.proofs.JudgeCase.{is_verified-owner, rrset_in-owner}
use Rattle.answer_judge_facts.proofs.JudgeFacts.{alone_owner, chain_cases, chain_type, group_alone}
use Rattle.answer_judge_facts.proofs.JudgeMarks.{marked_is, or_no}
use Rattle.answer_judge_facts.proofs.JudgeSought.{record_there}
use Rattle.answer_extended_errors.specs.Extended.{RrsetTest, is_chain_rrset, is_of_rrset, is_of_verified, is_rrset_asked, resting_on, is_rrset_rested_on, signatures_of, unproven_under, untimely}
use Rattle.answer_extended_errors.specs.Groups.{groups_error, is_among, is_marked}
use Rattle.answer_extended_errors.specs.declared.error.ExtendedError.{ExtendedError}
use Rattle.answer_extended_errors.specs.declared.error.ExtendedError.TheVariants as e

-- an RRset of a message that has a record, not yet verified
pub record IsThere (m : List ℕ) (rs : List Spelled) (g : SignedRrset) : Type 0 where
  pub data_are : data_in g ≡ rrset_in pointer_limit m rs g.owner g.rtype
  pub filled : rrset_in pointer_limit m rs g.owner g.rtype ≡ [] → ⊥
  pub unverified : g.verified ≡ None

-- the RRsets of a message that pass a test
pub record AreThose (m : List ℕ) (rs : List Spelled) (is : RrsetTest) (gs : List SignedRrset) : Type 0 where
  pub are : (o : Name) (t : ℕ) → is o t ≡ list_any (is_of o t) gs
  pub each : AllByRecursion (IsThere m rs) gs

and_no : (b : Bool) → (b && false) ≡ false
and_no true = refl
and_no false = refl

-- where no RRset passes, no record is of one
none_passes : (is : RrsetTest) (rs : List Spelled) → ((o : Name) (t : ℕ) → is o t ≡ false) → list_any (is_of_rrset is) rs ≡ false
none_passes is [] h = refl
none_passes is (r ∷ rs) h = λ i. (ap (λ b. (r.class == 1) && b) (h r.owner r.rtype) ∙ and_no (r.class == 1)) i || none_passes is rs h i

-- what is verified of an RRset is the same under its owner in another case
alike_verified : (w : Trusting) (m : List ℕ) (rs : List Spelled) (a b : Name) (t u : ℕ) → low a ≡ low b → t ≡ u
    → is_verified w pointer_limit m rs a t (rrset_in pointer_limit m rs a t) ≡ is_verified w pointer_limit m rs b u (rrset_in pointer_limit m rs b u)
alike_verified w m rs a b t u h k =
    ap (λ n. is_verified w pointer_limit m rs a n (rrset_in pointer_limit m rs a n)) k
    ∙ ap (is_verified w pointer_limit m rs a u) (rrset_in-owner pointer_limit m rs a b u h)
    ∙ is_verified-owner w pointer_limit m rs a b u (rrset_in pointer_limit m rs b u) h

abbrev pub error_by : Bool → Option ExtendedError → Bool → ExtendedError
error_by none late verified =
    if none then e.NsecMissing
    else elim late [
      | Some error ↦ error
      | None ↦ if verified then e.IncompleteDenial else e.DnssecBogus
    ]

module _ (w : Trusting) (m : List ℕ) (rs : List Spelled) (is : RrsetTest) (gs : List SignedRrset) (those : AreThose m rs is gs) where
  -- a record of a group's RRset is of one that passes
  record_of : (g : SignedRrset) → Has gs g → (r : Spelled) × Has rs r × (is_of_rrset is r ≡ true) × (r.rtype ≡ g.rtype) × (low r.owner ≡ low g.owner)
  record_of g i =
      let there = all_at (IsThere m rs) gs g those.each i in
      let f = record_there pointer_limit m rs g.owner g.rtype there.filled in
      let r : Spelled = f.0 in
      let p = and_parts ((r.class == 1) && (r.rtype == g.rtype)) (same r.owner g.owner) f.2 in
      let q = and_parts (r.class == 1) (r.rtype == g.rtype) p.0 in
      let kind : r.rtype ≡ g.rtype = eqb-true r.rtype g.rtype q.1 in
      let own : is_of r.owner r.rtype g ≡ true = and_from _ _ (eq-eqb g.rtype r.rtype (sym kind)) p.1 in
      let passes : is r.owner r.rtype ≡ true = those.are r.owner r.rtype ∙ any_from (is_of r.owner r.rtype) gs g i own in
      (r, f.1, and_from _ _ q.0 passes, kind, same_labels (low r.owner) (low g.owner) p.1)

  group_verified : (g : SignedRrset) → Has gs g → is_marked w m rs g ≡ is_verified w pointer_limit m rs g.owner g.rtype (rrset_in pointer_limit m rs g.owner g.rtype)
  group_verified g i =
      let there = all_at (IsThere m rs) gs g those.each i in
      marked_is w m rs g
      ∙ (λ j. is_some (there.unverified j) || is_verified w pointer_limit m rs g.owner g.rtype (there.data_are j))

  to_record : list_any (is_marked w m rs) gs ≡ true → list_any (is_of_verified w pointer_limit m rs is) rs ≡ true
  to_record h =
      let f = found (is_marked w m rs) gs h in
      let g : SignedRrset = f.0 in
      let r = record_of g f.1 in
      let verified = alike_verified w m rs r.0.owner g.owner r.0.rtype g.rtype r.4 r.3 ∙ sym (group_verified g f.1) ∙ f.2 in
      any_from (is_of_verified w pointer_limit m rs is) rs r.0 r.1 (and_from _ _ r.2 verified)

  to_group : list_any (is_of_verified w pointer_limit m rs is) rs ≡ true → list_any (is_marked w m rs) gs ≡ true
  to_group h =
      let f = found (is_of_verified w pointer_limit m rs is) rs h in
      let r : Spelled = f.0 in
      let p = and_parts (is_of_rrset is r) (is_verified w pointer_limit m rs r.owner r.rtype (rrset_in pointer_limit m rs r.owner r.rtype)) f.2 in
      let q = and_parts (r.class == 1) (is r.owner r.rtype) p.0 in
      let g = found (is_of r.owner r.rtype) gs (sym (those.are r.owner r.rtype) ∙ q.1) in
      let own = and_parts (g.0.rtype == r.rtype) (same r.owner g.0.owner) g.2 in
      let alike = alike_verified w m rs r.owner g.0.owner r.rtype g.0.rtype (same_labels (low r.owner) (low g.0.owner) own.1) (sym (eqb-true g.0.rtype r.rtype own.0)) in
      any_from (is_marked w m rs) gs g.0 g.1 (group_verified g.0 g.1 ∙ sym alike ∙ p.1)

  some_there : (g : SignedRrset) → Has gs g → list_any (is_of_rrset is) rs ≡ true
  some_there g i = let r = record_of g i in any_from (is_of_rrset is) rs r.0 r.1 r.2

no_less : (n : ℕ) → (suc n == 0) ≡ false
no_less n = false_from_ne_true (suc n == 0) (λ t. let e = eqb-true (suc n) 0 t in absurd (omega (arith, e)))

none_there : (m : List ℕ) (rs : List Spelled) (is : RrsetTest) (gs : List SignedRrset) → Trusting → AreThose m rs is gs → (length gs == 0) ≡ not (list_any (is_of_rrset is) rs)
none_there m rs is [] w those = sym (ap not (none_passes is rs those.are))
none_there m rs is (g ∷ gs) w those = no_less (length gs) ∙ sym (ap not (some_there w m rs is (g ∷ gs) those g (inl refl)))

pub groups_rest : (w : Trusting) (m : List ℕ) (rs : List Spelled) (is : RrsetTest) (gs : List SignedRrset) → AreThose m rs is gs → groups_error w m gs rs ≡ resting_on w pointer_limit m rs is
groups_rest w m rs is gs those =
    let none = none_there m rs is gs w those in
    let verified = both_ways (list_any (is_marked w m rs) gs) (list_any (is_of_verified w pointer_limit m rs is) rs) (to_record w m rs is gs those) (to_group w m rs is gs those) in
    let late : untimely w.now (signatures_of pointer_limit m w.apex (is_among gs) rs) ≡ untimely w.now (signatures_of pointer_limit m w.apex is rs) =
    λ i. untimely w.now (signatures_of pointer_limit m w.apex (λ o t. sym (those.are o t) i) rs) in
    λ i. error_by (none i) (late i) (verified i)

-- ---- what is found out of groups

module _ (w : Trusting) (m : List ℕ) (gs : List SignedRrset) (rs : List Spelled) where
  abbrev late : Option ExtendedError
  late = untimely w.now (signatures_of pointer_limit m w.apex (is_among gs) rs)

  pub none_gathered : (length gs == 0) ≡ true → e.NsecMissing ≡ groups_error w m gs rs
  none_gathered none = sym (ap (λ b. error_by b late (list_any (is_marked w m rs) gs)) none)

  pub all_late : (error : ExtendedError) → (length gs == 0) ≡ false → Some error ≡ late → error ≡ groups_error w m gs rs
  all_late error some is = λ i. error_by (sym some i) (is i) (list_any (is_marked w m rs) gs)

  pub in_use : (new : List SignedRrset) (verified : Bool) → (length gs == 0) ≡ false → None ≡ late → new ≡ map (marked w m rs) gs → list_any (λ g. is_some g.verified) new ≡ verified
      → error_by false None verified ≡ groups_error w m gs rs
  in_use new verified some is marks found =
      let one = sym found ∙ ap (list_any (λ (g : SignedRrset). is_some g.verified)) marks ∙ list_any-map (λ (g : SignedRrset). is_some g.verified) (marked w m rs) gs in
      λ i. error_by (sym some i) (is i) (one i)

-- ---- the RRset that was asked for

-- a group without data
pub data_empty : (g : SignedRrset) (empty is : Bool) → empty ≡ (length g.items.items == 0) → empty ≡ is → (length (data_in g) == 0) ≡ is
data_empty g empty is e h = ap (λ n. n == 0) (length-map g.items.items cow_slice_items) ∙ sym e ∙ h

pub asked_is : (m : List ℕ) (rs : List Spelled) (q : Asked) (g : SignedRrset) → g.owner ≡ q.name → g.rtype ≡ q.rtype → data_in g ≡ rrset_in pointer_limit m rs q.name q.rtype → g.verified ≡ None → (length (data_in g) == 0) ≡ false → AreThose m rs (is_rrset_asked q) (g ∷ [])
asked_is m rs q g o t d v some = record {
  are = λ p u. sym ((λ i. ((t i == u) && same p (o i)) || false) ∙ or_no ((q.rtype == u) && same p q.name));
  each = (
    record {
      data_are = d ∙ whole;
      filled = λ none. false≢true (sym some ∙ ap (λ ds. length ds == 0) (d ∙ whole ∙ none));
      unverified = v;
    },
    tt,
  );
}
  where
    whole : rrset_in pointer_limit m rs q.name q.rtype ≡ rrset_in pointer_limit m rs g.owner g.rtype
    whole = λ i. rrset_in pointer_limit m rs (sym o i) (sym t i)

-- ---- RRsets of chains

both_owners : (a b c : Name) → same a b ≡ true → same a c ≡ true → same b c ≡ true
both_owners a b c h k = labels_eq-same (low b) (low c) (sym (same_labels (low a) (low b) h) ∙ same_labels (low a) (low c) k)

-- one that stands alone has a record
not_empty : (m : List ℕ) (apex : Name) (rs : List Spelled) (t : ℕ) (o : Name) → stands_alone m apex rs t o ≡ true → rrset_in pointer_limit m rs o t ≡ [] → ⊥
not_empty m apex rs t o h none = ⊎_elim
    (λ k.
    let one = (and_parts (at_or_above apex o) (length (rrset_in pointer_limit m rs o 47) == 1) k.1).1 in
    let empty : rrset_in pointer_limit m rs o 47 ≡ [] = ap (rrset_in pointer_limit m rs o) (sym k.0) ∙ none in
    false≢true (sym (ap (λ ds. length ds == 1) empty) ∙ one))
    (λ k.
    let one = (and_parts (spells_hash apex o) (one_known (rrset_in pointer_limit m rs o 50)) k.1).1 in
    let empty : rrset_in pointer_limit m rs o 50 ≡ [] = ap (rrset_in pointer_limit m rs o) (sym k.0) ∙ none in
    false≢true (sym (ap one_known empty) ∙ one))
    (chain_cases t (is_alone pointer_limit m apex rs o) (is_hash_alone pointer_limit m apex rs o) h)

module _ (m : List ℕ) (apex : Name) (rs : List Spelled) (gs : List SignedRrset) (a : AreGathered m apex rs rs gs) where
  chain_from : (o : Name) (t : ℕ) → list_any (is_of o t) gs ≡ true → stands_alone m apex rs t o ≡ true
  chain_from o t h =
      let f = found (is_of o t) gs h in
      group_alone m rs apex o t f.0 (all_at (IsAlone m apex rs) gs f.0 a.each f.1) f.2

  chain_to : (o : Name) (t : ℕ) → stands_alone m apex rs t o ≡ true → list_any (is_of o t) gs ≡ true
  chain_to o t h =
      let f = record_there pointer_limit m rs o t (not_empty m apex rs t o h) in
      let r : Spelled = f.0 in
      let q = and_parts ((r.class == 1) && (r.rtype == t)) (same r.owner o) f.2 in
      let k = and_parts (r.class == 1) (r.rtype == t) q.0 in
      let kind : r.rtype ≡ t = eqb-true r.rtype t k.1 in
      let of_chain : is_chain r ≡ true = and_from _ _ (ap is_chain_type kind ∙ chain_type m apex rs t o h) k.0 in
      let stands : stands_alone m apex rs r.rtype r.owner ≡ true = ap (λ n. stands_alone m apex rs n r.owner) kind ∙ sym (alone_owner m rs apex t r.owner o q.1) ∙ h in
      let g = found (is_of r.owner r.rtype) gs (all_at (IsGathered m apex rs gs) rs r a.all f.1 of_chain stands) in
      let p = and_parts (g.0.rtype == r.rtype) (same r.owner g.0.owner) g.2 in
      any_from (is_of o t) gs g.0 g.1 (and_from _ _ (ap (λ n. g.0.rtype == n) (sym kind) ∙ p.0) (both_owners r.owner o g.0.owner q.1 p.1))

each_there : (m : List ℕ) (apex : Name) (rs : List Spelled) (gs : List SignedRrset) → AllByRecursion (IsAlone m apex rs) gs → AllByRecursion (IsThere m rs) gs
each_there m apex rs [] each = tt
each_there m apex rs (g ∷ gs) each = (
  record {
    data_are = (each.0).data_are;
    filled = not_empty m apex rs g.rtype g.owner (each.0).alone;
    unverified = (each.0).unverified;
  },
  each_there m apex rs gs each.1,
)

pub chains_are : (m : List ℕ) (apex : Name) (rs : List Spelled) (gs : List SignedRrset) → AreGathered m apex rs rs gs → AreThose m rs (is_chain_rrset pointer_limit m apex rs) gs
chains_are m apex rs gs a = record {
  are = λ o t. both_ways (stands_alone m apex rs t o) (list_any (is_of o t) gs) (chain_to m apex rs gs a o t) (chain_from m apex rs gs a o t);
  each = each_there m apex rs gs a.each;
}

-- ---- both

-- groups that are those on which an answer rests: of chains' records where the RRset is not there that was asked for
pub unproven_is : (w : Trusting) (m : List ℕ) (rs : List Spelled) (q : Asked) (none : Bool) (gs : List SignedRrset) → (length (rrset_in pointer_limit m rs q.name q.rtype) == 0) ≡ none
    → AreThose m rs (if none then is_chain_rrset pointer_limit m w.apex rs else is_rrset_asked q) gs → groups_error w m gs rs ≡ unproven_under w pointer_limit m rs q
unproven_is w m rs q none gs n those =
    groups_rest w m rs (if none then is_chain_rrset pointer_limit m w.apex rs else is_rrset_asked q) gs those
    ∙ ap (λ (b : Bool). resting_on w pointer_limit m rs (if b then is_chain_rrset pointer_limit m w.apex rs else is_rrset_asked q)) (sym n)
