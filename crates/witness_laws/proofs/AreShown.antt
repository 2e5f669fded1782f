-- Each message shows what its zone answers, in whichever case its question is asked.
use Rattle.std.proofs.Common.{◌≡◌, ◌⊎◌, ℕ, Bool, true, false, List, [], ◌∷◌, Option, Some, None, eqb, refl, sym, ap, subst, ◌∙◌, inl, inr}
use Rattle.std.specs.Prelude.{◌==◌, ◌&&◌, if◌then◌else◌}
use Rattle.std.specs.List.{AllByRecursion, find}
use Rattle.std.specs.Option.{option_map}
use Rattle.std.proofs.lemmas.Bool.{false≢true}
use Rattle.definitions.specs.Bitmap.{octet_of, window_count, window_size}
use Rattle.definitions.specs.Dnskey.{Ds}
use Rattle.definitions.specs.Limits.{pointer_limit}
use Rattle.definitions.specs.Name.{IsName, Name, labels_eq, low}
use Rattle.definitions.specs.Zone.{cut}
use Rattle.denial_laws.proofs.ChainBits.{all_at}
use Rattle.messages.proofs.Lists.{some_is}
use Rattle.answer_scheme.specs.Answers.{Answers}
use Rattle.answer_scheme.specs.Moments.{second_of}
use Rattle.answer_judge.specs.Judging.{JudgeInput}
use Rattle.answer_judge_table.specs.Table.{AgreesWith, Checked, Tried, answers_with, is_entry_of, told}
use Rattle.message_laws.specs.Laws.{named}
use Rattle.message_laws.specs.Shown.{IsShown, ShowsKeys}
use Rattle.message_laws.proofs.ShownCase.{shown_in_any_case}
use Rattle.tree_laws.specs.Tree.{refers_to}
use Rattle.evidence_laws.specs.Given.{IsOf, Message, judge_input, message_of}
use Rattle.evidence_laws.specs.Truth.{IsAnchored, SignedZone, zone_of}
use Rattle.walk_laws.specs.Served.{AnswersItself}
use Rattle.walk_laws.specs.Served as served
use Rattle.walk_laws.specs.Shown.{AreShown}
use Rattle.witness_laws.specs.Evidence.{asking, child_answer, evidence, parent_answer}
use Rattle.witness_laws.specs.Signed.{passes}
use Rattle.witness_laws.specs.Zones.{c_s, child, child_ds, p, parent, parent_ds, s, u, y_d, y_e, zones}
use Rattle.witness_laws.proofs.Judged.{asking_for}
use Rattle.witness_laws.proofs.Lookup.{answered}
use Rattle.witness_laws.proofs.Lookup as lookup
use Rattle.witness_laws.proofs.Names.{is_name, name_like}
use Rattle.witness_laws.proofs.OfTree.{true_try}
use Rattle.witness_laws.proofs.Ordered.{u_is}
use Rattle.witness_laws.proofs.Ready.{ready, ready_is}
use Rattle.witness_laws.proofs.Shown.{alias_shown, child_keys, no_ds_shown, parent_keys, redirect_shown, star_shown}
use Rattle.witness_laws.proofs.Tree.{AnchoredAs, AsChild, AsParent, anchored_as, not_child, not_parent}

-- ---- signatures

entry_agrees : (t : Tried) (cs : List Checked) (b : Bool) → AllByRecursion (λ (c : Checked). (passes c.tried ≡ true) × (c.passes ≡ true)) cs → told cs t ≡ Some b → passes t ≡ b
entry_agrees t [] b are e = absurd cc
entry_agrees t (c ∷ cs) b are e = go (is_entry_of t c) refl e (entry_agrees t cs b are.1)
  where
    go : (k : Bool) → is_entry_of t c ≡ k → option_map (λ (x : Checked). x.passes) (if k then Some c else find (is_entry_of t) cs) ≡ Some b → (told cs t ≡ Some b → passes t ≡ b) → passes t ≡ b
    go true alike k rest = true_try t c.tried alike are.0.0 ∙ sym are.0.1 ∙ some_is c.passes b k
    go false other k rest = rest k

agrees : AgreesWith evidence.table passes
unfolding octet_of window_size window_count
agrees t b e = entry_agrees t evidence.table b
    ((refl, refl), ((refl, refl), ((refl, refl), ((refl, refl), ((refl, refl), ((refl, refl), ((refl, refl), ((refl, refl), ((refl, refl), ((refl, refl), ((refl, refl), ((refl, refl), ((refl, refl), tt))))))))))))) e

-- ---- keys

keys_are_shown : (z : SignedZone) (ds : List Ds) (octets : List ℕ) → IsAnchored evidence zones parent z ds → message_of evidence z.apex z.apex 48 ≡ Some octets
    → ShowsKeys (answers_with passes) pointer_limit z.apex ds octets (second_of evidence.at)
keys_are_shown z ds octets anchored there = by (anchored_as z ds anchored) there
  where
    by : AnchoredAs z ds → message_of evidence z.apex z.apex 48 ≡ Some octets → ShowsKeys (answers_with passes) pointer_limit z.apex ds octets (second_of evidence.at)
    by (AsParent is are) found =
        subst (λ (y : SignedZone). ShowsKeys (answers_with passes) pointer_limit y.apex ds octets (second_of evidence.at)) (sym is)
        (subst (λ (x : List Ds). ShowsKeys (answers_with passes) pointer_limit p x octets (second_of evidence.at)) (sym are)
        (subst (λ (x : List ℕ). ShowsKeys (answers_with passes) pointer_limit p (parent_ds ∷ []) x (second_of evidence.at)) (some_is parent_answer octets (subst (λ (y : SignedZone). message_of evidence y.apex y.apex 48 ≡ Some octets) is found))
        (subst (λ (a : Answers). ShowsKeys a pointer_limit p (parent_ds ∷ []) parent_answer 1500) (sym (ready_is passes)) parent_keys)))
    by (AsChild is are) found =
        subst (λ (y : SignedZone). ShowsKeys (answers_with passes) pointer_limit y.apex ds octets (second_of evidence.at)) (sym is)
        (subst (λ (x : List Ds). ShowsKeys (answers_with passes) pointer_limit s x octets (second_of evidence.at)) (sym are)
        (subst (λ (x : List ℕ). ShowsKeys (answers_with passes) pointer_limit s (child_ds ∷ []) x (second_of evidence.at)) (some_is child_answer octets (subst (λ (y : SignedZone). message_of evidence y.apex y.apex 48 ≡ Some octets) is found))
        (subst (λ (a : Answers). ShowsKeys a pointer_limit s (child_ds ∷ []) child_answer 1500) (sym (ready_is passes)) child_keys)))

-- ---- answers

-- what a message of a zone shows, if the zone answers its question, for an address or for DS
pub record ShowsAnswer (z : SignedZone) (ds : List Ds) (keys : List ℕ) (m : Message) : Type 0 where
  pub name_is : IsName m.asked.name
  pub shown : IsShown (ready passes) pointer_limit (judge_input evidence z.apex ds (asking_for m.asked.name m.asked.rtype) keys m.octets) z.version.mode z.version.records

abbrev IfAnswers : SignedZone → List Ds → List ℕ → Message → Type 0
IfAnswers z ds keys m = low m.zone ≡ low z.apex → (m.asked.rtype ≡ 1) ⊎ (m.asked.rtype ≡ 43) → refers_to (zone_of z).zone m.asked.name m.asked.rtype ≡ None → ShowsAnswer z ds keys m

other_kind : {P : Type 0} → (◌≡◌ {A = ℕ} 48 1) ⊎ (◌≡◌ {A = ℕ} 48 43) → P
other_kind (inl e) = absurd (false≢true (ap (λ (n : ℕ). eqb n 1) e))
other_kind (inr e) = absurd (false≢true (ap (λ (n : ℕ). eqb n 43) e))

referred : {P : Type 0} (c : Name) → Some c ≡ None → P
referred c e = absurd cc

abbrev ParentShows : Message → Type 0
ParentShows m = IfAnswers parent (parent_ds ∷ []) parent_answer m

abbrev ChildShows : Message → Type 0
ChildShows m = IfAnswers child (child_ds ∷ []) child_answer m

parent_shows : AllByRecursion ParentShows evidence.messages
parent_shows = (
  (λ e k none. other_kind k),
  (
    (λ e k none. referred s none),
    (
      (λ e k none. referred s none),
      (
        (λ e k none. referred s none),
        (
          (λ e k none. referred u none),
          (
            (λ e k none. record { name_is = u_is; shown = no_ds_shown }),
            ((λ e k none. not_parent e), ((λ e k none. not_parent e), ((λ e k none. not_parent e), ((λ e k none. not_parent e), tt)))),
          ),
        ),
      ),
    ),
  ),
)

child_shows : AllByRecursion ChildShows evidence.messages
child_shows = (
  (λ e k none. not_child e),
  (
    (λ e k none. not_child e),
    (
      (λ e k none. not_child e),
      (
        (λ e k none. not_child e),
        (
          (λ e k none. not_child e),
          (
            (λ e k none. not_child e),
            (
              (λ e k none. other_kind k),
              (
                (λ e k none. record { name_is = is_name c_s refl refl; shown = alias_shown }),
                (
                  (λ e k none. record { name_is = is_name y_d refl refl; shown = redirect_shown }),
                  ((λ e k none. record { name_is = is_name y_e refl refl; shown = star_shown }), tt),
                ),
              ),
            ),
          ),
        ),
      ),
    ),
  ),
)

-- a question for the same name in another case
module _ (z : SignedZone) (ds : List Ds) (keys : List ℕ) (keys_found : message_of evidence z.apex z.apex 48 ≡ Some keys) (all : AllByRecursion (IfAnswers z ds keys) evidence.messages) where
  shows : (n : Name) (t : ℕ) (h : JudgeInput) → (t ≡ 1) ⊎ (t ≡ 43) → AnswersItself z n t → IsOf evidence z.apex ds (asking_for n t) h → IsShown (answers_with passes) pointer_limit h z.version.mode z.version.records
  shows n t h kind itself of =
      let found : lookup.Answers z.apex n t of.answer = answered z.apex n t of.answer of.answer_is in
      let m : Message = found.message in
      let lower : low m.asked.name ≡ low n = found.name_is in
      let refers : refers_to (zone_of z).zone m.asked.name m.asked.rtype ≡ None =
      (λ i. elim (cut (zone_of z).zone (lower i)) as (λ _. Option Name) [ None ↦ None | Some c ↦ if labels_eq c (lower i) && (found.rtype_is i == 43) then None else Some c ]) ∙ itself.1 in
      let one : ShowsAnswer z ds keys m =
      all_at (IfAnswers z ds keys) evidence.messages m all found.there found.zone_is (subst (λ (x : ℕ). (x ≡ 1) ⊎ (x ≡ 43)) (sym found.rtype_is) kind) refers in
      let there : JudgeInput = judge_input evidence z.apex ds (asking_for m.asked.name m.asked.rtype) keys m.octets in
      let spelled : IsShown (ready passes) pointer_limit (named there n) z.version.mode z.version.records =
      shown_in_any_case (ready passes) pointer_limit there z.version.mode z.version.records n lower (name_like n m.asked.name (sym lower) one.name_is) one.shown in
      let is : judge_input evidence z.apex ds (asking_for n m.asked.rtype) keys m.octets ≡ h =
      (λ i. judge_input evidence z.apex ds (asking_for n (found.rtype_is i)) (some_is keys of.keys (sym keys_found ∙ of.keys_are) i) (found.octets_are i)) ∙ sym of.is in
      subst (λ (x : JudgeInput). IsShown (answers_with passes) pointer_limit x z.version.mode z.version.records) is
      (subst (λ (a : Answers). IsShown a pointer_limit (named there n) z.version.mode z.version.records) (sym (ready_is passes)) spelled)

pub are_shown : AreShown passes evidence (asking c_s) zones parent
are_shown = record {
  checked = agrees;
  keys = keys_are_shown;
  answers = λ z ds n t h kind anchored itself of. by z ds n t h (anchored_as z ds anchored) kind itself of;
}
  where
    by : (z : SignedZone) (ds : List Ds) (n : Name) (t : ℕ) (h : JudgeInput) → AnchoredAs z ds → (t ≡ 1) ⊎ (t ≡ 43) → AnswersItself z n t → IsOf evidence z.apex ds (served.asking (asking c_s) n t) h
        → IsShown (answers_with passes) pointer_limit h z.version.mode z.version.records
    by z ds n t h (AsParent is are) kind itself of =
        subst (λ (y : SignedZone). IsShown (answers_with passes) pointer_limit h y.version.mode y.version.records) (sym is)
        (shows parent (parent_ds ∷ []) parent_answer refl parent_shows n t h kind (subst (λ (y : SignedZone). AnswersItself y n t) is itself)
        (subst (λ (x : List Ds). IsOf evidence p x (asking_for n t) h) are (subst (λ (y : SignedZone). IsOf evidence y.apex ds (asking_for n t) h) is of)))
    by z ds n t h (AsChild is are) kind itself of =
        subst (λ (y : SignedZone). IsShown (answers_with passes) pointer_limit h y.version.mode y.version.records) (sym is)
        (shows child (child_ds ∷ []) child_answer refl child_shows n t h kind (subst (λ (y : SignedZone). AnswersItself y n t) is itself)
        (subst (λ (x : List Ds). IsOf evidence s x (asking_for n t) h) are (subst (λ (y : SignedZone). IsOf evidence y.apex ds (asking_for n t) h) is of)))
