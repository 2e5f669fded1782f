-- The bounds of a search.
use Rattle.std.proofs.Common.{◌≡◌, ◌≤◌, ◌+◌, ◌*◌, ℕ, Bool, true, false, ◌&&◌, ◌||◌, not, length, List, Option, Some, None, Result, refl, ap, subst, sym, ◌∙◌, arith, inl, inr}
use Rattle.std.specs.Prelude.{◌==◌, if◌then◌else◌, unwrap_or}
use Rattle.std.specs.Option.{is_some}
use Rattle.std.proofs.lemmas.Bool.{and_parts}
use Rattle.definitions.specs.Limits.{pointer_limit}
use Rattle.definitions.specs.Name.{strictly_above}
use Rattle.definitions.proofs.ZoneNames.{above_longer}
use Rattle.messages.specs.Message.{Asked}
use Rattle.answer_judge.specs.Judging.{Answer, JudgeInput, answer_of, hash_bound, hashes_of, verification_bound, verifications_of}
use Rattle.answer_judge.specs.declared.verdict.Judgement.{Judgement}
use Rattle.answer_judge.specs.declared.verdict.Refused.{Refused}
use Rattle.answer_judge_table.specs.Outcomes.{IsJudgedBy}
use Rattle.answer_judge_table.specs.Table.{Checked, passes_in}
use Rattle.answer_findings.specs.declared.meaning.AnswerOutcome.{AnswerOutcome}
use Rattle.answer_findings.specs.declared.meaning.AnswerOutcome.TheVariants as f
use Rattle.answer_findings.specs.declared.side_judgements.Judgements.{Judgements}
use Rattle.answer_findings.specs.declared.side_judgements.SideJudgement.{SideJudgement}
use Rattle.answer_findings.specs.Found.{AreJudgements, IsBeside, IsFound, IsFoundWithin, IsSoughtAtCut, IsSoughtBehind, IsWithinBounds, hash_bound_aside}
use Rattle.answer_findings.specs.Judgements.{IsMadeOf, alias_hint, alias_question, aside, asking, cut_question, ds_question, is_unproven, ns_question, question_of, says_delegated, says_no_type, seeks_delegation}
use Rattle.answer_findings.specs.Seen.{hashed_by, hashed_in, lead_found, verified_by, verified_in}
use Rattle.answer_findings.proofs.Beside.{SeeksCut, cname_beside, cut_ds_beside, cut_ns_beside, dname_beside, name_ns_beside, seeks_alias, seeks_cut}

-- ---- questions that are sought are beside the case's

module _ (h : JudgeInput) (asked : Asked) where
  alias_beside : (own : Answer) → alias_question pointer_limit h own ≡ Some asked → IsBeside h asked
  alias_beside own e = go (is_unproven own) e
    where
      go : (b : Bool) → (if b then alias_hint pointer_limit h else None) ≡ Some asked → IsBeside h asked
      go false e = absurd cc
      go true e = elim (seeks_alias pointer_limit h asked e) [
        | inl d ↦ subst (IsBeside h) d.is (dname_beside h d.owner d.inside d.above)
        | inr c ↦ subst (IsBeside h) c.is (cname_beside h c.inside)
      ]

  pub ns_beside : (own : Answer) → ns_question pointer_limit h own ≡ Some asked → IsBeside h asked
  ns_beside own e = go (says_delegated own) (seeks_delegation h own) refl e
    where
      go : (b c : Bool) → seeks_delegation h own ≡ c
          → (if b then cut_question pointer_limit h 2 else if c then Some (asking h h.asked.name 2) else None) ≡ Some asked → IsBeside h asked
      go true c s e = let k : SeeksCut pointer_limit h 2 asked = seeks_cut pointer_limit h 2 asked e in subst (IsBeside h) k.is (cut_ns_beside pointer_limit h k.cut k.hint)
      go false true s e =
          let is : asking h h.asked.name 2 ≡ asked = cc in
          subst (IsBeside h) is (name_ns_beside h (and_parts (says_no_type own && (h.asked.rtype == 43)) (strictly_above h.apex h.asked.name) s).1)
      go false false s e = absurd cc

  ds_beside : (own : Answer) (leads : Bool) → ds_question pointer_limit h own leads ≡ Some asked → IsBeside h asked
  ds_beside own leads e = go (says_delegated own || (is_unproven own && not leads)) e
    where
      go : (b : Bool) → (if b then cut_question pointer_limit h 43 else None) ≡ Some asked → IsBeside h asked
      go true e = let k : SeeksCut pointer_limit h 43 asked = seeks_cut pointer_limit h 43 asked e in subst (IsBeside h) k.is (cut_ds_beside pointer_limit h k.cut k.hint)
      go false e = absurd cc

-- ---- one judgement

abbrev InBounds : JudgeInput → ℕ → ℕ → Type 0
InBounds h verifications hashes = (verifications ≤ verification_bound pointer_limit h) × (hashes ≤ hash_bound h)

judged_within : (table : List Checked) (h : JudgeInput) (said : Result Judgement Refused) → IsJudgedBy table h said → InBounds h (verifications_of said) (hashes_of said)
judged_within table h said is =
    let keeps = (is.by_table (passes_in table) (λ t b e. ap (λ o. unwrap_or o false) e)).keeps in
    (keeps.verifications_bound, keeps.hashes_bound)

-- a name above has no more labels
aside_within : (h : JudgeInput) (asked : Asked) (verifications hashes : ℕ) → IsBeside h asked → InBounds (aside h asked) verifications hashes → InBounds h verifications hashes
aside_within h asked verifications hashes beside is =
    let shorter : length asked.name ≤ length h.asked.name = above_longer asked.name h.asked.name beside.above in
    let few : hashes ≤ length asked.name + 2 = is.1 in
    (is.0, omega (arith, few, shorter))

made_within : (table : List Checked) (h : JudgeInput) (wanted : Option Asked) (made : Option SideJudgement) → IsMadeOf table h wanted made
    → ((asked : Asked) → wanted ≡ Some asked → IsBeside h asked) → InBounds h (verified_in made) (hashed_in made)
made_within table h wanted None is beside = (omega arith, omega arith)
made_within table h wanted (Some m) is beside =
    aside_within h (question_of m) (verifications_of m.said) (hashes_of m.said) (beside (question_of m) (sym is.asked)) (judged_within table (aside h (question_of m)) m.said is.judged)

none_within : (h : JudgeInput) (made : Option SideJudgement) → made ≡ None → InBounds h (verified_in made) (hashed_in made)
none_within h None e = (omega arith, omega arith)
none_within h (Some m) e = absurd cc

-- ---- the names that are hashed for a question beside

-- no more than for the case's own
beside_bound : (h : JudgeInput) (wanted : Option Asked) → ((asked : Asked) → wanted ≡ Some asked → IsBeside h asked) → hash_bound_aside h wanted ≤ hash_bound h
beside_bound h None beside = omega arith
beside_bound h (Some asked) beside =
    let shorter : length asked.name ≤ length h.asked.name = above_longer asked.name h.asked.name (beside asked refl).above in
    omega (arith, shorter)

module _ (h : JudgeInput) (question : Option Asked) (old new : ℕ) (few : new ≤ old + hash_bound_aside h question) where
  within_own : (wanted : Option Asked) → question ≡ wanted → ((asked : Asked) → wanted ≡ Some asked → IsBeside h asked) → new ≤ old + hash_bound h
  within_own wanted e beside =
      let most : hash_bound_aside h question ≤ hash_bound h = beside_bound h question (λ asked is. beside asked (sym e ∙ is)) in
      omega (arith, few, most)

  pub alias_bound : (own : Answer) → question ≡ alias_question pointer_limit h own → new ≤ old + hash_bound h
  alias_bound own e = within_own (alias_question pointer_limit h own) e (λ asked is. alias_beside h asked own is)

  pub ns_bound : (own : Answer) → question ≡ ns_question pointer_limit h own → new ≤ old + hash_bound h
  ns_bound own e = within_own (ns_question pointer_limit h own) e (λ asked is. ns_beside h asked own is)

  pub ds_bound : (own : Answer) (leads : Bool) → question ≡ ds_question pointer_limit h own leads → new ≤ old + hash_bound h
  ds_bound own leads e = within_own (ds_question pointer_limit h own leads) e (λ asked is. ds_beside h asked own leads is)

-- ---- all of them

four : (a b c d x : ℕ) → a ≤ x → b ≤ x → c ≤ x → d ≤ x → a + b + c + d ≤ 4 * x
four a b c d x p q r s = omega (arith, p, q, r, s)

all_within : (h : JudgeInput) (js : Judgements) → InBounds h (verifications_of js.own) (hashes_of js.own) → InBounds h (verified_in js.alias) (hashed_in js.alias)
    → InBounds h (verified_in js.ns) (hashed_in js.ns) → InBounds h (verified_in js.ds) (hashed_in js.ds) → IsWithinBounds h (verified_by js) (hashed_by js)
all_within h js own alias ns ds = record {
  verifications_bound = four (verifications_of js.own) (verified_in js.alias) (verified_in js.ns) (verified_in js.ds) (verification_bound pointer_limit h) own.0 alias.0 ns.0 ds.0;
  hashes_bound = four (hashes_of js.own) (hashed_in js.alias) (hashed_in js.ns) (hashed_in js.ds) (hash_bound h) own.1 alias.1 ns.1 ds.1;
}

counted_within : (h : JudgeInput) (js : Judgements) (verifications hashes : ℕ) → verifications ≡ verified_by js → hashes ≡ hashed_by js → IsWithinBounds h (verified_by js) (hashed_by js) → IsWithinBounds h verifications hashes
counted_within h js verifications hashes v n is =
    record { verifications_bound = subst (λ x. x ≤ 4 * verification_bound pointer_limit h) (sym v) is.verifications_bound; hashes_bound = subst (λ x. x ≤ 4 * hash_bound h) (sym n) is.hashes_bound }

pub none_counted : (h : JudgeInput) (verifications hashes : ℕ) → verifications ≡ 0 → hashes ≡ 0 → IsWithinBounds h verifications hashes
none_counted h verifications hashes v n = record { verifications_bound = omega (arith, v); hashes_bound = omega (arith, n) }

module _ (table : List Checked) (h : JudgeInput) where
  own_within : (js : Judgements) → IsJudgedBy table h js.own → InBounds h (verifications_of js.own) (hashes_of js.own)
  own_within js is = judged_within table h js.own is

  alias_within : (js : Judgements) → IsMadeOf table h (alias_question pointer_limit h (answer_of js.own)) js.alias → InBounds h (verified_in js.alias) (hashed_in js.alias)
  alias_within js is = made_within table h (alias_question pointer_limit h (answer_of js.own)) js.alias is (λ asked e. alias_beside h asked (answer_of js.own) e)

  ns_within : (js : Judgements) → IsMadeOf table h (ns_question pointer_limit h (answer_of js.own)) js.ns → InBounds h (verified_in js.ns) (hashed_in js.ns)
  ns_within js is = made_within table h (ns_question pointer_limit h (answer_of js.own)) js.ns is (λ asked e. ns_beside h asked (answer_of js.own) e)

  ds_within : (js : Judgements) (leads : Bool) → IsMadeOf table h (ds_question pointer_limit h (answer_of js.own) leads) js.ds → InBounds h (verified_in js.ds) (hashed_in js.ds)
  ds_within js leads is = made_within table h (ds_question pointer_limit h (answer_of js.own) leads) js.ds is (λ asked e. ds_beside h asked (answer_of js.own) leads e)

  all_judged : (js : Judgements) → AreJudgements table h js → IsWithinBounds h (verified_by js) (hashed_by js)
  all_judged js are = all_within h js (own_within js are.own) (alias_within js are.alias) (ns_within js are.ns) (ds_within js (is_some (lead_found h js.alias)) are.ds)

  -- before signatures are asked for
  later_within : (js : Judgements) (wanted : Option Asked) → IsJudgedBy table h js.own → js.ds ≡ None → IsSoughtBehind table h js wanted → IsWithinBounds h (verified_by js) (hashed_by js)
  later_within js wanted own none (inl first) = all_within h js (own_within js own) (none_within h js.alias first.1) (none_within h js.ns first.2) (none_within h js.ds none)
  later_within js wanted own none (inr behind) = at_cut behind.1
    where
      at_cut : IsSoughtAtCut table h js wanted → IsWithinBounds h (verified_by js) (hashed_by js)
      at_cut (inl ns) = all_within h js (own_within js own) (alias_within js behind.0) (none_within h js.ns ns.1) (none_within h js.ds none)
      at_cut (inr ds) = all_within h js (own_within js own) (alias_within js behind.0) (ns_within js ds.0) (none_within h js.ds none)

  pub found_within : (found : AnswerOutcome) → IsFound table h found → IsFoundWithin h found
  found_within (f.Means meaning validity verifications hashes) is = counted_within h is.judgements verifications hashes is.verified is.hashed (all_judged is.judgements is.are)
  found_within (f.Refused refusal verifications hashes) is = counted_within h is.judgements verifications hashes is.verified is.hashed (all_judged is.judgements is.are)
  found_within (f.Asks asks verifications hashes) (inl once) = none_counted h verifications hashes once.1 once.2
  found_within (f.Asks asks verifications hashes) (inr later) =
      counted_within h later.before verifications hashes later.verified later.hashed (later_within later.before later.wanted later.judged later.none_of_ds later.sought)
