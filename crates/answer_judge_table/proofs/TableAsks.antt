-- What comes of a judgement that goes on at signatures which a table lacks, as if they passed.
use Rattle.std.proofs.Common.{◌≡◌, ◌==◌, ℕ, ◌<◌, ◌≤◌, length, arith, Bool, true, false, ◌&&◌, List, [], ◌∷◌, zero, suc, ap, refl, subst, sym, ◌∙◌, inl, inr, ⊎_elim}
use Rattle.std.specs.Prelude.{Result, Ok, IfOk, IsOk, unwrap_or}
use Rattle.std.proofs.lemmas.Bool.{false≢true}
use Rattle.definitions.specs.Limits.{pointer_limit}
use Rattle.answer_scheme.specs.Answers.{Answers, SignatureTest, with_test}
use Rattle.answer_judge.specs.Tried.{is_tried_signature}
use Rattle.answer_judge.specs.Due.{Counts}
use Rattle.answer_judge.specs.Lasts.{LastsSo}
use Rattle.answer_judge.specs.Judging.{Answer, JudgeInput, answer_of, verification_bound}
use Rattle.answer_judge.specs.declared.verdict.Judgement.{Judgement}
use Rattle.answer_judge.specs.declared.verdict.Refused.{Refused}
use Rattle.answer_judge.specs.Decided.{HashesDecided, IsDecided, is_out_of_memory}
use Rattle.answer_judge.specs.Meeting.{IsJudgement, JudgesSo}
use Rattle.answer_judge_table.specs.Asking.{AgreesAsking, AreAll, AreAsked, AreWanted, PassesEach, are_new, due_by, is_cut_short}
use Rattle.answer_judge_table.specs.Outcomes.{IsJudgedBy}
use Rattle.answer_judge_table.specs.Table.{AgreesWith, Checked, Tried, answers_with, may_pass_in, passes_in, tried}
use Rattle.answer_judge_table.proofs.HonestTable.{stays_honest}

-- what holds of a value, if there is one
pub in_ok : {A E : Type 0} (r : Result A E) (x : A) → r ≡ Ok x → (P : A → Type 0) → IfOk r P → P x
in_ok r x is P holds = subst (λ r. IfOk r P) is holds

-- where nothing is asked for, whatever is asked for passes
pub none_each : (asks : List Tried) (test : SignatureTest) → length asks ≡ 0 → PassesEach asks test
none_each [] test none = tt
none_each (t ∷ asks) test none = absurd (omega (arith, none))

-- something is asked for
pub some_asked : (n : ℕ) → (n == 0) ≡ false → 0 < n
some_asked zero e = cc
some_asked (suc n) e = omega arith

-- with memory enough a count is what is due
pub counted : (answer : Answer) (count due : ℕ) → is_out_of_memory answer ≡ false → Counts answer count due → count ≡ due
counted answer count due enough counts = ⊎_elim (λ ran. absurd (false≢true (sym enough ∙ ap is_out_of_memory ran))) (λ is. is) counts

module _ (table : List Checked) (h : JudgeInput) (said : Result Judgement Refused) where
  -- nothing is asked for
  pub is_judged : ((passes : Tried → Bool) → AgreesWith table passes → JudgesSo pointer_limit (answers_with passes) h said)
      → ((passes : Tried → Bool) → AgreesWith table passes → LastsSo pointer_limit (answers_with passes) h said) → IsJudgedBy table h said
  is_judged by_table lasts = record {
    by_table = by_table;
    lasts = lasts;
    honest = λ passes true_are.
        stays_honest (passes_in table) passes true_are pointer_limit h (answer_of said) (by_table (passes_in table) (λ t b is. ap (λ o. unwrap_or o false) is)).honest;
  }

-- ---- where signatures are asked for

module _ {E : Type 0} (table : List Checked) (h : JudgeInput) (held : List Tried) (kept : Result (Unit {0}) E) where
  abbrev own : Answers
  own = answers_with (may_pass_in table)

  abbrev agrees : SignatureTest → Type 0
  agrees test = AgreesAsking table held kept test

  module _ (answer : Answer) (verifications hashes : ℕ) (mine : IsJudgement pointer_limit own h answer verifications hashes) (each : (test : SignatureTest) → agrees test → IsJudgement pointer_limit (with_test own test) h answer verifications hashes) where
    -- in memory enough
    said_whole : is_out_of_memory answer ≡ false → IsDecided own agrees pointer_limit h verifications
    said_whole enough = record {
      answer = answer;
      hashes = hashes;
      in_memory = enough;
      made = λ test fits. ⊎_elim (λ same. subst (λ (t : SignatureTest). IsJudgement pointer_limit (with_test own t) h answer verifications hashes) (sym same) mine) (λ fit. each test fit) fits;
    }

    decided_whole : (hashes == 0) ≡ false → HashesDecided own agrees pointer_limit h verifications hashes → IsDecided own agrees pointer_limit h verifications
    decided_whole some (inl none) = absurd (false≢true (sym some ∙ ap (λ n. n == 0) none))
    decided_whole some (inr is) = is

    either : (b : Bool) → is_out_of_memory answer ≡ b → (b && (hashes == 0)) ≡ false → HashesDecided own agrees pointer_limit h verifications hashes → IsDecided own agrees pointer_limit h verifications
    either true out some is = decided_whole some is
    either false enough some is = said_whole enough

    -- a judgement that was not cut short is decided
    pub whole : is_cut_short answer hashes ≡ false → HashesDecided own agrees pointer_limit h verifications hashes → IsDecided own agrees pointer_limit h verifications
    whole on is = either (is_out_of_memory answer) refl on is

  -- all that is due is held then
  pub are_all : (verifications : ℕ) → IsDecided own agrees pointer_limit h verifications → IsOk kept → (asks : List Tried) → asks ≡ held → AreAll table h asks
  are_all verifications is kept_is asks same = record {
    answer = is.answer;
    verifications = verifications;
    hashes = is.hashes;
    in_memory = is.in_memory;
    made = λ passes agrees_with each.
        let test : SignatureTest = λ key octets signature. passes (tried key octets signature) in
        is.made test (inr (kept_is, agrees_with, subst (λ xs. PassesEach xs test) same each));
  }

  -- what is asked for then
  pub are_asked : (verifications : ℕ) → IsDecided own agrees pointer_limit h verifications → IsOk kept → (asks : List Tried) → asks ≡ held → (n : ℕ) → 0 < length asks → are_new table asks ≡ true → length asks ≤ n → n ≡ verifications
      → verifications ≤ verification_bound pointer_limit h → PassesEach asks (is_tried_signature own pointer_limit h) → AreAsked table h asks
  are_asked verifications is kept_is asks same n some new counts all bound of_case =
      let due : verifications ≡ due_by (may_pass_in table) h = counted is.answer verifications (due_by (may_pass_in table) h) is.in_memory (is.made own.verifies (inl refl)).counts in
      record {
        some = some;
        are_new = new;
        few = omega (arith, counts, all, bound);
        tried = record { each = of_case; due = omega (arith, counts, all, due) };
        all = are_all verifications is kept_is asks same;
      }

  -- what is wanted, be it nothing
  pub are_wanted : (verifications : ℕ) → IsDecided own agrees pointer_limit h verifications → IsOk kept → (asks : List Tried) → asks ≡ held → (n : ℕ) → are_new table asks ≡ true → length asks ≤ n → n ≡ verifications
      → verifications ≤ verification_bound pointer_limit h → PassesEach asks (is_tried_signature own pointer_limit h) → AreWanted table h asks
  are_wanted verifications is kept_is [] same n new counts all bound of_case = are_all verifications is kept_is [] same
  are_wanted verifications is kept_is (t ∷ ts) same n new counts all bound of_case =
      are_asked verifications is kept_is (t ∷ ts) same n (omega arith) new counts all bound of_case
