-- How many names are hashed for what a message tells.
use Rattle.std.proofs.Common.{◌≡◌, ◌≤◌, ◌+◌, ◌*◌, ℕ, List, Some, None, Result, Ok, Err, IfOk, refl, ap, sym, ◌∙◌, arith}
use Rattle.std.specs.declared.alloc.AllocError.{AllocError}
use Rattle.definitions.specs.Name.{Name}
use Rattle.answer_judge.specs.Judging.{JudgeInput, hash_bound}
use Rattle.answer_findings.specs.Found.{IsFound, hashes_found}
use Rattle.answer_findings.specs.Seen.{Seen, SeesVerdict, SeesDelegated, SeesNoDs, SeesAlias, SeesStarAlias, SeesOpen, SeesDname, SeesReferral, seen}
use Rattle.answer_findings.specs.Table.{Checked}
use Rattle.answer_findings.specs.declared.meaning.AnswerOutcome.{AnswerOutcome}
use Rattle.answer_findings.specs.declared.meaning.AnswerOutcome.TheVariants as f
use Rattle.answer_findings.proofs.CutNames.{IsCutShort, cut_short}
use Rattle.resolution_step.specs.Counted.{CountsHashes, saturated}
use Rattle.resolution_step.specs.Hashed.{cut_in, cut_seen, hash_bound_below}
use Rattle.resolution_step.specs.Told.{IsCutFound, counts_of}
use Rattle.resolution_step.specs.declared.judged_step.Counts.{Counts}
use Rattle.resolution_step.specs.declared.judged_step.JudgedStep.{JudgedStep}

-- ---- counts that go on

-- behind a sum
saturates : (a b : ℕ) → saturated (saturated a + b) ≡ saturated (a + b)
saturates a b = grind arith

-- a count that nothing was added to
pub none_counted : (before after said : ℕ) → after ≡ before → CountsHashes before after said said
none_counted before after said e = record { number = 0; hashed = omega (arith, e); said_is = ap saturated (let n : said ≡ said + 0 = omega arith in n) }

-- by a sum of counts
pub sum_counted : (before after from said all : ℕ) → after ≡ before + said → all ≡ saturated (from + said) → CountsHashes before after from all
sum_counted before after from said all e sum = record { number = said; hashed = e; said_is = ap saturated sum ∙ twice (from + said) }
  where
    twice : (a : ℕ) → saturated (saturated a) ≡ saturated a
    twice a = grind arith

-- one behind another
pub then_counted : (before between after from said all : ℕ) → CountsHashes before between from said → CountsHashes between after said all → CountsHashes before after from all
then_counted before between after from said all first second = record {
  number = first.number + second.number;
  hashed = let e = first.hashed in let d = second.hashed in omega (arith, e, d);
  said_is =
      second.said_is
      ∙ sym (saturates said second.number)
      ∙ ap (λ n. saturated (n + second.number)) first.said_is
      ∙ saturates (from + first.number) second.number
      ∙ ap saturated (let e : from + first.number + second.number ≡ from + (first.number + second.number) = omega arith in e);
}

-- behind the first one
pub first_counted : (before between after said all : ℕ) → between ≡ before + said → CountsHashes between after said all → CountsHashes before after 0 all
first_counted before between after said all e second = record {
  number = said + second.number;
  hashed = let d = second.hashed in omega (arith, e, d);
  said_is = second.said_is ∙ ap saturated (let e : said + second.number ≡ 0 + (said + second.number) = omega arith in e);
}

-- by a count from 0 on that is added
pub added_counted : (before after from said all : ℕ) → CountsHashes before after 0 said → all ≡ saturated (from + said) → CountsHashes before after from all
added_counted before after from said all own sum = record {
  number = own.number;
  hashed = own.hashed;
  said_is = ap saturated sum ∙ adds own.number own.said_is;
}
  where
    less : (a b : ℕ) → saturated (saturated (a + b)) ≡ saturated (saturated b + a)
    less a b = grind arith

    adds : (n : ℕ) → saturated said ≡ saturated (0 + n) → saturated (saturated (from + said)) ≡ saturated (from + n)
    adds n e =
        less from said
        ∙ ap (λ x. saturated (x + from)) e
        ∙ saturates (0 + n) from
        ∙ ap saturated (let e : 0 + n + from ≡ from + n = omega arith in e)

-- ---- what a search counts

counts_hashed : (work : ℕ) (found : AnswerOutcome) → (counts_of work found).hashes ≡ hashes_found found
counts_hashed work (f.Means meaning validity verifications hashes) = refl
counts_hashed work (f.Refused refusal verifications hashes) = refl
counts_hashed work (f.Asks asks verifications hashes) = refl

module _ (before after : ℕ) (found : AnswerOutcome) (e : after ≡ before + hashes_found found) where
  pub cut_hashed : (algorithms : List ℕ) (n : Name) (work : ℕ) (r : Result JudgedStep AllocError) → IfOk r (IsCutFound algorithms n work found) → IfOk r (λ t. after ≡ before + t.counts.hashes)
  cut_hashed algorithms n work (Ok t) is = e ∙ ap (λ n. before + n) (sym (ap (λ (c : Counts). c.hashes) is.2 ∙ counts_hashed work found))
  cut_hashed algorithms n work (Err x) is = tt

pub step_hashed : (before between after : ℕ) (n : ℕ) (r : Result JudgedStep AllocError) → between ≡ before + n → IfOk r (λ t. CountsHashes between after n t.counts.hashes) → IfOk r (λ t. CountsHashes before after 0 t.counts.hashes)
step_hashed before between after n (Ok t) e is = first_counted before between after n t.counts.hashes e is
step_hashed before between after n (Err x) e is = tt

-- ---- the bound of a call

seen_bound : (h : JudgeInput) (x : Seen) → IsCutShort h x → hash_bound_below h (cut_seen x) ≤ 4 * hash_bound h
seen_bound h (SeesDelegated (Some c)) short = omega (arith, short)
seen_bound h (SeesDelegated None) short = omega arith
seen_bound h (SeesVerdict v) short = omega arith
seen_bound h (SeesNoDs d) short = omega arith
seen_bound h (SeesAlias n) short = omega arith
seen_bound h (SeesStarAlias n) short = omega arith
seen_bound h SeesOpen short = omega arith
seen_bound h (SeesDname owner leads) short = omega arith
seen_bound h (SeesReferral c ds) short = omega arith

pub below_bound : (table : List Checked) (h : JudgeInput) (found : AnswerOutcome) → IsFound table h found → hash_bound_below h (cut_in found) ≤ 4 * hash_bound h
below_bound table h (f.Means meaning validity verifications hashes) is = seen_bound h (seen meaning) (cut_short h table (f.Means meaning validity verifications hashes) is)
below_bound table h (f.Refused refusal verifications hashes) is = omega arith
below_bound table h (f.Asks asks verifications hashes) is = omega arith

pub step_bound : (table : List Checked) (h : JudgeInput) (found : AnswerOutcome) (before between after : ℕ) → IsFound table h found → between ≤ before + 4 * hash_bound h → after ≤ between + hash_bound_below h (cut_in found) → after ≤ before + 8 * hash_bound h
step_bound table h found before between after is first second = let most = below_bound table h found is in omega (arith, first, second, most)
