-- What signatures verify of an answer.
use Rattle.std.specs.Prelude.{◌≡◌, ℕ, ◌+◌, List, []}
use Rattle.definitions.specs.Name.{Name}
use Rattle.messages.specs.Message.{Spelled}
use Rattle.answer_judge_facts.specs.declared.facts.Proof.{Proof}
use Rattle.answer_judge_facts.specs.Counted.{tries}
use Rattle.answer_judge_facts.specs.Sought.{answer_sought}
use Rattle.answer_judge_facts.specs.Times.{are_unlike, proof_times}
use Rattle.answer_judge_facts.specs.Verified.{Trusting, verified_facts}

-- the facts, whether the signatures are of unlike times, and how many were tried, counted with those tried before
abbrev pub IsVerifiedProof : Trusting → ℕ → List ℕ → List Spelled → Name → ℕ → Proof → ℕ → ℕ → Type 0
IsVerifiedProof w k m rs q t p before after =
    (p.facts ≡ verified_facts w k m rs q t)
    × (p.has_unlike_times ≡ are_unlike (proof_times w k m rs q t))
    × (after ≡ before + tries w k m (answer_sought k m w.apex rs q t) [] rs)
