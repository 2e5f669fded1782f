-- What is replied to what a search comes to.
use Rattle.std.proofs.Common.{◌≡◌, ℕ, Bool, true, List, Option, Result, Ok, Err, IfOk, length, sym, ap, subst, ◌∙◌}
use Rattle.std.specs.Global.{Vec}
use Rattle.std.specs.declared.alloc.AllocError.{AllocError}
use Rattle.answer_judge.specs.Judging.{JudgeInput}
use Rattle.answer_judge_facts.specs.declared.validity.Validity.{Validity}
use Rattle.answer_findings.specs.Found.{IsFound, IsFoundWithin, IsWithinBounds}
use Rattle.answer_findings.specs.Seen.{seen}
use Rattle.answer_findings.specs.Truth.{FindsTruly}
use Rattle.answer_findings.specs.declared.meaning.Meaning.{Meaning}
use Rattle.answer_findings.specs.declared.meaning.AnswerOutcome.{AnswerOutcome}
use Rattle.answer_findings.specs.declared.meaning.AnswerOutcome.TheVariants as f
use Rattle.answer_findings.specs.Table.{Checked, Tried}
use Rattle.answer_judge_octets.specs.declared.octets.OctetCase.{OctetCase}
use Rattle.answer_judge_octets.specs.declared.reply.Reply.{Reply}
use Rattle.answer_judge_octets.specs.Places.{octets_in_front}
use Rattle.answer_judge_octets.specs.Replying.{AsksOrStops, IsRepliedTo, Replied, SaysFound, are_too_many, behind, counted, found_reply, front_of, reply_seen}

module _ (case : OctetCase) (error : ℕ) (places : Bool) (h : JudgeInput) (table : List Checked) where
  -- a finding that was replied, behind what stands in front of it where places are wanted
  says_meaning : (meaning : Meaning) (validity : Option Validity) (verifications hashes : ℕ) (front : List ℕ) (said : Replied) (r : Result Reply AllocError)
      → IsFound table h (f.Means meaning validity verifications hashes) → FindsTruly table h (f.Means meaning validity verifications hashes) → IsWithinBounds h verifications hashes
      → front ≡ front_of places table h (seen meaning) → said ≡ counted verifications hashes (found_reply case.moment error (seen meaning) validity)
      → IfOk r (λ r. reply_seen r ≡ behind front said) → IfOk r (λ r. SaysFound case error places h table (reply_seen r))
  says_meaning meaning validity verifications hashes front said (Ok r) found honest within in_front is put = record {
    found = f.Means meaning validity verifications hashes;
    is_found = found;
    honest = honest;
    within = within;
    replied = put ∙ (λ i. behind (in_front i) (is i));
  }
  says_meaning meaning validity verifications hashes front said (Err e) found honest within in_front is put = tt

  -- where they are wanted
  pub says_places : (meaning : Meaning) (validity : Option Validity) (verifications hashes : ℕ) (front : List ℕ) (said : Replied) (r : Result Reply AllocError) (found : AnswerOutcome)
      → places ≡ true → found ≡ f.Means meaning validity verifications hashes → IsFound table h found → FindsTruly table h found → IsFoundWithin h found
      → front ≡ octets_in_front table h (seen meaning) → said ≡ counted verifications hashes (found_reply case.moment error (seen meaning) validity)
      → IfOk r (λ r. reply_seen r ≡ behind front said) → IfOk r (λ r. SaysFound case error places h table (reply_seen r))
  says_places meaning validity verifications hashes front said r found wanted e is honest within in_front =
      says_meaning meaning validity verifications hashes front said r (subst (IsFound table h) e is) (subst (FindsTruly table h) e honest) (subst (IsFoundWithin h) e within)
      (in_front ∙ ap (λ (b : Bool). front_of b table h (seen meaning)) (sym wanted))

  -- signatures that are asked for, beside the counts of what was judged before
  pub says_asks : (asks : Vec Tried) (verifications hashes : ℕ) (stops : Bool) (reply said : Replied) (found : AnswerOutcome)
      → found ≡ f.Asks asks verifications hashes → IsFound table h found → FindsTruly table h found → IsFoundWithin h found
      → stops ≡ are_too_many case.max_signatures h table (length asks.items) → AsksOrStops stops asks.items reply → said ≡ counted verifications hashes reply
      → SaysFound case error places h table said
  says_asks asks verifications hashes stops reply said found e is honest within many asked counts = record {
    found = found;
    is_found = is;
    honest = honest;
    within = within;
    replied = subst (λ x. IsRepliedTo case error places h table x said) (sym e)
        (record { reply = reply; asks_or_stops = subst (λ b. AsksOrStops b asks.items reply) many asked; counts = counts });
  }
