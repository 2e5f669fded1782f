-- What is replied where signatures are asked for.
use Rattle.std.proofs.Common.{◌≡◌, ℕ, Bool, List, subst}
use Rattle.answer_findings.specs.Table.{Tried}
use Rattle.answer_judge_octets.specs.Replying.{AsksOrStops, IsAskReplied, Replied, counted}

pub asks_in : (asks : List Tried) (stops many : Bool) (verifications hashes : ℕ) (reply said : Replied) → stops ≡ many → AsksOrStops stops asks reply → said ≡ counted verifications hashes reply
    → IsAskReplied many asks verifications hashes said
asks_in asks stops many verifications hashes reply said is asked counts = record { reply = reply; asks_or_stops = subst (λ b. AsksOrStops b asks reply) is asked; counts = counts }
