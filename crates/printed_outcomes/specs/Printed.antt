-- What is printed of an outcome.
use Rattle.std.specs.Prelude.{ℕ, ◌/◌, List, [], ◌∷◌, ◌++◌, codes, decimal, Ok, Err}
use Rattle.std.specs.List.{flat_map, join_by}
use Rattle.std.specs.Duration.{as_nanos}
use Rattle.hex.specs.Hex.{encode_lower}
use Rattle.definitions.specs.Dnskey.{key_tag}
use Rattle.answer_outcomes.specs.declared.outcome.Outcome.{Outcome}
use Rattle.answer_outcomes.specs.declared.outcome.Outcome.TheVariants.{Key, Replaced, Ds, Cds, Cdnskey, Message, Refused, Judged, BadPlace}
use Rattle.answer_judge.specs.declared.verdict.Judgement.{Judgement}
use Rattle.answer_judge.specs.declared.verdict.Refused.{Refused as JudgeRefused}
use Rattle.answer_judge_rules.specs.declared.verdict.Verdict.{Verdict}
use Rattle.answer_judge_rules.specs.declared.verdict.Verdict.TheVariants.{Records, StarRecords}
use Rattle.keyset_rolls.specs.declared.rolls.Action.{Action}
use Rattle.keyset_keys.specs.declared.errors.Error.{Error as KeyError}
use Rattle.keyset_keys.specs.declared.errors.Error.TheVariants.{Wait}
use Rattle.answer_publisher_keys.specs.declared.fault.KeyFault.{KeyFault}
use Rattle.answer_publisher_keys.specs.declared.fault.KeyFault.TheVariants as KeyFaultCase
use Rattle.printed_outcomes.specs.Names.{action_name, answer_fault_name, key_error_name, key_fault_name, refusal_name, replace_fault_name, verdict_name}

-- hexadecimal digits, `-` for none
abbrev pub octets_text : List ℕ → List ℕ
octets_text [] = codes "-"
octets_text (x ∷ xs) = encode_lower (x ∷ xs)

-- joined by commas, `-` for none
abbrev pub list_text : {X : Type 0} → (X → List ℕ) → List X → List ℕ
list_text text [] = codes "-"
list_text text (x ∷ xs) = join_by text (codes ",") (x ∷ xs)

abbrev pub actions_text : List Action → List ℕ
actions_text actions = codes "ok" ++ flat_map (λ a. codes " " ++ action_name a) actions

-- a wait with the whole seconds that are left
abbrev pub key_error_text : KeyError → List ℕ
key_error_text (Wait rest) = codes "Wait " ++ decimal (as_nanos rest / 1_000_000_000)
key_error_text error = key_error_name error

abbrev pub key_fault_text : KeyFault → List ℕ
key_fault_text (KeyFaultCase.Key error) = key_error_text error
key_fault_text fault = key_fault_name fault

abbrev pub key_refusal : KeyFault → List ℕ
key_refusal fault = codes "refused " ++ key_fault_text fault

abbrev pub counts_text : ℕ → ℕ → List ℕ
counts_text verifications hashes = codes " verifications " ++ decimal verifications ++ codes " hashes " ++ decimal hashes

abbrev pub data_text : List (List ℕ) → List ℕ
data_text datas = codes " " ++ list_text octets_text datas

abbrev pub verdict_data : Verdict → List ℕ
verdict_data (Records datas) = data_text datas
verdict_data (StarRecords datas) = data_text datas
verdict_data _ = []

abbrev pub judgement_text : Judgement → List ℕ
judgement_text j = verdict_name j.verdict ++ verdict_data j.verdict ++ counts_text j.verifications j.hashes

abbrev pub judge_refusal : JudgeRefused → List ℕ
judge_refusal r = codes "refused " ++ refusal_name r.refusal ++ counts_text r.verifications r.hashes

-- an outcome's line
abbrev pub outcome_text : Outcome → List ℕ
outcome_text (Key (Ok actions)) = actions_text actions.items
outcome_text (Key (Err fault)) = key_refusal fault
outcome_text (Replaced (Ok u)) = codes "ok"
outcome_text (Replaced (Err fault)) = codes "refused " ++ replace_fault_name fault
outcome_text (Ds place set) = codes "place " ++ decimal place ++ codes " " ++ list_text (λ d. decimal d.tag) set.items
outcome_text (Cds set) = codes "tags " ++ list_text (λ d. decimal d.tag) set.items
outcome_text (Cdnskey set) = codes "tags " ++ list_text (λ k. decimal (key_tag k)) set.items
outcome_text (Message place octets) = codes "place " ++ decimal place
outcome_text (Refused fault) = codes "refused " ++ answer_fault_name fault
outcome_text (Judged (Ok judgement)) = judgement_text judgement
outcome_text (Judged (Err refused)) = judge_refusal refused
outcome_text BadPlace = codes "BadPlace"
