-- The names that are printed: those of the variants, of a fault within faults the innermost.
use Rattle.std.specs.Prelude.{ℕ, List, codes}
use Rattle.keyset_rolls.specs.declared.rolls.Action.{Action}
use Rattle.keyset_rolls.specs.declared.rolls.Action.TheVariants as ActionCase
use Rattle.denial_chain_owners.specs.declared.error.SigningError.{SigningError}
use Rattle.denial_chain_owners.specs.declared.error.SigningError.TheVariants as SigningErrorCase
use Rattle.answer_zone_records.specs.declared.fault.ZoneFault.{ZoneFault}
use Rattle.answer_zone_records.specs.declared.fault.ZoneFault.TheVariants as ZoneFaultCase
use Rattle.answer_publisher.specs.declared.fault.AnswerFault.{AnswerFault}
use Rattle.answer_publisher.specs.declared.fault.AnswerFault.TheVariants as AnswerFaultCase
use Rattle.answer_publisher.specs.declared.fault.ReplaceFault.{ReplaceFault}
use Rattle.answer_publisher.specs.declared.fault.ReplaceFault.TheVariants as ReplaceFaultCase
use Rattle.keyset_keys.specs.declared.errors.Error.{Error as KeyError}
use Rattle.keyset_keys.specs.declared.errors.Error.TheVariants as KeyErrorCase
use Rattle.answer_publisher_keys.specs.declared.fault.KeyFault.{KeyFault}
use Rattle.answer_publisher_keys.specs.declared.fault.KeyFault.TheVariants as KeyFaultCase
use Rattle.answer_judge.specs.declared.verdict.Refusal.{Refusal}
use Rattle.answer_judge.specs.declared.verdict.Refusal.TheVariants as RefusalCase
use Rattle.answer_judge_rules.specs.declared.verdict.Verdict.{Verdict}
use Rattle.answer_judge_rules.specs.declared.verdict.Verdict.TheVariants as VerdictCase

abbrev pub action_name : Action → List ℕ
action_name ActionCase.CreateCdsRrset = codes "CreateCdsRrset"
action_name ActionCase.RemoveCdsRrset = codes "RemoveCdsRrset"
action_name ActionCase.UpdateDnskeyRrset = codes "UpdateDnskeyRrset"
action_name ActionCase.UpdateDsRrset = codes "UpdateDsRrset"
action_name ActionCase.UpdateRrsig = codes "UpdateRrsig"
action_name ActionCase.ReportDnskeyPropagated = codes "ReportDnskeyPropagated"
action_name ActionCase.WaitDnskeyPropagated = codes "WaitDnskeyPropagated"
action_name ActionCase.ReportDsPropagated = codes "ReportDsPropagated"
action_name ActionCase.WaitDsPropagated = codes "WaitDsPropagated"
action_name ActionCase.ReportRrsigPropagated = codes "ReportRrsigPropagated"
action_name ActionCase.WaitRrsigPropagated = codes "WaitRrsigPropagated"

abbrev pub signing_error_name : SigningError → List ℕ
signing_error_name SigningErrorCase.NoSingleSoa = codes "NoSingleSoa"
signing_error_name SigningErrorCase.MultipleTtlValues = codes "MultipleTtlValues"
signing_error_name SigningErrorCase.HashFailed = codes "HashFailed"
signing_error_name SigningErrorCase.HashTooLong = codes "HashTooLong"
signing_error_name SigningErrorCase.HashCollision = codes "HashCollision"
signing_error_name SigningErrorCase.Memory = codes "Memory"

abbrev pub zone_fault_name : ZoneFault → List ℕ
zone_fault_name ZoneFaultCase.WrongClass = codes "WrongClass"
zone_fault_name ZoneFaultCase.OutsideApex = codes "OutsideApex"
zone_fault_name ZoneFaultCase.SignedType = codes "SignedType"
zone_fault_name ZoneFaultCase.Alias = codes "Alias"
zone_fault_name ZoneFaultCase.MetaType = codes "MetaType"
zone_fault_name ZoneFaultCase.StarNs = codes "StarNs"
zone_fault_name ZoneFaultCase.IterationsOverLimit = codes "IterationsOverLimit"
zone_fault_name (ZoneFaultCase.Chain error) = signing_error_name error
zone_fault_name ZoneFaultCase.Memory = codes "Memory"

abbrev pub replace_fault_name : ReplaceFault → List ℕ
replace_fault_name ReplaceFaultCase.TooSoon = codes "TooSoon"
replace_fault_name (ReplaceFaultCase.Zone fault) = zone_fault_name fault

abbrev pub answer_fault_name : AnswerFault → List ℕ
answer_fault_name AnswerFaultCase.QuestionNotAllowed = codes "QuestionNotAllowed"
answer_fault_name AnswerFaultCase.HashFailed = codes "HashFailed"
answer_fault_name AnswerFaultCase.SignFailed = codes "SignFailed"
answer_fault_name AnswerFaultCase.TooLong = codes "TooLong"
answer_fault_name AnswerFaultCase.Memory = codes "Memory"

abbrev pub key_error_name : KeyError → List ℕ
key_error_name KeyErrorCase.KeyExists = codes "KeyExists"
key_error_name KeyErrorCase.KeyNotFound = codes "KeyNotFound"
key_error_name KeyErrorCase.KeyNotOld = codes "KeyNotOld"
key_error_name KeyErrorCase.DuplicateKeyTag = codes "DuplicateKeyTag"
key_error_name KeyErrorCase.WrongKeyType = codes "WrongKeyType"
key_error_name KeyErrorCase.WrongKeyState = codes "WrongKeyState"
key_error_name KeyErrorCase.NoSuitableKeyPresent = codes "NoSuitableKeyPresent"
key_error_name KeyErrorCase.WrongStateForRollOperation = codes "WrongStateForRollOperation"
key_error_name KeyErrorCase.ConflictingRollInProgress = codes "ConflictingRollInProgress"
key_error_name KeyErrorCase.AlgorithmSetsMismatch = codes "AlgorithmSetsMismatch"
key_error_name (KeyErrorCase.Wait _) = codes "Wait"
key_error_name KeyErrorCase.UnknownRollType = codes "UnknownRollType"
key_error_name KeyErrorCase.MissingTimestamp = codes "MissingTimestamp"
key_error_name KeyErrorCase.Memory = codes "Memory"

abbrev pub key_fault_name : KeyFault → List ℕ
key_fault_name KeyFaultCase.ReferenceBound = codes "ReferenceBound"
key_fault_name KeyFaultCase.DigestFailed = codes "DigestFailed"
key_fault_name (KeyFaultCase.Key error) = key_error_name error
key_fault_name KeyFaultCase.Memory = codes "Memory"

abbrev pub refusal_name : Refusal → List ℕ
refusal_name RefusalCase.QuestionNotAllowed = codes "QuestionNotAllowed"
refusal_name RefusalCase.BadDnskeyMessage = codes "BadDnskeyMessage"
refusal_name RefusalCase.BadAnswerMessage = codes "BadAnswerMessage"
refusal_name RefusalCase.QuestionMismatch = codes "QuestionMismatch"
refusal_name RefusalCase.EqualTags = codes "EqualTags"
refusal_name RefusalCase.NoTrustedKey = codes "NoTrustedKey"
refusal_name RefusalCase.MixedNsec3Parameters = codes "MixedNsec3Parameters"
refusal_name RefusalCase.IterationsOverLimit = codes "IterationsOverLimit"
refusal_name RefusalCase.HashFailed = codes "HashFailed"
refusal_name RefusalCase.NotProven = codes "NotProven"
refusal_name RefusalCase.Memory = codes "Memory"
refusal_name RefusalCase.MixedVersions = codes "MixedVersions"

abbrev pub verdict_name : Verdict → List ℕ
verdict_name (VerdictCase.Records _) = codes "Records"
verdict_name VerdictCase.NoType = codes "NoType"
verdict_name VerdictCase.NoName = codes "NoName"
verdict_name (VerdictCase.StarRecords _) = codes "StarRecords"
verdict_name VerdictCase.StarNoType = codes "StarNoType"
verdict_name VerdictCase.Delegated = codes "Delegated"
verdict_name VerdictCase.Open = codes "Open"
verdict_name VerdictCase.Unsigned = codes "Unsigned"
