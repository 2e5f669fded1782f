-- Why a question is not answered, where a scheme or a hasher is the reason.
use Rattle.answer_publisher.specs.declared.fault.AnswerFault.{AnswerFault}
use Rattle.answer_publisher.specs.declared.fault.AnswerFault.TheVariants as fault
use Rattle.answer_scheme.specs.declared.error.SchemeError.{SchemeError}
use Rattle.answer_scheme.specs.declared.error.SchemeError.TheVariants.{Failed, Memory}
use Rattle.denial_nsec3_hash.specs.declared.hasher.HashError.{HashError}
use Rattle.denial_nsec3_hash.specs.declared.hasher.HashError.TheVariants as hash_error

abbrev pub fault_of : SchemeError → AnswerFault
fault_of Failed = fault.SignFailed
fault_of Memory = fault.Memory

abbrev pub fault_of_hash : HashError → AnswerFault
fault_of_hash hash_error.Failed = fault.HashFailed
fault_of_hash hash_error.Memory = fault.Memory
