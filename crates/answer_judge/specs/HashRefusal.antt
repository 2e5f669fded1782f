-- What a name that was not hashed is to a judge.
use Rattle.denial_nsec3_hash.specs.declared.hasher.HashError.{HashError}
use Rattle.denial_nsec3_hash.specs.declared.hasher.HashError.TheVariants as h
use Rattle.answer_judge.specs.declared.verdict.Refusal.{Refusal}
use Rattle.answer_judge.specs.declared.verdict.Refusal.TheVariants as r

abbrev pub refusal_of : HashError → Refusal
refusal_of h.Failed = r.HashFailed
refusal_of h.Memory = r.Memory
