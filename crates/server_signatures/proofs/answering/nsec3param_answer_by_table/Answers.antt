use Rattle.std.proofs.Common.{◌∙◌, ℕ, None, Option, Some, Vec, subst, sym}
use Rattle.std.specs.Option.{option_map}
use Rattle.std.specs.declared.alloc.Global.{Global}
use Rattle.answer_publisher.specs.Parameters.{AnswersParameters, SpellsParameters}
use Rattle.answer_publisher.specs.World.{world_of}
use Rattle.server_signatures.specs.Outcomes.{signed_by}
use Rattle.server_signatures.specs.Table.{sign_by, verify_by}
use Rattle.server_signatures.proofs.EachScheme.{each_parameters_refusal, is_other, no_parameters, parameters_signed}
use Rattle.server_signatures.proofs.Wanting.{parameters_want}
use Rattle.server_signatures.proofs.answering.nsec3param_answer_by_table.Goals as goal

pub returns-in-Ok-Some-clause-signed : goal.returns-in-Ok-Some-clause-signed
returns-in-Ok-Some-clause-signed g c =
    let p = c.args.publisher.now in
    let at = c.args.now.now in
    let w = world_of g.S.Scheme.signature_of g.S.Scheme.verifies g.S.Scheme.digest_of g.H.Nsec3Hasher.hash_of p in
    let v = signed_by w (sign_by c.args.table.now) (verify_by c.args.table.now) in
    let is = c.in-Ok-Some.field-0-is in
    let bytes : AnswersParameters v p.keys at (Some c.in-Ok-Some.message.items) = subst (λ (o : Option (Vec ℕ Global)). AnswersParameters v p.keys at (option_map (λ m. m.items) o)) is c.in-Ok-Some.ensures.bytes in
    let given : SpellsParameters v p.keys at (Some c.in-Ok-Some.message.items) = subst (λ (o : Option (Vec ℕ Global)). SpellsParameters v p.keys at (option_map (λ m. m.items) o)) is c.in-Ok-Some.ensures.given in
    parameters_signed c.args.table.now w p.keys at c.in-Ok-Some.message bytes given

pub returns-in-Ok-None-clause-signed : goal.returns-in-Ok-None-clause-signed
returns-in-Ok-None-clause-signed g c =
    let p = c.args.publisher.now in
    let at = c.args.now.now in
    let w = world_of g.S.Scheme.signature_of g.S.Scheme.verifies g.S.Scheme.digest_of g.H.Nsec3Hasher.hash_of p in
    let v = signed_by w (sign_by c.args.table.now) (verify_by c.args.table.now) in
    let bytes : AnswersParameters v p.keys at None = subst (λ (o : Option (Vec ℕ Global)). AnswersParameters v p.keys at (option_map (λ m. m.items) o)) c.in-Ok-None.field-0-is c.in-Ok-None.ensures.bytes in
    no_parameters c.args.table.now w p.keys at bytes

pub returns-else-is_sign_failed-clause-fault : goal.returns-else-is_sign_failed-clause-fault
returns-else-is_sign_failed-clause-fault g c =
    let p = c.args.publisher.now in
    let w = world_of g.S.Scheme.signature_of g.S.Scheme.verifies g.S.Scheme.digest_of g.H.Nsec3Hasher.hash_of p in
    each_parameters_refusal c.args.table.now w p.keys c.args.now.now c.in-Err.fault
    (is_other c.in-Err.fault (sym c.is_sign_failed.ensures ∙ c.if-is_sign_failed.false)) c.in-Err.ensures.fault

pub missing_parameters_for-requires : goal.missing_parameters_for-requires
missing_parameters_for-requires g c =
    let p = c.args.publisher.now in
    let w = world_of g.S.Scheme.signature_of g.S.Scheme.verifies g.S.Scheme.digest_of g.H.Nsec3Hasher.hash_of p in
    parameters_want c.args.table.now w p.keys c.args.now.now c.in-Err.fault (sym c.is_sign_failed.ensures ∙ c.if-is_sign_failed.true) c.in-Err.ensures.fault
