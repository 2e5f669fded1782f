use Rattle.std.proofs.Common.{◌∙◌, sym}
use Rattle.answer_publisher.specs.World.{world_of}
use Rattle.server_signatures.proofs.EachScheme.{each_keys, each_keys_refusal, is_other}
use Rattle.server_signatures.proofs.Wanting.{keys_want}
use Rattle.server_signatures.proofs.answering.dnskey_answer_by_table.Goals as goal

pub returns-in-Ok-clause-signed : goal.returns-in-Ok-clause-signed
returns-in-Ok-clause-signed g c =
    let p = c.args.publisher.now in
    let w = world_of g.S.Scheme.signature_of g.S.Scheme.verifies g.S.Scheme.digest_of g.H.Nsec3Hasher.hash_of p in
    each_keys c.args.table.now w p.keys c.args.now.now c.in-Ok.message.items c.in-Ok.ensures.bytes c.in-Ok.ensures.given

pub returns-else-is_sign_failed-clause-fault : goal.returns-else-is_sign_failed-clause-fault
returns-else-is_sign_failed-clause-fault g c =
    let p = c.args.publisher.now in
    let w = world_of g.S.Scheme.signature_of g.S.Scheme.verifies g.S.Scheme.digest_of g.H.Nsec3Hasher.hash_of p in
    each_keys_refusal c.args.table.now w p.keys c.args.now.now c.in-Err.fault
    (is_other c.in-Err.fault (sym c.is_sign_failed.ensures ∙ c.if-is_sign_failed.false)) c.in-Err.ensures.fault

pub missing_keys_for-requires : goal.missing_keys_for-requires
missing_keys_for-requires g c =
    let p = c.args.publisher.now in
    let w = world_of g.S.Scheme.signature_of g.S.Scheme.verifies g.S.Scheme.digest_of g.H.Nsec3Hasher.hash_of p in
    keys_want c.args.table.now w p.keys c.args.now.now c.in-Err.fault (sym c.is_sign_failed.ensures ∙ c.if-is_sign_failed.true) c.in-Err.ensures.fault
