use Rattle.std.proofs.Common.{Bool, true, refl, subst, sym}
use Rattle.std.specs.Prelude.{Ok, Err}
use Rattle.answer_publisher.specs.World.{world_of}
use Rattle.server_signatures.specs.declared.answering.Signed.TheVariants as signed
use Rattle.server_answers.specs.Messages.{Makes}
use Rattle.server_answers.specs.Servers.{serving_by}
use Rattle.server_answers.proofs.Making.{bare_keys_refused, keys_by_table}
use Rattle.server_answers.proofs.message.keys_message.Goals as goal

pub returns-then-is_signed : goal.returns-then-is_signed
returns-then-is_signed g c asked =
    let p = c.args.publisher.now in
    let s = serving_by (world_of g.S.Scheme.signature_of g.S.Scheme.verifies g.S.Scheme.digest_of g.H.Nsec3Hasher.hash_of p) p.keys c.args.server.now in
    let e = c.dnskey_answer_by_table.ensures in
    subst (λ (b : Bool). Makes s asked true b p.latest p.latest c.dnskey_answer_by_table.result) (sym c.if-is_signed.true) (keys_by_table s asked p.latest c.dnskey_answer_by_table.result e.signed e.fault)

pub returns-in-Ok : goal.returns-in-Ok
returns-in-Ok g c asked =
    let p = c.args.publisher.now in
    let s = serving_by (world_of g.S.Scheme.signature_of g.S.Scheme.verifies g.S.Scheme.digest_of g.H.Nsec3Hasher.hash_of p) p.keys c.args.server.now in
    subst (λ (b : Bool). Makes s asked true b p.latest p.latest (Ok (signed.Message c.in-Ok.message))) (sym c.if-is_signed.false) ((c.in-Ok.ensures.bytes, c.in-Ok.ensures.given), refl, refl)

pub returns-in-Err : goal.returns-in-Err
returns-in-Err g c asked =
    let p = c.args.publisher.now in
    let s = serving_by (world_of g.S.Scheme.signature_of g.S.Scheme.verifies g.S.Scheme.digest_of g.H.Nsec3Hasher.hash_of p) p.keys c.args.server.now in
    subst (λ (b : Bool). Makes s asked true b p.latest p.latest (Err c.in-Err.fault)) (sym c.if-is_signed.false) (c.in-Err.ensures.fault, refl, bare_keys_refused s asked c.in-Err.fault c.in-Err.ensures.fault)
