use Rattle.std.proofs.Common.{Bool, false, ap, subst, sym}
use Rattle.std.specs.Prelude.{Ok, Err}
use Rattle.answer_publisher.specs.Aliases.{is_answered}
use Rattle.answer_publisher.specs.World.{world_of}
use Rattle.messages.specs.Questions.{asked_of}
use Rattle.server_signatures.specs.declared.answering.Signed.TheVariants as signed
use Rattle.server_answers.specs.Messages.{Makes}
use Rattle.server_answers.specs.Servers.{serving_by}
use Rattle.server_answers.proofs.Making.{by_table, is_allowed_for, tells_of}
use Rattle.server_answers.proofs.message.zone_message.Goals as goal

pub returns-then-is_signed-clause-made : goal.returns-then-is_signed-clause-made
returns-then-is_signed-clause-made g c =
    let p = c.args.publisher.now in
    let asked = asked_of c.args.question.now in
    let s = serving_by (world_of g.S.Scheme.signature_of g.S.Scheme.verifies g.S.Scheme.digest_of g.H.Nsec3Hasher.hash_of p) p.keys c.args.server.now in
    let e = c.answer_by_table.ensures in
    let new = c.answer_by_table.new.publisher.latest in
    subst (λ (b : Bool). Makes s asked false b p.latest new c.answer_by_table.result) (sym c.if-is_signed.true) (by_table s asked p.latest new c.answer_by_table.result e.signed e.fault e.allowed (ap (λ q. q.latest) e.noted))

pub returns-in-Ok-clause-made : goal.returns-in-Ok-clause-made
returns-in-Ok-clause-made g c =
    let p = c.args.publisher.now in
    let asked = asked_of c.args.question.now in
    let s = serving_by (world_of g.S.Scheme.signature_of g.S.Scheme.verifies g.S.Scheme.digest_of g.H.Nsec3Hasher.hash_of p) p.keys c.args.server.now in
    let e = c.in-Ok.ensures in
    let new = c.answer_any_with.new.self.latest in
    subst (λ (b : Bool). Makes s asked false b p.latest new (Ok (signed.Message c.in-Ok.message))) (sym c.if-is_signed.false) ((e.bytes, e.given), ap (λ q. q.latest) e.noted, is_allowed_for c.in-Ok.message (is_answered p.zone.apex asked) e.allowed)

pub returns-in-Err-clause-made : goal.returns-in-Err-clause-made
returns-in-Err-clause-made g c =
    let p = c.args.publisher.now in
    let asked = asked_of c.args.question.now in
    let s = serving_by (world_of g.S.Scheme.signature_of g.S.Scheme.verifies g.S.Scheme.digest_of g.H.Nsec3Hasher.hash_of p) p.keys c.args.server.now in
    let e = c.in-Err.ensures in
    let new = c.answer_any_with.new.self.latest in
    subst (λ (b : Bool). Makes s asked false b p.latest new (Err c.in-Err.fault)) (sym c.if-is_signed.false) (e.fault, ap (λ q. q.latest) e.refused, tells_of p.zone.apex asked c.in-Err.fault e.allowed)
