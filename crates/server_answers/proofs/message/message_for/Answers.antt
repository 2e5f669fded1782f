use Rattle.std.proofs.Common.{◌≡◌, Bool, true, false, subst, sym, rules}
use Rattle.answer_publisher.specs.World.{world_of}
use Rattle.messages.specs.Questions.{asked_of}
use Rattle.server_answers.specs.Messages.{Makes}
use Rattle.server_answers.specs.Responding.{is_for_keys}
use Rattle.server_answers.specs.Servers.{serving_by}
use Rattle.server_answers.proofs.message.message_for.Goals as goal

pub returns-then-is_for_keys-clause-made : goal.returns-then-is_for_keys-clause-made
returns-then-is_for_keys-clause-made g c =
    let p = c.args.publisher.now in
    let asked = asked_of c.args.question.now in
    let s = serving_by (world_of g.S.Scheme.signature_of g.S.Scheme.verifies g.S.Scheme.digest_of g.H.Nsec3Hasher.hash_of p) p.keys c.args.server.now in
    let is : is_for_keys p.zone.apex asked ≡ true = search rules in
    subst (λ (b : Bool). Makes s asked b c.args.is_signed p.latest p.latest c.keys_message.result) (sym is) (c.keys_message.ensures asked)

pub returns-clause-made : goal.returns-clause-made
returns-clause-made g c =
    let p = c.args.publisher.now in
    let asked = asked_of c.args.question.now in
    let s = serving_by (world_of g.S.Scheme.signature_of g.S.Scheme.verifies g.S.Scheme.digest_of g.H.Nsec3Hasher.hash_of p) p.keys c.args.server.now in
    let is : is_for_keys p.zone.apex asked ≡ false = search rules in
    subst (λ (b : Bool). Makes s asked b c.args.is_signed p.latest c.zone_message.new.publisher.latest c.zone_message.result) (sym is) c.zone_message.ensures.made
