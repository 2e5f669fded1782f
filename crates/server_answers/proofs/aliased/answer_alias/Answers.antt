use Rattle.std.proofs.Common.{false}
use Rattle.answer_publisher.specs.World.{world_of}
use Rattle.messages.specs.Questions.{asked_of}
use Rattle.server_answers.specs.Servers.{serving_by}
use Rattle.server_answers.proofs.Making.{reads_whole}
use Rattle.server_answers.proofs.aliased.answer_alias.Goals as goal

pub redirect_with-requires : goal.redirect_with-requires
redirect_with-requires g c =
    let p = c.args.publisher.now in
    let a = asked_of c.args.alias.now in
    let s = serving_by (world_of g.S.Scheme.signature_of g.S.Scheme.verifies g.S.Scheme.digest_of g.H.Nsec3Hasher.hash_of p) p.keys c.args.server.now in
    reads_whole s a false c.wants_signatures.result p.latest c.zone_message-made.new.publisher.latest c.zone_message-made.result c.zone_message-made.ensures.made

pub response_with-requires : goal.response_with-requires
response_with-requires g c =
    let p = c.args.publisher.now in
    let a = asked_of c.args.alias.now in
    let s = serving_by (world_of g.S.Scheme.signature_of g.S.Scheme.verifies g.S.Scheme.digest_of g.H.Nsec3Hasher.hash_of p) p.keys c.args.server.now in
    reads_whole s a false c.wants_signatures.result p.latest c.zone_message-made.new.publisher.latest c.zone_message-made.result c.zone_message-made.ensures.made
