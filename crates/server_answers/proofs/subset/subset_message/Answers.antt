use Rattle.std.proofs.Common.{false, subst}
use Rattle.answer_publisher.specs.World.{world_of}
use Rattle.messages.specs.Message.{Asked}
use Rattle.messages.specs.Questions.{asked_of}
use Rattle.server_answers.specs.Messages.{Makes}
use Rattle.server_answers.specs.Servers.{serving_by}
use Rattle.server_answers.proofs.Choosing.{asked_same, subset_made, subset_unmade}
use Rattle.server_answers.proofs.subset.subset_message.Goals as goal

pub returns-in-Ok-clause-made : goal.returns-in-Ok-clause-made
returns-in-Ok-clause-made g c =
    let p = c.args.publisher.now in
    let world = world_of g.S.Scheme.signature_of g.S.Scheme.verifies g.S.Scheme.digest_of g.H.Nsec3Hasher.hash_of in
    let server = c.args.server.now in
    let asked = asked_of c.args.question in
    let q = c.choose_type.new.question in
    let mid = c.choose_type.new.publisher.latest in
    let new = c.zone_message.new.publisher.latest in
    let made = c.zone_message.result in
    let first = subst (λ r. Makes (serving_by (world r) r.keys server) (asked_of q) false c.args.is_signed mid new made) c.in-Ok.ensures.rest c.zone_message.ensures.made in
    let makes = subst (λ (a : Asked). Makes (serving_by (world p) p.keys server) a false c.args.is_signed mid new made) (asked_same c.args.question q c.in-Ok.ensures.name c.in-Ok.ensures.class) first in
    subset_made (serving_by (world p) p.keys server) asked q.rtype c.args.is_signed p.latest mid new made c.in-Ok.ensures.chosen c.in-Ok.ensures.noted makes

pub returns-clause-made : goal.returns-clause-made
returns-clause-made g c =
    let p = c.args.publisher.now in
    let s = serving_by (world_of g.S.Scheme.signature_of g.S.Scheme.verifies g.S.Scheme.digest_of g.H.Nsec3Hasher.hash_of p) p.keys c.args.server.now in
    subset_unmade s (asked_of c.args.question) c.args.is_signed p.latest c.choose_type.new.publisher.latest c.in-Err.fault c.in-Err.ensures.fault c.in-Err.ensures.allowed c.in-Err.ensures.was
