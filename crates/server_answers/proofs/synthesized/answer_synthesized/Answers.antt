use Rattle.std.proofs.Common.{◌≡◌, ◌∙◌, Bool, subst, ap}
use Rattle.std.proofs.lemmas.Result.{IfOk-weaker}
use Rattle.answer_publisher.specs.World.{world_of}
use Rattle.messages.specs.Message.{Asked}
use Rattle.messages.specs.Questions.{asked_of}
use Rattle.server_queries.specs.Views.{queried_of}
use Rattle.server_responses.specs.Responses.{is_dnssec_ok}
use Rattle.server_answers.specs.Messages.{Makes}
use Rattle.server_answers.specs.Responding.{is_for_keys}
use Rattle.server_answers.specs.Servers.{serving_by}
use Rattle.server_answers.specs.Synthesized.{AnswersSynthesized, IsMadeSynthesized, reserved}
use Rattle.server_answers.proofs.Making.{of_err, reads_whole, synthesized_answered, was_noted}
use Rattle.server_answers.proofs.synthesized.answer_synthesized.Goals as goal

pub synthesized_response-requires : goal.synthesized_response-requires
synthesized_response-requires g c =
    let p = c.args.publisher.now in
    let asked = asked_of c.reserved_question-reserved.result in
    let s = serving_by (world_of g.S.Scheme.signature_of g.S.Scheme.verifies g.S.Scheme.digest_of g.H.Nsec3Hasher.hash_of p) p.keys c.args.server.now in
    reads_whole s asked (is_for_keys p.zone.apex asked) c.is_dnssec_ok.result p.latest c.message_for-made.new.publisher.latest c.message_for-made.result c.message_for-made.ensures.made

pub returns-clause-response : goal.returns-clause-response
returns-clause-response g c =
    let p = c.args.publisher.now in
    let q = queried_of c.args.query.now in
    let asked = asked_of c.reserved_question-reserved.result in
    let s = serving_by (world_of g.S.Scheme.signature_of g.S.Scheme.verifies g.S.Scheme.digest_of g.H.Nsec3Hasher.hash_of p) p.keys c.args.server.now in
    let new = c.message_for-made.new.publisher.latest in
    let made = c.message_for-made.result in
    let asked_is : asked ≡ reserved q.asked = c.reserved_question-reserved.ensures ∙ ap reserved c.requires in
    let first : Makes s asked (is_for_keys p.zone.apex asked) (is_dnssec_ok q) p.latest new made =
    subst (λ (d : Bool). Makes s asked (is_for_keys p.zone.apex asked) d p.latest new made) c.is_dnssec_ok.ensures c.message_for-made.ensures.made in
    let makes : Makes s (reserved q.asked) (is_for_keys p.zone.apex (reserved q.asked)) (is_dnssec_ok q) p.latest new made =
    subst (λ (a : Asked). Makes s a (is_for_keys p.zone.apex a) (is_dnssec_ok q) p.latest new made) asked_is first in
    IfOk-weaker c.synthesized_response.result (IsMadeSynthesized s.limit s.size q s.addresses made) (AnswersSynthesized s q p.latest new) (λ r k. synthesized_answered s q p.latest new made r makes k) c.synthesized_response.ensures

pub returns-clause-memory : goal.returns-clause-memory
returns-clause-memory g c =
    let p = c.args.publisher.now in
    let asked = asked_of c.reserved_question-reserved.result in
    let s = serving_by (world_of g.S.Scheme.signature_of g.S.Scheme.verifies g.S.Scheme.digest_of g.H.Nsec3Hasher.hash_of p) p.keys c.args.server.now in
    of_err c.synthesized_response.result (was_noted s asked (is_for_keys p.zone.apex asked) c.is_dnssec_ok.result p.latest c.message_for-made.new.publisher.latest c.message_for-made.result c.message_for-made.ensures.made)
