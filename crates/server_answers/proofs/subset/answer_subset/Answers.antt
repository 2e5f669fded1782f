use Rattle.std.proofs.Common.{Bool, subst}
use Rattle.std.proofs.lemmas.Result.{IfOk-weaker}
use Rattle.answer_publisher.specs.World.{world_of}
use Rattle.messages.specs.Message.{Asked}
use Rattle.messages.specs.Questions.{asked_of}
use Rattle.server_queries.specs.Views.{queried_of}
use Rattle.server_answers.specs.MadeOf.{IsMadeOf}
use Rattle.server_answers.specs.Servers.{serving_by}
use Rattle.server_answers.specs.Subset.{AnswersSubset, MakesSubset, wants_signatures}
use Rattle.server_answers.proofs.Making.{of_err}
use Rattle.server_answers.proofs.Choosing.{subset_answered, subset_reads, subset_was}
use Rattle.server_answers.proofs.subset.answer_subset.Goals as goal

pub response_with-requires : goal.response_with-requires
response_with-requires g c =
    let p = c.args.publisher.now in
    let s = serving_by (world_of g.S.Scheme.signature_of g.S.Scheme.verifies g.S.Scheme.digest_of g.H.Nsec3Hasher.hash_of p) p.keys c.args.server.now in
    subset_reads s (asked_of c.args.question) c.wants_signatures-is_signed.result p.latest c.subset_message-made.new.publisher.latest c.subset_message-made.result c.subset_message-made.ensures.made

pub returns-clause-response : goal.returns-clause-response
returns-clause-response g c =
    let p = c.args.publisher.now in
    let q = queried_of c.args.query.now in
    let asked = asked_of c.args.question in
    let s = serving_by (world_of g.S.Scheme.signature_of g.S.Scheme.verifies g.S.Scheme.digest_of g.H.Nsec3Hasher.hash_of p) p.keys c.args.server.now in
    let new = c.subset_message-made.new.publisher.latest in
    let made = c.subset_message-made.result in
    let first : MakesSubset s asked (wants_signatures q) p.latest new made =
    subst (λ (d : Bool). MakesSubset s asked d p.latest new made) c.wants_signatures-is_signed.ensures c.subset_message-made.ensures.made in
    let makes : MakesSubset s q.asked (wants_signatures q) p.latest new made =
    subst (λ (a : Asked). MakesSubset s a (wants_signatures q) p.latest new made) c.requires first in
    IfOk-weaker c.response_with.result (IsMadeOf s.limit s.size q s.addresses made) (AnswersSubset s q p.latest new) (λ r k. subset_answered s q p.latest new made r makes k) c.response_with.ensures

pub returns-clause-memory : goal.returns-clause-memory
returns-clause-memory g c =
    let p = c.args.publisher.now in
    let s = serving_by (world_of g.S.Scheme.signature_of g.S.Scheme.verifies g.S.Scheme.digest_of g.H.Nsec3Hasher.hash_of p) p.keys c.args.server.now in
    of_err c.response_with.result (subset_was s (asked_of c.args.question) c.wants_signatures-is_signed.result p.latest c.subset_message-made.new.publisher.latest c.subset_message-made.result c.subset_message-made.ensures.made)
