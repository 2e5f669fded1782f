use Rattle.std.proofs.Common.{◌≡◌, ◌∙◌, true, false, rules}
use Rattle.answer_publisher.specs.World.{world_of}
use Rattle.messages.specs.Questions.{asked_of}
use Rattle.server_answers.specs.Subset.{is_no_data}
use Rattle.server_answers.proofs.Choosing.{listed_first, listed_none}
use Rattle.server_answers.proofs.subset.choose_listed.Goals as goal

pub returns-then-is_no_data-clause-listed : goal.returns-then-is_no_data-clause-listed
returns-then-is_no_data-clause-listed g c =
    let p = c.args.publisher.now in
    let q = c.args.question.now in
    let none : is_no_data c.args.message.now ≡ true = search rules in
    listed_first (world_of g.S.Scheme.signature_of g.S.Scheme.verifies g.S.Scheme.digest_of g.H.Nsec3Hasher.hash_of p) p.keys c.args.at.now c.choose_first.result (asked_of q) c.args.message.now c.deref.result.now c.choose_first.new.question.rtype q.rtype none
    (c.deref.ensures.value ∙ c.in_ok-types.ensures) c.choose_first.ensures.first

pub returns-clause-listed : goal.returns-clause-listed
returns-clause-listed g c =
    let p = c.args.publisher.now in
    let none : is_no_data c.args.message.now ≡ false = search rules in
    listed_none (world_of g.S.Scheme.signature_of g.S.Scheme.verifies g.S.Scheme.digest_of g.H.Nsec3Hasher.hash_of p) p.keys c.args.at.now (asked_of c.args.question.now) c.args.message.now c.args.question.now.rtype none
