use Rattle.std.proofs.Common.{◌≡◌, true, false, refl, subst, rules}
use Rattle.std.proofs.lemmas.Result.{IfOk-weaker}
use Rattle.answer_publisher.specs.World.{world_of}
use Rattle.messages.specs.Message.{Asked}
use Rattle.messages.specs.Questions.{asked_of}
use Rattle.server_queries.specs.Views.{queried_of}
use Rattle.server_answers.specs.Answering.{RespondsItself}
use Rattle.server_answers.specs.Parameters.{RespondsWithParameters, is_for_parameters}
use Rattle.server_answers.specs.Responding.{AnswersHeld}
use Rattle.server_answers.specs.Servers.{serving_by}
use Rattle.answer_publisher.specs.Aliases.{asks_all}
use Rattle.server_answers.specs.Subset.{AnswersSubset}
use Rattle.server_answers.specs.Synthesized.{AnswersSynthesized, is_synthesized}
use Rattle.server_answers.proofs.Making.{answered_so}
use Rattle.server_answers.proofs.ParametersMade.{is_of_hashes}
use Rattle.server_answers.proofs.requests.answer_itself.Goals as goal

pub returns-then-is_synthesized-clause-response : goal.returns-then-is_synthesized-clause-response
returns-then-is_synthesized-clause-response g c =
    let p = c.args.publisher.now in
    let q = queried_of c.args.query.now in
    let s = serving_by (world_of g.S.Scheme.signature_of g.S.Scheme.verifies g.S.Scheme.digest_of g.H.Nsec3Hasher.hash_of p) p.keys c.args.server.now in
    let new = c.answer_synthesized.new.publisher.latest in
    let here : is_synthesized p.zone.apex p.zone.mode (asked_of c.args.question) ≡ true = search rules in
    let is : is_synthesized p.zone.apex p.zone.mode q.asked ≡ true = subst (λ (a : Asked). is_synthesized p.zone.apex p.zone.mode a ≡ true) c.requires here in
    IfOk-weaker c.answer_synthesized.result (AnswersSynthesized s q p.latest new) (RespondsItself s q p.latest new) (λ r k. answered_so s q p.latest new r true (asks_all q.asked) (is_for_parameters p.zone.apex p.zone.mode q.asked) is refl refl k) c.answer_synthesized.ensures.response

pub returns-then-asks_all-clause-response : goal.returns-then-asks_all-clause-response
returns-then-asks_all-clause-response g c =
    let p = c.args.publisher.now in
    let q = queried_of c.args.query.now in
    let s = serving_by (world_of g.S.Scheme.signature_of g.S.Scheme.verifies g.S.Scheme.digest_of g.H.Nsec3Hasher.hash_of p) p.keys c.args.server.now in
    let new = c.answer_subset.new.publisher.latest in
    let synthesized : is_synthesized p.zone.apex p.zone.mode (asked_of c.args.question) ≡ false = search rules in
    let held : is_synthesized p.zone.apex p.zone.mode q.asked ≡ false = subst (λ (a : Asked). is_synthesized p.zone.apex p.zone.mode a ≡ false) c.requires synthesized in
    let here : asks_all (asked_of c.args.question) ≡ true = search rules in
    let is : asks_all q.asked ≡ true = subst (λ (a : Asked). asks_all a ≡ true) c.requires here in
    IfOk-weaker c.answer_subset.result (AnswersSubset s q p.latest new) (RespondsItself s q p.latest new) (λ r k. answered_so s q p.latest new r false true (is_for_parameters p.zone.apex p.zone.mode q.asked) held is refl k) c.answer_subset.ensures.response

pub returns-clause-response : goal.returns-clause-response
returns-clause-response g c =
    let p = c.args.publisher.now in
    let q = queried_of c.args.query.now in
    let s = serving_by (world_of g.S.Scheme.signature_of g.S.Scheme.verifies g.S.Scheme.digest_of g.H.Nsec3Hasher.hash_of p) p.keys c.args.server.now in
    let new = c.answer_held.new.publisher.latest in
    let synthesized : is_synthesized p.zone.apex p.zone.mode (asked_of c.args.question) ≡ false = search rules in
    let held : is_synthesized p.zone.apex p.zone.mode q.asked ≡ false = subst (λ (a : Asked). is_synthesized p.zone.apex p.zone.mode a ≡ false) c.requires synthesized in
    let here : asks_all (asked_of c.args.question) ≡ false = search rules in
    let is : asks_all q.asked ≡ false = subst (λ (a : Asked). asks_all a ≡ false) c.requires here in
    let others : is_for_parameters p.zone.apex p.zone.mode (asked_of c.args.question) ≡ false = search rules in
    let other : is_for_parameters p.zone.apex p.zone.mode q.asked ≡ false = subst (λ (a : Asked). is_for_parameters p.zone.apex p.zone.mode a ≡ false) c.requires others in
    IfOk-weaker c.answer_held.result (AnswersHeld s q p.latest new) (RespondsItself s q p.latest new) (λ r k. answered_so s q p.latest new r false false false held is other k) c.answer_held.ensures.response

pub returns-then-is_for_parameters-clause-response : goal.returns-then-is_for_parameters-clause-response
returns-then-is_for_parameters-clause-response g c =
    let p = c.args.publisher.now in
    let q = queried_of c.args.query.now in
    let s = serving_by (world_of g.S.Scheme.signature_of g.S.Scheme.verifies g.S.Scheme.digest_of g.H.Nsec3Hasher.hash_of p) p.keys c.args.server.now in
    let synthesized : is_synthesized p.zone.apex p.zone.mode (asked_of c.args.question) ≡ false = search rules in
    let held : is_synthesized p.zone.apex p.zone.mode q.asked ≡ false = subst (λ (a : Asked). is_synthesized p.zone.apex p.zone.mode a ≡ false) c.requires synthesized in
    let here : asks_all (asked_of c.args.question) ≡ false = search rules in
    let is : asks_all q.asked ≡ false = subst (λ (a : Asked). asks_all a ≡ false) c.requires here in
    let there : is_for_parameters p.zone.apex p.zone.mode (asked_of c.args.question) ≡ true = search rules in
    let for_it : is_for_parameters p.zone.apex p.zone.mode q.asked ≡ true = subst (λ (a : Asked). is_for_parameters p.zone.apex p.zone.mode a ≡ true) c.requires there in
    IfOk-weaker c.answer_parameters.result (RespondsWithParameters s q p.latest p.latest) (RespondsItself s q p.latest p.latest) (λ r k. answered_so s q p.latest p.latest r false false true held is for_it k) c.answer_parameters.ensures

pub answer_parameters-requires : goal.answer_parameters-requires
answer_parameters-requires g c =
    let p = c.args.publisher.now in
    let there : is_for_parameters p.zone.apex p.zone.mode (asked_of c.args.question) ≡ true = search rules in
    is_of_hashes p.zone.apex p.zone.mode (asked_of c.args.question) there
