use Rattle.std.proofs.Common.{Bool, refl, subst}
use Rattle.std.proofs.lemmas.Result.{IfOk-weaker}
use Rattle.answer_publisher.specs.World.{world_of}
use Rattle.server_queries.specs.Views.{queried_of}
use Rattle.server_responses.specs.Responses.{is_dnssec_ok}
use Rattle.server_answers.specs.MadeOf.{IsMadeOf}
use Rattle.server_answers.specs.Parameters.{RespondsWithParameters, MakesParameters}
use Rattle.server_answers.specs.Servers.{serving_by}
use Rattle.server_answers.proofs.ParametersMade.{parameters_read}
use Rattle.server_answers.proofs.parameters.answer_parameters.Goals as goal

pub response_with-requires : goal.response_with-requires
response_with-requires g c =
    let p = c.args.publisher.now in
    let s = serving_by (world_of g.S.Scheme.signature_of g.S.Scheme.verifies g.S.Scheme.digest_of g.H.Nsec3Hasher.hash_of p) p.keys c.args.server.now in
    parameters_read s c.is_dnssec_ok.result c.parameters_message-made.result c.parameters_message-made.ensures

pub returns : goal.returns
returns g c =
    let p = c.args.publisher.now in
    let q = queried_of c.args.query.now in
    let s = serving_by (world_of g.S.Scheme.signature_of g.S.Scheme.verifies g.S.Scheme.digest_of g.H.Nsec3Hasher.hash_of p) p.keys c.args.server.now in
    let made = c.parameters_message-made.result in
    let makes : MakesParameters s (is_dnssec_ok q) made = subst (λ (d : Bool). MakesParameters s d made) c.is_dnssec_ok.ensures c.parameters_message-made.ensures in
    IfOk-weaker c.response_with.result (IsMadeOf s.limit s.size q s.addresses made) (RespondsWithParameters s q p.latest p.latest) (λ r k. (made, makes, k, refl)) c.response_with.ensures
