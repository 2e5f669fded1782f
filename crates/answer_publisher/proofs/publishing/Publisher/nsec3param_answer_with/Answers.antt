use Rattle.std.proofs.Common.{Some, subst}
use Rattle.std.proofs.lemmas.Result.{err_from_is_err_and}
use Rattle.definitions.specs.Name.{low}
use Rattle.answer_scheme.specs.Moments.{second_of}
use Rattle.answer_terms.specs.GroupView.{GroupView, Presents}
use Rattle.answer_terms.specs.Served.{ServedRrset, ttl_among}
use Rattle.answer_zone.specs.HashedZone.{accepted_zone}
use Rattle.answer_publisher_keys.specs.Bindings.{dnskeys, keys_by_tag, published}
use Rattle.answer_publisher_keys.specs.declared.keys.Publication.TheVariants.{SignsZone}
use Rattle.answer_publisher.specs.Parameters.{OfBoth, parameters_of_chain}
use Rattle.answer_publisher.proofs.ApexAnswers.{parameters_given, parameters_refused}
use Rattle.answer_publisher.proofs.publishing.Publisher.nsec3param_answer_with.Goals as goal

pub returns-in_err-message-clause-fault : goal.returns-in_err-message-clause-fault
returns-in_err-message-clause-fault g c =
    let z = accepted_zone c.args.self.now.zone in
    let sign = g.T.Scheme.signature_of c.args.scheme.now in
    let verifies = g.T.Scheme.verifies c.args.scheme.now in
    let keys = keys_by_tag c.args.self.now.keys SignsZone in
    let all = parameters_of_chain z.apex (ttl_among z.records (low z.apex) 6) z.mode in
    let seen : OfBoth (λ of v. Presents v of) all (Some c.in-Some.group) = subst (OfBoth (λ (of : ServedRrset) (v : GroupView). Presents v of) all) c.in-Some.is c.in_ok-group.ensures.presents in
    let from = err_from_is_err_and c.from_residual-in_err-message.result c.from_residual-in_err-message.ensures.1 in
    rw (from.1, from.2) (parameters_refused sign verifies z.apex z.records (second_of c.args.now.now) c.args.self.now.life keys z.mode c.in-Some.group c.in_err-message.field-0.0 seen c.in_err-message.ensures.refused)

pub returns-clause-given : goal.returns-clause-given
returns-clause-given g c =
    let z = accepted_zone c.args.self.now.zone in
    let sign = g.T.Scheme.signature_of c.args.scheme.now in
    let verifies = g.T.Scheme.verifies c.args.scheme.now in
    let signers = dnskeys (published c.args.self.now.keys SignsZone) in
    let all = parameters_of_chain z.apex (ttl_among z.records (low z.apex) 6) z.mode in
    let seen : OfBoth (λ of v. Presents v of) all (Some c.in-Some.group) = subst (OfBoth (λ (of : ServedRrset) (v : GroupView). Presents v of) all) c.in-Some.is c.in_ok-group.ensures.presents in
    parameters_given sign verifies z.apex z.records (second_of c.args.now.now) c.args.self.now.life signers z.mode c.in-Some.group c.in_ok-message.message.items c.keeps.ensures.handed seen c.in_ok-message.ensures.written
