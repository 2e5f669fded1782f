use Rattle.std.proofs.Common.{[], ◌∷◌}
use Rattle.answer_publisher.specs.Answering.{AnswersKeys, RefusesKeys, ahead_of_records, apex_question}
use Rattle.answer_publisher_keys.specs.Bindings.{dnskeys, keys_by_tag, published}
use Rattle.answer_publisher.specs.Composed.{IsAnswer, RefusesGroups}
use Rattle.answer_terms.specs.Given.{GivesKeys}
use Rattle.answer_terms.specs.Served.{by_tag, key_group, keys_ttl}
use Rattle.answer_publisher.proofs.ApexAnswers.{apex_answered}
use Rattle.answer_publisher.proofs.WritesGiven.{keys_given}
use Rattle.answer_terms.proofs.ZoneData.{if_ok_map}
use Rattle.answer_scheme.specs.Moments.{second_of}
use Rattle.answer_terms.specs.Hashing.{served}
use Rattle.answer_zone.specs.HashedZone.{accepted_zone}
use Rattle.answer_publisher_keys.specs.declared.keys.Publication.TheVariants.{Present, SignsKeys}
use Rattle.answer_publisher.proofs.Refusals.{apex_refused, if_err_map}
use Rattle.answer_publisher.proofs.publishing.Publisher.dnskey_answer_with.Goals as goal
use Rattle.definitions.specs.Limits.{pointer_limit}

pub returns-clause-bytes : goal.returns-clause-bytes
returns-clause-bytes g c =
    let z = accepted_zone c.args.self.now.zone in
    let sign = g.T.Scheme.signature_of c.args.scheme.now in
    let verifies = g.T.Scheme.verifies c.args.scheme.now in
    let s = served (g.H.Nsec3Hasher.hash_of c.args.self.now.zone.hasher) z in
    let present = dnskeys (published c.args.self.now.keys Present) in
    let keys = keys_by_tag c.args.self.now.keys SignsKeys in
    let at = second_of c.args.now.now in
    let life = c.args.self.now.life in
    let group = c.in_ok-group.group in
    if_ok_map
    (λ m. IsAnswer sign verifies z.apex at life keys 33792 (apex_question z.apex group.rtype) (group ∷ []) [] m.items)
    (λ m. AnswersKeys sign verifies s z.apex at life present keys m.items)
    c.apex_answer.result
    (λ m w. apex_answered sign verifies z.apex at life keys (key_group z.apex (keys_ttl s) present) group m.items c.in_ok-group.ensures.presents w)
    c.apex_answer.ensures.written

pub returns-clause-given : goal.returns-clause-given
returns-clause-given g c =
    let z = accepted_zone c.args.self.now.zone in
    let sign = g.T.Scheme.signature_of c.args.scheme.now in
    let verifies = g.T.Scheme.verifies c.args.scheme.now in
    let hash = g.H.Nsec3Hasher.hash_of c.args.self.now.zone.hasher in
    let present = dnskeys (published c.args.self.now.keys Present) in
    let signers = dnskeys (published c.args.self.now.keys SignsKeys) in
    let at = second_of c.args.now.now in
    let life = c.args.self.now.life in
    let group = c.in_ok-group.group in
    if_ok_map
    (λ m. IsAnswer sign verifies z.apex at life (by_tag signers) 33792 (apex_question z.apex group.rtype) (group ∷ []) [] m.items)
    (λ m. GivesKeys verifies pointer_limit (keys_ttl (served hash z)) z.apex present signers at life m.items)
    c.apex_answer.result
    (λ m w. keys_given sign verifies hash z at life present signers m.items c.keeps.ensures.handed
    (apex_answered sign verifies z.apex at life (by_tag signers) (key_group z.apex (keys_ttl (served hash z)) present) group m.items c.in_ok-group.ensures.presents w))
    c.apex_answer.ensures.written

pub returns-clause-fault : goal.returns-clause-fault
returns-clause-fault g c =
    let z = accepted_zone c.args.self.now.zone in
    let sign = g.T.Scheme.signature_of c.args.scheme.now in
    let verifies = g.T.Scheme.verifies c.args.scheme.now in
    let keys = keys_by_tag c.args.self.now.keys SignsKeys in
    let present = dnskeys (published c.args.self.now.keys Present) in
    let at = second_of c.args.now.now in
    let life = c.args.self.now.life in
    let group = c.in_ok-group.group in
    let s = served (g.H.Nsec3Hasher.hash_of c.args.self.now.zone.hasher) z in
    if_err_map
    (RefusesGroups sign verifies z.apex at life keys (ahead_of_records (apex_question z.apex group.rtype)) (group ∷ []))
    (RefusesKeys sign verifies s z.apex at life present keys)
    c.apex_answer.result
    (λ f h. apex_refused sign verifies z.apex at life keys (key_group z.apex (keys_ttl s) present) group f c.in_ok-group.ensures.presents h)
    c.apex_answer.ensures.refused
