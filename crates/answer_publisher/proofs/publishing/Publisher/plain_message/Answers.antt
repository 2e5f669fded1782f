use Rattle.std.proofs.Common.{◌≡◌, false, ◌++◌, ◌∙◌, length, ap, subst, rules}
use Rattle.std.specs.Prelude.{Err, IfErr, IfOk, Ok, OnOk, Result}
use Rattle.std.specs.List.{AllByRecursion}
use Rattle.definitions.specs.Limits.{pointer_limit}
use Rattle.definitions.specs.Zone.{verdict}
use Rattle.answer_terms.specs.Given.{GivesAnswer}
use Rattle.answer_terms.specs.Hashing.{served}
use Rattle.answer_terms.specs.Served.{by_tag}
use Rattle.answer_terms.proofs.ZoneData.{if_ok_map}
use Rattle.answer_zone.specs.HashedZone.{accepted_zone}
use Rattle.answer_zone.specs.ZoneAnswers.{answered}
use Rattle.answer_scheme.specs.Moments.{second_of}
use Rattle.messages.specs.Questions.{asked_of}
use Rattle.answer_publisher.specs.Answering.{AnswersZone, RefusesAnswer, ahead_of_records}
use Rattle.answer_publisher_keys.specs.Bindings.{dnskeys, keys_by_tag, published}
use Rattle.answer_publisher.specs.Composed.{IsAnswer, RefusesGroups}
use Rattle.answer_publisher.specs.Signing.{signing}
use Rattle.answer_publisher_keys.specs.declared.keys.Publication.{Publication}
use Rattle.answer_publisher.proofs.Refusals.{answer_refused, if_err_map}
use Rattle.answer_publisher.proofs.WritesGiven.{NamedView, answer_given}
use Rattle.answer_publisher.proofs.publishing.Publisher.plain_message.Goals as goal

of_value : {T E P : Type 0} (r : Result T E) → P → OnOk r P
of_value (Ok x) p = p
of_value (Err e) p = tt

pub returns-clause-bytes : goal.returns-clause-bytes
returns-clause-bytes g c =
    let z = accepted_zone c.args.self.now.zone in
    let sign = g.T.Scheme.signature_of c.args.scheme.now in
    let verifies = g.T.Scheme.verifies c.args.scheme.now in
    let made = c.in_ok-found.ensures.replies.0 in
    let found = c.in_ok-found.found in
    let role = c.signers_of-which.result in
    let keys = keys_by_tag c.args.self.now.keys role in
    let written : IfOk c.compose_answer.result (λ m. IsAnswer sign verifies z.apex (second_of c.args.now.now) c.args.self.now.life keys found.flags (asked_of c.args.question.now) found.answer.items found.authority.items m.items) = search rules in
    let served_as = served (g.H.Nsec3Hasher.hash_of c.args.self.now.zone.hasher) z in
    let asked = asked_of c.args.question.now in
    let which : role ≡ signing z.apex asked (length found.answer.items) = search rules in
    let role_is : role ≡ signing z.apex asked (answered (verdict served_as.zone false asked.name asked.rtype)) = which ∙ ap (λ n. signing z.apex asked n) made.split in
    subst (λ (p : Publication). IfOk c.compose_answer.result (λ m. AnswersZone sign verifies served_as z.apex (second_of c.args.now.now) c.args.self.now.life (keys_by_tag c.args.self.now.keys p) asked m.items)) role_is
    (if_ok_map
    (λ m. IsAnswer sign verifies z.apex (second_of c.args.now.now) c.args.self.now.life keys found.flags (asked_of c.args.question.now) found.answer.items found.authority.items m.items)
    (λ m. AnswersZone sign verifies served_as z.apex (second_of c.args.now.now) c.args.self.now.life keys (asked_of c.args.question.now) m.items)
    c.compose_answer.result
    (λ m w. record {
      answer = found.answer.items;
      authority = found.authority.items;
      groups_are = made.groups_are;
      split = made.split;
      written = subst (λ f. IsAnswer sign verifies z.apex (second_of c.args.now.now) c.args.self.now.life keys f (asked_of c.args.question.now) found.answer.items found.authority.items m.items) made.flags_are w;
    })
    written)

pub returns-clause-given : goal.returns-clause-given
returns-clause-given g c =
    let z = accepted_zone c.args.self.now.zone in
    let sign = g.T.Scheme.signature_of c.args.scheme.now in
    let verifies = g.T.Scheme.verifies c.args.scheme.now in
    let hash = g.H.Nsec3Hasher.hash_of c.args.self.now.zone.hasher in
    let made = c.in_ok-found.ensures.replies.0 in
    let found = c.in_ok-found.found in
    let role = c.signers_of-which.result in
    let signers = dnskeys (published c.args.self.now.keys role) in
    let asked = asked_of c.args.question.now in
    let at = second_of c.args.now.now in
    let life = c.args.self.now.life in
    let plain = c.requires.plain in
    let owners : AllByRecursion NamedView found.answer.items = subst (AllByRecursion NamedView) c.deref.ensures.value c.owners_keep.ensures in
    let others : AllByRecursion NamedView found.authority.items = subst (AllByRecursion NamedView) c.deref-2.ensures.value c.owners_keep-2.ensures in
    let written : IfOk c.compose_answer.result (λ m. IsAnswer sign verifies z.apex at life (by_tag signers) found.flags asked found.answer.items found.authority.items m.items) = search rules in
    let which : role ≡ signing z.apex asked (length found.answer.items) = search rules in
    let role_is : role ≡ signing z.apex asked (answered (verdict (served hash z).zone false asked.name asked.rtype)) = which ∙ ap (λ n. signing z.apex asked n) made.split in
    subst (λ (p : Publication). IfOk c.compose_answer.result (λ m. GivesAnswer verifies pointer_limit (served hash z) z.apex (dnskeys (published c.args.self.now.keys p)) at life asked m.items)) role_is
    (if_ok_map
    (λ m. IsAnswer sign verifies z.apex at life (by_tag signers) found.flags asked found.answer.items found.authority.items m.items)
    (λ m. GivesAnswer verifies pointer_limit (served hash z) z.apex signers at life asked m.items)
    c.compose_answer.result
    (λ m w. answer_given sign verifies hash z at life found.flags signers asked found.answer.items found.authority.items m.items c.keeps.ensures.published c.keeps.ensures.handed
    c.keeps-2.ensures plain owners others made.groups_are w)
    written)

pub returns-clause-fault : goal.returns-clause-fault
returns-clause-fault g c =
    let z = accepted_zone c.args.self.now.zone in
    let sign = g.T.Scheme.signature_of c.args.scheme.now in
    let verifies = g.T.Scheme.verifies c.args.scheme.now in
    let hash = g.H.Nsec3Hasher.hash_of c.args.self.now.zone.hasher in
    let made = c.in_ok-found.ensures.replies.0 in
    let found = c.in_ok-found.found in
    let role = c.signers_of-which.result in
    let keys = keys_by_tag c.args.self.now.keys role in
    let asked = asked_of c.args.question.now in
    let at = second_of c.args.now.now in
    let life = c.args.self.now.life in
    let groups = found.answer.items ++ found.authority.items in
    let refused : IfErr c.compose_answer.result (RefusesGroups sign verifies z.apex at life keys (ahead_of_records asked) groups) = search rules in
    let which : role ≡ signing z.apex asked (length found.answer.items) = search rules in
    let role_is : role ≡ signing z.apex asked (answered (verdict (served hash z).zone false asked.name asked.rtype)) = which ∙ ap (λ n. signing z.apex asked n) made.split in
    subst (λ (p : Publication). IfErr c.compose_answer.result (RefusesAnswer sign verifies hash (served hash z) z.apex at life (keys_by_tag c.args.self.now.keys p) asked)) role_is
    (if_err_map
    (RefusesGroups sign verifies z.apex at life keys (ahead_of_records asked) groups)
    (RefusesAnswer sign verifies hash (served hash z) z.apex at life keys asked)
    c.compose_answer.result
    (λ f h. answer_refused sign verifies hash (served hash z) z.apex at life keys asked groups f made.groups_are h)
    refused)

pub returns-clause-hashed : goal.returns-clause-hashed
returns-clause-hashed g c = of_value c.compose_answer.result c.in_ok-found.ensures.replies.1
