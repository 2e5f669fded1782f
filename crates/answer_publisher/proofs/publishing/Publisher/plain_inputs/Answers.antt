use Rattle.std.proofs.Common.{◌≡◌, ◌++◌, ◌∙◌, false, length, ap, map, subst, rules}
use Rattle.definitions.specs.Zone.{verdict}
use Rattle.answer_terms.specs.GroupView.{view_of}
use Rattle.answer_terms.specs.Hashing.{served}
use Rattle.answer_terms.specs.Served.{answer_groups}
use Rattle.answer_zone.specs.HashedZone.{accepted_zone}
use Rattle.answer_zone.specs.ZoneAnswers.{answered}
use Rattle.answer_scheme.specs.Moments.{second_of}
use Rattle.messages.specs.Questions.{asked_of}
use Rattle.answer_publisher_keys.specs.Bindings.{keys_by_tag}
use Rattle.answer_publisher_keys.specs.declared.keys.Publication.{Publication}
use Rattle.answer_publisher.specs.Inputs.{all_inputs}
use Rattle.answer_publisher.specs.Signing.{signing}
use Rattle.answer_publisher.proofs.InputsMade.{inputs_presented}
use Rattle.answer_publisher.proofs.publishing.Publisher.plain_inputs.Goals as goal

pub returns-clause-inputs : goal.returns-clause-inputs
returns-clause-inputs g c =
    let z = accepted_zone c.args.self.now.zone in
    let made = c.in_ok-found.ensures.replies.0 in
    let found = c.in_ok-found.found in
    let role = c.signers_of-which.result in
    let at = second_of c.args.now.now in
    let life = c.args.self.now.life in
    let asked = asked_of c.args.question.now in
    let s = served (g.H.Nsec3Hasher.hash_of c.args.self.now.zone.hasher) z in
    let keys = keys_by_tag c.args.self.now.keys role in
    let pushed : c.push_inputs-2.new.inputs.items ≡ all_inputs z.apex at life keys found.answer.items ++ all_inputs z.apex at life keys found.authority.items = search rules in
    let which : role ≡ signing z.apex asked (length found.answer.items) = search rules in
    let role_is : role ≡ signing z.apex asked (answered (verdict s.zone false asked.name asked.rtype)) = which ∙ ap (λ n. signing z.apex asked n) made.split in
    subst (λ (p : Publication). c.push_inputs-2.new.inputs.items ≡ all_inputs z.apex at life (keys_by_tag c.args.self.now.keys p) (map view_of (answer_groups s asked.name asked.rtype))) role_is
    (pushed ∙ inputs_presented z.apex at life keys found.answer.items found.authority.items (answer_groups s asked.name asked.rtype) made.groups_are)
