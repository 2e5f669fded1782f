use Rattle.std.proofs.Common.{◌≡◌, ◌∙◌, [], ◌∷◌}
use Rattle.answer_terms.proofs.ZoneData.{if_ok_map}
use Rattle.answer_terms.specs.Hashing.{served}
use Rattle.answer_terms.specs.Served.{key_group, keys_ttl}
use Rattle.answer_zone.specs.HashedZone.{accepted_zone}
use Rattle.answer_scheme.specs.Moments.{second_of}
use Rattle.answer_publisher_keys.specs.Bindings.{keys_by_tag}
use Rattle.answer_publisher_keys.specs.declared.keys.Publication.TheVariants.{SignsKeys}
use Rattle.answer_publisher.specs.Inputs.{all_inputs}
use Rattle.answer_publisher.specs.World.{present_keys}
use Rattle.answer_publisher.proofs.InputsMade.{inputs_of_one}
use Rattle.answer_publisher.proofs.publishing.Publisher.dnskey_signing_inputs.Goals as goal
use Rattle.answer_terms.specs.GroupView.{view_of}

pub returns : goal.returns
returns g c =
    let z = accepted_zone c.args.self.now.zone in
    let at = second_of c.args.now.now in
    let life = c.args.self.now.life in
    let keys = keys_by_tag c.args.self.now.keys SignsKeys in
    let s = served (g.H.Nsec3Hasher.hash_of c.args.self.now.zone.hasher) z in
    let group = c.in_ok-group.group in
    let of = key_group z.apex (keys_ttl s) (present_keys c.args.self.now.keys) in
    if_ok_map
    (λ v. v.items ≡ all_inputs z.apex at life keys (group ∷ []))
    (λ v. v.items ≡ all_inputs z.apex at life keys (view_of of ∷ []))
    c.apex_inputs.result
    (λ v made. made ∙ inputs_of_one z.apex at life keys group of c.in_ok-group.ensures.presents)
    c.apex_inputs.ensures
