use Rattle.std.proofs.Common.{◌<◌, rules, subst, ◌∙◌}
use Rattle.definitions.specs.Name.{IsName}
use Rattle.messages.proofs.HandedData.{handed_from}
use Rattle.messages.specs.HandedRr.{HasNames}
use Rattle.messages.proofs.record.keeps.Goals as goal

pub returns : goal.returns
returns c =
    let t : c.to_int.result < 65536 = search rules in
    let s : c.as_secs.result < 4294967296 = search rules in
    handed_from c.args.rr.now (subst IsName c.owner.ensures c.keeps.ensures)
    (subst (λ n. n < 65536) (c.to_int.ensures ∙ c.rtype.ensures) t)
    (subst (λ n. n < 4294967296) (c.as_secs.ensures ∙ c.ttl.ensures) s)
    (subst HasNames c.data.ensures c.data_keep_names.ensures)
