use Rattle.std.proofs.Common.{◌≡◌, false, map, ap, ◌∙◌}
use Rattle.definitions.specs.Limits.{pointer_limit}
use Rattle.messages.specs.Record.{spelled}
use Rattle.answer_judge_facts.specs.Marked.{AreGathered, is_chain_type}
use Rattle.answer_judge_facts.specs.Verified.{rrset_in}
use Rattle.answer_judge_facts.proofs.ChainsWhole.{all_chain, gathered_whole}
use Rattle.answer_judge_facts.proofs.GroupPlaces.{asked_ranked}
use Rattle.answer_judge_facts.proofs.facts.sought_groups.Goals as goal

pub read_chain_groups-requires-clause-chain : goal.read_chain_groups-requires-clause-chain
read_chain_groups-requires-clause-chain c = all_chain c.args.message.now c.args.asked.now.apex.now (map spelled c.args.records.now) (map spelled c.args.chained.now) c.requires.moved

pub returns : goal.returns
returns c =
    let m = c.args.message.now in
    let apex = c.args.asked.now.apex.now in
    let rs = map spelled c.args.records.now in
    let chains = c.in_ok-groups.groups.items in
    let asked = c.in_ok-read_group.field-0 in
    let is = c.in_ok-read_group.ensures in
    let whole : AreGathered m apex rs rs chains = gathered_whole m apex rs (map spelled c.args.chained.now) c.requires.moved chains c.in_ok-groups.ensures.gathered in
    let other : is_chain_type asked.rtype ≡ false = ap is_chain_type is.rtype ∙ c.requires.other in
    record {
      chains = chains;
      asked = asked;
      are = c.in_ok-push.ensures.items;
      ranked = asked_ranked m apex rs chains asked c.push.new.self.items whole.each c.in_ok-groups.ensures.ranked other c.in_ok-push.ensures.items;
      gathered = whole;
      owner_is = is.owner ∙ c.in_ok-owner.ensures;
      rtype_is = is.rtype;
      datas_are = is.items ∙ ap (λ n. rrset_in pointer_limit m rs n c.args.asked.now.rtype) c.in_ok-owner.ensures;
      unverified = is.unverified;
    }
