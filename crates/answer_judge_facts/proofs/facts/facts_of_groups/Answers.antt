use Rattle.std.proofs.Common.{rules, ◌≡◌, length, map, sym, ap, subst, ◌∙◌, arith}
use Rattle.std.specs.Prelude.{Some}
use Rattle.std.specs.List.{filter_map}
use Rattle.messages.specs.Record.{spelled}
use Rattle.answer_judge_facts.specs.Marked.{hash_link_by, link_by, rrset_verified}
use Rattle.answer_judge_facts.specs.Ranked.{AreRanked}
use Rattle.answer_judge_facts.proofs.GroupPlaces.{front_ranked}
use Rattle.answer_judge_facts.proofs.JudgeFacts.{front_of, last_of, length_more}
use Rattle.answer_judge_facts.proofs.facts.facts_of_groups.Goals as goal

pub read_links-requires : goal.read_links-requires
read_links-requires c = subst AreRanked (sym c.deref.ensures.value) (front_ranked c.pop.new.self.items c.pop.result (subst AreRanked c.pop.ensures.items c.requires))

pub read_hash_links-requires : goal.read_hash_links-requires
read_hash_links-requires c = subst AreRanked (sym c.deref-2.ensures.value) (front_ranked c.pop.new.self.items c.pop.result (subst AreRanked c.pop.ensures.items c.requires))

pub returns : goal.returns
returns c = λ chains asked e.
    let rs = map spelled c.args.records.now in
    let gs = c.args.groups.items in
    let n = c.args.groups.len in
    let len : n ≡ length gs = search rules in
    let last = c.pop.ensures.value asked (omega (arith, len, ap length e ∙ length_more chains asked)) ∙ ap Some (last_of chains asked gs n e len asked) in
    let front = c.pop.ensures.rest ∙ front_of chains asked gs n e len in
    let rrset = c.in_ok-rrset.ensures ∙ ap rrset_verified last in
    let links = c.in_ok-links.ensures ∙ ap (λ gs. filter_map (link_by c.args.message.now gs) rs) (c.deref.ensures.value ∙ front) in
    let hash_links = c.in_ok-hash_links.ensures ∙ ap (λ gs. filter_map (hash_link_by c.args.apex.now c.args.message.now gs) rs) (c.deref-2.ensures.value ∙ front) in
    c.new.ensures ∙ (λ i. record { rrset = rrset i; links = links i; hash_links = hash_links i })
