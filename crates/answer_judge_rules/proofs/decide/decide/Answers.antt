use Rattle.std.proofs.Common.{◌+◌, ◌≤◌, length, arith}
use Rattle.denial_laws.specs.Deciding.{hashed}
use Rattle.denial_laws.proofs.FewHashes.{few_hashes}
use Rattle.answer_judge_rules.specs.Hashes.{fails_among, hash_among, up_to}
use Rattle.answer_judge_rules.proofs.InTurn.{all_counted, at_least, at_most, no_more, none_failed, some_failed}
use Rattle.messages.proofs.NameLaws.{length-le-wire_len}
use Rattle.answer_judge_rules.proofs.decide.decide.Goals as goal

pub by_rules-requires : goal.by_rules-requires
by_rules-requires g c = omega (arith, length-le-wire_len c.args.asked.now.name.now c.keeps.ensures.labels, c.keeps.ensures.short)

pub returns-clause-hashed : goal.returns-clause-hashed
returns-clause-hashed g c =
    let a = (g.C.Checks.answers c.args.checks.now).hash in
    let f = c.args.facts in
    none_failed (fails_among a f.hash_links) (hashed c.args.asked.now.apex.now (hash_among a f.hash_links) f c.args.asked.now.name.now) (g.C.Checks.hashed c.args.checks.now) (g.C.Checks.hashed c.by_rules.new.checks) c.by_rules.result c.by_rules.ensures.hashes

pub returns-clause-failed : goal.returns-clause-failed
returns-clause-failed g c =
    let a = (g.C.Checks.answers c.args.checks.now).hash in
    let f = c.args.facts in
    some_failed (fails_among a f.hash_links) (hashed c.args.asked.now.apex.now (hash_among a f.hash_links) f c.args.asked.now.name.now) (g.C.Checks.hashed c.args.checks.now) (g.C.Checks.hashed c.by_rules.new.checks) c.by_rules.result c.by_rules.ensures.hashes

pub returns-clause-counted : goal.returns-clause-counted
returns-clause-counted g c =
    let a = (g.C.Checks.answers c.args.checks.now).hash in
    let f = c.args.facts in
    all_counted (fails_among a f.hash_links) (hashed c.args.asked.now.apex.now (hash_among a f.hash_links) f c.args.asked.now.name.now) (g.C.Checks.hashed c.args.checks.now) (g.C.Checks.hashed c.by_rules.new.checks) c.by_rules.result c.by_rules.ensures.hashes

pub returns-clause-most : goal.returns-clause-most
returns-clause-most g c =
    let a = (g.C.Checks.answers c.args.checks.now).hash in
    let f = c.args.facts in
    at_most (fails_among a f.hash_links) (hashed c.args.asked.now.apex.now (hash_among a f.hash_links) f c.args.asked.now.name.now) (g.C.Checks.hashed c.args.checks.now) (g.C.Checks.hashed c.by_rules.new.checks) c.by_rules.result c.by_rules.ensures.hashes

pub returns-clause-least : goal.returns-clause-least
returns-clause-least g c =
    let a = (g.C.Checks.answers c.args.checks.now).hash in
    let f = c.args.facts in
    at_least (fails_among a f.hash_links) (hashed c.args.asked.now.apex.now (hash_among a f.hash_links) f c.args.asked.now.name.now) (g.C.Checks.hashed c.args.checks.now) (g.C.Checks.hashed c.by_rules.new.checks) c.by_rules.result c.by_rules.ensures.hashes

pub returns-clause-few : goal.returns-clause-few
returns-clause-few g c =
    let a = (g.C.Checks.answers c.args.checks.now).hash in
    let f = c.args.facts in
    let fails = fails_among a f.hash_links in
    let names = hashed c.args.asked.now.apex.now (hash_among a f.hash_links) f c.args.asked.now.name.now in
    let most : g.C.Checks.hashed c.by_rules.new.checks ≤ g.C.Checks.hashed c.args.checks.now + length (up_to fails names) = at_most fails names (g.C.Checks.hashed c.args.checks.now) (g.C.Checks.hashed c.by_rules.new.checks) c.by_rules.result c.by_rules.ensures.hashes in
    let fewer : length (up_to fails names) ≤ length names = no_more fails names in
    let few : length names ≤ length c.args.asked.now.name.now + 2 = (few_hashes c.args.asked.now.apex.now (hash_among a f.hash_links) f c.args.asked.now.name.now).few in
    omega (arith, most, fewer, few)
