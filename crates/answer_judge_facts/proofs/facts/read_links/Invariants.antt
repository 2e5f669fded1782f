use Rattle.std.proofs.Common.{◌≡◌, ◌++◌, drop, map}
use Rattle.std.specs.List.{filter_map}
use Rattle.answer_judge_facts.specs.Marked.{link_by}
use Rattle.messages.specs.Record.{spelled}
use Rattle.answer_judge_facts.proofs.facts.read_links.Given as goal

abbrev pub invariant-loop-record : goal.invariant-loop-record
invariant-loop-record l = l.links.items ++ filter_map (link_by l.message l.groups) (map spelled (drop l.record-index l.records)) ≡ filter_map (link_by l.message l.groups) (map spelled l.records)
