use Rattle.std.proofs.Common.{rules}
use Rattle.std.proofs.lemmas.List.Sorted.{IsPartitionPoint-from_clause}
use Rattle.definitions.specs.Name.{name_cmp}
use Rattle.definitions.proofs.NameLaws.{name_cmp_total}
use Rattle.answer_terms.specs.Links.{ChainLink}
use Rattle.answer_zone_records.specs.Round.{is_up_to}
use Rattle.answer_zone_records.proofs.Rounds.{up_to_partitioned}
use Rattle.answer_zone_records.proofs.chain.count_up_to.Goals as goal

pub returns-clause-cut : goal.returns-clause-cut
returns-clause-cut c = IsPartitionPoint-from_clause (is_up_to c.args.name.now) c.args.chain.now c.partition_point.result c.partition_point.ensures.partitioned (up_to_partitioned name_cmp name_cmp_total (λ (l : ChainLink). l.owner) c.args.chain.now c.args.name.now c.requires) (λ a r f' k. search rules)
