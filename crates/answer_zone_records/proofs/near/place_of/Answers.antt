use Rattle.std.proofs.Common.{rules}
use Rattle.std.proofs.lemmas.List.Sorted.{IsPartitionPoint-from_clause}
use Rattle.definitions.specs.Covering.{before}
use Rattle.answer_zone_records.proofs.Neighboured.{is_partitioned}
use Rattle.answer_zone_records.proofs.near.place_of.Goals as goal

pub returns-clause-cut : goal.returns-clause-cut
returns-clause-cut g c = IsPartitionPoint-from_clause (λ x. before (g.T.Named.name_of x) c.args.name.now) c.args.items.now c.partition_point.result c.partition_point.ensures.partitioned (is_partitioned g.T.Named.name_of c.args.items.now c.args.name.now c.requires) (λ a r f' k. search rules)
