use Rattle.std.proofs.Common.{rules}
use Rattle.std.specs.Ordering.{is_le}
use Rattle.std.proofs.lemmas.List.Sorted.{IsPartitionPoint-from_clause}
use Rattle.definitions.specs.Name.{name_cmp}
use Rattle.answer_zone_records.proofs.Neighboured.{is_partitioned_behind}
use Rattle.answer_zone_records.proofs.near.place_behind.Goals as goal

pub returns-clause-cut : goal.returns-clause-cut
returns-clause-cut g c = IsPartitionPoint-from_clause (λ x. is_le (name_cmp (g.T.Named.name_of x) c.args.name.now)) c.args.items.now c.partition_point.result c.partition_point.ensures.partitioned (is_partitioned_behind g.T.Named.name_of c.args.items.now c.args.name.now c.requires) (λ a r f' k. search rules)
