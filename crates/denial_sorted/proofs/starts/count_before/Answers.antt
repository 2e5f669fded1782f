use Rattle.std.proofs.Common.{rules, nat_lt}
use Rattle.std.proofs.lemmas.List.Sorted.{IsPartitionPoint-from_clause}
use Rattle.denial_sorted.proofs.starts.count_before.Goals as goal

pub returns-clause-cut : goal.returns-clause-cut
returns-clause-cut c = IsPartitionPoint-from_clause (λ s. nat_lt s c.args.place) c.args.starts.now c.partition_point.result c.partition_point.ensures.partitioned c.requires (λ a r f' k. search rules)
