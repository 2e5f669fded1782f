use Rattle.std.proofs.Common.{rules}
use Rattle.std.proofs.lemmas.List.Sorted.{IsPartitionPoint-from_clause}
use Rattle.std.proofs.lemmas.Cmp.{nat_list_cmp_total}
use Rattle.definitions.specs.ZoneChain.{hash_cmp}
use Rattle.answer_terms.specs.HashedLinks.{HashedLink}
use Rattle.answer_zone_records.specs.Round.{is_hash_up_to}
use Rattle.answer_zone_records.proofs.Rounds.{up_to_partitioned}
use Rattle.answer_zone_records.proofs.hash_chain.count_up_to.Goals as goal

pub returns-clause-cut : goal.returns-clause-cut
returns-clause-cut c = IsPartitionPoint-from_clause (is_hash_up_to c.args.hash.now) c.args.chain.now c.partition_point.result c.partition_point.ensures.partitioned (up_to_partitioned hash_cmp nat_list_cmp_total (λ (l : HashedLink). l.hash) c.args.chain.now c.args.hash.now c.requires.ascending) (λ a r f' k. search rules)
