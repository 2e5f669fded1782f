use Rattle.names_labels.specs.Laws.{same_equivalence, name_cmp_total, name_cmp_ties}
use Rattle.names_flat.proofs.laws.canonical_order_is_total.Goals as goal

pub returns-clause-total : goal.returns-clause-total
returns-clause-total c = name_cmp_total

pub returns-clause-same : goal.returns-clause-same
returns-clause-same c = same_equivalence

pub returns-clause-equal : goal.returns-clause-equal
returns-clause-equal c = name_cmp_ties
