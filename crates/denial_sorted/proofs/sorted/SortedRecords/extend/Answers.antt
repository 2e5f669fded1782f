use Rattle.denial_sorted.proofs.sorted.SortedRecords.extend.Goals as goal

pub invariant_of-self : goal.invariant_of-self
invariant_of-self g c = (c.self.invariant.0, c.add_all.ensures.order, c.add_all.ensures.starts)
