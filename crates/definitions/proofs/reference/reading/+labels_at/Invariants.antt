use Rattle.definitions.proofs.reference.reading.+labels_at.Given as goal

abbrev pub decreases-labels_at : goal.decreases-labels_at
decreases-labels_at l = l.pointers
