use Rattle.answer_judge_table.proofs.judging.judge_by_table.Given as goal

abbrev pub ghosts-make_by_table-T-GhostTable : goal.ghosts-make_by_table-T-GhostTable
ghosts-make_by_table-T-GhostTable g a = record { table = a.table.now; hasher = a.loan.hasher.ghost_name; before = g.H.NameHasher.hashed a.loan.hasher.now }

abbrev pub ghosts-make_by_table-L-Ledger : goal.ghosts-make_by_table-L-Ledger
ghosts-make_by_table-L-Ledger g a = record { name = a.first.name; parts = a.first.parts }

abbrev pub ghosts-make_by_table-M-Ledger : goal.ghosts-make_by_table-M-Ledger
ghosts-make_by_table-M-Ledger g a = record { name = a.second.name; parts = a.second.parts }
