use Rattle.answer_judge_table.proofs.judging.wanted_unhashed.Given as goal

abbrev pub ghosts-wanted_by_table-T-GhostTable : goal.ghosts-wanted_by_table-T-GhostTable
ghosts-wanted_by_table-T-GhostTable g a = record { table = a.table.now; hasher = a.loan.hasher.ghost_name; before = a.loan.hasher.now.asked }

abbrev pub ghosts-wanted_by_table-L-Ledger : goal.ghosts-wanted_by_table-L-Ledger
ghosts-wanted_by_table-L-Ledger g a = record { name = a.first.name; parts = a.first.parts }

abbrev pub ghosts-wanted_by_table-M-Ledger : goal.ghosts-wanted_by_table-M-Ledger
ghosts-wanted_by_table-M-Ledger g a = record { name = a.second.name; parts = a.second.parts }
