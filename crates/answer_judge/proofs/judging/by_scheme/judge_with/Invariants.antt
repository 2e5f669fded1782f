use Rattle.answer_judge.proofs.judging.by_scheme.judge_with.Given as goal

abbrev pub ghosts-counted-L-Ledger : goal.ghosts-counted-L-Ledger
ghosts-counted-L-Ledger g a = record { name = a.first.name; parts = a.first.parts }

abbrev pub ghosts-counted-M-Ledger : goal.ghosts-counted-M-Ledger
ghosts-counted-M-Ledger g a = record { name = a.second.name; parts = a.second.parts }
