use Rattle.answer_judge_octets.proofs.errors.own_error.Given as goal

abbrev pub ghosts-error_by-L-Ledger : goal.ghosts-error_by-L-Ledger
ghosts-error_by-L-Ledger a = record { name = a.first.name; parts = a.first.parts }

abbrev pub ghosts-error_by-M-Ledger : goal.ghosts-error_by-M-Ledger
ghosts-error_by-M-Ledger a = record { name = a.second.name; parts = a.second.parts }
