use Rattle.test_answer.proofs.judged.say_counted.Given as goal

abbrev pub ghosts-by_checks-L-Ledger : goal.ghosts-by_checks-L-Ledger
ghosts-by_checks-L-Ledger a = record { name = a.first.name; parts = a.first.parts }

abbrev pub ghosts-by_checks-M-Ledger : goal.ghosts-by_checks-M-Ledger
ghosts-by_checks-M-Ledger a = record { name = a.second.name; parts = a.second.parts }
