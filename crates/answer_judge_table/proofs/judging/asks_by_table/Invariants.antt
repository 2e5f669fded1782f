use Rattle.answer_judge_table.proofs.judging.asks_by_table.Given as goal

abbrev pub ghosts-wanted_unhashed : goal.ghosts-wanted_unhashed
ghosts-wanted_unhashed a = record { name = a.blank.name; parts = a.blank.parts }
