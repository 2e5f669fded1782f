use Rattle.zermuita.proofs.zermuita_judge_case.Given as goal

abbrev pub ghosts-judge_counted : goal.ghosts-judge_counted
ghosts-judge_counted a = record { name = a.blank.name; parts = a.blank.parts }
