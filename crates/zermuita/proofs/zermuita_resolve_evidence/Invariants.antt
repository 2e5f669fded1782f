use Rattle.zermuita.proofs.zermuita_resolve_evidence.Given as goal

abbrev pub ghosts-resolve_counted : goal.ghosts-resolve_counted
ghosts-resolve_counted a = record { name = a.blank.name; parts = a.blank.parts }
