use Rattle.answer_laws.proofs.Simulations as simulations
use Rattle.answer_laws.proofs.laws.runs_are_simulations.Goals as goal

pub returns : goal.returns
returns c = simulations.runs_are_simulations
