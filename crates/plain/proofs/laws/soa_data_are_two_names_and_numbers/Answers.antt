use Rattle.plain.proofs.PartsRead.{soa_is_names_and_numbers}
use Rattle.plain.proofs.laws.soa_data_are_two_names_and_numbers.Goals as goal

pub returns : goal.returns
returns c = soa_is_names_and_numbers
