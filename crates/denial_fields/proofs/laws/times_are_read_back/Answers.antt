use Rattle.std.proofs.Common.{refl, arith}
use Rattle.std.specs.Fmt.{decimal}
use Rattle.std.proofs.lemmas.Fmt.{parse-decimal}
use Rattle.denial_fields.proofs.laws.times_are_read_back.Goals as goal

pub returns : goal.returns
returns c = λ t r h p. parse-decimal 32 t (decimal t) r h (omega (arith, h)) refl p
