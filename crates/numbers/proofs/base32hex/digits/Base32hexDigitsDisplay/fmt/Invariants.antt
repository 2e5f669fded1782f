use Rattle.std.proofs.Common.{◌≡◌, ℕ, List, ◌++◌, length}
use Rattle.std.specs.Fmt.{HasWritten, IsPlainFormatter}
use Rattle.definitions.specs.Base32hex.{base32hex}
use Rattle.numbers.proofs.base32hex.digits.Base32hexDigitsDisplay.fmt.Given as goal

abbrev pub invariant-loop-rest : goal.invariant-loop-rest
invariant-loop-rest g l =
    (done : List ℕ) × record {
      whole : done ++ base32hex l.rest ≡ base32hex l.self.0.now;
      wrote : IsPlainFormatter l.fn.f → HasWritten g.W.Write.write_str_gives l.fn.f done l.f;
    }

abbrev pub decreases-loop-rest : goal.decreases-loop-rest
decreases-loop-rest g l = length l.rest
