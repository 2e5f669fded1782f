use Rattle.std.proofs.Common.{◌≡◌, ℕ, List, ◌++◌, ◌<◌, length}
use Rattle.std.specs.Fmt.{HasWritten, IsPlainFormatter}
use Rattle.denial_bitmap.specs.Texts.{types_text}
use Rattle.denial_bitmap.specs.Types.{types_in}
use Rattle.denial_bitmap.proofs.display.RtypeBitmapDisplay.fmt.Given as goal

abbrev pub invariant-loop-rtype : goal.invariant-loop-rtype
invariant-loop-rtype g l =
    (done : List ℕ) × record {
      some : 0 < length done;
      left : done ++ l.types ≡ types_in l.self;
      wrote : IsPlainFormatter l.fn.f → HasWritten g.W.Write.write_str_gives l.fn.f (types_text done) l.f;
    }
