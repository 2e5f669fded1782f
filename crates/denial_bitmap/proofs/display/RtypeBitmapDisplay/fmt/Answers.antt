use Rattle.std.proofs.Common.{◌∷◌, ◌++◌, ◌∙◌, [], length-append, sym, refl, arith}
use Rattle.std.proofs.lemmas.Grind.{put_two}
use Rattle.numbers.specs.Types.{type_text}
use Rattle.denial_bitmap.specs.Texts.{types_text}
use Rattle.denial_bitmap.specs.Types.{types_in}
use Rattle.denial_bitmap.proofs.Printing.{moved, text-push}
use Rattle.denial_bitmap.proofs.display.RtypeBitmapDisplay.fmt.Goals as goal

pub loop-rtype-init : goal.loop-rtype-init
loop-rtype-init g c = (
  c.in-Some.first ∷ [],
  record {
    some = omega arith;
    left = sym c.in-Some.ensures.steps ∙ c.iter-types.ensures;
    wrote = λ p. c.in_ok-write.ensures.writes p refl;
  },
)

pub loop-rtype-preserved : goal.loop-rtype-preserved
loop-rtype-preserved g c =
    let done = c.loop-rtype.invariant.0 in
    let t = c.in-Some-next.rtype in (
      done ++ t ∷ [],
      record {
        some = omega (arith, length-append done (t ∷ []));
        left = moved done c.loop-rtype.types c.next-in-loop-rtype.new.self (types_in c.args.self.now) t c.loop-rtype.invariant.1.left c.in-Some-next.ensures.steps;
        wrote = λ p.
            let before = c.loop-rtype.invariant.1.wrote p in
            put_two g.W.Write.write_str_gives _ _ _ (types_text done) (32 ∷ type_text t) _ before (c.in_ok-write-2.ensures.writes before.plain refl) (sym (text-push done t c.loop-rtype.invariant.1.some));
      },
    )
