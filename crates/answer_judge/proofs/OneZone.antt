-- Of a zone that doesn't change its verdict is said, or none.
use Rattle.std.proofs.Common.{◌≡◌, zero, suc, [], ◌∷◌, sym, ap, ◌∙◌, arith}
use Rattle.std.specs.Prelude.{Contains}
use Rattle.answer_judge.specs.Judging.{Answer, JudgeInput, Says, Refuses}
use Rattle.answer_judge.specs.Honest.{SaysAtMost, SaysOneOf, is_alias_in, verdict_of}
use Rattle.answer_judge.specs.OneZone.{HonestOfOneZone}
use Rattle.answer_judge.specs.Versions.{Version}

only : {A : Type 0} (x y : A) → Contains (x ∷ []) y → x ≡ y
only x y (zero, l, e) = e
only x y (suc n, l, e) = absurd (omega (arith, l))

pub at_most : (h : JudgeInput) (v : Version) (answer : Answer) → SaysOneOf h (v ∷ []) answer → SaysAtMost h v answer
at_most h v (Says w) s =
    let is : v ≡ s.version = only v s.version s.there in
    (sym s.verdict_is ∙ ap (verdict_of h) (sym is), ap (is_alias_in h) is ∙ s.no_alias)
at_most h v (Refuses e) s = tt

pub honest_of_one_zone : HonestOfOneZone
honest_of_one_zone a k h answer honest v x = at_most h v answer (honest (v ∷ []) x)
