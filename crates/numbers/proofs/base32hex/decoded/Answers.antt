use Rattle.std.proofs.Common.{◌≡◌, ◌++◌, ◌∙◌, sym, ap, subst, append_assoc}
use Rattle.std.proofs.lemmas.List.{take-append-drop}
use Rattle.numbers.specs.Decoding.{Spells}
use Rattle.numbers.proofs.Spelling.{spells_more, nothing_front, nothing_behind}
use Rattle.numbers.proofs.base32hex.decoded.Goals as goal

pub loop-rest-preserved : goal.loop-rest-preserved
loop-rest-preserved c =
    let rest = c.loop-rest.rest.now in
    let block = c.split_at.result.0.now in
    let behind = c.split_at.result.1.now in
    let five = c.in-Some.five in
    let old = c.loop-rest.octets.items in
    let whole : block ++ behind ≡ rest = (λ i. c.split_at.ensures.front i ++ c.split_at.ensures.back i) ∙ take-append-drop 8 rest in
    record {
      more = λ o s.
          subst (λ t. Spells t c.args.digits.now) (sym (append_assoc old five o) ∙ ap (λ t. t ++ o) (sym c.in_ok-extend_from_slice.ensures.items))
          (c.loop-rest.invariant.more (five ++ o) (subst (Spells (five ++ o)) whole (spells_more block behind five o c.in-Some.ensures.0 c.in-Some.ensures.2 s)));
      none = λ h. c.loop-rest.invariant.none (nothing_behind rest behind c.loop-rest-test.true c.split_at.ensures.back h);
    }

pub returns-in_default : goal.returns-in_default
returns-in_default c =
    c.loop-rest.invariant.none (nothing_front c.loop-rest.rest.now c.split_at.result.0.now c.loop-rest-test.true c.split_at.ensures.front c.in_default.ensures)
