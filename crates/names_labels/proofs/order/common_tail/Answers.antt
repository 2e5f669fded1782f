use Rattle.std.proofs.Common.{◌≡◌, ◌-◌, ◌∙◌, length, sym, ap, arith, true, false}
use Rattle.std.specs.Char.{to_ascii_lowercase}
use Rattle.std.proofs.Math.ListN.{get_or}
use Rattle.names_labels.proofs.Tails.{one_more, none_of_more}
use Rattle.names_labels.proofs.order.common_tail.Goals as goal
use Rattle.names_labels.proofs.order.common_tail.Goals.{else-octet-other-via-then-octet-other+else-not-is_other_case, else-octet-other-via-else-octet-other}

pub returns-then-not-is_other_case : goal.returns-then-not-is_other_case
returns-then-not-is_other_case c =
    let a = c.args.octets.now in
    let b = c.args.others.now in
    let k = c.loop-count.count in
    let apart : to_ascii_lowercase (get_or a (length a - 1 - k) 0) ≡ to_ascii_lowercase (get_or b (length b - 1 - k) 0) → ⊥ = λ e. let x : true ≡ false = sym (c.is_other_case.ensures.1 e) ∙ c.if-not-is_other_case.true in cc in
    none_of_more a b k c.loop-count.invariant (omega (arith, c.loop-count-test.true, c.min-most.ensures)) (omega (arith, c.loop-count-test.true, c.min-most.ensures)) apart

pub loop-count-preserved : goal.loop-count-preserved
loop-count-preserved c =
    let a = c.args.octets.now in
    let b = c.args.others.now in
    let k = c.loop-count.count in
    let alike : to_ascii_lowercase (get_or a (length a - 1 - k) 0) ≡ to_ascii_lowercase (get_or b (length b - 1 - k) 0) = elim c.else-octet-other.branch [
      | else-octet-other-via-then-octet-other+else-not-is_other_case w ↦ w.is_other_case.ensures.0 w.if-not-is_other_case.false
      | else-octet-other-via-else-octet-other w ↦ ap to_ascii_lowercase w.if-octet-other.false
    ] in
    one_more a b k c.loop-count.invariant (omega (arith, c.loop-count-test.true, c.min-most.ensures)) (omega (arith, c.loop-count-test.true, c.min-most.ensures)) alike
