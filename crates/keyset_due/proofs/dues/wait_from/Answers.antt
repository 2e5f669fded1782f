use Rattle.std.proofs.Common.{◌≡◌, false, ap, sym, ◌∙◌}
use Rattle.keyset.specs.KeyState.{misses}
use Rattle.keyset_due.specs.Dues.{greatest_end}
use Rattle.keyset_due.proofs.DueLemmas.{passed_from}
use Rattle.keyset_due.proofs.dues.wait_from.Goals as goal

pub returns : goal.returns
returns c =
    let r = c.args.rolltype in
    let t = c.args.turn in
    let ttl = c.args.ttl in
    let es = c.args.keys.now.keys in
    let none : misses r t es ≡ false = sym (ap (misses r t) c.keys-keys.ensures) ∙ sym c.misses_stamp.ensures ∙ c.if-misses_stamp.false in
    let end : c.greatest_end.result ≡ greatest_end r t ttl es = c.greatest_end.ensures.exact ∙ ap (greatest_end r t ttl) c.keys-keys.ensures in
    passed_from r t ttl c.greatest_end.result es c.first_second.result none end c.first_second.ensures
