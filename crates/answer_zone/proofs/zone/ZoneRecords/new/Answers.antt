use Rattle.std.proofs.Common.{ap}
use Rattle.answer_terms.specs.ModeView.{mode_of}
use Rattle.answer_zone.proofs.zone.ZoneRecords.new.Goals as goal

pub returns-clause-zone : goal.returns-clause-zone
returns-clause-zone g c =
    ap (λ rs. record { apex = c.args.apex; mode = mode_of c.args.mode; limit = c.args.limit; records = rs; hasher = c.args.hasher.now }) c.in_ok-contents.ensures.made.sorted

pub invariant_of-result : goal.invariant_of-result
invariant_of-result g c =
    let made = c.in_ok-contents.ensures.made in
    (made.published, made.handed, made.chain, made.link_ttl, made.of_class_in, made.kept, made.has_aliases)
