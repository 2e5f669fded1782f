use Rattle.std.proofs.Common.{map, ap, subst, ◌∙◌, arith}
use Rattle.std.specs.List.{AllByRecursion}
use Rattle.std.proofs.lemmas.List.{take_all}
use Rattle.server_zone_octets.specs.Entries.{FitsMade, asked, entries_of}
use Rattle.server_zone_octets.proofs.EntriesAsked.{entries_fit_more, entries_more}
use Rattle.server_zone_octets.proofs.entries.asked_entries.Goals as goal

pub loop-input-preserved : goal.loop-input-preserved
loop-input-preserved c =
    let inputs = c.args.inputs.now in
    let i = c.loop-input.input-index in
    let t = c.input-item.result in (
      entries_more inputs i t c.loop-input.octets.items c.put_asked.new.octets.items c.loop-input-test.true c.input-item.is c.loop-input.invariant.0 c.in_ok-put_asked.ensures.octets,
      entries_fit_more inputs i t c.loop-input-test.true c.input-item.is c.loop-input.invariant.1 c.in_ok-put_asked.ensures.fits,
    )

pub returns : goal.returns
returns c =
    let inputs = c.args.inputs.now in
    let all = take_all c.loop-input.input-index inputs (omega (arith, c.loop-input-test.false)) in
    record {
      octets = c.loop-input.invariant.0 ∙ ap entries_of all;
      fit = subst (λ l. AllByRecursion FitsMade (map asked l)) all c.loop-input.invariant.1;
    }
