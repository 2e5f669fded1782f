use Rattle.std.proofs.Common.{map, ap, subst, ◌∙◌, arith}
use Rattle.std.specs.List.{AllByRecursion}
use Rattle.std.proofs.lemmas.List.{take_all}
use Rattle.answer_findings.specs.Asking.{unchecked}
use Rattle.answer_judge_octets.specs.Replying.{entries_of}
use Rattle.answer_judge_octets.specs.Written.{FitsChecked}
use Rattle.answer_judge_octets.proofs.EntriesGrow.{entries_fit_more, entries_more}
use Rattle.answer_judge_octets.proofs.reply.octets_of_asks.Goals as goal

pub loop-ask-preserved : goal.loop-ask-preserved
loop-ask-preserved c =
    let asks = c.args.asks.now in
    let i = c.loop-ask.ask-index in
    let t = c.ask-item.result in (
      entries_more asks i t c.loop-ask.octets.items c.put_ask.new.octets.items c.loop-ask-test.true c.ask-item.is c.loop-ask.invariant.0 c.in_ok-put_ask.ensures.octets,
      entries_fit_more asks i t c.loop-ask-test.true c.ask-item.is c.loop-ask.invariant.1 c.in_ok-put_ask.ensures.fits,
    )

pub returns : goal.returns
returns c =
    let asks = c.args.asks.now in
    let all = take_all c.loop-ask.ask-index asks (omega (arith, c.loop-ask-test.false)) in
    record {
      octets = c.loop-ask.invariant.0 ∙ ap entries_of all;
      fit = subst (λ l. AllByRecursion FitsChecked (map unchecked l)) all c.loop-ask.invariant.1;
    }
