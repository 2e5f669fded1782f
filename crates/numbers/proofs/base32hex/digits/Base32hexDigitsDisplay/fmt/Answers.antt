use Rattle.std.proofs.Common.{◌≡◌, ◌++◌, take, ap, refl, arith}
use Rattle.std.proofs.lemmas.Grind.{put_two, common_steps}
use Rattle.definitions.specs.Base32hex.{base32hex}
use Rattle.numbers.proofs.Digits.{one_block}
use Rattle.numbers.specs.Blocks.{block_text}
use Rattle.numbers.proofs.base32hex.digits.Base32hexDigitsDisplay.fmt.Goals as goal

pub loop-rest-preserved : goal.loop-rest-preserved
loop-rest-preserved g c =
    let done = c.loop-rest.invariant.0 in
    let rest = c.loop-rest.rest.now in
    let block = c.split_at.result.0.now in
    let all : take 5 block ≡ block = grind (arith, common_steps, c.split_at.ensures.front_len) in (
      done ++ block_text block,
      record {
        whole = one_block done (done ++ block_text block) rest block c.split_at.result.1.now (base32hex c.args.self.now.0.now)
            c.loop-rest-test.true c.split_at.ensures.front c.split_at.ensures.back (ap (λ t. done ++ base32hex t) all) c.loop-rest.invariant.1.whole;
        wrote = λ p.
            let before = c.loop-rest.invariant.1.wrote p in
            put_two g.W.Write.write_str_gives _ _ _ done (block_text block) _ before (c.in_ok-write.ensures.writes before.plain refl) refl;
      },
    )
