use Rattle.std.proofs.Common.{◌≡◌, map, rules, string_bytes, subst}
use Rattle.answer_publisher_keys.specs.Bindings.{Call, Start}
use Rattle.answer_publisher_keys.specs.KeyCalls.{Acts}
use Rattle.answer_publisher.specs.World.{digests}
use Rattle.answer_events.specs.Calls.{call_of}
use Rattle.answer_publisher.proofs.publishing.Publisher.apply.Goals as goal

-- a start of the lists as the call has them
pub returns-in-StartRoll-clause-keys : goal.returns-in-StartRoll-clause-keys
returns-in-StartRoll-clause-keys g c =
    let made = digests g.S.Scheme.digest_of c.args.self.now in
    let olds = map string_bytes c.deref-in-StartRoll.result.now in
    let news = map string_bytes c.deref-in-StartRoll-2.result.now in
    let call : Call = Start c.in-StartRoll.rolltype olds news in
    let same : call ≡ call_of c.args.call.now = search rules in
    let P : Call → Type 0 = λ k. Acts made k c.args.at.now c.args.self.now.keys c.start_roll.new.self.keys c.start_roll.result in
    subst P same c.start_roll.ensures.keys
