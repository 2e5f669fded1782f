-- Messages that are put together from messages whose RRsets were signed are honest.
use Rattle.std.proofs.Common.{inr, ⊎_elim}
use Rattle.answer_judge.specs.Splices.{PassesNowhere}
use Rattle.answer_judge.specs.Honest.{WasSigned}
use Rattle.answer_judge.proofs.Spliced.{spliced_honest, told_spliced}
use Rattle.counterexamples_honest.specs.Quoted.{IsQuoted, QuotesAreHonest}

pub quotes_are_honest : QuotesAreHonest
quotes_are_honest a k h published keys apex signings sought m binds octets quotes =
    spliced_honest a k h published (WasSigned a apex keys signings) sought m binds octets (λ read r f signature reads there kind fields time.
    ⊎_elim
    (λ (q : IsQuoted a k apex (WasSigned a apex keys signings) signature).
    told_spliced a k q.moment published q.signers (WasSigned a apex keys signings) apex q.at q.life q.asked q.groups q.bytes q.others q.were q.tells q.read q.spelled q.fields signature q.reads q.inside q.kind q.says q.holds)
    (λ (n : PassesNowhere a published signature). inr n)
    (quotes read r f signature reads there kind fields time))
