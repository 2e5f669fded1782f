-- What is replied to evidence stays proved up to the last second of the report.
use Rattle.std.proofs.Common.{◌≡◌, ℕ, ◌+◌, ◌*◌, ◌≤◌, ◌&&◌, Bool, false, length, Some, None, refl, sym, ap, subst, ◌∙◌, arith}
use Rattle.std.specs.Prelude.{min}
use Rattle.messages.specs.Message.{Asked}
use Rattle.answer_judge_facts.specs.declared.validity.Validity.{Validity}
use Rattle.answer_judge_octets.specs.Replying.{Replied, until_of}
use Rattle.tree_laws.specs.Tree.{Said}
use Rattle.evidence_laws.specs.Given.{Given}
use Rattle.evidence_laws.specs.Staying.{IsWithinValidity}
use Rattle.resolution_walk.specs.Ended.{said_of}
use Rattle.resolution_walk.specs.Laws.{WalksStayProved}
use Rattle.resolution_walk.specs.declared.ending.Ending.{Ending}
use Rattle.resolution_walk.specs.declared.ending.Ending.TheVariants as ends
use Rattle.resolution_walk.specs.declared.ending.Walk.{Walk}
use Rattle.resolution_octets.specs.Laws.{RepliesStayProved}
use Rattle.resolution_octets.specs.Limiting.{reply_limits_of}
use Rattle.resolution_octets.specs.Saying.{IsEndReplied, IsEndSaid, IsSaid, IsSaidWithin}
use Rattle.resolution_octets.specs.Working.{calls_of, goes_on, goes_too_far, is_too_much}
use Rattle.resolution_octets.specs.declared.walk_reply.ReplyLimits.{ReplyLimits}

replied_until : (second : ℕ) (e : Given) (asked : Asked) (w : Walk) (said : Replied) → IsEndReplied second e asked w said → said.until ≡ until_of second w.validity
replied_until second e asked w said k = ap (λ (r : Replied). r.until) k.is

-- the last second that is said with what is secure or insecure
said_until : (second : ℕ) (limits : ReplyLimits) (e : Given) (asked : Asked) (w : Walk) (ending : Ending) (said : Replied) (x : Said) → said_of ending ≡ Some x → IsEndSaid second limits e asked w ending said → said.until ≡ until_of second w.validity
said_until second limits e asked w (ends.Secure of v) said x says k = replied_until second e asked w said k
said_until second limits e asked w (ends.Leads lead) said x says k = replied_until second e asked w said k
said_until second limits e asked w (ends.Unsigned c datas) said x says k = replied_until second e asked w said k
said_until second limits e asked w (ends.LeftOpen of) said x says k = replied_until second e asked w said k
said_until second limits e asked w (ends.Untold of by name t r) said x says k = absurd cc
said_until second limits e asked w (ends.Asks asks) said x says k = absurd cc
said_until second limits e asked w (ends.Wants ws) said x says k = absurd cc
said_until second limits e asked w ends.TooManyCuts said x says k = absurd cc
said_until second limits e asked w ends.TooManyAliases said x says k = absurd cc
said_until second limits e asked w ends.TooManyMessages said x says k = absurd cc
said_until second limits e asked w ends.Outside said x says k = absurd cc

none_said : {A : Type 0} {x : A} → None ≡ Some x → ⊥
none_said e = cc

-- what is secure or insecure does not go on
said_in : (second : ℕ) (limits : ReplyLimits) (e : Given) (asked : Asked) (w : Walk) (said : Replied) (x : Said) → said_of w.ending ≡ Some x → IsSaid second limits e asked w said → said.until ≡ until_of second w.validity
said_in second limits e asked w said x says k = go w.ending refl
  where
    ended : (ending : Ending) → w.ending ≡ ending → goes_on ending ≡ false → said.until ≡ until_of second w.validity
    ended ending is ends =
        let far : goes_too_far limits.work e w ≡ false = ap (λ b. b && is_too_much limits.work (calls_of e) w.counts.work) (ap goes_on is ∙ ends) in
        said_until second limits e asked w w.ending said x says (subst (λ b. IsSaidWithin b second limits e asked w said) far k)

    go : (ending : Ending) → w.ending ≡ ending → said.until ≡ until_of second w.validity
    go (ends.Secure of v) is = ended (ends.Secure of v) is refl
    go (ends.Leads lead) is = ended (ends.Leads lead) is refl
    go (ends.Unsigned c datas) is = ended (ends.Unsigned c datas) is refl
    go (ends.LeftOpen of) is = ended (ends.LeftOpen of) is refl
    go (ends.Untold of by name t r) is = ended (ends.Untold of by name t r) is refl
    go (ends.Asks asks) is = absurd (none_said (ap said_of (sym is) ∙ says))
    go (ends.Wants ws) is = absurd (none_said (ap said_of (sym is) ∙ says))
    go ends.TooManyCuts is = ended ends.TooManyCuts is refl
    go ends.TooManyAliases is = ended ends.TooManyAliases is refl
    go ends.TooManyMessages is = ended ends.TooManyMessages is refl
    go ends.Outside is = ended ends.Outside is refl

within_seconds : (moment second : ℕ) (l : Validity) → moment ≤ second → second ≤ min (moment + l.seconds) 18446744073709551615 → IsWithinValidity (moment * 1000000000) (second * 1000000000) l
within_seconds moment second l after few = let some : second ≤ moment + l.seconds = omega (arith, few) in (omega (arith, after), omega (arith, some))

pub replies_stay_proved : WalksStayProved → RepliesStayProved
replies_stay_proved stays case e asked said walked x l second spelled octets says lasts after few =
    let until : said.until ≡ until_of case.moment (Some l) =
    said_in case.moment (reply_limits_of case (length e.table)) e asked walked.walk said x says walked.is_said ∙ ap (until_of case.moment) lasts in
    let some : second ≤ min (case.moment + l.seconds) 18446744073709551615 = subst (λ n. second ≤ n) until few in
    let within : IsWithinValidity e.at (second * 1000000000) l = subst (λ n. IsWithinValidity n (second * 1000000000) l) (sym spelled.at) (within_seconds case.moment second l after some) in
    stays e asked walked.walk x l (second * 1000000000) octets walked.is_walk.walked says lasts within
