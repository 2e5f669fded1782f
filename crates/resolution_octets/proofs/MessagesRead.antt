-- Messages that are read one after another.
use Rattle.std.proofs.Common.{◌≡◌, ℕ, ◌+◌, ◌<◌, List, [], ◌∷◌, ◌++◌, length, map, take, get_or, sym, ap, ◌∙◌, subst₂, inr}
use Rattle.std.specs.Cow.{cow_slice_items}
use Rattle.std.proofs.lemmas.List.{map-append}
use Rattle.messages.proofs.Lists.{take_next}
use Rattle.messages.specs.Questions.{asked_of}
use Rattle.answer_judge_octets.specs.Written.{IsList}
use Rattle.answer_judge_octets.specs.declared.reply.ReplyCode.{ReplyCode}
use Rattle.answer_judge_octets.specs.declared.reply.ReplyCode.TheVariants as c
use Rattle.evidence_laws.specs.Given.{Message}
use Rattle.resolution_octets.specs.ReadMessages.{message_of}
use Rattle.resolution_octets.specs.Sent.{FitsSent, Sent, sent_octets}
use Rattle.resolution_octets.specs.Spelling.{AreRead, IsRead, IsUnread, SomeUnread, Unread}
use Rattle.resolution_octets.specs.declared.received.ReadMessage.{ReadMessage}
use Rattle.resolution_octets.specs.declared.octets.OctetEvidence.{OctetEvidence}

one_more : (ss : List Sent) (ms : List Message) (s : Sent) (m : Message) → AreRead ss ms → IsRead s m → AreRead (ss ++ s ∷ []) (ms ++ m ∷ [])
one_more [] [] s m are is = (is, tt)
one_more [] (n ∷ ms) s m are is = absurd are
one_more (t ∷ ss) [] s m are is = absurd are
one_more (t ∷ ss) (n ∷ ms) s m are is = (are.0, one_more ss ms s m are.1 is)

pub read_more : (sent : List Sent) (i : ℕ) (s : Sent) (read : List ReadMessage) (m : ReadMessage) (more : List ReadMessage) → i < length sent → s ≡ get_or sent i s
    → AreRead (take i sent) (map message_of read) → IsRead s (message_of m) → more ≡ read ++ m ∷ [] → AreRead (take (i + 1) sent) (map message_of more)
read_more sent i s read m more inside at are is pushed =
    let front = take_next sent i s inside at in
    let back : map message_of more ≡ map message_of read ++ message_of m ∷ [] = ap (map message_of) pushed ∙ map-append message_of read (m ∷ []) in
    subst₂ AreRead (sym front) (sym back) (one_more (take i sent) (map message_of read) s (message_of m) are is)

pub one_unread : (sent : List Sent) (i : ℕ) (s : Sent) → i < length sent → s ≡ get_or sent i s → (code : ReplyCode) → IsUnread s code → SomeUnread sent code
one_unread sent i s inside at code unread = record { sent = s; there = (i, inside, sym at); unread = unread }

-- a message as a walk is handed it, of these octets
abbrev message_with : ReadMessage → List ℕ → Message
message_with m octets = record { zone = m.zone; asked = asked_of m.question; octets = octets }

-- messages as a walk is handed them, one more
pub handed_more : (read : List ReadMessage) (i : ℕ) (m : ReadMessage) (octets : List ℕ) (before after : List Message) → i < length read → m ≡ get_or read i m → octets ≡ cow_slice_items m.octets
    → before ≡ map message_of (take i read) → after ≡ before ++ message_with m octets ∷ [] → after ≡ map message_of (take (i + 1) read)
handed_more read i m octets before after inside at are so pushed =
    let whole : map message_of (take (i + 1) read) ≡ map message_of (take i read) ++ message_of m ∷ [] = ap (map message_of) (take_next read i m inside at) ∙ map-append message_of (take i read) (m ∷ []) in
    pushed ∙ ap (λ (o : List ℕ). before ++ message_with m o ∷ []) are ∙ ap (λ (l : List Message). l ++ message_of m ∷ []) so ∙ sym whole

-- which octets of evidence spell nothing, by the message that is refused
pub some_unread : (case : OctetEvidence) (sent : List Sent) → IsList FitsSent sent_octets case.messages.now sent → (code : ReplyCode) → SomeUnread sent code → Unread case code
some_unread case sent is c.BadMessages some = inr (record { sent = sent; messages = is; some = some })
some_unread case sent is c.MessageTooLong some = record { sent = sent; messages = is; some = some }
some_unread case sent is _ some = absurd some.unread
