-- What evidence in octets spells.
use Rattle.std.proofs.Common.{◌≡◌, false, List, [], ◌∷◌, refl, sym, ap, subst, ◌∙◌}
use Rattle.definitions.specs.Name.{low}
use Rattle.messages.specs.Message.{Asked}
use Rattle.answer_judge_octets.specs.EntryLaws.{once_checked, once_ds, some_checked, some_ds}
use Rattle.answer_judge_octets.specs.Replying.{judged_ds}
use Rattle.answer_judge_octets.specs.Written.{FitsChecked, FitsDs, checked_octets, ds_octets}
use Rattle.answer_judge_octets.proofs.ListsRead.{spelled_once}
use Rattle.answer_judge_octets.proofs.SpelledCases.{one_flag, one_of, one_some}
use Rattle.evidence_laws.specs.Given.{Given, Message}
use Rattle.resolution_octets.specs.Laws.{OctetsSpellOneEvidence}
use Rattle.resolution_octets.specs.Sent.{FitsSent, Sent, sent_octets}
use Rattle.resolution_octets.specs.SentOnce.{once_sent, some_sent}
use Rattle.resolution_octets.specs.Spelling.{AreRead, IsRead, Spells, flag_in}
use Rattle.resolution_octets.specs.declared.octets.OctetEvidence.{OctetEvidence}

one_message : (s : Sent) (m n : Message) → IsRead s m → IsRead s n → m ≡ n
one_message s m n p q =
    let zone = one_some m.zone n.zone _ p.zone q.zone in
    let name = one_some m.asked.name n.asked.name _ p.name q.name in
    let rtype = p.rtype ∙ sym q.rtype in
    let class = p.class ∙ sym q.class in
    let octets = one_of s.octets m.octets n.octets false p.octets q.octets in
    λ i. record { zone = zone i; asked = record { name = name i; rtype = rtype i; class = class i }; octets = octets i }

one_read : (ss : List Sent) (ms ns : List Message) → AreRead ss ms → AreRead ss ns → ms ≡ ns
one_read [] [] [] p q = refl
one_read [] [] (n ∷ ns) p q = absurd q
one_read [] (m ∷ ms) ns p q = absurd p
one_read (s ∷ ss) [] ns p q = absurd p
one_read (s ∷ ss) (m ∷ ms) [] p q = absurd q
one_read (s ∷ ss) (m ∷ ms) (n ∷ ns) p q = λ i. one_message s m n p.0 q.0 i ∷ one_read ss ms ns p.1 q.1 i

read_alike : (ss ts : List Sent) (ms ns : List Message) → ss ≡ ts → AreRead ss ms → AreRead ts ns → ms ≡ ns
read_alike ss ts ms ns e p q = one_read ts ms ns (subst (λ (l : List Sent). AreRead l ms) e p) q

one_given : (case : OctetEvidence) (e g : Given) (asked other : Asked) → Spells case e asked → Spells case g other → e ≡ g
one_given case e g asked other p q =
    let anchor = p.anchor.lowered ∙ ap low (one_some p.anchor.name q.anchor.name _ p.anchor.spelled q.anchor.spelled) ∙ sym q.anchor.lowered in
    let ds_set = spelled_once FitsDs ds_octets once_ds some_ds p.ds.ds_set q.ds.ds_set p.ds.spelled.fit q.ds.spelled.fit (sym p.ds.spelled.octets_are ∙ q.ds.spelled.octets_are) in
    let ds = p.ds.judged ∙ ap (judged_ds case.algorithms.now) ds_set ∙ sym q.ds.judged in
    let sent = spelled_once FitsSent sent_octets once_sent some_sent p.sent q.sent p.messages.fit q.messages.fit (sym p.messages.octets_are ∙ q.messages.octets_are) in
    let messages = read_alike p.sent q.sent e.messages g.messages sent p.read q.read in
    let table = spelled_once FitsChecked checked_octets once_checked some_checked e.table g.table p.entries.fit q.entries.fit (sym p.entries.octets_are ∙ q.entries.octets_are) in
    let algorithms = p.algorithms ∙ sym q.algorithms in
    let at = p.at ∙ sym q.at in
    let limit = p.limit ∙ sym q.limit in
    let one_moment = one_flag e.one_moment g.one_moment (flag_in case) p.one_moment q.one_moment in
    λ i. record {
      anchor = anchor i;
      ds = ds i;
      messages = messages i;
      table = table i;
      algorithms = algorithms i;
      at = at i;
      limit = limit i;
      one_moment = one_moment i;
    }

one_asked : (case : OctetEvidence) (e g : Given) (asked other : Asked) → Spells case e asked → Spells case g other → asked ≡ other
one_asked case e g asked other p q =
    let name = one_some asked.name other.name _ p.name q.name in
    let rtype = p.rtype ∙ sym q.rtype in
    let class = p.class ∙ sym q.class in
    λ i. record { name = name i; rtype = rtype i; class = class i }

pub one_evidence : OctetsSpellOneEvidence
one_evidence case e g asked other p q = (one_given case e g asked other p q, one_asked case e g asked other p q)
