-- What octets of evidence spell is one thing; what is replied to them stays proved.
use Rattle.std.specs.Prelude.{◌≡◌, ℕ, ◌*◌, ◌≤◌, Some}
use Rattle.messages.specs.Message.{Asked}
use Rattle.answer_judge_facts.specs.declared.validity.Validity.{Validity}
use Rattle.answer_judge_octets.specs.Replying.{Replied}
use Rattle.tree_laws.specs.Tree.{Said}
use Rattle.evidence_laws.specs.Given.{Given}
use Rattle.evidence_laws.specs.Staying.{HasOctets, ProvesThrough, at_time}
use Rattle.resolution_walk.specs.Ended.{said_of}
use Rattle.resolution_octets.specs.Replying.{SaysWalked}
use Rattle.resolution_octets.specs.Spelling.{Spells}
use Rattle.resolution_octets.specs.declared.octets.OctetEvidence.{OctetEvidence}

-- evidence in octets spells one thing to walk over, and one question
abbrev pub OctetsSpellOneEvidence : Type 0
OctetsSpellOneEvidence = (case : OctetEvidence) (e g : Given) (asked other : Asked) → Spells case e asked → Spells case g other → (e ≡ g) × (asked ≡ other)

-- What a reply says, secure or insecure, the evidence proves in each second from its moment up to the last one of the report, through
-- the names of the walk.
abbrev pub RepliesStayProved : Type 0
RepliesStayProved =
    (case : OctetEvidence) (e : Given) (asked : Asked) (said : Replied) (walked : SaysWalked case e asked said) (x : Said) (l : Validity) (second : ℕ)
    → Spells case e asked → HasOctets e → said_of walked.walk.ending ≡ Some x → walked.walk.validity ≡ Some l → case.moment ≤ second → second ≤ said.until
    → ProvesThrough (at_time (second * 1000000000) e) x asked walked.walk.through.items
