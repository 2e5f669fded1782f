-- Evidence in octets that was read.
use Rattle.std.specs.Prelude.{◌*◌, map}
use Rattle.messages.specs.Message.{Asked}
use Rattle.messages.specs.Questions.{asked_of}
use Rattle.evidence_laws.specs.Given.{Given}
use Rattle.resolution_octets.specs.ReadMessages.{message_of}
use Rattle.resolution_octets.specs.Spelling.{Spells}
use Rattle.resolution_octets.specs.declared.octets.OctetEvidence.{OctetEvidence}
use Rattle.resolution_octets.specs.declared.octets.ReadEvidence.{ReadEvidence}

-- what a walk is handed, and what is asked
abbrev pub given_of : OctetEvidence → ReadEvidence → Given
given_of case r = record {
  anchor = r.anchor;
  ds = r.ds.items;
  messages = map message_of r.messages.items;
  table = r.table.items;
  algorithms = case.algorithms.now;
  at = case.moment * 1000000000;
  limit = case.limit;
  one_moment = r.one_moment;
}

abbrev pub asked_in : ReadEvidence → Asked
asked_in r = asked_of r.question

-- what the octets spell
abbrev pub ReadsAs : OctetEvidence → ReadEvidence → Type 0
ReadsAs case r = Spells case (given_of case r) (asked_in r)
