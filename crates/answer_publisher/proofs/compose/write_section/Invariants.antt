use Rattle.std.proofs.Common.{take}
use Rattle.answer_publisher.specs.Composed.{HasRoom, IsSection}
use Rattle.answer_publisher.proofs.compose.write_section.Given as goal

abbrev pub invariant-loop-group : goal.invariant-loop-group
invariant-loop-group g l = record {
  written : IsSection (g.S.Scheme.signature_of l.scheme) (g.S.Scheme.verifies l.scheme) l.terms.apex.now l.terms.at l.terms.life l.keys (take l.group-index l.groups) l.section.octets.items l.section.count;
  room : HasRoom l.section.octets.items l.section.count;
}
