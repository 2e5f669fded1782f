use Rattle.std.proofs.Common.{arith}
use Rattle.names_labels.proofs.Texts.{label_short}
use Rattle.names_labels.proofs.text.write_label.Goals as goal

pub write_character-requires : goal.write_character-requires
write_character-requires c = omega (arith, c.requires, c.write_octets-end.ensures.end, label_short c.args.label.now)
