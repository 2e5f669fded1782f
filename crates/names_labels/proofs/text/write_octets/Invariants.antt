use Rattle.std.proofs.Common.{◌≡◌, ◌+◌, ◌++◌, take, length}
use Rattle.std.specs.Str.{IsAscii}
use Rattle.names_wire.specs.Text.{text_of_label}
use Rattle.names_labels.proofs.text.write_octets.Given as goal

abbrev pub invariant-loop-octet : goal.invariant-loop-octet
invariant-loop-octet l = record {
  text : take l.end l.characters ≡ take l.place l.fn.characters ++ text_of_label (take l.octet-index l.octets);
  end : l.end ≡ l.place + length (text_of_label (take l.octet-index l.octets));
  ascii : IsAscii (text_of_label (take l.octet-index l.octets));
}
