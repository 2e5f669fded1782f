use Rattle.std.proofs.Common.{◌≡◌, drop}
use Rattle.std.specs.List.{find}
use Rattle.messages.specs.Record.{fields_read}
use Rattle.answer_judge_keys.specs.Trusted.{fits_key}
use Rattle.answer_judge_keys.proofs.key_index.first_key.Given as goal

abbrev pub invariant-loop-key : goal.invariant-loop-key
invariant-loop-key l = find (fits_key (fields_read l.signature)) (drop l.key-index l.keys) ≡ find (fits_key (fields_read l.signature)) l.keys
