use Rattle.names_builder.proofs.TextWalks.{spells_relative_text}
use Rattle.names_builder.proofs.walk.relative_octets.Goals as goal

pub returns-in_ok-from_slice-in-Some : goal.returns-in_ok-from_slice-in-Some
returns-in_ok-from_slice-in-Some c =
    rw c.in_ok-from_slice-in-Some.ensures.items (spells_relative_text c.args.text.now c.write_labels.new.octets c.in-Some.end c.in-Some.last c.in-Some.ensures.labels c.if-last-gt0.true)
