use Rattle.std.proofs.Common.{◌∙◌, ap, true, ◌≡◌, Some, None, IfSome}
use Rattle.std.specs.Str.{chars}
use Rattle.std.proofs.lemmas.Result.{IfOk-weaker, IfErr-weaker}
use Rattle.definitions.specs.Text.{name_of_text, relative_of_text}
use Rattle.names_builder.specs.Fault.{relative_fault_of}
use Rattle.names_wire.specs.Spelled.{in_turn}
use Rattle.names_builder.specs.FromText.{is_relative_text, RelativeFault}
use Rattle.names_builder.proofs.WholeTexts.{relative_fault_in_text}
use Rattle.names_wire.proofs.Characters.{chars_are, nothing_in_text}
use Rattle.names_flat.proofs.from_text.RelativeName+Vec+u8.vec_from_str.Goals as goal

pub returns-in-Ok-None-clause-ok : goal.returns-in-Ok-None-clause-ok
returns-in-Ok-None-clause-ok c =
    IfOk-weaker c.read.result _ (λ n. relative_of_text (chars c.args.text.now) ≡ Some n)
    (λ n r. ap relative_of_text (chars_are c.chars.result c.args.text.now r.0 c.utf8.text c.chars.ensures.rest r.1) ∙ r.2) c.read.ensures.ok

pub returns-in-Ok-None-clause-refused : goal.returns-in-Ok-None-clause-refused
returns-in-Ok-None-clause-refused c =
    IfErr-weaker c.read.result _ (λ e. is_relative_text e ≡ true → relative_of_text (chars c.args.text.now) ≡ None)
    (λ e r h. nothing_in_text c.chars.result c.args.text.now relative_of_text c.utf8.text c.chars.ensures.rest (r h)) c.read.ensures.refused

pub returns-in-Ok-None-clause-absolute : goal.returns-in-Ok-None-clause-absolute
returns-in-Ok-None-clause-absolute c = λ h.
    let r = c.read.ensures.absolute h in
    (r.2.0, r.2.1, ap name_of_text (chars_are c.chars.result c.args.text.now r.0 c.utf8.text c.chars.ensures.rest r.1) ∙ r.2.2)

pub returns-in-Ok-None-clause-fault : goal.returns-in-Ok-None-clause-fault
returns-in-Ok-None-clause-fault c =
    IfErr-weaker c.read.result _ (λ e. IfSome (relative_fault_of e) (RelativeFault in_turn (chars c.args.text.now)))
    (λ e r. relative_fault_in_text c.chars.result c.args.text.now e c.utf8.text c.chars.ensures.rest r) c.read.ensures.fault
