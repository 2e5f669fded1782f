use Rattle.std.proofs.Common.{◌∙◌, ap, true, ◌≡◌, Some, None, IfSome}
use Rattle.std.specs.Str.{chars}
use Rattle.std.proofs.lemmas.Result.{IfOk-weaker, IfErr-weaker}
use Rattle.definitions.specs.Text.{name_of_text}
use Rattle.names_builder.specs.Fault.{fault_of}
use Rattle.names_wire.specs.Spelled.{in_turn}
use Rattle.names_builder.specs.FromText.{is_text, NameFault}
use Rattle.names_builder.proofs.WholeTexts.{fault_in_text}
use Rattle.names_wire.proofs.Characters.{chars_are, nothing_in_text}
use Rattle.names_flat.proofs.from_text.Name+Vec+u8.vec_from_str.Goals as goal

pub returns-in-None-clause-ok : goal.returns-in-None-clause-ok
returns-in-None-clause-ok c =
    IfOk-weaker c.read.result _ (λ n. name_of_text (chars c.args.text.now) ≡ Some n)
    (λ n r. ap name_of_text (chars_are c.chars.result c.args.text.now r.0 c.utf8.text c.chars.ensures.rest r.1) ∙ r.2) c.read.ensures.ok

pub returns-in-None-clause-refused : goal.returns-in-None-clause-refused
returns-in-None-clause-refused c =
    IfErr-weaker c.read.result _ (λ e. is_text e ≡ true → name_of_text (chars c.args.text.now) ≡ None)
    (λ e r h. nothing_in_text c.chars.result c.args.text.now name_of_text c.utf8.text c.chars.ensures.rest (r h)) c.read.ensures.refused

pub returns-in-None-clause-fault : goal.returns-in-None-clause-fault
returns-in-None-clause-fault c =
    IfErr-weaker c.read.result _ (λ e. IfSome (fault_of e) (NameFault in_turn (chars c.args.text.now)))
    (λ e r. fault_in_text c.chars.result c.args.text.now e c.utf8.text c.chars.ensures.rest r) c.read.ensures.fault
