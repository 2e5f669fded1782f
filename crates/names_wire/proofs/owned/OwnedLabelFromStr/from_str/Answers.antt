use Rattle.std.proofs.Common.{◌∙◌, ap, ◌≡◌, Some}
use Rattle.std.specs.Str.{chars}
use Rattle.std.proofs.lemmas.Result.{IfOk-weaker, IfErr-weaker, on_err_weaker}
use Rattle.definitions.specs.Text.{label_of_text}
use Rattle.names_wire.specs.LabelFault.{named, FirstFault}
use Rattle.names_wire.specs.Spelled.{in_turn}
use Rattle.names_wire.proofs.LabelFaults.{fault_in_text}
use Rattle.names_wire.specs.Owned.{owned_octets}
use Rattle.names_wire.proofs.Characters.{chars_are, nothing_in_text}
use Rattle.names_wire.proofs.owned.OwnedLabelFromStr.from_str.Goals as goal

pub returns : goal.returns
returns c = (
  IfOk-weaker c.from_chars.result _ (λ label. label_of_text (chars c.args.text.now) ≡ Some (owned_octets label))
      (λ label r. ap label_of_text (chars_are c.chars.result c.args.text.now r.0 c.utf8.text c.chars.ensures.rest r.1) ∙ r.2) c.from_chars.ensures.ok,
  on_err_weaker c.from_chars.result (λ r. nothing_in_text c.chars.result c.args.text.now label_of_text c.utf8.text c.chars.ensures.rest r) c.from_chars.ensures.err,
  IfErr-weaker c.from_chars.result _ (λ e. FirstFault in_turn (chars c.args.text.now) (named e))
      (λ e r. fault_in_text c.chars.result c.args.text.now (named e) c.utf8.text c.chars.ensures.rest r) c.from_chars.ensures.fault,
)
