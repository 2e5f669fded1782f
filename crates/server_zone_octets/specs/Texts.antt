-- What is printed of a line that is applied to a zone.
use Rattle.std.specs.Prelude.{ℕ, List, [], ◌++◌, codes}
use Rattle.printed_outcomes.specs.Names.{replace_fault_name, zone_fault_name}
use Rattle.printed_outcomes.specs.Printed.{actions_text, key_refusal}
use Rattle.server_zone.specs.declared.refusals.Refusal.{Refusal}
use Rattle.server_zone.specs.declared.refusals.Refusal.TheVariants.{Unreadable, ManyLines, NotOfState, TooEarly, Zone, Key, Replace, Memory}
use Rattle.server_zone.specs.declared.open_zone.Applied.{Applied}
use Rattle.server_zone.specs.declared.open_zone.Applied.TheVariants.{Nothing, Gathered, Actions, Replaced}

abbrev pub applied_text : Applied → List ℕ
applied_text Nothing = []
applied_text Gathered = []
applied_text (Actions actions) = actions_text actions.items
applied_text Replaced = codes "ok"

abbrev pub refusal_text : Refusal → List ℕ
refusal_text (Unreadable fault) = codes "cannot be read"
refusal_text ManyLines = codes "refused ManyLines"
refusal_text NotOfState = codes "refused NotOfState"
refusal_text TooEarly = codes "refused TooEarly"
refusal_text (Zone fault) = codes "refused " ++ zone_fault_name fault
refusal_text (Key fault) = key_refusal fault
refusal_text (Replace fault) = codes "refused " ++ replace_fault_name fault
refusal_text Memory = codes "refused Memory"
