use Rattle.std.proofs.Common.{◌∙◌, sym, ap}
use Rattle.std.specs.Str.{str_to_ascii_lowercase}
use Rattle.std.proofs.lemmas.Bool.{false≢true}
use Rattle.definitions.specs.Base32hex.{base32hex}
use Rattle.answer_terms.proofs.HashOwners.{label_no_text, label_refused, text_refused}
use Rattle.answer_terms.proofs.owner.label_octets.Goals as goal

pub returns-in_default : goal.returns-in_default
returns-in_default c = label_no_text c.args.label.now c.in_default.ensures.cases.0

pub are_spelled-requires : goal.are_spelled-requires
are_spelled-requires c = ap base32hex c.as_slice.ensures.value ∙ c.in-Ok-decode.ensures.ok ∙ ap str_to_ascii_lowercase c.in-Ok.ensures.cases.0

pub returns-in-Ok-decode : goal.returns-in-Ok-decode
returns-in-Ok-decode c = (c.are_spelled.ensures.spelled, sym c.as_slice.ensures.value ∙ c.are_spelled.ensures.octets)

pub returns-else-is_memory : goal.returns-else-is_memory
returns-else-is_memory c =
    label_refused c.args.label.now c.in-Err.error (text_refused c.in-Ok.text.now c.args.label.now c.in-Err.error c.in-Ok.ensures.cases.0 c.in-Err.ensures.refused) (λ m. false≢true (sym c.if-is_memory.false ∙ c.is_memory.ensures m))
