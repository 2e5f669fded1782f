use Rattle.std.proofs.Common.{ℕ, List, [], Global, ap, ◌∙◌, ◌<◌, length, get_or, arith}
use Rattle.std.proofs.lemmas.List.{length-map}
use Rattle.std.proofs.Math.ListN.{get_or-map}
use Rattle.std.specs.Borrow.{Bor}
use Rattle.std.specs.Prelude.{string_bytes}
use Rattle.session_grammar.specs.Fields.{is_reference}
use Rattle.session_grammar.specs.Readings.{texts}
use Rattle.session_grammar.proofs.FieldLemmas.{refused, refused_reference, no_reference}
use Rattle.session_grammar.proofs.fields.each_reference.Goals as goal

pub returns-in_err-reference : goal.returns-in_err-reference
returns-in_err-reference c =
    let parts = c.args.parts.now in
    let index = c.loop-part.part-index in
    let none : Bor (List ℕ) = record { ref_ptr = (0, 0); now = [] } in
    let inside : index < length (texts parts) = omega (arith, length-map parts (λ f. f.now), c.loop-part-test.true) in
    refused _ c.from_residual.result c.in_err-reference.field-0.0 _ c.from_residual.ensures.0 c.from_residual.ensures.1
    (λ f e. no_reference (texts parts) index none.now inside
    (ap is_reference (get_or-map (λ f. f.now) parts index none) ∙ refused_reference (string_bytes {Z = Global}) c.in_err-reference.field-0.0 f (get_or parts index none).now c.in_err-reference.ensures e))
