use Rattle.std.proofs.Common.{◌≡◌, [], drop, ap, sym, ◌∙◌, arith}
use Rattle.std.proofs.lemmas.Grind.{common_steps}
use Rattle.std.specs.Prelude.{slice_index, slice_range}
use Rattle.std.proofs.lemmas.Bool.{eqb-true}
use Rattle.std.proofs.lemmas.List.{drop_all}
use Rattle.definitions.specs.Limits.{pointer_limit}
use Rattle.messages_canonical.specs.Canonical.{in_front, parts_at}
use Rattle.messages_canonical.specs.Forms.{form_of}
use Rattle.messages_canonical.proofs.InPlace.{standing_all, standing_more, standing_none}
use Rattle.messages_canonical.proofs.standing.data_stand.Goals as goal

pub loop-part-init : goal.loop-part-init
loop-part-init c = (omega arith, standing_none c.args.message.now c.args.start _)

pub loop-part-preserved : goal.loop-part-preserved
loop-part-preserved c =
    let stands = c.in-Some.ensures.stands in
    let onward = c.in-Some.ensures.onward in (
      omega (arith, c.loop-part.invariant.0, onward),
      standing_more c.args.message.now c.args.limit c.form_of-form.result.now c.loop-part.part-index _ c.args.start c.loop-part.at c.in-Some.behind _ c.loop-part-test.true c.loop-part.invariant.0 onward c.loop-part.invariant.1 stands,
    )

pub returns : goal.returns
returns c t =
    let m = c.args.message.now in
    let first : c.unwrap_or-first.result ≡ slice_index m c.args.start = grind (arith, common_steps) in
    let form : c.form_of-form.result.now ≡ form_of c.args.rtype (slice_index m c.args.start) = c.form_of-form.ensures ∙ ap (form_of c.args.rtype) first in
    let none : drop c.loop-part.part-index c.form_of-form.result.now ≡ [] = drop_all c.loop-part.part-index c.form_of-form.result.now c.loop-part-test.false in
    ap (λ ps. parts_at pointer_limit m c.args.limit ps c.args.start) (sym form)
    ∙ standing_all m c.args.limit c.args.start c.loop-part.at _ t (eqb-true c.loop-part.at c.args.limit t) (c.loop-part.invariant.1 ∙ ap (λ ps. in_front (slice_range m c.args.start c.loop-part.at) (parts_at pointer_limit m c.args.limit ps c.loop-part.at)) none)
