use Rattle.std.proofs.Common.{◌≡◌, true, [], ◌∷◌, ◌++◌, ap, subst, sym, ◌∙◌}
use Rattle.std.specs.List.{list_any}
use Rattle.answer_judge_table.specs.Asking.{PassesEach}
use Rattle.answer_judge_table.specs.Table.{is_same_try, passes_by, tried}
use Rattle.answer_judge_table.proofs.AsksGrow.{all_less, all_more, among_passes, keeps_more}
use Rattle.answer_judge_table.proofs.outcome.note.Goals as goal

pub returns-clause-new : goal.returns-clause-new
returns-clause-new c =
    let t = tried c.args.key.now c.args.octets.now c.args.signature.now in
    keeps_more t c.args.asks.now.items c.push.new.self.items
    (ap (list_any (is_same_try t)) (sym c.deref.ensures.value) ∙ sym c.is_among.ensures ∙ c.if-is_among.false)
    (c.in_ok-push.ensures.items ∙ ap (λ a. c.args.asks.now.items ++ a ∷ []) c.in_ok-ask.ensures)

pub returns-clause-only : goal.returns-clause-only
returns-clause-only c = λ test passes before.
    let t = tried c.args.key.now c.args.octets.now c.args.signature.now in
    let old = c.args.asks.now.items in
    let more : c.push.new.self.items ≡ old ++ t ∷ [] = c.in_ok-push.ensures.items ∙ ap (λ a. old ++ a ∷ []) c.in_ok-ask.ensures in
    subst (λ asks. PassesEach asks test) (sym more) (all_more (λ a. passes_by test a ≡ true) old t before passes)

pub returns-clause-passes : goal.returns-clause-passes
returns-clause-passes c = λ test passes.
    let t = tried c.args.key.now c.args.octets.now c.args.signature.now in
    let old = c.args.asks.now.items in
    let more : c.push.new.self.items ≡ old ++ t ∷ [] = c.in_ok-push.ensures.items ∙ ap (λ a. old ++ a ∷ []) c.in_ok-ask.ensures in
    all_less (λ a. passes_by test a ≡ true) old t (subst (λ asks. PassesEach asks test) more passes)

pub returns-then-is_among-clause-passes : goal.returns-then-is_among-clause-passes
returns-then-is_among-clause-passes c = λ test passes.
    let t = tried c.args.key.now c.args.octets.now c.args.signature.now in
    (passes, among_passes test t c.args.asks.now.items (ap (list_any (is_same_try t)) (sym c.deref.ensures.value) ∙ sym c.is_among.ensures ∙ c.if-is_among.true) passes)
