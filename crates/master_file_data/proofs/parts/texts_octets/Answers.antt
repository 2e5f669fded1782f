use Rattle.std.proofs.Common.{◌≡◌, ◌<◌, ◌≤◌, ◌+◌, ◌++◌, List, ℕ, arith, drop, length, sym, subst}
use Rattle.std.proofs.lemmas.Grind.{common_steps}
use Rattle.master_file_data.specs.Fields.{text_of}
use Rattle.master_file_data.specs.Parts.{AreTexts}
use Rattle.master_file_data.specs.Text.{SpellsCounted}
use Rattle.master_file_data.proofs.Steps.{drop_item, none_left, texts_all, texts_step}
use Rattle.master_file_data.proofs.parts.texts_octets.Goals as goal

pub loop-field-preserved : goal.loop-field-preserved
loop-field-preserved c =
    let fs = c.args.fields.now in
    let i = c.loop-field.field-index in
    let out = c.loop-field.out.items in
    let head = c.in_ok-octets.octets.items in
    let inside : i < length fs = omega arith in
    let left = drop_item fs i c.field-item.result inside c.field-item.is in
    let items : c.extend_from_slice.new.self.items ≡ out ++ head = grind (arith, common_steps) in
    let text : SpellsCounted (text_of c.field-item.result) head = subst (λ (t : List ℕ). SpellsCounted t head) c.as_str.ensures.value c.in_ok-octets.ensures in
    let step = texts_step fs (drop i fs) (drop (i + 1) fs) c.field-item.result out head c.loop-field.invariant left text in
    subst (λ (l : List ℕ). (os : List ℕ) → AreTexts (drop (i + 1) fs) os → AreTexts fs (l ++ os)) (sym items) step

pub returns : goal.returns
returns c =
    let fs = c.args.fields.now in
    let i = c.loop-field.field-index in
    let past : length fs ≤ i = omega arith in
    texts_all fs (drop i fs) c.loop-field.out.items c.loop-field.invariant (none_left fs i past)
