use Rattle.std.proofs.Common.{◌≡◌, ◌<◌, ◌+◌, ◌-◌, ◌∙◌, sym, length, true, false, arith}
use Rattle.names_wire.specs.Label.{octets_of}
use Rattle.names_wire.proofs.Along.{behind_short}
use Rattle.names_parsed.proofs.Parsing.{along_start, along_inside, along_root, along_pointer, along_label}
use Rattle.names_parsed.proofs.Rows.{row_flat}
use Rattle.names_parsed.proofs.parsed.ParsedName.is_compressed.Goals as goal

pub returns-then-self-gt0-clause-flat : goal.returns-then-self-gt0-clause-flat
returns-then-self-gt0-clause-flat c = λ h.
    let n = c.args.self.now in
    row_flat n.message.now n.start (n.start + n.row) (n.in_row c.if-self-gt0.true)

pub loop-label-init : goal.loop-label-init
loop-label-init c = let n = c.args.self.now in along_start n.message.now n.start n.there

pub label_at-requires : goal.label_at-requires
label_at-requires c = let n = c.args.self.now in along_inside n.message.now n.start c.loop-label.place c.loop-label.invariant

pub returns-in-Ok-clause-flat : goal.returns-in-Ok-clause-flat
returns-in-Ok-clause-flat c = λ h.
    let n = c.args.self.now in
    along_root n.message.now n.start c.loop-label.place (octets_of c.in-Ok.label) _ c.loop-label.invariant c.in-Ok.ensures (c.is_root.ensures.0 c.if-is_root.true)

pub returns-in-Err-clause-compressed : goal.returns-in-Err-clause-compressed
returns-in-Err-clause-compressed c = λ h.
    let n = c.args.self.now in
    along_pointer n.message.now n.start c.loop-label.place _ c.loop-label.invariant c.in-Err.ensures

pub overflow_sub-place : goal.overflow_sub-place
overflow_sub-place c =
    let n = c.args.self.now in
    behind_short n.message.now c.loop-label.place (octets_of c.in-Ok.label) _ (along_inside n.message.now n.start c.loop-label.place c.loop-label.invariant) c.in-Ok.ensures

pub loop-label-smaller : goal.loop-label-smaller
loop-label-smaller c =
    let n = c.args.self.now in
    let m = n.message.now in
    let q = length m - length c.in-Ok.field-0-1.now in
    let f = along_label m n.start c.loop-label.place (octets_of c.in-Ok.label) c.in-Ok.field-0-1.now c.loop-label.invariant c.in-Ok.ensures (λ e. let x : true ≡ false = sym (c.is_root.ensures.1 e) ∙ c.if-is_root.false in cc) in
    let less : length m - q < length m - c.loop-label.place = omega (arith, f.behind, f.inside) in
    less

pub loop-label-preserved : goal.loop-label-preserved
loop-label-preserved c =
    let n = c.args.self.now in
    (along_label n.message.now n.start c.loop-label.place (octets_of c.in-Ok.label) c.in-Ok.field-0-1.now c.loop-label.invariant c.in-Ok.ensures (λ e. let x : true ≡ false = sym (c.is_root.ensures.1 e) ∙ c.if-is_root.false in cc)).along
