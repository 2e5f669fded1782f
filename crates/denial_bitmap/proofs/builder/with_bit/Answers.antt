use Rattle.std.proofs.Common.{◌+◌, ◌-◌, ◌/◌, ◌%◌, ◌^◌, ap, sym, ◌∙◌, eq-eqb, arith}
use Rattle.std.specs.Prelude.{if◌then◌else◌}
use Rattle.std.proofs.lemmas.Bool.{ne_eqb}
use Rattle.denial_bitmap.proofs.Bits.{bit_fits, halved}
use Rattle.denial_bitmap.proofs.builder.with_bit.Goals as goal

pub overflow_add-result : goal.overflow_add-result
overflow_add-result c =
    let q = halved c.args.bit c.requires in
    let clear = bit_fits c.args.octet c.args.bit (omega (arith, c.ranges.octet.fits)) c.requires (λ e. c.if-octet-worth-eq1.false (ap (λ d. c.args.octet / d % 2) q ∙ e)) in
    omega (arith, q, clear)

pub returns-then-octet-worth-eq1 : goal.returns-then-octet-worth-eq1
returns-then-octet-worth-eq1 c =
    let q = halved c.args.bit c.requires in
    sym (ap (λ b. if b then c.args.octet else c.args.octet + 2 ^ (7 - c.args.bit))
    (eq-eqb (c.args.octet / 2 ^ (7 - c.args.bit) % 2) 1 (sym (ap (λ d. c.args.octet / d % 2) q) ∙ c.if-octet-worth-eq1.true)))

pub returns-else-octet-worth-eq1 : goal.returns-else-octet-worth-eq1
returns-else-octet-worth-eq1 c =
    let q = halved c.args.bit c.requires in
    ap (λ d. c.args.octet + d) q
    ∙ sym (ap (λ b. if b then c.args.octet else c.args.octet + 2 ^ (7 - c.args.bit))
    (ne_eqb (c.args.octet / 2 ^ (7 - c.args.bit) % 2) 1 (λ e. c.if-octet-worth-eq1.false (ap (λ d. c.args.octet / d % 2) q ∙ e))))
