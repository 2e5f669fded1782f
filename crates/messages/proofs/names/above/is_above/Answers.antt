use Rattle.std.proofs.Common.{◌≡◌, ◌+◌, [], ◌∷◌, ◌∙◌, ap, arith, length, length-append, sym}
use Rattle.std.proofs.lemmas.Bool.{le-ltb}
use Rattle.messages.proofs.NameEnds.{strictly-ends, strictly_short}
use Rattle.messages.proofs.names.above.is_above.Goals as goal

pub returns-then-label_count : goal.returns-then-label_count
returns-then-label_count g c =
    let b = g.B.Labels.name c.args.base.now in
    let n = g.N.Labels.name c.args.name.now in
    let bs : length (g.B.Labels.labels c.args.base.now) ≡ length b + 1 = ap length (g.met.B.Absolute.rooted c.args.base.now) ∙ length-append b ([] ∷ []) in
    let ns : length (g.N.Labels.labels c.args.name.now) ≡ length n + 1 = ap length (g.met.N.Absolute.rooted c.args.name.now) ∙ length-append n ([] ∷ []) in
    c.is_at_or_above.ensures ∙ sym (strictly-ends b n (omega (arith, bs, ns, c.label_count.ensures, c.label_count-2.ensures)))

pub returns-else-label_count : goal.returns-else-label_count
returns-else-label_count g c =
    let b = g.B.Labels.name c.args.base.now in
    let n = g.N.Labels.name c.args.name.now in
    let bs : length (g.B.Labels.labels c.args.base.now) ≡ length b + 1 = ap length (g.met.B.Absolute.rooted c.args.base.now) ∙ length-append b ([] ∷ []) in
    let ns : length (g.N.Labels.labels c.args.name.now) ≡ length n + 1 = ap length (g.met.N.Absolute.rooted c.args.name.now) ∙ length-append n ([] ∷ []) in
    le-ltb c.label_count.result c.label_count-2.result (omega arith) ∙ sym (strictly_short b n (omega (arith, bs, ns, c.label_count.ensures, c.label_count-2.ensures)))
