use Rattle.std.proofs.Common.{◌≡◌, ◌++◌, ◌∷◌, ◌+◌, ◌-◌, [], length, length-append, drop, ap, sym, ◌∙◌, arith}
use Rattle.denial_nsec3_names.specs.Differing.{differing}
use Rattle.denial_nsec3_names.proofs.Fresh.{fresh_by_labels}
use Rattle.denial_nsec3_names.proofs.labels.fresh_labels.Goals as goal

pub returns : goal.returns
returns g c =
    let o = g.N.Labels.name c.args.owner.now in
    let p = g.N.Labels.name c.args.before.now in
    let os = g.N.Labels.labels c.args.owner.now in
    let ps = g.N.Labels.labels c.args.before.now in
    let eo : os ≡ o ++ [] ∷ [] = g.met.N.Absolute.rooted c.args.owner.now in
    let ep : ps ≡ p ++ [] ∷ [] = g.met.N.Absolute.rooted c.args.before.now in
    let longer = c.saturating_sub-longer.result in
    let back = c.saturating_sub.result in
    let a : c.without_first-labels.result ≡ drop longer os = c.without_first-labels.ensures ∙ ap (drop longer) c.iter_labels.ensures in
    let b : c.without_first-others.result ≡ drop back ps = c.without_first-others.ensures ∙ ap (drop back) c.iter_labels-2.ensures in
    let lo : length os ≡ length o + 1 = ap length eo ∙ length-append o ([] ∷ []) in
    let lp : length ps ≡ length p + 1 = ap length ep ∙ length-append p ([] ∷ []) in
    let l : longer ≡ length o - length p = omega (arith, lo, lp, c.saturating_sub-longer.ensures, c.label_count-count.ensures.count, c.label_count-other.ensures.count) in
    let m : back ≡ length p - length o = omega (arith, lo, lp, c.saturating_sub.ensures, c.label_count-count.ensures.count, c.label_count-other.ensures.count) in
    ap (λ d. longer + d) (c.differing_labels.ensures.value ∙ (λ i. differing (a i) (b i))) ∙ fresh_by_labels p o ps os longer back ep eo l m

pub returns-in-Some : goal.returns-in-Some
returns-in-Some g c =
    let o = g.N.Labels.name c.args.owner.now in
    let p = g.N.Labels.name c.args.before.now in
    let os = g.N.Labels.labels c.args.owner.now in
    let ps = g.N.Labels.labels c.args.before.now in
    let eo : os ≡ o ++ [] ∷ [] = g.met.N.Absolute.rooted c.args.owner.now in
    let ep : ps ≡ p ++ [] ∷ [] = g.met.N.Absolute.rooted c.args.before.now in
    let run = c.in-Some-Some.ensures.row.labels in
    let other = c.in-Some-Some.ensures'.row.labels in
    let alike : length os ≡ length ps = sym (ap length run) ∙ c.in-Some.ensures.0 ∙ ap length other in
    let lo : length os ≡ length o + 1 = ap length eo ∙ length-append o ([] ∷ []) in
    let lp : length ps ≡ length p + 1 = ap length ep ∙ length-append p ([] ∷ []) in
    let none : 0 + differing os ps ≡ differing os ps = omega arith in
    c.in-Some.ensures.1 ∙ (λ i. differing (run i) (other i)) ∙ sym none ∙ fresh_by_labels p o ps os 0 0 ep eo (omega (arith, lo, lp, alike)) (omega (arith, lo, lp, alike))
