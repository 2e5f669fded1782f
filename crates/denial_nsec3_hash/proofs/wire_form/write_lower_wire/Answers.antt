use Rattle.std.proofs.Common.{◌≡◌, List, ℕ, ◌++◌, ◌∷◌, [], drop, length, length-append, subst, ap, ◌∙◌, arith}
use Rattle.std.specs.Prelude.{OnOk}
use Rattle.definitions.specs.Name.{low}
use Rattle.names_labels.specs.Flat.{spelled}
use Rattle.denial_nsec3_hash.proofs.Skipped.{skipped_wire}
use Rattle.denial_nsec3_hash.proofs.wire_form.write_lower_wire.Goals as goal

pub returns : goal.returns
returns g c =
    let n = g.N.Labels.name c.args.name.now in
    let ls = g.N.Labels.labels c.args.name.now in
    let rooted : ls ≡ n ++ [] ∷ [] = g.met.N.Absolute.rooted c.args.name.now in
    let count : length ls ≡ length (n ++ [] ∷ []) = ap length rooted in
    let P : List ℕ → Type 0 = λ octets. OnOk c.write_labels.result (c.write_labels.new.buffer.items ≡ octets) in
    subst P (ap (λ m. spelled (low m)) (c.without_first.ensures ∙ ap (drop c.min.result) c.iter_labels.ensures) ∙ skipped_wire c.args.skipped c.min.result n ls rooted (omega (arith, count, length-append n ([] ∷ []), c.label_count.ensures.count, c.min.ensures, c.saturating_sub-most.ensures))) c.write_labels.ensures
