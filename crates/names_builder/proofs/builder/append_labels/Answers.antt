use Rattle.std.proofs.Common.{ap, sym, ◌∙◌, ◌++◌, ◌∷◌, [], length, append_assoc}
use Rattle.names_wire.specs.Label.{octets_of}
use Rattle.names_labels.specs.Flat.{spelled}
use Rattle.names_labels.proofs.Checks.{spelled-push}
use Rattle.names_labels.proofs.Runs.{moved}
use Rattle.names_builder.proofs.builder.append_labels.Goals as goal

pub loop-label-preserved : goal.loop-label-preserved
loop-label-preserved g c =
    let before = c.loop-label.invariant in
    let l = octets_of c.in-Some.label in
    let old = g.B.OctetsBuilder.bytes c.args.builder.now in (
      before.0 ++ l ∷ [],
      record {
        labels = moved before.0 c.loop-label.labels c.next.new.self _ l before.1.labels c.in-Some.ensures.steps;
        octets = c.in_default-append_behind.ensures.ok
            ∙ (λ t. before.1.octets t ++ (c.len.ensures.value t ∷ c.as_slice-in-Some.ensures.value t))
            ∙ append_assoc old (spelled before.0) (length l ∷ l)
            ∙ ap (λ s. old ++ s) (sym (spelled-push before.0 l));
        len = before.1.len;
      },
    )
