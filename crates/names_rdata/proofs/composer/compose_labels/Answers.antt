use Rattle.std.proofs.Common.{◌≡◌, ◌+◌, ap, sym, refl, subst, length, ◌∙◌, ◌++◌, ◌∷◌, [], map, append_assoc, arith}
use Rattle.std.proofs.lemmas.List.{map-append, append-nil}
use Rattle.names_wire.specs.Label.{octets_of, wire_label}
use Rattle.names_labels.specs.Flat.{spelled}
use Rattle.names_labels.specs.Order.{in_case}
use Rattle.names_labels.proofs.Checks.{spelled-push}
use Rattle.names_labels.proofs.Runs.{moved}
use Rattle.names_rdata.proofs.Room.{left_by_label}
use Rattle.names_rdata.proofs.composer.compose_labels.Goals as goal

pub loop-label-preserved : goal.loop-label-preserved
loop-label-preserved g c =
    let before = c.loop-label.invariant in
    let l = octets_of c.in-Some.label in
    let f = in_case c.args.case in
    let old = g.B.OctetsBuilder.bytes c.args.target.now in (
      before.0 ++ l ∷ [],
      record {
        labels = moved before.0 c.loop-label.labels c.next.new.self _ l before.1.labels c.in-Some.ensures.steps;
        octets = c.in_default-compose_label.ensures.ok
            ∙ (λ t. before.1.octets t ++ wire_label (f l))
            ∙ append_assoc old (spelled (map f before.0)) (wire_label (f l))
            ∙ ap (λ s. old ++ s) (sym (ap spelled (map-append f before.0 (l ∷ [])) ∙ spelled-push (map f before.0) (f l)));
        len = before.1.len;
        left = left_by_label g.B.OctetsBuilder.lacks_room c.args.target.now c.loop-label.target c.compose_label.new.target f before.0 l
            before.1.left c.in_default-compose_label.ensures.left;
      },
    )

pub loop-label-init : goal.loop-label-init
loop-label-init g c =
    let target = c.args.target.now in (
      [],
      record {
        labels = refl;
        octets = sym (append-nil (g.B.OctetsBuilder.bytes target));
        len = ap length c.as_slice.ensures;
        left = λ m h. let e : m ≡ 0 + m = omega arith in subst (g.B.OctetsBuilder.lacks_room target) e h;
      },
    )
