use Rattle.std.proofs.Common.{◌≡◌, ◌∷◌, ◌++◌, ◌∙◌, [], map, length, take, false, refl, sym, ap, append_assoc, append-nil}
use Rattle.std.specs.Prelude.{nat_eq}
use Rattle.std.specs.Str.{str_to_ascii_lowercase}
use Rattle.std.specs.Ordering.{nat_cmp}
use Rattle.std.specs.Cmp.Lexicographic.{slice_cmp}
use Rattle.names_wire.specs.Label.{octets_of, wire_label}
use Rattle.names_labels.specs.Flat.{spelled}
use Rattle.names_labels.specs.Order.{in_case}
use Rattle.names_labels.specs.declared.order.Case.TheVariants.{Lowered}
use Rattle.names_labels.proofs.Runs.{moved}
use Rattle.names_rdata.proofs.Names.{lowered_is_wire}
use Rattle.plain.proofs.Stripping.{same_front, not_in_front, in_front, split_at, one_more}
use Rattle.plain.proofs.zone_order.strip_canonical_name.Goals as goal
use lib.Pointwise.{pointwise}

pub loop-label-init : goal.loop-label-init
loop-label-init g c = ([], record { labels = c.iter_labels-labels.ensures; octets = refl })

pub returns-in_default-strip_prefix : goal.returns-in_default-strip_prefix
returns-in_default-strip_prefix g c = λ behind.
    let before = c.loop-label.invariant in
    let name = c.args.name.now in
    let l = octets_of c.in-Some.label in
    let rest = c.loop-label.rest.now in
    let w = wire_label (str_to_ascii_lowercase l) in
    let front = spelled (map (in_case Lowered) before.0) in
    let more = spelled (map (in_case Lowered) c.next.new.self) in
    let lowered = c.make_canonical.ensures ∙ ap str_to_ascii_lowercase c.from_label-label.ensures in
    let tried : c.as_wire_slice.result.now ≡ w = c.as_wire_slice.ensures ∙ ap wire_label lowered in
    let shown : c.as_wire_slice-in_default-strip_prefix.result.now ≡ w = c.as_wire_slice-in_default-strip_prefix.ensures ∙ ap wire_label lowered in
    let other : pointwise nat_eq (take (length w) rest) w ≡ false = ap (λ x. pointwise nat_eq (take (length x) rest) x) (sym tried) ∙ c.in_default-strip_prefix.ensures.cases in
    let whole = split_at before.0 c.next.new.self (g.N.Labels.labels name) (g.N.Labels.name name) l (ap (λ x. before.0 ++ x) (sym c.in-Some.ensures.steps) ∙ before.1.labels) (g.met.N.Absolute.rooted name) in
    (λ i. slice_cmp nat_cmp (whole i ++ behind) (before.1.octets i))
    ∙ ap (λ x. slice_cmp nat_cmp x (front ++ rest)) (append_assoc front (w ++ more) behind ∙ ap (λ x. front ++ x) (append_assoc w more behind))
    ∙ same_front front (w ++ (more ++ behind)) rest
    ∙ not_in_front w rest (more ++ behind) other
    ∙ ap (λ x. slice_cmp nat_cmp x rest) (sym shown)
    ∙ sym c.cmp.ensures

pub loop-label-preserved : goal.loop-label-preserved
loop-label-preserved g c =
    let before = c.loop-label.invariant in
    let l = octets_of c.in-Some.label in
    let rest = c.loop-label.rest.now in
    let w = wire_label (str_to_ascii_lowercase l) in
    let front = spelled (map (in_case Lowered) before.0) in
    let behind = c.in-Some-strip_prefix.behind.now in
    let tried : c.as_wire_slice.result.now ≡ w = c.as_wire_slice.ensures ∙ ap wire_label (c.make_canonical.ensures ∙ ap str_to_ascii_lowercase c.from_label-label.ensures) in
    let found = c.in-Some-strip_prefix.ensures.cases in
    let there : rest ≡ w ++ behind = in_front c.as_wire_slice.result.now rest behind found.0 found.1 ∙ ap (λ x. x ++ behind) tried in (
      before.0 ++ l ∷ [],
      record {
        labels = moved before.0 c.loop-label.labels c.next.new.self _ l before.1.labels c.in-Some.ensures.steps;
        octets = before.1.octets ∙ ap (λ x. front ++ x) there ∙ sym (append_assoc front w behind) ∙ ap (λ x. x ++ behind) (sym (one_more before.0 l));
      },
    )

pub returns : goal.returns
returns g c =
    let before = c.loop-label.invariant in
    let name = c.args.name.now in
    let labels = sym (append-nil before.0) ∙ ap (λ x. before.0 ++ x) (sym c.in_default.ensures.steps.0) ∙ before.1.labels in
    before.1.octets
    ∙ ap (λ x. x ++ c.loop-label.rest.now) (ap (λ x. spelled (map (in_case Lowered) x)) labels ∙ lowered_is_wire (g.N.Labels.labels name) (g.N.Labels.name name) (g.met.N.Absolute.rooted name))
