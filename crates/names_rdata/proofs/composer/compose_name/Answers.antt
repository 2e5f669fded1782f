use Rattle.std.proofs.Common.{◌≡◌, List, ℕ, length, ◌++◌, ◌∙◌, ap, map, subst}
use Rattle.std.specs.Prelude.{OnOk, OnErr}
use Rattle.names_wire.specs.Room.{LeavesRoom}
use Rattle.names_labels.specs.Flat.{spelled}
use Rattle.names_labels.specs.Order.{in_case}
use Rattle.names_labels.specs.declared.order.Case.TheVariants.{Kept}
use Rattle.names_rdata.proofs.Names.{kept_is_wire}
use Rattle.names_rdata.proofs.composer.compose_name.Goals as goal

pub returns-in-None-clause-ok : goal.returns-in-None-clause-ok
returns-in-None-clause-ok g c =
    let old = g.B.OctetsBuilder.bytes c.args.target.now in
    let new = g.B.OctetsBuilder.bytes c.compose_labels.new.target in
    let n = c.args.name.now in
    let P : List ℕ → Type 0 = λ octets. OnOk c.compose_labels.result (new ≡ old ++ octets) in
    subst P (ap (λ ls. spelled (map (in_case Kept) ls)) c.iter_labels.ensures ∙ kept_is_wire (g.N.Labels.labels n) (g.N.Labels.name n) (g.met.N.Absolute.rooted n)) c.compose_labels.ensures.ok

pub returns-in-None-clause-full : goal.returns-in-None-clause-full
returns-in-None-clause-full g c =
    let old = c.args.target.now in
    let n = c.args.name.now in
    let P : List ℕ → Type 0 = λ octets. OnErr c.compose_labels.result (g.B.OctetsBuilder.lacks_room old (length octets)) in
    subst P (ap (λ ls. spelled (map (in_case Kept) ls)) c.iter_labels.ensures ∙ kept_is_wire (g.N.Labels.labels n) (g.N.Labels.name n) (g.met.N.Absolute.rooted n)) c.compose_labels.ensures.full

pub returns-in-None-clause-left : goal.returns-in-None-clause-left
returns-in-None-clause-left g c =
    let old = c.args.target.now in
    let new = c.compose_labels.new.target in
    let n = c.args.name.now in
    let P : List ℕ → Type 0 = λ octets. OnOk c.compose_labels.result (LeavesRoom g.B.OctetsBuilder.lacks_room old new (length octets)) in
    subst P (ap (λ ls. spelled (map (in_case Kept) ls)) c.iter_labels.ensures ∙ kept_is_wire (g.N.Labels.labels n) (g.N.Labels.name n) (g.met.N.Absolute.rooted n)) c.compose_labels.ensures.left
