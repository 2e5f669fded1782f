use Rattle.std.proofs.Common.{◌≡◌, List, ℕ, length, ◌++◌, ◌∙◌, ap, map, sym, subst}
use Rattle.std.proofs.lemmas.List.{length-map}
use Rattle.std.specs.Char.{to_ascii_lowercase}
use Rattle.std.specs.Prelude.{OnOk, OnErr}
use Rattle.names_wire.specs.Room.{LeavesRoom}
use Rattle.names_labels.specs.Flat.{spelled}
use Rattle.names_labels.specs.Order.{in_case}
use Rattle.names_labels.specs.declared.order.Case.TheVariants.{Lowered}
use Rattle.names_rdata.proofs.Names.{lowered_is_wire, row_lowered}
use Rattle.names_rdata.proofs.composer.compose_canonical_name.Goals as goal

pub returns-in-Some-clause-ok : goal.returns-in-Some-clause-ok
returns-in-Some-clause-ok g c =
    let old = g.B.OctetsBuilder.bytes c.args.target.now in
    let new = g.B.OctetsBuilder.bytes c.append_lowered.new.target in
    let n = c.args.name.now in
    let P : List ℕ → Type 0 = λ octets. OnOk c.append_lowered.result (new ≡ old ++ octets) in
    subst P (row_lowered c.in-Some.row.now (g.N.Labels.labels n) (g.N.Labels.name n) c.in-Some.ensures.row (g.met.N.Absolute.rooted n)) c.append_lowered.ensures.ok

pub returns-in-None-clause-ok : goal.returns-in-None-clause-ok
returns-in-None-clause-ok g c =
    let old = g.B.OctetsBuilder.bytes c.args.target.now in
    let new = g.B.OctetsBuilder.bytes c.compose_labels.new.target in
    let n = c.args.name.now in
    let P : List ℕ → Type 0 = λ octets. OnOk c.compose_labels.result (new ≡ old ++ octets) in
    subst P (ap (λ ls. spelled (map (in_case Lowered) ls)) c.iter_labels.ensures ∙ lowered_is_wire (g.N.Labels.labels n) (g.N.Labels.name n) (g.met.N.Absolute.rooted n)) c.compose_labels.ensures.ok

pub returns-in-Some-clause-full : goal.returns-in-Some-clause-full
returns-in-Some-clause-full g c =
    let old = c.args.target.now in
    let n = c.args.name.now in
    let P : ℕ → Type 0 = λ k. OnErr c.append_lowered.result (g.B.OctetsBuilder.lacks_room old k) in
    subst P (sym (length-map c.in-Some.row.now to_ascii_lowercase) ∙ ap length (row_lowered c.in-Some.row.now (g.N.Labels.labels n) (g.N.Labels.name n) c.in-Some.ensures.row (g.met.N.Absolute.rooted n))) c.append_lowered.ensures.full

pub returns-in-Some-clause-left : goal.returns-in-Some-clause-left
returns-in-Some-clause-left g c =
    let old = c.args.target.now in
    let new = c.append_lowered.new.target in
    let n = c.args.name.now in
    let P : ℕ → Type 0 = λ k. OnOk c.append_lowered.result (LeavesRoom g.B.OctetsBuilder.lacks_room old new k) in
    subst P (sym (length-map c.in-Some.row.now to_ascii_lowercase) ∙ ap length (row_lowered c.in-Some.row.now (g.N.Labels.labels n) (g.N.Labels.name n) c.in-Some.ensures.row (g.met.N.Absolute.rooted n))) c.append_lowered.ensures.left
