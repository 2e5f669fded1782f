use Rattle.std.proofs.Common.{◌≡◌, ◌∙◌, ◌+◌, nat_eq, sym, ap, true, false}
use Rattle.names_wire.specs.Label.{octets_of}
use Rattle.names_labels.proofs.Cuts.{one_behind, parts_behind}
use Rattle.names_labels.proofs.flat.split_near_end.Goals as goal

pub loop-near-preserved : goal.loop-near-preserved
loop-near-preserved c =
    let w = c.loop-near.invariant in
    let behind = c.in-Some.behind.now in
    record {
      behind = (w.behind.0 + 1, one_behind c.args.run.now c.loop-near.near.now behind w.behind.0 (octets_of c.in-Some.field-0-0) c.requires w.behind.1 c.in-Some.ensures);
      some = λ h. let x : true ≡ false = sym (c.is_empty.ensures ∙ ap (λ n. nat_eq n 0) h) ∙ c.if-is_empty.false in cc;
    }

pub returns-clause-parts : goal.returns-clause-parts
returns-clause-parts c =
    let w = c.loop-near.invariant in
    parts_behind c.args.run.now c.loop-near.near.now w.behind.0 c.requires w.behind.1
