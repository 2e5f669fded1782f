use Rattle.std.proofs.Common.{◌++◌, ℕ, ap, sym, ◌∙◌}
use Rattle.std.specs.Option.{option_map}
use Rattle.definitions.specs.Limits.{pointer_limit}
use Rattle.definitions.specs.Name.{Name, low, wire}
use Rattle.names_parsed.specs.Parsed.{parsed_name}
use Rattle.messages_canonical.specs.Canonical.{part_at}
use Rattle.messages_canonical.proofs.NamesInFull.{owner_upto, reads_there}
use Rattle.messages_canonical.proofs.data.put_part.Goals as goal

pub put_lowered_at-requires : goal.put_lowered_at-requires
put_lowered_at-requires c =
    let n : Name × ℕ = (parsed_name c.in-Some.field-0-0, c.in-Some.behind) in
    (reads_there c.args.message.now c.args.at n (owner_upto c.args.message.now c.args.at c.args.limit n (sym c.in-Some.ensures))).0

pub returns-in_ok-put_lowered_at-in-Lowered : goal.returns-in_ok-put_lowered_at-in-Lowered
returns-in_ok-put_lowered_at-in-Lowered c =
    let m = c.args.message.now in
    let n : Name × ℕ = (parsed_name c.in-Some.field-0-0, c.in-Some.behind) in
    let read = sym c.in-Some.ensures in
    let there = reads_there m c.args.at n (owner_upto m c.args.at c.args.limit n read) in (
      wire (low n.0),
      ap (λ d. part_at pointer_limit m c.args.limit d c.args.at) c.in-Lowered.is ∙ ap (option_map (λ (x : Name × ℕ). (wire (low x.0), x.1))) read,
      c.in_ok-put_lowered_at-in-Lowered.ensures ∙ ap (λ (x : Name). c.args.rdata.now.items ++ wire (low x)) there.1,
    )

pub returns-in_ok-put_name_at-in-Kept : goal.returns-in_ok-put_name_at-in-Kept
returns-in_ok-put_name_at-in-Kept c =
    let m = c.args.message.now in
    let n : Name × ℕ = (parsed_name c.in-Some-name_upto.field-0-0, c.in-Some-name_upto.behind) in
    let read = sym c.in-Some-name_upto.ensures in (
      wire n.0,
      ap (λ d. part_at pointer_limit m c.args.limit d c.args.at) c.in-Kept.is ∙ ap (option_map (λ (x : Name × ℕ). (wire x.0, x.1))) read,
      c.in_ok-put_name_at-in-Kept.ensures n.0 n.1 (owner_upto m c.args.at c.args.limit n read),
    )
