use Rattle.std.proofs.Common.{◌≡◌, ◌++◌, List, ℕ, length, ap, ◌∙◌, arith}
use Rattle.std.specs.Prelude.{nat_le}
use Rattle.definitions.specs.Limits.{pointer_limit}
use Rattle.messages.specs.Message.{behind}
use Rattle.messages.specs.Record.{spelled}
use Rattle.messages.proofs.MessageParts.{placed_record}
use Rattle.messages_canonical.specs.Canonical.{most_octets, with_data}
use Rattle.messages_canonical.proofs.Pieces.{record_pieces, too_long, writes_if}
use Rattle.messages_canonical.proofs.message.push_with_data.Goals as goal

pub returns-then-rdata-gt-MOST : goal.returns-then-rdata-gt-MOST
returns-then-rdata-gt-MOST c = too_long (with_data (spelled c.args.view.now) c.args.rdata.now) c.args.octets.now.items c.args.octets.now.items c.if-rdata-gt-MOST.true

pub returns : goal.returns
returns c =
    let r = spelled c.args.view.now in
    let w = with_data r c.args.rdata.now in
    let a = c.put_name_at.new.rdata.items in
    let b = c.extend_from_slice.new.self.items in
    let d = c.extend_from_slice-2.new.self.items in
    let placed = placed_record pointer_limit c.args.bytes.now c.args.at (r, behind r) c.requires in
    let written = record_pieces w c.args.octets.now.items a b d
    (c.in_ok-put_name_at.ensures r.owner placed.end placed.owner)
    (c.in_ok-extend_from_slice.ensures.items ∙ ap (λ (l : List ℕ). a ++ l) c.record_numbers.ensures)
    c.in_ok-extend_from_slice-2.ensures.items in
    let long : length d ≡ c.len.result = omega (arith, c.len.ensures, c.extend_from_slice-2.new.self.ok.0) in
    writes_if (nat_le c.len.result most_octets) c.args.octets.now.items d _ written (ap (λ n. nat_le n most_octets) long)
