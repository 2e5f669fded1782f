use Rattle.std.proofs.Common.{◌≡◌, length, ap, arith}
use Rattle.std.specs.Prelude.{nat_le}
use Rattle.definitions.specs.Limits.{pointer_limit}
use Rattle.messages.specs.Message.{behind}
use Rattle.messages.specs.Record.{spelled}
use Rattle.messages_canonical.specs.Canonical.{most_octets}
use Rattle.messages.proofs.MessageParts.{octets_all, placed_record}
use Rattle.messages_canonical.proofs.NumbersStand.{own_record}
use Rattle.messages_canonical.proofs.Pieces.{writes_if}
use Rattle.messages_canonical.proofs.message.push_with_own_data.Goals as goal

pub returns : goal.returns
returns c =
    let m = c.args.bytes.now in
    let r = spelled c.args.view.now in
    let a = c.put_name_at.new.rdata.items in
    let b = c.extend_from_slice.new.self.items in
    let placed = placed_record pointer_limit m c.args.at (r, behind r) c.requires in
    let written = own_record m c.args.at r c.args.octets.now.items a b (octets_all m (λ i. (c.type_inv.bytes i).fits)) c.requires
    (c.in_ok-put_name_at.ensures r.owner placed.end placed.owner)
    c.in_ok-extend_from_slice.ensures.items in
    let long : length b ≡ c.len.result = omega (arith, c.len.ensures, c.extend_from_slice.new.self.ok.0) in
    writes_if (nat_le c.len.result most_octets) c.args.octets.now.items b _ written (ap (λ n. nat_le n most_octets) long)
