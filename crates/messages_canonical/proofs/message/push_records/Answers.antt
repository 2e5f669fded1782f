use Rattle.std.proofs.Common.{length, arith}
use Rattle.definitions.specs.Limits.{pointer_limit}
use Rattle.messages_canonical.proofs.Pieces.{no_room, octets_by, records_all, records_more, when_false, when_true}
use Rattle.messages_canonical.proofs.Seen.{next_stands}
use Rattle.messages_canonical.proofs.message.push_records.Goals as goal

pub push_record-requires : goal.push_record-requires
push_record-requires c =
    (next_stands c.args.bytes.now c.args.records.now c.loop-record.record-index c.loop-record.at c.record-item.result c.loop-record-test.true c.record-item.is c.loop-record.invariant.2).0

pub loop-record-preserved : goal.loop-record-preserved
loop-record-preserved c =
    let m = c.args.bytes.now in
    let a = c.loop-record.octets.items in
    let r = c.record-item.result in
    let one = when_true c.in_ok-push_record.field-0 a c.push_record.new.octets.items (octets_by pointer_limit m r) c.in_ok-push_record.ensures c.if-not-branch.false in (
      records_more pointer_limit m c.args.octets.now.items a c.push_record.new.octets.items c.args.records.now c.loop-record.record-index r c.loop-record-test.true c.record-item.is c.loop-record.invariant.0 one.0,
      one.1,
      (next_stands m c.args.records.now c.loop-record.record-index c.loop-record.at r c.loop-record-test.true c.record-item.is c.loop-record.invariant.2).1,
    )

pub returns-then-not-branch : goal.returns-then-not-branch
returns-then-not-branch c =
    let m = c.args.bytes.now in
    let a = c.loop-record.octets.items in
    let r = c.record-item.result in
    let long = when_false c.in_ok-push_record.field-0 a c.push_record.new.octets.items (octets_by pointer_limit m r) c.in_ok-push_record.ensures c.if-not-branch.true in
    no_room pointer_limit m c.args.octets.now.items a c.args.records.now c.loop-record.record-index r c.loop-record-test.true c.record-item.is c.loop-record.invariant.0 long

pub returns : goal.returns
returns c =
    let n = length c.args.records.now in
    (records_all pointer_limit c.args.bytes.now c.args.octets.now.items c.loop-record.octets.items c.args.records.now c.loop-record.record-index (omega (arith, c.loop-record-test.false)) c.loop-record.invariant.0, c.loop-record.invariant.1)
