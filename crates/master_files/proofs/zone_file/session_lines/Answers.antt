use Rattle.std.proofs.Common.{◌++◌, string_bytes}
use Rattle.master_files.specs.Reading.{ReadsOn, given_name, read_of}
use Rattle.master_files.proofs.ReadOn.{read_on, zone_read}
use Rattle.master_files.proofs.zone_file.session_lines.Goals as goal

pub loop-entry-preserved : goal.loop-entry-preserved
loop-entry-preserved c =
    let on : ReadsOn (read_of c.loop-entry.zone) (read_of c.read.new.self) = c.in-Ok.ensures in
    let before = c.loop-entry.invariant in (
      before.0 ++ on.added,
      read_on (given_name c.args.reading.now.apex.now) (read_of c.loop-entry.zone) (read_of c.read.new.self) before.0 before.1 on,
    )

pub returns : goal.returns
returns c =
    zone_read
    c.args.reading.now.chain.now
    c.args.reading.now.apex.now
    c.loop-entry.zone
    c.in-Some.apex
    c.loop-entry.invariant.0
    (string_bytes c.new-lines.result)
    c.in_ok-chain.chain.now
    (string_bytes c.push_head.new.lines)
    c.deref-2.result.now
    (string_bytes c.push_str.new.self)
    c.loop-entry.invariant.1
    c.in-Some.is
    c.in_ok-chain.ensures.words
    c.new-lines.ensures.bytes
    c.in_ok-chain.ensures.same
    c.in_ok-push_head.ensures
    c.deref-2.ensures
    c.in_ok-push_str.ensures.bytes
