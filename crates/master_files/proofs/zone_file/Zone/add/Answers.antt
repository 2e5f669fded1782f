use Rattle.std.proofs.Common.{refl, string_bytes}
use Rattle.master_files.proofs.ReadOn.{record_added}
use Rattle.master_files.proofs.zone_file.Zone.add.Goals as goal

pub returns : goal.returns
returns c =
    record_added
    c.args.self.now
    c.note_apex.new.self
    (string_bytes c.push_record.new.lines)
    c.in-Some.owner
    (record { owner = c.in-Some.owner; ttl = c.args.ttl; rtype = c.args.rtype; octets = c.args.octets.now })
    c.in_ok-note_apex.ensures.kept
    c.in-Some.is
    refl
    c.in_ok-note_apex.ensures.apex
    c.in_ok-push_record.ensures
