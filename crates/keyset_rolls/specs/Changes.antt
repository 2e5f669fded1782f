-- What rolls do to the flags of one role of a key.
use Rattle.std.specs.Prelude.{true, false, not, ◌&&◌, if◌then◌else◌}
use Rattle.keyset_keys.specs.Keys.{Flags, set_old, set_signer, set_present, set_at_parent}
use Rattle.keyset_rolls.specs.declared.table.RoleChange.{RoleChange}
use Rattle.keyset_rolls.specs.declared.table.RoleChange.TheVariants as change

-- the role enters the DNSKEY RRset, and signs
abbrev pub serve : Flags → Flags
serve f = set_present true (set_signer true f)

-- the role leaves the DNSKEY RRset, and no longer signs
abbrev pub retire : Flags → Flags
retire f = set_present false (set_signer false f)

-- the DS RRset changes: of the keys in the DNSKEY RRset it has those that aren't old
abbrev pub hand_over : Flags → Flags
hand_over f = if f.present then set_at_parent (not f.old) f else f

-- the DNSKEY RRset changes: of the keys at the parent it has those that aren't old
abbrev pub swap : Flags → Flags
swap f = if f.old then (if f.present then retire f else f) else if f.at_parent then serve f else f

-- the signatures change: of the keys in the DNSKEY RRset those sign that aren't old
abbrev pub take_over : Flags → Flags
take_over f = if f.old then set_signer false f else if f.present then set_signer true f else f

-- an old role leaves the DNSKEY RRset, and no longer signs
abbrev pub retire_old : Flags → Flags
retire_old f = if f.old then retire f else f

-- an old role that is in the DNSKEY RRset leaves it, and no longer signs
abbrev pub leave : Flags → Flags
leave f = if f.old && f.present then retire f else f

-- an old role that no longer signs leaves the DNSKEY RRset
abbrev pub fade : Flags → Flags
fade f = if f.old && not f.signer then set_present false f else f

-- an old role leaves the parent
abbrev pub leave_parent : Flags → Flags
leave_parent f = if f.old && f.at_parent then set_at_parent false f else f

-- the change of this name
abbrev pub changed : RoleChange → Flags → Flags
changed change.MarkOld f = set_old true f
changed change.Serve f = serve f
changed change.Show f = set_present true f
changed change.Delegate f = set_at_parent true f
changed change.HandOver f = hand_over f
changed change.Swap f = swap f
changed change.TakeOver f = take_over f
changed change.Retire f = retire f
changed change.RetireOld f = retire_old f
changed change.Leave f = leave f
changed change.Fade f = fade f
changed change.LeaveParent f = leave_parent f
