use Rattle.std.proofs.Common.{◌≡◌, ◌++◌, map, drop}
use Rattle.denial_nsec_chain.specs.Chain.{record_of}
use Rattle.denial_nsec_chain.specs.Groups.{group_records}
use Rattle.denial_nsec_chain.proofs.records.nsecs_of.Given as goal

abbrev pub invariant-loop-place : goal.invariant-loop-place
invariant-loop-place g l =
    map (record_of g.N.Labels.name) l.nsecs.items
    ++ group_records g.N.Labels.name g.D.RecordData.type_of (g.N.Labels.name l.apex) l.ttl l.config.assume_dnskeys_will_be_added (drop l.place l.owners)
    ≡ group_records g.N.Labels.name g.D.RecordData.type_of (g.N.Labels.name l.apex) l.ttl l.config.assume_dnskeys_will_be_added l.owners
