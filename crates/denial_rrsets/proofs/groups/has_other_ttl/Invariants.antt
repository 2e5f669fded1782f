use Rattle.std.proofs.Common.{◌≡◌, nat_eq, not}
use Rattle.std.specs.List.{list_any}
use Rattle.denial_rrsets.proofs.groups.has_other_ttl.Given as goal

abbrev pub invariant-loop-rr : goal.invariant-loop-rr
invariant-loop-rr g l = list_any (λ r. not (nat_eq r.ttl l.ttl)) l.records ≡ list_any (λ r. not (nat_eq r.ttl l.ttl)) l.initial.records
