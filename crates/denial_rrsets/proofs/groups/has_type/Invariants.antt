use Rattle.std.proofs.Common.{◌≡◌, nat_eq}
use Rattle.std.specs.List.{list_any}
use Rattle.denial_rrsets.specs.Slices.{items_of}
use Rattle.denial_rrsets.proofs.groups.has_type.Given as goal

abbrev pub invariant-loop-rr : goal.invariant-loop-rr
invariant-loop-rr g l = list_any (λ r. nat_eq (g.D.RecordData.type_of r.content) l.rtype) l.records ≡ list_any (λ r. nat_eq (g.D.RecordData.type_of r.content) l.rtype) (items_of l.fn.slice)
