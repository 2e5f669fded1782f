use Rattle.zermuita.proofs.Counted.{walk_reported}
use Rattle.zermuita.proofs.calls.resolve_counted.Goals as goal

pub end-requires : goal.end-requires
end-requires g c = walk_reported _ _ _ _ _ c.new-hasher.ensures c.resolve_evidence-number.ensures.hashed
