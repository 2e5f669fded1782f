use Rattle.zermuita.proofs.Counted.{judge_reported}
use Rattle.zermuita.proofs.calls.judge_counted.Goals as goal

pub end-requires : goal.end-requires
end-requires g c = judge_reported _ _ _ _ _ c.new-hasher.ensures _ c.judge_case-number.ensures.hashed
