use Rattle.std.proofs.Common.{◌-◌, arith}
use Rattle.denial_nsec3_names.specs.Chained.{spot_of}
use Rattle.denial_nsec3_names.specs.Walk.{last_spots}
use Rattle.denial_nsec3_names.proofs.Named.{last_step, pushed}
use Rattle.denial_nsec3_names.proofs.names.push_names.Goals as goal

pub loop-skipped-preserved : goal.loop-skipped-preserved
loop-skipped-preserved g c =
    let owner = c.args.owner.now in
    let k = c.loop-skipped.skipped in
    pushed spot_of c.loop-skipped.names.items c.push.new.self.items _ (last_spots (k - 1) owner) (last_spots k owner) _ c.in_ok-push.ensures.items (last_step k (k - 1) owner (omega (arith, c.loop-skipped-test.true))) c.loop-skipped.invariant
