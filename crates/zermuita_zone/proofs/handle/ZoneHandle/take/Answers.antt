use Rattle.std.proofs.Common.{◌≡◌, arith}
use Rattle.zermuita_zone.proofs.Flags.{held_open}
use Rattle.zermuita_zone.proofs.handle.ZoneHandle.take.Goals as goal

pub into_loose-requires : goal.into_loose-requires
into_loose-requires c =
    let is : c.replace-held.result.is_open ≡ 1 = omega (arith, c.if-is_open-eq1.true) in
    held_open c.replace-held.result.held.value c.replace-held.result.is_open c.replace-held.result.flagged is
