use Rattle.std.proofs.Common.{inl, inr}
use Rattle.server_zone_octets.proofs.lines.told_line.Goals as goal

pub returns-in-Ok : goal.returns-in-Ok
returns-in-Ok g c =
    let e = c.in-Ok.ensures in
    inl (record { a = c.in-Ok.applied; follows = e.ok; behind = e.state; rest = e.rest; holds = e.holds; told = c.told_applied.ensures })

pub returns-in-Err : goal.returns-in-Err
returns-in-Err g c =
    let e = c.in-Err.ensures in
    inr (record { f = c.in-Err.refusal; refuses = e.fault; state = e.refused; publisher = e.same; holds = e.holds; told = c.told_refusal.ensures })
