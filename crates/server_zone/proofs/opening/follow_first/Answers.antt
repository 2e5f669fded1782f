use Rattle.std.proofs.Common.{ap}
use Rattle.server_zone.specs.StateLines.{line_view}
use Rattle.server_zone.specs.States.{state_of}
use Rattle.server_zone.specs.Journals.{ran}
use Rattle.server_zone.proofs.StateLemmas.{follows_after, follows_fit}
use Rattle.server_zone.proofs.OpeningLemmas.{fresh_after}
use Rattle.server_zone.proofs.opening.follow_first.Goals as goal

pub returns-in-Ok-clause-ok : goal.returns-in-Ok-clause-ok
returns-in-Ok-clause-ok g c =
    let p = c.args.zone.publisher in
    ap ran (follows_after (g.S.Scheme.digest_of p.scheme.now) (g.H.Nsec3Hasher.hash_of p.zone.hasher) p.latest (state_of c.args.zone) (state_of c.follow.new.self) (line_view c.args.event) c.in-Ok.field-0 c.in-Ok.ensures.ok)

pub returns-in-Ok-clause-kept : goal.returns-in-Ok-clause-kept
returns-in-Ok-clause-kept g c n = fresh_after _ _ _ c.args.zone c.follow.new.self c.follow.ensures.rest c.follow.ensures.holds n

pub returns-in-Ok-clause-fit : goal.returns-in-Ok-clause-fit
returns-in-Ok-clause-fit g c =
    let p = c.args.zone.publisher in
    follows_fit (g.S.Scheme.digest_of p.scheme.now) (g.H.Nsec3Hasher.hash_of p.zone.hasher) p.latest (state_of c.args.zone) (state_of c.follow.new.self) (line_view c.args.event) c.in-Ok.field-0 c.in-Ok.ensures.ok
