use Rattle.std.proofs.Common.{ap}
use Rattle.server_zone.specs.Journals.{ran}
use Rattle.server_zone.specs.Journals.{IsFit}
use Rattle.server_zone.specs.StateLines.{state_line}
use Rattle.server_zone.specs.States.{Follows, state_of}
use Rattle.server_zone.proofs.OpeningLemmas.{fresh_after}
use Rattle.server_zone.proofs.StateLemmas.{each_line, follows_fit}
use Rattle.server_zone.proofs.opening.go_on.Goals as goal

pub returns-in-Ok-clause-ok : goal.returns-in-Ok-clause-ok
returns-in-Ok-clause-ok g c = ap ran c.in-Ok.ensures.state

pub returns-in-Ok-clause-kept : goal.returns-in-Ok-clause-kept
returns-in-Ok-clause-kept g c n = fresh_after _ _ _ c.args.zone c.apply.new.self c.apply.ensures.rest c.apply.ensures.holds n

pub returns-in-Ok-clause-fit : goal.returns-in-Ok-clause-fit
returns-in-Ok-clause-fit g c =
    let p = c.args.zone.publisher in
    let s = state_of c.args.zone in
    let t = state_of c.apply.new.self in
    each_line (λ l. Follows (g.S.Scheme.digest_of p.scheme.now) (g.H.Nsec3Hasher.hash_of p.zone.hasher) p.latest s l c.in-Ok.field-0 t) (IsFit (g.H.Nsec3Hasher.hash_of p.zone.hasher) s) (state_line c.args.line.now)
    (λ l h. follows_fit (g.S.Scheme.digest_of p.scheme.now) (g.H.Nsec3Hasher.hash_of p.zone.hasher) p.latest s t l c.in-Ok.field-0 h) c.in-Ok.ensures.ok
