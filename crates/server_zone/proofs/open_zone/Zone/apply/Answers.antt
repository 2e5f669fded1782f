use Rattle.std.proofs.Common.{sym, ◌∙◌}
use Rattle.std.proofs.lemmas.Result.{IfOk-weaker}
use Rattle.server_zone.specs.StateLines.{line_view}
use Rattle.server_zone.specs.States.{Follows, state_of}
use Rattle.server_zone.proofs.StateLemmas.{applied_as, of_line}
use Rattle.server_zone.proofs.open_zone.Zone.apply.Goals as goal

pub returns-clause-ok : goal.returns-clause-ok
returns-clause-ok g c =
    let p = c.args.self.now.publisher in
    let digest = g.S.Scheme.digest_of p.scheme.now in
    let hash = g.H.Nsec3Hasher.hash_of p.zone.hasher in
    let s = state_of c.args.self.now in
    let t = state_of c.follow.new.self in
    IfOk-weaker c.follow.result _ _ (λ a h. of_line (λ l. Follows digest hash p.latest s l a t) _ (line_view c.in_ok-line.line) c.in_ok-line.ensures.read h) c.follow.ensures.ok

pub returns-clause-state : goal.returns-clause-state
returns-clause-state g c =
    let p = c.args.self.now.publisher in
    let digest = g.S.Scheme.digest_of p.scheme.now in
    let hash = g.H.Nsec3Hasher.hash_of p.zone.hasher in
    let s = state_of c.args.self.now in
    let t = state_of c.follow.new.self in
    IfOk-weaker c.follow.result _ _ (λ a h. applied_as digest hash p.latest s t c.args.line.now (line_view c.in_ok-line.line) a (sym c.has_feed.ensures ∙ c.if-has_feed.false) c.in_ok-line.ensures.read h) c.follow.ensures.ok
