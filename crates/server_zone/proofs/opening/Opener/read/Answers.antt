use Rattle.std.proofs.Common.{ap, subst, sym, ◌∙◌}
use Rattle.std.proofs.lemmas.Result.{IfOk-weaker}
use Rattle.answer_publisher.proofs.Refusals.{if_err_map}
use Rattle.server_zone.specs.Journals.{IsFit, IsFresh, IsLineFit, IsOpening, RefusesBehind, phase_view, ran, with_line}
use Rattle.server_zone.specs.StateLines.{state_line}
use Rattle.server_zone.specs.States.{OfLine, applied_line, state_of}
use Rattle.server_zone.proofs.OpeningLemmas.{fresh_opened, line_refused_as, own_fresh}
use Rattle.server_zone.proofs.opening.Opener.read.Goals as goal

pub returns-in-Running-clause-ok : goal.returns-in-Running-clause-ok
returns-in-Running-clause-ok g c =
    let scheme = c.args.self.now.scheme.now in
    let digest = g.S.Scheme.digest_of scheme in
    let line = c.args.line.now in
    let z = c.in-Running.zone in
    let fresh : IsFresh (g.H.Nsec3Hasher.hash_of c.args.self.now.hasher.now) scheme c.args.self.now.hasher.now z = subst (IsOpening (g.H.Nsec3Hasher.hash_of c.args.self.now.hasher.now) scheme c.args.self.now.hasher.now) c.in-Running.is c.requires in
    let same = ap (λ u. ran (applied_line (g.S.Scheme.digest_of u) (state_of z) line)) fresh.scheme_is in
    IfOk-weaker c.go_on.result _ _ (λ q e. ap (λ p. with_line digest (phase_view p) line) c.in-Running.is ∙ sym same ∙ e) c.go_on.ensures.ok

pub returns-in-Running-clause-kept : goal.returns-in-Running-clause-kept
returns-in-Running-clause-kept g c =
    let scheme = c.args.self.now.scheme.now in
    let hasher = c.args.self.now.hasher.now in
    let z = c.in-Running.zone in
    let fresh : IsFresh (g.H.Nsec3Hasher.hash_of hasher) scheme hasher z = subst (IsOpening (g.H.Nsec3Hasher.hash_of hasher) scheme hasher) c.in-Running.is c.requires in
    IfOk-weaker c.go_on.result _ _ (λ q h. fresh_opened g.H.Nsec3Hasher.hash_of scheme hasher z q fresh h) (c.go_on.ensures.kept (own_fresh g.H.Nsec3Hasher.hash_of scheme hasher z fresh))

pub returns-in-Running-clause-fit : goal.returns-in-Running-clause-fit
returns-in-Running-clause-fit g c =
    let hasher = c.args.self.now.hasher.now in
    let hash_of = g.H.Nsec3Hasher.hash_of in
    let line = c.args.line.now in
    let z = c.in-Running.zone in
    let fresh : IsFresh (hash_of hasher) c.args.self.now.scheme.now hasher z = subst (IsOpening (hash_of hasher) c.args.self.now.scheme.now hasher) c.in-Running.is c.requires in
    IfOk-weaker c.go_on.result _ _
    (λ q h. subst (λ p. IsLineFit (hash_of hasher) (phase_view p) line) (sym c.in-Running.is) (subst (λ k. OfLine (IsFit (hash_of k) (state_of z)) (state_line line)) fresh.hasher_is h))
    c.go_on.ensures.fit

pub returns-in-Running-clause-err : goal.returns-in-Running-clause-err
returns-in-Running-clause-err g c =
    let scheme = c.args.self.now.scheme.now in
    let hasher = c.args.self.now.hasher.now in
    let digest = g.S.Scheme.digest_of scheme in
    let hash = g.H.Nsec3Hasher.hash_of hasher in
    let line = c.args.line.now in
    let z = c.in-Running.zone in
    let fresh : IsFresh (g.H.Nsec3Hasher.hash_of hasher) scheme hasher z = subst (IsOpening (g.H.Nsec3Hasher.hash_of hasher) scheme hasher) c.in-Running.is c.requires in
    if_err_map _ (λ f. RefusesBehind digest hash (phase_view c.args.phase) line f) c.go_on.result
    (λ f h. subst (λ p. RefusesBehind digest hash (phase_view p) line f) (sym c.in-Running.is) (line_refused_as digest _ hash _ _ _ (state_of z) line f (ap g.S.Scheme.digest_of fresh.scheme_is) (ap g.H.Nsec3Hasher.hash_of fresh.hasher_is) fresh.unanswered h))
    c.go_on.ensures.err
