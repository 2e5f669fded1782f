use Rattle.std.proofs.Common.{ap, map, sym, subst, ◌∙◌}
use Rattle.std.proofs.lemmas.Result.{IfOk-weaker}
use Rattle.answer_publisher.proofs.Refusals.{if_err_map}
use Rattle.messages.specs.HandedRr.{handed_of}
use Rattle.session_grammar.specs.Readings.{zone_view}
use Rattle.server_zone.specs.StateLines.{line_view}
use Rattle.server_zone.specs.States.{State, after, state_of}
use Rattle.server_zone.specs.Journals.{IsFit, RefusesOwn, ran}
use Rattle.server_zone.proofs.JournalLemmas.{own_line_fit}
use Rattle.server_zone.proofs.OpeningLemmas.{begun, begun_refused, fresh_opened, own_fresh}
use Rattle.server_zone.proofs.opening.Opener.begin.Goals as goal

pub returns-in-Ok-clause-ok : goal.returns-in-Ok-clause-ok
returns-in-Ok-clause-ok g c =
    let old = c.in-Ok.zone in
    let fresh = c.in-Ok.ensures.fresh in
    let l = line_view c.args.event in
    IfOk-weaker c.follow_first.result _ _ (λ q e. begun (g.S.Scheme.digest_of c.args.self.now.scheme.now) (zone_view c.args.zone) (map handed_of c.args.records.items) l c.requires.event
    ∙ ap ran (sym (λ i. after (g.S.Scheme.digest_of (fresh.scheme_is i)) l (c.in-Ok.ensures.ok i))) ∙ e) c.follow_first.ensures.ok

pub returns-in-Ok-clause-kept : goal.returns-in-Ok-clause-kept
returns-in-Ok-clause-kept g c =
    let scheme = c.args.self.now.scheme.now in
    let old = c.in-Ok.zone in
    let fresh = c.in-Ok.ensures.fresh in
    let hasher = c.args.self.now.hasher.now in
    IfOk-weaker c.follow_first.result _ _ (λ q h. fresh_opened g.H.Nsec3Hasher.hash_of scheme hasher old q fresh h) (c.follow_first.ensures.kept (own_fresh g.H.Nsec3Hasher.hash_of scheme hasher old fresh))

pub returns-in-Ok-clause-fit : goal.returns-in-Ok-clause-fit
returns-in-Ok-clause-fit g c =
    let hash_of = g.H.Nsec3Hasher.hash_of in
    let z = zone_view c.args.zone in
    let rs = map handed_of c.args.records.items in
    let l = line_view c.args.event in
    let fresh = c.in-Ok.ensures.fresh in
    IfOk-weaker c.follow_first.result _ _
    (λ q h. own_line_fit (hash_of c.args.self.now.hasher.now) z rs l c.in-Ok.ensures.accepted
    (subst (λ (s : State). IsFit (hash_of c.args.self.now.hasher.now) s l) c.in-Ok.ensures.ok (subst (λ k. IsFit (hash_of k) (state_of c.in-Ok.zone) l) fresh.hasher_is h)))
    c.follow_first.ensures.fit

pub returns-in-Ok-clause-err : goal.returns-in-Ok-clause-err
returns-in-Ok-clause-err g c =
    let digest = g.S.Scheme.digest_of c.args.self.now.scheme.now in
    let hash = g.H.Nsec3Hasher.hash_of c.args.self.now.hasher.now in
    let old = c.in-Ok.zone in
    let fresh = c.in-Ok.ensures.fresh in
    let z = zone_view c.args.zone in
    let rs = map handed_of c.args.records.items in
    let l = line_view c.args.event in
    if_err_map _ (λ f. RefusesOwn digest hash z rs l f) c.follow_first.result
    (λ f h. begun_refused digest _ hash _ old.publisher.latest z rs l (state_of old) f c.requires.event (ap g.S.Scheme.digest_of fresh.scheme_is) (ap g.H.Nsec3Hasher.hash_of fresh.hasher_is) fresh.unanswered c.in-Ok.ensures.ok h)
    c.follow_first.ensures.err
