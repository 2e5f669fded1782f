use Rattle.std.proofs.Common.{◌≡◌, true, ap, ◌∙◌, ◌-◌, ◌==◌, length, arith}
use Rattle.std.proofs.lemmas.List.{length-map}
use Rattle.messages.specs.HandedRr.{handed_of}
use Rattle.server_zone.specs.Journals.{is_settled, phase_view}
use Rattle.server_zone.specs.States.{state_of}
use Rattle.server_zone.proofs.HasReadLemmas.{end_journal, end_last, end_refused, end_settled, end_state, end_whole, settled_ended, there_ended}
use Rattle.server_zone.proofs.OpeningLemmas.{fresh_accepted}
use Rattle.server_zone.proofs.open_zone.Zone.open.Goals as goal

pub returns-in-Ok-finish-clause-state : goal.returns-in-Ok-finish-clause-state
returns-in-Ok-finish-clause-state g c =
    let r = c.in-Ok.read in
    end_state (g.S.Scheme.digest_of c.args.scheme.now) (g.H.Nsec3Hasher.hash_of c.args.hasher.now) c.args.scheme.now c.args.hasher.now c.args.journal.now r.rest.now r.phase r.number r.settled c.in-Ok.ensures.ok c.in-Ok.ensures.all (state_of c.in-Ok-finish.zone) c.in-Ok-finish.ensures.ok

pub returns-in-Ok-finish-clause-journal : goal.returns-in-Ok-finish-clause-journal
returns-in-Ok-finish-clause-journal g c =
    let r = c.in-Ok.read in
    end_journal (g.S.Scheme.digest_of c.args.scheme.now) (g.H.Nsec3Hasher.hash_of c.args.hasher.now) c.args.scheme.now c.args.hasher.now c.args.journal.now r.rest.now r.phase r.number r.settled c.in-Ok.ensures.ok c.in-Ok.ensures.all (state_of c.in-Ok-finish.zone) c.in-Ok-finish.ensures.ok c.in-Ok-finish.ensures.fit

pub returns-in-Ok-finish-clause-accepted : goal.returns-in-Ok-finish-clause-accepted
returns-in-Ok-finish-clause-accepted g c = fresh_accepted g.H.Nsec3Hasher.hash_of c.args.scheme.now c.args.hasher.now c.in-Ok-finish.zone c.in-Ok-finish.ensures.fresh

pub returns-in-Ok-finish-clause-whole : goal.returns-in-Ok-finish-clause-whole
returns-in-Ok-finish-clause-whole g c =
    let r = c.in-Ok.read in
    end_whole (g.S.Scheme.digest_of c.args.scheme.now) (g.H.Nsec3Hasher.hash_of c.args.hasher.now) c.args.scheme.now c.args.hasher.now c.args.journal.now r.rest.now r.phase r.number r.settled c.in-Ok.ensures.ok c.in-Ok.ensures.all (length c.args.journal.now - length r.rest.now) (omega (arith, c.in-Ok.ensures.ok.counted))

pub returns-in-Ok-finish-clause-settled : goal.returns-in-Ok-finish-clause-settled
returns-in-Ok-finish-clause-settled g c =
    let r = c.in-Ok.read in
    end_settled (g.S.Scheme.digest_of c.args.scheme.now) (g.H.Nsec3Hasher.hash_of c.args.hasher.now) c.args.scheme.now c.args.hasher.now c.args.journal.now r.rest.now r.phase r.number r.settled c.in-Ok.ensures.ok c.in-Ok.ensures.all (there_ended (phase_view r.phase) (state_of c.in-Ok-finish.zone) c.in-Ok-finish.ensures.ok)

pub returns-in-Ok-finish-clause-last : goal.returns-in-Ok-finish-clause-last
returns-in-Ok-finish-clause-last g c =
    let r = c.in-Ok.read in
    end_last (g.S.Scheme.digest_of c.args.scheme.now) (g.H.Nsec3Hasher.hash_of c.args.hasher.now) c.args.scheme.now c.args.hasher.now c.args.journal.now r.rest.now r.phase r.number r.settled (length c.args.journal.now - length r.rest.now) c.in-Ok.ensures.ok (omega (arith, c.in-Ok.ensures.ok.counted))

pub returns-in-Ok-finish-clause-all : goal.returns-in-Ok-finish-clause-all
returns-in-Ok-finish-clause-all g c e =
    let r = c.in-Ok.read in
    let z = c.in-Ok-finish.zone in
    let settled : is_settled (phase_view r.phase) ≡ true = settled_ended (phase_view r.phase) (state_of z) c.in-Ok-finish.ensures.ok (ap (λ n. n == 0) (length-map z.gathered.items handed_of) ∙ e) in
    omega (arith, c.in-Ok.ensures.ok.all_settled settled, c.in-Ok.ensures.ok.counted)

pub returns-in-Err-finish-clause-err : goal.returns-in-Err-finish-clause-err
returns-in-Err-finish-clause-err g c =
    let r = c.in-Ok.read in
    end_refused (g.S.Scheme.digest_of c.args.scheme.now) (g.H.Nsec3Hasher.hash_of c.args.hasher.now) c.args.scheme.now c.args.hasher.now c.args.journal.now r.rest.now r.phase r.number r.settled c.in-Err-finish.reason c.in-Ok.ensures.ok c.in-Ok.ensures.all c.in-Err-finish.ensures.err
