use Rattle.std.proofs.Common.{[], ◌∷◌, refl, sym, ap, ◌∙◌, ◌-◌, length, arith, length-append}
use Rattle.server_zone.specs.Journals.{Empty}
use Rattle.server_zone.proofs.HasReadLemmas.{open_refused, progress_gathering, progress_settled}
use Rattle.server_zone.proofs.opening.Opener.read_lines.Goals as goal

pub loop-line-init : goal.loop-line-init
loop-line-init g c = record {
  front = [];
  text_is = refl;
  whole = refl;
  accepted = refl;
  kept = tt;
  number_is = refl;
  counted = omega arith;
  settled_in = omega arith;
  last = Empty;
  last_accepted = refl;
  last_settled = refl;
  last_there = λ t. t;
  all_settled = λ _. omega arith;
  none_behind = λ n later inside ends q e. absurd (omega (arith, later, inside));
}

pub loop-line-preserved : goal.loop-line-preserved
loop-line-preserved g c =
    progress_gathering (g.S.Scheme.digest_of c.args.self.now.scheme.now) (g.H.Nsec3Hasher.hash_of c.args.self.now.hasher.now) c.args.self.now.scheme.now c.args.self.now.hasher.now c.args.journal.now c.loop-line.rest.now c.in-Some.line.now c.in-Some.behind.now
    c.loop-line.phase c.in-Ok.phase c.loop-line.number c.loop-line.settled c.loop-line.invariant c.in-Some.ensures.0 c.in-Some.ensures.1 c.in-Ok.ensures.ok c.in-Ok.ensures.fit c.in-Ok.ensures.kept
    (sym c.is_settled.ensures ∙ c.if-is_settled.false)

pub loop-line-preserved-then-is_settled : goal.loop-line-preserved-then-is_settled
loop-line-preserved-then-is_settled g c =
    progress_settled (g.S.Scheme.digest_of c.args.self.now.scheme.now) (g.H.Nsec3Hasher.hash_of c.args.self.now.hasher.now) c.args.self.now.scheme.now c.args.self.now.hasher.now c.args.journal.now c.loop-line.rest.now c.in-Some.line.now c.in-Some.behind.now
    c.loop-line.phase c.in-Ok.phase c.loop-line.number c.loop-line.settled c.loop-line.invariant c.in-Some.ensures.0 c.in-Some.ensures.1 c.in-Ok.ensures.ok c.in-Ok.ensures.fit c.in-Ok.ensures.kept
    (length c.args.journal.now - length c.in-Some.behind.now) (omega (arith, c.loop-line.invariant.counted, ap length c.in-Some.ensures.0, length-append c.in-Some.line.now (10 ∷ c.in-Some.behind.now)))
    (sym c.is_settled.ensures ∙ c.if-is_settled.true)

pub returns-in-Err-clause-err : goal.returns-in-Err-clause-err
returns-in-Err-clause-err g c =
    open_refused (g.S.Scheme.digest_of c.args.self.now.scheme.now) (g.H.Nsec3Hasher.hash_of c.args.self.now.hasher.now) c.args.self.now.scheme.now c.args.self.now.hasher.now c.args.journal.now c.loop-line.rest.now c.in-Some.line.now c.in-Some.behind.now
    c.loop-line.phase c.loop-line.number c.loop-line.settled c.in-Err.reason c.loop-line.invariant c.in-Some.ensures.0 c.in-Some.ensures.1 c.in-Err.ensures.err
