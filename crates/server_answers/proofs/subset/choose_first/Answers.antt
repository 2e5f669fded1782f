use Rattle.std.proofs.Common.{◌≡◌, ◌∙◌, refl, subst, sym}
use Rattle.answer_publisher.specs.Replacing.{noted}
use Rattle.answer_publisher.specs.World.{world_of}
use Rattle.messages.specs.Questions.{asked_of}
use Rattle.server_answers.specs.Subset.{IsHeld}
use Rattle.server_answers.proofs.Choosing.{held_asked, is_first, none_first, passed}
use Rattle.server_answers.proofs.subset.choose_first.Goals as goal

pub loop-rtype-init : goal.loop-rtype-init
loop-rtype-init g c = record { same = refl; name = refl; class = refl; first = λ t h. h }

pub is_held-requires : goal.is_held-requires
is_held-requires g c = subst (λ p. noted p.latest c.args.at.now ≡ p.latest) (sym c.loop-rtype.invariant.same) c.requires

pub returns-then-held-clause-first : goal.returns-then-held-clause-first
returns-then-held-clause-first g c =
    let p = c.args.publisher.now in
    let world = world_of g.S.Scheme.signature_of g.S.Scheme.verifies g.S.Scheme.digest_of g.H.Nsec3Hasher.hash_of in
    let u = c.rtype-item.result in
    let q = c.loop-rtype.question in
    let held = subst (λ r. IsHeld (world r) r.keys c.args.at.now (held_asked (world r) r.keys c.args.at.now q.name u q.class) c.in_ok-held.held) c.loop-rtype.invariant.same c.in_ok-held.ensures.held in
    is_first (world p) p.keys c.args.at.now c.args.question.now q c.args.types.now c.loop-rtype.rtype-index u c.loop-rtype-test.true c.rtype-item.is c.loop-rtype.invariant.first c.loop-rtype.invariant.name c.loop-rtype.invariant.class
    c.in_ok-held.held held c.if-held.true

pub loop-rtype-preserved : goal.loop-rtype-preserved
loop-rtype-preserved g c =
    let p = c.args.publisher.now in
    let world = world_of g.S.Scheme.signature_of g.S.Scheme.verifies g.S.Scheme.digest_of g.H.Nsec3Hasher.hash_of in
    let u = c.rtype-item.result in
    let q = c.loop-rtype.question in
    let held = subst (λ r. IsHeld (world r) r.keys c.args.at.now (held_asked (world r) r.keys c.args.at.now q.name u q.class) c.in_ok-held.held) c.loop-rtype.invariant.same c.in_ok-held.ensures.held in
    record {
      same = c.in_ok-held.ensures.same ∙ c.loop-rtype.invariant.same;
      name = c.loop-rtype.invariant.name;
      class = c.loop-rtype.invariant.class;
      first = passed (world p) p.keys c.args.at.now c.args.question.now q c.args.types.now c.loop-rtype.rtype-index u c.loop-rtype-test.true c.rtype-item.is c.loop-rtype.invariant.first c.loop-rtype.invariant.name c.loop-rtype.invariant.class
          c.in_ok-held.held held c.if-held.false;
    }

pub returns-clause-first : goal.returns-clause-first
returns-clause-first g c =
    let p = c.args.publisher.now in
    none_first (world_of g.S.Scheme.signature_of g.S.Scheme.verifies g.S.Scheme.digest_of g.H.Nsec3Hasher.hash_of p) p.keys c.args.at.now (asked_of c.args.question.now) c.args.types.now c.loop-rtype.rtype-index c.from_int-question.result c.loop-rtype-test.false c.loop-rtype.invariant.first c.from_int-question.ensures
