use Rattle.std.proofs.Common.{◌≡◌, drop}
use Rattle.answer_publisher.specs.World.{world_of}
use Rattle.messages.specs.Questions.{asked_of}
use Rattle.server_answers.proofs.Choosing.{FirstOf}
use Rattle.server_answers.proofs.subset.choose_first.Given as goal

abbrev pub invariant-loop-rtype : goal.invariant-loop-rtype
invariant-loop-rtype g l =
    let p = l.fn.publisher in
    let w = world_of g.S.Scheme.signature_of g.S.Scheme.verifies g.S.Scheme.digest_of g.H.Nsec3Hasher.hash_of p in
    record {
      same : l.publisher ≡ p;
      name : l.question.name ≡ l.fn.question.name;
      class : l.question.class ≡ l.fn.question.class;
      first : FirstOf w p.keys l.at (asked_of l.fn.question) (drop l.rtype-index l.types) l.types;
    }
