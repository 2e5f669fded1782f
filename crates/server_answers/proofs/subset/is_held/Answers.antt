use Rattle.std.proofs.Common.{◌≡◌, ◌∙◌, sym, rules}
use Rattle.answer_publisher.specs.World.{world_of}
use Rattle.messages.specs.Questions.{asked_of}
use Rattle.server_answers.specs.Synthesized.{has_answers}
use Rattle.server_answers.proofs.Choosing.{held_by, memory_fault, not_held, same_publisher}
use Rattle.server_answers.proofs.subset.is_held.Goals as goal

pub returns-in-Ok-clause-held : goal.returns-in-Ok-clause-held
returns-in-Ok-clause-held g c =
    let p = c.args.publisher.now in
    let w = world_of g.S.Scheme.signature_of g.S.Scheme.verifies g.S.Scheme.digest_of g.H.Nsec3Hasher.hash_of p in
    let is : has_answers c.in-Ok.message.items ≡ c.has_answers.result = search rules in
    held_by w p.keys c.args.at.now (asked_of c.args.question.now) c.in-Ok.message.items c.in-Ok.ensures.bare c.has_answers.result is

pub returns-in-Ok-clause-same : goal.returns-in-Ok-clause-same
returns-in-Ok-clause-same g c = same_publisher c.args.publisher.now c.bare_message.new.publisher c.in-Ok.ensures.rest (c.in-Ok.ensures.noted ∙ c.requires)

pub returns-then-is_memory-clause-same : goal.returns-then-is_memory-clause-same
returns-then-is_memory-clause-same g c = same_publisher c.args.publisher.now c.bare_message.new.publisher c.in-Err.ensures.rest c.in-Err.ensures.refused

pub returns-then-is_memory-clause-memory : goal.returns-then-is_memory-clause-memory
returns-then-is_memory-clause-memory g c = memory_fault c.in-Err.fault (sym c.is_memory.ensures ∙ c.if-is_memory.true)

pub returns-else-is_memory-clause-held : goal.returns-else-is_memory-clause-held
returns-else-is_memory-clause-held g c =
    let p = c.args.publisher.now in
    let w = world_of g.S.Scheme.signature_of g.S.Scheme.verifies g.S.Scheme.digest_of g.H.Nsec3Hasher.hash_of p in
    not_held w p.keys c.args.at.now (asked_of c.args.question.now) c.in-Err.fault c.in-Err.ensures.fault (sym c.is_memory.ensures ∙ c.if-is_memory.false)

pub returns-else-is_memory-clause-same : goal.returns-else-is_memory-clause-same
returns-else-is_memory-clause-same g c = same_publisher c.args.publisher.now c.bare_message.new.publisher c.in-Err.ensures.rest c.in-Err.ensures.refused
