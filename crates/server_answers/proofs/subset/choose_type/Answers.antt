use Rattle.std.proofs.Common.{◌≡◌, ◌∙◌, ℕ, List, ap, subst, sym, inl, inr}
use Rattle.std.specs.Prelude.{MatchBool, OnOk}
use Rattle.answer_publisher.specs.Replacing.{noted}
use Rattle.answer_publisher.specs.World.{RefusesQuestion, world_of}
use Rattle.messages.specs.Questions.{asked_of}
use Rattle.server_answers.specs.Listed.{listed}
use Rattle.server_answers.specs.Responding.{unsigned}
use Rattle.answer_publisher.specs.Aliases.{for_type}
use Rattle.server_answers.specs.Subset.{IsFirst, TellsInside, is_no_data}
use Rattle.server_answers.proofs.Choosing.{chosen_where, memory_alone, noted_again, of_ok, tells_inside}
use Rattle.server_answers.proofs.Making.{rest_of}
use Rattle.server_answers.proofs.subset.choose_type.Goals as goal

pub choose_listed-requires : goal.choose_listed-requires
choose_listed-requires g c =
    let at = c.args.at.now in
    ap (λ l. noted l at) c.in-Ok.ensures.noted ∙ noted_again c.args.publisher.now.latest at ∙ sym c.in-Ok.ensures.noted

pub returns-in-Ok-clause-chosen : goal.returns-in-Ok-clause-chosen
returns-in-Ok-clause-chosen g c =
    let p = c.args.publisher.now in
    let world = world_of g.S.Scheme.signature_of g.S.Scheme.verifies g.S.Scheme.digest_of g.H.Nsec3Hasher.hash_of in
    let at = c.args.at.now in
    let a = asked_of c.args.question.now in
    let x = c.from_int-question.result in
    let m = c.in-Ok.message.items in
    let r = c.choose_listed.result in
    let t = c.choose_listed.new.question.rtype in
    let first = subst (λ q. OnOk r (MatchBool (is_no_data c.deref.result.now) (IsFirst (world q) q.keys at (for_type x a) (listed c.deref.result.now) t) (t ≡ x))) c.in-Ok.ensures.rest c.choose_listed.ensures.listed in
    let here = subst (λ (k : List ℕ). OnOk r (MatchBool (is_no_data k) (IsFirst (world p) p.keys at (for_type x a) (listed k) t) (t ≡ x))) c.deref.ensures.value first in
    chosen_where (world p) p.keys at a x m c.from_int-question.ensures c.in-Ok.ensures.bare t r here

pub returns-in-Ok-clause-noted : goal.returns-in-Ok-clause-noted
returns-in-Ok-clause-noted g c = of_ok c.choose_listed.result (ap (λ q. q.latest) c.choose_listed.ensures.same ∙ c.in-Ok.ensures.noted)

pub returns-in-Ok-clause-fault : goal.returns-in-Ok-clause-fault
returns-in-Ok-clause-fault g c =
    let p = c.args.publisher.now in
    memory_alone (RefusesQuestion (unsigned (world_of g.S.Scheme.signature_of g.S.Scheme.verifies g.S.Scheme.digest_of g.H.Nsec3Hasher.hash_of p)) p.keys c.args.at.now (for_type 65535 (asked_of c.args.question.now))) c.choose_listed.result c.choose_listed.ensures.memory

pub returns-in-Ok-clause-allowed : goal.returns-in-Ok-clause-allowed
returns-in-Ok-clause-allowed g c = memory_alone (TellsInside c.args.publisher.now.zone.apex (asked_of c.args.question.now)) c.choose_listed.result c.choose_listed.ensures.memory

pub returns-in-Ok-clause-was : goal.returns-in-Ok-clause-was
returns-in-Ok-clause-was g c = inr (ap (λ q. q.latest) c.choose_listed.ensures.same ∙ c.in-Ok.ensures.noted)

pub returns-in-Ok-clause-rest : goal.returns-in-Ok-clause-rest
returns-in-Ok-clause-rest g c = rest_of c.args.publisher.now c.choose_listed.new.publisher c.bare_message.new.publisher.latest (c.choose_listed.ensures.same ∙ c.in-Ok.ensures.rest)

pub returns-in-Err-clause-fault : goal.returns-in-Err-clause-fault
returns-in-Err-clause-fault g c =
    let p = c.args.publisher.now in
    λ other. subst (λ (k : ℕ). RefusesQuestion (unsigned (world_of g.S.Scheme.signature_of g.S.Scheme.verifies g.S.Scheme.digest_of g.H.Nsec3Hasher.hash_of p)) p.keys c.args.at.now (for_type k (asked_of c.args.question.now)) c.in-Err.fault) c.from_int-question.ensures c.in-Err.ensures.fault

pub returns-in-Err-clause-allowed : goal.returns-in-Err-clause-allowed
returns-in-Err-clause-allowed g c =
    λ other. tells_inside c.args.publisher.now.zone.apex (asked_of c.args.question.now) c.from_int-question.result c.in-Err.fault c.from_int-question.ensures c.in-Err.ensures.allowed

pub returns-in-Err-clause-was : goal.returns-in-Err-clause-was
returns-in-Err-clause-was g c = inl c.in-Err.ensures.refused
