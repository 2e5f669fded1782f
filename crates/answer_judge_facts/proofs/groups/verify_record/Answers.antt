use Rattle.std.proofs.Common.{◌≡◌, ◌==◌, ◌<◌, ℕ, List, true, false, length, get_or, refl, sym, subst, ap, ◌∙◌}
use Rattle.std.specs.Prelude.{Some, is_some}
use Rattle.answer_judge_facts.specs.declared.groups.SignedRrset.{SignedRrset}
use Rattle.std.specs.Option.{option_map}
use Rattle.std.proofs.lemmas.Bool.{not-true, not-false}
use Rattle.std.proofs.lemmas.Option.{slice_get-get_or}
use Rattle.messages.specs.Record.{fields_read, spelled, signature_of}
use Rattle.messages.specs.Message.{rrsig_at}
use Rattle.answer_scheme.specs.Answers.{with_test}
use Rattle.answer_judge_facts.specs.Marked.{held_by, is_of}
use Rattle.answer_judge_facts.proofs.ChainRuns.{ranked_apart}
use Rattle.answer_judge_facts.proofs.JudgeAsked.{passes_at}
use Rattle.answer_judge_facts.proofs.JudgeCounted.{count_now, count_type_again, count_type_none}
use Rattle.answer_judge_facts.proofs.JudgeTried.{class_other, no_signature, tried_now, type_again, type_none, type_read, type_unread, untried}
use Rattle.answer_judge_facts.proofs.groups.verify_record.Goals as goal
use Rattle.definitions.specs.Limits.{pointer_limit}

pub returns-then-ne-clause-marked : goal.returns-then-ne-clause-marked
returns-then-ne-clause-marked g c = λ test h.
    let w = held_by (with_test (g.C.Checks.answers c.args.check_run.now.checks.now) test) c.args.trust.now in
    let r = spelled c.args.view.now in
    let class : (r.class == 1) ≡ false = not-true _ (sym c.ne.ensures ∙ c.if-ne.true) in
    untried w c.args.message.now r c.args.groups.now (λ g. class_other w c.args.message.now r g class)

pub returns-in_default-clause-marked : goal.returns-in_default-clause-marked
returns-in_default-clause-marked g c = λ test h.
    let w = held_by (with_test (g.C.Checks.answers c.args.check_run.now.checks.now) test) c.args.trust.now in
    let m = c.args.message.now in
    let r = spelled c.args.view.now in
    untried w m r c.args.groups.now (λ g. no_signature w m r g (type_unread m r _ c.covered_type.ensures c.in_default.is))

pub returns-in_default-place_of-clause-marked : goal.returns-in_default-place_of-clause-marked
returns-in_default-place_of-clause-marked g c = λ test h.
    let w = held_by (with_test (g.C.Checks.answers c.args.check_run.now.checks.now) test) c.args.trust.now in
    type_none w c.args.message.now (spelled c.args.view.now) c.args.groups.now c.in-Some.covered c.in-Some.ensures c.in_default-place_of.ensures.found

pub returns-in_default-place_of-clause-tried : goal.returns-in_default-place_of-clause-tried
returns-in_default-place_of-clause-tried g c = λ test h.
    let w = held_by (with_test (g.C.Checks.answers c.args.check_run.now.checks.now) test) c.args.trust.now in
    let n = c.args.check_run.now.count in
    count_type_none w c.args.message.now (spelled c.args.view.now) c.args.groups.now c.in-Some.covered n n c.in-Some.ensures c.requires.signature (not-false _ (sym c.ne.ensures ∙ c.if-ne.false)) c.in_default-place_of.ensures.found refl

pub returns-then-is_some-clause-marked : goal.returns-then-is_some-clause-marked
returns-then-is_some-clause-marked g c = λ test h.
    let w = held_by (with_test (g.C.Checks.answers c.args.check_run.now.checks.now) test) c.args.trust.now in
    let x = c.index-groups-place.result in
    let own = c.in-Some-place_of.ensures.found x c.index-groups-place.is in
    type_again w c.args.message.now (spelled c.args.view.now) c.args.groups.now c.in-Some-place_of.place x c.in-Some.covered c.in-Some.ensures (ranked_apart c.args.groups.now c.requires.ranked) c.in-Some-place_of.ensures.within c.index-groups-place.is own (ap (λ (y : SignedRrset). is_some y.verified) c.index-groups-place.is ∙ sym c.is_some.ensures ∙ c.if-is_some.true)

pub returns-then-is_some-clause-tried : goal.returns-then-is_some-clause-tried
returns-then-is_some-clause-tried g c = λ test h.
    let w = held_by (with_test (g.C.Checks.answers c.args.check_run.now.checks.now) test) c.args.trust.now in
    let n = c.args.check_run.now.count in
    let x = c.index-groups-place.result in
    let own = c.in-Some-place_of.ensures.found x c.index-groups-place.is in
    count_type_again w c.args.message.now (spelled c.args.view.now) c.args.groups.now c.in-Some-place_of.place x c.in-Some.covered n n c.in-Some.ensures c.requires.signature (not-false _ (sym c.ne.ensures ∙ c.if-ne.false)) (ranked_apart c.args.groups.now c.requires.ranked) c.in-Some-place_of.ensures.within c.index-groups-place.is own (ap (λ (y : SignedRrset). is_some y.verified) c.index-groups-place.is ∙ sym c.is_some.ensures ∙ c.if-is_some.true) refl

pub returns-in_default-signature-clause-marked : goal.returns-in_default-signature-clause-marked
returns-in_default-signature-clause-marked g c = λ test h.
    let w = held_by (with_test (g.C.Checks.answers c.args.check_run.now.checks.now) test) c.args.trust.now in
    let r = spelled c.args.view.now in
    let none = sym c.signature.ensures ∙ ap (option_map signature_of) c.in_default-signature.is in
    untried w c.args.message.now r c.args.groups.now (λ g. no_signature w c.args.message.now r g none)

same_item : (gs : List SignedRrset) (i : ℕ) (x y : SignedRrset) → i < length gs → get_or gs i x ≡ get_or gs i y
same_item gs i x y h = let p = sym (slice_get-get_or gs i x h) ∙ slice_get-get_or gs i y h in cc

pub returns-clause-marked : goal.returns-clause-marked
returns-clause-marked g c = λ test h.
    let w = held_by (with_test (g.C.Checks.answers c.args.check_run.now.checks.now) test) c.args.trust.now in
    let m = c.args.message.now in
    let r = spelled c.args.view.now in
    let gs = c.args.groups.now in
    let s = c.in-Some-signature.signature in
    let class : (r.class == 1) ≡ true = not-false _ (sym c.ne.ensures ∙ c.if-ne.false) in
    let read : rrsig_at pointer_limit m r ≡ Some (signature_of s) = sym c.signature.ensures ∙ ap (option_map signature_of) c.in-Some-signature.is in
    let type : c.in-Some.covered ≡ (fields_read s).covered = type_read m r c.in-Some.covered (signature_of s) c.in-Some.ensures read in
    let i = c.in-Some-place_of.place in
    let within = c.in-Some-place_of.ensures.within in
    let x = c.index-groups-place-2.result in
    let own : is_of r.owner (fields_read s).covered x ≡ true = subst (λ (t : ℕ). is_of r.owner t x ≡ true) type (c.in-Some-place_of.ensures.found x c.index-groups-place-2.is) in
    let not_yet : is_some x.verified ≡ false =
    ap (λ (y : SignedRrset). is_some y.verified) (c.index-groups-place-2.is ∙ same_item gs i x c.index-groups-place.result within) ∙ sym c.is_some.ensures ∙ c.if-is_some.false in
    tried_now w m r s gs i x c.in_ok-group.field-0 read c.requires.signature class (ranked_apart c.args.groups.now c.requires.ranked) within c.index-groups-place-2.is own not_yet (c.in_ok-group.ensures.signs test h)

pub returns-clause-tried : goal.returns-clause-tried
returns-clause-tried g c = λ test h.
    let w = held_by (with_test (g.C.Checks.answers c.args.check_run.now.checks.now) test) c.args.trust.now in
    let m = c.args.message.now in
    let r = spelled c.args.view.now in
    let gs = c.args.groups.now in
    let s = c.in-Some-signature.signature in
    let class : (r.class == 1) ≡ true = not-false _ (sym c.ne.ensures ∙ c.if-ne.false) in
    let read : rrsig_at pointer_limit m r ≡ Some (signature_of s) = sym c.signature.ensures ∙ ap (option_map signature_of) c.in-Some-signature.is in
    let type : c.in-Some.covered ≡ (fields_read s).covered = type_read m r c.in-Some.covered (signature_of s) c.in-Some.ensures read in
    let i = c.in-Some-place_of.place in
    let within = c.in-Some-place_of.ensures.within in
    let x = c.index-groups-place-2.result in
    let own : is_of r.owner (fields_read s).covered x ≡ true = subst (λ (t : ℕ). is_of r.owner t x ≡ true) type (c.in-Some-place_of.ensures.found x c.index-groups-place-2.is) in
    let not_yet : is_some x.verified ≡ false =
    ap (λ (y : SignedRrset). is_some y.verified) (c.index-groups-place-2.is ∙ same_item gs i x c.index-groups-place.result within) ∙ sym c.is_some.ensures ∙ c.if-is_some.false in
    count_now w m r s gs i x c.args.check_run.now.count _ read c.requires.signature class (ranked_apart c.args.groups.now c.requires.ranked) within c.index-groups-place-2.is own not_yet (c.in_ok-group.ensures.tried test h)

pub returns-clause-asked : goal.returns-clause-asked
returns-clause-asked g c = λ test passes.
    let w = held_by (g.C.Checks.answers c.args.check_run.now.checks.now) c.args.trust.now in
    let m = c.args.message.now in
    let r = spelled c.args.view.now in
    let gs = c.args.groups.now in
    let s = c.in-Some-signature.signature in
    let class : (r.class == 1) ≡ true = not-false _ (sym c.ne.ensures ∙ c.if-ne.false) in
    let read : rrsig_at pointer_limit m r ≡ Some (signature_of s) = sym c.signature.ensures ∙ ap (option_map signature_of) c.in-Some-signature.is in
    let type : c.in-Some.covered ≡ (fields_read s).covered = type_read m r c.in-Some.covered (signature_of s) c.in-Some.ensures read in
    let i = c.in-Some-place_of.place in
    let within = c.in-Some-place_of.ensures.within in
    let x = c.index-groups-place-2.result in
    let own : is_of r.owner (fields_read s).covered x ≡ true = subst (λ (t : ℕ). is_of r.owner t x ≡ true) type (c.in-Some-place_of.ensures.found x c.index-groups-place-2.is) in
    let not_yet : is_some x.verified ≡ false =
    ap (λ (y : SignedRrset). is_some y.verified) (c.index-groups-place-2.is ∙ same_item gs i x c.index-groups-place.result within) ∙ sym c.is_some.ensures ∙ c.if-is_some.false in
    c.in_ok-group.ensures.asked test (passes_at test w m r s gs i x read c.requires.signature class within c.index-groups-place-2.is own not_yet passes)

pub returns-in_err-group-clause-asked : goal.returns-in_err-group-clause-asked
returns-in_err-group-clause-asked g c = λ test passes.
    let w = held_by (g.C.Checks.answers c.args.check_run.now.checks.now) c.args.trust.now in
    let m = c.args.message.now in
    let r = spelled c.args.view.now in
    let gs = c.args.groups.now in
    let s = c.in-Some-signature.signature in
    let class : (r.class == 1) ≡ true = not-false _ (sym c.ne.ensures ∙ c.if-ne.false) in
    let read : rrsig_at pointer_limit m r ≡ Some (signature_of s) = sym c.signature.ensures ∙ ap (option_map signature_of) c.in-Some-signature.is in
    let type : c.in-Some.covered ≡ (fields_read s).covered = type_read m r c.in-Some.covered (signature_of s) c.in-Some.ensures read in
    let i = c.in-Some-place_of.place in
    let within = c.in-Some-place_of.ensures.within in
    let x = c.index-groups-place-2.result in
    let own : is_of r.owner (fields_read s).covered x ≡ true = subst (λ (t : ℕ). is_of r.owner t x ≡ true) type (c.in-Some-place_of.ensures.found x c.index-groups-place-2.is) in
    let not_yet : is_some x.verified ≡ false =
    ap (λ (y : SignedRrset). is_some y.verified) (c.index-groups-place-2.is ∙ same_item gs i x c.index-groups-place.result within) ∙ sym c.is_some.ensures ∙ c.if-is_some.false in
    c.verifies.ensures.asked test (passes_at test w m r s gs i x read c.requires.signature class within c.index-groups-place-2.is own not_yet passes)
