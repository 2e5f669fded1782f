use Rattle.std.proofs.Common.{◌≡◌, true, false, ◌&&◌, ◌==◌, rules, subst, sym, ap, ◌∙◌}
use Rattle.std.specs.Prelude.{Some}
use Rattle.std.specs.List.{list_any}
use Rattle.std.proofs.lemmas.Bool.{and_from}
use Rattle.definitions.specs.Limits.{pointer_limit}
use Rattle.messages.specs.Message.{rrsig_at}
use Rattle.messages.specs.Record.{signature_of, spelled}
use Rattle.answer_judge_keys.specs.Trusted.{is_signature}
use Rattle.answer_judge_facts.specs.Marked.{is_of}
use Rattle.answer_judge_facts.proofs.Waits.{passes_at, waits}
use Rattle.answer_judge_facts.proofs.validity.wait_of.Goals as goal

pub returns : goal.returns
returns c =
    let m = c.args.message.now in
    let gs = c.args.groups.now in
    let r = spelled c.args.view.now in
    let s = c.in_ok-span.span in
    let f = signature_of c.in_ok-signature.field-0 in
    let kind : is_signature r ≡ true = search rules in
    let class : (r.class == 1) ≡ true = search rules in
    let t = c.type_covered-covered.result in
    let covered : t ≡ f.0.covered = c.type_covered-covered.ensures in
    let there = passes_at (is_of r.owner t) gs c.in_ok-place_of.field-0 c.in_ok-place_of.ensures.within c.in_ok-place_of.ensures.found in
    let sought = subst (λ u. list_any (is_of r.owner u) gs ≡ true) covered there in
    ap (λ n. Some n) c.idle_for.ensures
    ∙ waits c.args.moment m gs r s.inception s.expiration c.in_ok-span.ensures.0 c.in_ok-span.ensures.1 f (and_from _ _ kind class) (sym c.in_ok-signature.ensures) sought (sym c.holds.ensures ∙ c.if-holds.false)
