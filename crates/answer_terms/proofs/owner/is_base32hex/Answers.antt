use Rattle.std.proofs.Common.{◌*◌, ◌/◌, length, subst, sym, ap, ◌∙◌}
use Rattle.std.proofs.lemmas.List.{take_rest}
use Rattle.answer_terms.specs.HashOwner.{is_base32hex}
use Rattle.answer_terms.proofs.Digits.{AreEither, no_digits, rest_decides, rest_digits}
use Rattle.answer_terms.proofs.owner.is_base32hex.Goals as goal

pub returns-then-not-are_digits : goal.returns-then-not-are_digits
returns-then-not-are_digits c = sym (no_digits c.args.label.now (sym c.are_digits.ensures ∙ c.if-not-are_digits.true))

pub spells_rest-requires-clause-digits : goal.spells_rest-requires-clause-digits
spells_rest-requires-clause-digits c =
    let l = c.args.label.now in
    let k = length l / 8 * 8 in
    let all : AreEither l = sym c.are_digits.ensures ∙ c.if-not-are_digits.false in
    subst AreEither (sym (take_rest l k)) (rest_digits l k all)

pub returns : goal.returns
returns c =
    let l = c.args.label.now in
    let k = length l / 8 * 8 in
    c.spells_rest.ensures ∙ ap is_base32hex (take_rest l k) ∙ rest_decides l (sym c.are_digits.ensures ∙ c.if-not-are_digits.false)
