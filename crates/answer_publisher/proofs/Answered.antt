-- A question that is allowed, or for the records of aliases, asks for none of the chain's types, at or below the apex.
use Rattle.std.proofs.Common.{◌≡◌, true, false, ◌&&◌, ◌||◌, [], ◌∷◌, ap, ◌∙◌, eqb, inl, inr}
use Rattle.std.specs.Prelude.{◌==◌}
use Rattle.std.proofs.lemmas.Bool.{and_parts, or_cases, or_parts}
use Rattle.definitions.specs.Name.{Name, at_or_above}
use Rattle.messages.specs.HandedRr.{among}
use Rattle.messages.specs.Message.{Asked}
use Rattle.answer_terms.specs.Asking.{asks_alias, is_allowed}
use Rattle.answer_terms.proofs.AllowedTypes.{alias_unsigned, allowed_plain, inside_apex}
use Rattle.answer_publisher.specs.Aliases.{is_answered}

alias_plain : (apex : Name) (q : Asked) → asks_alias apex q ≡ true → (eqb q.rtype 47 || eqb q.rtype 50) ≡ false
alias_plain apex q e =
    let u = alias_unsigned apex q e in
    ap (λ b. b || eqb q.rtype 50) u.nsec ∙ u.nsec3

alias_inside : (apex : Name) (q : Asked) → asks_alias apex q ≡ true → at_or_above apex q.name ≡ true
alias_inside apex q e = (and_parts (among (5 ∷ 39 ∷ []) q.rtype && (q.class == 1)) (at_or_above apex q.name) e).1

pub answered_plain : (apex : Name) (q : Asked) → is_answered apex q ≡ true → (eqb q.rtype 47 || eqb q.rtype 50) ≡ false
answered_plain apex q e = elim (or_cases (is_allowed apex q) (asks_alias apex q) e) [
  | inl allowed ↦ allowed_plain apex q allowed
  | inr alias ↦ alias_plain apex q alias
]

pub answered_inside : (apex : Name) (q : Asked) → is_answered apex q ≡ true → at_or_above apex q.name ≡ true
answered_inside apex q e = elim (or_cases (is_allowed apex q) (asks_alias apex q) e) [
  | inl allowed ↦ inside_apex apex q allowed
  | inr alias ↦ alias_inside apex q alias
]

pub unanswered_refused : (apex : Name) (q : Asked) → is_answered apex q ≡ false → is_allowed apex q ≡ false
unanswered_refused apex q e = (or_parts (is_allowed apex q) (asks_alias apex q) e).0
