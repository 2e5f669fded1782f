use Rattle.std.proofs.Common.{◌≡◌, ◌==◌, ◌*◌, ◌/◌, ◌++◌, ◌∙◌, length, take, true, false, sym, ap, subst}
use Rattle.std.specs.List.{list_all}
use Rattle.numbers.specs.Decoding.{Spells, SpellsNothing}
use Rattle.numbers.proofs.Spelling.{nothing_filled, nothing_cut, cut}
use Rattle.numbers.proofs.base32hex.push_rest.Goals as goal

pub returns-in_default : goal.returns-in_default
returns-in_default c = nothing_filled c.args.digits.now c.requires (subst SpellsNothing c.filled.ensures c.in_default.ensures)

pub returns-then-not-are_zeros : goal.returns-then-not-are_zeros
returns-then-not-are_zeros c =
    let five = c.in-Some.five in
    nothing_cut c.args.digits.now five c.requires c.in-Some.ensures.1 (subst (Spells five) c.filled.ensures c.in-Some.ensures.2)
    (ap (λ t. list_all (λ o. o == 0) t) (sym c.split_at.ensures.back) ∙ sym c.if-not-are_zeros.ensures)

pub returns : goal.returns
returns c =
    let xs = c.args.digits.now in
    let five = c.in-Some.five in (
      take (length xs * 5 / 8) five,
      (
        c.in_ok-extend_from_slice.ensures.items ∙ ap (λ t. c.args.octets.now.items ++ t) c.split_at.ensures.front,
        cut xs five c.requires c.in-Some.ensures.0
            (λ bad. let x : true ≡ false = sym (c.is_bad_length.ensures.1 bad) ∙ c.if-is_bad_length.false in absurd (cc))
            (subst (Spells five) c.filled.ensures c.in-Some.ensures.2)
            (ap (λ t. list_all (λ o. o == 0) t) (sym c.split_at.ensures.back) ∙ sym c.if-not-are_zeros.ensures),
      ),
    )
