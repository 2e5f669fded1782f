use Rattle.std.proofs.Common.{◌∙◌, ◌∷◌, ap, sym}
use Rattle.names_wire.specs.Label.{octets_of}
use Rattle.names_labels.proofs.Checks.{test_some}
use Rattle.names_labels.specs.Suffixes.{names_left}
use Rattle.names_labels.proofs.Rooted.{flat_run}
use Rattle.names_flat.proofs.Ancestors.{steps_up, stays_left, not_none}
use Rattle.names_flat.proofs.suffixes.SuffixIterIterator.next.Goals as goal

pub split_label-requires : goal.split_label-requires
split_label-requires c = flat_run c.self.inside.rest.now (c.self.invariant (test_some c.self.inside.rest.now _ c.is_empty.ensures c.if-is_empty.false))

pub returns-in_err-rest-clause-steps : goal.returns-in_err-rest-clause-steps
returns-in_err-rest-clause-steps c =
    absurd (not_none c.self.inside.rest.now c.self.invariant (test_some c.self.inside.rest.now _ c.is_empty.ensures c.if-is_empty.false) c.in_err-rest.ensures)

pub invariant_of-self : goal.invariant_of-self
invariant_of-self c =
    stays_left c.self.inside.rest.now c.in_ok-rest.rest.now (octets_of c.in_ok-rest.field-0-0) c.self.invariant (test_some c.self.inside.rest.now _ c.is_empty.ensures c.if-is_empty.false) c.in_ok-rest.ensures

pub returns-clause-steps : goal.returns-clause-steps
returns-clause-steps c =
    sym c.self.view_is
    ∙ steps_up c.self.inside.rest.now c.in_ok-rest.rest.now (octets_of c.in_ok-rest.field-0-0) c.self.invariant (test_some c.self.inside.rest.now _ c.is_empty.ensures c.if-is_empty.false) c.in_ok-rest.ensures
    ∙ ap (λ n. n ∷ names_left c.in_ok-rest.rest.now) (sym c.of_octets.ensures)
