use Rattle.std.proofs.Common.{◌≡◌, ◌++◌, ◌∙◌, sym, ap, subst, arith}
use Rattle.definitions.specs.Name.{Name, IsName, wire}
use Rattle.names_labels.specs.Flat.{name_in}
use Rattle.names_labels.proofs.Runs.{name_in-wire}
use Rattle.denial_nsec3_hash.specs.Hashing.{hashed_owner}
use Rattle.denial_nsec3_hash.proofs.Digits.{fitting_few}
use Rattle.denial_nsec3_hash.proofs.owner_name.hashed_owner.Goals as goal

pub returns-in-Ok-from_octets-clause-ok : goal.returns-in-Ok-from_octets-clause-ok
returns-in-Ok-from_octets-clause-ok g c =
    let name : Name = hashed_owner (g.N.Labels.name c.args.apex.now) c.args.hash.now in
    let written : c.write_owner.new.octets.items ≡ wire name = c.in-Ok-write_owner.ensures ∙ ap (λ t. t ++ wire name) c.in-Ok.ensures.items in
    sym (name_in-wire c.in-Ok-from_octets.name) ∙ ap name_in (c.in-Ok-from_octets.ensures.ok.octets ∙ written) ∙ name_in-wire name

pub returns-in-Ok-from_octets-clause-fits : goal.returns-in-Ok-from_octets-clause-fits
returns-in-Ok-from_octets-clause-fits g c =
    subst IsName (returns-in-Ok-from_octets-clause-ok g c) c.in-Ok-from_octets.ensures.ok.name

pub returns-then-hash-gt39-clause-refused : goal.returns-then-hash-gt39-clause-refused
returns-then-hash-gt39-clause-refused g c = λ e fits. omega (arith, fitting_few (g.N.Labels.name c.args.apex.now) c.args.hash.now fits, c.if-hash-gt39.true)
