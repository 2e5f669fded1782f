use Rattle.std.proofs.Common.{◌∙◌, None, Some, ap, map}
use Rattle.messages.specs.HandedRr.{handed_of}
use Rattle.names_parsed.specs.Parsed.{parsed_name}
use Rattle.server_glue.specs.Glue.{owned_of_type}
use Rattle.server_glue.proofs.Found.{at_owner, found_both, found_none, on_ok}
use Rattle.server_glue.proofs.addresses.Addresses.push_at.Goals as goal

pub returns-in_default : goal.returns-in_default
returns-in_default c =
    let rs = c.self.inside.records in
    let q = parsed_name c.args.name.now in
    found_none (map (λ r. handed_of r.now) c.args.found.now.items) (owned_of_type c.args.self.now q 1) (owned_of_type c.args.self.now q 28)
    (at_owner rs c.args.self.now q None 1 c.self.invariant c.self.view_is c.in_default.ensures)
    (at_owner rs c.args.self.now q None 28 c.self.invariant c.self.view_is c.in_default.ensures)

pub returns : goal.returns
returns c =
    let rs = c.self.inside.records in
    let q = parsed_name c.args.name.now in
    let owned = c.in-Some.owned in
    on_ok c.push_type-2.result
    (found_both (map (λ r. handed_of r.now) c.args.found.now.items) (map (λ r. handed_of r.now) c.push_type.new.found.items) (map (λ r. handed_of r.now) c.push_type-2.new.found.items) _ _ (owned_of_type c.args.self.now q 1) (owned_of_type c.args.self.now q 28)
    (at_owner rs c.args.self.now q (Some owned) 1 c.self.invariant c.self.view_is c.in-Some.ensures)
    (at_owner rs c.args.self.now q (Some owned) c.from_int.result c.self.invariant c.self.view_is c.in-Some.ensures ∙ ap (owned_of_type c.args.self.now q) c.from_int.ensures)
    c.in_ok-push_type.ensures)
    c.push_type-2.ensures
