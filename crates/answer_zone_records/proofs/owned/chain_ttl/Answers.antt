use Rattle.std.proofs.Common.{◌≡◌, ap, map, min, subst, ◌∙◌}
use Rattle.std.specs.Prelude.{IfOk}
use Rattle.std.specs.List.{find}
use Rattle.messages.specs.HandedRr.{handed_of}
use Rattle.answer_terms.specs.Served.{chain_ttl, minimum_of}
use Rattle.answer_zone_records.specs.OwnedRecords.{is_of_type}
use Rattle.answer_zone_records.proofs.OwnedFacts.{chain_ttl_by, chain_ttl_owned}
use Rattle.answer_zone_records.proofs.owned.chain_ttl.Goals as goal

pub returns-in-Some : goal.returns-in-Some
returns-in-Some c =
    let rs = map handed_of c.args.records.now in
    let r = handed_of c.in-Some.rr.now in
    let is : min r.ttl (minimum_of r.bytes) ≡ chain_ttl c.args.apex.now rs = ap chain_ttl_by (c.in-Some.ensures ∙ ap (find (is_of_type 6)) c.found.ensures) ∙ chain_ttl_owned c.args.apex.now rs in
    subst (λ n. IfOk c.chain_ttl_of.result (λ t. t ≡ n)) is c.chain_ttl_of.ensures

pub returns-in-None : goal.returns-in-None
returns-in-None c =
    let rs = map handed_of c.args.records.now in
    c.from_secs.ensures ∙ ap chain_ttl_by (c.in-None.ensures ∙ ap (find (is_of_type 6)) c.found.ensures) ∙ chain_ttl_owned c.args.apex.now rs
