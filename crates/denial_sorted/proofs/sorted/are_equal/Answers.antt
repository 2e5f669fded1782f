use Rattle.std.proofs.Common.{rules, ◌≡◌, true, nat_eq, ◌∙◌}
use Rattle.std.specs.Ordering.{is_eq}
use Rattle.definitions.specs.Name.{same}
use Rattle.denial_sorted.proofs.Orders.{owners_decide}
use Rattle.denial_sorted.proofs.sorted.are_equal.Goals as goal

pub returns : goal.returns
returns g c =
    let name = g.N.Labels.name in
    let rtype = g.D.RecordData.type_of in
    let by_data = g.D.CanonicalOrd.canonical in
    let a = c.args.a.now in
    let b = c.args.b.now in
    let types : nat_eq (rtype a.content) (rtype b.content) ≡ true = search rules in
    let classes : nat_eq a.class b.class ≡ true = search rules in
    let equal : is_eq (by_data a.content b.content) ≡ true = search rules in
    let owners : c.name_eq.result ≡ same (name a.owner) (name b.owner) = search rules in
    owners ∙ owners_decide name rtype by_data a b types classes equal
