-- To be of one group is an equivalence.
use Rattle.std.proofs.Common.{ℕ}
use Rattle.std.specs.Cmp.{IsEquivalence, nat_eq_equiv, on_equiv, and_equiv}
use Rattle.definitions.specs.Name.{Name}
use Rattle.names_labels.specs.Laws.{same_equivalence}
use Rattle.plain.specs.declared.record.Record.{Record}
use Rattle.denial_rrsets.specs.Groups.{of_one_owner, of_one_set, of_one_type}

pub one_owner_equivalence : {N D : Type 0} (name : N → Name) → IsEquivalence (of_one_owner {N = N} {D = D} name)
one_owner_equivalence {N} {D} name =
    let class : Record N D → ℕ = λ r. r.class in
    let owner : Record N D → Name = λ r. name r.owner in
    and_equiv (on_equiv class nat_eq_equiv) (on_equiv owner same_equivalence)

pub one_type_equivalence : {N D : Type 0} (rtype : D → ℕ) → IsEquivalence (of_one_type {N = N} {D = D} rtype)
one_type_equivalence {N} {D} rtype =
    let type : Record N D → ℕ = λ r. rtype r.content in
    on_equiv type nat_eq_equiv

pub one_set_equivalence : {N D : Type 0} (name : N → Name) (rtype : D → ℕ) → IsEquivalence (of_one_set {N = N} {D = D} name rtype)
one_set_equivalence {N} {D} name rtype =
    let type : Record N D → ℕ = λ r. rtype r.content in
    and_equiv (on_equiv type nat_eq_equiv) (one_owner_equivalence name)
