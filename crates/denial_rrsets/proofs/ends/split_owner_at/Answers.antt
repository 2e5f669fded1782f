use Rattle.std.proofs.Common.{◌≡◌, ◌≢◌, ◌≤◌, ℕ, List, ◌∷◌, length, take, drop, sym, ap, ◌∙◌, subst, arith}
use Rattle.plain.specs.declared.record.Record.{Record}
use Rattle.denial_rrsets.specs.Ends.{first_count}
use Rattle.denial_rrsets.specs.GroupLaws.{one_owner_equivalence}
use Rattle.denial_rrsets.specs.Groups.{groups, of_one_owner}
use Rattle.denial_rrsets.specs.Slices.{items_of}
use Rattle.denial_rrsets.specs.Starts.{AreStartsBehind}
use Rattle.denial_rrsets.proofs.Ended.{owner_split}
use Rattle.denial_rrsets.proofs.Grouped.{first_is_group}
use Rattle.denial_rrsets.proofs.ends.split_owner_at.Given.{Over}
use Rattle.denial_rrsets.proofs.ends.split_owner_at.Goals as goal

pub split_at-requires : goal.split_at-requires
split_at-requires g c =
    let xs = items_of c.args.slice in
    let some : length xs ≢ 0 = λ z. omega arith in
    let o = owner_split (of_one_owner g.N.Labels.name) c.args.ends.later.now c.args.ends.count xs c.requires some in
    let n : c.first_count.result ≡ first_count c.args.ends.later.now c.args.ends.count (length xs) = c.first_count.ensures ∙ ap (first_count c.args.ends.later.now c.args.ends.count) c.len-left.ensures in
    let P : ℕ → Type 0 = λ k. k ≤ length xs in
    subst P (sym n) o.few

parts : (g : Over) (c : goal.After-behind g) → groups (of_one_owner g.N.Labels.name) (items_of c.args.slice) ≡ items_of c.split_at.result.0 ∷ groups (of_one_owner g.N.Labels.name) (items_of c.split_at.result.1)
parts g c =
    let xs = items_of c.args.slice in
    let alike = of_one_owner g.N.Labels.name in
    let some : length xs ≢ 0 = λ z. omega arith in
    let o = owner_split alike c.args.ends.later.now c.args.ends.count xs c.requires some in
    let n : c.first_count.result ≡ first_count c.args.ends.later.now c.args.ends.count (length xs) = c.first_count.ensures ∙ ap (first_count c.args.ends.later.now c.args.ends.count) c.len-left.ensures in
    let cut = c.split_at.ensures in
    o.parts ∙ (λ i. take (sym n i) xs ∷ groups alike (drop (sym n i) xs)) ∙ (λ i. sym cut.front i ∷ groups alike (sym cut.behind i))

pub returns-clause-parts : goal.returns-clause-parts
returns-clause-parts g c = parts g c

pub returns-clause-group : goal.returns-clause-group
returns-clause-group g c = first_is_group (of_one_owner g.N.Labels.name) (one_owner_equivalence g.N.Labels.name) (items_of c.args.slice) (items_of c.split_at.result.0) (groups (of_one_owner g.N.Labels.name) (items_of c.split_at.result.1)) (parts g c)

pub returns-clause-ends : goal.returns-clause-ends
returns-clause-ends g c =
    let xs = items_of c.args.slice in
    let alike = of_one_owner g.N.Labels.name in
    let later = c.args.ends.later.now in
    let count = c.args.ends.count in
    let some : length xs ≢ 0 = λ z. omega arith in
    let o = owner_split alike later count xs c.requires some in
    let n : c.first_count.result ≡ first_count later count (length xs) = c.first_count.ensures ∙ ap (first_count later count) c.len-left.ensures in
    let P : List (Record g.row.N.Denot g.row.D.Denot) → Type 0 = λ rs. AreStartsBehind alike (drop 1 later) count rs in
    let Q : ℕ → Type 0 = λ k. AreStartsBehind alike (drop 1 later) k (items_of c.split_at.result.1) in
    let R : List ℕ → Type 0 = λ ss. AreStartsBehind alike ss c.behind.result.count (items_of c.split_at.result.1) in
    subst R (sym c.behind.ensures.later) (subst Q (sym c.behind.ensures.count) (subst P (ap (λ k. drop k xs) (sym n) ∙ sym c.split_at.ensures.behind) o.ends))
