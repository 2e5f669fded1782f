use Rattle.std.proofs.Common.{◌≡◌, ◌≢◌, ◌≤◌, ℕ, nat_eq, if◌then◌else◌, List, [], ◌∷◌, length, take, drop, sym, ap, ◌∙◌, subst, arith}
use Rattle.std.proofs.lemmas.List.{length-take-le}
use Rattle.plain.specs.declared.record.Record.{Record}
use Rattle.denial_rrsets.specs.Ends.{first_count}
use Rattle.denial_rrsets.specs.GroupLaws.{one_set_equivalence}
use Rattle.denial_rrsets.specs.Groups.{IsGroup, groups, of_one_owner, of_one_set, of_one_type}
use Rattle.denial_rrsets.specs.Slices.{items_of}
use Rattle.denial_rrsets.specs.Starts.{AreStartsBehind}
use Rattle.denial_rrsets.proofs.Ended.{owner_split, set_split_at}
use Rattle.denial_rrsets.proofs.ends.split_set_at.Goals as goal

pub split_at-requires : goal.split_at-requires
split_at-requires g c =
    let xs = items_of c.args.slice in
    let later = c.args.ends.later.now in
    let count = c.args.ends.count in
    let some : length xs ≢ 0 = λ z. omega arith in
    let o = owner_split (of_one_owner g.N.Labels.name) later count xs c.requires some in
    let n : c.first_count-owned.result ≡ first_count later count (length xs) = c.first_count-owned.ensures ∙ ap (first_count later count) c.len-left.ensures in
    let P : ℕ → Type 0 = λ k. k ≤ length xs in
    subst P (sym n) o.few

pub returns-in_default-clause-parts : goal.returns-in_default-clause-parts
returns-in_default-clause-parts g c =
    let xs = items_of c.args.slice in
    let later = c.args.ends.later.now in
    let count = c.args.ends.count in
    let some : length xs ≢ 0 = λ z. omega arith in
    let o = owner_split (of_one_owner g.N.Labels.name) later count xs c.requires some in
    let n : c.first_count-owned.result ≡ first_count later count (length xs) = c.first_count-owned.ensures ∙ ap (first_count later count) c.len-left.ensures in
    let size = length-take-le (first_count later count (length xs)) xs o.few in
    let none : take (first_count later count (length xs)) xs ≡ [] = ap (λ k. take k xs) (sym n) ∙ sym c.split_at.ensures.front ∙ c.in_default.ensures.parts in
    let gone = ap length none in
    absurd (omega (arith, o.some))

pub split_at-requires-2 : goal.split_at-requires-2
split_at-requires-2 g c =
    let some : length (items_of c.args.slice) ≢ 0 = λ z. omega arith in
    let s = set_split_at (of_one_type g.D.RecordData.type_of) (of_one_owner g.N.Labels.name) (one_set_equivalence g.N.Labels.name g.D.RecordData.type_of) c.args.ends.later.now c.args.ends.count (items_of c.args.slice) c.requires some c.first_count-owned.result
    (c.first_count-owned.ensures ∙ ap (first_count c.args.ends.later.now c.args.ends.count) c.len-left.ensures)
    (items_of c.split_at.result.0) (items_of c.in-Some.set) (groups (of_one_type g.D.RecordData.type_of) (items_of c.in-Some._others)) c.split_at.ensures.front c.in-Some.ensures.parts in
    let P : ℕ → Type 0 = λ k. k ≤ length (items_of c.args.slice) in
    subst P (sym c.len-count.ensures) s.few

pub returns-clause-group : goal.returns-clause-group
returns-clause-group g c =
    let some : length (items_of c.args.slice) ≢ 0 = λ z. omega arith in
    let s = set_split_at (of_one_type g.D.RecordData.type_of) (of_one_owner g.N.Labels.name) (one_set_equivalence g.N.Labels.name g.D.RecordData.type_of) c.args.ends.later.now c.args.ends.count (items_of c.args.slice) c.requires some c.first_count-owned.result
    (c.first_count-owned.ensures ∙ ap (first_count c.args.ends.later.now c.args.ends.count) c.len-left.ensures)
    (items_of c.split_at.result.0) (items_of c.in-Some.set) (groups (of_one_type g.D.RecordData.type_of) (items_of c.in-Some._others)) c.split_at.ensures.front c.in-Some.ensures.parts in
    let P : List (Record g.row.N.Denot g.row.D.Denot) → Type 0 = λ rs. IsGroup (of_one_set g.N.Labels.name g.D.RecordData.type_of) rs in
    subst P (ap (λ k. take k (items_of c.args.slice)) (sym c.len-count.ensures) ∙ sym c.split_at-2.ensures.front) s.group

pub returns-clause-parts : goal.returns-clause-parts
returns-clause-parts g c =
    let some : length (items_of c.args.slice) ≢ 0 = λ z. omega arith in
    let s = set_split_at (of_one_type g.D.RecordData.type_of) (of_one_owner g.N.Labels.name) (one_set_equivalence g.N.Labels.name g.D.RecordData.type_of) c.args.ends.later.now c.args.ends.count (items_of c.args.slice) c.requires some c.first_count-owned.result
    (c.first_count-owned.ensures ∙ ap (first_count c.args.ends.later.now c.args.ends.count) c.len-left.ensures)
    (items_of c.split_at.result.0) (items_of c.in-Some.set) (groups (of_one_type g.D.RecordData.type_of) (items_of c.in-Some._others)) c.split_at.ensures.front c.in-Some.ensures.parts in
    let xs = items_of c.args.slice in
    let alike = of_one_set g.N.Labels.name g.D.RecordData.type_of in
    let cut = c.split_at-2.ensures in
    s.parts ∙ (λ i. take (sym c.len-count.ensures i) xs ∷ groups alike (drop (sym c.len-count.ensures i) xs)) ∙ (λ i. sym cut.front i ∷ groups alike (sym cut.behind i))

pub returns-clause-ends : goal.returns-clause-ends
returns-clause-ends g c =
    let some : length (items_of c.args.slice) ≢ 0 = λ z. omega arith in
    let s = set_split_at (of_one_type g.D.RecordData.type_of) (of_one_owner g.N.Labels.name) (one_set_equivalence g.N.Labels.name g.D.RecordData.type_of) c.args.ends.later.now c.args.ends.count (items_of c.args.slice) c.requires some c.first_count-owned.result
    (c.first_count-owned.ensures ∙ ap (first_count c.args.ends.later.now c.args.ends.count) c.len-left.ensures)
    (items_of c.split_at.result.0) (items_of c.in-Some.set) (groups (of_one_type g.D.RecordData.type_of) (items_of c.in-Some._others)) c.split_at.ensures.front c.in-Some.ensures.parts in
    let xs = items_of c.args.slice in
    let alike = of_one_owner g.N.Labels.name in
    let later = c.args.ends.later.now in
    let count = c.args.ends.count in
    let n : c.first_count-owned.result ≡ first_count later count (length xs) = c.first_count-owned.ensures ∙ ap (first_count later count) c.len-left.ensures in
    let left : c.left.result.later.now ≡ (if nat_eq (length (items_of c.in-Some.set)) (first_count later count (length xs)) then drop 1 later else later) = c.left.ensures.later ∙ (λ i. if nat_eq (c.len-count.ensures i) (n i) then drop 1 later else later) in
    let P : List (Record g.row.N.Denot g.row.D.Denot) → Type 0 = λ rs. AreStartsBehind alike (if nat_eq (length (items_of c.in-Some.set)) (first_count later count (length xs)) then drop 1 later else later) count rs in
    let Q : ℕ → Type 0 = λ k. AreStartsBehind alike (if nat_eq (length (items_of c.in-Some.set)) (first_count later count (length xs)) then drop 1 later else later) k (items_of c.split_at-2.result.1) in
    let R : List ℕ → Type 0 = λ ss. AreStartsBehind alike ss c.left.result.count (items_of c.split_at-2.result.1) in
    subst R (sym left) (subst Q (sym c.left.ensures.count) (subst P (ap (λ k. drop k xs) (sym c.len-count.ensures) ∙ sym c.split_at-2.ensures.behind) s.ends))
