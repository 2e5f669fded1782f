-- The canonical order of records is total where that of their data is.
use Rattle.std.proofs.Common.{◌≡◌, ℕ, Bool, true, false, ◌&&◌, nat_eq, refl, sym, ap, ◌∙◌}
use Rattle.std.specs.declared.cmp.Ordering.{Ordering}
use Rattle.std.specs.Cmp.{IsTotalOrder, nat_cmp_total, tied_then, unsigned_ties}
use Rattle.std.specs.Ordering.{eq_by_cmp, is_eq, nat_cmp, ordering_then}
use Rattle.std.proofs.lemmas.Cmp.{on_total, then_total}
use Rattle.definitions.specs.Name.{Name, name_cmp, same}
use Rattle.names_labels.specs.Laws.{name_cmp_total, name_cmp_ties}
use Rattle.plain.specs.Records.{record_canonical_cmp}
use Rattle.plain.specs.declared.record.Record.{Record}

pub record_total : {N D : Type 0} (name : N → Name) (rtype : D → ℕ) (by_data : D → D → Ordering) → IsTotalOrder by_data → IsTotalOrder (record_canonical_cmp name rtype by_data)
record_total {N} {D} name rtype by_data o =
    let class : Record N D → ℕ = λ r. r.class in
    let owner : Record N D → Name = λ r. name r.owner in
    let type : Record N D → ℕ = λ r. rtype r.content in
    let content : Record N D → D = λ r. r.content in
    then_total (on_total class nat_cmp_total) (then_total (on_total owner name_cmp_total) (then_total (on_total type nat_cmp_total) (on_total content o)))

reordered : (c n t d : Bool) → (c && (n && (t && d))) ≡ (t && (c && (d && n)))
reordered true true true true = refl
reordered true true true false = refl
reordered true true false d = refl
reordered true false true true = refl
reordered true false true false = refl
reordered true false false d = refl
reordered false n true d = refl
reordered false n false d = refl

-- records are equal where their types, classes, data and owners are
pub equal_parts : {N D : Type 0} (name : N → Name) (rtype : D → ℕ) (by_data : D → D → Ordering) (a b : Record N D) → eq_by_cmp (record_canonical_cmp name rtype by_data) a b ≡ (nat_eq (rtype a.content) (rtype b.content) && (nat_eq a.class b.class && (is_eq (by_data a.content b.content) && same (name a.owner) (name b.owner))))
equal_parts name rtype by_data a b =
    let classes = nat_cmp a.class b.class in
    let owners = name_cmp (name a.owner) (name b.owner) in
    let types = nat_cmp (rtype a.content) (rtype b.content) in
    let content = by_data a.content b.content in
    sym (tied_then classes (ordering_then owners (ordering_then types content)))
    ∙ ap (λ s. is_eq classes && s) (
    sym (tied_then owners (ordering_then types content)) ∙ ap (λ s. is_eq owners && s) (sym (tied_then types content))
    )
    ∙ (λ i. sym (unsigned_ties a.class b.class) i && (sym (name_cmp_ties (name a.owner) (name b.owner)) i && (sym (unsigned_ties (rtype a.content) (rtype b.content)) i && is_eq content)))
    ∙ reordered (nat_eq a.class b.class) (same (name a.owner) (name b.owner)) (nat_eq (rtype a.content) (rtype b.content)) (is_eq content)

all_true : (t c d s : Bool) → t ≡ true → c ≡ true → d ≡ true → (t && (c && (d && s))) ≡ s
all_true t c d s e f h = rw (e, f, h) refl

-- of records with one type, one class and equal data the owners decide
pub owners_decide : {N D : Type 0} (name : N → Name) (rtype : D → ℕ) (by_data : D → D → Ordering) (a b : Record N D) → nat_eq (rtype a.content) (rtype b.content) ≡ true → nat_eq a.class b.class ≡ true → is_eq (by_data a.content b.content) ≡ true → same (name a.owner) (name b.owner) ≡ eq_by_cmp (record_canonical_cmp name rtype by_data) a b
owners_decide name rtype by_data a b t c d =
    sym (equal_parts name rtype by_data a b ∙ all_true (nat_eq (rtype a.content) (rtype b.content)) (nat_eq a.class b.class) (is_eq (by_data a.content b.content)) (same (name a.owner) (name b.owner)) t c d)
