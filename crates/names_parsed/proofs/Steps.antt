-- Steps along a name that stands in a message, by what is split off there.
use Rattle.std.proofs.Common.{◌≡◌, ◌⊎◌, inl, inr, ℕ, ◌+◌, ◌-◌, ◌<◌, ◌≤◌, true, List, [], ◌∷◌, length, drop, sym, ap, subst, ◌∙◌, arith, Result, Ok, Err, length-drop}
use Rattle.std.proofs.lemmas.List.{drop-drop}
use Rattle.definitions.specs.Limits.{pointer_limit}
use Rattle.definitions.specs.Name.{Name, Label, wire_len}
use Rattle.definitions.specs.Reading.{Reads}
use Rattle.names_wire.specs.Label.{split}
use Rattle.names_wire.specs.declared.label.SplitLabelError.{SplitLabelError}
use Rattle.names_wire.specs.declared.label.SplitLabelError.TheVariants.{Pointer}
use Rattle.names_parsed.specs.Standing.{Stands, stands_at, name_from, InRow, KeepsRow}
use Rattle.names_parsed.specs.Walking.{StepsTo}
use Rattle.names_parsed.proofs.Inversion.{standing, stood, invert, Inverted, short_behind}
use Rattle.names_parsed.proofs.Rows.{row_reads, row_stands, row_at_pointer}

abbrev pub Found : Type 0
Found = Result (List ℕ × List ℕ) SplitLabelError

abbrev pub label_or : List ℕ → Found → List ℕ
label_or d r = elim r [ Ok x ↦ x.0 | Err e ↦ d ]

abbrev pub rest_or : List ℕ → Found → List ℕ
rest_or d r = elim r [ Ok x ↦ x.1 | Err e ↦ d ]

pub same_label : (r : Found) (a b x y : List ℕ) → r ≡ Ok (a, x) → r ≡ Ok (b, y) → a ≡ b
same_label r a b x y h g = ap (label_or a) (sym h ∙ g)

pub same_rest : (r : Found) (a b x y : List ℕ) → r ≡ Ok (a, x) → r ≡ Ok (b, y) → x ≡ y
same_rest r a b x y h g = ap (rest_or x) (sym h ∙ g)

pub not_both : (r : Found) (x : List ℕ × List ℕ) (e : SplitLabelError) → r ≡ Ok x → r ≡ Err e → ⊥
not_both r x e h g = let k : Ok x ≡ Err e = sym h ∙ g in cc

same_pointer : (r : Found) (a b : ℕ) → r ≡ Err (Pointer a) → r ≡ Err (Pointer b) → a ≡ b
same_pointer r a b h g = let k : Err (Pointer a) ≡ Err (Pointer b) = sym h ∙ g in cc

pub inside_step : (m : List ℕ) (p : ℕ) → stands_at m p ≡ true → p < length m
inside_step m p h = go (stood m p h)
  where
    go : (e : ℕ) × Stands m p (name_from m p) e → p < length m
    go s = by_form (invert s.1.reads)
      where
        by_form : Inverted m p pointer_limit (name_from m p) s.0 s.1.reads → p < length m
        by_form (inl r) = r.0.inside
        by_form (inr (inl r)) = omega (arith, r.place, r.inside)
        by_form (inr (inr r)) = r.inside

-- what a pointer leads to
pub record Follows (m : List ℕ) (p to : ℕ) : Type 0 where
  pub before : to < p
  pub stands : stands_at m to ≡ true
  pub labels : name_from m to ≡ name_from m p
  pub row : KeepsRow m p to

pub pointer_step : (m : List ℕ) (p to : ℕ) → stands_at m p ≡ true → split (drop p m) ≡ Err (Pointer to) → Follows m p to
pointer_step m p to h x = go (stood m p h)
  where
    there : (q e : ℕ) → q ≡ to → q < p → Stands m q (name_from m p) e → Follows m p to
    there q e f lt s =
        let r = standing m q (name_from m p) e s in
        record {
          before = omega arith;
          stands = ap (stands_at m) (sym f) ∙ r.0;
          labels = ap (name_from m) (sym f) ∙ r.1;
          row = λ end row. absurd (row_at_pointer m p to end x row);
        }

    go : (e : ℕ) × Stands m p (name_from m p) e → Follows m p to
    go s = by_form (invert s.1.reads)
      where
        by_form : Inverted m p pointer_limit (name_from m p) s.0 s.1.reads → Follows m p to
        by_form (inl r) = absurd (not_both (split (drop p m)) _ _ r.0.splits x)
        by_form (inr (inl r)) = absurd (not_both (split (drop p m)) _ _ r.splits x)
        by_form (inr (inr r)) =
            there r.to r.far (same_pointer (split (drop p m)) r.to to r.splits x) r.before (record { reads = r.onward; short = s.1.short })

pub root_step : (m : List ℕ) (p : ℕ) (l rest : List ℕ) → stands_at m p ≡ true → split (drop p m) ≡ Ok (l, rest) → l ≡ [] → StepsTo m p l p
root_step m p l rest h x z = go (stood m p h)
  where
    go : (e : ℕ) × Stands m p (name_from m p) e → StepsTo m p l p
    go s = by_form (invert s.1.reads)
      where
        by_form : Inverted m p pointer_limit (name_from m p) s.0 s.1.reads → StepsTo m p l p
        by_form (inl r) = record { stands = h; labels = inl (z, r.0.none, r.0.none); row = λ end row. row }
        by_form (inr (inl r)) = absurd (omega (arith, r.some, ap length (same_label (split (drop p m)) r.first l _ _ r.splits x), ap length z))
        by_form (inr (inr r)) = absurd (not_both (split (drop p m)) _ _ x r.splits)

-- a row goes on behind its first label
row_step : (m : List ℕ) (p : ℕ) (l rest : List ℕ) → split (drop p m) ≡ Ok (l, rest) → (l ≡ [] → ⊥) → KeepsRow m p (length m - length rest)
row_step m p l rest x some e h = by_form (invert read.0)
  where
    read : Reads m p 0 (name_from m p) e × (wire_len (name_from m p) ≤ 255)
    read = row_reads m p e h

    by_form : Inverted m p 0 (name_from m p) e read.0 → InRow m (length m - length rest) e
    by_form (inl r) = absurd (some (sym (same_label (split (drop p m)) [] l _ _ r.0.splits x)))
    by_form (inr (inl r)) =
        let others : drop r.behind m ≡ rest = same_rest (split (drop p m)) r.first l _ _ r.splits x in
        let place : r.behind ≡ length m - length rest = omega (arith, ap length others, length-drop r.behind m, r.inside) in
        let short = short_behind r.first r.rest (subst (λ n. wire_len n ≤ 255) r.labels read.1) in
        subst (λ q. InRow m q e) place (row_stands m r.behind e r.rest r.onward short)
    by_form (inr (inr r)) = absurd (not_both (split (drop p m)) _ _ x r.splits)

pub label_step : (m : List ℕ) (p : ℕ) (l rest : List ℕ) → stands_at m p ≡ true → split (drop p m) ≡ Ok (l, rest) → (l ≡ [] → ⊥) → StepsTo m p l (length m - length rest)
label_step m p l rest h x some = go (stood m p h)
  where
    go : (e : ℕ) × Stands m p (name_from m p) e → StepsTo m p l (length m - length rest)
    go s = by_form (invert s.1.reads)
      where
        by_form : Inverted m p pointer_limit (name_from m p) s.0 s.1.reads → StepsTo m p l (length m - length rest)
        by_form (inl r) = absurd (some (sym (same_label (split (drop p m)) [] l _ _ r.0.splits x)))
        by_form (inr (inl r)) =
            let first : r.first ≡ l = same_label (split (drop p m)) r.first l _ _ r.splits x in
            let others : drop r.behind m ≡ rest = same_rest (split (drop p m)) r.first l _ _ r.splits x in
            let place : length m - length rest ≡ r.behind = omega (arith, ap length others, length-drop r.behind m, r.inside) in
            let named : name_from m p ≡ r.first ∷ r.rest = r.labels in
            let t = standing m r.behind r.rest s.0 (record { reads = r.onward; short = short_behind r.first r.rest (subst (λ n. wire_len n ≤ 255) named s.1.short) }) in
            record {
              stands = ap (stands_at m) place ∙ t.0;
              labels = inr (omega (arith, r.some, ap length first), named ∙ (λ i. first i ∷ sym (ap (name_from m) place ∙ t.1) i));
              row = row_step m p l rest x some;
            }
        by_form (inr (inr r)) = absurd (not_both (split (drop p m)) _ _ x r.splits)

pub only_pointers : (m : List ℕ) (p : ℕ) (e : SplitLabelError) → stands_at m p ≡ true → split (drop p m) ≡ Err e → (to : ℕ) × (e ≡ Pointer to)
only_pointers m p e h x = go (stood m p h)
  where
    go : (end : ℕ) × Stands m p (name_from m p) end → (to : ℕ) × (e ≡ Pointer to)
    go s = by_form (invert s.1.reads)
      where
        same_error : (a b : SplitLabelError) → split (drop p m) ≡ Err a → split (drop p m) ≡ Err b → a ≡ b
        same_error a b f g = let k : Err a ≡ Err b = sym f ∙ g in cc

        by_form : Inverted m p pointer_limit (name_from m p) s.0 s.1.reads → (to : ℕ) × (e ≡ Pointer to)
        by_form (inl r) = absurd (not_both (split (drop p m)) _ _ r.0.splits x)
        by_form (inr (inl r)) = absurd (not_both (split (drop p m)) _ _ r.splits x)
        by_form (inr (inr r)) = (r.to, same_error e (Pointer r.to) x r.splits)

-- the same from where a pointer stood
pub steps_from : (m : List ℕ) (p s : ℕ) (l : Label) (next : ℕ) → name_from m p ≡ name_from m s → KeepsRow m s p → StepsTo m p l next → StepsTo m s l next
steps_from m p s l next e k h = record { stands = h.stands; labels = go h.labels; row = λ end row. h.row end (k end row) }
  where
    go : ((l ≡ []) × (name_from m p ≡ []) × (name_from m next ≡ [])) ⊎ ((0 < length l) × (name_from m p ≡ l ∷ name_from m next)) → ((l ≡ []) × (name_from m s ≡ []) × (name_from m next ≡ [])) ⊎ ((0 < length l) × (name_from m s ≡ l ∷ name_from m next))
    go (inl x) = inl (x.0, sym e ∙ x.1, x.2)
    go (inr x) = inr (x.0, sym e ∙ x.1)

-- behind so many labels there are those that are left
pub one_further : (m : List ℕ) (p next : ℕ) (l : Label) (n : Name) (k : ℕ) → StepsTo m p l next → name_from m p ≡ drop k n → k < length n → name_from m next ≡ drop (k + 1) n
one_further m p next l n k h e lt = go h.labels
  where
    go : ((l ≡ []) × (name_from m p ≡ []) × (name_from m next ≡ [])) ⊎ ((0 < length l) × (name_from m p ≡ l ∷ name_from m next)) → name_from m next ≡ drop (k + 1) n
    go (inl x) = absurd (omega (arith, ap length (sym e ∙ x.1), length-drop k n))
    go (inr x) =
        let both : drop 1 (drop k n) ≡ name_from m next = ap (drop 1) (sym e ∙ x.1) in
        sym both ∙ drop-drop 1 k n
