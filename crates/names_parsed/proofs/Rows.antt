-- Names that stand in a message without a pointer: their wire form in a row.
use Rattle.std.proofs.Common.{◌≡◌, inl, inr, ℕ, ◌+◌, ◌-◌, ◌<◌, ◌≤◌, List, [], ◌∷◌, ◌++◌, length, take, drop, sym, ap, subst, ◌∙◌, arith, append_assoc, length-append, length-drop, Ok, Err}
use Rattle.std.specs.Prelude.{slice_range}
use Rattle.std.proofs.lemmas.List.{take_at}
use Rattle.std.proofs.lemmas.List.Folds.{drop_split}
use Rattle.definitions.specs.Limits.{pointer_limit}
use Rattle.definitions.specs.Name.{Name, Label, wire, wire_len, IsName}
use Rattle.definitions.specs.Reading.{Reads, root, label, pointer, pointers_of, name_at}
use Rattle.definitions.proofs.ReadingLaws.{reads_exactly, length-range, wire_len-cons, labels_short, pointers_few, ends_within, ends_once}
use Rattle.names_wire.specs.Label.{split}
use Rattle.names_wire.specs.declared.label.SplitLabelError.TheVariants.{Pointer}
use Rattle.names_wire.proofs.AlongNames.{drop_at}
use Rattle.names_labels.specs.Flat.{spelled, name_in, IsRunOf, SpellsName}
use Rattle.names_labels.proofs.Runs.{labels_in-wire, name_in-wire}
use Rattle.names_labels.proofs.Checks.{length-wire}
use Rattle.names_labels.proofs.Wholes.{wire_len-append}
use Rattle.names_labels.proofs.Rooted.{flat_run}
use Rattle.names_parsed.specs.Standing.{name_from, InRow}
use Rattle.names_parsed.specs.Parsed.{HasNoPointers}
use Rattle.names_parsed.proofs.Inversion.{limit_fits, standing, invert, Inverted, more_pointers}

-- ---- names without pointers

pub row_reads : (m : List ℕ) (p e : ℕ) → InRow m p e → Reads m p 0 (name_from m p) e × (wire_len (name_from m p) ≤ 255)
row_reads m p e h = (reads_exactly m p 0 (name_from m p) e).0 h

pub row_stands : (m : List ℕ) (p e : ℕ) (n : Name) → Reads m p 0 n e → wire_len n ≤ 255 → InRow m p e
row_stands m p e n r short =
    let named = standing m p n e (record { reads = more_pointers r pointer_limit limit_fits; short = short }) in
    (reads_exactly m p 0 n e).1 (r, short) ∙ ap (λ x. Ok (x, e)) (sym named.1)

-- no wire form of a name has two octets, as many as a pointer
never_two : {m : List ℕ} {p k e : ℕ} (n : Name) → Reads m p k n e → wire_len n ≡ 2 → ⊥
never_two [] r h = cc
never_two (l ∷ n) r h = omega (arith, labels_short r, h)

-- a name that ends where its wire form would end stands there without a pointer
pub unled : {m : List ℕ} {p k e : ℕ} {n : Name} → Reads m p k n e → e ≡ p + wire_len n → Reads m p 0 n e
unled (root h b) f = root h b
unled {m} {p} (label {n = n} {e = e} {l = l} {ls = ls} h a s c d g r) f =
    let inside : p + 1 + n ≤ length m = omega (arith, c, d) in
    let len : length l ≡ n = ap length g ∙ ap (λ x. length (slice_range m (p + 1) x)) c ∙ length-range m (p + 1) n inside in
    label h a s c d g (unled r (omega (arith, f, wire_len-cons l ls, len, c)))
unled {m} {p} (pointer {ls = ls} h a b c d e r) f = absurd (never_two ls r (omega (arith, f, e)))

-- its wire form, and what stands behind it
octets_on : {m : List ℕ} {p k e : ℕ} {n : Name} → (r : Reads m p k n e) → pointers_of r ≡ 0 → drop p m ≡ wire n ++ drop e m
octets_on {m} {p} (root h b) z = drop_at m p 0 h ∙ ap (λ q. 0 ∷ drop q m) (sym b)
octets_on {m} {p} {k} {e = b} (label {n = n} {e = e} {l = l} {ls = ls} h a s c d g r) z =
    let inside : p + 1 + n ≤ length m = omega (arith, c, d) in
    let len : length l ≡ n = ap length g ∙ ap (λ x. length (slice_range m (p + 1) x)) c ∙ length-range m (p + 1) n inside in
    let behind : drop (p + 1) m ≡ l ++ (wire ls ++ drop b m) =
    drop_split m (p + 1) e (omega (arith, c)) ∙ ap (λ x. x ++ drop e m) (sym g) ∙ ap (λ x. l ++ x) (octets_on r z) in
    drop_at m p n h ∙ (λ i. sym len i ∷ behind i)
    ∙ sym (append_assoc (length l ∷ l) (wire ls) (drop b m))
    ∙ ap (λ x. x ++ drop b m) (sym (append_assoc (length l ∷ l) (spelled ls) (0 ∷ [])))
octets_on (pointer h a b c d e r) z = absurd (omega (arith, z))

-- a name without pointers, where its wire form stands
record WireAt (m : List ℕ) (p e : ℕ) (n : Name) : Type 0 where
  pub octets : slice_range m p e ≡ wire n
  pub long : e ≡ p + length (wire n)

wire_at : (m : List ℕ) (p e : ℕ) (n : Name) → Reads m p 0 n e → WireAt m p e n
wire_at m p e n r =
    let all : drop p m ≡ wire n ++ drop e m = octets_on r (omega (arith, pointers_few r)) in
    let long : e ≡ p + length (wire n) =
    omega (arith, ap length all, length-append (wire n) (drop e m), length-drop p m, length-drop e m, ends_within r) in
    record { octets = ap (take (e - p)) all ∙ take_at (wire n) (drop e m) (e - p) (omega (arith, long)); long = long }

-- the row is the name's wire form
pub row_spells : (m : List ℕ) (p e : ℕ) → IsName (name_from m p) → InRow m p e → SpellsName (slice_range m p e) (name_from m p)
row_spells m p e name h = record { octets = sym (wire_at m p e (name_from m p) (row_reads m p e h).0).octets; name = name }

pub row_within : (m : List ℕ) (p e : ℕ) → InRow m p e → (p < e) × (e ≤ length m)
row_within m p e h = ends_within (row_reads m p e h).0

pub row_short : (m : List ℕ) (p e : ℕ) → InRow m p e → e ≤ p + 255
row_short m p e h =
    let r = row_reads m p e h in
    let n = name_from m p in
    omega (arith, (wire_at m p e n r.0).long, r.1, length-wire n)

-- it is a row of the labels, the root's last
pub row_run : (m : List ℕ) (p e : ℕ) → IsName (name_from m p) → InRow m p e → IsRunOf (slice_range m p e) (name_from m p ++ [] ∷ [])
row_run m p e name h = of_octets (slice_range m p e) (name_from m p) (row_spells m p e name h)
  where
    of_octets : (bs : List ℕ) (n : Name) → SpellsName bs n → IsRunOf bs (n ++ [] ∷ [])
    of_octets bs n s =
        let P : List ℕ → Type 0 = λ o. IsRunOf o (n ++ [] ∷ []) in
        let back : name_in (wire n) ≡ n = name_in-wire n in
        subst P s.octets (record {
          run = flat_run (wire n) (record { octets = ap wire back; name = subst IsName (sym back) s.name });
          labels = labels_in-wire n;
        })

-- no pointer is followed there
pub row_flat : (m : List ℕ) (p e : ℕ) → InRow m p e → HasNoPointers m p
row_flat m p e h =
    let r = (row_reads m p e h).0 in
    let more = more_pointers r pointer_limit limit_fits in
    (name_from m p, e, more, omega (arith, (ends_once m).pointers p pointer_limit 0 _ _ _ _ more r, pointers_few r))

-- ---- a name that was read

-- where the octets of its labels come to the place where it ends, it is a row
pub walked_row : (m : List ℕ) (p b room : ℕ) (n : Name) → name_at pointer_limit m p ≡ Ok (n, b) → wire_len n + room ≡ 255 → b + room ≡ p + 255 → name_at 0 m p ≡ Ok (n, p + (255 - room))
walked_row m p b room n h spent here =
    let r = (reads_exactly m p pointer_limit n b).0 h in
    let ends : b ≡ p + (255 - room) = omega (arith, spent, here) in
    (reads_exactly m p 0 n b).1 (unled r.0 (omega (arith, spent, here)), r.1) ∙ ap (λ x. Ok (n, x)) ends

pub wire_len-push : (n : Name) (l : Label) → wire_len (n ++ l ∷ []) ≡ wire_len n + (length l + 1)
wire_len-push n l = omega (arith, wire_len-append n (l ∷ []), wire_len-cons l [])

-- ---- names behind it

-- at the beginning of a row stands no pointer
pub row_at_pointer : (m : List ℕ) (p to e : ℕ) → split (drop p m) ≡ Err (Pointer to) → InRow m p e → ⊥
row_at_pointer m p to e x h = by_form (invert r)
  where
    r : Reads m p 0 (name_from m p) e
    r = (row_reads m p e h).0

    by_form : Inverted m p 0 (name_from m p) e r → ⊥
    by_form (inl i) = let k : Ok ([], drop (p + 1) m) ≡ Err (Pointer to) = sym i.0.splits ∙ x in cc
    by_form (inr (inl i)) = let k : Ok (i.first, drop i.behind m) ≡ Err (Pointer to) = sym i.splits ∙ x in cc
    by_form (inr (inr i)) = omega (arith, i.pointers, pointers_few r)
