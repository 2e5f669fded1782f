-- Passing over names, by what is split off.
use Rattle.std.proofs.Common.{◌≡◌, ◌⊎◌, inl, inr, ℕ, ◌+◌, ◌-◌, ◌*◌, ◌<◌, ◌≤◌, Bool, true, false, cond, List, [], ◌∷◌, ◌++◌, length, take, drop, refl, sym, ap, subst, ◌∙◌, arith, Some, Result, Ok, Err, nat_le, nat_lt, length-drop, append_assoc}
use Rattle.std.specs.Prelude.{slice_get, slice_range}
use Rattle.std.proofs.lemmas.List.Sums.{sum_by-append}
use Rattle.definitions.specs.Name.{Name, Label, wire_len}
use Rattle.std.proofs.lemmas.Bool.{leb-true, leb-false, ltb-true, ltb-false}
use Rattle.definitions.specs.Reading.{Reads, root, label, pointer, ReadFault, Short, Malformed}
use Rattle.definitions.proofs.ReadingLaws.{length-range, wire_len-cons, wire_len_some}
use Rattle.names_wire.specs.Label.{split, no_length, pointer_to}
use Rattle.names_wire.specs.declared.label.SplitLabelError.{SplitLabelError}
use Rattle.names_wire.specs.declared.label.SplitLabelError.TheVariants.{Pointer, BadType, ShortInput as ShortLabel}
use Rattle.names_wire.specs.declared.label.LabelTypeError.{LabelTypeError}
use Rattle.names_wire.specs.declared.label.LabelTypeError.TheVariants.{Undefined, Extended}
use Rattle.names_wire.proofs.AlongNames.{Cut, Points, cut_of, points_of, at_drop, split_label, split_root, split_pointer}
use Rattle.std.specs.Prelude.{IsOk, OnErr, IfErr}
use Rattle.std.proofs.lemmas.Bool.{false≢true}
use Rattle.names_parser.specs.Reader.{Reader}
use Rattle.names_parser.specs.declared.error.ParseError.{ParseError}
use Rattle.names_parser.specs.declared.error.ParseError.TheVariants.{ShortInput}
use Rattle.names_parsed.specs.Passing.{Passes, at_root, at_pointer, at_label, CanPass, NothingToSkip, StopsPassing, Stuck, no_head, half_pointer, part_of_label, other_type, no_room, behind_label}
use Rattle.names_parsed.specs.Heads.{fault_of}
use Rattle.names_parsed.proofs.Steps.{same_label, same_rest, not_both}
use Rattle.names_parsed.proofs.Parsing.{below_not}

-- what is passed over begins with a label, or with none
pub record FirstLabel (m : List ℕ) (p : ℕ) (n : Name) (b : ℕ) : Type 0 where
  pub first : Label
  pub rest : Name
  pub behind : ℕ
  pub labels : n ≡ first ∷ rest
  pub some : 0 < length first
  pub inside : behind ≤ length m
  pub splits : split (drop p m) ≡ Ok (first, drop behind m)
  pub onward : Passes m behind rest b

abbrev Begins : (m : List ℕ) (p : ℕ) (n : Name) (b : ℕ) → Type 0
Begins m p n b =
    ((n ≡ []) × (split (drop p m) ≡ Ok ([], drop (p + 1) m)))
    ⊎ (((n ≡ []) × ((to : ℕ) × (split (drop p m) ≡ Err (Pointer to)))) ⊎ FirstLabel m p n b)

begins : {m : List ℕ} {p b : ℕ} {n : Name} → Passes m p n b → Begins m p n b
begins {m} {p} (at_root h e) = inl (refl, split_root m p h)
begins {m} {p} (at_pointer {high = high} {low = low} h a g e) = inr (inl (refl, ((high - 192) * 256 + low, split_pointer m p high low h a g)))
begins {m} {p} (at_label {n = n} {e = e} {l = l} {ls = ls} h a s c d f r) =
    let inside : p + 1 + n ≤ length m = omega (arith, c, d) in
    let here : l ≡ slice_range m (p + 1) (p + 1 + n) = f ∙ ap (slice_range m (p + 1)) c in
    let len : length l ≡ n = ap length here ∙ length-range m (p + 1) n inside in
    inr (inr (record {
      first = l;
      rest = ls;
      behind = e;
      labels = refl;
      some = omega (arith, len, a);
      inside = d;
      splits = split_label m p n h s inside ∙ (λ i. Ok (sym here i, drop (sym c i) m));
      onward = r;
    }))

-- ---- a walk over labels

-- the labels passed so far
pub record Passed (m : List ℕ) (start place room : ℕ) : Type 0 where
  pub done : Name
  pub onward : (n : Name) (b : ℕ) → Passes m place n b → Passes m start (done ++ n) b
  pub back : (n : Name) (b : ℕ) → Passes m start n b → (rest : Name) × (n ≡ done ++ rest) × Passes m place rest b
  pub faults : (f : ReadFault) → Stuck m place room f → Stuck m start 255 f
  pub sized : room + wire_len done ≡ 256
  pub roomy : 1 ≤ room
  pub inside : place ≤ length m

pub none_passed : (m : List ℕ) (start : ℕ) → start ≤ length m → Passed m start start 255
none_passed m start h = record { done = []; onward = λ n b r. r; back = λ n b r. (n, refl, r); faults = λ f s. s; sized = omega arith; roomy = omega arith; inside = h }

wire_len-more : (n m : Name) → wire_len (n ++ m) + 1 ≡ wire_len n + wire_len m
wire_len-more n m = omega (arith, sum_by-append (λ l. length l + 1) n m)

-- nothing is passed over where no label is split off, and no pointer stands
pub stuck : (m : List ℕ) (start place room : ℕ) (e : SplitLabelError) → Passed m start place room → split (drop place m) ≡ Err e → ((to : ℕ) → e ≡ Pointer to → ⊥) → (b : ℕ) → CanPass m start b → ⊥
stuck m start place room e p s other b c = go (p.back c.labels b c.passes)
  where
    by_form : (rest : Name) → Begins m place rest b → ⊥
    by_form rest (inl x) = not_both (split (drop place m)) _ e x.1 s
    by_form rest (inr (inl x)) = let k : Err (Pointer x.1.0) ≡ Err e = sym x.1.1 ∙ s in let same : e ≡ Pointer x.1.0 = cc in other x.1.0 same
    by_form rest (inr (inr x)) = not_both (split (drop place m)) _ e x.splits s

    go : (rest : Name) × (c.labels ≡ p.done ++ rest) × Passes m place rest b → ⊥
    go r = by_form r.0 (begins r.2)

-- a root octet
pub ends_at_root : (m : List ℕ) (start place room : ℕ) (l rest : List ℕ) → Passed m start place room → split (drop place m) ≡ Ok (l, rest) → l ≡ [] → CanPass m start (place + 1)
ends_at_root m start place room l rest p s z =
    let c : Cut m place l rest = cut_of m place l rest s in
    let none : slice_get m place ≡ Some 0 = c.head ∙ ap (λ x. Some (length x)) z in
    record { labels = p.done ++ []; passes = p.onward [] (place + 1) (at_root none refl); short = omega (arith, wire_len-more p.done [], p.sized, p.roomy) }

-- a pointer
pub ends_at_pointer : (m : List ℕ) (start place room to : ℕ) → Passed m start place room → split (drop place m) ≡ Err (Pointer to) → CanPass m start (place + 2)
ends_at_pointer m start place room to p s =
    let c : Points m place to = points_of m place to s in
    record { labels = p.done ++ []; passes = p.onward [] (place + 2) (at_pointer c.first c.large c.second refl); short = omega (arith, wire_len-more p.done [], p.sized, p.roomy) }

-- the label in front of what is passed over
front : (m : List ℕ) (place b : ℕ) (l rest : List ℕ) (n : Name) → split (drop place m) ≡ Ok (l, rest) → 0 < length l → Begins m place n b → (others : Name) × (n ≡ l ∷ others) × Passes m (length m - length rest) others b
front m place b l rest n s some (inl x) = absurd (omega (arith, some, ap length (same_label (split (drop place m)) [] l _ _ x.1 s)))
front m place b l rest n s some (inr (inl x)) = absurd (not_both (split (drop place m)) _ _ s x.1.1)
front m place b l rest n s some (inr (inr x)) =
    let first : x.first ≡ l = same_label (split (drop place m)) x.first l _ _ x.splits s in
    let others : drop x.behind m ≡ rest = same_rest (split (drop place m)) x.first l _ _ x.splits s in
    let here : x.behind ≡ length m - length rest = omega (arith, ap length others, length-drop x.behind m, x.inside) in
    let P : ℕ → Type 0 = λ q. Passes m q x.rest b in
    (x.rest, x.labels ∙ ap (λ y. y ∷ x.rest) first, subst P here x.onward)

-- a label that leaves no room
pub too_long : (m : List ℕ) (start place room : ℕ) (l rest : List ℕ) → Passed m start place room → split (drop place m) ≡ Ok (l, rest) → (l ≡ [] → ⊥) → room < length l + 2 → (b : ℕ) → CanPass m start b → ⊥
too_long m start place room [] rest p s some full b c = some refl
too_long m start place room (o ∷ os) rest p s some full b c = go (p.back c.labels b c.passes)
  where
    l : List ℕ
    l = o ∷ os

    go : (r : Name) × (c.labels ≡ p.done ++ r) × Passes m place r b → ⊥
    go r =
        let f = front m place b (o ∷ os) rest r.0 s (omega arith) (begins r.2) in
        let whole : c.labels ≡ p.done ++ ((o ∷ os) ∷ f.0) = r.1 ∙ ap (λ x. p.done ++ x) f.1 in
        omega (arith, c.short, ap wire_len whole, wire_len-more p.done ((o ∷ os) ∷ f.0), wire_len-more ((o ∷ os) ∷ []) f.0, p.sized, full)

-- a label more
pub passes_label : (m : List ℕ) (start place room : ℕ) (l rest : List ℕ) → Passed m start place room → split (drop place m) ≡ Ok (l, rest) → (l ≡ [] → ⊥) → length l + 2 ≤ room → Passed m start (length m - length rest) (room - (length l + 1))
passes_label m start place room [] rest p s some fits = absurd (some refl)
passes_label m start place room (o ∷ os) rest p s some fits =
    let l : List ℕ = o ∷ os in
    let c : Cut m place (o ∷ os) rest = cut_of m place (o ∷ os) rest s in
    let here : length m - length rest ≡ place + 1 + length (o ∷ os) = omega (arith, ap length c.behind, length-drop (place + 1 + length (o ∷ os)) m, c.inside) in
    record {
      done = p.done ++ (o ∷ os) ∷ [];
      onward = λ n b r.
          let P : ℕ → Type 0 = λ q. Passes m q n b in
          let Q : Name → Type 0 = λ k. Passes m start k b in
          let more : Passes m place ((o ∷ os) ∷ n) b = at_label c.head (omega arith) c.short refl c.inside c.octets (subst P here r) in
          subst Q (sym (append_assoc p.done ((o ∷ os) ∷ []) n)) (p.onward ((o ∷ os) ∷ n) b more);
      back = λ n b r.
          let x = p.back n b r in
          let f = front m place b (o ∷ os) rest x.0 s (omega arith) (begins x.2) in
          (f.0, x.1 ∙ ap (λ k. p.done ++ k) f.1 ∙ sym (append_assoc p.done ((o ∷ os) ∷ []) f.0), f.2);
      faults = λ f s.
          let P : ℕ → Type 0 = λ q. Stuck m q (room - (length (o ∷ os) + 1)) f in
          p.faults f (behind_label c.head (omega arith) c.short c.inside fits (subst P here s));
      sized = omega (arith, p.sized, wire_len-more p.done ((o ∷ os) ∷ []), fits);
      roomy = omega (arith, fits);
      inside = omega (arith, here, c.inside);
    }

-- ---- why nothing is passed over

abbrev Found : Type 0
Found = Result (List ℕ × List ℕ) SplitLabelError

-- a head and what stands behind it, where it is known whether it is a length and whether so many octets are there
abbrev found : ℕ → List ℕ → Bool → Bool → Found
found n bs short fits = cond short (cond fits (Ok (take n bs, drop n bs)) (Err ShortLabel)) (Err (no_length n bs))

-- and where it is no length
abbrev unlike : ℕ → List ℕ → Bool → Bool → Found
unlike n bs extended undefined = Err (cond extended (BadType (Extended n)) (cond undefined (BadType Undefined) (pointer_to n bs)))

pub short_at : (m : List ℕ) (place room : ℕ) → split (drop place m) ≡ Err ShortLabel → Stuck m place room Short
short_at m p room h = go (drop p m) refl h
  where
    pointed : (n : ℕ) (bs xs : List ℕ) → drop p m ≡ n ∷ bs → 192 ≤ n → bs ≡ xs → (let e : Found = Err (pointer_to n xs) in e) ≡ Err ShortLabel → Stuck m p room Short
    pointed n bs [] e large f k =
        let there = at_drop m p n bs e in
        half_pointer there.0 large (omega (arith, ap length f, ap length there.1, length-drop (p + 1) m))
    pointed n bs (low ∷ xs) e large f k = cc

    typed : (n : ℕ) (bs : List ℕ) (s t : Bool) → drop p m ≡ n ∷ bs → nat_lt n 192 ≡ t → unlike n bs s t ≡ Err ShortLabel → Stuck m p room Short
    typed n bs true t e g k = cc
    typed n bs false true e g k = cc
    typed n bs false false e g k = pointed n bs bs e (ltb-false n 192 g) refl k

    known : (n : ℕ) (bs : List ℕ) (s t : Bool) → drop p m ≡ n ∷ bs → nat_le n 63 ≡ s → nat_le n (length bs) ≡ t → found n bs s t ≡ Err ShortLabel → Stuck m p room Short
    known n bs true true e f g k = cc
    known n bs true false e f g k =
        let there = at_drop m p n bs e in
        part_of_label there.0 (leb-true n 63 f) (omega (arith, leb-false n (length bs) g, ap length there.1, length-drop (p + 1) m))
    known n bs false t e f g k = typed n bs (nat_lt n 128) (nat_lt n 192) e refl k

    go : (xs : List ℕ) → drop p m ≡ xs → split xs ≡ Err ShortLabel → Stuck m p room Short
    go [] e k = no_head (omega (arith, ap length e, length-drop p m))
    go (n ∷ bs) e k = known n bs (nat_le n 63) (nat_le n (length bs)) e refl refl k

pub malformed_at : (m : List ℕ) (place room : ℕ) (t : LabelTypeError) → split (drop place m) ≡ Err (BadType t) → Stuck m place room Malformed
malformed_at m p room w h = go (drop p m) refl h
  where
    pointed : (n : ℕ) (xs : List ℕ) → (let e : Found = Err (pointer_to n xs) in e) ≡ Err (BadType w) → Stuck m p room Malformed
    pointed n [] k = cc
    pointed n (low ∷ xs) k = cc

    typed : (n : ℕ) (bs : List ℕ) (s t : Bool) → drop p m ≡ n ∷ bs → 63 < n → nat_lt n 128 ≡ s → nat_lt n 192 ≡ t → unlike n bs s t ≡ Err (BadType w) → Stuck m p room Malformed
    typed n bs true t e large f g k = other_type (at_drop m p n bs e).0 large (omega (arith, ltb-true n 128 f))
    typed n bs false true e large f g k = other_type (at_drop m p n bs e).0 large (ltb-true n 192 g)
    typed n bs false false e large f g k = pointed n bs k

    known : (n : ℕ) (bs : List ℕ) (s t : Bool) → drop p m ≡ n ∷ bs → nat_le n 63 ≡ s → found n bs s t ≡ Err (BadType w) → Stuck m p room Malformed
    known n bs true true e f k = cc
    known n bs true false e f k = cc
    known n bs false t e f k = typed n bs (nat_lt n 128) (nat_lt n 192) e (omega (arith, leb-false n 63 f)) refl refl k

    go : (xs : List ℕ) → drop p m ≡ xs → split xs ≡ Err (BadType w) → Stuck m p room Malformed
    go [] e k = cc
    go (n ∷ bs) e k = known n bs (nat_le n 63) (nat_le n (length bs)) e refl k

-- a label that leaves no room
pub no_room_behind : (m : List ℕ) (place room : ℕ) (l rest : List ℕ) → split (drop place m) ≡ Ok (l, rest) → (l ≡ [] → ⊥) → room < length l + 2 → Stuck m place room Malformed
no_room_behind m p room [] rest s some full = absurd (some refl)
no_room_behind m p room (o ∷ os) rest s some full =
    let c : Cut m p (o ∷ os) rest = cut_of m p (o ∷ os) rest s in
    no_room c.head (omega arith) c.short c.inside full

-- ---- a name that is read can be passed over, and both end at the same place

passes_over : {m : List ℕ} {p k e : ℕ} {n : Name} → Reads m p k n e → (x : Name) × Passes m p x e × (wire_len x ≤ wire_len n)
passes_over (root h e) = ([], at_root h e, omega arith)
passes_over (label {l = l} {ls = ls} h a s c d f r) =
    let x = passes_over r in
    (l ∷ x.0, at_label h a s c d f x.1, omega (arith, x.2, wire_len-cons l x.0, wire_len-cons l ls))
passes_over {n = n} (pointer h a b c d e r) = ([], at_pointer h a b e, omega (arith, wire_len_some n))

pub passes_names : (m : List ℕ) (p k e : ℕ) (n : Name) → Reads m p k n e → wire_len n ≤ 255 → CanPass m p e
passes_names m p k e n r short = let x = passes_over r in record { labels = x.0; passes = x.1; short = omega (arith, x.2, short) }

-- ---- what is passed over ends once

some_back : (a b : ℕ) → Some a ≡ Some b → a ≡ b
some_back a b e = cc

one_head : (m : List ℕ) (p q a b : ℕ) → q ≡ p → slice_get m p ≡ Some a → slice_get m q ≡ Some b → a ≡ b
one_head m p q a b e h g = some_back a b (sym h ∙ ap (slice_get m) (sym e) ∙ g)

pub one_end : {m : List ℕ} {p b c : ℕ} {n k : Name} → Passes m p n b → (q : ℕ) → q ≡ p → Passes m q k c → b ≡ c
one_end {m} {p} (at_root h e) q at (at_root g f) = omega arith
one_end {m} {p} (at_root h e) q at (at_pointer {high = x} g y z f) = absurd (omega (arith, one_head m p q 0 x at h g))
one_end {m} {p} (at_root h e) q at (at_label {n = x} g y z d f i r) = absurd (omega (arith, one_head m p q 0 x at h g))
one_end {m} {p} (at_pointer {high = x} h a b e) q at (at_root g f) = absurd (omega (arith, one_head m p q x 0 at h g))
one_end {m} {p} (at_pointer h a b e) q at (at_pointer g y z f) = omega arith
one_end {m} {p} (at_pointer {high = x} h a b e) q at (at_label {n = n} g y z d f i r) = absurd (omega (arith, one_head m p q x n at h g))
one_end {m} {p} (at_label {n = n} h a b d e f r) q at (at_root g i) = absurd (omega (arith, one_head m p q n 0 at h g))
one_end {m} {p} (at_label {n = n} h a b d e f r) q at (at_pointer {high = x} g y z i) = absurd (omega (arith, one_head m p q n x at h g))
one_end {m} {p} (at_label {n = n} {e = e} h a b d u f r) q at (at_label {n = x} {e = y} g t v w z i s) =
    let same : n ≡ x = one_head m p q n x at h g in
    one_end r y (omega arith) s

-- ---- the reader

pub nothing_at : (r : Reader) (m : List ℕ) (p : ℕ) → m ≡ r.octets → p ≡ r.place → ((b : ℕ) → CanPass m p b → ⊥) → NothingToSkip r
nothing_at r m p e f h b c le = h b (subst (λ q. CanPass m q b) (sym f) (subst (λ o. CanPass o r.place b) (sym e) c))

pub past_the_end : (r : Reader) (m : List ℕ) (p b : ℕ) → m ≡ r.octets → p ≡ r.place → CanPass m p b → (b ≤ r.end → ⊥) → NothingToSkip r
past_the_end r m p b e f c far b' d le =
    let there : CanPass m p b' = subst (λ q. CanPass m q b') (sym f) (subst (λ o. CanPass o r.place b') (sym e) d) in
    far (omega (arith, one_end c.passes p refl there.passes, le))

pub refused_or : {A E : Type 0} (r : Result A E) (P : Type 0) → ((IsOk r → ⊥) → P) → OnErr r P
refused_or (Ok x) P h = tt
refused_or (Err e) P h = h (λ k. false≢true k)

pub stops_at : (r : Reader) (m : List ℕ) (p : ℕ) (e : ParseError) → m ≡ r.octets → p ≡ r.place → Stuck m p 255 (fault_of e) → StopsPassing r e
stops_at r m p e f g s = inl (subst (λ q. Stuck r.octets q 255 (fault_of e)) g (subst (λ o. Stuck o p 255 (fault_of e)) f s))

-- where what is passed over ends past the reader's end
pub ends_past : {A : Type 0} (r : Reader) (m : List ℕ) (p b : ℕ) (x : Result A ParseError) → m ≡ r.octets → p ≡ r.place → CanPass m p b → (b ≤ r.end → IsOk x) → IfErr x (λ e. e ≡ ShortInput) → IfErr x (StopsPassing r)
ends_past r m p b (Ok x) e f c within h = tt
ends_past r m p b (Err x) e f c within h =
    let there : CanPass r.octets r.place b = subst (λ q. CanPass r.octets q b) f (subst (λ o. CanPass o p b) e c) in
    inr (b, there, below_not (λ le. false≢true (within le)), h)
