-- Names that were read, and the pointers on the way.
use Rattle.std.proofs.Common.{◌≡◌, ◌⊎◌, inl, inr, ℕ, zero, suc, ◌+◌, ◌-◌, ◌<◌, ◌≤◌, true, List, [], ◌∷◌, ◌++◌, length, drop, refl, sym, ap, subst, ◌∙◌, arith, Some, Result, Ok, Err, length-drop}
use Rattle.std.specs.Prelude.{slice_get, slice_range}
use Rattle.std.specs.List.{AllByRecursion}
use Rattle.definitions.specs.Limits.{pointer_limit}
use Rattle.definitions.specs.Name.{Name, Label, IsLabel, IsName}
use Rattle.definitions.specs.Reading.{Reads, root, label, pointer, pointers_of, ReadFault, name_at}
use Rattle.definitions.proofs.ReadingLaws.{reads_exactly, length-range, one_name}
use Rattle.names_wire.specs.Label.{split}
use Rattle.names_wire.specs.declared.label.SplitLabelError.{SplitLabelError}
use Rattle.names_parsed.specs.Standing.{Stands, stands_at, name_from, labels_from}
use Rattle.names_parsed.specs.Walking.{StepsTo}
use Rattle.names_parser.specs.Reader.{Reader}
use Rattle.names_parsed.specs.Parsed.{HasPointers, HasNoPointers, ReadsName, parsed_name, message_of, place_of}
use Rattle.names_parsed.specs.declared.parsed.ParsedName.{ParsedName}
use Rattle.names_parsed.proofs.Inversion.{standing, stood, invert, Inverted}
use Rattle.names_parsed.proofs.Steps.{same_label, same_rest, not_both}

-- ---- names

pub read_name : (m : List ℕ) (p : ℕ) (n : Name) (e : ℕ) → name_at pointer_limit m p ≡ Ok (n, e) → Stands m p n e
read_name m p n e h = let r = (reads_exactly m p pointer_limit n e).0 h in record { reads = r.0; short = r.1 }

two_results : (r : Result (Name × ℕ) ReadFault) (x : Name × ℕ) (f : ReadFault) → r ≡ Ok x → r ≡ Err f → ⊥
two_results r x f h g = let k : Ok x ≡ Err f = sym h ∙ g in cc

pub no_name : (m : List ℕ) (p : ℕ) (f : ReadFault) → name_at pointer_limit m p ≡ Err f → (n : Name) (e : ℕ) → Stands m p n e → ⊥
no_name m p f h n e s = two_results (name_at pointer_limit m p) (n, e) f ((reads_exactly m p pointer_limit n e).1 (s.reads, s.short)) h

-- what is handed out, by what was read of a message
pub reads_name : (old new : Reader) (m : List ℕ) (start behind : ℕ) (n : Name) (x : ParsedName) → m ≡ old.octets → start ≡ old.place → name_at pointer_limit m start ≡ Ok (n, behind) → behind ≤ old.end → new ≡ record old { place = behind } → message_of x ≡ m → place_of x ≡ start → ReadsName old new x
reads_name old new m start behind n x em es h fits en xm xs =
    let s : Stands m start n behind = read_name m start n behind h in
    let named : name_from (message_of x) (place_of x) ≡ n = (λ i. name_from (xm i) (xs i)) ∙ (standing m start n behind s).1 in
    let P : List ℕ → Type 0 = λ o. Stands o start n behind in
    let Q : ℕ → Type 0 = λ p. Stands old.octets p n behind in
    let R : Name → Type 0 = λ k. Stands old.octets old.place k behind in
    let S : ℕ → Type 0 = λ e. Stands old.octets old.place (parsed_name x) e in
    let place : new.place ≡ behind = λ i. (en i).place in
    record {
      stands = subst S (sym place) (subst R (sym named) (subst Q es (subst P em s)));
      fits = omega (arith, place, fits);
      reader = en ∙ ap (λ e. record old { place = e }) (sym place);
      message = xm ∙ em;
      place = xs ∙ es;
    }

-- a name that ends past the end of reading is none that ends before
pub past_end : (m : List ℕ) (p : ℕ) (n k : Name) (b e end : ℕ) → name_at pointer_limit m p ≡ Ok (n, b) → end < b → Stands m p k e → e ≤ end → ⊥
past_end m p n k b e end h lt s le = omega (arith, (one_name (read_name m p n b h).reads p refl s.reads).1, lt, le)

all_labels : {m : List ℕ} {p k e : ℕ} {n : Name} → Reads m p k n e → AllByRecursion IsLabel n
all_labels (root h e) = tt
all_labels {m} {p} (label {n = n} {e = e} {l = l} h a s c d f r) =
    let inside : p + 1 + n ≤ length m = omega (arith, c, d) in
    let len : length l ≡ n = ap length f ∙ ap (λ x. length (slice_range m (p + 1) x)) c ∙ length-range m (p + 1) n inside in
    (record { some = omega (arith, len, a); short = omega (arith, len, s) }, all_labels r)
all_labels (pointer h a b c d e r) = all_labels r

pub is_name : (m : List ℕ) (p : ℕ) → stands_at m p ≡ true → IsName (name_from m p)
is_name m p h = let s = stood m p h in record { labels = all_labels s.1.reads; short = s.1.short }

-- ---- the label at a place of a name

at_index : (n : Name) (i : ℕ) (l : Label) (rest : Name) → i ≤ length n → drop i n ++ [] ∷ [] ≡ l ∷ rest → Some l ≡ slice_get (n ++ [] ∷ []) i
at_index [] zero l rest h e = let x : [] ≡ l = cc in ap Some (sym x)
at_index [] (suc i) l rest h e = absurd (omega arith)
at_index (k ∷ n) zero l rest h e = let x : k ≡ l = cc in ap Some (sym x)
at_index (k ∷ n) (suc i) l rest h e = at_index n i l rest (omega arith) e

pub label_there : (m : List ℕ) (start p next index : ℕ) (l : Label) → index ≤ length (name_from m start) → name_from m p ≡ drop index (name_from m start) → StepsTo m p l next → Some l ≡ slice_get (labels_from m start) index
label_there m start p next index l h e s = go s.labels
  where
    go : ((l ≡ []) × (name_from m p ≡ []) × (name_from m next ≡ [])) ⊎ ((0 < length l) × (name_from m p ≡ l ∷ name_from m next)) → Some l ≡ slice_get (labels_from m start) index
    go (inl x) = at_index (name_from m start) index l [] h (ap (λ n. n ++ [] ∷ []) (sym e ∙ x.1) ∙ ap (λ k. k ∷ []) (sym x.0))
    go (inr x) = at_index (name_from m start) index l (name_from m next ++ [] ∷ []) h (ap (λ n. n ++ [] ∷ []) (sym e ∙ x.1))

-- ---- whether pointers are followed

-- a walk from a place on that followed none yet
pub record Along (m : List ℕ) (start p : ℕ) : Type 0 where
  pub name : Name
  pub end : ℕ
  pub reads : Reads m p pointer_limit name end
  pub same : (start_name : Name) × (start_end : ℕ) × (r : Reads m start pointer_limit start_name start_end) × (pointers_of r ≡ pointers_of reads)

pub along_start : (m : List ℕ) (p : ℕ) → stands_at m p ≡ true → Along m p p
along_start m p h = let s = stood m p h in record { name = name_from m p; end = s.0; reads = s.1.reads; same = (name_from m p, s.0, s.1.reads, refl) }

pub along_inside : (m : List ℕ) (start p : ℕ) → Along m start p → p ≤ length m
along_inside m start p a = by_form (invert a.reads)
  where
    by_form : Inverted m p pointer_limit a.name a.end a.reads → p ≤ length m
    by_form (inl r) = omega (arith, r.0.inside)
    by_form (inr (inl r)) = omega (arith, r.place, r.inside)
    by_form (inr (inr r)) = omega (arith, r.inside)

pub along_root : (m : List ℕ) (start p : ℕ) (l rest : List ℕ) → Along m start p → split (drop p m) ≡ Ok (l, rest) → l ≡ [] → HasNoPointers m start
along_root m start p l rest a x z = by_form (invert a.reads)
  where
    by_form : Inverted m p pointer_limit a.name a.end a.reads → HasNoPointers m start
    by_form (inl r) = (a.same.0, a.same.1, a.same.2, a.same.3 ∙ r.1)
    by_form (inr (inl r)) = absurd (omega (arith, r.some, ap length (same_label (split (drop p m)) r.first l _ _ r.splits x), ap length z))
    by_form (inr (inr r)) = absurd (not_both (split (drop p m)) _ _ x r.splits)

pub along_pointer : (m : List ℕ) (start p : ℕ) (e : SplitLabelError) → Along m start p → split (drop p m) ≡ Err e → HasPointers m start
along_pointer m start p e a x = by_form (invert a.reads)
  where
    by_form : Inverted m p pointer_limit a.name a.end a.reads → HasPointers m start
    by_form (inl r) = absurd (not_both (split (drop p m)) _ _ r.0.splits x)
    by_form (inr (inl r)) = absurd (not_both (split (drop p m)) _ _ r.splits x)
    by_form (inr (inr r)) = (a.same.0, a.same.1, a.same.2, omega (arith, a.same.3, r.pointers))

-- one label further
pub record Further (m : List ℕ) (start p next : ℕ) : Type 0 where
  pub along : Along m start next
  pub behind : p < next
  pub inside : next < length m

pub along_label : (m : List ℕ) (start p : ℕ) (l rest : List ℕ) → Along m start p → split (drop p m) ≡ Ok (l, rest) → (l ≡ [] → ⊥) → Further m start p (length m - length rest)
along_label m start p l rest a x some = by_form (invert a.reads)
  where
    there : (q : ℕ) → q ≡ length m - length rest → Further m start p q → Further m start p (length m - length rest)
    there q e f = let P : ℕ → Type 0 = λ x. Further m start p x in subst P e f

    by_form : Inverted m p pointer_limit a.name a.end a.reads → Further m start p (length m - length rest)
    by_form (inl r) = absurd (some (sym (same_label (split (drop p m)) [] l _ _ r.0.splits x)))
    by_form (inr (inl r)) =
        let others : drop r.behind m ≡ rest = same_rest (split (drop p m)) r.first l _ _ r.splits x in
        there r.behind (omega (arith, ap length others, length-drop r.behind m, r.inside)) (record {
          along = record { name = r.rest; end = a.end; reads = r.onward; same = (a.same.0, a.same.1, a.same.2, a.same.3 ∙ r.pointers) };
          behind = omega (arith, r.place);
          inside = r.inside;
        })
    by_form (inr (inr r)) = absurd (not_both (split (drop p m)) _ _ x r.splits)

pub below_not : {a b : ℕ} → (a ≤ b → ⊥) → b < a
below_not h = omega (arith, h)
