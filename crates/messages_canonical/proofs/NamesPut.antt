-- A name that is put run by run of its labels.
use Rattle.std.proofs.Common.{◌≡◌, ℕ, suc, ◌+◌, ◌-◌, ◌*◌, ◌<◌, ◌≤◌, List, [], ◌∷◌, ◌++◌, length, take, drop, Some, None, flat_map, sym, ap, subst, ◌∙◌, append_assoc, arith}
use Rattle.std.specs.Prelude.{slice_get, slice_range}
use Rattle.std.proofs.lemmas.List.{drop_more}
use Rattle.std.proofs.lemmas.Option.{get_or_from_slice_get, slice_get_within}
use Rattle.definitions.specs.Limits.{pointer_limit}
use Rattle.definitions.specs.Name.{Name, wire, wire_len}
use Rattle.definitions.specs.Reading.{Reads, heads_of, label, pointer, root}
use Rattle.definitions.proofs.ReadingLaws.{length-range, reading_is_short, reads_exactly}
use Rattle.messages.proofs.MessageRecords.{one_less}
use Rattle.messages_canonical.specs.Walking.{PutsName}
use Rattle.messages_canonical.proofs.InPlace.{range_join}
use Rattle.messages.proofs.MessageParts.{owner_reads}

-- a name that reads at a place, with so many heads at most
abbrev pub ReadsBy : List ℕ → ℕ → ℕ → Name → ℕ → ℕ → Type 0
ReadsBy m p k n e heads = (r : Reads m p k n e) × (heads_of r ≤ heads)

-- what is put so far, the run that isn't yet, and the labels that are left
pub record Goes (m : List ℕ) (from place : ℕ) (old items : List ℕ) (n : Name) (heads : ℕ) : Type 0 where
  pub rest : Name
  pub pointers : ℕ
  pub end : ℕ
  pub reads : ReadsBy m place pointers rest end heads
  pub octets : items ++ (slice_range m from place ++ wire rest) ≡ old ++ wire n

-- of the name that may read at the first place
abbrev pub GoesOn : List ℕ → ℕ → ℕ → ℕ → List ℕ → List ℕ → ℕ → Type 0
GoesOn m start from place old items heads = (n : Name) (e : ℕ) → Reads m start pointer_limit n e → wire_len n ≤ 255 → Goes m from place old items n heads

-- where all of it is put
pub puts_name : (m : List ℕ) (start : ℕ) (old new : List ℕ) → ((n : Name) (e : ℕ) → Reads m start pointer_limit n e → wire_len n ≤ 255 → new ≡ old ++ wire n) → PutsName m start old new
puts_name m start old new put n e h =
    let r = (reads_exactly m start pointer_limit n e).0 (owner_reads pointer_limit m start (n, e) h) in
    put n e r.0 r.1

pub empty : (m : List ℕ) (p : ℕ) → slice_range m p p ≡ []
empty m p = let none : p - p ≡ 0 = omega arith in ap (λ n. take n (drop p m)) none

pub begins : (m : List ℕ) (start : ℕ) (old : List ℕ) → GoesOn m start start start old old 383
begins m start old n e r short = record {
  rest = n;
  pointers = pointer_limit;
  end = e;
  reads = (r, (reading_is_short m start n e r short).heads);
  octets = ap (λ (l : List ℕ). old ++ (l ++ wire n)) (empty m start);
}

-- octets from a place on begin with the one that is there
pub range_more : (m : List ℕ) (p e h : ℕ) → slice_get m p ≡ Some h → p < e → slice_range m p e ≡ h ∷ slice_range m (p + 1) e
range_more m p e h at before =
    let left : e - p ≡ suc (e - (p + 1)) = omega (arith, before) in
    let inside = slice_get_within m p h at in
    ap (λ n. take n (drop p m)) left ∙ ap (take (suc (e - (p + 1)))) (drop_more m p 0 inside) ∙ ap (λ x. x ∷ slice_range m (p + 1) e) (get_or_from_slice_get m p h 0 at)

-- a label with its length octet
pub label_range : (m : List ℕ) (p h : ℕ) → slice_get m p ≡ Some h → p + (h + 1) ≤ length m → slice_range m p (p + (h + 1)) ≡ length (slice_range m (p + 1) (p + (h + 1))) ∷ slice_range m (p + 1) (p + (h + 1))
label_range m p h at inside =
    let place : p + 1 + h ≡ p + (h + 1) = omega arith in
    let len : length (slice_range m (p + 1) (p + (h + 1))) ≡ h = ap (λ e. length (slice_range m (p + 1) e)) (sym place) ∙ length-range m (p + 1) h (omega (arith, inside)) in
    range_more m p (p + (h + 1)) h at (omega arith) ∙ ap (λ x. x ∷ slice_range m (p + 1) (p + (h + 1))) (sym len)

-- a label at a place, and what is behind it
pub record Labelled (m : List ℕ) (p h k : ℕ) (n : Name) (e heads : ℕ) : Type 0 where
  pub rest : Name
  pub reads : ReadsBy m (p + (h + 1)) k rest e heads
  pub octets : wire n ≡ slice_range m p (p + (h + 1)) ++ wire rest

label_there : {m : List ℕ} {p k e : ℕ} {n : Name} (h heads : ℕ) (r : Reads m p k n e) → heads_of r ≤ suc heads → slice_get m p ≡ Some h → (h ≡ 0 → ⊥) → h < 192 → Labelled m p h k n e heads
label_there h heads (root s b) few at some small = let is : h ≡ 0 = cc in absurd (some is)
label_there {m} {p} {k} {e} h heads (label {n = size} {e = q} {l = l} {ls = ls} s a c d f g r) few at some small =
    let is : h ≡ size = cc in
    let place : q ≡ p + (h + 1) = omega (arith, d, is) in
    let same : slice_range m (p + 1) (p + (h + 1)) ≡ l = ap (slice_range m (p + 1)) (sym place) ∙ sym g in
    let range : slice_range m p (p + (h + 1)) ≡ length l ∷ l = label_range m p h at (omega (arith, place, f)) ∙ ap (λ (x : List ℕ). length x ∷ x) same in
    record {
      rest = ls;
      reads = subst (λ x. ReadsBy m x k ls e heads) place (r, omega (arith, few));
      octets = append_assoc (length l ∷ l) (flat_map (λ k. length k ∷ k) ls) (0 ∷ []) ∙ ap (λ (x : List ℕ). x ++ wire ls) (sym range);
    }
label_there h heads (pointer {high = high} s a c d f b r) few at some small = let is : h ≡ high = cc in absurd (omega (arith, is, a, small))

pub behind_label : (m : List ℕ) (start from place h heads : ℕ) (old items : List ℕ) → from ≤ place → GoesOn m start from place old items (suc heads) → slice_get m place ≡ Some h → (h ≡ 0 → ⊥) → h < 192 → GoesOn m start from (place + (h + 1)) old items heads
behind_label m start from place h heads old items before goes at some small n e r short =
    let g = goes n e r short in
    let next = label_there h heads g.reads.0 g.reads.1 at some small in
    record {
      rest = next.rest;
      pointers = g.pointers;
      end = g.end;
      reads = next.reads;
      octets =
          ap (λ (l : List ℕ). items ++ l) (ap (λ (l : List ℕ). l ++ wire next.rest) (range_join m from place (place + (h + 1)) before (omega arith))
          ∙ append_assoc (slice_range m from place) (slice_range m place (place + (h + 1))) (wire next.rest)
          ∙ ap (λ (l : List ℕ). slice_range m from place ++ l) (sym next.octets))
          ∙ g.octets;
    }

-- a pointer at a place, and what it leads to
pub record Pointed (m : List ℕ) (h low : ℕ) (n : Name) (heads : ℕ) : Type 0 where
  pub pointers : ℕ
  pub end : ℕ
  pub reads : ReadsBy m ((h - 192) * 256 + low) pointers n end heads

pointer_there : {m : List ℕ} {p k e : ℕ} {n : Name} (h low heads : ℕ) (r : Reads m p k n e) → heads_of r ≤ suc heads → slice_get m p ≡ Some h → 192 ≤ h → slice_get m (p + 1) ≡ Some low → Pointed m h low n heads
pointer_there h low heads (root s b) few at large behind = let is : h ≡ 0 = cc in absurd (omega (arith, is, large))
pointer_there h low heads (label {n = size} s a c d f g r) few at large behind = let is : h ≡ size = cc in absurd (omega (arith, is, c, large))
pointer_there {m} {n = n} h low heads (pointer {k = k} {high = high} {low = last} {to = to} {far = far} s a c d f b r) few at large behind =
    let is : h ≡ high = cc in
    let same : low ≡ last = cc in
    let place : to ≡ (h - 192) * 256 + low = d ∙ (λ i. (sym is i - 192) * 256 + sym same i) in
    record { pointers = k; end = far; reads = subst (λ x. ReadsBy m x k n far heads) place (r, omega (arith, few)) }

pub beyond_pointer : (m : List ℕ) (start from place h low heads : ℕ) (old items new : List ℕ) → GoesOn m start from place old items (suc heads) → slice_get m place ≡ Some h → 192 ≤ h → slice_get m (place + 1) ≡ Some low → new ≡ items ++ slice_range m from place
    → GoesOn m start ((h - 192) * 256 + low) ((h - 192) * 256 + low) old new heads
beyond_pointer m start from place h low heads old items new goes at large behind put n e r short =
    let g = goes n e r short in
    let next = pointer_there h low heads g.reads.0 g.reads.1 at large behind in
    let to = (h - 192) * 256 + low in
    record {
      rest = g.rest;
      pointers = next.pointers;
      end = next.end;
      reads = next.reads;
      octets = ap (λ (l : List ℕ). new ++ (l ++ wire g.rest)) (empty m to) ∙ ap (λ (l : List ℕ). l ++ wire g.rest) put ∙ append_assoc items (slice_range m from place) (wire g.rest) ∙ g.octets;
    }

-- the root octet ends it
root_there : {m : List ℕ} {p k e : ℕ} {n : Name} (r : Reads m p k n e) → slice_get m p ≡ Some 0 → wire n ≡ slice_range m p (p + 1)
root_there {m} {p} (root s b) at = sym (range_more m p (p + 1) 0 s (omega arith) ∙ ap (λ (x : List ℕ). 0 ∷ x) (empty m (p + 1)))
root_there (label {n = size} s a c d f g r) at = let is : size ≡ 0 = cc in absurd (omega (arith, is, a))
root_there (pointer {high = high} s a c d f b r) at = let is : high ≡ 0 = cc in absurd (omega (arith, is, a))

pub ends_at_root : (m : List ℕ) (start from place heads : ℕ) (old items new : List ℕ) → from ≤ place → GoesOn m start from place old items heads → slice_get m place ≡ Some 0 → new ≡ items ++ slice_range m from (place + 1) → PutsName m start old new
ends_at_root m start from place heads old items new before goes at put = puts_name m start old new (λ n e r short.
    let g = goes n e r short in
    put ∙ ap (λ (l : List ℕ). items ++ l) (range_join m from place (place + 1) before (omega arith) ∙ ap (λ (l : List ℕ). slice_range m from place ++ l) (sym (root_there g.reads.0 at))) ∙ g.octets)

-- no name is left unread
no_octet : {m : List ℕ} {p k e : ℕ} {n : Name} → Reads m p k n e → slice_get m p ≡ None → ⊥
no_octet (root s b) at = cc
no_octet (label s a c d f g r) at = cc
no_octet (pointer s a c d f b r) at = cc

pub reads_no_further : (m : List ℕ) (start from place heads : ℕ) (old items new : List ℕ) → GoesOn m start from place old items heads → slice_get m place ≡ None → PutsName m start old new
reads_no_further m start from place heads old items new goes at = puts_name m start old new (λ n e r short. absurd (no_octet (goes n e r short).reads.0 at))

half : {m : List ℕ} {p k e : ℕ} {n : Name} (h : ℕ) → Reads m p k n e → slice_get m p ≡ Some h → 192 ≤ h → slice_get m (p + 1) ≡ None → ⊥
half h (root s b) at large behind = let is : h ≡ 0 = cc in omega (arith, is, large)
half h (label {n = size} s a c d f g r) at large behind = let is : h ≡ size = cc in omega (arith, is, c, large)
half h (pointer s a c d f b r) at large behind = cc

pub half_a_pointer : (m : List ℕ) (start from place h heads : ℕ) (old items new : List ℕ) → GoesOn m start from place old items heads → slice_get m place ≡ Some h → 192 ≤ h → slice_get m (place + 1) ≡ None → PutsName m start old new
half_a_pointer m start from place h heads old items new goes at large behind = puts_name m start old new (λ n e r short. absurd (half h (goes n e r short).reads.0 at large behind))

some_head : {m : List ℕ} {p k e : ℕ} {n : Name} (r : Reads m p k n e) → 1 ≤ heads_of r
some_head (root s b) = omega arith
some_head (label s a c d f g r) = omega arith
some_head (pointer s a c d f b r) = omega arith

pub all_heads : (m : List ℕ) (start from place : ℕ) (old items new : List ℕ) → GoesOn m start from place old items 0 → PutsName m start old new
all_heads m start from place old items new goes = puts_name m start old new (λ n e r short.
    let g = goes n e r short in
    absurd (omega (arith, some_head g.reads.0, g.reads.1)))

-- ---- steps of the loop

pub moved : (m : List ℕ) (start heads : ℕ) (old xs ys : List ℕ) (f g p q : ℕ) → g ≡ f → q ≡ p → ys ≡ xs → (f ≤ p) × GoesOn m start f p old xs heads → (g ≤ q) × GoesOn m start g q old ys heads
moved m start heads old xs ys f g p q a b d h =
    let one = subst (λ (x : ℕ). (x ≤ p) × GoesOn m start x p old xs heads) (sym a) h in
    let two = subst (λ (x : ℕ). (g ≤ x) × GoesOn m start g x old xs heads) (sym b) one in
    subst (λ (l : List ℕ). (g ≤ q) × GoesOn m start g q old l heads) (sym d) two

pub one_head_less : (m : List ℕ) (start from place counter : ℕ) (old items : List ℕ) → counter < 383 → GoesOn m start from place old items (383 - counter) → GoesOn m start from place old items (suc (383 - (counter + 1)))
one_head_less m start from place counter old items h goes = subst (GoesOn m start from place old items) (one_less 383 counter h) goes
