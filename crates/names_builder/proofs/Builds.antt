-- What a builder holds.
use Rattle.std.proofs.Common.{◌≡◌, ℕ, suc, ◌+◌, ◌-◌, ◌<◌, ◌≤◌, List, [], ◌∷◌, ◌++◌, length, take, drop, set, refl, sym, ap, subst, ◌∙◌, append_assoc, length-append, arith}
use Rattle.std.specs.Prelude.{Option, Some, None, MatchOption}
use Rattle.std.specs.List.{AllByRecursion}
use Rattle.std.proofs.lemmas.List.{append-nil, take_at, drop_at, set_at, set-append_left, length-set}
use Rattle.definitions.specs.Name.{Name, Label, IsLabel}
use Rattle.names_labels.specs.Flat.{spelled, labels_in, SpellsRelative, SpellsName, name_in}
use Rattle.names_builder.specs.Building.{Building, open_octets, octets_of_building, labels_with, all_labels, ended, closed, with_octets, with_labels, head_of, building, Holds}
use Rattle.names_labels.proofs.Runs.{labels_in-spelled, spelled-append, name_in-wire}
use Rattle.names_labels.proofs.Checks.{plain_push, spelled-push, length-spelled_sum}

-- what a buffer holds is what is read back from it
pub builds : (bs : List ℕ) (head : Option ℕ) (b : Building) → Holds bs head b → building bs head ≡ b
builds bs head b h = go b.open_label refl
  where
    go : (open_label : Label) → b.open_label ≡ open_label → building bs head ≡ b
    go [] e =
        let hd : head ≡ None = h.place ∙ ap (λ l. head_of l (length (spelled b.done))) e in
        let os : bs ≡ spelled b.done = h.octets ∙ ap (λ l. spelled b.done ++ open_octets l) e ∙ append-nil (spelled b.done) in
        let ls : labels_in bs ≡ b.done = ap labels_in os ∙ labels_in-spelled b.done in
        ap (building bs) hd ∙ (λ i. record { done = ls i; open_label = sym e i })
    go (o ∷ r) e =
        let hd : head ≡ Some (length (spelled b.done)) = h.place ∙ ap (λ l. head_of l (length (spelled b.done))) e in
        let os : bs ≡ spelled b.done ++ 0 ∷ o ∷ r = h.octets ∙ ap (λ l. spelled b.done ++ open_octets l) e in
        let t : take (length (spelled b.done)) bs ≡ spelled b.done = ap (take (length (spelled b.done))) os ∙ take_at (spelled b.done) (0 ∷ o ∷ r) (length (spelled b.done)) refl in
        let ls : labels_in (take (length (spelled b.done)) bs) ≡ b.done = ap labels_in t ∙ labels_in-spelled b.done in
        let d : drop (suc (length (spelled b.done))) bs ≡ o ∷ r =
        ap (drop (suc (length (spelled b.done)))) (os ∙ sym (append_assoc (spelled b.done) (0 ∷ []) (o ∷ r)))
        ∙ drop_at (spelled b.done ++ 0 ∷ []) (o ∷ r) (suc (length (spelled b.done))) (omega (arith, length-append (spelled b.done) (0 ∷ []))) in
        ap (building bs) hd ∙ (λ i. record { done = ls i; open_label = (d ∙ sym e) i })

-- a buffer that holds this keeps what is read back
pub holds_building : (bs : List ℕ) (head : Option ℕ) (b : Building) → Holds bs head b → Holds bs head (building bs head)
holds_building bs head b h = rw (builds bs head b h) h

-- where no label is open
pub none_open : (bs : List ℕ) (b : Building) → Holds bs None b → b.open_label ≡ []
none_open bs b h = go b.open_label refl
  where
    go : (l : Label) → b.open_label ≡ l → l ≡ []
    go [] e = refl
    go (o ∷ r) e = let x : None ≡ Some (length (spelled b.done)) = h.place ∙ ap (λ l. head_of l (length (spelled b.done))) e in cc

-- the place of an open label's length, and its octets
pub some_open : (bs : List ℕ) (head : ℕ) (b : Building) → Holds bs (Some head) b → (0 < length b.open_label) × (head ≡ length (spelled b.done)) × (length bs ≡ head + 1 + length b.open_label) × (bs ≡ spelled b.done ++ 0 ∷ b.open_label)
some_open bs head b h = go b.open_label refl
  where
    go : (l : Label) → b.open_label ≡ l → (0 < length b.open_label) × (head ≡ length (spelled b.done)) × (length bs ≡ head + 1 + length b.open_label) × (bs ≡ spelled b.done ++ 0 ∷ b.open_label)
    go [] e = let x : Some head ≡ None = h.place ∙ ap (λ l. head_of l (length (spelled b.done))) e in cc
    go (o ∷ r) e =
        let x : Some head ≡ Some (length (spelled b.done)) = h.place ∙ ap (λ l. head_of l (length (spelled b.done))) e in
        let y : head ≡ length (spelled b.done) = cc in
        let os : bs ≡ spelled b.done ++ 0 ∷ b.open_label = h.octets ∙ ap (λ l. spelled b.done ++ open_octets l) e ∙ ap (λ l. spelled b.done ++ 0 ∷ l) (sym e) in
        (omega (arith, ap length e), y, omega (arith, y, ap length os, length-append (spelled b.done) (0 ∷ b.open_label)), os)

-- octets that are added to an open label
pub adds_open : (bs : List ℕ) (head : ℕ) (b : Building) (os : List ℕ) → Holds bs (Some head) b → length b.open_label + length os ≤ 63 → length bs + length os ≤ 254 → Holds (bs ++ os) (Some head) (with_octets b os)
adds_open bs head b os h label name = go b.open_label refl
  where
    go : (l : Label) → b.open_label ≡ l → Holds (bs ++ os) (Some head) (with_octets b os)
    go [] e = let x : Some head ≡ None = h.place ∙ ap (λ l. head_of l (length (spelled b.done))) e in cc
    go (o ∷ r) e =
        let w : open_octets (b.open_label ++ os) ≡ 0 ∷ (b.open_label ++ os) = ap (λ l. open_octets (l ++ os)) e ∙ ap (λ l. 0 ∷ (l ++ os)) (sym e) in
        let x : bs ++ os ≡ spelled b.done ++ open_octets (b.open_label ++ os) =
        ap (λ s. s ++ os) (some_open bs head b h).3 ∙ append_assoc (spelled b.done) (0 ∷ b.open_label) os ∙ ap (λ s. spelled b.done ++ s) (sym w) in
        record {
          octets = x;
          place = h.place ∙ ap (λ l. head_of l (length (spelled b.done))) e ∙ ap (λ l. head_of (l ++ os) (length (spelled b.done))) (sym e);
          short = record { labels = h.short.labels; open_label = omega (arith, label, length-append b.open_label os); name = omega (arith, name, sym (ap length x), length-append bs os) };
        }

-- octets that open a label
pub opens : (bs : List ℕ) (b : Building) (os : List ℕ) → Holds bs None b → 0 < length os → length os ≤ 63 → length bs + 1 + length os ≤ 254 → Holds (bs ++ 0 ∷ os) (Some (length bs)) (with_octets b os)
opens bs b [] h some label name = absurd (omega arith)
opens bs b (o ∷ os) h some label name =
    let e : b.open_label ≡ [] = none_open bs b h in
    let x : bs ≡ spelled b.done = h.octets ∙ ap (λ l. spelled b.done ++ open_octets l) e ∙ append-nil (spelled b.done) in
    let y : bs ++ 0 ∷ o ∷ os ≡ spelled b.done ++ open_octets (b.open_label ++ o ∷ os) = ap (λ s. s ++ 0 ∷ o ∷ os) x ∙ ap (λ l. spelled b.done ++ open_octets (l ++ o ∷ os)) (sym e) in
    record {
      octets = y;
      place = ap (λ s. Some (length s)) x ∙ ap (λ l. head_of (l ++ o ∷ os) (length (spelled b.done))) (sym e);
      short = record {
        labels = h.short.labels;
        open_label = omega (arith, label, length-append b.open_label (o ∷ os), ap length e);
        name = omega (arith, name, ap length y, length-append bs (0 ∷ o ∷ os));
      };
    }

-- how long the octets get
pub longer_open : (b : Building) (os : List ℕ) → 0 < length b.open_label → length (octets_of_building (with_octets b os)) ≡ length (octets_of_building b) + length os
longer_open b os some = go b.open_label refl
  where
    go : (l : Label) → b.open_label ≡ l → length (octets_of_building (with_octets b os)) ≡ length (octets_of_building b) + length os
    go [] e = absurd (omega (arith, ap length e))
    go (o ∷ r) e =
        let w : open_octets (b.open_label ++ os) ≡ 0 ∷ (o ∷ r) ++ os = ap (λ l. open_octets (l ++ os)) e in
        let v : open_octets b.open_label ≡ 0 ∷ o ∷ r = ap open_octets e in
        omega (arith, length-append (spelled b.done) (open_octets (b.open_label ++ os)), length-append (spelled b.done) (open_octets b.open_label), ap length w, ap length v, length-append (o ∷ r) os)

pub longer_new : (b : Building) (os : List ℕ) → length b.open_label ≡ 0 → 0 < length os → length (octets_of_building (with_octets b os)) ≡ length (octets_of_building b) + 1 + length os
longer_new b [] none some = absurd (omega arith)
longer_new b (o ∷ os) none some = go b.open_label refl
  where
    go : (l : Label) → b.open_label ≡ l → length (octets_of_building (with_octets b (o ∷ os))) ≡ length (octets_of_building b) + 1 + length (o ∷ os)
    go (p ∷ r) e = absurd (omega (arith, ap length e))
    go [] e =
        let w : open_octets (b.open_label ++ o ∷ os) ≡ 0 ∷ o ∷ os = ap (λ l. open_octets (l ++ o ∷ os)) e in
        let v : open_octets b.open_label ≡ [] = ap open_octets e in
        omega (arith, length-append (spelled b.done) (open_octets (b.open_label ++ o ∷ os)), length-append (spelled b.done) (open_octets b.open_label), ap length w, ap length v)

-- no octets change nothing
pub adds_none : (b : Building) → with_octets b [] ≡ b
adds_none b = λ i. record { done = b.done; open_label = append-nil b.open_label i }

pub labels_with_open : (ls : Name) (l : Label) → 0 < length l → labels_with ls l ≡ ls ++ l ∷ []
labels_with_open ls [] h = absurd (omega arith)
labels_with_open ls (o ∷ os) h = refl

-- an open label that is ended
pub ends_open : (bs : List ℕ) (head : ℕ) (b : Building) → Holds bs (Some head) b → Holds (set bs head (length b.open_label)) None (ended b)
ends_open bs head b h =
    let s = some_open bs head b h in
    let a : all_labels b ≡ b.done ++ b.open_label ∷ [] = labels_with_open b.done b.open_label s.0 in
    let x : set bs head (length b.open_label) ≡ spelled (all_labels b) =
    (λ i. set (s.3 i) head (length b.open_label)) ∙ set_at (spelled b.done) 0 b.open_label (length b.open_label) head (sym s.1) ∙ sym (spelled-push b.done b.open_label) ∙ ap spelled (sym a) in
    record {
      octets = x ∙ sym (append-nil (spelled (all_labels b)));
      place = refl;
      short = record {
        labels = rw a (plain_push b.done b.open_label h.short.labels (record { some = s.0; short = h.short.open_label }));
        open_label = omega arith;
        name = omega (arith, h.short.name, ap length h.octets, ap length x, ap length (append-nil (spelled (all_labels b))), length-set bs head (length b.open_label));
      };
    }

pub ends_none : (bs : List ℕ) (b : Building) → Holds bs None b → ended b ≡ b
ends_none bs b h =
    let e : b.open_label ≡ [] = none_open bs b h in
    (λ i. record { done = labels_with b.done (e i); open_label = sym e i })

-- a buffer of labels, none open
pub holds_labels : (bs : List ℕ) (n : Name) → SpellsRelative bs n → length bs ≤ 254 → Holds bs None (record { done = n; open_label = [] })
holds_labels bs n s short = record {
  octets = sym s.octets ∙ sym (append-nil (spelled n));
  place = refl;
  short = record { labels = s.name.labels; open_label = omega arith; name = omega (arith, short, ap length s.octets, ap length (append-nil (spelled n))) };
}

-- the same, from what the code knows
pub opens_at : (bs new : List ℕ) (head : Option ℕ) (b now : Building) (os : List ℕ) (len : ℕ) → Holds bs head b → b ≡ now → length now.open_label ≡ 0 → len ≡ length (octets_of_building now) → 0 < length os → length os ≤ 63 → len + 1 + length os ≤ 254 → new ≡ bs ++ 0 ∷ os → Holds new (Some len) (with_octets now os)
opens_at bs new None b now os len h e none l some label name add =
    let n : Holds bs None now = subst (λ x. Holds bs None x) e h in
    let k : len ≡ length bs = l ∙ sym (ap length n.octets) in
    rw (add, k) (opens bs now os n some label (omega (arith, k, name)))
opens_at bs new (Some head) b now os len h e none l some label name add =
    let n : Holds bs (Some head) now = subst (λ x. Holds bs (Some head) x) e h in
    let o = some_open bs head now n in
    absurd (omega (arith, o.0, none))

pub ends_at : (bs new : List ℕ) (head : Option ℕ) (place : ℕ) (b now : Building) → Holds bs head b → b ≡ now → head ≡ Some place → new ≡ set bs place (length bs - place - 1) → Holds new None (ended now)
ends_at bs new head place b now h e p w =
    let n : Holds bs (Some place) now = subst (λ x. Holds bs (Some place) x) e (subst (λ x. Holds bs x b) p h) in
    let o = some_open bs place now n in
    let l : length bs - place - 1 ≡ length now.open_label = omega (arith, o.2) in
    rw (w, l) (ends_open bs place now n)

all_append : {X : Type 0} (P : X → Type 0) (xs ys : List X) → AllByRecursion P xs → AllByRecursion P ys → AllByRecursion P (xs ++ ys)
all_append P [] ys a b = b
all_append P (x ∷ xs) ys a b = (a.0, all_append P xs ys a.1 b)

-- labels behind finished ones
run_behind : (bs : List ℕ) (b : Building) (ls : Name) → Holds bs None b → AllByRecursion IsLabel ls → length bs + length (spelled ls) ≤ 254 → Holds (bs ++ spelled ls) None (with_labels b ls)
run_behind bs b ls h a short =
    let e : b.open_label ≡ [] = none_open bs b h in
    let x : bs ≡ spelled b.done = h.octets ∙ ap (λ l. spelled b.done ++ open_octets l) e ∙ append-nil (spelled b.done) in
    let d : all_labels b ≡ b.done = ap (labels_with b.done) e in
    let y : bs ++ spelled ls ≡ spelled (all_labels b ++ ls) ++ [] =
    ap (λ s. s ++ spelled ls) x ∙ sym (spelled-append b.done ls) ∙ ap (λ n. spelled (n ++ ls)) (sym d) ∙ sym (append-nil (spelled (all_labels b ++ ls))) in
    record {
      octets = y;
      place = refl;
      short = record {
        labels = rw d (all_append IsLabel b.done ls h.short.labels a);
        open_label = omega arith;
        name = omega (arith, short, ap length y, length-append bs (spelled ls));
      };
    }

-- the open label ended, and labels behind it
pub labels_at : (bs new : List ℕ) (head : Option ℕ) (b now : Building) (ls : Name) → Holds bs head b → b ≡ now → new ≡ closed (bs ++ spelled ls) head (length now.open_label) → AllByRecursion IsLabel ls → length bs + length (spelled ls) ≤ 254 → Holds new None (with_labels now ls)
labels_at bs new None b now ls h e w a short =
    rw w (run_behind bs now ls (subst (λ x. Holds bs None x) e h) a short)
labels_at bs new (Some head) b now ls h e w a short =
    let n : Holds bs (Some head) now = subst (λ x. Holds bs (Some head) x) e h in
    let o = some_open bs head now n in
    let c : new ≡ set bs head (length now.open_label) ++ spelled ls = w ∙ set-append_left bs (spelled ls) head (length now.open_label) (omega (arith, o.2)) in
    rw c (run_behind (set bs head (length now.open_label)) (ended now) ls (ends_open bs head now n) a (omega (arith, short, length-set bs head (length now.open_label))))

-- an open label stands within the octets
pub place_within : (bs more : List ℕ) (head : Option ℕ) (b : Building) → Holds bs head b → MatchOption head (Unit {0}) (λ place. place < length (bs ++ more))
place_within bs more None b h = tt
place_within bs more (Some head) b h = omega (arith, (some_open bs head b h).2, length-append bs more)

pub open_length : (n : Name) (l : Label) → length (spelled (labels_with n l)) ≡ length (spelled n) + length (open_octets l)
open_length n [] = omega arith
open_length n (o ∷ os) = omega (arith, ap length (spelled-push n (o ∷ os)), length-append (spelled n) (length (o ∷ os) ∷ o ∷ os))

-- how long the octets get
pub longer_labels : (b : Building) (ls : Name) → length (octets_of_building (with_labels b ls)) ≡ length (octets_of_building b) + length (spelled ls)
longer_labels b ls =
    omega (
      arith,
      ap length (append-nil (spelled (all_labels b ++ ls))),
      ap length (spelled-append (all_labels b) ls),
      length-append (spelled (all_labels b)) (spelled ls),
      open_length b.done b.open_label,
      length-append (spelled b.done) (open_octets b.open_label),
    )

-- the same, from what the code knows
pub behind_at : (bs new : List ℕ) (head : Option ℕ) (b now : Building) (ls : Name) (len : ℕ) → Holds bs head b → b ≡ now → new ≡ closed (bs ++ spelled ls) head (length now.open_label) → AllByRecursion IsLabel ls → len ≡ length (octets_of_building now) → len + length (spelled ls) ≤ 254 → Holds new None (with_labels now ls)
behind_at bs new head b now ls len h e w a l short =
    let n : Holds bs head now = subst (λ x. Holds bs head x) e h in
    labels_at bs new head b now ls h e w a (omega (arith, l, short, ap length n.octets))

pub label_spelled : (l : Label) → 0 < length l → spelled (labels_with [] l) ≡ length l ∷ l
label_spelled [] h = absurd (omega arith)
label_spelled (o ∷ os) h = append-nil (length (o ∷ os) ∷ o ∷ os)

pub one_label : (l : Label) → 0 < length l → length l ≤ 63 → AllByRecursion IsLabel (labels_with [] l)
one_label [] h k = absurd (omega arith)
one_label (o ∷ os) h k = (record { some = h; short = k }, tt)

-- what is finished is a name
pub finished : (bs : List ℕ) (b : Building) → Holds bs None b → SpellsRelative bs b.done
finished bs b h =
    let x : bs ≡ spelled b.done = h.octets ∙ ap (λ l. spelled b.done ++ open_octets l) (none_open bs b h) ∙ append-nil (spelled b.done) in
    record { octets = sym x; name = record { labels = h.short.labels; short = omega (arith, h.short.name, ap length h.octets, ap length x, length-spelled_sum b.done) } }

pub finished_at : (bs new : List ℕ) (head : Option ℕ) (b now : Building) → Holds bs head b → b ≡ now → new ≡ closed bs head (length now.open_label) → SpellsRelative new (all_labels now)
finished_at bs new head b now h e w =
    let n : Holds bs head now = subst (λ x. Holds bs head x) e h in
    let x : new ≡ closed (bs ++ []) head (length now.open_label) = w ∙ ap (λ s. closed s head (length now.open_label)) (sym (append-nil bs)) in
    let f = finished new (with_labels now []) (labels_at bs new head b now [] h e x tt (omega (arith, n.short.name, ap length n.octets))) in
    let y : all_labels now ++ [] ≡ all_labels now = append-nil (all_labels now) in
    subst (λ m. SpellsRelative new m) y f

pub read_finished : (bs : List ℕ) (n : Name) → SpellsRelative bs n → labels_in bs ≡ n
read_finished bs n s = ap labels_in (sym s.octets) ∙ labels_in-spelled n

pub empty_holds : (bs : List ℕ) → bs ≡ [] → Holds bs None (record { done = []; open_label = [] })
empty_holds bs e = record {
  octets = e;
  place = refl;
  short = record { labels = tt; open_label = omega arith; name = omega arith };
}

closed-push : (xs : List ℕ) (head : Option ℕ) (v o : ℕ) → MatchOption head (Unit {0}) (λ place. place < length xs) → closed (xs ++ o ∷ []) head v ≡ closed xs head v ++ o ∷ []
closed-push xs None v o h = refl
closed-push xs (Some place) v o h = set-append_left xs (o ∷ []) place v h

-- the root's octet behind a relative name
pub under_root : (bs new : List ℕ) (n : Name) → SpellsRelative bs n → new ≡ bs ++ 0 ∷ [] → SpellsName new n
under_root bs new n s e = record { octets = ap (λ xs. xs ++ 0 ∷ []) s.octets ∙ sym e; name = s.name }

-- the open label ended, and an absolute name behind it
pub origin_at : (bs new : List ℕ) (head : Option ℕ) (b now : Building) (ls : Name) (len : ℕ) → Holds bs head b → b ≡ now → new ≡ closed (bs ++ spelled (ls ++ [] ∷ [])) head (length now.open_label) → AllByRecursion IsLabel ls → len ≡ length (octets_of_building now) → len + length (spelled ls) ≤ 254 → SpellsName new (all_labels now ++ ls)
origin_at bs new head b now ls len h e w a l short =
    let v = length now.open_label in
    let run : bs ++ spelled (ls ++ [] ∷ []) ≡ (bs ++ spelled ls) ++ 0 ∷ [] = ap (λ s. bs ++ s) (spelled-append ls ([] ∷ [])) ∙ sym (append_assoc bs (spelled ls) (0 ∷ [])) in
    let c : new ≡ closed (bs ++ spelled ls) head v ++ 0 ∷ [] =
    w ∙ ap (λ s. closed s head v) run ∙ closed-push (bs ++ spelled ls) head v 0 (place_within bs (spelled ls) head b h) in
    under_root (closed (bs ++ spelled ls) head v) new (all_labels now ++ ls)
    (finished (closed (bs ++ spelled ls) head v) (with_labels now ls) (behind_at bs (closed (bs ++ spelled ls) head v) head b now ls len h e refl a l short)) c

pub read_name : (bs : List ℕ) (n : Name) → SpellsName bs n → name_in bs ≡ n
read_name bs n s = ap name_in (sym s.octets) ∙ name_in-wire n
