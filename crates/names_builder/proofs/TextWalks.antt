-- Texts of names in one walk over their octets: the symbols there, and the labels that are written.
use Rattle.std.proofs.Common.{◌≡◌, ℕ, zero, suc, ◌+◌, ◌-◌, ◌*◌, ◌<◌, ◌≤◌, Bool, true, false, cond, not, ◌&&◌, List, [], ◌∷◌, ◌++◌, length, take, refl, sym, ap, subst, ◌∙◌, arith, append_assoc, length-append, nat_eq, nat_lt, nat_le, Option, Some, None}
use Rattle.std.specs.Prelude.{slice_set}
use Rattle.std.specs.List.{AllByRecursion}
use Rattle.std.specs.Option.{option_map}
use Rattle.std.specs.Str.{IsAscii}
use Rattle.std.proofs.lemmas.Bool.{and_parts, leb-true, le-leb, lt-leb, eqb-true}
use Rattle.std.proofs.lemmas.List.{set_at, take_at}
use Rattle.definitions.specs.Name.{Name, Label, IsLabel, wire, wire_len}
use Rattle.definitions.specs.Text.{Symbol, Plain, Quoted, Decimal, is_digit, is_printable, octet_at, escape_at, symbols_behind, symbols_of, tail_len}
use Rattle.names_labels.specs.Flat.{spelled}
use Rattle.names_labels.proofs.Runs.{spelled-append}
use Rattle.names_labels.proofs.Checks.{plain_push, spelled-push}
use Rattle.names_builder.specs.Building.{Building, IsShort, nothing, labels_with, all_labels, ended, with_octets, octets_of_building, open_octets}
use Rattle.names_builder.specs.FromText.{standing, text_behind}
use Rattle.names_builder.specs.TextWalk.{ReadsOctet, WritesLabels, SpellsText, SpellsRelativeText}
use Rattle.names_builder.proofs.Builds.{labels_with_open}
use Rattle.names_builder.proofs.FromTexts.{at_dot, at_octet, text_step, nothing_follows, standing_len}
use Rattle.names_builder.proofs.WholeTexts.{all_standing, absolute_text, relative_open}

-- ---- the symbol at the front of a text

pub ascii_before : (c : ℕ) (text : List ℕ) → c < 128 → IsAscii text → IsAscii (c ∷ text)
ascii_before c text h a zero = h
ascii_before c text h a (suc i) = a i

unequal : (a b : ℕ) → (a ≡ b → ⊥) → nat_eq a b ≡ false
unequal a b h = go (nat_eq a b) refl
  where
    go : (t : Bool) → nat_eq a b ≡ t → nat_eq a b ≡ false
    go false e = e
    go true e = absurd (h (eqb-true a b e))

printable : (c : ℕ) → 32 ≤ c → c ≤ 126 → is_printable c ≡ true
printable c low high = λ i. le-leb 32 c low i && le-leb c 126 high i

abbrev symbols_then : List ℕ → Option Symbol → Option (List Symbol)
symbols_then text o = elim o as (λ _. Option (List Symbol)) [ None ↦ None | Some s ↦ option_map (λ ss. s ∷ ss) (symbols_behind (tail_len s) text) ]

pub reads_plain : (c : ℕ) (text : List ℕ) (in_label : Bool) → (c ≡ 46 → ⊥) → (c ≡ 92 → ⊥) → 32 ≤ c → c ≤ 126 → ReadsOctet (c ∷ text) in_label c text
reads_plain c text in_label dot slash low high =
    let p = printable c low high in
    let n = unequal c 92 slash in
    record {
      symbol = Plain c;
      reads = λ i. symbols_then text (cond (n i) (escape_at text) (cond (p i) (Some (Plain c)) None));
      adds = record { plain = unequal c 46 dot; valid = λ i. p i && not (n i); begins = λ _. refl; value = refl };
      ascii = ascii_before c text (omega arith);
      shorter = omega arith;
    }

pub reads_quoted : (c : ℕ) (text : List ℕ) (in_label : Bool) → is_digit c ≡ false → 32 ≤ c → c ≤ 126 → (in_label ≡ false → c ≡ 91 → ⊥) → ReadsOctet (92 ∷ c ∷ text) in_label c text
reads_quoted c text in_label digit low high begins = record {
  symbol = Quoted c;
  reads = reads text;
  adds = record { plain = refl; valid = λ i. p i && not (digit i); begins = λ e. unequal c 91 (begins e); value = refl };
  ascii = λ a. ascii_before 92 (c ∷ text) (omega arith) (ascii_before c text (omega arith) a);
  shorter = omega arith;
}
  where
    p : is_printable c ≡ true
    p = printable c low high

    reads : (rest : List ℕ) → symbols_of (92 ∷ c ∷ rest) ≡ option_map (λ ss. Quoted c ∷ ss) (symbols_of rest)
    reads [] = λ i. symbols_then (c ∷ []) (cond (digit i) None (cond (p i) (Some (Quoted c)) None))
    reads (e ∷ []) = λ i. symbols_then (c ∷ e ∷ []) (cond (digit i) None (cond (p i) (Some (Quoted c)) None))
    reads (e ∷ f ∷ rest) = λ i. symbols_then (c ∷ e ∷ f ∷ rest) (cond (digit i) (octet_at c e f) (cond (p i) (Some (Quoted c)) None))

low_digit : (c : ℕ) → is_digit c ≡ true → c < 128
low_digit c h = omega (arith, leb-true c 57 (and_parts (nat_le 48 c) (nat_le c 57) h).1)

pub reads_decimal : (d e f v : ℕ) (text : List ℕ) (in_label : Bool) → is_digit d ≡ true → is_digit e ≡ true → is_digit f ≡ true → v ≡ (d - 48) * 100 + (e - 48) * 10 + (f - 48) → v ≤ 255 → ReadsOctet (92 ∷ d ∷ e ∷ f ∷ text) in_label v text
reads_decimal d e f v text in_label x y z is short =
    let k : ℕ = (d - 48) * 100 + (e - 48) * 10 + (f - 48) in
    let s : nat_le k 255 ≡ true = ap (λ n. nat_le n 255) (sym is) ∙ le-leb v 255 short in
    record {
      symbol = Decimal k;
      reads = λ i. symbols_then (d ∷ e ∷ f ∷ text) (cond (x i) (cond (y i && z i && s i) (Some (Decimal k)) None) (cond (is_printable d) (Some (Quoted d)) None));
      adds = record { plain = refl; valid = s; begins = λ _. refl; value = is };
      ascii = λ a. ascii_before 92 (d ∷ e ∷ f ∷ text) (omega arith) (ascii_before d (e ∷ f ∷ text) (low_digit d x) (ascii_before e (f ∷ text) (low_digit e y) (ascii_before f text (low_digit f z) a)));
      shorter = omega arith;
    }

-- ---- labels written one by one

-- The labels so far stand at the front, the last one behind an octet that will be its length, and the rest of the text goes
-- on behind them, if that one is not too long.
pub record Writing (text rest now : List ℕ) (head place : ℕ) : Type 0 where
  pub built : Building
  pub mark : ℕ
  pub room : List ℕ
  pub read : length built.open_label ≤ 63 → text_behind nothing text ≡ text_behind built rest
  pub all : AllByRecursion IsLabel built.done
  pub octets : now ≡ spelled built.done ++ mark ∷ (built.open_label ++ room)
  pub begins : head ≡ length (spelled built.done)
  pub there : place ≡ head + 1 + length built.open_label
  pub ascii : IsAscii rest → IsAscii text

pub writing_begins : (text old : List ℕ) → 0 < length old → Writing text text old 0 1
writing_begins text [] h = absurd (omega (arith, h))
writing_begins text (x ∷ old) h = record { built = nothing; mark = x; room = old; read = λ _. refl; all = tt; octets = refl; begins = refl; there = refl; ascii = λ a. a }

length_now : (text rest now : List ℕ) (head place : ℕ) (w : Writing text rest now head place) → length now ≡ place + length w.room
length_now text rest now head place w =
    omega (arith, ap length w.octets, length-append (spelled w.built.done) (w.mark ∷ (w.built.open_label ++ w.room)), length-append w.built.open_label w.room, w.begins, w.there)

-- an octet over the first one of the room
put_at : (text rest now : List ℕ) (head place v : ℕ) (w : Writing text rest now head place) (x : ℕ) (room : List ℕ) → now ≡ spelled w.built.done ++ w.mark ∷ (w.built.open_label ++ x ∷ room) → slice_set now place v ≡ spelled w.built.done ++ w.mark ∷ (w.built.open_label ++ v ∷ room)
put_at text rest now head place v w x room f =
    let front = spelled w.built.done ++ w.mark ∷ w.built.open_label in
    ap (λ xs. slice_set xs place v) (f ∙ sym (append_assoc (spelled w.built.done) (w.mark ∷ w.built.open_label) (x ∷ room)))
    ∙ set_at front x room v place (omega (arith, length-append (spelled w.built.done) (w.mark ∷ w.built.open_label), w.begins, w.there))
    ∙ append_assoc (spelled w.built.done) (w.mark ∷ w.built.open_label) (v ∷ room)

-- an octet of a label
pub goes_on : (text rest more now : List ℕ) (head place v : ℕ) (in_label : Bool) → Writing text rest now head place → place < length now → in_label ≡ nat_lt (head + 1) place → ReadsOctet rest in_label v more → Writing text more (slice_set now place v) head (place + 1)
goes_on text rest more now head place v in_label w h e r = go w.room w.octets (length_now text rest now head place w)
  where
    b : Building
    b = w.built

    opens : b.open_label ≡ [] → in_label ≡ false
    opens f = e ∙ lt-leb (suc (head + 1)) place (omega (arith, w.there, ap length f))

    go : (room : List ℕ) → now ≡ spelled b.done ++ w.mark ∷ (b.open_label ++ room) → length now ≡ place + length room → Writing text more (slice_set now place v) head (place + 1)
    go [] f k = absurd (omega (arith, h, k))
    go (x ∷ room) f k = record {
      built = with_octets b (v ∷ []);
      mark = w.mark;
      room = room;
      read = λ short.
          let less : length b.open_label < 63 = omega (arith, short, length-append b.open_label (v ∷ [])) in
          w.read (omega (arith, less)) ∙ text_step b (with_octets b (v ∷ [])) rest more r.symbol r.reads (at_octet b r.symbol in_label v r.adds opens less);
      all = w.all;
      octets = put_at text rest now head place v w x room f
          ∙ ap (λ xs. spelled b.done ++ w.mark ∷ xs) (sym (append_assoc b.open_label (v ∷ []) room));
      begins = w.begins;
      there = omega (arith, w.there, length-append b.open_label (v ∷ []));
      ascii = λ a. w.ascii (r.ascii a);
    }

-- what is written at the place changes nothing yet
pub puts : (text rest now : List ℕ) (head place v : ℕ) → Writing text rest now head place → place < length now → Writing text rest (slice_set now place v) head place
puts text rest now head place v w h = go w.room w.octets (length_now text rest now head place w)
  where
    go : (room : List ℕ) → now ≡ spelled w.built.done ++ w.mark ∷ (w.built.open_label ++ room) → length now ≡ place + length room → Writing text rest (slice_set now place v) head place
    go [] f k = absurd (omega (arith, h, k))
    go (x ∷ room) f k = record {
      built = w.built;
      mark = w.mark;
      room = v ∷ room;
      read = w.read;
      all = w.all;
      octets = put_at text rest now head place v w x room f;
      begins = w.begins;
      there = w.there;
      ascii = w.ascii;
    }

-- the length of the last label, written where it belongs
written : (text rest now : List ℕ) (head place len : ℕ) (w : Writing text rest now head place) → len ≡ length w.built.open_label → slice_set now head len ≡ spelled (standing w.built) ++ w.room
written text rest now head place len w e =
    (λ i. slice_set (w.octets i) (w.begins i) (e i))
    ∙ set_at (spelled w.built.done) w.mark (w.built.open_label ++ w.room) (length w.built.open_label) (length (spelled w.built.done)) refl
    ∙ sym (append_assoc (spelled w.built.done) (length w.built.open_label ∷ w.built.open_label) w.room)
    ∙ ap (λ xs. xs ++ w.room) (sym (spelled-push w.built.done w.built.open_label))

-- a dot, where the next length will stand
pub ends_label : (text behind now : List ℕ) (head place len : ℕ) → Writing text (46 ∷ behind) now head place → place < length now → len ≡ place - head - 1 → (len ≡ 0 → ⊥) → len ≤ 63 → Writing text behind (slice_set now head len) place (place + 1)
ends_label text behind now head place len w h e some short = go w.room refl
  where
    b : Building
    b = w.built

    count : len ≡ length b.open_label
    count = omega (arith, e, w.there)

    full : 0 < length b.open_label
    full = omega (arith, count, some)

    labelled : b.open_label ≡ [] → ⊥
    labelled f = omega (arith, full, ap length f)

    go : (room : List ℕ) → w.room ≡ room → Writing text behind (slice_set now head len) place (place + 1)
    go [] f = absurd (omega (arith, h, length_now text (46 ∷ behind) now head place w, ap length f))
    go (x ∷ room) f = record {
      built = record { done = standing b; open_label = [] };
      mark = x;
      room = room;
      read = λ _.
          w.read (omega (arith, count, short))
          ∙ text_step b (ended b) (46 ∷ behind) behind (Plain 46) refl (at_dot b (Plain 46) (omega (arith, count, short)) refl labelled)
          ∙ ap (λ d. text_behind (record { done = d; open_label = [] }) behind) (labels_with_open b.done b.open_label full);
      all = plain_push b.done b.open_label w.all (record { some = full; short = omega (arith, count, short) });
      octets = written text (46 ∷ behind) now head place len w count ∙ ap (λ r. spelled (standing b) ++ r) f;
      begins = omega (arith, ap length (spelled-push b.done b.open_label), length-append (spelled b.done) (length b.open_label ∷ b.open_label), w.begins, w.there);
      there = omega arith;
      ascii = λ a. w.ascii (ascii_before 46 behind (omega arith) a);
    }

-- the end of the text
pub writing_ends : (text rest now : List ℕ) (head place last : ℕ) → Writing text rest now head place → rest ≡ [] → length now ≤ 255 → last ≡ place - head - 1 → (place ≡ 1 → ⊥) → last ≤ 63 → (0 < last → place < length now) → WritesLabels text (slice_set now head last) place last
writing_ends text rest now head place last w none few e alone short root = record {
  built = b;
  read = w.read (omega (arith, count, short)) ∙ ap (text_behind b) none ∙ nothing_follows b fits;
  short = fits;
  some = some;
  octets = ap (take place) (written text rest now head place last w count) ∙ take_at (spelled (standing b)) w.room place (sym ends);
  counted = count;
  ascii = w.ascii (subst IsAscii (sym none) ascii_none);
}
  where
    b : Building
    b = w.built

    count : last ≡ length b.open_label
    count = omega (arith, e, w.there)

    ends : place ≡ length (spelled (standing b))
    ends = omega (arith, ap length (spelled-push b.done b.open_label), length-append (spelled b.done) (length b.open_label ∷ b.open_label), w.begins, w.there)

    -- the octets with the open label behind an octet, if it has any
    len : length (octets_of_building b) ≡ length (spelled b.done) + length (open_octets b.open_label)
    len = length-append (spelled b.done) (open_octets b.open_label)

    open_len : (l : Label) → length (open_octets l) ≤ length l + 1
    open_len [] = omega arith
    open_len (o ∷ os) = omega arith

    open_short : (l : Label) → (0 < length l → head + 1 + length l < 255) → head < 255 → length (spelled b.done) + length (open_octets l) ≤ 254
    open_short [] f g = omega (arith, g, w.begins)
    open_short (o ∷ os) f g = omega (arith, f (omega arith), w.begins)

    open_some : (l : Label) → (head + 1 + length l ≡ 1 → ⊥) → 0 < length (spelled b.done) + length (open_octets l)
    open_some [] f = omega (arith, f, w.begins)
    open_some (o ∷ os) f = omega arith

    ascii_none : IsAscii []
    ascii_none i = omega arith

    fits : IsShort b
    fits = record {
      labels = w.all;
      open_label = omega (arith, count, short);
      name = omega (arith, len, open_short b.open_label (λ h. omega (arith, root (omega (arith, count, h)), few, w.there)) (omega (arith, length_now text rest now head place w, few, w.there)));
    }

    some : 0 < length (octets_of_building b)
    some = omega (arith, len, open_some b.open_label (λ h. alone (omega (arith, h, w.there))))

-- ---- what the octets spell

wire_is : (b : Building) (octets made : List ℕ) → octets ≡ spelled (standing b) → (0 < length b.open_label → made ≡ octets ++ 0 ∷ []) → (length b.open_label ≡ 0 → made ≡ octets) → made ≡ wire (all_labels b)
wire_is b octets made e some none = go b.open_label e some none
  where
    go : (l : Label) → octets ≡ spelled (b.done ++ l ∷ []) → (0 < length l → made ≡ octets ++ 0 ∷ []) → (length l ≡ 0 → made ≡ octets) → made ≡ wire (labels_with b.done l)
    go [] e some none = none refl ∙ e ∙ spelled-append b.done ([] ∷ [])
    go (o ∷ os) e some none = some (omega arith) ∙ ap (λ x. x ++ 0 ∷ []) e

all_with : (labels : Name) (l : Label) → AllByRecursion IsLabel labels → length l ≤ 63 → AllByRecursion IsLabel (labels_with labels l)
all_with labels [] a h = a
all_with labels (o ∷ os) a h = plain_push labels (o ∷ os) a (record { some = omega arith; short = h })

wire_short : (b : Building) → IsShort b → wire_len (all_labels b) ≤ 255
wire_short b h = omega (arith, ap wire_len (all_standing b), standing_len b, h.name)

pub spells_text : (text octets made : List ℕ) (end count : ℕ) → WritesLabels text octets end count → (0 < count → made ≡ take end octets ++ 0 ∷ []) → (count ≡ 0 → made ≡ take end octets) → SpellsText text made
spells_text text octets made end count w some none =
    let b = w.built in
    let is : made ≡ wire (all_labels b) = wire_is b (take end octets) made w.octets (λ h. some (omega (arith, h, w.counted))) (λ h. none (w.counted ∙ h)) in
    record {
      name = all_labels b;
      read = absolute_text nothing b text refl w.read (λ h. omega (arith, w.some, h));
      spells = record { octets = sym is; name = record { labels = all_with b.done b.open_label w.short.labels w.short.open_label; short = wire_short b w.short } };
      ascii = w.ascii;
    }

pub spells_relative_text : (text octets : List ℕ) (end count : ℕ) → WritesLabels text octets end count → 0 < count → SpellsRelativeText text (take end octets)
spells_relative_text text octets end count w h =
    let b = w.built in
    let full : 0 < length b.open_label = omega (arith, h, w.counted) in
    record {
      name = all_labels b;
      read = relative_open nothing b text refl w.read (λ e. omega (arith, full, ap length e));
      spells = record {
        octets = ap spelled (labels_with_open b.done b.open_label full) ∙ sym w.octets;
        name = record { labels = all_with b.done b.open_label w.short.labels w.short.open_label; short = wire_short b w.short };
      };
      ascii = w.ascii;
    }
