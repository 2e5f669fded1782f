-- What is read behind labels, and the name of a whole text.
use Rattle.std.proofs.Common.{◌≡◌, ℕ, ◌+◌, ◌-◌, ◌*◌, ◌<◌, ◌≤◌, Bool, true, false, cond, ◌&&◌, List, [], ◌∷◌, ◌++◌, length, refl, sym, ap, ◌∙◌, arith, nat_eq, nat_le, length-append, subst, Option, Some, None}
use Rattle.std.specs.Option.{option_map, option_and_then}
use Rattle.std.proofs.lemmas.List.Sums.{sum_by-cons}
use Rattle.names_wire.specs.Name.{Name, Label, wire_len}
use Rattle.names_wire.specs.Text.{Symbol, Plain, Quoted, Decimal, is_dot, is_digit, is_printable, octet, octet_at, escape_at, symbol_at, symbols_behind, symbols_of, tail_len, pieces, labels_of_pieces, if_short, without_last_dot, is_lone_dot, name_of_symbols, name_of_text, relative_of_symbols, relative_of_text}
use Rattle.names_labels.specs.Open.{some_before, open_labels, without_empty, if_open_short, read_behind}
use Rattle.names_labels.proofs.Taken.{taken, fits, taken_pieces, absolute_labels, relative_labels, if_closed}

-- ---- labels behind an open one

pub some_taken : (open_label : Label) (ss : List Symbol) (ls : Name) → taken open_label ss ≡ Some ls → 0 < length ls
some_taken open_label [] [] h = cc
some_taken open_label [] (l ∷ ls) h = omega arith
some_taken open_label (s ∷ ss) ls h = go (some_taken (open_label ++ octet s ∷ []) ss ls) (is_dot s) (fits open_label s) h
  where
    before : (l : Label) (r : Option Name) → some_before l r ≡ Some ls → 0 < length ls
    before [] r k = cc
    before (o ∷ os) None k = cc
    before (o ∷ os) (Some ms) k = let e : (o ∷ os) ∷ ms ≡ ls = cc in subst (λ xs. 0 < length xs) e (omega arith)

    go : (taken (open_label ++ octet s ∷ []) ss ≡ Some ls → 0 < length ls) → (d t : Bool) → cond d (some_before open_label (taken [] ss)) (cond t (taken (open_label ++ octet s ∷ []) ss) None) ≡ Some ls → 0 < length ls
    go more true t k = before open_label (taken [] ss) k
    go more false true k = more k
    go more false false k = cc

wire_len_some : (n : Name) → 1 ≤ wire_len n
wire_len_some n = omega arith

pub wire_len-cons : (l : Label) (n : Name) → wire_len (l ∷ n) ≡ length l + 1 + wire_len n
wire_len-cons l n = omega (arith, sum_by-cons (λ k. length k + 1) l n)

front_len : (o : ℕ) (os : Label) (ms : Name) → length (o ∷ os) + 2 ≤ wire_len (without_empty ((o ∷ os) ∷ ms))
front_len o os [] = omega (arith, wire_len-cons (o ∷ os) [])
front_len o os (k ∷ ms) = omega (arith, wire_len-cons (o ∷ os) (without_empty (k ∷ ms)), wire_len_some (without_empty (k ∷ ms)))

-- the open label's octets are among those of the labels behind
pub open_within : (open_label : Label) (ss : List Symbol) (ls : Name) → 0 < length open_label → taken open_label ss ≡ Some ls → length open_label + 2 ≤ wire_len (without_empty ls)
open_within [] ss ls h k = absurd (omega arith)
open_within (o ∷ os) [] ls h k = let e : (o ∷ os) ∷ [] ≡ ls = cc in subst (λ xs. length (o ∷ os) + 2 ≤ wire_len (without_empty xs)) e (front_len o os [])
open_within (o ∷ os) (s ∷ ss) ls h k = go (open_within ((o ∷ os) ++ octet s ∷ []) ss ls) (is_dot s) (fits (o ∷ os) s) (taken [] ss) k
  where
    go : (0 < length ((o ∷ os) ++ octet s ∷ []) → taken ((o ∷ os) ++ octet s ∷ []) ss ≡ Some ls → length ((o ∷ os) ++ octet s ∷ []) + 2 ≤ wire_len (without_empty ls)) → (d t : Bool) (r : Option Name) → cond d (some_before (o ∷ os) r) (cond t (taken ((o ∷ os) ++ octet s ∷ []) ss) None) ≡ Some ls → length (o ∷ os) + 2 ≤ wire_len (without_empty ls)
    go more true t None e = cc
    go more true t (Some ms) e =
        let f : (o ∷ os) ∷ ms ≡ ls = cc in
        subst (λ xs. length (o ∷ os) + 2 ≤ wire_len (without_empty xs)) f (front_len o os ms)
    go more false true r e = let m = more (omega (arith, length-append (o ∷ os) (octet s ∷ []))) e in omega (arith, m, length-append (o ∷ os) (octet s ∷ []))
    go more false false r e = cc

pub without_empty-append : (done ls : Name) → 0 < length ls → without_empty (done ++ ls) ≡ done ++ without_empty ls
without_empty-append [] ls h = refl
without_empty-append (k ∷ []) [] h = absurd (omega arith)
without_empty-append (k ∷ []) (l ∷ ls) h = refl
without_empty-append (k ∷ j ∷ done) ls h = ap (λ xs. k ∷ xs) (without_empty-append (j ∷ done) ls h)

pub wire_len-append : (a b : Name) → wire_len (a ++ b) + 1 ≡ wire_len a + wire_len b
wire_len-append [] b = omega arith
wire_len-append (l ∷ a) b = omega (arith, wire_len-cons l (a ++ b), wire_len-cons l a, wire_len-append a b)

-- ---- the name of some symbols

if_short_without : (r : Option Name) → if_short (option_map without_empty r) ≡ option_map without_empty (if_open_short r)
if_short_without None = refl
if_short_without (Some ls) = go (nat_le (wire_len (without_empty ls)) 255)
  where
    go : (b : Bool) → cond b (Some (without_empty ls)) None ≡ option_map without_empty (cond b (Some ls) None)
    go true = refl
    go false = refl

same_option : (r : Option Name) → option_map (λ ls. [] ++ ls) r ≡ r
same_option None = refl
same_option (Some ls) = refl

-- behind nothing
pub read_first : (ss : List Symbol) → read_behind [] [] ss ≡ if_open_short (taken [] ss)
read_first ss = ap if_open_short (same_option (open_labels [] (pieces ss)) ∙ sym (taken_pieces [] ss (omega arith)))

pub name_read : (ss : List Symbol) → 0 < length ss → is_lone_dot ss ≡ false → name_of_symbols ss ≡ option_map without_empty (read_behind [] [] ss)
name_read ss h d =
    ap (λ b. cond b (Some []) (if_short (labels_of_pieces (pieces (without_last_dot ss))))) d
    ∙ ap if_short (absolute_labels ss h) ∙ if_short_without (taken [] ss) ∙ ap (option_map without_empty) (sym (read_first ss))

closed_same : (ls ms : Name) → if_closed ls ≡ Some ms → (ms ≡ ls) × (without_empty ls ≡ ls)
closed_same [] ms h = (cc, refl)
closed_same ([] ∷ []) ms h = cc
closed_same ((o ∷ os) ∷ []) ms h = (cc, refl)
closed_same (l ∷ k ∷ ls) ms h = go (if_closed (k ∷ ls)) (closed_same (k ∷ ls)) h
  where
    go : (r : Option Name) → ((xs : Name) → r ≡ Some xs → (xs ≡ k ∷ ls) × (without_empty (k ∷ ls) ≡ k ∷ ls)) → option_map (λ xs. l ∷ xs) r ≡ Some ms → (ms ≡ l ∷ k ∷ ls) × (without_empty (l ∷ k ∷ ls) ≡ l ∷ k ∷ ls)
    go None more f = cc
    go (Some xs) more f =
        let m = more xs refl in
        let e : l ∷ xs ≡ ms = cc in
        (sym e ∙ ap (λ ys. l ∷ ys) m.0, ap (λ ys. l ∷ ys) m.1)

if_short_closed : (r : Option Name) → if_short (option_and_then if_closed r) ≡ option_and_then if_closed (if_open_short r)
if_short_closed None = refl
if_short_closed (Some ls) = go (if_closed ls) (nat_le (wire_len (without_empty ls)) 255) refl refl
  where
    chosen : (b : Bool) (q : Option Name) → if_closed ls ≡ q → cond b q None ≡ option_and_then if_closed (cond b (Some ls) None)
    chosen true q e = sym e
    chosen false q e = refl

    none : (b : Bool) (o : Option Name) → o ≡ cond b o o
    none true o = refl
    none false o = refl

    go : (q : Option Name) (b : Bool) → if_closed ls ≡ q → nat_le (wire_len (without_empty ls)) 255 ≡ b → if_short (if_closed ls) ≡ option_and_then if_closed (if_open_short (Some ls))
    go None b e f = ap if_short e ∙ none b None ∙ chosen b None e ∙ sym (ap (λ t. option_and_then if_closed (cond t (Some ls) None)) f)
    go (Some ms) b e f =
        let c = closed_same ls ms e in
        let l : nat_le (wire_len ms) 255 ≡ b = ap (λ n. nat_le (wire_len n) 255) (c.0 ∙ sym c.1) ∙ f in
        ap if_short e ∙ ap (λ t. cond t (Some ms) None) l ∙ chosen b (Some ms) e ∙ sym (ap (λ t. option_and_then if_closed (cond t (Some ls) None)) f)

pub relative_read : (ss : List Symbol) → 0 < length ss → relative_of_symbols ss ≡ option_and_then if_closed (read_behind [] [] ss)
relative_read [] h = absurd (omega arith)
relative_read (s ∷ ss) h = ap if_short (relative_labels (s ∷ ss)) ∙ if_short_closed (taken [] (s ∷ ss)) ∙ ap (option_and_then if_closed) (sym (read_first (s ∷ ss)))

-- ---- the first character

dot_at : (c : ℕ) (text : List ℕ) (s : Symbol) → symbol_at c text ≡ Some s → nat_eq c 46 ≡ false → is_dot s ≡ false
dot_at c text (Quoted x) h n = refl
dot_at c text (Decimal x) h n = refl
dot_at c text (Plain x) h n = go (nat_eq c 92) (is_printable c) refl h
  where
    octets : (d e f x : ℕ) → octet_at d e f ≡ Some (Plain x) → ⊥
    octets d e f x k = pick (is_digit e && is_digit f && nat_le ((d - 48) * 100 + (e - 48) * 10 + (f - 48)) 255) k
      where
        pick : (b : Bool) → cond b (Some (Decimal ((d - 48) * 100 + (e - 48) * 10 + (f - 48)))) None ≡ Some (Plain x) → ⊥
        pick true k = cc
        pick false k = cc

    quoted : (a b : Bool) (d : ℕ) → cond a None (cond b (Some (Quoted d)) None) ≡ Some (Plain x) → ⊥
    quoted true b d k = cc
    quoted false true d k = cc
    quoted false false d k = cc

    longer : (a b : Bool) (d e f : ℕ) → cond a (octet_at d e f) (cond b (Some (Quoted d)) None) ≡ Some (Plain x) → ⊥
    longer true b d e f k = octets d e f x k
    longer false true d e f k = cc
    longer false false d e f k = cc

    escaped : (t : List ℕ) → escape_at t ≡ Some (Plain x) → ⊥
    escaped [] k = cc
    escaped (d ∷ []) k = quoted (is_digit d) (is_printable d) d k
    escaped (d ∷ e ∷ []) k = quoted (is_digit d) (is_printable d) d k
    escaped (d ∷ e ∷ f ∷ t) k = longer (is_digit d) (is_printable d) d e f k

    go : (a b : Bool) → nat_eq c 92 ≡ a → cond a (escape_at text) (cond b (Some (Plain c)) None) ≡ Some (Plain x) → nat_eq x 46 ≡ false
    go true b e k = absurd (escaped text k)
    go false true e k = let f : c ≡ x = cc in subst (λ m. nat_eq m 46 ≡ false) f n
    go false false e k = cc

-- a text that begins with no dot begins with a symbol that is none
record BeginsPlain (ss : List Symbol) : Type 0 where
  some : 0 < length ss
  several : is_lone_dot ss ≡ false

begins_plain : (c : ℕ) (text : List ℕ) (ss : List Symbol) → nat_eq c 46 ≡ false → symbols_of (c ∷ text) ≡ Some ss → BeginsPlain ss
begins_plain c text ss n h = go (symbol_at c text) refl h
  where
    lone : (s : Symbol) (us : List Symbol) → is_dot s ≡ false → is_lone_dot (s ∷ us) ≡ false
    lone s [] e = e
    lone s (u ∷ us) e = refl

    made : (s : Symbol) (o : Option (List Symbol)) → is_dot s ≡ false → option_map (λ us. s ∷ us) o ≡ Some ss → BeginsPlain ss
    made s None e k = cc
    made s (Some us) e k = let f : s ∷ us ≡ ss = cc in subst BeginsPlain f (record { some = omega arith; several = lone s us e })

    go : (o : Option Symbol) → symbol_at c text ≡ o → (elim o as (λ _. Option (List Symbol)) [ None ↦ None | Some s ↦ option_map (λ us. s ∷ us) (symbols_behind (tail_len s) text) ]) ≡ Some ss → BeginsPlain ss
    go None e k = cc
    go (Some s) e k = made s (symbols_behind (tail_len s) text) (dot_at c text s e n) k

-- what a text makes of labels and an open one behind them
abbrev read_then : Name → Label → Option (List Symbol) → Option Name
read_then done open_label o = elim o [ None ↦ None | Some ss ↦ read_behind done open_label ss ]

abbrev name_then : Option (List Symbol) → Option Name
name_then o = elim o [ None ↦ None | Some ss ↦ name_of_symbols ss ]

abbrev relative_then : Option (List Symbol) → Option Name
relative_then o = elim o [ None ↦ None | Some ss ↦ relative_of_symbols ss ]

-- the name of a text that begins with no dot
pub name_of_plain : (c : ℕ) (text : List ℕ) → nat_eq c 46 ≡ false → name_of_text (c ∷ text) ≡ option_map without_empty (read_then [] [] (symbols_of (c ∷ text)))
name_of_plain c text n = go (symbols_of (c ∷ text)) refl
  where
    go : (o : Option (List Symbol)) → symbols_of (c ∷ text) ≡ o → name_then (symbols_of (c ∷ text)) ≡ option_map without_empty (read_then [] [] (symbols_of (c ∷ text)))
    go None e = ap name_then e ∙ sym (ap (λ o. option_map without_empty (read_then [] [] o)) e)
    go (Some ss) e =
        let b = begins_plain c text ss n e in
        ap name_then e ∙ name_read ss b.some b.several ∙ sym (ap (λ o. option_map without_empty (read_then [] [] o)) e)

pub some_behind : (c : ℕ) (text : List ℕ) (us : List Symbol) → symbols_of (c ∷ text) ≡ Some us → 0 < length us
some_behind c text us h = go (symbol_at c text) h
  where
    made : (s : Symbol) (o : Option (List Symbol)) → option_map (λ vs. s ∷ vs) o ≡ Some us → 0 < length us
    made s None k = cc
    made s (Some vs) k = let f : s ∷ vs ≡ us = cc in subst (λ xs. 0 < length xs) f (omega arith)

    go : (o : Option Symbol) → (elim o as (λ _. Option (List Symbol)) [ None ↦ None | Some s ↦ option_map (λ vs. s ∷ vs) (symbols_behind (tail_len s) text) ]) ≡ Some us → 0 < length us
    go None k = cc
    go (Some s) k = made s (symbols_behind (tail_len s) text) k

pub no_name_behind_dot : (c : ℕ) (text : List ℕ) → name_of_text (46 ∷ c ∷ text) ≡ None
no_name_behind_dot c text = go (symbols_of (c ∷ text)) refl
  where
    more : (us : List Symbol) → 0 < length us → name_of_symbols (Plain 46 ∷ us) ≡ None
    more [] h = absurd (omega arith)
    more (s ∷ ss) h = refl

    go : (o : Option (List Symbol)) → symbols_of (c ∷ text) ≡ o → name_then (option_map (λ us. Plain 46 ∷ us) (symbols_of (c ∷ text))) ≡ None
    go None e = ap (λ o. name_then (option_map (λ us. Plain 46 ∷ us) o)) e
    go (Some us) e = ap (λ o. name_then (option_map (λ us. Plain 46 ∷ us) o)) e ∙ more us (some_behind c text us e)

-- the relative name of a text
pub relative_of_some : (c : ℕ) (text : List ℕ) → relative_of_text (c ∷ text) ≡ option_and_then if_closed (read_then [] [] (symbols_of (c ∷ text)))
relative_of_some c text = go (symbols_of (c ∷ text)) refl
  where
    go : (o : Option (List Symbol)) → symbols_of (c ∷ text) ≡ o → relative_then (symbols_of (c ∷ text)) ≡ option_and_then if_closed (read_then [] [] (symbols_of (c ∷ text)))
    go None e = ap relative_then e ∙ sym (ap (λ o. option_and_then if_closed (read_then [] [] o)) e)
    go (Some us) e = ap relative_then e ∙ relative_read us (some_behind c text us e) ∙ sym (ap (λ o. option_and_then if_closed (read_then [] [] o)) e)

-- something is read from some symbols
pub not_empty_read : (ss : List Symbol) → 0 < length ss → read_behind [] [] ss ≡ Some ([] ∷ []) → ⊥
not_empty_read [] h e = absurd (omega arith)
not_empty_read (s ∷ ss) h e = go (is_dot s) (fits [] s) (taken [] ss) refl (sym (read_first (s ∷ ss)) ∙ e)
  where
    long : (r : Option Name) → taken (octet s ∷ []) ss ≡ r → if_open_short r ≡ Some ([] ∷ []) → ⊥
    long None t k = cc
    long (Some ls) t k = pick (nat_le (wire_len (without_empty ls)) 255) k
      where
        pick : (b : Bool) → cond b (Some ls) None ≡ Some ([] ∷ []) → ⊥
        pick true k =
            let f : ls ≡ [] ∷ [] = cc in
            let w = open_within (octet s ∷ []) ss ls (omega arith) t in
            let v : 3 ≤ wire_len (without_empty ([] ∷ [])) = subst (λ xs. 3 ≤ wire_len (without_empty xs)) f w in
            absurd (omega (arith, v))
        pick false k = cc

    go : (d t : Bool) (r : Option Name) → taken [] ss ≡ r → if_open_short (cond d (some_before [] r) (cond t (taken (octet s ∷ []) ss) None)) ≡ Some ([] ∷ []) → ⊥
    go true t r x k = cc
    go false true r x k = long (taken (octet s ∷ []) ss) refl k
    go false false r x k = cc

-- a relative name ends with a label
pub closed_end : (done : Name) (l : Label) → (l ≡ [] → ⊥) → if_closed (done ++ l ∷ []) ≡ Some (done ++ l ∷ [])
closed_end [] [] h = absurd (h refl)
closed_end [] (o ∷ os) h = refl
closed_end (k ∷ []) [] h = absurd (h refl)
closed_end (k ∷ []) (o ∷ os) h = refl
closed_end (k ∷ j ∷ done) l h = ap (option_map (λ ms. k ∷ ms)) (closed_end (j ∷ done) l h)

pub empty_end : (done : Name) → if_closed (done ++ [] ∷ []) ≡ None
empty_end [] = refl
empty_end (k ∷ []) = refl
empty_end (k ∷ j ∷ done) = ap (option_map (λ ms. k ∷ ms)) (empty_end (j ∷ done))
