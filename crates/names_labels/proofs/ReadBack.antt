-- What is printed of a name is read as the same name.
use Rattle.std.proofs.Common.{◌≡◌, ℕ, ◌<◌, Bool, true, false, cond, ◌||◌, List, [], ◌∷◌, ◌++◌, map, length, refl, sym, ap, ◌∙◌, append_assoc, arith, Option, Some, None}
use Rattle.std.specs.Option.{option_map}
use Rattle.std.specs.List.{list_any, AllByRecursion}
use Rattle.std.proofs.lemmas.List.{append-nil}
use Rattle.std.proofs.lemmas.Bool.{le-leb}
use Rattle.names_wire.specs.Name.{Name, Label, IsLabel, IsName, wire_len}
use Rattle.names_wire.specs.Text.{Symbol, Plain, is_dot, symbol_of_octet, text_of_octet, text_of_label, text_of_relative, text_of_name, dotted_text_of_name, symbols_of, pieces, onto_first, labels_of_pieces, if_short, without_last_dot, is_lone_dot, name_of_symbols, name_of_text, relative_of_symbols, relative_of_text}
use Rattle.names_wire.proofs.Printed.{symbol_again, prints, no_dot, as_label}

-- each label is of octets
abbrev AreOctets : Name → Type 0
AreOctets n = AllByRecursion (AllByRecursion (λ b. b < 256)) n

-- the symbols that a label is printed as
abbrev printed : Label → List Symbol
printed l = map symbol_of_octet l

abbrev symbols_of_name : Name → List Symbol
symbols_of_name [] = []
symbols_of_name (l ∷ []) = printed l
symbols_of_name (l ∷ k ∷ n) = printed l ++ Plain 46 ∷ symbols_of_name (k ∷ n)

joined : (a b : List Symbol) (o : Option (List Symbol)) → option_map (λ us. a ++ us) (option_map (λ us. b ++ us) o) ≡ option_map (λ us. (a ++ b) ++ us) o
joined a b None = refl
joined a b (Some us) = ap Some (sym (append_assoc a b us))

nothing_before : (o : Option (List Symbol)) → option_map (λ us. [] ++ us) o ≡ o
nothing_before None = refl
nothing_before (Some us) = refl

one_before : (s : Symbol) (o : Option (List Symbol)) → option_map (λ us. s ∷ us) o ≡ option_map (λ us. (s ∷ []) ++ us) o
one_before s None = refl
one_before s (Some us) = refl

label_text : (l : Label) (rest : List ℕ) → AllByRecursion (λ b. b < 256) l → symbols_of (text_of_label l ++ rest) ≡ option_map (λ us. printed l ++ us) (symbols_of rest)
label_text [] rest h = sym (nothing_before (symbols_of rest))
label_text (b ∷ l) rest h =
    ap symbols_of (append_assoc (text_of_octet b) (text_of_label l) rest)
    ∙ symbol_again (symbol_of_octet b) (text_of_label l ++ rest) (prints b h.0).valid
    ∙ ap (option_map (λ us. symbol_of_octet b ∷ us)) (label_text l rest h.1)
    ∙ one_before (symbol_of_octet b) (option_map (λ us. printed l ++ us) (symbols_of rest))
    ∙ joined (symbol_of_octet b ∷ []) (printed l) (symbols_of rest)

dot_text : (rest : List ℕ) → symbols_of (46 ∷ rest) ≡ option_map (λ us. (Plain 46 ∷ []) ++ us) (symbols_of rest)
dot_text rest = symbol_again (Plain 46) rest refl ∙ one_before (Plain 46) (symbols_of rest)

name_text : (n : Name) (rest : List ℕ) → AreOctets n → symbols_of (text_of_relative n ++ rest) ≡ option_map (λ us. symbols_of_name n ++ us) (symbols_of rest)
name_text [] rest h = sym (nothing_before (symbols_of rest))
name_text (l ∷ []) rest h = label_text l rest h.0
name_text (l ∷ k ∷ n) rest h =
    ap symbols_of (append_assoc (text_of_label l) (46 ∷ text_of_relative (k ∷ n)) rest)
    ∙ label_text l (46 ∷ text_of_relative (k ∷ n) ++ rest) h.0
    ∙ ap (option_map (λ us. printed l ++ us)) (dot_text (text_of_relative (k ∷ n) ++ rest) ∙ ap (option_map (λ us. (Plain 46 ∷ []) ++ us)) (name_text (k ∷ n) rest h.1) ∙ joined (Plain 46 ∷ []) (symbols_of_name (k ∷ n)) (symbols_of rest))
    ∙ joined (printed l) (Plain 46 ∷ symbols_of_name (k ∷ n)) (symbols_of rest)

whole_text : (n : Name) → AreOctets n → symbols_of (text_of_relative n) ≡ Some (symbols_of_name n)
whole_text n h = ap symbols_of (sym (append-nil (text_of_relative n))) ∙ name_text n [] h ∙ ap Some (append-nil (symbols_of_name n))

neither : (a b : Bool) → (a || b) ≡ false → (a ≡ false) × (b ≡ false)
neither true b h = cc
neither false b h = (refl, h)

one_piece : (ss : List Symbol) → list_any is_dot ss ≡ false → pieces ss ≡ ss ∷ []
one_piece [] h = refl
one_piece (s ∷ ss) h =
    let n = neither (is_dot s) (list_any is_dot ss) h in
    ap (λ d. cond d ([] ∷ pieces ss) (onto_first s (pieces ss))) n.0 ∙ ap (onto_first s) (one_piece ss n.1)

piece_before : (ss rest : List Symbol) → list_any is_dot ss ≡ false → pieces (ss ++ Plain 46 ∷ rest) ≡ ss ∷ pieces rest
piece_before [] rest h = refl
piece_before (s ∷ ss) rest h =
    let n = neither (is_dot s) (list_any is_dot ss) h in
    ap (λ d. cond d ([] ∷ pieces (ss ++ Plain 46 ∷ rest)) (onto_first s (pieces (ss ++ Plain 46 ∷ rest)))) n.0 ∙ ap (onto_first s) (piece_before ss rest n.1)

abbrev labels_then : List (List Symbol) → Option Label → Option Name
labels_then ps o = elim o [ None ↦ None | Some l ↦ option_map (λ ls. l ∷ ls) (labels_of_pieces ps) ]

labels_again : (l : Label) (n : Name) → AllByRecursion IsLabel (l ∷ n) → AreOctets (l ∷ n) → labels_of_pieces (pieces (symbols_of_name (l ∷ n))) ≡ Some (l ∷ n)
labels_again l [] a h = ap labels_of_pieces (one_piece (printed l) (no_dot l h.0)) ∙ ap (labels_then []) (as_label l a.0 h.0)
labels_again l (k ∷ n) a h =
    ap labels_of_pieces (piece_before (printed l) (symbols_of_name (k ∷ n)) (no_dot l h.0))
    ∙ ap (labels_then (pieces (symbols_of_name (k ∷ n)))) (as_label l a.0 h.0)
    ∙ ap (option_map (λ ls. l ∷ ls)) (labels_again k n a.1 h.1)

some_symbols : (l : Label) (n : Name) → IsLabel l → 0 < length (symbols_of_name (l ∷ n))
some_symbols [] n h = absurd (omega (arith, h.some))
some_symbols (o ∷ os) [] h = omega arith
some_symbols (o ∷ os) (k ∷ n) h = omega arith

abbrev ends_with_dot : List Symbol → Bool
ends_with_dot [] = false
ends_with_dot (s ∷ []) = is_dot s
ends_with_dot (s ∷ t ∷ ss) = ends_with_dot (t ∷ ss)

-- the last symbol is no dot
record EndsPlain (ss : List Symbol) : Type 0 where
  kept : without_last_dot ss ≡ ss
  several : is_lone_dot ss ≡ false

ends_plain : (ss : List Symbol) → ends_with_dot ss ≡ false → EndsPlain ss
ends_plain [] h = record { kept = refl; several = refl }
ends_plain (s ∷ []) h = record { kept = ap (λ d. cond d [] (s ∷ [])) h; several = h }
ends_plain (s ∷ t ∷ ss) h = record { kept = ap (λ ts. s ∷ ts) (ends_plain (t ∷ ss) h).kept; several = refl }

no_dot_at_end : (ss : List Symbol) → list_any is_dot ss ≡ false → ends_with_dot ss ≡ false
no_dot_at_end [] h = refl
no_dot_at_end (s ∷ []) h = (neither (is_dot s) false h).0
no_dot_at_end (s ∷ t ∷ ss) h = no_dot_at_end (t ∷ ss) (neither (is_dot s) (list_any is_dot (t ∷ ss)) h).1

end_behind : (ss : List Symbol) (t : Symbol) (ts : List Symbol) → ends_with_dot (ss ++ t ∷ ts) ≡ ends_with_dot (t ∷ ts)
end_behind [] t ts = refl
end_behind (s ∷ []) t ts = refl
end_behind (s ∷ r ∷ ss) t ts = end_behind (r ∷ ss) t ts

end_later : (t : Symbol) (ts : List Symbol) → 0 < length ts → ends_with_dot (t ∷ ts) ≡ ends_with_dot ts
end_later t [] h = absurd (omega arith)
end_later t (u ∷ ts) h = refl

name_end : (l : Label) (n : Name) → AllByRecursion IsLabel (l ∷ n) → AreOctets (l ∷ n) → ends_with_dot (symbols_of_name (l ∷ n)) ≡ false
name_end l [] a h = no_dot_at_end (printed l) (no_dot l h.0)
name_end l (k ∷ n) a h =
    end_behind (printed l) (Plain 46) (symbols_of_name (k ∷ n)) ∙ end_later (Plain 46) (symbols_of_name (k ∷ n)) (some_symbols k n a.1.0) ∙ name_end k n a.1 h.1

is_short : (n : Name) → IsName n → if_short (Some n) ≡ Some n
is_short n h = ap (λ b. cond b (Some n) None) (le-leb (wire_len n) 255 h.short)

abbrev name_then : Option (List Symbol) → Option Name
name_then o = elim o [ None ↦ None | Some ss ↦ name_of_symbols ss ]

abbrev relative_then : Option (List Symbol) → Option Name
relative_then o = elim o [ None ↦ None | Some ss ↦ relative_of_symbols ss ]

read_symbols : (l : Label) (n : Name) → IsName (l ∷ n) → AreOctets (l ∷ n) → name_of_symbols (symbols_of_name (l ∷ n)) ≡ Some (l ∷ n)
read_symbols l n is h =
    let e = ends_plain (symbols_of_name (l ∷ n)) (name_end l n is.labels h) in
    (λ i. cond (e.several i) (Some []) (if_short (labels_of_pieces (pieces (e.kept i)))))
    ∙ ap if_short (labels_again l n is.labels h) ∙ is_short (l ∷ n) is

pub absolute_again : (n : Name) → IsName n → AreOctets n → name_of_text (text_of_name n) ≡ Some n
absolute_again [] is h = refl
absolute_again (l ∷ n) is h = ap name_then (whole_text (l ∷ n) h) ∙ read_symbols l n is h

without_dot : (ss : List Symbol) → without_last_dot (ss ++ Plain 46 ∷ []) ≡ ss
without_dot [] = refl
without_dot (s ∷ []) = refl
without_dot (s ∷ t ∷ ss) = ap (λ ts. s ∷ ts) (without_dot (t ∷ ss))

two_symbols : (ss : List Symbol) → 0 < length ss → is_lone_dot (ss ++ Plain 46 ∷ []) ≡ false
two_symbols [] h = absurd (omega arith)
two_symbols (s ∷ []) h = refl
two_symbols (s ∷ t ∷ ss) h = refl

pub dotted_again : (n : Name) → IsName n → AreOctets n → name_of_text (dotted_text_of_name n) ≡ Some n
dotted_again [] is h = refl
dotted_again (l ∷ n) is h =
    ap name_then (name_text (l ∷ n) (46 ∷ []) h)
    ∙ (λ i. cond (two_symbols (symbols_of_name (l ∷ n)) (some_symbols l n is.labels.0) i) (Some []) (if_short (labels_of_pieces (pieces (without_dot (symbols_of_name (l ∷ n)) i)))))
    ∙ ap if_short (labels_again l n is.labels h) ∙ is_short (l ∷ n) is

some_relative : (ss : List Symbol) → 0 < length ss → relative_of_symbols ss ≡ if_short (labels_of_pieces (pieces ss))
some_relative [] h = absurd (omega arith)
some_relative (s ∷ ss) h = refl

pub relative_again : (n : Name) → IsName n → AreOctets n → relative_of_text (text_of_relative n) ≡ Some n
relative_again [] is h = refl
relative_again (l ∷ n) is h =
    ap relative_then (whole_text (l ∷ n) h)
    ∙ some_relative (symbols_of_name (l ∷ n)) (some_symbols l n is.labels.0)
    ∙ ap if_short (labels_again l n is.labels h) ∙ is_short (l ∷ n) is
