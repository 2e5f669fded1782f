-- Symbols taken one by one.
use Rattle.std.proofs.Common.{◌≡◌, ◌⊎◌, inl, inr, ℕ, suc, ◌+◌, ◌<◌, ◌≤◌, Bool, true, false, cond, ◌&&◌, ◌||◌, not, List, [], ◌∷◌, ◌++◌, map, length, refl, sym, ap, ◌∙◌, append_assoc, arith, nat_le, nat_lt, length-append, Option, Some, None}
use Rattle.std.specs.Option.{option_map, option_and_then}
use Rattle.std.specs.List.{list_all, list_any}
use Rattle.std.proofs.lemmas.List.{append-nil, length-map}
use Rattle.std.proofs.lemmas.Bool.{and_parts, leb-true, leb-false, lt-leb, le-leb, lt-ltb}
use Rattle.names_wire.specs.Text.{Symbol, is_symbol, is_dot, octet, begins_binary, is_label_text, label_of_symbols, labels_of_pieces, pieces, onto_first, without_last_dot}
use Rattle.names_wire.specs.Name.{Name, Label}
use Rattle.names_labels.specs.Open.{binary_behind, piece_behind, some_before, open_labels, without_empty}

-- a symbol goes on behind an open label
abbrev pub fits : Label → Symbol → Bool
fits open_label s = nat_lt (length open_label) 63 && is_symbol s && not (binary_behind open_label (s ∷ []))

-- the labels behind an open one, symbol by symbol
abbrev pub taken : Label → List Symbol → Option Name
taken open_label [] = Some (open_label ∷ [])
taken open_label (s ∷ ss) = cond (is_dot s) (some_before open_label (taken [] ss)) (cond (fits open_label s) (taken (open_label ++ octet s ∷ []) ss) None)

and_false : (a : Bool) → (a && false) ≡ false
and_false true = refl
and_false false = refl

unnot : (a : Bool) → not a ≡ true → a ≡ false
unnot true h = cc
unnot false h = refl

-- there is a first piece
record First (ps : List (List Symbol)) : Type 0 where
  piece : List Symbol
  others : List (List Symbol)
  are : ps ≡ piece ∷ others

first : (ss : List Symbol) → First (pieces ss)
first [] = record { piece = []; others = []; are = refl }
first (s ∷ ss) = go (first ss) (is_dot s) refl
  where
    go : First (pieces ss) → (d : Bool) → is_dot s ≡ d → First (pieces (s ∷ ss))
    go f true e = record { piece = []; others = pieces ss; are = ap (λ d. cond d ([] ∷ pieces ss) (onto_first s (pieces ss))) e }
    go f false e =
        record { piece = s ∷ f.piece; others = f.others; are = ap (λ d. cond d ([] ∷ pieces ss) (onto_first s (pieces ss))) e ∙ ap (onto_first s) f.are }

not_behind : (open_label : Label) (s : Symbol) (p : List Symbol) → binary_behind open_label (s ∷ p) ≡ binary_behind open_label (s ∷ [])
not_behind [] s p = refl
not_behind (o ∷ os) s p = refl

none_within : (open_label : Label) (o : ℕ) (p : List Symbol) → binary_behind (open_label ++ o ∷ []) p ≡ false
none_within [] o p = refl
none_within (x ∷ xs) o p = refl

record Fitting (open_label : Label) (s : Symbol) : Type 0 where
  room : length open_label < 63
  valid : is_symbol s ≡ true
  plain : binary_behind open_label (s ∷ []) ≡ false

lt_true : (a b : ℕ) → nat_lt a b ≡ true → a < b
lt_true a b h = omega (arith, leb-true (suc a) b h)

pub fitting : (open_label : Label) (s : Symbol) → fits open_label s ≡ true → (length open_label < 63) × (is_symbol s ≡ true) × (binary_behind open_label (s ∷ []) ≡ false)
fitting open_label s h =
    let a = and_parts (nat_lt (length open_label) 63 && is_symbol s) (not (binary_behind open_label (s ∷ []))) h in
    let b = and_parts (nat_lt (length open_label) 63) (is_symbol s) a.0 in
    (lt_true (length open_label) 63 b.0, b.1, unnot (binary_behind open_label (s ∷ [])) a.1)

-- a piece behind a symbol that fits
piece_on : (open_label : Label) (s : Symbol) (p : List Symbol) → fits open_label s ≡ true → piece_behind open_label (s ∷ p) ≡ piece_behind (open_label ++ octet s ∷ []) p
piece_on open_label s p h =
    let f = fitting open_label s h in
    let n : length open_label + suc (length p) ≡ length (open_label ++ octet s ∷ []) + length p = omega (arith, length-append open_label (octet s ∷ [])) in
    let b : binary_behind open_label (s ∷ p) ≡ binary_behind (open_label ++ octet s ∷ []) p = not_behind open_label s p ∙ f.2 ∙ sym (none_within open_label (octet s) p) in
    λ i. cond ((nat_le (n i) 63 && (f.1 i && list_all is_symbol p)) && not (b i)) (Some (sym (append_assoc open_label (octet s ∷ []) (map octet p)) i)) None

-- why a symbol doesn't fit
abbrev Misfit : Label → Symbol → Type 0
Misfit open_label s = (63 ≤ length open_label) ⊎ ((is_symbol s ≡ false) ⊎ (binary_behind open_label (s ∷ []) ≡ true))

misfit : (open_label : Label) (s : Symbol) → fits open_label s ≡ false → Misfit open_label s
misfit open_label s h = go (nat_lt (length open_label) 63) (is_symbol s) (binary_behind open_label (s ∷ [])) refl refl refl h
  where
    go : (a b c : Bool) → nat_lt (length open_label) 63 ≡ a → is_symbol s ≡ b → binary_behind open_label (s ∷ []) ≡ c → (a && b && not c) ≡ false → Misfit open_label s
    go false b c x y z k = inl (omega (arith, leb-false (suc (length open_label)) 63 x))
    go true false c x y z k = inr (inl y)
    go true true true x y z k = inr (inr z)
    go true true false x y z k = cc

no_piece : (open_label : Label) (s : Symbol) (p : List Symbol) → fits open_label s ≡ false → piece_behind open_label (s ∷ p) ≡ None
no_piece open_label s p h = elim (misfit open_label s h) [
  | inl l ↦
      let t : nat_le (length open_label + suc (length p)) 63 ≡ false = lt-leb (length open_label + suc (length p)) 63 (omega (arith, l)) in
      λ i. cond ((t i && list_all is_symbol (s ∷ p)) && not (binary_behind open_label (s ∷ p))) (Some (open_label ++ map octet (s ∷ p))) None
  | inr r ↦ elim r [
    | inl v ↦
        (λ i. cond ((nat_le (length open_label + suc (length p)) 63 && (v i && list_all is_symbol p)) && not (binary_behind open_label (s ∷ p))) (Some (open_label ++ map octet (s ∷ p))) None)
        ∙ ap (λ b. cond (b && not (binary_behind open_label (s ∷ p))) (Some (open_label ++ map octet (s ∷ p))) None) (and_false (nat_le (length open_label + suc (length p)) 63))
    | inr v ↦
        (λ i. cond ((nat_le (length open_label + suc (length p)) 63 && list_all is_symbol (s ∷ p)) && not ((not_behind open_label s p ∙ v) i)) (Some (open_label ++ map octet (s ∷ p))) None)
        ∙ ap (λ b. cond b (Some (open_label ++ map octet (s ∷ p))) None) (and_false (nat_le (length open_label + suc (length p)) 63 && list_all is_symbol (s ∷ p)))
  ]
]

no_more : (open_label : Label) → length open_label ≤ 63 → piece_behind open_label [] ≡ Some open_label
no_more [] h = refl
no_more (o ∷ os) h =
    let t : nat_le (length (o ∷ os) + 0) 63 ≡ true = le-leb (length (o ∷ os) + 0) 63 (omega (arith, h)) in
    λ i. cond ((t i && true) && true) (Some (append-nil (o ∷ os) i)) None

abbrev after_piece : List (List Symbol) → Option Label → Option Name
after_piece [] o = option_map (λ l. l ∷ []) o
after_piece (q ∷ ps) o = elim o [ None ↦ None | Some l ↦ some_before l (open_labels [] (q ∷ ps)) ]

at_piece : (open_label : Label) (p : List Symbol) (ps : List (List Symbol)) (o : Option Label) → piece_behind open_label p ≡ o → open_labels open_label (p ∷ ps) ≡ after_piece ps o
at_piece open_label p [] o h = ap (after_piece []) h
at_piece open_label p (q ∷ ps) o h = ap (after_piece (q ∷ ps)) h

after_none : (ps : List (List Symbol)) → after_piece ps None ≡ None
after_none [] = refl
after_none (q ∷ ps) = refl

-- taken symbol by symbol they are what their pieces make
pub taken_pieces : (open_label : Label) (ss : List Symbol) → length open_label ≤ 63 → taken open_label ss ≡ open_labels open_label (pieces ss)
taken_pieces open_label [] h = sym (ap (after_piece []) (no_more open_label h))
taken_pieces open_label (s ∷ ss) h = go (first ss) (taken_pieces [] ss (omega arith)) (taken_pieces (open_label ++ octet s ∷ []) ss) (is_dot s) (fits open_label s) refl refl
  where
    go : First (pieces ss) → taken [] ss ≡ open_labels [] (pieces ss) → (length (open_label ++ octet s ∷ []) ≤ 63 → taken (open_label ++ octet s ∷ []) ss ≡ open_labels (open_label ++ octet s ∷ []) (pieces ss)) → (d t : Bool) → is_dot s ≡ d → fits open_label s ≡ t → taken open_label (s ∷ ss) ≡ open_labels open_label (pieces (s ∷ ss))
    go f begin more true t e k =
        ap (λ d. cond d (some_before open_label (taken [] ss)) (cond (fits open_label s) (taken (open_label ++ octet s ∷ []) ss) None)) e
        ∙ ap (some_before open_label) (begin ∙ ap (open_labels []) f.are)
        ∙ sym (at_piece open_label [] (f.piece ∷ f.others) (Some open_label) (no_more open_label h))
        ∙ sym (ap (λ ps. open_labels open_label ([] ∷ ps)) f.are)
        ∙ sym (ap (λ d. open_labels open_label (cond d ([] ∷ pieces ss) (onto_first s (pieces ss)))) e)
    go f begin more false true e k =
        (λ i. cond (e i) (some_before open_label (taken [] ss)) (cond (k i) (taken (open_label ++ octet s ∷ []) ss) None))
        ∙ more (omega (arith, (fitting open_label s k).0, length-append open_label (octet s ∷ [])))
        ∙ ap (open_labels (open_label ++ octet s ∷ [])) f.are
        ∙ at_piece (open_label ++ octet s ∷ []) f.piece f.others (piece_behind (open_label ++ octet s ∷ []) f.piece) refl
        ∙ sym (at_piece open_label (s ∷ f.piece) f.others (piece_behind (open_label ++ octet s ∷ []) f.piece) (piece_on open_label s f.piece k))
        ∙ sym (ap (λ ps. open_labels open_label (onto_first s ps)) f.are)
        ∙ sym (ap (λ d. open_labels open_label (cond d ([] ∷ pieces ss) (onto_first s (pieces ss)))) e)
    go f begin more false false e k =
        (λ i. cond (e i) (some_before open_label (taken [] ss)) (cond (k i) (taken (open_label ++ octet s ∷ []) ss) None))
        ∙ sym (at_piece open_label (s ∷ f.piece) f.others None (no_piece open_label s f.piece k) ∙ after_none f.others)
        ∙ sym (ap (λ ps. open_labels open_label (onto_first s ps)) f.are)
        ∙ sym (ap (λ d. open_labels open_label (cond d ([] ∷ pieces ss) (onto_first s (pieces ss)))) e)

-- ---- the labels of a whole text

-- symbols of a label that isn't ended
pub record IsPart (pre : List Symbol) : Type 0 where
  pub each : list_all is_symbol pre ≡ true
  pub undivided : list_any is_dot pre ≡ false
  pub first : begins_binary pre ≡ false
  pub short : length pre ≤ 63

all_end : (ss : List Symbol) (s : Symbol) → list_all is_symbol ss ≡ true → is_symbol s ≡ true → list_all is_symbol (ss ++ s ∷ []) ≡ true
all_end [] s h k = ap (λ b. b && true) k
all_end (t ∷ ss) s h k =
    let b = and_parts (is_symbol t) (list_all is_symbol ss) h in
    λ i. b.0 i && all_end ss s b.1 k i

neither : (a b : Bool) → (a || b) ≡ false → (a ≡ false) × (b ≡ false)
neither true b h = cc
neither false b h = (refl, h)

none_end : (ss : List Symbol) (s : Symbol) → list_any is_dot ss ≡ false → is_dot s ≡ false → list_any is_dot (ss ++ s ∷ []) ≡ false
none_end [] s h k = ap (λ b. b || false) k
none_end (t ∷ ss) s h k =
    let b = neither (is_dot t) (list_any is_dot ss) h in
    λ i. b.0 i || none_end ss s b.1 k i

pub map_end : (ss : List Symbol) (s : Symbol) → map octet (ss ++ s ∷ []) ≡ map octet ss ++ octet s ∷ []
map_end [] s = refl
map_end (t ∷ ss) s = ap (λ os. octet t ∷ os) (map_end ss s)

part_more : (pre : List Symbol) (s : Symbol) → IsPart pre → is_dot s ≡ false → fits (map octet pre) s ≡ true → IsPart (pre ++ s ∷ [])
part_more pre s p d h = record {
  each = all_end pre s p.each f.1;
  undivided = none_end pre s p.undivided d;
  first = begins pre p.first f.2;
  short = omega (arith, f.0, length-append pre (s ∷ []), length-map pre octet);
}
  where
    f : (length (map octet pre) < 63) × (is_symbol s ≡ true) × (binary_behind (map octet pre) (s ∷ []) ≡ false)
    f = fitting (map octet pre) s h

    begins : (ss : List Symbol) → begins_binary ss ≡ false → binary_behind (map octet ss) (s ∷ []) ≡ false → begins_binary (ss ++ s ∷ []) ≡ false
    begins [] x y = y
    begins (t ∷ ss) x y = x

-- symbols before the first piece
abbrev onto_all : List Symbol → List (List Symbol) → List (List Symbol)
onto_all pre [] = pre ∷ []
onto_all pre (p ∷ ps) = (pre ++ p) ∷ ps

onto_more : (pre : List Symbol) (s : Symbol) (ps : List (List Symbol)) → onto_all pre (onto_first s ps) ≡ onto_all (pre ++ s ∷ []) ps
onto_more pre s [] = refl
onto_more pre s (p ∷ ps) = ap (λ q. q ∷ ps) (sym (append_assoc pre (s ∷ []) p))

onto_none : (ss : List Symbol) → onto_all [] (pieces ss) ≡ pieces ss
onto_none ss = let f = first ss in ap (onto_all []) f.are ∙ sym f.are

part_label : (s : Symbol) (pre : List Symbol) → IsPart (s ∷ pre) → label_of_symbols (s ∷ pre) ≡ Some (map octet (s ∷ pre))
part_label s pre p =
    let b : nat_le (length (s ∷ pre)) 63 ≡ true = le-leb (length (s ∷ pre)) 63 p.short in
    let a : nat_lt 0 (length (s ∷ pre)) ≡ true = lt-ltb 0 (length (s ∷ pre)) (omega arith) in
    λ i. cond ((((a i && b i) && p.each i) && not (p.first i)) && not (p.undivided i)) (Some (map octet (s ∷ pre))) None

abbrev labels_then : List (List Symbol) → Option Label → Option Name
labels_then ps o = elim o [ None ↦ None | Some l ↦ option_map (λ ls. l ∷ ls) (labels_of_pieces ps) ]

-- no label goes on so
unlabelled : (x : List Symbol) → is_label_text x ≡ false → label_of_symbols x ≡ None
unlabelled x h = ap (λ b. cond (b && not (list_any is_dot x)) (Some (map octet x)) None) h

all_middle : (ss : List Symbol) (s : Symbol) (us : List Symbol) → is_symbol s ≡ false → list_all is_symbol ((ss ++ s ∷ []) ++ us) ≡ false
all_middle [] s us h = ap (λ b. b && list_all is_symbol us) h
all_middle (t ∷ ss) s us h = ap (λ b. is_symbol t && b) (all_middle ss s us h) ∙ and_false (is_symbol t)

no_label : (pre : List Symbol) (s : Symbol) (p : List Symbol) → fits (map octet pre) s ≡ false → label_of_symbols ((pre ++ s ∷ []) ++ p) ≡ None
no_label pre s p h = unlabelled ((pre ++ s ∷ []) ++ p) (go (misfit (map octet pre) s h))
  where
    x : List Symbol
    x = (pre ++ s ∷ []) ++ p

    begins : (ss : List Symbol) → binary_behind (map octet ss) (s ∷ []) ≡ true → begins_binary ((ss ++ s ∷ []) ++ p) ≡ true
    begins [] e = e
    begins (t ∷ ss) e = cc

    go : Misfit (map octet pre) s → is_label_text ((pre ++ s ∷ []) ++ p) ≡ false
    go (inl l) =
        let t : nat_le (length ((pre ++ s ∷ []) ++ p)) 63 ≡ false = lt-leb (length ((pre ++ s ∷ []) ++ p)) 63 (omega (arith, l, length-map pre octet, length-append (pre ++ s ∷ []) p, length-append pre (s ∷ []))) in
        ap (λ b. ((nat_lt 0 (length ((pre ++ s ∷ []) ++ p)) && b) && list_all is_symbol ((pre ++ s ∷ []) ++ p)) && not (begins_binary ((pre ++ s ∷ []) ++ p))) t
        ∙ ap (λ b. (b && list_all is_symbol ((pre ++ s ∷ []) ++ p)) && not (begins_binary ((pre ++ s ∷ []) ++ p))) (and_false (nat_lt 0 (length ((pre ++ s ∷ []) ++ p))))
    go (inr (inl v)) =
        ap (λ b. ((nat_lt 0 (length ((pre ++ s ∷ []) ++ p)) && nat_le (length ((pre ++ s ∷ []) ++ p)) 63) && b) && not (begins_binary ((pre ++ s ∷ []) ++ p))) (all_middle pre s p v)
        ∙ ap (λ b. b && not (begins_binary ((pre ++ s ∷ []) ++ p))) (and_false (nat_lt 0 (length ((pre ++ s ∷ []) ++ p)) && nat_le (length ((pre ++ s ∷ []) ++ p)) 63))
    go (inr (inr v)) =
        ap (λ b. ((nat_lt 0 (length ((pre ++ s ∷ []) ++ p)) && nat_le (length ((pre ++ s ∷ []) ++ p)) 63) && list_all is_symbol ((pre ++ s ∷ []) ++ p)) && not b) (begins pre v)
        ∙ and_false ((nat_lt 0 (length ((pre ++ s ∷ []) ++ p)) && nat_le (length ((pre ++ s ∷ []) ++ p)) 63) && list_all is_symbol ((pre ++ s ∷ []) ++ p))

no_labels : (pre : List Symbol) (s : Symbol) (ps : List (List Symbol)) → fits (map octet pre) s ≡ false → labels_of_pieces (onto_all (pre ++ s ∷ []) ps) ≡ None
no_labels pre s [] h = ap (labels_then []) (ap label_of_symbols (sym (append-nil (pre ++ s ∷ []))) ∙ no_label pre s [] h)
no_labels pre s (p ∷ ps) h = ap (labels_then ps) (no_label pre s p h)

-- a dot behind symbols of a label: the labels are that one and those behind
at_dot : (a : Symbol) (pre : List Symbol) (ps : List (List Symbol)) → IsPart (a ∷ pre) → labels_of_pieces (onto_all (a ∷ pre) ([] ∷ ps)) ≡ option_map (λ ls. map octet (a ∷ pre) ∷ ls) (labels_of_pieces ps)
at_dot a pre ps p = ap (labels_then ps) (ap label_of_symbols (append-nil (a ∷ pre)) ∙ part_label a pre p)

abbrev pub if_closed : Name → Option Name
if_closed [] = Some []
if_closed (l ∷ []) = elim l [ [] ↦ None | o ∷ os ↦ Some ((o ∷ os) ∷ []) ]
if_closed (l ∷ k ∷ ls) = option_map (λ ms. l ∷ ms) (if_closed (k ∷ ls))

closed_before : (o : ℕ) (os : Label) (r : Option Name) → option_map without_empty (option_map (λ ls. (o ∷ os) ∷ ls) r) ≡ option_map (λ ls. (o ∷ os) ∷ ls) (option_map without_empty r)
closed_before o os None = refl
closed_before o os (Some []) = refl
closed_before o os (Some (k ∷ ls)) = refl

whole_before : (o : ℕ) (os : Label) (r : Option Name) → option_and_then if_closed (option_map (λ ls. (o ∷ os) ∷ ls) r) ≡ option_map (λ ls. (o ∷ os) ∷ ls) (option_and_then if_closed r)
whole_before o os None = refl
whole_before o os (Some []) = refl
whole_before o os (Some (k ∷ ls)) = refl

no_part : IsPart []
no_part = record { each = refl; undivided = refl; first = refl; short = omega arith }

-- relative names
relative : (pre ss : List Symbol) → IsPart pre → labels_of_pieces (onto_all pre (pieces ss)) ≡ option_and_then if_closed (taken (map octet pre) ss)
relative [] [] p = refl
relative (a ∷ pre) [] p = ap (labels_then []) (ap label_of_symbols (append-nil (a ∷ pre)) ∙ part_label a pre p)
relative pre (s ∷ ss) p = go (relative [] ss no_part) (relative (pre ++ s ∷ []) ss) (is_dot s) (fits (map octet pre) s) refl refl
  where
    split : (d : Bool) → is_dot s ≡ d → labels_of_pieces (onto_all pre (pieces (s ∷ ss))) ≡ labels_of_pieces (onto_all pre (cond d ([] ∷ pieces ss) (onto_first s (pieces ss))))
    split d e = ap (λ b. labels_of_pieces (onto_all pre (cond b ([] ∷ pieces ss) (onto_first s (pieces ss))))) e

    took : (d t : Bool) → is_dot s ≡ d → fits (map octet pre) s ≡ t → taken (map octet pre) (s ∷ ss) ≡ cond d (some_before (map octet pre) (taken [] ss)) (cond t (taken (map octet pre ++ octet s ∷ []) ss) None)
    took d t e k = λ i. cond (e i) (some_before (map octet pre) (taken [] ss)) (cond (k i) (taken (map octet pre ++ octet s ∷ []) ss) None)

    dotted : labels_of_pieces (onto_all [] (pieces ss)) ≡ option_and_then if_closed (taken [] ss) → (qs : List Symbol) → IsPart qs → labels_of_pieces (onto_all qs ([] ∷ pieces ss)) ≡ option_and_then if_closed (some_before (map octet qs) (taken [] ss))
    dotted begin [] q = refl
    dotted begin (a ∷ qs) q =
        at_dot a qs (pieces ss) q
        ∙ ap (option_map (λ ls. map octet (a ∷ qs) ∷ ls)) (ap labels_of_pieces (sym (onto_none ss)) ∙ begin)
        ∙ sym (whole_before (octet a) (map octet qs) (taken [] ss))

    go : labels_of_pieces (onto_all [] (pieces ss)) ≡ option_and_then if_closed (taken [] ss) → (IsPart (pre ++ s ∷ []) → labels_of_pieces (onto_all (pre ++ s ∷ []) (pieces ss)) ≡ option_and_then if_closed (taken (map octet (pre ++ s ∷ [])) ss)) → (d t : Bool) → is_dot s ≡ d → fits (map octet pre) s ≡ t → labels_of_pieces (onto_all pre (pieces (s ∷ ss))) ≡ option_and_then if_closed (taken (map octet pre) (s ∷ ss))
    go begin more true t e k = split true e ∙ dotted begin pre p ∙ sym (ap (option_and_then if_closed) (took true t e k))
    go begin more false true e k =
        split false e ∙ ap labels_of_pieces (onto_more pre s (pieces ss))
        ∙ more (part_more pre s p e k)
        ∙ ap (λ os. option_and_then if_closed (taken os ss)) (map_end pre s)
        ∙ sym (ap (option_and_then if_closed) (took false true e k))
    go begin more false false e k =
        split false e ∙ ap labels_of_pieces (onto_more pre s (pieces ss)) ∙ no_labels pre s (pieces ss) k
        ∙ sym (ap (option_and_then if_closed) (took false false e k))

-- absolute names: an empty label at the end is that of a last dot
absolute : (pre ss : List Symbol) → IsPart pre → 0 < length pre + length ss → labels_of_pieces (onto_all pre (pieces (without_last_dot ss))) ≡ option_map without_empty (taken (map octet pre) ss)
absolute [] [] p h = absurd (omega arith)
absolute (a ∷ pre) [] p h = ap (labels_then []) (ap label_of_symbols (append-nil (a ∷ pre)) ∙ part_label a pre p)
absolute pre (s ∷ []) p h = go (absolute (pre ++ s ∷ []) []) (is_dot s) (fits (map octet pre) s) refl refl
  where
    took : (d t : Bool) → is_dot s ≡ d → fits (map octet pre) s ≡ t → taken (map octet pre) (s ∷ []) ≡ cond d (some_before (map octet pre) (taken [] [])) (cond t (taken (map octet pre ++ octet s ∷ []) []) None)
    took d t e k = λ i. cond (e i) (some_before (map octet pre) (taken [] [])) (cond (k i) (taken (map octet pre ++ octet s ∷ []) []) None)

    dotted : (qs : List Symbol) → IsPart qs → labels_of_pieces (onto_all qs ([] ∷ [])) ≡ option_map without_empty (some_before (map octet qs) (taken [] []))
    dotted [] q = refl
    dotted (a ∷ qs) q = ap (labels_then []) (ap label_of_symbols (append-nil (a ∷ qs)) ∙ part_label a qs q)

    without : (d : Bool) → is_dot s ≡ d → pieces (without_last_dot (s ∷ [])) ≡ cond d ([] ∷ []) (onto_first s ([] ∷ []))
    without true e = ap (λ b. pieces (cond b [] (s ∷ []))) e
    without false e = ap (λ b. pieces (cond b [] (s ∷ []))) e ∙ ap (λ b. cond b ([] ∷ [] ∷ []) (onto_first s ([] ∷ []))) e

    go : (IsPart (pre ++ s ∷ []) → 0 < length (pre ++ s ∷ []) + 0 → labels_of_pieces (onto_all (pre ++ s ∷ []) ([] ∷ [])) ≡ option_map without_empty (taken (map octet (pre ++ s ∷ [])) [])) → (d t : Bool) → is_dot s ≡ d → fits (map octet pre) s ≡ t → labels_of_pieces (onto_all pre (pieces (without_last_dot (s ∷ [])))) ≡ option_map without_empty (taken (map octet pre) (s ∷ []))
    go more true t e k = ap (λ ps. labels_of_pieces (onto_all pre ps)) (without true e) ∙ dotted pre p ∙ sym (ap (option_map without_empty) (took true t e k))
    go more false true e k =
        ap (λ ps. labels_of_pieces (onto_all pre ps)) (without false e) ∙ ap labels_of_pieces (onto_more pre s ([] ∷ []))
        ∙ more (part_more pre s p e k) (omega (arith, length-append pre (s ∷ [])))
        ∙ ap (λ os. option_map without_empty (taken os [])) (map_end pre s)
        ∙ sym (ap (option_map without_empty) (took false true e k))
    go more false false e k =
        ap (λ ps. labels_of_pieces (onto_all pre ps)) (without false e) ∙ ap labels_of_pieces (onto_more pre s ([] ∷ [])) ∙ no_labels pre s ([] ∷ []) k
        ∙ sym (ap (option_map without_empty) (took false false e k))
absolute pre (s ∷ t ∷ ss) p h = go (absolute [] (t ∷ ss) no_part (omega arith)) (absolute (pre ++ s ∷ []) (t ∷ ss)) (is_dot s) (fits (map octet pre) s) refl refl
  where
    split : (d : Bool) → is_dot s ≡ d → labels_of_pieces (onto_all pre (pieces (s ∷ without_last_dot (t ∷ ss)))) ≡ labels_of_pieces (onto_all pre (cond d ([] ∷ pieces (without_last_dot (t ∷ ss))) (onto_first s (pieces (without_last_dot (t ∷ ss))))))
    split d e = ap (λ b. labels_of_pieces (onto_all pre (cond b ([] ∷ pieces (without_last_dot (t ∷ ss))) (onto_first s (pieces (without_last_dot (t ∷ ss))))))) e

    took : (d u : Bool) → is_dot s ≡ d → fits (map octet pre) s ≡ u → taken (map octet pre) (s ∷ t ∷ ss) ≡ cond d (some_before (map octet pre) (taken [] (t ∷ ss))) (cond u (taken (map octet pre ++ octet s ∷ []) (t ∷ ss)) None)
    took d u e k = λ i. cond (e i) (some_before (map octet pre) (taken [] (t ∷ ss))) (cond (k i) (taken (map octet pre ++ octet s ∷ []) (t ∷ ss)) None)

    dotted : labels_of_pieces (onto_all [] (pieces (without_last_dot (t ∷ ss)))) ≡ option_map without_empty (taken [] (t ∷ ss)) → (qs : List Symbol) → IsPart qs → labels_of_pieces (onto_all qs ([] ∷ pieces (without_last_dot (t ∷ ss)))) ≡ option_map without_empty (some_before (map octet qs) (taken [] (t ∷ ss)))
    dotted begin [] q = refl
    dotted begin (a ∷ qs) q =
        at_dot a qs (pieces (without_last_dot (t ∷ ss))) q
        ∙ ap (option_map (λ ls. map octet (a ∷ qs) ∷ ls)) (ap labels_of_pieces (sym (onto_none (without_last_dot (t ∷ ss)))) ∙ begin)
        ∙ sym (closed_before (octet a) (map octet qs) (taken [] (t ∷ ss)))

    go : labels_of_pieces (onto_all [] (pieces (without_last_dot (t ∷ ss)))) ≡ option_map without_empty (taken [] (t ∷ ss)) → (IsPart (pre ++ s ∷ []) → 0 < length (pre ++ s ∷ []) + length (t ∷ ss) → labels_of_pieces (onto_all (pre ++ s ∷ []) (pieces (without_last_dot (t ∷ ss)))) ≡ option_map without_empty (taken (map octet (pre ++ s ∷ [])) (t ∷ ss))) → (d u : Bool) → is_dot s ≡ d → fits (map octet pre) s ≡ u → labels_of_pieces (onto_all pre (pieces (s ∷ without_last_dot (t ∷ ss)))) ≡ option_map without_empty (taken (map octet pre) (s ∷ t ∷ ss))
    go begin more true u e k = split true e ∙ dotted begin pre p ∙ sym (ap (option_map without_empty) (took true u e k))
    go begin more false true e k =
        split false e ∙ ap labels_of_pieces (onto_more pre s (pieces (without_last_dot (t ∷ ss))))
        ∙ more (part_more pre s p e k) (omega (arith, length-append pre (s ∷ [])))
        ∙ ap (λ os. option_map without_empty (taken os (t ∷ ss))) (map_end pre s)
        ∙ sym (ap (option_map without_empty) (took false true e k))
    go begin more false false e k =
        split false e ∙ ap labels_of_pieces (onto_more pre s (pieces (without_last_dot (t ∷ ss)))) ∙ no_labels pre s (pieces (without_last_dot (t ∷ ss))) k
        ∙ sym (ap (option_map without_empty) (took false false e k))

pub relative_labels : (ss : List Symbol) → labels_of_pieces (pieces ss) ≡ option_and_then if_closed (taken [] ss)
relative_labels ss = ap labels_of_pieces (sym (onto_none ss)) ∙ relative [] ss no_part

pub absolute_labels : (ss : List Symbol) → 0 < length ss → labels_of_pieces (pieces (without_last_dot ss)) ≡ option_map without_empty (taken [] ss)
absolute_labels ss h = ap labels_of_pieces (sym (onto_none (without_last_dot ss))) ∙ absolute [] ss no_part (omega (arith, h))
