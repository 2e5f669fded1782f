-- The text of names with a dot behind each label.
use Rattle.std.proofs.Common.{◌≡◌, ℕ, ◌+◌, ◌*◌, ◌-◌, ◌<◌, ◌≤◌, Bool, true, false, cond, List, [], ◌∷◌, ◌++◌, length, take, refl, sym, ap, ◌∙◌, append_assoc, length-append, arith}
use Rattle.names_wire.specs.Name.{Name, Label}
use Rattle.names_wire.specs.Text.{Plain, Quoted, Decimal, is_quoted, is_printable, spelling, text_of_octet, text_of_label, text_of_relative, text_of_name}
use Rattle.std.proofs.lemmas.List.{append-nil, take_at, take_more}
use Rattle.std.proofs.lemmas.Grind.{flat_map-append}
use Rattle.std.specs.List.{slice_index}
use Rattle.std.specs.Prelude.{◌↔◌, IsTrue}
use Rattle.names_labels.specs.Flat.{spelled}
use Rattle.names_labels.proofs.Runs.{spelled-append}
use Rattle.names_labels.specs.Dotted.{dotted}

pub dotted_relative : (l : Label) (n : Name) → text_of_relative (l ∷ n) ++ 46 ∷ [] ≡ dotted (l ∷ n)
dotted_relative l [] = sym (append-nil (text_of_label l ++ 46 ∷ []))
dotted_relative l (k ∷ n) =
    append_assoc (text_of_label l) (46 ∷ text_of_relative (k ∷ n)) (46 ∷ [])
    ∙ ap (λ t. text_of_label l ++ 46 ∷ t) (dotted_relative k n)
    ∙ sym (append_assoc (text_of_label l) (46 ∷ []) (dotted (k ∷ n)))

pub dotted-push : (n : Name) (l : Label) → dotted (n ++ l ∷ []) ≡ dotted n ++ (text_of_label l ++ 46 ∷ [])
dotted-push [] l = append-nil (text_of_label l ++ 46 ∷ [])
dotted-push (k ∷ n) l = ap (λ t. (text_of_label k ++ 46 ∷ []) ++ t) (dotted-push n l) ∙ sym (append_assoc (text_of_label k ++ 46 ∷ []) (dotted n) (text_of_label l ++ 46 ∷ []))

-- ---- an octet is printed as at most four characters

octet_short : (b : ℕ) → length (text_of_octet b) ≤ 4
octet_short b = go (is_quoted b) (is_printable b)
  where
    go : (q p : Bool) → length (spelling (cond q (Quoted b) (cond p (Plain b) (Decimal b)))) ≤ 4
    go true p = omega arith
    go false true = omega arith
    go false false = omega arith

pub label_short : (l : Label) → length (text_of_label l) ≤ 4 * length l
label_short [] = omega arith
label_short (b ∷ l) = omega (arith, octet_short b, label_short l, length-append (text_of_octet b) (text_of_label l))

pub label_more : (l : Label) (i : ℕ) → i < length l → text_of_label (take (i + 1) l) ≡ text_of_label (take i l) ++ text_of_octet (slice_index l i)
label_more l i h =
    ap text_of_label (take_more l i 0 h)
    ∙ flat_map-append text_of_octet (take i l) (slice_index l i ∷ [])
    ∙ ap (λ t. text_of_label (take i l) ++ t) (append-nil (text_of_octet (slice_index l i)))

dotted_short : (n : Name) → length (dotted n) ≤ 4 * length (spelled n)
dotted_short [] = omega arith
dotted_short (l ∷ n) =
    omega (arith, label_short l, dotted_short n, length-append (text_of_label l ++ 46 ∷ []) (dotted n), length-append (text_of_label l) (46 ∷ []), length-append l (spelled n))

-- where labels were printed, there is room for the next one
pub room_for_next : (done rest : Name) (l : Label) → length (dotted done) + 4 * length l < 4 * length (spelled (done ++ l ∷ rest))
room_for_next done rest l =
    omega (arith, dotted_short done, ap length (spelled-append done (l ∷ rest)), length-append (spelled done) (spelled (l ∷ rest)), length-append l (spelled rest))

-- ---- without the last dot

pub dotted_some : (n : Name) → 0 < length n → 0 < length (dotted n)
dotted_some [] h = absurd (omega arith)
dotted_some (l ∷ n) h = omega (arith, length-append (text_of_label l ++ 46 ∷ []) (dotted n), length-append (text_of_label l) (46 ∷ []))

pub without_dot : (n : Name) → 0 < length n → take (length (dotted n) - 1) (dotted n) ≡ text_of_relative n
without_dot [] h = absurd (omega arith)
without_dot (l ∷ n) h =
    let e = dotted_relative l n in
    let len : length (text_of_relative (l ∷ n)) ≡ length (dotted (l ∷ n)) - 1 = omega (arith, ap length e, length-append (text_of_relative (l ∷ n)) (46 ∷ [])) in
    ap (take (length (dotted (l ∷ n)) - 1)) (sym e) ∙ take_at (text_of_relative (l ∷ n)) (46 ∷ []) (length (dotted (l ∷ n)) - 1) len

pub text_left : (before text : List ℕ) (labels n : Name) → before ≡ [] → text ≡ before ++ dotted labels → labels ≡ n → 0 < length n → take (length text - 1) text ≡ text_of_relative n
text_left before text labels n b t l h = let e : text ≡ dotted n = rw (b, l) at t in rw e (without_dot n h)

pub name_text : (n : Name) → 0 < length n → text_of_name n ≡ text_of_relative n
name_text [] h = absurd (omega arith)
name_text (l ∷ n) h = refl

pub some_label : (n : Name) (b : Bool) → b ≡ false → (IsTrue b ↔ (n ≡ [])) → 0 < length n
some_label [] b e h = let x : true ≡ false = sym (h.1 refl) ∙ e in cc
some_label (l ∷ n) b e h = omega arith
