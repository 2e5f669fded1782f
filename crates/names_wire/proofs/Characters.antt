-- The characters of a text that an iterator gives.
use Rattle.std.proofs.Common.{◌≡◌, inl, inr, ℕ, List, [], ◌∷◌, ◌++◌, length, sym, ap, ◌∙◌, arith, subst, Option, None}
use Rattle.std.specs.Iterator.{Yields, Drains}
use Rattle.std.proofs.lemmas.List.{append-nil}
use Rattle.std.proofs.lemmas.Str.{IsUtf8-past_char, chars_past_char, chars-nil}
use Rattle.std.specs.Str.{chars, IsUtf8}
use Rattle.std.specs.Char.{encode_utf8}
use Rattle.std.specs.Str.Iter.{chars_rest, chars_steps}
use Rattle.std.specs.declared.str.Chars.{Chars}
use Rattle.names_wire.specs.Spelled.{SpellsNothing}

pub characters : (s t : Chars) (text : List ℕ) → IsUtf8 (chars_rest s) → Yields chars_steps s text t → (chars (chars_rest s) ≡ text ++ chars (chars_rest t)) × IsUtf8 (chars_rest t)
characters s t [] u y = (ap (λ x. chars (chars_rest x)) y, subst (λ x. IsUtf8 (chars_rest x)) y u)
characters s t (c ∷ text) u y =
    let past : chars_rest s ≡ encode_utf8 c ++ chars_rest y.0 = y.1.0 in
    let more = characters y.0 t text (IsUtf8-past_char (chars_rest s) (chars_rest y.0) c u past) y.2 in
    (chars_past_char (chars_rest s) (chars_rest y.0) c u past ∙ ap (λ cs. c ∷ cs) more.0, more.1)

pub no_octets : (bs : List ℕ) → length bs ≡ 0 → chars bs ≡ []
no_octets [] h = chars-nil
no_octets (b ∷ bs) h = absurd (omega (arith, h))

pub all_characters : (s : Chars) (text : List ℕ) → IsUtf8 (chars_rest s) → Drains chars_steps s text → chars (chars_rest s) ≡ text
all_characters s text u d =
    (characters s d.1.0 text u d.1.1).0 ∙ ap (λ cs. text ++ cs) (no_octets (chars_rest d.1.0) d.1.2.0.0) ∙ append-nil text

pub nothing_read : {A : Type 0} (s : Chars) (read : List ℕ → Option A) → IsUtf8 (chars_rest s) → SpellsNothing chars_steps s read → read (chars (chars_rest s)) ≡ None
nothing_read s read u (inl p) = ap read (characters s p.1 p.0 u p.2).0 ∙ p.3 (chars (chars_rest p.1))
nothing_read s read u (inr p) = ap read (all_characters s p.0 u p.1) ∙ p.2

-- the same of a text whose characters these are
pub chars_are : (s : Chars) (bs text : List ℕ) → IsUtf8 bs → chars_rest s ≡ bs → Drains chars_steps s text → chars bs ≡ text
chars_are s bs text u e d = ap chars (sym e) ∙ all_characters s text (subst IsUtf8 (sym e) u) d

pub nothing_in_text : {A : Type 0} (s : Chars) (bs : List ℕ) (read : List ℕ → Option A) → IsUtf8 bs → chars_rest s ≡ bs → SpellsNothing chars_steps s read → read (chars bs) ≡ None
nothing_in_text s bs read u e n = ap (λ x. read (chars x)) (sym e) ∙ nothing_read s read (subst IsUtf8 (sym e) u) n
