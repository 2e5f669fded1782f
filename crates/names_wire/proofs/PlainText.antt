-- Labels that are printed as they are.
use Rattle.std.proofs.Common.{◌≡◌, ℕ, Bool, true, false, cond, not, ◌&&◌, List, [], ◌∷◌, ◌++◌, refl}
use Rattle.std.specs.List.{list_all}
use Rattle.std.proofs.lemmas.Bool.{and_parts, not-true}
use Rattle.definitions.specs.Text.{Plain, Quoted, Decimal, is_printable, is_quoted, spelling, text_of_label, text_of_octet}
use Rattle.names_wire.specs.Symbols.{is_plain}

plain_octet : (b : ℕ) → is_plain b ≡ true → text_of_octet b ≡ b ∷ []
plain_octet b h =
    let p = and_parts (not (is_quoted b)) (is_printable b) h in
    λ i. spelling (cond (not-true (is_quoted b) p.0 i) (Quoted b) (cond (p.1 i) (Plain b) (Decimal b)))

pub plain_label : (l : List ℕ) → list_all is_plain l ≡ true → text_of_label l ≡ l
plain_label [] h = refl
plain_label (b ∷ l) h = let p = and_parts (is_plain b) (list_all is_plain l) h in λ i. plain_octet b p.0 i ++ plain_label l p.1 i
