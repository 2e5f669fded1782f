-- The text of names with a dot behind each label.
use Rattle.std.proofs.Common.{◌≡◌, ◌<◌, [], ◌∷◌, ◌++◌, length, take, refl, sym, ap, ◌∙◌, arith}
use Rattle.definitions.specs.Name.{Name}
use Rattle.definitions.specs.Text.{dotted_text_of_name}
use Rattle.names_labels.specs.Dotted.{dotted}
use Rattle.names_labels.proofs.Texts.{dotted_relative}
use Rattle.std.proofs.lemmas.List.{take_at}

-- all labels before the root's
pub all_moved : (done labels n : Name) → done ++ labels ≡ n ++ [] ∷ [] → length done ≡ length n → done ≡ n
all_moved done labels n h e = sym (take_at done labels (length n) e) ∙ ap (take (length n)) h ∙ take_at n ([] ∷ []) (length n) refl

pub dotted_text : (n : Name) → 0 < length n → dotted_text_of_name n ≡ dotted n
dotted_text [] h = absurd (omega arith)
dotted_text (l ∷ n) h = dotted_relative l n
