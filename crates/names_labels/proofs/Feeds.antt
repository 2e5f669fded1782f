-- Feeding a hasher label by label.
use Rattle.std.proofs.Common.{◌≡◌, ℕ, List, ◌∷◌, sym, ap, ◌∙◌}
use Rattle.std.specs.List.{fold}
use Rattle.std.specs.Str.{str_to_ascii_lowercase}
use Rattle.std.proofs.lemmas.List.Sums.{fold-append}
use Rattle.names_wire.specs.Name.{Name, Label}
use Rattle.names_wire.specs.Label.{label_hash}
use Rattle.names_labels.specs.Feed.{labels_feed}

pub fed_more : {S : Type 0} (write : S → List ℕ → S) (fed s t : S) (ls rest : Name) (l : Label) → ls ≡ l ∷ rest → fed ≡ fold write s (labels_feed ls) → t ≡ fold write s (label_hash (str_to_ascii_lowercase l)) → fed ≡ fold write t (labels_feed rest)
fed_more write fed s t ls rest l h inv e =
    inv ∙ ap (λ m. fold write s (labels_feed m)) h
    ∙ fold-append write s (label_hash (str_to_ascii_lowercase l)) (labels_feed rest)
    ∙ ap (λ u. fold write u (labels_feed rest)) (sym e)
