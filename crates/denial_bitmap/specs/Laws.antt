-- What holds of every set of types that was built (RFC 4034, 4.1.2).
use Rattle.std.specs.Prelude.{◌≡◌, ℕ, ◌<◌, List, [], filter, nat_eq}
use Rattle.std.specs.List.{list_any}
use Rattle.definitions.specs.Bitmap.{below, bitmap}
use Rattle.denial_bitmap.specs.Texts.{types_text}
use Rattle.denial_bitmap.specs.Types.{types_in}

-- how many types there are: a word, since a numeral unfolds in every goal
unfoldable pub type_count : ℕ
type_count = 65536

-- a built bitmap gives the types that were added, each once, ascending
abbrev pub GivesTypesInOrder : Type 0
GivesTypesInOrder = (ts : List ℕ) → types_in (bitmap ts) ≡ filter (λ t. list_any (nat_eq t) ts) (below type_count)

abbrev pub NoTypesNoOctets : Type 0
NoTypesNoOctets = bitmap [] ≡ []

-- built bitmaps have one text only where they have the same types
abbrev pub TextsTellTypes : Type 0
TextsTellTypes =
    (ts us : List ℕ) → types_text (types_in (bitmap ts)) ≡ types_text (types_in (bitmap us))
    → (t : ℕ) → t < type_count → list_any (nat_eq t) ts ≡ list_any (nat_eq t) us
