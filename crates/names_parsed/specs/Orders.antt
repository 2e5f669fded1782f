-- Comparing names in messages: by their labels.
use Rattle.std.specs.Prelude.{◌≡◌, ℕ, Bool, List, Some, IsTrue}
use Rattle.std.specs.Ordering.{eq_by_cmp}
use Rattle.std.specs.Cmp.{IsEquivalence, IsTotalOrder, IsPartialOrder, on_equiv, on_total, partial_order_from_total, partial_order_from_own_ties}
use Rattle.std.specs.declared.cmp.Ordering.{Ordering}
use Rattle.definitions.specs.Name.{same, name_cmp}
use Rattle.names_labels.specs.Feed.{name_feed, name_feed-same}
use Rattle.names_labels.specs.Laws.{same_equivalence, name_cmp_total, name_cmp_ties}
use Rattle.names_parsed.specs.Parsed.{parsed_name}
use Rattle.names_parsed.specs.declared.parsed.ParsedName.{ParsedName}

abbrev pub parsed_same : ParsedName → ParsedName → Bool
parsed_same a b = same (parsed_name a) (parsed_name b)

abbrev pub parsed_cmp : ParsedName → ParsedName → Ordering
parsed_cmp a b = name_cmp (parsed_name a) (parsed_name b)

-- what a name in a message feeds a hasher
abbrev pub parsed_feed : ParsedName → List (List ℕ)
parsed_feed n = name_feed (parsed_name n)

pub parsed_feed-same : (a b : ParsedName) → IsTrue (parsed_same a b) → parsed_feed a ≡ parsed_feed b
parsed_feed-same a b h = name_feed-same (parsed_name a) (parsed_name b) h

pub parsed_equivalence : IsEquivalence parsed_same
parsed_equivalence = on_equiv parsed_name same_equivalence

pub parsed_total : IsTotalOrder parsed_cmp
parsed_total = on_total parsed_name name_cmp_total

pub parsed_ties : (a b : ParsedName) → parsed_same a b ≡ eq_by_cmp parsed_cmp a b
parsed_ties a b = name_cmp_ties (parsed_name a) (parsed_name b)

pub parsed_partial : IsPartialOrder parsed_same (λ a b. Some (parsed_cmp a b))
parsed_partial = partial_order_from_own_ties (partial_order_from_total parsed_total) parsed_ties
