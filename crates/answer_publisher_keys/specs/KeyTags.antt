-- What holds of the tags of a zone's keys.
use Rattle.std.specs.Prelude.{◌≡◌, ℕ, false, List, [], ◌∷◌, map, nat_eq, Option, Ok, Err}
use Rattle.std.specs.List.{IsDistinct}
use Rattle.definitions.specs.Name.{Name}
use Rattle.definitions.specs.Dnskey.{Dnskey, key_tag}
use Rattle.answer_publisher_keys.specs.declared.keys.Publication.{Publication}
use Rattle.answer_publisher_keys.specs.Bindings.{Call, Outcome, ZoneKeys, apply, dnskeys, no_keys, published}
use Rattle.answer_terms.specs.EqualTags.{has_equal_tags}

-- a refused call leaves the keys as they are
abbrev pub left : ZoneKeys → Outcome → ZoneKeys
left s (Ok r) = r.0
left s (Err e) = s

-- the keys behind calls, each at its moment
abbrev pub behind : (Dnskey → Option (List ℕ)) → ZoneKeys → List (ℕ × Call) → ZoneKeys
behind digest s [] = s
behind digest s (c ∷ cs) = behind digest (left s (apply digest c.1 c.0 s)) cs

-- whatever calls a zone's keys have behind them, the tags of those that are published differ
abbrev pub PublishedTagsDiffer : Type 0
PublishedTagsDiffer = (digest : Dnskey → Option (List ℕ)) (name : Name) (cs : List (ℕ × Call)) (p : Publication) → IsDistinct nat_eq (map key_tag (dnskeys (published (behind digest (no_keys name) cs) p)))

-- a judge that reads them finds no two of one tag
abbrev pub PublishedTagsPass : Type 0
PublishedTagsPass = (digest : Dnskey → Option (List ℕ)) (name : Name) (cs : List (ℕ × Call)) (p : Publication) → has_equal_tags (dnskeys (published (behind digest (no_keys name) cs) p)) ≡ false
