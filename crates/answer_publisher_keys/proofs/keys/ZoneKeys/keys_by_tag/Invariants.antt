use Rattle.std.proofs.Common.{◌≡◌, map}
use Rattle.std.specs.Prelude.{filter}
use Rattle.std.specs.Ordering.{nat_cmp}
use Rattle.definitions.specs.Dnskey.{key_tag}
use Rattle.definitions.specs.Sorting.{put_all_by}
use Rattle.keyset.specs.KeyState.{Reference}
use Rattle.answer_publisher_keys.specs.Bindings.{BoundKey, is_published, dnskeys, keys_by_tag}
use Rattle.answer_publisher_keys.specs.BoundView.{by_text}
use Rattle.answer_publisher_keys.proofs.keys.ZoneKeys.keys_by_tag.Given as goal

-- those so far, and those of the rest put in, are all
abbrev pub invariant-loop-reference : goal.invariant-loop-reference
invariant-loop-reference l = put_all_by (λ a b. nat_cmp (key_tag a) (key_tag b)) l.keys.items (dnskeys (map (λ (e : Reference × BoundKey). e.1) (filter (λ e. is_published l.self.keys l.which e.0) (by_text l.reference-iterator)))) ≡ keys_by_tag l.self l.which
