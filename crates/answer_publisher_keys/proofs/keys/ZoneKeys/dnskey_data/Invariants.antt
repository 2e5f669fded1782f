use Rattle.std.proofs.Common.{◌≡◌, map}
use Rattle.std.specs.Prelude.{filter}
use Rattle.std.specs.Ordering.{nat_cmp}
use Rattle.std.specs.Cmp.Lexicographic.{slice_cmp}
use Rattle.definitions.specs.Dnskey.{dnskey_data}
use Rattle.definitions.specs.Sorting.{put_all_by}
use Rattle.keyset.specs.KeyState.{Reference}
use Rattle.answer_publisher_keys.specs.declared.keys.Publication.TheVariants.{Present}
use Rattle.answer_publisher_keys.specs.Bindings.{BoundKey, is_published, dnskeys, dnskey_rdata}
use Rattle.answer_publisher_keys.specs.BoundView.{by_text}
use Rattle.answer_publisher_keys.proofs.keys.ZoneKeys.dnskey_data.Given as goal

-- those so far, and those of the rest put in, are all
abbrev pub invariant-loop-reference : goal.invariant-loop-reference
invariant-loop-reference l = put_all_by (slice_cmp nat_cmp) (map (λ d. d.items) l.rdata.items) (map dnskey_data (dnskeys (map (λ (e : Reference × BoundKey). e.1) (filter (λ e. is_published l.self.keys Present e.0) (by_text l.reference-iterator))))) ≡ dnskey_rdata l.self
