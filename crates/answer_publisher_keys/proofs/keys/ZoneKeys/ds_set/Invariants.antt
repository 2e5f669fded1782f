use Rattle.std.proofs.Common.{◌≡◌, map}
use Rattle.std.specs.Prelude.{filter}
use Rattle.definitions.specs.Sorting.{put_all_by}
use Rattle.keyset.specs.KeyState.{Reference}
use Rattle.answer_publisher_keys.specs.declared.keys.Publication.TheVariants.{AtParent}
use Rattle.answer_publisher_keys.specs.Bindings.{BoundKey, is_published, ds_cmp, ds_of, ds_set}
use Rattle.answer_publisher_keys.specs.BoundView.{by_text}
use Rattle.answer_publisher_keys.proofs.keys.ZoneKeys.ds_set.Given as goal

-- those so far, and those of the rest put in, are all
abbrev pub invariant-loop-reference : goal.invariant-loop-reference
invariant-loop-reference l = put_all_by ds_cmp l.set.items (map ds_of (map (λ (e : Reference × BoundKey). e.1) (filter (λ e. is_published l.self.keys AtParent e.0) (by_text l.reference-iterator)))) ≡ ds_set l.self
