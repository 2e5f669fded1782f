-- What putting a record into sorted ones answers.
use Rattle.std.specs.Prelude.{◌≡◌, true, false, List, Result}
use Rattle.std.specs.declared.cmp.Ordering.{Ordering}
use Rattle.std.specs.declared.result.Result.TheVariants.{Ok, Err}
use Rattle.definitions.specs.Sorting.{put_by}
use Rattle.plain.specs.declared.record.Record.{Record}
use Rattle.denial_sorted.specs.Places.{holds_equal}
use Rattle.denial_sorted.specs.declared.sorted.InsertError.{InsertError}
use Rattle.denial_sorted.specs.declared.sorted.InsertError.TheVariants.{Present, Memory}

-- the record stands in its place; or an equal one was there, or there was no memory: then all is as it was, and the record is handed back
abbrev pub Inserts : {N D : Type 0} → (Record N D → Record N D → Ordering) → Record N D → List (Record N D) → Result (Unit {0}) (InsertError N D) → List (Record N D) → Type 0
Inserts cmp r old (Ok _) new = (holds_equal cmp r old ≡ false) × (new ≡ put_by cmp r old)
Inserts cmp r old (Err (Present back)) new = (holds_equal cmp r old ≡ true) × (back ≡ r) × (new ≡ old)
Inserts cmp r old (Err (Memory back)) new = (holds_equal cmp r old ≡ false) × (back ≡ r) × (new ≡ old)
