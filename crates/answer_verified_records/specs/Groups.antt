-- RRsets that were gathered, as contracts see them.
use Rattle.std.specs.Prelude.{ℕ, Bool, ◌&&◌, ◌==◌, List, is_some}
use Rattle.std.specs.List.{list_any}
use Rattle.definitions.specs.Limits.{pointer_limit}
use Rattle.messages.specs.Message.{Spelled, canonical_data}
use Rattle.answer_judge_facts.specs.Marked.{is_proved}
use Rattle.answer_judge_facts.specs.declared.groups.SignedRrset.{SignedRrset}

-- a record of class IN whose data read, of an RRset that is verified
abbrev pub is_of_verified : List ℕ → List SignedRrset → Spelled → Bool
is_of_verified m gs r = (r.class == 1) && is_some (canonical_data pointer_limit m r) && list_any (is_proved r.owner r.rtype) gs
