-- Which keys sign an answer.
use Rattle.std.specs.Prelude.{ℕ, Bool, [], ◌∷◌, ◌&&◌, nat_lt, if◌then◌else◌}
use Rattle.definitions.specs.Name.{Name, same}
use Rattle.messages.specs.HandedRr.{among}
use Rattle.messages.specs.Message.{Asked}
use Rattle.answer_publisher_keys.specs.declared.keys.Publication.{Publication}
use Rattle.answer_publisher_keys.specs.declared.keys.Publication.TheVariants.{Signs, SignsZone}

-- a question for the CDS or CDNSKEY RRset of the apex, by which a zone asks its parent for a DS set (RFC 7344, 3)
abbrev pub is_for_parent : Name → Asked → Bool
is_for_parent apex asked = among (59 ∷ 60 ∷ []) asked.rtype && same asked.name apex

-- The keys that sign an answer with a number of RRsets of those asked for: those that sign the zone. The parent takes such an RRset
-- from a key of its DS set, so those that sign keys sign it, too; the answer has no other (RFC 7344, 4.1).
abbrev pub signing : Name → Asked → ℕ → Publication
signing apex asked found = if is_for_parent apex asked && nat_lt 0 found then Signs else SignsZone
