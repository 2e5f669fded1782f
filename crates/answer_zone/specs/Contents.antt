-- What is made of a zone's records.
use Rattle.std.specs.Prelude.{◌≡◌, true, List, map}
use Rattle.std.specs.List.{AllByRecursion, list_any}
use Rattle.definitions.specs.Name.{Name}
use Rattle.definitions.specs.ZoneChain.{Mode, optout_of}
use Rattle.messages.specs.Handed.{AreHanded}
use Rattle.messages.specs.HandedRr.{HandedRr, handed_of}
use Rattle.answer_terms.specs.Accepting.{is_alias, sorted_records}
use Rattle.answer_terms.specs.Hashing.{Hasher}
use Rattle.answer_terms.specs.Served.{chain_ttl}
use Rattle.answer_zone_records.specs.KeptNames.{KeepsNames}
use Rattle.answer_zone_records.specs.MadeLinks.{IsChain}
use Rattle.answer_zone_records.specs.OwnedRecords.{IsInternet}
use Rattle.answer_zone_records.specs.ZoneInOrder.{AreZoneRecords}
use Rattle.answer_zone.specs.declared.zone.contents.Contents.{Contents}

-- the records in order, and what a zone keeps of them
pub record IsContents (hash : Hasher) (apex : Name) (mode : Mode) (rs : List HandedRr) (c : Contents) : Type 0 where
  pub sorted : map handed_of c.records ≡ sorted_records rs
  pub published : AreZoneRecords apex (map handed_of c.records)
  pub handed : AreHanded apex (map handed_of c.records)
  pub chain : IsChain hash apex mode (map handed_of c.records) c.chain
  pub link_ttl : c.link_ttl ≡ chain_ttl apex (map handed_of c.records)
  pub of_class_in : AllByRecursion IsInternet c.records
  pub has_aliases : c.has_aliases ≡ list_any is_alias (map handed_of c.records)
  pub kept : optout_of mode ≡ true → KeepsNames apex (map handed_of c.records) c.kept.items
