-- What a zone's keys ask the parent for.
use Rattle.std.specs.Prelude.{◌≡◌, ℕ, true, false, List, [], Option, Ok}
use Rattle.std.specs.List.{list_any}
use Rattle.definitions.specs.Name.{Name}
use Rattle.definitions.specs.Dnskey.{Dnskey}
use Rattle.keyset.specs.KeyState.{asks_parent}
use Rattle.keyset_rolls.specs.declared.rolls.Action.{Action}
use Rattle.keyset_rolls.specs.Actions.{awaits_ds}
use Rattle.answer_publisher_keys.specs.declared.keys.Publication.TheVariants.{AtParent}
use Rattle.answer_publisher_keys.specs.Bindings.{Call, ZoneKeys, apply, cdnskey_set, cds_set, ds_of, ds_set, keys_by_tag, no_keys}
use Rattle.answer_publisher_keys.specs.KeyTags.{behind}
use Rattle.answer_publisher_keys.specs.PublishedKeys.{AreOf}

-- the DS record of type 2 of each key at the parent, and its DNSKEY; nothing else
pub record Asks (digest : Dnskey → Option (List ℕ)) (s : ZoneKeys) : Type 0 where
  pub cds : AreOf digest s AtParent ds_of (cds_set s)
  pub cdnskey : AreOf digest s AtParent (λ b. b.key) (cdnskey_set s)

pub record AsksNothing (s : ZoneKeys) : Type 0 where
  pub cds : cds_set s ≡ []
  pub cdnskey : cdnskey_set s ≡ []

-- whatever calls a zone's keys have behind them
abbrev pub AsksForDsSet : Type 0
AsksForDsSet = (digest : Dnskey → Option (List ℕ)) (name : Name) (cs : List (ℕ × Call)) →
    let s = behind digest (no_keys name) cs in
    (asks_parent s.keys ≡ true → Asks digest s) × (asks_parent s.keys ≡ false → AsksNothing s)

-- the DS set, as it is
pub record AsksAll (s : ZoneKeys) : Type 0 where
  pub cds : cds_set s ≡ ds_set s
  pub cdnskey : cdnskey_set s ≡ keys_by_tag s AtParent

-- behind an accepted call whose actions wait for the parent's DS set
abbrev pub AsksWhatRollsWaitFor : Type 0
AsksWhatRollsWaitFor = (digest : Dnskey → Option (List ℕ)) (c : Call) (now : ℕ) (s after : ZoneKeys) (actions : List Action) → apply digest c now s ≡ Ok (after, actions) → list_any awaits_ds actions ≡ true → AsksAll after
