-- What a judge asks of the keys that a zone publishes.
use Rattle.std.specs.Prelude.{◌≡◌, ◌⊎◌, ℕ, true, List, Option}
use Rattle.std.specs.List.{AllByRecursion}
use Rattle.definitions.specs.Dnskey.{Dnskey}
use Rattle.definitions.specs.Name.{Name}
use Rattle.answer_judge_keys.specs.Trusted.{is_usable}
use Rattle.answer_publisher_keys.specs.declared.keys.Publication.{Publication}
use Rattle.answer_publisher_keys.specs.Bindings.{Call, dnskeys, no_keys, published}
use Rattle.answer_publisher_keys.specs.KeyTags.{behind}

-- a key of a zone, an entry point or not (RFC 4034, 2.1), as a judge asks for it
pub record IsKeyOfZone (k : Dnskey) : Type 0 where
  pub flags : (k.flags ≡ 256) ⊎ (k.flags ≡ 257)
  pub protocol : k.protocol ≡ 3
  pub usable : is_usable k ≡ true

-- whatever calls a zone's keys have behind them, those that are published are such
abbrev pub PublishedKeysAreOfTheZone : Type 0
PublishedKeysAreOfTheZone =
    (digest : Dnskey → Option (List ℕ)) (name : Name) (cs : List (ℕ × Call)) (p : Publication)
    → AllByRecursion IsKeyOfZone (dnskeys (published (behind digest (no_keys name) cs) p))
