-- What a zone's keys publish, beside the flags of its key set.
use Rattle.std.specs.Prelude.{◌≡◌, ◌↔◌, ℕ, true, List, map, Option, Some}
use Rattle.std.specs.List.{Contains}
use Rattle.definitions.specs.Name.{Name}
use Rattle.definitions.specs.Dnskey.{Dnskey, dnskey_data, key_tag}
use Rattle.keyset.specs.KeyState.{Key, Reference, key_of}
use Rattle.answer_publisher_keys.specs.declared.keys.Publication.{Publication}
use Rattle.answer_publisher_keys.specs.declared.keys.Publication.TheVariants.{AtParent, Present}
use Rattle.answer_publisher_keys.specs.Bindings.{BoundKey, Call, ZoneKeys, bound_at, dnskey_rdata, dnskeys, ds_of, ds_set, has_role, keys_by_tag, no_keys, published, references_in, shown}
use Rattle.answer_publisher_keys.specs.KeyTags.{behind}

-- The key set has a key of a role under a reference, which is bound to a DNSKEY of that key's tag, beside its digest.
pub record IsPublishedAs (digest : Dnskey → Option (List ℕ)) (s : ZoneKeys) (p : Publication) (q : Reference) (b : BoundKey) : Type 0 where
  pub key : Key
  pub held : key_of s.keys q ≡ Some key
  pub role : has_role p key.roles ≡ true
  pub bound : bound_at s.bound q ≡ Some b
  pub tag : key_tag b.key ≡ key.tag
  pub digested : digest b.key ≡ Some b.digest

-- a list has what is made of each such key, and nothing else
abbrev pub AreOf : {X : Type 0} → (Dnskey → Option (List ℕ)) → ZoneKeys → Publication → (BoundKey → X) → List X → Type 0
AreOf {X} digest s p make xs =
    (x : X) → Contains xs x ↔ ((q : Reference) × (b : BoundKey) × IsPublishedAs digest s p q b × (x ≡ make b))

-- The references of what is published in each role are those that the key set lists. The DS set has the DS of type 2 of
-- each key at the parent, the DNSKEY set the data of each key that is present, and the lists of what signs keys and of
-- what signs the zone have the DNSKEY of each key that does; none has anything else.
pub record PublishesKeySet (digest : Dnskey → Option (List ℕ)) (s : ZoneKeys) : Type 0 where
  pub references : (p : Publication) → map (λ e. e.0) (shown s p) ≡ references_in p s.keys
  pub keys : (p : Publication) → AreOf digest s p (λ b. b.key) (dnskeys (published s p))
  pub ds : AreOf digest s AtParent ds_of (ds_set s)
  pub dnskeys : AreOf digest s Present (λ b. dnskey_data b.key) (dnskey_rdata s)
  pub signers : (p : Publication) → AreOf digest s p (λ b. b.key) (keys_by_tag s p)

-- whatever calls a zone's keys have behind them
abbrev pub PublishedKeysAreThoseOfTheSet : Type 0
PublishedKeysAreThoseOfTheSet =
    (digest : Dnskey → Option (List ℕ)) (name : Name) (cs : List (ℕ × Call)) → PublishesKeySet digest (behind digest (no_keys name) cs)
