-- Keys that calls bind may sign a zone, and have the digest that their DS records say.
use Rattle.std.proofs.Common.{◌≡◌, ℕ, ◌<◌, Bool, true, false, cond, List, [], ◌∷◌, map, Option, Some, Ok, Err, refl, inl, inr, ◌⊎◌, ⊎_elim, arith}
use Rattle.std.specs.List.{AllByRecursion, filter}
use Rattle.definitions.specs.Dnskey.{Dnskey}
use Rattle.answer_publisher_keys.specs.Bindings.{BoundKey, Call, Outcome, ZoneKeys, apply, dnskey_for, dnskeys, is_published, no_keys, published}
use Rattle.answer_publisher_keys.specs.KeyTags.{behind, left}
use Rattle.answer_publisher_keys.proofs.BoundAll.{apply_all}
use Rattle.keyset.specs.KeyState.{Reference}
use Rattle.answer_laws.specs.PublishedKeys.{IsKeyOfZone, PublishedKeysAreOfTheZone}
use Rattle.messages.proofs.Lists.{all_more}
use Rattle.keyset_rolls.specs.declared.rolls.Action.{Action}
use Rattle.answer_events.specs.declared.key_kind.KeyKind.{KeyKind}
use Rattle.answer_events.specs.declared.key_kind.KeyKind.TheVariants.{Ksk, Zsk, Csk, Include}
use Rattle.answer_publisher_keys.specs.declared.keys.Publication.{Publication}

-- a zone's key beside its digest
pub record IsBound (digest : Dnskey → Option (List ℕ)) (b : BoundKey) : Type 0 where
  pub key : IsKeyOfZone b.key
  pub made : digest b.key ≡ Some b.digest

-- each key that was ever bound
abbrev pub AreBound : (Dnskey → Option (List ℕ)) → List (Reference × BoundKey) → Type 0
AreBound digest es = AllByRecursion (λ (e : Reference × BoundKey). IsBound digest e.1) es

zone_key : (kind : KeyKind) (algorithm : ℕ) (octets : List ℕ) → IsKeyOfZone (dnskey_for kind algorithm octets)
zone_key Ksk algorithm octets = record { flags = inr refl; protocol = refl; usable = refl }
zone_key Zsk algorithm octets = record { flags = inl refl; protocol = refl; usable = refl }
zone_key Csk algorithm octets = record { flags = inr refl; protocol = refl; usable = refl }
zone_key Include algorithm octets = record { flags = inl refl; protocol = refl; usable = refl }

-- a call keeps it
pub apply_binds : (digest : Dnskey → Option (List ℕ)) (c : Call) (now : ℕ) (s t : ZoneKeys) (acts : List Action) → AreBound digest s.bound → apply digest c now s ≡ Ok (t, acts) → AreBound digest t.bound
apply_binds digest c now s t acts h e =
    apply_all digest (IsBound digest) (λ kind algorithm octets d m. record { key = zone_key kind algorithm octets; made = m }) c now s t acts h e

-- the keys of some references
published_bound : (digest : Dnskey → Option (List ℕ)) (p : Reference → Bool) (es : List (Reference × BoundKey)) → AreBound digest es → AllByRecursion (IsBound digest) (map (λ (e : Reference × BoundKey). e.1) (filter (λ (e : Reference × BoundKey). p e.0) es))
published_bound digest p [] h = tt
published_bound digest p (e ∷ es) h =
    let rest : List (Reference × BoundKey) = filter (λ (f : Reference × BoundKey). p f.0) es in
    let more = published_bound digest p es h.1 in
    elim (p e.0) as (λ b. AllByRecursion (IsBound digest) (map (λ (f : Reference × BoundKey). f.1) (cond b (e ∷ rest) rest))) [ true ↦ (h.0, more) | false ↦ more ]

pub all_published : (digest : Dnskey → Option (List ℕ)) (s : ZoneKeys) (p : Publication) → AreBound digest s.bound → AllByRecursion (IsBound digest) (published s p)
all_published digest s p h = published_bound digest (is_published s.keys p) s.bound h

zone_keys : (digest : Dnskey → Option (List ℕ)) (bs : List BoundKey) → AllByRecursion (IsBound digest) bs → AllByRecursion IsKeyOfZone (dnskeys bs)
zone_keys digest [] h = tt
zone_keys digest (b ∷ bs) h = (h.0.key, zone_keys digest bs h.1)

-- the keys that are published may sign a zone
pub published_sign : (digest : Dnskey → Option (List ℕ)) (s : ZoneKeys) (p : Publication) → AreBound digest s.bound → AllByRecursion IsKeyOfZone (dnskeys (published s p))
published_sign digest s p h = zone_keys digest (published s p) (all_published digest s p h)

-- their flags are numbers of 16 bits
abbrev pub HasFlags : Dnskey → Type 0
HasFlags key = key.flags < 65536

small_flags : (key : Dnskey) → (key.flags ≡ 256) ⊎ (key.flags ≡ 257) → HasFlags key
small_flags key h = ⊎_elim (λ (e : key.flags ≡ 256). omega (arith, e)) (λ (e : key.flags ≡ 257). omega (arith, e)) h

pub published_flags : (digest : Dnskey → Option (List ℕ)) (s : ZoneKeys) (p : Publication) → AreBound digest s.bound → AllByRecursion HasFlags (dnskeys (published s p))
published_flags digest s p h = all_more IsKeyOfZone HasFlags (dnskeys (published s p)) (λ key is. small_flags key is.flags) (published_sign digest s p h)

-- ---- whatever calls are behind them

left_binds : (digest : Dnskey → Option (List ℕ)) (c : Call) (now : ℕ) (s : ZoneKeys) (o : Outcome) → apply digest c now s ≡ o → AreBound digest s.bound → AreBound digest (left s o).bound
left_binds digest c now s (Ok r) e h = apply_binds digest c now s r.0 r.1 h e
left_binds digest c now s (Err f) e h = h

behind_binds : (digest : Dnskey → Option (List ℕ)) (s : ZoneKeys) (cs : List (ℕ × Call)) → AreBound digest s.bound → AreBound digest (behind digest s cs).bound
behind_binds digest s [] h = h
behind_binds digest s (c ∷ cs) h = behind_binds digest (left s (apply digest c.1 c.0 s)) cs (left_binds digest c.1 c.0 s (apply digest c.1 c.0 s) refl h)

pub keys_of_the_zone : PublishedKeysAreOfTheZone
keys_of_the_zone digest name cs p =
    let s : ZoneKeys = behind digest (no_keys name) cs in
    published_sign digest s p (behind_binds digest (no_keys name) cs tt)
