-- The two sides of a validation: from the parent's DS set to the DNSKEY answer, and from there to the answers of the zone; and in
-- which order a roll changes the two things of a side.
use Rattle.std.specs.Prelude.{Bool, true, false, not, ◌&&◌, ◌||◌, List, []}
use Rattle.keyset_keys.specs.declared.keys.KeyType.{KeyType}
use Rattle.keyset_rolls.specs.declared.rolls.RollType.{RollType}
use Rattle.keyset_rolls.specs.declared.rolls.RollType.TheVariants.{KskRoll, KskDoubleDsRoll, ZskRoll, ZskDoubleSignatureRoll, AlgorithmRoll}
use Rattle.keyset_rolls.specs.Rolls.{touches}
use Rattle.keyset.specs.KeyState.{KeySetState, Reference, current, ds, is_at_parent, is_present, keysigners, ksk_is, listed, main_is, present, signs, zonesigners, zsk_is}
use Rattle.keyset_laws.specs.KeyLife.{Thing, DsSet, DnskeyAnswer, ZoneAnswer}

pub data Side : Type 0 where
  OfKeys : Side
  OfZone : Side

-- what stands on a side beside the DNSKEY answer
abbrev pub partner : Side → Thing
partner OfKeys = DsSet
partner OfZone = ZoneAnswer

abbrev pub is_empty : {X : Type 0} → List X → Bool
is_empty [] = true
is_empty _ = false

-- whether a thing of some state shows a key in the role that its side needs: at the parent (an empty DS set asks for no key),
-- present and signing the keys; present, signing the zone
abbrev pub shows : Side → Thing → Reference → KeySetState → Bool
shows OfKeys DsSet q s = is_empty (ds s) || listed (ds s) q
shows OfKeys DnskeyAnswer q s = listed (present s) q && listed (keysigners s) q
shows OfZone DnskeyAnswer q s = listed (present s) q
shows OfZone ZoneAnswer q s = listed (zonesigners s) q
shows _ _ q s = true

-- whether a thing shows a key in the role that its side needs, read from the roles of the key
abbrev pub is_shown : Side → Thing → KeyType → Bool
is_shown OfKeys DsSet t = ksk_is is_at_parent t
is_shown OfKeys DnskeyAnswer t = main_is is_present t && ksk_is signs t
is_shown OfZone DnskeyAnswer t = main_is is_present t && zsk_is (λ _. true) t
is_shown OfZone ZoneAnswer t = zsk_is signs t
is_shown _ _ t = false

-- the rolls that change keys of a side
abbrev pub is_on : Side → RollType → Bool
is_on OfKeys ZskRoll = false
is_on OfKeys ZskDoubleSignatureRoll = false
is_on OfZone KskRoll = false
is_on OfZone KskDoubleDsRoll = false
is_on _ _ = true

-- The thing that a roll's start lets grow, and the one that its first wait hands over from the old keys to the new ones. Each
-- becomes small again only when nothing of before is left of the other.
abbrev pub first_of : Side → RollType → Thing
first_of OfKeys KskDoubleDsRoll = DsSet
first_of _ _ = DnskeyAnswer

abbrev pub second_of : Side → RollType → Thing
second_of OfKeys KskDoubleDsRoll = DnskeyAnswer
second_of OfKeys _ = DsSet
second_of OfZone _ = ZoneAnswer

-- a roll whose start lets both grow, so that its first report says of both that they are everywhere
abbrev pub doubles : Side → RollType → Bool
doubles OfZone ZskDoubleSignatureRoll = true
doubles OfZone AlgorithmRoll = true
doubles _ _ = false

-- ---- the new key that a roll leads to

-- a role that stays when old ones leave
abbrev pub stays : Side → KeyType → Bool
stays OfKeys t = ksk_is (λ f. not f.old) t
stays OfZone t = zsk_is (current is_present) t

-- up to the first wait, what grows shows the new key
abbrev pub is_ready : Side → RollType → KeyType → Bool
is_ready side r t = touches r t && stays side t && is_shown side (first_of side r) t && (not (doubles side r) || is_shown side (second_of side r) t)

-- from the first wait on, both things show the new key
abbrev pub is_lasting : Side → RollType → KeyType → Bool
is_lasting side r t = touches r t && stays side t && is_shown side (first_of side r) t && is_shown side (second_of side r) t
