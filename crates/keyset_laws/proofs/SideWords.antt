-- What the proofs say of a key, of the roles that it has and of the phase that a roll is in.
use Rattle.std.specs.Prelude.{Bool, true, false, not, ◌&&◌, ◌||◌, Option, Some}
use Rattle.keyset_keys.specs.declared.keys.KeyType.{KeyType}
use Rattle.keyset_keys.specs.declared.keys.KeyType.TheVariants.{Csk}
use Rattle.keyset_rolls.specs.declared.rolls.RollState.{RollState}
use Rattle.keyset_rolls.specs.declared.rolls.RollState.TheVariants as state
use Rattle.keyset_rolls.specs.declared.rolls.RollType.{RollType}
use Rattle.keyset_rolls.specs.declared.rolls.RollType.TheVariants.{KskRoll, KskDoubleDsRoll, ZskRoll, ZskDoubleSignatureRoll}
use Rattle.keyset_rolls.specs.declared.table.Need.{Need}
use Rattle.keyset_rolls.specs.declared.table.Need.TheVariants as need
use Rattle.keyset.specs.KeyState.{current, is_present, ksk_is, signs, zsk_is}
use Rattle.keyset_laws.specs.Sides.{OfKeys, OfZone, Side}

-- why a start leaves one: what some key has to be
abbrev pub need_of : Side → RollType → Need
need_of OfKeys KskDoubleDsRoll = need.AtParent
need_of OfKeys KskRoll = need.Present
need_of OfKeys _ = need.KskPresent
need_of OfZone ZskRoll = need.Present
need_of OfZone ZskDoubleSignatureRoll = need.Present
need_of OfZone _ = need.ZskPresent

abbrev pub if_both : Bool → Bool → Bool
if_both true b = b
if_both false b = not b

-- both roles of a combined key are old together, and one that isn't old stands for the key by its KSK role
abbrev pub agrees : KeyType → Bool
agrees (Csk f g) = (if_both f.old g.old) && (g.old || not g.present || f.present)
agrees _ = true

-- a ZSK role that is present and stays signs
abbrev pub is_settled : KeyType → Bool
is_settled t = not (zsk_is (current is_present) t) || zsk_is signs t

-- a key on this side: one with a role of the KSK, of the ZSK
abbrev pub is_of : Side → KeyType → Bool
is_of OfKeys t = ksk_is (λ _. true) t
is_of OfZone t = zsk_is (λ _. true) t

abbrev pub is_first : Option RollState → Bool
is_first (Some state.Propagation1) = true
is_first (Some (state.CacheExpire1 ttl)) = true
is_first _ = false
