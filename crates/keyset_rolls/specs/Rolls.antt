-- What each roll does to a key that it touches, as a table: a row for each roll, a column for its start, its two reports
-- and the wait behind each (RFC 6781, section 4.1; the two ways to roll a KSK: 4.1.2; a ZSK: 4.1.1; both: 4.1.3; the
-- algorithm: 4.1.4). A cell says what becomes of the roles, and what of the stamps.
use Rattle.std.specs.Prelude.{ℕ, ◌-◌, ◌*◌, Bool, true, false, not, List, [], ◌∷◌, ◌&&◌, ◌||◌, Option, Some, None, if◌then◌else◌}
use Rattle.keyset_keys.specs.declared.keys.KeyType.{KeyType}
use Rattle.keyset_keys.specs.declared.keys.KeyType.TheVariants.{Ksk, Zsk, Csk}
use Rattle.keyset_keys.specs.declared.keys.KeyTimestamps.{KeyTimestamps}
use Rattle.keyset_keys.specs.Keys.{Flags, Key, main_is, ksk_is, zsk_is, on_ksk, on_zsk, on_each, set_old, set_present, set_at_parent, is_old, is_present, is_at_parent, signs, current, outgoing, publish, withdraw, see, see_ds, see_rrsig}
use Rattle.keyset_rolls.specs.Changes.{serve, retire, hand_over, swap, take_over, retire_old, leave, fade, leave_parent}
use Rattle.keyset_rolls.specs.declared.rolls.RollType.{RollType}
use Rattle.keyset_rolls.specs.declared.rolls.RollType.TheVariants as roll
use Rattle.keyset_rolls.specs.declared.rolls.Turn.{Turn}
use Rattle.keyset_rolls.specs.declared.rolls.Turn.TheVariants as turn
use Rattle.keyset_rolls.specs.declared.table.Need.{Need}
use Rattle.keyset_rolls.specs.declared.table.Need.TheVariants as need

-- the kinds of key that a roll touches
abbrev pub touches : RollType → KeyType → Bool
touches roll.KskRoll (Ksk f) = true
touches roll.KskDoubleDsRoll (Ksk f) = true
touches roll.ZskRoll (Zsk f) = true
touches roll.ZskDoubleSignatureRoll (Zsk f) = true
touches roll.CskRoll (Ksk f) = true
touches roll.CskRoll (Zsk f) = true
touches roll.CskRoll (Csk f g) = true
touches roll.AlgorithmRoll (Ksk f) = true
touches roll.AlgorithmRoll (Zsk f) = true
touches roll.AlgorithmRoll (Csk f g) = true
touches _ _ = false

-- ---- start: new keys; an old key is marked in all its roles

abbrev pub new_roles : RollType → KeyType → KeyType
new_roles roll.KskRoll r = on_ksk serve r
new_roles roll.KskDoubleDsRoll r = on_ksk (set_at_parent true) r
new_roles roll.ZskRoll r = on_zsk (set_present true) r
new_roles roll.ZskDoubleSignatureRoll r = on_zsk serve r
new_roles roll.CskRoll r = on_zsk (set_present true) (on_ksk serve r)
new_roles roll.AlgorithmRoll r = on_each serve r

abbrev pub new_stamps : RollType → ℕ → KeyTimestamps → KeyTimestamps
new_stamps roll.KskRoll now s = publish now s
new_stamps roll.KskDoubleDsRoll now s = s
new_stamps roll.ZskRoll now s = publish now s
new_stamps roll.ZskDoubleSignatureRoll now s = publish now s
new_stamps roll.CskRoll now s = publish now s
new_stamps roll.AlgorithmRoll now s = publish now s

-- a key's roles behind the start, as one of the old keys, of the new ones or of neither
abbrev pub started_roles : RollType → Bool → Bool → KeyType → KeyType
started_roles t is_old is_new r = if is_new then new_roles t r else if is_old then on_each (set_old true) r else r

abbrev pub started_key : RollType → ℕ → Bool → Bool → Key → Key
started_key t now is_old is_new k = record k {
  roles = started_roles t is_old is_new k.roles;
  stamps = if is_new then new_stamps t now k.stamps else k.stamps;
}

-- ---- reports: the keys that they stamp, and the keys and stamps that the wait behind them looks at

-- whether the first wait looks at a key, and the second
abbrev pub watched : Turn → RollType → KeyType → Bool
watched turn.First roll.KskRoll r = main_is (current is_present) r
watched turn.First roll.KskDoubleDsRoll r = main_is (current is_at_parent) r
watched turn.First roll.ZskRoll r = main_is (current is_present) r
watched turn.First roll.ZskDoubleSignatureRoll r = main_is (current is_present) r
watched turn.First roll.CskRoll r = main_is (current is_present) r
watched turn.First roll.AlgorithmRoll r = main_is (current is_present) r
watched turn.Second roll.KskRoll r = main_is (current is_at_parent) r
watched turn.Second roll.KskDoubleDsRoll r = main_is (current is_present) r
watched turn.Second roll.ZskRoll r = main_is (current signs) r
watched turn.Second roll.ZskDoubleSignatureRoll r = main_is (current signs) r
watched turn.Second roll.CskRoll r = zsk_is (current signs) r
watched turn.Second roll.AlgorithmRoll r = ksk_is (current signs) r

-- the stamp that the wait reads
abbrev pub stamp_read : Turn → RollType → KeyTimestamps → Option ℕ
stamp_read turn.First roll.KskRoll s = s.visible
stamp_read turn.First roll.KskDoubleDsRoll s = s.ds_visible
stamp_read turn.First roll.ZskRoll s = s.visible
stamp_read turn.First roll.ZskDoubleSignatureRoll s = s.visible
stamp_read turn.First roll.CskRoll s = s.visible
stamp_read turn.First roll.AlgorithmRoll s = s.visible
stamp_read turn.Second roll.KskRoll s = s.ds_visible
stamp_read turn.Second roll.KskDoubleDsRoll s = s.visible
stamp_read turn.Second roll.ZskRoll s = s.rrsig_visible
stamp_read turn.Second roll.ZskDoubleSignatureRoll s = s.rrsig_visible
stamp_read turn.Second roll.CskRoll s = s.rrsig_visible
stamp_read turn.Second roll.AlgorithmRoll s = s.ds_visible

-- the first report stamps the keys that the wait behind it looks at
abbrev pub report1_stamps : RollType → ℕ → KeyType → KeyTimestamps → KeyTimestamps
report1_stamps roll.KskRoll now r s = see now s
report1_stamps roll.KskDoubleDsRoll now r s = see_ds now s
report1_stamps roll.ZskRoll now r s = see now s
report1_stamps roll.ZskDoubleSignatureRoll now r s = see_rrsig now (see now s)
report1_stamps roll.CskRoll now r s = see now s
report1_stamps roll.AlgorithmRoll now r s = if zsk_is (λ _. true) r then see_rrsig now (see now s) else see now s

abbrev pub reported1 : RollType → ℕ → Key → Key
reported1 t now k = record k { stamps = if watched turn.First t k.roles then report1_stamps t now k.roles k.stamps else k.stamps }

-- the second report stamps by columns of its own
abbrev pub report2_stamps : RollType → ℕ → KeyType → KeyTimestamps → KeyTimestamps
report2_stamps roll.KskRoll now r s = if main_is (current is_at_parent) r then see_ds now s else s
report2_stamps roll.KskDoubleDsRoll now r s = if main_is (current is_present) r then see now s else s
report2_stamps roll.ZskRoll now r s = if main_is (current signs) r then see_rrsig now s else s
report2_stamps roll.ZskDoubleSignatureRoll now r s = if main_is (current signs) r then see_rrsig now s else s
report2_stamps roll.CskRoll now r s =
    let t : KeyTimestamps = if ksk_is (current is_present) r then see_ds now s else s in
    if zsk_is (current signs) r then see_rrsig now t else t
report2_stamps roll.AlgorithmRoll now r s = if ksk_is (current is_present) r then see_ds now s else s

abbrev pub reported2 : RollType → ℕ → Key → Key
reported2 t now k = record k { stamps = report2_stamps t now k.roles k.stamps }

-- ---- waits

abbrev pub wait1_roles : RollType → KeyType → KeyType
wait1_roles roll.KskRoll r = on_ksk hand_over r
wait1_roles roll.KskDoubleDsRoll r = on_ksk swap r
wait1_roles roll.ZskRoll r = on_zsk take_over r
wait1_roles roll.ZskDoubleSignatureRoll r = on_zsk retire_old r
wait1_roles roll.CskRoll r = on_zsk take_over (on_ksk hand_over r)
wait1_roles roll.AlgorithmRoll r = on_ksk hand_over r

abbrev pub wait1_stamps : RollType → ℕ → KeyType → KeyTimestamps → KeyTimestamps
wait1_stamps roll.KskRoll now r s = s
wait1_stamps roll.KskDoubleDsRoll now r s = if ksk_is (current is_at_parent) r then publish now s else s
wait1_stamps roll.ZskRoll now r s = s
wait1_stamps roll.ZskDoubleSignatureRoll now r s = if zsk_is is_old r then withdraw now s else s
wait1_stamps roll.CskRoll now r s = s
wait1_stamps roll.AlgorithmRoll now r s = s

abbrev pub waited1 : RollType → ℕ → Key → Key
waited1 t now k = record k { roles = wait1_roles t k.roles; stamps = wait1_stamps t now k.roles k.stamps }

-- an old role that signs no longer
abbrev pub idle : Flags → Bool
idle f = not f.signer

abbrev pub wait2_roles : RollType → KeyType → KeyType
wait2_roles roll.KskRoll r = on_ksk leave r
wait2_roles roll.KskDoubleDsRoll r = on_ksk leave_parent r
wait2_roles roll.ZskRoll r = on_zsk fade r
wait2_roles roll.ZskDoubleSignatureRoll r = r
wait2_roles roll.CskRoll r = on_zsk fade (on_ksk leave r)
wait2_roles roll.AlgorithmRoll r = if main_is (outgoing is_present) r then on_each retire r else r

-- whether the second wait withdraws a key
abbrev pub leaves : RollType → KeyType → Bool
leaves roll.KskRoll r = ksk_is (outgoing is_present) r
leaves roll.KskDoubleDsRoll r = ksk_is (outgoing is_at_parent) r
leaves roll.ZskRoll r = zsk_is (outgoing idle) r
leaves roll.ZskDoubleSignatureRoll r = false
leaves roll.CskRoll r = ksk_is (outgoing is_present) r || zsk_is (outgoing idle) r
leaves roll.AlgorithmRoll r = main_is (outgoing is_present) r

abbrev pub waited2 : RollType → ℕ → Key → Key
waited2 t now k = record k { roles = wait2_roles t k.roles; stamps = if leaves t k.roles then withdraw now k.stamps else k.stamps }

-- ---- what a start needs

-- whether a key meets what a roll requires after its start
abbrev pub meets_need : Need → KeyType → Bool
meets_need need.Present r = main_is (current is_present) r
meets_need need.AtParent r = main_is (current is_at_parent) r
meets_need need.KskPresent r = ksk_is (current is_present) r
meets_need need.ZskPresent r = zsk_is (current is_present) r

-- what a roll requires of the keys after its start
abbrev pub needs : RollType → List Need
needs roll.KskRoll = need.Present ∷ []
needs roll.KskDoubleDsRoll = need.AtParent ∷ []
needs roll.ZskRoll = need.Present ∷ []
needs roll.ZskDoubleSignatureRoll = need.Present ∷ []
needs roll.CskRoll = need.KskPresent ∷ need.ZskPresent ∷ []
needs roll.AlgorithmRoll = need.KskPresent ∷ need.ZskPresent ∷ []

-- whether a roll may not start while the other runs: a roll of KSKs may run beside one of ZSKs, and no others
abbrev pub is_of_ksks : RollType → Bool
is_of_ksks roll.KskRoll = true
is_of_ksks roll.KskDoubleDsRoll = true
is_of_ksks _ = false

abbrev pub is_of_zsks : RollType → Bool
is_of_zsks roll.ZskRoll = true
is_of_zsks roll.ZskDoubleSignatureRoll = true
is_of_zsks _ = false

abbrev pub conflicts : RollType → RollType → Bool
conflicts a b = not ((is_of_ksks a && is_of_zsks b) || (is_of_zsks a && is_of_ksks b))

-- ---- how long a wait takes

-- the stamp that a wait reads of a key, where the wait looks at it
abbrev pub awaited : Turn → RollType → Key → Option (Option ℕ)
awaited turn t k = if touches t k.roles && watched turn t k.roles then Some (stamp_read turn t k.stamps) else None

-- whether the stamp that a wait reads is missing
abbrev pub is_missing : Option (Option ℕ) → Bool
is_missing None = false
is_missing (Some None) = true
is_missing (Some (Some since)) = false

-- how long a key still has to wait
abbrev pub rest_of : ℕ → ℕ → Option (Option ℕ) → ℕ
rest_of ttl now None = 0
rest_of ttl now (Some None) = 0
rest_of ttl now (Some (Some since)) = ttl * 1000000000 - (now - since)
