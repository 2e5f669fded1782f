-- Facts on the roles of keys on each side, found by going over all flags.
use Rattle.std.proofs.Common.{◌≡◌, Bool, true, false, refl, ◌&&◌, ◌||◌, not}
use Rattle.keyset_keys.specs.declared.keys.KeyType.{KeyType}
use Rattle.keyset_rolls.specs.declared.rolls.RollType.{RollType}
use Rattle.keyset_rolls.specs.declared.rolls.RollType.TheVariants.{KskRoll, KskDoubleDsRoll, ZskRoll, ZskDoubleSignatureRoll, CskRoll, AlgorithmRoll}
use Rattle.keyset_rolls.specs.declared.rolls.Turn.TheVariants.{First, Second}
use Rattle.keyset_rolls.specs.Rolls.{meets_need, new_roles, touches, wait1_roles, wait2_roles, watched}
use Rattle.keyset.specs.KeyState.{each_is, is_stale, on_each, set_old}
use Rattle.keyset.specs.KeyRuns.{Kind, OfKsk, OfZsk, OfCsk, OfOther, roles_of}
use Rattle.keyset.specs.KeyRunLaws.{keeps_roles}
use Rattle.keyset.proofs.KeyTables.{OfAll, from_implies, implies, of_all}
use Rattle.keyset_laws.specs.KeyLife.{Thing, DsSet, DnskeyAnswer}
use Rattle.keyset_laws.specs.Sides.{OfKeys, OfZone, Side, doubles, first_of, is_lasting, is_on, is_ready, is_shown, partner}
use Rattle.keyset_laws.proofs.SideWords.{agrees, is_of, is_settled, need_of}

-- what the roles of every key keep
abbrev pub keeps_all : KeyType → Bool
keeps_all t = keeps_roles t && agrees t

-- what a start asks for is a new key that is ready
abbrev readied_test : Side → RollType → KeyType → Bool
readied_test side r t = implies (touches r t && keeps_all t && (not (doubles side r) || is_settled t) && meets_need (need_of side r) t) (is_ready side r t)

readied_all : (side : Side) (r : RollType) → OfAll (readied_test side r)
readied_all OfKeys KskRoll = record { ksk = λ _. refl; zsk = λ _. refl; csk = λ _ _. refl; other = λ _. refl }
readied_all OfZone KskRoll = record { ksk = λ _. refl; zsk = λ _. refl; csk = λ _ _. refl; other = λ _. refl }
readied_all _ _ = record { ksk = λ _. refl; zsk = λ _. refl; csk = λ _ _. refl; other = λ _. refl }

pub readied : (side : Side) (r : RollType) (t : KeyType) → (touches r t && keeps_all t && (not (doubles side r) || is_settled t) && meets_need (need_of side r) t) ≡ true → (is_ready side r t) ≡ true
readied side r t h = from_implies (touches r t && keeps_all t && (not (doubles side r) || is_settled t) && meets_need (need_of side r) t) (is_ready side r t) (of_all (readied_test side r) (readied_all side r) t) h

-- a first wait hands over to it
abbrev lasts_test : Side → RollType → KeyType → Bool
lasts_test side r t = implies (keeps_all t && is_ready side r t) (is_lasting side r (wait1_roles r t))

lasts_all : (side : Side) (r : RollType) → OfAll (lasts_test side r)
lasts_all OfKeys KskRoll = record { ksk = λ _. refl; zsk = λ _. refl; csk = λ _ _. refl; other = λ _. refl }
lasts_all OfZone KskRoll = record { ksk = λ _. refl; zsk = λ _. refl; csk = λ _ _. refl; other = λ _. refl }
lasts_all _ _ = record { ksk = λ _. refl; zsk = λ _. refl; csk = λ _ _. refl; other = λ _. refl }

pub lasts : (side : Side) (r : RollType) (t : KeyType) → (keeps_all t && is_ready side r t) ≡ true → (is_lasting side r (wait1_roles r t)) ≡ true
lasts side r t h = from_implies (keeps_all t && is_ready side r t) (is_lasting side r (wait1_roles r t)) (of_all (lasts_test side r) (lasts_all side r) t) h

-- a second wait leaves it
abbrev stays_shown_test : Side → RollType → KeyType → Bool
stays_shown_test side r t = implies (keeps_all t && is_lasting side r t) (is_shown side DnskeyAnswer (wait2_roles r t) && is_shown side (partner side) (wait2_roles r t))

stays_shown_all : (side : Side) (r : RollType) → OfAll (stays_shown_test side r)
stays_shown_all OfKeys KskRoll = record { ksk = λ _. refl; zsk = λ _. refl; csk = λ _ _. refl; other = λ _. refl }
stays_shown_all OfZone KskRoll = record { ksk = λ _. refl; zsk = λ _. refl; csk = λ _ _. refl; other = λ _. refl }
stays_shown_all _ _ = record { ksk = λ _. refl; zsk = λ _. refl; csk = λ _ _. refl; other = λ _. refl }

pub stays_shown : (side : Side) (r : RollType) (t : KeyType) → (keeps_all t && is_lasting side r t) ≡ true → (is_shown side DnskeyAnswer (wait2_roles r t) && is_shown side (partner side) (wait2_roles r t)) ≡ true
stays_shown side r t h = from_implies (keeps_all t && is_lasting side r t) (is_shown side DnskeyAnswer (wait2_roles r t) && is_shown side (partner side) (wait2_roles r t)) (of_all (stays_shown_test side r) (stays_shown_all side r) t) h

-- a first wait that hands over takes nothing from what grew
abbrev first_stays_test : Side → RollType → KeyType → Bool
first_stays_test side r t = implies (touches r t && is_shown side (first_of side r) t) (is_shown side (first_of side r) (wait1_roles r t) || doubles side r)

first_stays_all : (side : Side) (r : RollType) → OfAll (first_stays_test side r)
first_stays_all OfKeys KskRoll = record { ksk = λ _. refl; zsk = λ _. refl; csk = λ _ _. refl; other = λ _. refl }
first_stays_all OfZone KskRoll = record { ksk = λ _. refl; zsk = λ _. refl; csk = λ _ _. refl; other = λ _. refl }
first_stays_all _ _ = record { ksk = λ _. refl; zsk = λ _. refl; csk = λ _ _. refl; other = λ _. refl }

pub first_stays : (side : Side) (r : RollType) (t : KeyType) → (touches r t && is_shown side (first_of side r) t) ≡ true → (is_shown side (first_of side r) (wait1_roles r t) || doubles side r) ≡ true
first_stays side r t h = from_implies (touches r t && is_shown side (first_of side r) t) (is_shown side (first_of side r) (wait1_roles r t) || doubles side r) (of_all (first_stays_test side r) (first_stays_all side r) t) h

-- a start takes nothing away
abbrev new_shown_test : Side → RollType → Thing → KeyType → Bool
new_shown_test side r thing t = implies (is_shown side thing t) (is_shown side thing (new_roles r t))

new_shown_all : (side : Side) (r : RollType) (thing : Thing) → OfAll (new_shown_test side r thing)
new_shown_all OfKeys KskRoll DsSet = record { ksk = λ _. refl; zsk = λ _. refl; csk = λ _ _. refl; other = λ _. refl }
new_shown_all OfKeys KskDoubleDsRoll DsSet = record { ksk = λ _. refl; zsk = λ _. refl; csk = λ _ _. refl; other = λ _. refl }
new_shown_all OfKeys ZskRoll DsSet = record { ksk = λ _. refl; zsk = λ _. refl; csk = λ _ _. refl; other = λ _. refl }
new_shown_all OfKeys ZskDoubleSignatureRoll DsSet = record { ksk = λ _. refl; zsk = λ _. refl; csk = λ _ _. refl; other = λ _. refl }
new_shown_all OfKeys CskRoll DsSet = record { ksk = λ _. refl; zsk = λ _. refl; csk = λ _ _. refl; other = λ _. refl }
new_shown_all OfKeys AlgorithmRoll DsSet = record { ksk = λ _. refl; zsk = λ _. refl; csk = λ _ _. refl; other = λ _. refl }
new_shown_all OfZone KskRoll DsSet = record { ksk = λ _. refl; zsk = λ _. refl; csk = λ _ _. refl; other = λ _. refl }
new_shown_all OfZone KskDoubleDsRoll DsSet = record { ksk = λ _. refl; zsk = λ _. refl; csk = λ _ _. refl; other = λ _. refl }
new_shown_all OfZone ZskRoll DsSet = record { ksk = λ _. refl; zsk = λ _. refl; csk = λ _ _. refl; other = λ _. refl }
new_shown_all OfZone ZskDoubleSignatureRoll DsSet = record { ksk = λ _. refl; zsk = λ _. refl; csk = λ _ _. refl; other = λ _. refl }
new_shown_all OfZone CskRoll DsSet = record { ksk = λ _. refl; zsk = λ _. refl; csk = λ _ _. refl; other = λ _. refl }
new_shown_all OfZone AlgorithmRoll DsSet = record { ksk = λ _. refl; zsk = λ _. refl; csk = λ _ _. refl; other = λ _. refl }
new_shown_all _ _ _ = record { ksk = λ _. refl; zsk = λ _. refl; csk = λ _ _. refl; other = λ _. refl }

pub new_shown : (side : Side) (r : RollType) (thing : Thing) (t : KeyType) → (is_shown side thing t) ≡ true → (is_shown side thing (new_roles r t)) ≡ true
new_shown side r thing t h = from_implies (is_shown side thing t) (is_shown side thing (new_roles r t)) (of_all (new_shown_test side r thing) (new_shown_all side r thing) t) h

-- nor does the mark of an old key
abbrev old_shown_test : Side → Thing → KeyType → Bool
old_shown_test side thing t = implies (is_shown side thing t) (is_shown side thing (on_each (set_old true) t))

old_shown_all : (side : Side) (thing : Thing) → OfAll (old_shown_test side thing)
old_shown_all OfKeys DsSet = record { ksk = λ _. refl; zsk = λ _. refl; csk = λ _ _. refl; other = λ _. refl }
old_shown_all OfZone DsSet = record { ksk = λ _. refl; zsk = λ _. refl; csk = λ _ _. refl; other = λ _. refl }
old_shown_all _ _ = record { ksk = λ _. refl; zsk = λ _. refl; csk = λ _ _. refl; other = λ _. refl }

pub old_shown : (side : Side) (thing : Thing) (t : KeyType) → (is_shown side thing t) ≡ true → (is_shown side thing (on_each (set_old true) t)) ≡ true
old_shown side thing t h = from_implies (is_shown side thing t) (is_shown side thing (on_each (set_old true) t)) (of_all (old_shown_test side thing) (old_shown_all side thing) t) h

-- a roll that touches a key of a side is on it
abbrev off_side_test : Side → RollType → KeyType → Bool
off_side_test side r t = implies (touches r t && is_of side t) (is_on side r)

off_side_all : (side : Side) (r : RollType) → OfAll (off_side_test side r)
off_side_all OfKeys KskRoll = record { ksk = λ _. refl; zsk = λ _. refl; csk = λ _ _. refl; other = λ _. refl }
off_side_all OfZone KskRoll = record { ksk = λ _. refl; zsk = λ _. refl; csk = λ _ _. refl; other = λ _. refl }
off_side_all _ _ = record { ksk = λ _. refl; zsk = λ _. refl; csk = λ _ _. refl; other = λ _. refl }

pub off_side : (side : Side) (r : RollType) (t : KeyType) → (touches r t && is_of side t) ≡ true → (is_on side r) ≡ true
off_side side r t h = from_implies (touches r t && is_of side t) (is_on side r) (of_all (off_side_test side r) (off_side_all side r) t) h

-- a key that is shown is of the side
abbrev shown_of_test : Side → Thing → KeyType → Bool
shown_of_test side thing t = implies (is_shown side thing t) (is_of side t)

shown_of_all : (side : Side) (thing : Thing) → OfAll (shown_of_test side thing)
shown_of_all OfKeys DsSet = record { ksk = λ _. refl; zsk = λ _. refl; csk = λ _ _. refl; other = λ _. refl }
shown_of_all OfZone DsSet = record { ksk = λ _. refl; zsk = λ _. refl; csk = λ _ _. refl; other = λ _. refl }
shown_of_all _ _ = record { ksk = λ _. refl; zsk = λ _. refl; csk = λ _ _. refl; other = λ _. refl }

pub shown_of : (side : Side) (thing : Thing) (t : KeyType) → (is_shown side thing t) ≡ true → (is_of side t) ≡ true
shown_of side thing t h = from_implies (is_shown side thing t) (is_of side t) (of_all (shown_of_test side thing) (shown_of_all side thing) t) h

-- and in use
abbrev shown_used_test : Side → Thing → KeyType → Bool
shown_used_test side thing t = implies (is_shown side thing t) (not (each_is is_stale t))

shown_used_all : (side : Side) (thing : Thing) → OfAll (shown_used_test side thing)
shown_used_all OfKeys DsSet = record { ksk = λ _. refl; zsk = λ _. refl; csk = λ _ _. refl; other = λ _. refl }
shown_used_all OfZone DsSet = record { ksk = λ _. refl; zsk = λ _. refl; csk = λ _ _. refl; other = λ _. refl }
shown_used_all _ _ = record { ksk = λ _. refl; zsk = λ _. refl; csk = λ _ _. refl; other = λ _. refl }

pub shown_used : (side : Side) (thing : Thing) (t : KeyType) → (is_shown side thing t) ≡ true → (not (each_is is_stale t)) ≡ true
shown_used side thing t h = from_implies (is_shown side thing t) (not (each_is is_stale t)) (of_all (shown_used_test side thing) (shown_used_all side thing) t) h

-- the first wait looks at the new key
abbrev watched1_test : Side → RollType → KeyType → Bool
watched1_test side r t = implies (keeps_all t && is_ready side r t) (watched First r t)

watched1_all : (side : Side) (r : RollType) → OfAll (watched1_test side r)
watched1_all OfKeys KskRoll = record { ksk = λ _. refl; zsk = λ _. refl; csk = λ _ _. refl; other = λ _. refl }
watched1_all OfZone KskRoll = record { ksk = λ _. refl; zsk = λ _. refl; csk = λ _ _. refl; other = λ _. refl }
watched1_all _ _ = record { ksk = λ _. refl; zsk = λ _. refl; csk = λ _ _. refl; other = λ _. refl }

pub watched1 : (side : Side) (r : RollType) (t : KeyType) → (keeps_all t && is_ready side r t) ≡ true → (watched First r t) ≡ true
watched1 side r t h = from_implies (keeps_all t && is_ready side r t) (watched First r t) (of_all (watched1_test side r) (watched1_all side r) t) h

-- the side on which a second wait looks at the new key
abbrev pub witness : RollType → Side
witness KskRoll = OfKeys
witness KskDoubleDsRoll = OfKeys
witness AlgorithmRoll = OfKeys
witness _ = OfZone

-- the second wait looks at the new key
abbrev watched2_test : RollType → KeyType → Bool
watched2_test r t = implies (keeps_all t && is_lasting (witness r) r t) (watched Second r t)

watched2_all : (r : RollType) → OfAll (watched2_test r)
watched2_all KskRoll = record { ksk = λ _. refl; zsk = λ _. refl; csk = λ _ _. refl; other = λ _. refl }
watched2_all KskDoubleDsRoll = record { ksk = λ _. refl; zsk = λ _. refl; csk = λ _ _. refl; other = λ _. refl }
watched2_all ZskRoll = record { ksk = λ _. refl; zsk = λ _. refl; csk = λ _ _. refl; other = λ _. refl }
watched2_all ZskDoubleSignatureRoll = record { ksk = λ _. refl; zsk = λ _. refl; csk = λ _ _. refl; other = λ _. refl }
watched2_all CskRoll = record { ksk = λ _. refl; zsk = λ _. refl; csk = λ _ _. refl; other = λ _. refl }
watched2_all AlgorithmRoll = record { ksk = λ _. refl; zsk = λ _. refl; csk = λ _ _. refl; other = λ _. refl }

pub watched2 : (r : RollType) (t : KeyType) → (keeps_all t && is_lasting (witness r) r t) ≡ true → (watched Second r t) ≡ true
watched2 r t h = from_implies (keeps_all t && is_lasting (witness r) r t) (watched Second r t) (of_all (watched2_test r) (watched2_all r) t) h

-- starts and waits keep that roles agree
abbrev new_agrees_test : RollType → KeyType → Bool
new_agrees_test r t = implies (touches r t && keeps_all t) (agrees (new_roles r t))

new_agrees_all : (r : RollType) → OfAll (new_agrees_test r)
new_agrees_all KskRoll = record { ksk = λ _. refl; zsk = λ _. refl; csk = λ _ _. refl; other = λ _. refl }
new_agrees_all KskDoubleDsRoll = record { ksk = λ _. refl; zsk = λ _. refl; csk = λ _ _. refl; other = λ _. refl }
new_agrees_all ZskRoll = record { ksk = λ _. refl; zsk = λ _. refl; csk = λ _ _. refl; other = λ _. refl }
new_agrees_all ZskDoubleSignatureRoll = record { ksk = λ _. refl; zsk = λ _. refl; csk = λ _ _. refl; other = λ _. refl }
new_agrees_all CskRoll = record { ksk = λ _. refl; zsk = λ _. refl; csk = λ _ _. refl; other = λ _. refl }
new_agrees_all AlgorithmRoll = record { ksk = λ _. refl; zsk = λ _. refl; csk = λ _ _. refl; other = λ _. refl }

pub new_agrees : (r : RollType) (t : KeyType) → (touches r t && keeps_all t) ≡ true → (agrees (new_roles r t)) ≡ true
new_agrees r t h = from_implies (touches r t && keeps_all t) (agrees (new_roles r t)) (of_all (new_agrees_test r) (new_agrees_all r) t) h

abbrev old_agrees_test : RollType → KeyType → Bool
old_agrees_test r t = implies (touches r t && keeps_all t) (agrees (on_each (set_old true) t))

old_agrees_all : (r : RollType) → OfAll (old_agrees_test r)
old_agrees_all KskRoll = record { ksk = λ _. refl; zsk = λ _. refl; csk = λ _ _. refl; other = λ _. refl }
old_agrees_all KskDoubleDsRoll = record { ksk = λ _. refl; zsk = λ _. refl; csk = λ _ _. refl; other = λ _. refl }
old_agrees_all ZskRoll = record { ksk = λ _. refl; zsk = λ _. refl; csk = λ _ _. refl; other = λ _. refl }
old_agrees_all ZskDoubleSignatureRoll = record { ksk = λ _. refl; zsk = λ _. refl; csk = λ _ _. refl; other = λ _. refl }
old_agrees_all CskRoll = record { ksk = λ _. refl; zsk = λ _. refl; csk = λ _ _. refl; other = λ _. refl }
old_agrees_all AlgorithmRoll = record { ksk = λ _. refl; zsk = λ _. refl; csk = λ _ _. refl; other = λ _. refl }

pub old_agrees : (r : RollType) (t : KeyType) → (touches r t && keeps_all t) ≡ true → (agrees (on_each (set_old true) t)) ≡ true
old_agrees r t h = from_implies (touches r t && keeps_all t) (agrees (on_each (set_old true) t)) (of_all (old_agrees_test r) (old_agrees_all r) t) h

abbrev wait1_agrees_test : RollType → KeyType → Bool
wait1_agrees_test r t = implies (touches r t && keeps_all t) (agrees (wait1_roles r t))

wait1_agrees_all : (r : RollType) → OfAll (wait1_agrees_test r)
wait1_agrees_all KskRoll = record { ksk = λ _. refl; zsk = λ _. refl; csk = λ _ _. refl; other = λ _. refl }
wait1_agrees_all KskDoubleDsRoll = record { ksk = λ _. refl; zsk = λ _. refl; csk = λ _ _. refl; other = λ _. refl }
wait1_agrees_all ZskRoll = record { ksk = λ _. refl; zsk = λ _. refl; csk = λ _ _. refl; other = λ _. refl }
wait1_agrees_all ZskDoubleSignatureRoll = record { ksk = λ _. refl; zsk = λ _. refl; csk = λ _ _. refl; other = λ _. refl }
wait1_agrees_all CskRoll = record { ksk = λ _. refl; zsk = λ _. refl; csk = λ _ _. refl; other = λ _. refl }
wait1_agrees_all AlgorithmRoll = record { ksk = λ _. refl; zsk = λ _. refl; csk = λ _ _. refl; other = λ _. refl }

pub wait1_agrees : (r : RollType) (t : KeyType) → (touches r t && keeps_all t) ≡ true → (agrees (wait1_roles r t)) ≡ true
wait1_agrees r t h = from_implies (touches r t && keeps_all t) (agrees (wait1_roles r t)) (of_all (wait1_agrees_test r) (wait1_agrees_all r) t) h

abbrev wait2_agrees_test : RollType → KeyType → Bool
wait2_agrees_test r t = implies (touches r t && keeps_all t) (agrees (wait2_roles r t))

wait2_agrees_all : (r : RollType) → OfAll (wait2_agrees_test r)
wait2_agrees_all KskRoll = record { ksk = λ _. refl; zsk = λ _. refl; csk = λ _ _. refl; other = λ _. refl }
wait2_agrees_all KskDoubleDsRoll = record { ksk = λ _. refl; zsk = λ _. refl; csk = λ _ _. refl; other = λ _. refl }
wait2_agrees_all ZskRoll = record { ksk = λ _. refl; zsk = λ _. refl; csk = λ _ _. refl; other = λ _. refl }
wait2_agrees_all ZskDoubleSignatureRoll = record { ksk = λ _. refl; zsk = λ _. refl; csk = λ _ _. refl; other = λ _. refl }
wait2_agrees_all CskRoll = record { ksk = λ _. refl; zsk = λ _. refl; csk = λ _ _. refl; other = λ _. refl }
wait2_agrees_all AlgorithmRoll = record { ksk = λ _. refl; zsk = λ _. refl; csk = λ _ _. refl; other = λ _. refl }

pub wait2_agrees : (r : RollType) (t : KeyType) → (touches r t && keeps_all t) ≡ true → (agrees (wait2_roles r t)) ≡ true
wait2_agrees r t h = from_implies (touches r t && keeps_all t) (agrees (wait2_roles r t)) (of_all (wait2_agrees_test r) (wait2_agrees_all r) t) h

-- the rolls whose new ZSK role signs from the first wait on
abbrev pub signs_late : RollType → Bool
signs_late ZskRoll = true
signs_late CskRoll = true
signs_late _ = false

-- present ZSK roles that stay sign
abbrev new_settled_test : RollType → KeyType → Bool
new_settled_test r t = implies (not (signs_late r) && is_settled t) (is_settled (new_roles r t))

new_settled_all : (r : RollType) → OfAll (new_settled_test r)
new_settled_all KskRoll = record { ksk = λ _. refl; zsk = λ _. refl; csk = λ _ _. refl; other = λ _. refl }
new_settled_all KskDoubleDsRoll = record { ksk = λ _. refl; zsk = λ _. refl; csk = λ _ _. refl; other = λ _. refl }
new_settled_all ZskRoll = record { ksk = λ _. refl; zsk = λ _. refl; csk = λ _ _. refl; other = λ _. refl }
new_settled_all ZskDoubleSignatureRoll = record { ksk = λ _. refl; zsk = λ _. refl; csk = λ _ _. refl; other = λ _. refl }
new_settled_all CskRoll = record { ksk = λ _. refl; zsk = λ _. refl; csk = λ _ _. refl; other = λ _. refl }
new_settled_all AlgorithmRoll = record { ksk = λ _. refl; zsk = λ _. refl; csk = λ _ _. refl; other = λ _. refl }

pub new_settled : (r : RollType) (t : KeyType) → (not (signs_late r) && is_settled t) ≡ true → (is_settled (new_roles r t)) ≡ true
new_settled r t h = from_implies (not (signs_late r) && is_settled t) (is_settled (new_roles r t)) (of_all (new_settled_test r) (new_settled_all r) t) h

abbrev old_settled_test : RollType → KeyType → Bool
old_settled_test r t = implies (is_settled t) (is_settled (on_each (set_old true) t))

old_settled_all : (r : RollType) → OfAll (old_settled_test r)
old_settled_all KskRoll = record { ksk = λ _. refl; zsk = λ _. refl; csk = λ _ _. refl; other = λ _. refl }
old_settled_all KskDoubleDsRoll = record { ksk = λ _. refl; zsk = λ _. refl; csk = λ _ _. refl; other = λ _. refl }
old_settled_all ZskRoll = record { ksk = λ _. refl; zsk = λ _. refl; csk = λ _ _. refl; other = λ _. refl }
old_settled_all ZskDoubleSignatureRoll = record { ksk = λ _. refl; zsk = λ _. refl; csk = λ _ _. refl; other = λ _. refl }
old_settled_all CskRoll = record { ksk = λ _. refl; zsk = λ _. refl; csk = λ _ _. refl; other = λ _. refl }
old_settled_all AlgorithmRoll = record { ksk = λ _. refl; zsk = λ _. refl; csk = λ _ _. refl; other = λ _. refl }

pub old_settled : (r : RollType) (t : KeyType) → (is_settled t) ≡ true → (is_settled (on_each (set_old true) t)) ≡ true
old_settled r t h = from_implies (is_settled t) (is_settled (on_each (set_old true) t)) (of_all (old_settled_test r) (old_settled_all r) t) h

abbrev wait1_settled_test : RollType → KeyType → Bool
wait1_settled_test r t = implies (touches r t && (signs_late r || is_settled t)) (is_settled (wait1_roles r t))

wait1_settled_all : (r : RollType) → OfAll (wait1_settled_test r)
wait1_settled_all KskRoll = record { ksk = λ _. refl; zsk = λ _. refl; csk = λ _ _. refl; other = λ _. refl }
wait1_settled_all KskDoubleDsRoll = record { ksk = λ _. refl; zsk = λ _. refl; csk = λ _ _. refl; other = λ _. refl }
wait1_settled_all ZskRoll = record { ksk = λ _. refl; zsk = λ _. refl; csk = λ _ _. refl; other = λ _. refl }
wait1_settled_all ZskDoubleSignatureRoll = record { ksk = λ _. refl; zsk = λ _. refl; csk = λ _ _. refl; other = λ _. refl }
wait1_settled_all CskRoll = record { ksk = λ _. refl; zsk = λ _. refl; csk = λ _ _. refl; other = λ _. refl }
wait1_settled_all AlgorithmRoll = record { ksk = λ _. refl; zsk = λ _. refl; csk = λ _ _. refl; other = λ _. refl }

pub wait1_settled : (r : RollType) (t : KeyType) → (touches r t && (signs_late r || is_settled t)) ≡ true → (is_settled (wait1_roles r t)) ≡ true
wait1_settled r t h = from_implies (touches r t && (signs_late r || is_settled t)) (is_settled (wait1_roles r t)) (of_all (wait1_settled_test r) (wait1_settled_all r) t) h

abbrev wait2_settled_test : RollType → KeyType → Bool
wait2_settled_test r t = implies (is_settled t) (is_settled (wait2_roles r t))

wait2_settled_all : (r : RollType) → OfAll (wait2_settled_test r)
wait2_settled_all KskRoll = record { ksk = λ _. refl; zsk = λ _. refl; csk = λ _ _. refl; other = λ _. refl }
wait2_settled_all KskDoubleDsRoll = record { ksk = λ _. refl; zsk = λ _. refl; csk = λ _ _. refl; other = λ _. refl }
wait2_settled_all ZskRoll = record { ksk = λ _. refl; zsk = λ _. refl; csk = λ _ _. refl; other = λ _. refl }
wait2_settled_all ZskDoubleSignatureRoll = record { ksk = λ _. refl; zsk = λ _. refl; csk = λ _ _. refl; other = λ _. refl }
wait2_settled_all CskRoll = record { ksk = λ _. refl; zsk = λ _. refl; csk = λ _ _. refl; other = λ _. refl }
wait2_settled_all AlgorithmRoll = record { ksk = λ _. refl; zsk = λ _. refl; csk = λ _ _. refl; other = λ _. refl }

pub wait2_settled : (r : RollType) (t : KeyType) → (is_settled t) ≡ true → (is_settled (wait2_roles r t)) ≡ true
wait2_settled r t h = from_implies (is_settled t) (is_settled (wait2_roles r t)) (of_all (wait2_settled_test r) (wait2_settled_all r) t) h

pub fresh_agrees : (kind : Kind) (a : Bool) → agrees (roles_of kind a) ≡ true
fresh_agrees OfKsk a = refl
fresh_agrees OfZsk a = refl
fresh_agrees OfCsk a = refl
fresh_agrees OfOther a = refl

pub fresh_settled : (kind : Kind) (a : Bool) → is_settled (roles_of kind a) ≡ true
fresh_settled OfKsk a = refl
fresh_settled OfZsk a = refl
fresh_settled OfCsk a = refl
fresh_settled OfOther a = refl

pub fresh_unshown : (kind : Kind) (a : Bool) → is_shown OfKeys DsSet (roles_of kind a) ≡ false
fresh_unshown OfKsk a = refl
fresh_unshown OfZsk a = refl
fresh_unshown OfCsk a = refl
fresh_unshown OfOther a = refl
