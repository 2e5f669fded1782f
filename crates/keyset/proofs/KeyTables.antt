-- Facts on flags, found by going over all of them.
use Rattle.std.proofs.Common.{◌≡◌, Bool, true, false, refl, ◌&&◌, ◌||◌, not}
use Rattle.keyset_keys.specs.declared.keys.KeyType.{KeyType}
use Rattle.keyset_keys.specs.declared.keys.KeyType.TheVariants.{Ksk, Zsk, Csk, Include}
use Rattle.keyset_rolls.specs.declared.rolls.RollType.{RollType}
use Rattle.keyset_rolls.specs.declared.rolls.RollType.TheVariants.{KskRoll, KskDoubleDsRoll, ZskRoll, ZskDoubleSignatureRoll, CskRoll, AlgorithmRoll}
use Rattle.keyset_rolls.specs.declared.rolls.Turn.TheVariants.{First, Second}
use Rattle.keyset_rolls.specs.Rolls.{touches, watched, new_roles, wait1_roles, wait2_roles}
use Rattle.keyset.specs.KeyState.{Flags, current, is_present, ksk_is, on_each, set_old}
use Rattle.keyset.specs.KeyRuns.{Kind, OfKsk, OfZsk, OfCsk, OfOther, roles_of}
use Rattle.keyset.specs.KeyRunLaws.{keeps_roles}

pub and_left : (a b : Bool) → (a && b) ≡ true → a ≡ true
and_left true b h = refl
and_left false b h = cc

pub and_right : (a b : Bool) → (a && b) ≡ true → b ≡ true
and_right true b h = h
and_right false b h = cc

abbrev pub implies : Bool → Bool → Bool
implies a b = not a || b

pub from_implies : (a b : Bool) → implies a b ≡ true → a ≡ true → b ≡ true
from_implies true b h k = h
from_implies false b h k = cc

-- ---- all truth values, flags, roles, rolls

abbrev for_both : (Bool → Bool) → Bool
for_both p = p true && p false

by_both : (p : Bool → Bool) → for_both p ≡ true → (b : Bool) → p b ≡ true
by_both p h true = and_left (p true) (p false) h
by_both p h false = and_right (p true) (p false) h

abbrev flags : Bool → Bool → Bool → Bool → Bool → Flags
flags a o s p t = record { available = a; old = o; signer = s; present = p; at_parent = t }

abbrev for_flags : Bool → (Flags → Bool) → Bool
for_flags a q = for_both (λ o. for_both (λ s. for_both (λ p. for_both (λ t. q (flags a o s p t)))))

by_flags : (a : Bool) (q : Flags → Bool) → for_flags a q ≡ true → (o s p t : Bool) → q (flags a o s p t) ≡ true
by_flags a q h o s p t =
    by_both (λ t. q (flags a o s p t))
    (by_both (λ p. for_both (λ t. q (flags a o s p t)))
    (by_both (λ s. for_both (λ p. for_both (λ t. q (flags a o s p t))))
    (by_both (λ o. for_both (λ s. for_both (λ p. for_both (λ t. q (flags a o s p t))))) h o) s) p) t

-- a fact on roles that holds of all flags
pub record OfAll (q : KeyType → Bool) : Type 0 where
  pub ksk : (a : Bool) → for_flags a (λ f. q (Ksk f)) ≡ true
  pub zsk : (a : Bool) → for_flags a (λ f. q (Zsk f)) ≡ true
  pub csk : (a b : Bool) → for_flags a (λ f. for_flags b (λ g. q (Csk f g))) ≡ true
  pub other : (a : Bool) → for_flags a (λ f. q (Include f)) ≡ true

pub of_all : (q : KeyType → Bool) → OfAll q → (t : KeyType) → q t ≡ true
of_all q h (Ksk f) = by_flags f.available (λ f. q (Ksk f)) (h.ksk f.available) f.old f.signer f.present f.at_parent
of_all q h (Zsk f) = by_flags f.available (λ f. q (Zsk f)) (h.zsk f.available) f.old f.signer f.present f.at_parent
of_all q h (Csk f g) =
    by_flags g.available (λ g. q (Csk f g))
    (by_flags f.available (λ f. for_flags g.available (λ g. q (Csk f g))) (h.csk f.available g.available) f.old f.signer f.present f.at_parent)
    g.old g.signer g.present g.at_parent
of_all q h (Include f) = by_flags f.available (λ f. q (Include f)) (h.other f.available) f.old f.signer f.present f.at_parent

-- ---- roles keep what they are to keep

abbrev new_test : RollType → KeyType → Bool
new_test r t = implies (touches r t && keeps_roles t) (keeps_roles (new_roles r t))

abbrev old_test : RollType → KeyType → Bool
old_test r t = implies (touches r t && keeps_roles t) (keeps_roles (on_each (set_old true) t))

abbrev wait1_test : RollType → KeyType → Bool
wait1_test r t = implies (touches r t && keeps_roles t) (keeps_roles (wait1_roles r t))

abbrev wait2_test : RollType → KeyType → Bool
wait2_test r t = implies (touches r t && keeps_roles t) (keeps_roles (wait2_roles r t))

new_all : (r : RollType) → OfAll (new_test r)
new_all KskRoll = record { ksk = λ _. refl; zsk = λ _. refl; csk = λ _ _. refl; other = λ _. refl }
new_all KskDoubleDsRoll = record { ksk = λ _. refl; zsk = λ _. refl; csk = λ _ _. refl; other = λ _. refl }
new_all ZskRoll = record { ksk = λ _. refl; zsk = λ _. refl; csk = λ _ _. refl; other = λ _. refl }
new_all ZskDoubleSignatureRoll = record { ksk = λ _. refl; zsk = λ _. refl; csk = λ _ _. refl; other = λ _. refl }
new_all CskRoll = record { ksk = λ _. refl; zsk = λ _. refl; csk = λ _ _. refl; other = λ _. refl }
new_all AlgorithmRoll = record { ksk = λ _. refl; zsk = λ _. refl; csk = λ _ _. refl; other = λ _. refl }

old_all : (r : RollType) → OfAll (old_test r)
old_all KskRoll = record { ksk = λ _. refl; zsk = λ _. refl; csk = λ _ _. refl; other = λ _. refl }
old_all KskDoubleDsRoll = record { ksk = λ _. refl; zsk = λ _. refl; csk = λ _ _. refl; other = λ _. refl }
old_all ZskRoll = record { ksk = λ _. refl; zsk = λ _. refl; csk = λ _ _. refl; other = λ _. refl }
old_all ZskDoubleSignatureRoll = record { ksk = λ _. refl; zsk = λ _. refl; csk = λ _ _. refl; other = λ _. refl }
old_all CskRoll = record { ksk = λ _. refl; zsk = λ _. refl; csk = λ _ _. refl; other = λ _. refl }
old_all AlgorithmRoll = record { ksk = λ _. refl; zsk = λ _. refl; csk = λ _ _. refl; other = λ _. refl }

wait1_all : (r : RollType) → OfAll (wait1_test r)
wait1_all KskRoll = record { ksk = λ _. refl; zsk = λ _. refl; csk = λ _ _. refl; other = λ _. refl }
wait1_all KskDoubleDsRoll = record { ksk = λ _. refl; zsk = λ _. refl; csk = λ _ _. refl; other = λ _. refl }
wait1_all ZskRoll = record { ksk = λ _. refl; zsk = λ _. refl; csk = λ _ _. refl; other = λ _. refl }
wait1_all ZskDoubleSignatureRoll = record { ksk = λ _. refl; zsk = λ _. refl; csk = λ _ _. refl; other = λ _. refl }
wait1_all CskRoll = record { ksk = λ _. refl; zsk = λ _. refl; csk = λ _ _. refl; other = λ _. refl }
wait1_all AlgorithmRoll = record { ksk = λ _. refl; zsk = λ _. refl; csk = λ _ _. refl; other = λ _. refl }

wait2_all : (r : RollType) → OfAll (wait2_test r)
wait2_all KskRoll = record { ksk = λ _. refl; zsk = λ _. refl; csk = λ _ _. refl; other = λ _. refl }
wait2_all KskDoubleDsRoll = record { ksk = λ _. refl; zsk = λ _. refl; csk = λ _ _. refl; other = λ _. refl }
wait2_all ZskRoll = record { ksk = λ _. refl; zsk = λ _. refl; csk = λ _ _. refl; other = λ _. refl }
wait2_all ZskDoubleSignatureRoll = record { ksk = λ _. refl; zsk = λ _. refl; csk = λ _ _. refl; other = λ _. refl }
wait2_all CskRoll = record { ksk = λ _. refl; zsk = λ _. refl; csk = λ _ _. refl; other = λ _. refl }
wait2_all AlgorithmRoll = record { ksk = λ _. refl; zsk = λ _. refl; csk = λ _ _. refl; other = λ _. refl }

pub join : (a b : Bool) → a ≡ true → b ≡ true → (a && b) ≡ true
join true b h k = k
join false b h k = cc

pub new_keeps : (r : RollType) (t : KeyType) → touches r t ≡ true → keeps_roles t ≡ true → keeps_roles (new_roles r t) ≡ true
new_keeps r t h k = from_implies (touches r t && keeps_roles t) (keeps_roles (new_roles r t)) (of_all (new_test r) (new_all r) t) (join (touches r t) (keeps_roles t) h k)

pub old_keeps : (r : RollType) (t : KeyType) → touches r t ≡ true → keeps_roles t ≡ true → keeps_roles (on_each (set_old true) t) ≡ true
old_keeps r t h k = from_implies (touches r t && keeps_roles t) (keeps_roles (on_each (set_old true) t)) (of_all (old_test r) (old_all r) t) (join (touches r t) (keeps_roles t) h k)

pub wait1_keeps : (r : RollType) (t : KeyType) → touches r t ≡ true → keeps_roles t ≡ true → keeps_roles (wait1_roles r t) ≡ true
wait1_keeps r t h k = from_implies (touches r t && keeps_roles t) (keeps_roles (wait1_roles r t)) (of_all (wait1_test r) (wait1_all r) t) (join (touches r t) (keeps_roles t) h k)

pub wait2_keeps : (r : RollType) (t : KeyType) → touches r t ≡ true → keeps_roles t ≡ true → keeps_roles (wait2_roles r t) ≡ true
wait2_keeps r t h k = from_implies (touches r t && keeps_roles t) (keeps_roles (wait2_roles r t)) (of_all (wait2_test r) (wait2_all r) t) (join (touches r t) (keeps_roles t) h k)

pub fresh_keeps : (kind : Kind) (a : Bool) → keeps_roles (roles_of kind a) ≡ true
fresh_keeps OfKsk a = refl
fresh_keeps OfZsk a = refl
fresh_keeps OfCsk a = refl
fresh_keeps OfOther a = refl

-- ---- what waits look at

-- a role of the KSK that signs is present
signing_test : KeyType → Bool
signing_test t = implies (keeps_roles t && ksk_is (current (λ f. f.signer)) t) (ksk_is (current is_present) t)

pub signing_is_present : (t : KeyType) → keeps_roles t ≡ true → ksk_is (current (λ f. f.signer)) t ≡ true → ksk_is (current is_present) t ≡ true
unfolding signing_test
signing_is_present t h k =
    from_implies (keeps_roles t && ksk_is (current (λ f. f.signer)) t) (ksk_is (current is_present) t)
    (of_all signing_test (record { ksk = λ _. refl; zsk = λ _. refl; csk = λ _ _. refl; other = λ _. refl }) t)
    (join (keeps_roles t) (ksk_is (current (λ f. f.signer)) t) h k)

-- no wait looks at a key that was added and not used
pub fresh_unwatched1 : (r : RollType) (kind : Kind) (a : Bool) → watched First r (roles_of kind a) ≡ false
fresh_unwatched1 KskRoll OfKsk a = refl
fresh_unwatched1 KskDoubleDsRoll OfKsk a = refl
fresh_unwatched1 ZskRoll OfKsk a = refl
fresh_unwatched1 ZskDoubleSignatureRoll OfKsk a = refl
fresh_unwatched1 CskRoll OfKsk a = refl
fresh_unwatched1 AlgorithmRoll OfKsk a = refl
fresh_unwatched1 _ _ a = refl

pub fresh_unwatched2 : (r : RollType) (kind : Kind) (a : Bool) → watched Second r (roles_of kind a) ≡ false
fresh_unwatched2 KskRoll OfKsk a = refl
fresh_unwatched2 KskDoubleDsRoll OfKsk a = refl
fresh_unwatched2 ZskRoll OfKsk a = refl
fresh_unwatched2 ZskDoubleSignatureRoll OfKsk a = refl
fresh_unwatched2 CskRoll OfKsk a = refl
fresh_unwatched2 AlgorithmRoll OfKsk a = refl
fresh_unwatched2 _ _ a = refl
