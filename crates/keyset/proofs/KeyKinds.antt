-- The kind of a key: what rolls touch, and that their changes keep it.
use Rattle.std.proofs.Common.{◌≡◌, Bool, true, false, cond, refl, sym, ap, ◌∙◌, ◌&&◌, ◌||◌, not, inl, inr, ⊎_elim}
use Rattle.std.specs.Prelude.{◌⊎◌}
use Rattle.keyset_keys.specs.declared.keys.KeyType.{KeyType}
use Rattle.keyset_keys.specs.declared.keys.KeyType.TheVariants.{Ksk, Zsk, Csk, Include}
use Rattle.keyset_rolls.specs.declared.rolls.RollType.{RollType}
use Rattle.keyset_rolls.specs.declared.rolls.RollType.TheVariants.{KskRoll, KskDoubleDsRoll, ZskRoll, ZskDoubleSignatureRoll, CskRoll, AlgorithmRoll}
use Rattle.keyset_rolls.specs.Changes.{serve, retire, hand_over, swap, take_over, retire_old, leave, fade, leave_parent}
use Rattle.keyset_rolls.specs.Rolls.{touches, conflicts, is_of_ksks, is_of_zsks, new_roles, started_roles, wait1_roles, wait2_roles}
use Rattle.keyset.specs.KeyState.{Flags, on_ksk, on_zsk, on_each, set_old, set_present, set_at_parent, main_is, outgoing, is_present}

pub data KeyKind : Type 0 where
  IsKsk : KeyKind
  IsZsk : KeyKind
  IsCsk : KeyKind
  IsOther : KeyKind

abbrev pub kind_of : KeyType → KeyKind
kind_of (Ksk f) = IsKsk
kind_of (Zsk f) = IsZsk
kind_of (Csk f g) = IsCsk
kind_of (Include f) = IsOther

-- ---- what rolls touch

abbrev touches_kind : RollType → KeyKind → Bool
touches_kind KskRoll IsKsk = true
touches_kind KskDoubleDsRoll IsKsk = true
touches_kind ZskRoll IsZsk = true
touches_kind ZskDoubleSignatureRoll IsZsk = true
touches_kind CskRoll IsOther = false
touches_kind CskRoll _ = true
touches_kind AlgorithmRoll IsOther = false
touches_kind AlgorithmRoll _ = true
touches_kind _ _ = false

by_kind : (r : RollType) (t : KeyType) → touches r t ≡ touches_kind r (kind_of t)
by_kind KskRoll (Ksk f) = refl
by_kind KskDoubleDsRoll (Ksk f) = refl
by_kind ZskRoll (Ksk f) = refl
by_kind ZskDoubleSignatureRoll (Ksk f) = refl
by_kind CskRoll (Ksk f) = refl
by_kind AlgorithmRoll (Ksk f) = refl
by_kind _ _ = refl

-- keys of one kind are touched alike
pub touches_alike : (r : RollType) (t u : KeyType) → kind_of t ≡ kind_of u → touches r t ≡ touches r u
touches_alike r t u h = by_kind r t ∙ ap (touches_kind r) h ∙ sym (by_kind r u)

abbrev is_ksk : KeyType → Bool
is_ksk (Ksk f) = true
is_ksk _ = false

abbrev is_zsk : KeyType → Bool
is_zsk (Zsk f) = true
is_zsk _ = false

ksks_alone : (r : RollType) (t : KeyType) → is_of_ksks r ≡ true → touches r t ≡ is_ksk t
ksks_alone KskRoll (Ksk f) h = refl
ksks_alone KskDoubleDsRoll (Ksk f) h = refl
ksks_alone _ _ h = cc

zsks_alone : (r : RollType) (t : KeyType) → is_of_zsks r ≡ true → touches r t ≡ is_zsk t
zsks_alone ZskRoll (Zsk f) h = refl
zsks_alone ZskDoubleSignatureRoll (Zsk f) h = refl
zsks_alone _ _ h = cc

not_both : (t : KeyType) → is_ksk t ≡ true → is_zsk t ≡ true → ⊥
not_both (Ksk f) h k = cc
not_both _ h k = cc

either : (a b c d : Bool) → not ((a && b) || (c && d)) ≡ false → ((a ≡ true) × (b ≡ true)) ⊎ ((c ≡ true) × (d ≡ true))
either true true c d h = inl (refl, refl)
either true false true true h = inr (refl, refl)
either false b true true h = inr (refl, refl)
either _ _ _ _ h = cc

is_false : (b : Bool) → (b ≡ true → ⊥) → b ≡ false
is_false true h = absurd (h refl)
is_false false h = refl

-- of two rolls that may run together, one touches no key that the other touches
pub apart : (a b : RollType) (t : KeyType) → conflicts a b ≡ false → touches a t ≡ true → touches b t ≡ false
apart a b t c h = is_false (touches b t) (λ k. ⊎_elim
    (λ (w : (is_of_ksks a ≡ true) × (is_of_zsks b ≡ true)). not_both t (sym (ksks_alone a t w.0) ∙ h) (sym (zsks_alone b t w.1) ∙ k))
    (λ (w : (is_of_zsks a ≡ true) × (is_of_ksks b ≡ true)). not_both t (sym (ksks_alone b t w.1) ∙ k) (sym (zsks_alone a t w.0) ∙ h))
    (either (is_of_ksks a) (is_of_zsks b) (is_of_zsks a) (is_of_ksks b) c))

turned : (a b c d : Bool) → not ((a && b) || (c && d)) ≡ not ((d && c) || (b && a))
turned true true c d = elim (d && c) as (λ e. false ≡ not (e || true)) [ true ↦ refl | false ↦ refl ]
turned true false true true = refl
turned true false true false = refl
turned true false false true = refl
turned true false false false = refl
turned false true true true = refl
turned false true true false = refl
turned false true false true = refl
turned false true false false = refl
turned false false true true = refl
turned false false true false = refl
turned false false false true = refl
turned false false false false = refl

-- a roll is in the other's way where the other is in its way
pub conflicts_both : (a b : RollType) → conflicts a b ≡ conflicts b a
conflicts_both a b = turned (is_of_ksks a) (is_of_zsks b) (is_of_zsks a) (is_of_ksks b)

-- ---- what changes keep

kind_on_ksk : (h : Flags → Flags) (t : KeyType) → kind_of (on_ksk h t) ≡ kind_of t
kind_on_ksk h (Ksk f) = refl
kind_on_ksk h _ = refl

kind_on_zsk : (h : Flags → Flags) (t : KeyType) → kind_of (on_zsk h t) ≡ kind_of t
kind_on_zsk h (Ksk f) = refl
kind_on_zsk h _ = refl

kind_on_each : (h : Flags → Flags) (t : KeyType) → kind_of (on_each h t) ≡ kind_of t
kind_on_each h (Ksk f) = refl
kind_on_each h _ = refl

kind_new : (r : RollType) (t : KeyType) → kind_of (new_roles r t) ≡ kind_of t
kind_new KskRoll t = kind_on_ksk serve t
kind_new KskDoubleDsRoll t = kind_on_ksk (set_at_parent true) t
kind_new ZskRoll t = kind_on_zsk (set_present true) t
kind_new ZskDoubleSignatureRoll t = kind_on_zsk serve t
kind_new CskRoll t = kind_on_zsk (set_present true) (on_ksk serve t) ∙ kind_on_ksk serve t
kind_new AlgorithmRoll t = kind_on_each serve t

pub kind_started : (r : RollType) (is_old is_new : Bool) (t : KeyType) → kind_of (started_roles r is_old is_new t) ≡ kind_of t
kind_started r is_old true t = kind_new r t
kind_started r true false t = kind_on_each (set_old true) t
kind_started r false false t = refl

pub kind_wait1 : (r : RollType) (t : KeyType) → kind_of (wait1_roles r t) ≡ kind_of t
kind_wait1 KskRoll t = kind_on_ksk hand_over t
kind_wait1 KskDoubleDsRoll t = kind_on_ksk swap t
kind_wait1 ZskRoll t = kind_on_zsk take_over t
kind_wait1 ZskDoubleSignatureRoll t = kind_on_zsk retire_old t
kind_wait1 CskRoll t = kind_on_zsk take_over (on_ksk hand_over t) ∙ kind_on_ksk hand_over t
kind_wait1 AlgorithmRoll t = kind_on_ksk hand_over t

pub kind_wait2 : (r : RollType) (t : KeyType) → kind_of (wait2_roles r t) ≡ kind_of t
kind_wait2 KskRoll t = kind_on_ksk leave t
kind_wait2 KskDoubleDsRoll t = kind_on_ksk leave_parent t
kind_wait2 ZskRoll t = kind_on_zsk fade t
kind_wait2 ZskDoubleSignatureRoll t = refl
kind_wait2 CskRoll t = kind_on_zsk fade (on_ksk leave t) ∙ kind_on_ksk leave t
kind_wait2 AlgorithmRoll t = elim (main_is (outgoing is_present) t) as (λ b. kind_of (cond b (on_each retire t) t) ≡ kind_of t) [ true ↦ kind_on_each retire t | false ↦ refl ]
