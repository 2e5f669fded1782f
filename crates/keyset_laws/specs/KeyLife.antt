-- What of a key set's life is replaced and retired, and what meets. Contents and reports alone stand here: no phase and no flag
-- of a key takes part.
use Rattle.std.specs.Prelude.{ℕ, ◌+◌, ◌-◌, ◌*◌, Bool, true, false, not, ◌&&◌, ◌||◌, List, [], ◌∷◌, map, take, drop, Some, None, Ok, Err, nat_eq, nat_le, nat_lt, if◌then◌else◌}
use Rattle.std.specs.List.{list_any}
use Rattle.std.specs.Str.{bytes_eq}
use Rattle.keyset_rolls.specs.declared.rolls.RollType.{RollType}
use Rattle.keyset_rolls.specs.declared.rolls.RollType.TheVariants as roll
use Rattle.keyset.specs.KeyState.{KeySetState, Reference, ds, key_of, keysigners, listed, present, zonesigners}
use Rattle.keyset.specs.KeyRuns.{Call, Report1, Report2, Start, Wait1, on_state}
use Rattle.keyset.specs.KeyRunLaws.{same_roll}

-- an accepted call, its moment, and the keys behind it
pub record Step : Type 0 where
  pub at : ℕ
  pub call : Call
  pub left : KeySetState

-- the accepted ones of some calls
abbrev pub accepted : KeySetState → List (ℕ × Call) → List Step
accepted s [] = []
accepted s (c ∷ cs) = elim (on_state c.1 c.0 s) [
  | Ok a ↦ record { at = c.0; call = c.1; left = a.0 } ∷ accepted a.0 cs
  | Err e ↦ accepted s cs
]

-- the keys before the first accepted call, and behind each
abbrev pub states : KeySetState → List Step → List KeySetState
states s ss = s ∷ map (λ t. t.left) ss

-- what is handed out of a zone: the parent's DS set, the DNSKEY answer, an answer of the zone
pub data Thing : Type 0 where
  DsSet : Thing
  DnskeyAnswer : Thing
  ZoneAnswer : Thing

abbrev pub same_thing : Thing → Thing → Bool
same_thing DsSet DsSet = true
same_thing DnskeyAnswer DnskeyAnswer = true
same_thing ZoneAnswer ZoneAnswer = true
same_thing _ _ = false

-- What a thing shows of the keys: the DS set the keys at the parent; the DNSKEY answer the keys present and those that
-- sign it; an answer of the zone those that sign it.
abbrev pub content : Thing → KeySetState → List (List Reference)
content DsSet s = ds s ∷ []
content DnskeyAnswer s = present s ∷ keysigners s ∷ []
content ZoneAnswer s = zonesigners s ∷ []

abbrev pub same_references : List Reference → List Reference → Bool
same_references [] [] = true
same_references (p ∷ ps) (q ∷ qs) = bytes_eq p q && same_references ps qs
same_references _ _ = false

abbrev pub same_content : List (List Reference) → List (List Reference) → Bool
same_content [] [] = true
same_content (p ∷ ps) (q ∷ qs) = same_references p q && same_content ps qs
same_content _ _ = false

-- whether the content of a thing changes at some call of these states, each but the first behind one call
abbrev pub changes_along : Thing → List KeySetState → Bool
changes_along thing [] = false
changes_along thing (s ∷ []) = false
changes_along thing (s ∷ t ∷ ss) = not (same_content (content thing s) (content thing t)) || changes_along thing (t ∷ ss)

-- what was handed out in state i is replaced by call c, where its content changes at some call behind i and up to c
abbrev pub replaced : Thing → List KeySetState → ℕ → ℕ → Bool
replaced thing ss i c = nat_lt i c && changes_along thing (take (c + 1 - i) (drop i ss))

-- the things of which a roll's first report says that they are everywhere, and those of its second
abbrev pub reported_first : RollType → List Thing
reported_first roll.KskRoll = DnskeyAnswer ∷ []
reported_first roll.KskDoubleDsRoll = DsSet ∷ []
reported_first roll.ZskRoll = DnskeyAnswer ∷ []
reported_first roll.ZskDoubleSignatureRoll = DnskeyAnswer ∷ ZoneAnswer ∷ []
reported_first roll.CskRoll = DnskeyAnswer ∷ []
reported_first roll.AlgorithmRoll = DnskeyAnswer ∷ ZoneAnswer ∷ []

abbrev pub reported_second : RollType → List Thing
reported_second roll.KskRoll = DsSet ∷ []
reported_second roll.KskDoubleDsRoll = DnskeyAnswer ∷ []
reported_second roll.ZskRoll = ZoneAnswer ∷ []
reported_second roll.ZskDoubleSignatureRoll = DnskeyAnswer ∷ ZoneAnswer ∷ []
reported_second roll.CskRoll = DsSet ∷ ZoneAnswer ∷ []
reported_second roll.AlgorithmRoll = DsSet ∷ []

-- the call that began what a report speaks of: the last start of the roll before it, or its last first wait
abbrev pub is_start : RollType → Call → Bool
is_start r (Start a olds news) = same_roll r a
is_start r _ = false

abbrev pub is_first_wait : RollType → Call → Bool
is_first_wait r (Wait1 a) = same_roll r a
is_first_wait r _ = false

-- how many calls there are up to and with the last that passes; 0 where none does
abbrev pub last_place : (Call → Bool) → List Step → ℕ
last_place p [] = 0
last_place p (s ∷ ss) = let later = last_place p ss in if nat_eq later 0 then (if p s.call then 1 else 0) else later + 1

-- a report at a place of the steps retires, at moment m, what was handed out in state i: its TTL has passed, and the thing was
-- replaced by the start or the first wait that it speaks of
abbrev pub retires : Thing → KeySetState → List Step → ℕ → ℕ → ℕ → Step → Bool
retires thing s ss i m place step = elim step.call [
  | Report1 r ttl ↦ list_any (same_thing thing) (reported_first r) && nat_le (step.at + ttl * 1000000000) m && replaced thing (states s ss) i (last_place (is_start r) (take place ss))
  | Report2 r ttl ↦ list_any (same_thing thing) (reported_second r) && nat_le (step.at + ttl * 1000000000) m && replaced thing (states s ss) i (last_place (is_first_wait r) (take place ss))
  | _ ↦ false
]

abbrev pub retired_from : Thing → KeySetState → List Step → ℕ → ℕ → ℕ → List Step → Bool
retired_from thing s all i m place [] = false
retired_from thing s all i m place (t ∷ ts) = retires thing s all i m place t || retired_from thing s all i m (place + 1) ts

-- whether what was handed out in state i is retired at moment m, behind these steps
abbrev pub retired : Thing → KeySetState → List Step → ℕ → ℕ → Bool
retired thing s ss i m = retired_from thing s ss i m 0 ss

-- ---- what meets

abbrev pub tags_of : KeySetState → List Reference → List ℕ
tags_of s [] = []
tags_of s (q ∷ qs) = elim (key_of s q) [ None ↦ tags_of s qs | Some k ↦ k.tag ∷ tags_of s qs ]

abbrev pub differ : List ℕ → Bool
differ [] = true
differ (t ∷ ts) = not (list_any (nat_eq t) ts) && differ ts

-- A DS set of the first keys, a DNSKEY answer of the second and an answer of the zone of the third meet: a key is at the parent
-- in the first, present and signing the keys in the second; a key is present in the second and signs the zone in the third;
-- and no two keys present in the second have one tag.
abbrev pub meet : KeySetState → KeySetState → KeySetState → Bool
meet i j k =
    list_any (λ q. listed (present j) q && listed (keysigners j) q) (ds i)
    && list_any (λ q. listed (zonesigners k) q) (present j)
    && differ (tags_of j (present j))
