-- What each roll keeps: which keys the things show that are not retired, in each phase of a roll. Each side of a validation has its
-- own.
use Rattle.std.specs.Prelude.{◌≡◌, ℕ, ◌*◌, ◌-◌, ◌≤◌, Bool, true, false, not, ◌&&◌, ◌||◌, List, ◌∷◌, ◌++◌, Option, Some, None, slice_get, ◌⊎◌}
use Rattle.std.specs.List.{list_all, list_any}
use Rattle.keyset_keys.specs.declared.keys.KeyType.{KeyType}
use Rattle.keyset_rolls.specs.declared.rolls.RollState.{RollState}
use Rattle.keyset_rolls.specs.declared.rolls.RollState.TheVariants as state
use Rattle.keyset_rolls.specs.declared.rolls.RollType.{RollType}
use Rattle.keyset_rolls.specs.declared.rolls.RollType.TheVariants.{AlgorithmRoll}
use Rattle.keyset.specs.KeyState.{Key, KeySetState, Reference, ds, key_of, phase_of}
use Rattle.keyset.specs.KeyRuns.{Call}
use Rattle.keyset.specs.KeyRunLaws.{Reports}
use Rattle.keyset_laws.specs.KeyLife.{DnskeyAnswer, DsSet, Step, Thing, is_first_wait, is_start, retired, states}
use Rattle.keyset_laws.specs.Sides.{OfKeys, Side, doubles, first_of, is_empty, is_lasting, is_on, is_ready, is_shown, partner, second_of, shows}

-- a whole life of keys, looked at from a moment
pub record Life : Type 0 where
  pub start : KeySetState
  pub steps : List Step
  pub moment : ℕ

-- each thing of this kind that was handed out behind these first steps and isn't retired passes a test of its state
abbrev pub Live : Life → Thing → List Step → (KeySetState → Bool) → Type 0
Live life thing steps test = (i : ℕ) (s : KeySetState) → slice_get (states life.start steps) i ≡ Some s → retired thing life.start life.steps i life.moment ≡ false → test s ≡ true

-- each state behind these steps has an empty DS set
abbrev pub NoDs : Life → List Step → Type 0
NoDs life steps = (i : ℕ) (s : KeySetState) → slice_get (states life.start steps) i ≡ Some s → is_empty (ds s) ≡ true

-- each state from the last such call on passes a test
pub record Since (begins : Call → Bool) (steps : List Step) (test : KeySetState → Bool) : Type 0 where
  pub before : List Step
  pub first : Step
  pub later : List Step
  pub all : steps ≡ before ++ first ∷ later
  pub begun : begins first.call ≡ true
  pub last : list_any (λ t. begins t.call) later ≡ false
  pub passed : list_all (λ t. test t.left) (first ∷ later) ≡ true

-- a key of these roles
abbrev pub HasKey : KeySetState → Reference → (KeyType → Bool) → Type 0
HasKey s q test = (k : Key) × (key_of s q ≡ Some k) × (test k.roles ≡ true)

-- One key, the anchor, is in all that is live of both things of a side, and in both now.
pub record Anchored (side : Side) (life : Life) (steps : List Step) (s : KeySetState) (q : Reference) : Type 0 where
  pub keys : Live life DnskeyAnswer steps (shows side DnskeyAnswer q)
  pub ends : Live life (partner side) steps (shows side (partner side) q)
  pub in_keys : HasKey s q (is_shown side DnskeyAnswer)
  pub in_ends : HasKey s q (is_shown side (partner side))

abbrev pub rests : Option RollState → Bool
rests None = true
rests (Some state.Done) = true
rests _ = false

-- No roll of the side is between its start and its second wait: there is an anchor.
pub record Resting (side : Side) (life : Life) (steps : List Step) (s : KeySetState) : Type 0 where
  pub anchor : Reference
  pub anchored : Anchored side life steps s anchor
  pub none_runs : (r : RollType) → is_on side r ≡ true → rests (phase_of s r) ≡ true

-- what grew with a start shows the new key
abbrev pub grown : Side → RollType → Reference → KeySetState → Bool
grown side r n s = shows side (first_of side r) n s && (not (doubles side r) || shows side (second_of side r) n s)

-- the TTL of a report has passed by a call's moment, and the call isn't behind the moment from which the life is looked at
abbrev pub HasRun : Life → ℕ → ℕ → Type 0
HasRun life since ttl = (now : ℕ) × (now ≤ life.moment) × (ttl * 1000000000 ≤ now - since)

-- What a first report is about: each state since the start shows the new key, so behind the report's TTL all that is live does.
abbrev pub Early : Side → RollType → Life → List Step → Reports → Reference → Option RollState → Type 0
Early side r life steps p n (Some state.Propagation1) = Since (is_start r) steps (grown side r n)
Early side r life steps p n (Some (state.CacheExpire1 ttl)) = (since : ℕ) → p.first ≡ Some (since, ttl) → HasRun life since ttl →
    Live life (first_of side r) steps (shows side (first_of side r) n) × (doubles side r ≡ true → Live life (second_of side r) steps (shows side (second_of side r) n))
Early side r life steps p n _ = ⊥

-- From a start to its first wait: the anchor of before serves still, and a new key stands beside it. Only the first roll of
-- all, that of the algorithm, has no anchor; there no DS set is published yet.
pub record Growing (side : Side) (r : RollType) (life : Life) (steps : List Step) (s : KeySetState) (p : Reports) : Type 0 where
  pub on : is_on side r ≡ true
  pub new : Reference
  pub ready : HasKey s new (is_ready side r)
  pub anchored : (r ≡ AlgorithmRoll) × NoDs life steps ⊎ (q : Reference) × Anchored side life steps s q
  pub early : Early side r life steps p new (phase_of s r)

-- What a second report is about: each state since the first wait shows the new key where it was handed over.
abbrev pub Late : Side → RollType → Life → List Step → Reports → Reference → Option RollState → Type 0
Late side r life steps p n (Some state.Propagation2) = Since (is_first_wait r) steps (shows side (second_of side r) n)
Late side r life steps p n (Some (state.CacheExpire2 ttl)) = (since : ℕ) → p.second ≡ Some (since, ttl) → HasRun life since ttl → Live life (second_of side r) steps (shows side (second_of side r) n)
Late side r life steps p n _ = ⊥

-- From the first wait of a roll on that hands over: whatever is live of what grew shows the old key and the new one, and whatever
-- is live of what was handed over shows one of the two.
pub record Crossing (side : Side) (r : RollType) (life : Life) (steps : List Step) (s : KeySetState) (p : Reports) (n : Reference) : Type 0 where
  pub old : Reference
  pub still : HasKey s old (is_shown side (first_of side r))
  pub both : Live life (first_of side r) steps (λ x. shows side (first_of side r) old x && shows side (first_of side r) n x)
  pub either : Live life (second_of side r) steps (λ x. shows side (second_of side r) old x || shows side (second_of side r) n x)
  pub late : Late side r life steps p n (phase_of s r)

abbrev pub is_second : Option RollState → Bool
is_second (Some state.Propagation2) = true
is_second (Some (state.CacheExpire2 ttl)) = true
is_second _ = false

-- From the first wait of a roll on that doubles: the new key is the anchor.
pub record Doubled (side : Side) (r : RollType) (life : Life) (steps : List Step) (s : KeySetState) (n : Reference) : Type 0 where
  pub keys : Live life DnskeyAnswer steps (shows side DnskeyAnswer n)
  pub ends : Live life (partner side) steps (shows side (partner side) n)
  pub in_keys : HasKey s n (is_shown side DnskeyAnswer)
  pub in_ends : HasKey s n (is_shown side (partner side))
  pub waits : is_second (phase_of s r) ≡ true

-- behind the first wait of a roll, of either kind
pub record Switched (side : Side) (r : RollType) (life : Life) (steps : List Step) (s : KeySetState) (p : Reports) : Type 0 where
  pub on : is_on side r ≡ true
  pub new : Reference
  pub lasting : HasKey s new (is_lasting side r)
  pub handed_over : doubles side r ≡ false → Crossing side r life steps s p new
  pub doubled : doubles side r ≡ true → Doubled side r life steps s new

-- one side of a life in which a DS set was or is to be published
pub data Kept (side : Side) (life : Life) (steps : List Step) (s : KeySetState) (p : RollType → Reports) : Type 0 where
  Rests : Resting side life steps s → Kept side life steps s p
  Grows : (r : RollType) → Growing side r life steps s (p r) → Kept side life steps s p
  Switches : (r : RollType) → Switched side r life steps s (p r) → Kept side life steps s p

-- before the first roll of the algorithm: no key is at the parent, none ever was
pub record Unborn (life : Life) (steps : List Step) (s : KeySetState) : Type 0 where
  pub no_ds : NoDs life steps
  pub at_no_parent : (q : Reference) (k : Key) → key_of s q ≡ Some k → is_shown OfKeys DsSet k.roles ≡ false
  pub no_roll : (r : RollType) → is_on OfKeys r ≡ true → phase_of s r ≡ None
  pub none_started : list_any (λ t. is_start AlgorithmRoll t.call) steps ≡ false
