-- Calls on a key set one after another, each at its moment.
use Rattle.std.specs.Prelude.{ℕ, Bool, true, false, ◌&&◌, List, [], ◌∷◌, Option, Ok, Err}
use Rattle.keyset_keys.specs.declared.keys.KeyType.{KeyType}
use Rattle.keyset_keys.specs.declared.keys.KeyType.TheVariants.{Ksk, Zsk, Csk, Include}
use Rattle.keyset_rolls.specs.declared.rolls.RollType.{RollType}
use Rattle.keyset.specs.KeyState.{Answer, KeySetState, Reference, add, at_parent_to, clear, decoupled_to, delete, done, ds_seen_at, new_key, present_to, report1, report2, rrsig_seen_at, seen_at, signer_to, stale_now, start, wait1, wait2, write}

-- the kinds of keys that are added
pub data Kind : Type 0 where
  OfKsk : Kind
  OfZsk : Kind
  OfCsk : Kind
  OfOther : Kind

abbrev pub roles_of : Kind → Bool → KeyType
roles_of OfKsk available = Ksk (clear available)
roles_of OfZsk available = Zsk (clear available)
roles_of OfCsk available = Csk (clear available) (clear available)
roles_of OfOther available = Include (clear available)

-- what an add hands in of a key
pub record NewKey : Type 0 where
  pub kind : Kind
  pub private : Option Reference
  pub algorithm : ℕ
  pub tag : ℕ
  pub created : ℕ
  pub available : Bool

pub data Call : Type 0 where
  Add : Reference → NewKey → Call
  SetDecoupled : Reference → Bool → Call
  SetPresent : Reference → Bool → Call
  SetSigner : Reference → Bool → Call
  SetAtParent : Reference → Bool → Call
  SetVisible : Reference → ℕ → Call
  SetDsVisible : Reference → ℕ → Call
  SetRrsigVisible : Reference → ℕ → Call
  SetStale : Reference → Call
  Delete : Reference → Call
  Start : RollType → List Reference → List Reference → Call
  Report1 : RollType → ℕ → Call
  Wait1 : RollType → Call
  Report2 : RollType → ℕ → Call
  Wait2 : RollType → Call
  Finish : RollType → Call

-- what a call gives at a moment
abbrev pub on_state : Call → ℕ → KeySetState → Answer
on_state (Add q n) now s = add q (new_key n.private (roles_of n.kind n.available) n.algorithm n.tag n.created) s
on_state (SetDecoupled q b) now s = write (decoupled_to b) q s
on_state (SetPresent q b) now s = write (present_to b now) q s
on_state (SetSigner q b) now s = write (signer_to b) q s
on_state (SetAtParent q b) now s = write (at_parent_to b) q s
on_state (SetVisible q time) now s = write (seen_at time) q s
on_state (SetDsVisible q time) now s = write (ds_seen_at time) q s
on_state (SetRrsigVisible q time) now s = write (rrsig_seen_at time) q s
on_state (SetStale q) now s = write stale_now q s
on_state (Delete q) now s = delete q s
on_state (Start r olds news) now s = start r olds news now s
on_state (Report1 r ttl) now s = report1 r ttl now s
on_state (Wait1 r) now s = wait1 r now s
on_state (Report2 r ttl) now s = report2 r ttl now s
on_state (Wait2 r) now s = wait2 r now s
on_state (Finish r) now s = done r s

-- the calls that set a flag or a stamp by hand
abbrev pub sets_by_hand : Call → Bool
sets_by_hand (SetPresent q b) = true
sets_by_hand (SetSigner q b) = true
sets_by_hand (SetAtParent q b) = true
sets_by_hand (SetVisible q time) = true
sets_by_hand (SetDsVisible q time) = true
sets_by_hand (SetRrsigVisible q time) = true
sets_by_hand (SetStale q) = true
sets_by_hand _ = false

-- a refused call leaves the keys as they are
abbrev pub left : KeySetState → Answer → KeySetState
left s (Ok a) = a.0
left s (Err e) = s

-- the keys behind calls
abbrev pub behind : KeySetState → List (ℕ × Call) → KeySetState
behind s [] = s
behind s (c ∷ cs) = behind (left s (on_state c.1 c.0 s)) cs

abbrev pub is_accepted : Answer → Bool
is_accepted (Ok a) = true
is_accepted (Err e) = false

-- whether all calls are accepted
abbrev pub all_accepted : KeySetState → List (ℕ × Call) → Bool
all_accepted s [] = true
all_accepted s (c ∷ cs) = is_accepted (on_state c.1 c.0 s) && all_accepted (left s (on_state c.1 c.0 s)) cs

abbrev pub no_keys : List (List ℕ) → KeySetState
no_keys name = record { name = name; keys = []; rolls = [] }
