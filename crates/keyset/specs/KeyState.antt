-- The keys of a zone and the rolls that are running, and what each call on them does (RFC 6781, section 4.1). Moments are
-- numbers of nanoseconds. What a roll does to one key is the table of `keyset_rolls`; a call maps it over the keys.
use Rattle.std.specs.Prelude.{ℕ, Bool, true, false, not, ◌&&◌, ◌||◌, ◌==◌, List, [], ◌∷◌, ◌++◌, map, Option, Some, None, Result, Ok, Err, is_some, if◌then◌else◌, max, String, string_bytes, nat_eq}
use Rattle.std.specs.List.{filter, list_all, list_any}
use Rattle.std.specs.Str.{bytes_eq}
use Rattle.std.specs.declared.cmp.Ordering.{Ordering}
use Rattle.std.specs.Ordering.{nat_cmp}
use Rattle.std.specs.Cmp.Lexicographic.{slice_cmp}
use Rattle.std.specs.FinMap.Entries as entries
use Rattle.keyset_keys.specs.declared.keys.KeyType.{KeyType}
use Rattle.keyset_keys.specs.declared.keys.KeyType.TheVariants.{Ksk, Csk, Include}
use Rattle.keyset_rolls.specs.declared.rolls.Action.{Action}
use Rattle.keyset_rolls.specs.declared.rolls.RollState.{RollState}
use Rattle.keyset_rolls.specs.declared.rolls.RollState.TheVariants as state
use Rattle.keyset_rolls.specs.declared.rolls.RollType.{RollType}
use Rattle.keyset_rolls.specs.declared.rolls.RollType.TheVariants as roll
use Rattle.keyset_rolls.specs.declared.rolls.Turn.{Turn}
use Rattle.keyset_rolls.specs.declared.rolls.Turn.TheVariants as turn
use Rattle.keyset_rolls.specs.declared.table.Need.{Need}
use Rattle.keyset_rolls.specs.Actions.{actions_in, asks_parent_in}
use Rattle.keyset_rolls.specs.Rolls.{touches, conflicts, meets_need, needs, started_key, started_roles, reported1, reported2, waited1, waited2, awaited, is_missing, rest_of}
pub use Rattle.keyset_keys.specs.Keys.{Reference, text_of, is_available, Flags, Key, main_role, ksk_is, zsk_is, main_is, each_is, is_old, is_present, signs, is_at_parent, current, outgoing, is_stale, is_fresh, clear, new_key, on_ksk, on_zsk, on_each, set_old, set_signer, set_present, set_at_parent, publish, see, see_ds, see_rrsig, withdraw, with_roles, with_stamps}

-- the entries of a hashed map, in the order of what f makes of a key
abbrev pub in_order : {K Q X : Type 0} → (Q → Q → Ordering) → (K → Q) → List (K × X) → List (Q × X)
in_order R f [] = []
in_order R f (e ∷ es) = entries.put R (f e.0) e.1 (in_order R f es)

-- the name of the zone, keys in ascending order of reference, rolls in the order of their kinds
pub record KeySetState : Type 0 where
  pub name : List (List ℕ)
  pub keys : List (Reference × Key)
  pub rolls : List (RollType × RollState)

pub data Refusal : Type 0 where
  KeyExists : Refusal
  KeyNotFound : Refusal
  KeyNotOld : Refusal
  DuplicateKeyTag : Refusal
  WrongKeyType : Refusal
  WrongKeyState : Refusal
  NoSuitableKeyPresent : Refusal
  WrongStateForRollOperation : Refusal
  ConflictingRollInProgress : Refusal
  AlgorithmSetsMismatch : Refusal
  Wait : ℕ → Refusal
  UnknownRollType : Refusal
  MissingTimestamp : Refusal

-- ---- parts

abbrev pub reference_cmp : Reference → Reference → Ordering
reference_cmp = slice_cmp nat_cmp

abbrev pub by_reference : {A X : Type 0} → List (String A × X) → List (Reference × X)
by_reference es = in_order reference_cmp string_bytes es

abbrev pub key_of : KeySetState → Reference → Option Key
key_of s q = entries.find reference_cmp q s.keys

abbrev pub index_of : RollType → ℕ
index_of roll.KskRoll = 0
index_of roll.KskDoubleDsRoll = 1
index_of roll.ZskRoll = 2
index_of roll.ZskDoubleSignatureRoll = 3
index_of roll.CskRoll = 4
index_of roll.AlgorithmRoll = 5

abbrev pub kind_cmp : RollType → RollType → Ordering
kind_cmp a b = nat_cmp (index_of a) (index_of b)

abbrev pub by_kind : {X : Type 0} → List (RollType × X) → List (RollType × X)
by_kind es = in_order kind_cmp (λ r. r) es

abbrev pub phase_of : KeySetState → RollType → Option RollState
phase_of s r = entries.find kind_cmp r s.rolls

-- ---- waits of all keys

abbrev pub misses : RollType → Turn → List (Reference × Key) → Bool
misses r t es = list_any (λ e. is_missing (awaited t r e.1)) es

abbrev pub greatest : List ℕ → ℕ
greatest [] = 0
greatest (n ∷ ns) = max n (greatest ns)

abbrev pub greatest_rest : RollType → Turn → ℕ → ℕ → List (Reference × Key) → ℕ
greatest_rest r t ttl now es = greatest (map (λ e. rest_of ttl now (awaited t r e.1)) es)

-- ---- changes of all keys

abbrev pub when : Bool → (Key → Key) → Key → Key
when b h k = if b then h k else k

-- a change of the keys that a roll touches
abbrev pub on_keys : RollType → (Key → Key) → List (Reference × Key) → List (Reference × Key)
on_keys r h es = map (λ e. (e.0, when (touches r e.1.roles) h e.1)) es

abbrev pub listed : List Reference → Reference → Bool
listed qs q = list_any (λ p. bytes_eq p q) qs

abbrev pub started : RollType → ℕ → List Reference → List Reference → List (Reference × Key) → List (Reference × Key)
started r now olds news es = map (λ e. (e.0, started_key r now (listed olds e.0) (listed news e.0) e.1)) es

-- ---- rolls

abbrev pub Answer : Type 0
Answer = Result (KeySetState × List Action) Refusal

-- the roll's next phase, with its actions, beside these keys
abbrev pub entered : RollType → RollState → List (Reference × Key) → KeySetState → KeySetState
entered r p ks s = record s { keys = ks; rolls = entries.put kind_cmp r p s.rolls }

abbrev pub enter : RollType → RollState → List (Reference × Key) → KeySetState → Answer
enter r p ks s = Ok (entered r p ks s, actions_in r (Some p))

abbrev pub old_fault : RollType → KeySetState → Reference → Option Refusal
old_fault r s q = elim (key_of s q) [ None ↦ Some KeyNotFound | Some k ↦ if touches r k.roles then None else Some WrongKeyType ]

abbrev pub first_fault : (Reference → Option Refusal) → List Reference → Option Refusal
first_fault f [] = None
first_fault f (q ∷ qs) = elim (f q) [ Some e ↦ Some e | None ↦ first_fault f qs ]

-- a new key must be fresh in all its roles, and neither be old nor stand in the list before
abbrev pub new_fault : RollType → KeySetState → List Reference → List Reference → Reference → Option Refusal
new_fault r s olds before q = elim (key_of s q) [
  | None ↦ Some KeyNotFound
  | Some k ↦ if not (touches r k.roles) then Some WrongKeyType
      else if each_is is_fresh k.roles && not (listed olds q) && not (listed before q) then None else Some WrongKeyState
]

abbrev pub first_new_fault : RollType → KeySetState → List Reference → List Reference → List Reference → Option Refusal
first_new_fault r s olds before [] = None
first_new_fault r s olds before (q ∷ qs) = elim (new_fault r s olds before q) [ Some e ↦ Some e | None ↦ first_new_fault r s olds (before ++ q ∷ []) qs ]

-- whether the key of a reference signs by an algorithm, and whether one of these does
abbrev pub algorithm_is : KeySetState → ℕ → Reference → Bool
algorithm_is s algorithm q = elim (key_of s q) [ None ↦ false | Some k ↦ nat_eq k.algorithm algorithm ]

abbrev pub has_algorithm : KeySetState → List Reference → ℕ → Bool
has_algorithm s qs algorithm = list_any (algorithm_is s algorithm) qs

-- whether the algorithms of the first keys are among those of the second
abbrev pub algorithm_is_within : KeySetState → List Reference → Reference → Bool
algorithm_is_within s qs p = elim (key_of s p) [ None ↦ true | Some k ↦ has_algorithm s qs k.algorithm ]

abbrev pub algorithms_within : KeySetState → List Reference → List Reference → Bool
algorithms_within s ps qs = list_all (algorithm_is_within s qs) ps

abbrev pub same_algorithms : KeySetState → List Reference → List Reference → Bool
same_algorithms s olds news = algorithms_within s olds news && algorithms_within s news olds

-- only a roll of the algorithm may change it
abbrev pub is_of_algorithms : RollType → Bool
is_of_algorithms roll.AlgorithmRoll = true
is_of_algorithms _ = false

abbrev pub algorithms_fault : RollType → List Reference → List Reference → KeySetState → Option Refusal
algorithms_fault r olds news s = if is_of_algorithms r || same_algorithms s olds news then None else Some AlgorithmSetsMismatch

-- the roles of the keys behind a start
abbrev pub roles_after : RollType → List Reference → List Reference → List (Reference × Key) → List KeyType
roles_after r olds news es = map (λ e. started_roles r (listed olds e.0) (listed news e.0) e.1.roles) es

-- some key that the roll touches meets a requirement
abbrev pub has_needed : RollType → Need → List KeyType → Bool
has_needed r n ts = list_any (λ t. touches r t && meets_need n t) ts

-- whether keys of these roles serve in all that the roll needs
abbrev pub suitable : RollType → List KeyType → Bool
suitable r ts = list_all (λ n. has_needed r n ts) (needs r)

-- why a start is refused
abbrev pub start_fault : RollType → List Reference → List Reference → KeySetState → Option Refusal
start_fault r olds news s =
    if is_some (phase_of s r) then Some WrongStateForRollOperation
    else if list_any (λ e. conflicts r e.0) s.rolls then Some ConflictingRollInProgress
    else elim (first_fault (old_fault r s) olds) [
      | Some e ↦ Some e
      | None ↦ elim (first_new_fault r s olds [] news) [
        | Some e ↦ Some e
        | None ↦ elim (algorithms_fault r olds news s) [
          | Some e ↦ Some e
          | None ↦ if suitable r (roles_after r olds news s.keys) then None else Some NoSuitableKeyPresent
        ]
      ]
    ]

abbrev pub unless_fault : Option Refusal → Answer → Answer
unless_fault None a = a
unless_fault (Some e) a = Err e

abbrev pub start : RollType → List Reference → List Reference → ℕ → KeySetState → Answer
start r olds news now s = unless_fault (start_fault r olds news s) (enter r state.Propagation1 (started r now olds news s.keys) s)

abbrev pub report1 : RollType → ℕ → ℕ → KeySetState → Answer
report1 r ttl now s = elim (phase_of s r) [
  | Some state.Propagation1 ↦ enter r (state.CacheExpire1 ttl) (on_keys r (reported1 r now) s.keys) s
  | _ ↦ Err WrongStateForRollOperation
]

abbrev pub report2 : RollType → ℕ → ℕ → KeySetState → Answer
report2 r ttl now s = elim (phase_of s r) [
  | Some state.Propagation2 ↦ enter r (state.CacheExpire2 ttl) (on_keys r (reported2 r now) s.keys) s
  | _ ↦ Err WrongStateForRollOperation
]

-- why a wait is refused
abbrev pub wait_fault : RollType → Turn → ℕ → ℕ → List (Reference × Key) → Option Refusal
wait_fault r t ttl now es =
    if misses r t es then Some MissingTimestamp
    else if greatest_rest r t ttl now es == 0 then None else Some (Wait (greatest_rest r t ttl now es))

abbrev pub wait1 : RollType → ℕ → KeySetState → Answer
wait1 r now s = elim (phase_of s r) [
  | Some (state.CacheExpire1 ttl) ↦ unless_fault (wait_fault r turn.First ttl now s.keys) (enter r state.Propagation2 (on_keys r (waited1 r now) s.keys) s)
  | _ ↦ Err WrongStateForRollOperation
]

abbrev pub wait2 : RollType → ℕ → KeySetState → Answer
wait2 r now s = elim (phase_of s r) [
  | Some (state.CacheExpire2 ttl) ↦ unless_fault (wait_fault r turn.Second ttl now s.keys) (enter r state.Done (on_keys r (waited2 r now) s.keys) s)
  | _ ↦ Err WrongStateForRollOperation
]

abbrev pub without : {X : Type 0} → RollType → List (RollType × X) → List (RollType × X)
without r rs = entries.where_key kind_cmp (λ q. not (index_of q == index_of r)) rs

abbrev pub ended : RollType → KeySetState → KeySetState
ended r s = record s { rolls = without r s.rolls }

abbrev pub done : RollType → KeySetState → Answer
done r s = elim (phase_of s r) [
  | Some state.Done ↦ Ok (ended r s, [])
  | _ ↦ Err WrongStateForRollOperation
]

-- ---- adds

abbrev pub has_tag : ℕ → List (Reference × Key) → Bool
has_tag tag es = list_any (λ e. e.1.tag == tag) es

abbrev pub added : Reference → Key → KeySetState → KeySetState
added q k s = record s { keys = entries.put reference_cmp q k s.keys }

abbrev pub add : Reference → Key → KeySetState → Answer
add q k s =
    if has_tag k.tag s.keys then Err DuplicateKeyTag
    else if is_some (key_of s q) then Err KeyExists
    else Ok (added q k s, [])

-- ---- setters

-- a key of this reference becomes what the call makes of it
abbrev pub write : (Key → Result Key Refusal) → Reference → KeySetState → Answer
write h q s = elim (key_of s q) [
  | None ↦ Err KeyNotFound
  | Some k ↦ elim (h k) [ Err e ↦ Err e | Ok l ↦ Ok (added q l s, []) ]
]

-- the first moment at which a key was put into the DNSKEY RRset stays
abbrev pub published_once : ℕ → Bool → Key → Key
published_once now is_put k = if is_put && not (is_some k.stamps.published) then with_stamps (publish now) k else k

-- whether a key has a role that may sign, and one that the parent may name
abbrev pub may_sign : KeyType → Bool
may_sign (Include f) = false
may_sign _ = true

abbrev pub may_be_at_parent : KeyType → Bool
may_be_at_parent (Ksk f) = true
may_be_at_parent (Csk f g) = true
may_be_at_parent _ = false

abbrev pub if_kind : Bool → Key → Result Key Refusal
if_kind true k = Ok k
if_kind false k = Err WrongKeyType

abbrev pub decoupled_to : Bool → Key → Result Key Refusal
decoupled_to b k = Ok (record k { decoupled = b })

abbrev pub present_to : Bool → ℕ → Key → Result Key Refusal
present_to b now k = Ok (published_once now b (with_roles (on_each (set_present b)) k))

abbrev pub signer_to : Bool → Key → Result Key Refusal
signer_to b k = if_kind (may_sign k.roles) (with_roles (on_each (set_signer b)) k)

abbrev pub at_parent_to : Bool → Key → Result Key Refusal
at_parent_to b k = if_kind (may_be_at_parent k.roles) (with_roles (on_ksk (set_at_parent b)) k)

abbrev pub seen_at : ℕ → Key → Result Key Refusal
seen_at time k = Ok (with_stamps (see time) k)

abbrev pub ds_seen_at : ℕ → Key → Result Key Refusal
ds_seen_at time k = Ok (with_stamps (see_ds time) k)

abbrev pub rrsig_seen_at : ℕ → Key → Result Key Refusal
rrsig_seen_at time k = Ok (with_stamps (see_rrsig time) k)

-- the flags of a role that is old and no longer used
abbrev pub set_stale : Flags → Flags
set_stale f = record f { old = true; signer = false; present = false; at_parent = false }

abbrev pub stale_now : Key → Result Key Refusal
stale_now k = Ok (with_roles (on_each set_stale) k)

abbrev pub removed : {X : Type 0} → Reference → List (Reference × X) → List (Reference × X)
removed q es = entries.where_key reference_cmp (λ p. not (bytes_eq p q)) es

abbrev pub deleted : Reference → KeySetState → KeySetState
deleted q s = record s { keys = removed q s.keys }

-- only a key that is stale in all its roles may go
abbrev pub delete : Reference → KeySetState → Answer
delete q s = elim (key_of s q) [
  | None ↦ Err KeyNotFound
  | Some k ↦ if each_is is_stale k.roles then Ok (deleted q s, []) else Err KeyNotOld
]

-- ---- what is published

abbrev pub references_where : (KeyType → Bool) → KeySetState → List Reference
references_where p s = map (λ e. e.0) (filter (λ e. p e.1.roles) s.keys)

-- the keys in the DS set of the parent
abbrev pub ds : KeySetState → List Reference
ds s = references_where (ksk_is is_at_parent) s

-- the keys in the DNSKEY RRset
abbrev pub present : KeySetState → List Reference
present s = references_where (main_is is_present) s

-- the keys that sign the DNSKEY RRset
abbrev pub keysigners : KeySetState → List Reference
keysigners s = references_where (ksk_is signs) s

-- the keys that sign the other RRsets
abbrev pub zonesigners : KeySetState → List Reference
zonesigners s = references_where (zsk_is signs) s

-- the keys that sign any RRset
abbrev pub signers : KeySetState → List Reference
signers s = references_where (λ t. ksk_is signs t || zsk_is signs t) s

-- ---- what the parent is asked for

abbrev pub asks_in : KeySetState → RollType → Bool
asks_in s r = asks_parent_in r (phase_of s r)

-- the rolls that change the DS set
abbrev pub rolls_of_ds : List RollType
rolls_of_ds = roll.KskRoll ∷ roll.KskDoubleDsRoll ∷ roll.CskRoll ∷ roll.AlgorithmRoll ∷ []

-- whether one that runs asks the parent for its DS set
abbrev pub asks_parent : KeySetState → Bool
asks_parent s = list_any (asks_in s) rolls_of_ds
