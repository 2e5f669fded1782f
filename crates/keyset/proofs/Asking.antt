-- Of what actions and in what phases the parent is asked for a DS set.
use Rattle.std.proofs.Common.{◌≡◌, ℕ, Bool, true, false, ◌||◌, ◌⊎◌, inl, inr, List, [], ◌∷◌, refl, sym, ap, subst, ◌∙◌}
use Rattle.std.specs.Prelude.{Option, Some, None, Result, Ok, Err, is_some, if◌then◌else◌}
use Rattle.std.specs.List.{list_any}
use Rattle.std.proofs.lemmas.Bool.{false≢true}
use Rattle.keyset_rolls.specs.declared.rolls.Action.{Action}
use Rattle.keyset_rolls.specs.declared.rolls.RollState.{RollState}
use Rattle.keyset_rolls.specs.declared.rolls.RollState.TheVariants.{Propagation1, CacheExpire1, Propagation2, CacheExpire2, Done}
use Rattle.keyset_rolls.specs.declared.rolls.RollType.{RollType}
use Rattle.keyset_rolls.specs.declared.rolls.RollType.TheVariants.{KskRoll, KskDoubleDsRoll, ZskRoll, ZskDoubleSignatureRoll, CskRoll, AlgorithmRoll}
use Rattle.keyset_rolls.specs.Actions.{actions1, actions2, actions3, actions_in, asks_parent_in, awaits_ds, creates_cds, removes_cds}
use Rattle.keyset_rolls.specs.Rolls.{conflicts}
use Rattle.keyset.specs.KeyState.{Answer, Key, KeySetState, Reference, Refusal, DuplicateKeyTag, KeyExists, KeyNotFound, KeyNotOld, WrongStateForRollOperation, add, added, asks_in, asks_parent, at_parent_to, decoupled_to, delete, deleted, done, ds_seen_at, each_is, ended, has_tag, is_stale, key_of, phase_of, present_to, rrsig_seen_at, seen_at, signer_to, stale_now, write}
use Rattle.keyset.specs.KeyRuns.{Add, Call, Delete, Finish, Report1, Report2, SetAtParent, SetDecoupled, SetDsVisible, SetPresent, SetRrsigVisible, SetSigner, SetStale, SetVisible, Start, Wait1, Wait2, behind, left, no_keys, on_state, sets_by_hand}
use Rattle.keyset.specs.KeyRunLaws.{by_rolls_alone, no_reports, reports_behind}
use Rattle.keyset.specs.AskingLaws.{CdsComesWithDs, CreatedCdsAsks, RemovedCdsAsksNot}
use Rattle.keyset.proofs.KeyRunEnds.{call_next, run_holds}
use Rattle.keyset.proofs.KeyRunSteps.{Together}
use Rattle.keyset.proofs.KeyWaits.{phases_follow, starts_enter}

comes1 : (r : RollType) → list_any awaits_ds (actions1 r) ≡ list_any creates_cds (actions1 r)
comes1 KskRoll = refl
comes1 KskDoubleDsRoll = refl
comes1 ZskRoll = refl
comes1 ZskDoubleSignatureRoll = refl
comes1 CskRoll = refl
comes1 AlgorithmRoll = refl

comes2 : (r : RollType) → list_any awaits_ds (actions2 r) ≡ list_any creates_cds (actions2 r)
comes2 KskRoll = refl
comes2 KskDoubleDsRoll = refl
comes2 ZskRoll = refl
comes2 ZskDoubleSignatureRoll = refl
comes2 CskRoll = refl
comes2 AlgorithmRoll = refl

comes3 : (r : RollType) → list_any awaits_ds (actions3 r) ≡ list_any creates_cds (actions3 r)
comes3 KskRoll = refl
comes3 KskDoubleDsRoll = refl
comes3 ZskRoll = refl
comes3 ZskDoubleSignatureRoll = refl
comes3 CskRoll = refl
comes3 AlgorithmRoll = refl

comes : (r : RollType) (p : RollState) → list_any awaits_ds (actions_in r (Some p)) ≡ list_any creates_cds (actions_in r (Some p))
comes r Propagation1 = comes1 r
comes r (CacheExpire1 ttl) = refl
comes r Propagation2 = comes2 r
comes r (CacheExpire2 ttl) = refl
comes r Done = comes3 r

-- ---- calls without actions

abbrev Quiet : Answer → Type 0
Quiet (Ok a) = a.1 ≡ []
Quiet (Err e) = Unit {0}

quiet_if : (b : Bool) (e : Refusal) (a : Answer) → Quiet a → Quiet (if b then Err e else a)
quiet_if true e a q = tt
quiet_if false e a q = q

quiet_unless : (b : Bool) (s : KeySetState) (e : Refusal) → Quiet (if b then Ok (s, []) else Err e)
quiet_unless true s e = refl
quiet_unless false s e = tt

quiet_add : (q : Reference) (k : Key) (s : KeySetState) → Quiet (add q k s)
quiet_add q k s = quiet_if (has_tag k.tag s.keys) DuplicateKeyTag (if is_some (key_of s q) then Err KeyExists else Ok (added q k s, [])) (quiet_if (is_some (key_of s q)) KeyExists (Ok (added q k s, [])) refl)

quiet_write : (h : Key → Result Key Refusal) (q : Reference) (s : KeySetState) → Quiet (write h q s)
quiet_write h q s = at (key_of s q)
  where
    of : (r : Result Key Refusal) → Quiet (elim r [ Err e ↦ Err e | Ok l ↦ Ok (added q l s, []) ])
    of (Err e) = tt
    of (Ok l) = refl

    at : (o : Option Key) → Quiet (elim o [ None ↦ Err KeyNotFound | Some k ↦ elim (h k) [ Err e ↦ Err e | Ok l ↦ Ok (added q l s, []) ] ])
    at None = tt
    at (Some k) = of (h k)

quiet_delete : (q : Reference) (s : KeySetState) → Quiet (delete q s)
quiet_delete q s = at (key_of s q)
  where
    at : (o : Option Key) → Quiet (elim o [ None ↦ Err KeyNotFound | Some k ↦ if each_is is_stale k.roles then Ok (deleted q s, []) else Err KeyNotOld ])
    at None = tt
    at (Some k) = quiet_unless (each_is is_stale k.roles) (deleted q s) KeyNotOld

quiet_done : (r : RollType) (s : KeySetState) → Quiet (done r s)
quiet_done r s = at (phase_of s r)
  where
    at : (o : Option RollState) → Quiet (elim o [ Some Done ↦ Ok (ended r s, []) | _ ↦ Err WrongStateForRollOperation ])
    at None = tt
    at (Some Propagation1) = tt
    at (Some (CacheExpire1 ttl)) = tt
    at (Some Propagation2) = tt
    at (Some (CacheExpire2 ttl)) = tt
    at (Some Done) = refl

-- ---- what an accepted call leaves

-- a phase that was entered, with its actions
pub record IsEntered (r : RollType) (p : RollState) (c : Call) (after : KeySetState) (actions : List Action) : Type 0 where
  pub phase : phase_of after r ≡ Some p
  pub actions_are : actions ≡ actions_in r (Some p)
  pub no_hand : sets_by_hand c ≡ false

-- it has no actions, or those of a phase
abbrev Came : Call → KeySetState → List Action → Type 0
Came c after actions = (actions ≡ []) ⊎ (r : RollType) × (p : RollState) × IsEntered r p c after actions

quietly : (c : Call) (a : Answer) (after : KeySetState) (actions : List Action) → Quiet a → a ≡ Ok (after, actions) → Came c after actions
quietly c a after actions q e = inl (subst Quiet e q)

entering : (r : RollType) (p : RollState) (c : Call) (after : KeySetState) (actions : List Action) → sets_by_hand c ≡ false → (phase_of after r ≡ Some p) × (actions ≡ actions_in r (Some p)) → Came c after actions
entering r p c after actions hand e = inr (r, p, record { phase = e.0; actions_are = e.1; no_hand = hand })

came : (c : Call) (now : ℕ) (s after : KeySetState) (actions : List Action) → on_state c now s ≡ Ok (after, actions) → Came c after actions
came (Add q n) now s after actions e = quietly (Add q n) (on_state (Add q n) now s) after actions (quiet_add q _ s) e
came (SetDecoupled q b) now s after actions e = quietly (SetDecoupled q b) (on_state (SetDecoupled q b) now s) after actions (quiet_write (decoupled_to b) q s) e
came (SetPresent q b) now s after actions e = quietly (SetPresent q b) (on_state (SetPresent q b) now s) after actions (quiet_write (present_to b now) q s) e
came (SetSigner q b) now s after actions e = quietly (SetSigner q b) (on_state (SetSigner q b) now s) after actions (quiet_write (signer_to b) q s) e
came (SetAtParent q b) now s after actions e = quietly (SetAtParent q b) (on_state (SetAtParent q b) now s) after actions (quiet_write (at_parent_to b) q s) e
came (SetVisible q time) now s after actions e = quietly (SetVisible q time) (on_state (SetVisible q time) now s) after actions (quiet_write (seen_at time) q s) e
came (SetDsVisible q time) now s after actions e = quietly (SetDsVisible q time) (on_state (SetDsVisible q time) now s) after actions (quiet_write (ds_seen_at time) q s) e
came (SetRrsigVisible q time) now s after actions e = quietly (SetRrsigVisible q time) (on_state (SetRrsigVisible q time) now s) after actions (quiet_write (rrsig_seen_at time) q s) e
came (SetStale q) now s after actions e = quietly (SetStale q) (on_state (SetStale q) now s) after actions (quiet_write stale_now q s) e
came (Delete q) now s after actions e = quietly (Delete q) (on_state (Delete q) now s) after actions (quiet_delete q s) e
came (Start r olds news) now s after actions e = entering r Propagation1 (Start r olds news) after actions refl (starts_enter r olds news now s after actions e)
came (Report1 r ttl) now s after actions e = entering r (CacheExpire1 ttl) (Report1 r ttl) after actions refl ((phases_follow r ttl now s).0 after actions e)
came (Wait1 r) now s after actions e = entering r Propagation2 (Wait1 r) after actions refl ((phases_follow r 0 now s).1 after actions e)
came (Report2 r ttl) now s after actions e = entering r (CacheExpire2 ttl) (Report2 r ttl) after actions refl ((phases_follow r ttl now s).2 after actions e)
came (Wait2 r) now s after actions e = entering r Done (Wait2 r) after actions refl ((phases_follow r 0 now s).3 after actions e)
came (Finish r) now s after actions e = quietly (Finish r) (on_state (Finish r) now s) after actions (quiet_done r s) e

-- none of no actions is of any kind
none_is : {P : Type 0} (test : Action → Bool) (actions : List Action) → actions ≡ [] → list_any test actions ≡ true → P
none_is test actions e h = absurd (false≢true (sym (ap (list_any test) e) ∙ h))

pub cds_comes_with_ds : CdsComesWithDs
cds_comes_with_ds c now s after actions e = elim (came c now s after actions e) [
  | inl none ↦ ap (list_any awaits_ds) none ∙ sym (ap (list_any creates_cds) none)
  | inr is ↦ ap (list_any awaits_ds) is.2.actions_are ∙ (comes is.0 is.1 ∙ sym (ap (list_any creates_cds) is.2.actions_are))
]

-- ---- what is created

or_first : (a b : Bool) → a ≡ true → (a || b) ≡ true
or_first true b h = refl
or_first false b h = cc

or_second : (a b : Bool) → b ≡ true → (a || b) ≡ true
or_second true b h = refl
or_second false b h = h

zsk_never : (o : Option RollState) → asks_parent_in ZskRoll o ≡ false
zsk_never None = refl
zsk_never (Some Propagation1) = refl
zsk_never (Some (CacheExpire1 ttl)) = refl
zsk_never (Some Propagation2) = refl
zsk_never (Some (CacheExpire2 ttl)) = refl
zsk_never (Some Done) = refl

zsk_double_never : (o : Option RollState) → asks_parent_in ZskDoubleSignatureRoll o ≡ false
zsk_double_never None = refl
zsk_double_never (Some Propagation1) = refl
zsk_double_never (Some (CacheExpire1 ttl)) = refl
zsk_double_never (Some Propagation2) = refl
zsk_double_never (Some (CacheExpire2 ttl)) = refl
zsk_double_never (Some Done) = refl

some_asks : (s : KeySetState) (r : RollType) → asks_in s r ≡ true → asks_parent s ≡ true
some_asks s KskRoll h = or_first (asks_in s KskRoll) (list_any (asks_in s) (KskDoubleDsRoll ∷ CskRoll ∷ AlgorithmRoll ∷ [])) h
some_asks s KskDoubleDsRoll h =
    or_second (asks_in s KskRoll) (list_any (asks_in s) (KskDoubleDsRoll ∷ CskRoll ∷ AlgorithmRoll ∷ []))
    (or_first (asks_in s KskDoubleDsRoll) (list_any (asks_in s) (CskRoll ∷ AlgorithmRoll ∷ [])) h)
some_asks s ZskRoll h = absurd (false≢true (sym (zsk_never (phase_of s ZskRoll)) ∙ h))
some_asks s ZskDoubleSignatureRoll h = absurd (false≢true (sym (zsk_double_never (phase_of s ZskDoubleSignatureRoll)) ∙ h))
some_asks s CskRoll h =
    or_second (asks_in s KskRoll) (list_any (asks_in s) (KskDoubleDsRoll ∷ CskRoll ∷ AlgorithmRoll ∷ []))
    (or_second (asks_in s KskDoubleDsRoll) (list_any (asks_in s) (CskRoll ∷ AlgorithmRoll ∷ []))
    (or_first (asks_in s CskRoll) (list_any (asks_in s) (AlgorithmRoll ∷ [])) h))
some_asks s AlgorithmRoll h =
    or_second (asks_in s KskRoll) (list_any (asks_in s) (KskDoubleDsRoll ∷ CskRoll ∷ AlgorithmRoll ∷ []))
    (or_second (asks_in s KskDoubleDsRoll) (list_any (asks_in s) (CskRoll ∷ AlgorithmRoll ∷ []))
    (or_second (asks_in s CskRoll) (list_any (asks_in s) (AlgorithmRoll ∷ []))
    (or_first (asks_in s AlgorithmRoll) false h)))

created_in : (r : RollType) (p : RollState) → list_any creates_cds (actions_in r (Some p)) ≡ true → asks_parent_in r (Some p) ≡ true
created_in r Propagation1 h = h
created_in r (CacheExpire1 ttl) h = absurd (false≢true h)
created_in r Propagation2 h = h
created_in r (CacheExpire2 ttl) h = absurd (false≢true h)
created_in r Done h = h

pub created_cds_asks : CreatedCdsAsks
created_cds_asks c now s after actions e h = elim (came c now s after actions e) [
  | inl none ↦ none_is creates_cds actions none h
  | inr is ↦ some_asks after is.0 (ap (asks_parent_in is.0) is.2.phase ∙ created_in is.0 is.1 (ap (list_any creates_cds) (sym is.2.actions_are) ∙ h))
]

-- ---- what is removed

-- no roll that changes the DS set runs beside this one
abbrev Meets : RollType → Type 0
Meets r = (conflicts KskRoll r ≡ true) × (conflicts KskDoubleDsRoll r ≡ true) × (conflicts CskRoll r ≡ true) × (conflicts AlgorithmRoll r ≡ true)

removing1 : (r : RollType) → list_any removes_cds (actions1 r) ≡ true → (list_any creates_cds (actions1 r) ≡ false) × Meets r
removing1 KskRoll h = cc
removing1 KskDoubleDsRoll h = cc
removing1 ZskRoll h = cc
removing1 ZskDoubleSignatureRoll h = cc
removing1 CskRoll h = cc
removing1 AlgorithmRoll h = cc

removing2 : (r : RollType) → list_any removes_cds (actions2 r) ≡ true → (list_any creates_cds (actions2 r) ≡ false) × Meets r
removing2 KskRoll h = cc
removing2 KskDoubleDsRoll h = (refl, (refl, refl, refl, refl))
removing2 ZskRoll h = cc
removing2 ZskDoubleSignatureRoll h = cc
removing2 CskRoll h = cc
removing2 AlgorithmRoll h = cc

removing3 : (r : RollType) → list_any removes_cds (actions3 r) ≡ true → (list_any creates_cds (actions3 r) ≡ false) × Meets r
removing3 KskRoll h = (refl, (refl, refl, refl, refl))
removing3 KskDoubleDsRoll h = cc
removing3 ZskRoll h = cc
removing3 ZskDoubleSignatureRoll h = cc
removing3 CskRoll h = (refl, (refl, refl, refl, refl))
removing3 AlgorithmRoll h = (refl, (refl, refl, refl, refl))

removing : (r : RollType) (p : RollState) → list_any removes_cds (actions_in r (Some p)) ≡ true → (asks_parent_in r (Some p) ≡ false) × Meets r
removing r Propagation1 h = removing1 r h
removing r (CacheExpire1 ttl) h = absurd (false≢true h)
removing r Propagation2 h = removing2 r h
removing r (CacheExpire2 ttl) h = absurd (false≢true h)
removing r Done h = removing3 r h

module _ (after : KeySetState) (together : Together after) (r : RollType) (p : RollState) (runs : phase_of after r ≡ Some p) (silent : asks_parent_in r (Some p) ≡ false) where
  beside : (a : RollType) → conflicts a r ≡ true → asks_in after a ≡ false
  beside a conflict = at (phase_of after a) refl
    where
      at : (o : Option RollState) → phase_of after a ≡ o → asks_in after a ≡ false
      at None e = ap (asks_parent_in a) e
      at (Some x) e =
          let same : a ≡ r = together a r (ap is_some e) (ap is_some runs) conflict in
          ap (asks_in after) same ∙ (ap (asks_parent_in r) runs ∙ silent)

  none_asks : Meets r → asks_parent after ≡ false
  none_asks m = λ i. beside KskRoll m.0 i || (beside KskDoubleDsRoll m.1 i || (beside CskRoll m.2 i || (beside AlgorithmRoll m.3 i || false)))

pub removed_cds_asks_not : RemovedCdsAsksNot
removed_cds_asks_not name cs alone c now after actions e h = elim (came c now (behind (no_keys name) cs) after actions e) [
  | inl none ↦ none_is removes_cds actions none h
  | inr is ↦
      let s = behind (no_keys name) cs in
      let next = call_next is.0 (reports_behind is.0 (no_keys name) cs no_reports) s (run_holds is.0 name cs alone) c now is.2.no_hand in
      let together : Together after = subst (λ (a : Answer). Together (left s a)) e next.together in
      let silent = removing is.0 is.1 (ap (list_any removes_cds) (sym is.2.actions_are) ∙ h) in
      none_asks after together is.0 is.1 is.2.phase silent.0 silent.1
]
