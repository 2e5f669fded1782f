-- Both sides of a life from one accepted call to the next.
use Rattle.std.proofs.Common.{◌≡◌, ℕ, ◌≤◌, Bool, true, false, cond, not, List, [], ◌∷◌, ◌++◌, map, refl, sym, ap, ◌∙◌, T, ◌&&◌, ◌||◌, ◌⊎◌, inl, inr, ⊎_elim, slice_get}
use Rattle.std.specs.Prelude.{Option, Some, None, is_some}
use Rattle.std.specs.List.{list_all, list_any}
use Rattle.std.specs.Ordering.{eq_by_cmp}
use Rattle.std.specs.FinMap.Entries.{find, is_sorted}
use Rattle.std.proofs.lemmas.Bool.{false≢true, true≢false}
use Rattle.keyset_keys.specs.declared.keys.KeyType.{KeyType}
use Rattle.keyset_keys.specs.declared.keys.KeyType.TheVariants.{Ksk, Zsk, Csk, Include}
use Rattle.keyset_rolls.specs.declared.rolls.RollState.{RollState}
use Rattle.keyset_rolls.specs.declared.rolls.RollState.TheVariants.{Propagation1, CacheExpire1, Propagation2, CacheExpire2, Done}
use Rattle.keyset_rolls.specs.declared.rolls.RollType.{RollType}
use Rattle.keyset_rolls.specs.declared.rolls.RollType.TheVariants.{KskRoll, KskDoubleDsRoll, ZskRoll, ZskDoubleSignatureRoll, CskRoll, AlgorithmRoll}
use Rattle.keyset_rolls.specs.declared.table.Need.{Need}
use Rattle.keyset_rolls.specs.Rolls.{conflicts, meets_need, needs, reported1, reported2, started_roles, touches, waited1, waited2}
use Rattle.keyset.specs.KeyState.{Key, KeySetState, Reference, ds, has_needed, key_of, kind_cmp, listed, phase_of, present, reference_cmp, roles_after, wait1, wait2, when}
use Rattle.keyset.specs.KeyRuns.{Call, Finish, Report1, Report2, Start, Wait1, Wait2, is_accepted}
use Rattle.keyset.specs.KeyRunLaws.{Reports, noted, same_roll}
use Rattle.keyset.proofs.KeyFinds.{any_found, changed, from_before, is_equal}
use Rattle.keyset.proofs.KeyKinds.{conflicts_both, touches_alike}
use Rattle.keyset.proofs.KeyMaps.{kind_same}
use Rattle.keyset.proofs.KeyRunStarts.{runs_alone, start_of}
use Rattle.keyset.proofs.KeyRunSteps.{Holds, Together, other_roll, roll_itself}
use Rattle.keyset.proofs.KeyRunTags.{Apart}
use Rattle.keyset.proofs.KeyTables.{and_left as left_of, and_right as right_of, join}
use Rattle.keyset_laws.specs.KeyLife.{DnskeyAnswer, DsSet, Step, Thing, differ, is_first_wait, is_start, states, tags_of}
use Rattle.keyset_laws.specs.Sides.{OfKeys, OfZone, Side, doubles, is_empty, is_on, is_ready, is_shown, partner}
use Rattle.keyset_laws.specs.Anchors.{Grows, HasKey, Kept, Life, NoDs, Resting, Rests, Switches, Unborn, is_second, rests}
use Rattle.keyset_laws.specs.Meeting.{algorithm_first, starts_from_ds}
use Rattle.keyset_laws.proofs.SideWords.{agrees, is_first, is_of, is_settled, need_of}
use Rattle.keyset_laws.proofs.Effects.{Calm, Finished, Moved, Reported1, Reported2, Started, Waited1, Waited2, same_key, touched_by}
use Rattle.keyset_laws.proofs.Lives.{Roles, IsUnsettled, calm_unshown, empty_unshown, lasting_awaited, ran1, ran2, ready_awaited, unshown_empty}
use Rattle.keyset_laws.proofs.Retiring.{step_of}
use Rattle.keyset_laws.proofs.Sided.{Still, anchored_more, kept_still, no_ds_more}
use Rattle.keyset_laws.proofs.SideTables.{keeps_all, off_side, readied, shown_of, witness}
use Rattle.keyset_laws.proofs.Turns.{conflict_on, early_first, first_runs, growing_of, key_after, report1_grows, report2_switches, resting_at_done, resting_of, second_runs, start_grows, started_shown, switched_of, taken, wait1_switches, wait2_rests}

abbrev pub Noted : Type 0
Noted = RollType → Reports

-- the reports behind a call that was accepted
abbrev pub then : Noted → Call → ℕ → Noted
then p c now r = noted r c now (p r)

-- what a side's steps need to know of the keys
pub record Base (life : Life) (steps : List Step) (s : KeySetState) (p : Noted) : Type 0 where
  pub holds : (r : RollType) → Holds r s (p r)
  pub tags : Apart s.keys
  pub roles : Roles s
  pub differing : (i : ℕ) (x : KeySetState) → slice_get (states life.start steps) i ≡ Some x → differ (tags_of x (present x)) ≡ true
  pub here : (n : ℕ) × (slice_get (states life.start steps) n ≡ Some s)

-- both sides, or neither
abbrev pub Sides : Life → List Step → KeySetState → Noted → Type 0
Sides life steps s p = Unborn life steps s ⊎ ((side : Side) → Kept side life steps s p)

-- ---- rolls that differ

not_same : (r a : RollType) → (r ≡ a → ⊥) → eq_by_cmp kind_cmp r a ≡ false
not_same r a h = at (eq_by_cmp kind_cmp r a) refl
  where
    at : (b : Bool) → eq_by_cmp kind_cmp r a ≡ b → b ≡ false
    at true e = absurd (h (kind_same r a (is_equal (kind_cmp r a) e)))
    at false e = refl

not_alike : (r a : RollType) → (r ≡ a → ⊥) → same_roll a r ≡ false
not_alike r a h = other_roll a r (not_same r a h)

-- a roll that is on a side isn't one that isn't
other_side : (side : Side) (r a : RollType) → is_on side r ≡ true → is_on side a ≡ false → r ≡ a → ⊥
other_side side r a h k e = true≢false (sym h ∙ ap (is_on side) e ∙ k)

algorithm_conflicts : (a : RollType) → conflicts a AlgorithmRoll ≡ true
algorithm_conflicts KskRoll = refl
algorithm_conflicts KskDoubleDsRoll = refl
algorithm_conflicts ZskRoll = refl
algorithm_conflicts ZskDoubleSignatureRoll = refl
algorithm_conflicts CskRoll = refl
algorithm_conflicts AlgorithmRoll = refl

algorithm_on : (side : Side) → is_on side AlgorithmRoll ≡ true
algorithm_on OfKeys = refl
algorithm_on OfZone = refl

by_side : (side : Side) (a : RollType) (P : Type 0) → (is_on side a ≡ true → P) → (is_on side a ≡ false → P) → P
by_side side a P f g = at (is_on side a) refl
  where
    at : (b : Bool) → is_on side a ≡ b → P
    at true e = f e
    at false e = g e

-- a key of a side isn't touched by a roll of the other
untouched : (side : Side) (a : RollType) (t : KeyType) → is_on side a ≡ false → is_of side t ≡ true → touches a t ≡ false
untouched side a t e h = at (touches a t) refl
  where
    at : (b : Bool) → touches a t ≡ b → b ≡ false
    at true i = absurd (true≢false (sym (off_side side a t (join (touches a t) (is_of side t) i h)) ∙ e))
    at false i = refl

pub together : (life : Life) (steps : List Step) (s : KeySetState) (p : Noted) → Base life steps s p → Together s
together life steps s p b = (b.holds KskRoll).together

pub keep_all : (life : Life) (steps : List Step) (s : KeySetState) (p : Noted) → Base life steps s p → (q : Reference) (k : Key) → key_of s q ≡ Some k → keeps_all k.roles ≡ true
keep_all life steps s p b q k f = join (Rattle.keyset.specs.KeyRunLaws.keeps_roles k.roles) (agrees k.roles) ((b.holds KskRoll).keeps q k f) (b.roles.agree q k f)

-- ---- calls on keys

module _ (life : Life) (steps : List Step) (s : KeySetState) (t : Step) (p q : Noted) (b : Base life steps s p) (sorted : T (is_sorted reference_cmp t.left.keys)) where
  last_unshown : NoDs life steps → (x : Reference) (k : Key) → key_of s x ≡ Some k → is_shown OfKeys DsSet k.roles ≡ false
  last_unshown none = empty_unshown s (none b.here.0 s b.here.1)

  module _ (c : Calm s t.left) (no_start : (r : RollType) → is_start r t.call ≡ false) (no_wait : (r : RollType) → is_first_wait r t.call ≡ false) (same : (r : RollType) → p r ≡ q r) where
    still_empty : NoDs life steps → is_empty (ds t.left) ≡ true
    still_empty none = unshown_empty t.left sorted (calm_unshown s t.left c (last_unshown none))

    pub calm_sides : Sides life steps s p → Sides life (steps ++ t ∷ []) t.left q
    calm_sides (inl u) = inl (record {
      no_ds = no_ds_more OfKeys life steps t (still_empty u.no_ds) u.no_ds;
      at_no_parent = calm_unshown s t.left c u.at_no_parent;
      no_roll = λ r on. c.rolls r ∙ u.no_roll r on;
      none_started = Rattle.keyset_laws.proofs.Retiring.any_last (is_start AlgorithmRoll) steps t u.none_started (no_start AlgorithmRoll);
    })
    calm_sides (inr h) = inr (λ side.
        kept_still side life steps s t p q
        (record { roles = λ x k f used of. c.to x k f used; phases = λ r on. c.rolls r; no_start = λ r on. no_start r; no_wait = λ r on. no_wait r; noted = λ r on. same r })
        (λ r e g none. still_empty none)
        (h side))

-- ---- calls of a roll, on the side that it isn't on

module _ (life : Life) (steps : List Step) (s : KeySetState) (t : Step) (p q : Noted) (b : Base life steps s p) (a : RollType) (o n : Option RollState) (g : Reference → Key → Key) (w : Moved a o n g s t.left)
    (no_start : (r : RollType) → (r ≡ a → ⊥) → is_start r t.call ≡ false) (no_wait : (r : RollType) → (r ≡ a → ⊥) → is_first_wait r t.call ≡ false) (same : (r : RollType) → (r ≡ a → ⊥) → p r ≡ q r) where
  off_still : (side : Side) → is_on side a ≡ false → Still side s t p q
  off_still side off = record {
    roles = λ x k f used of. (k, key_after a o n g s t.left w.turn x k f ∙ ap (λ k. Some k) (w.moves.still x k f (untouched side a k.roles off of)), refl);
    phases = λ r on. w.turn.others r (not_same r a (other_side side r a on off));
    no_start = λ r on. no_start r (other_side side r a on off);
    no_wait = λ r on. no_wait r (other_side side r a on off);
    noted = λ r on. same r (other_side side r a on off);
  }

  -- a roll of the algorithm runs beside no other
  pub off_kept : (side : Side) → is_on side a ≡ false → (is_some (phase_of s AlgorithmRoll) ≡ true → a ≡ AlgorithmRoll) → Kept side life steps s p → Kept side life (steps ++ t ∷ []) t.left q
  off_kept side off alone h =
      kept_still side life steps s t p q (off_still side off)
      (λ r e v none.
      (let runs : is_some (phase_of s AlgorithmRoll) ≡ true = ap (λ r. is_some (phase_of s r)) (sym e) ∙ first_runs (phase_of s r) (early_first side r life steps (p r) v.new (phase_of s r) v.early) in
      absurd (true≢false (sym (algorithm_on side) ∙ ap (is_on side) (sym (alone runs)) ∙ off))))
      h

  unshown_then : is_on OfKeys a ≡ false → ((x : Reference) (k : Key) → key_of s x ≡ Some k → is_shown OfKeys DsSet k.roles ≡ false) → (x : Reference) (k : Key) → key_of t.left x ≡ Some k → is_shown OfKeys DsSet k.roles ≡ false
  unshown_then off h x l f =
      let v = from_before g s.keys x l (ap (find reference_cmp x) (sym w.turn.keys) ∙ f) in
      at v.0 v.1 v.2 (is_shown OfKeys DsSet l.roles) refl
    where
      at : (k : Key) → key_of s x ≡ Some k → l ≡ g x k → (c : Bool) → is_shown OfKeys DsSet l.roles ≡ c → is_shown OfKeys DsSet l.roles ≡ false
      at k here e false i = i
      at k here e true i =
          let free_l : touches a l.roles ≡ false = untouched OfKeys a l.roles off (shown_of OfKeys DsSet l.roles i) in
          let free : touches a k.roles ≡ false = touches_alike a k.roles l.roles (sym (w.moves.kind x k) ∙ ap (λ (k : Key). Rattle.keyset.proofs.KeyKinds.kind_of k.roles) (sym e)) ∙ free_l in
          ap (λ (k : Key). is_shown OfKeys DsSet k.roles) (e ∙ w.moves.still x k here free) ∙ h x k here

  pub off_unborn : T (is_sorted reference_cmp t.left.keys) → is_on OfKeys a ≡ false → Unborn life steps s → Unborn life (steps ++ t ∷ []) t.left
  off_unborn sorted off u = record {
    no_ds = no_ds_more OfKeys life steps t (unshown_empty t.left sorted (unshown_then off u.at_no_parent)) u.no_ds;
    at_no_parent = unshown_then off u.at_no_parent;
    no_roll = λ r on. w.turn.others r (not_same r a (other_side OfKeys r a on off)) ∙ u.no_roll r on;
    none_started = Rattle.keyset_laws.proofs.Retiring.any_last (is_start AlgorithmRoll) steps t u.none_started (no_start AlgorithmRoll (λ e. other_side OfKeys AlgorithmRoll a refl off e));
  }

-- a roll that runs is on no side of a life without a DS set
unborn_off : (life : Life) (steps : List Step) (s : KeySetState) (a : RollType) → Unborn life steps s → is_some (phase_of s a) ≡ true → is_on OfKeys a ≡ false
unborn_off life steps s a u runs = by_side OfKeys a (is_on OfKeys a ≡ false) (λ on. absurd (false≢true (ap is_some (sym (u.no_roll a on)) ∙ runs))) (λ off. off)

abbrev pub home : RollType → Side
home ZskRoll = OfZone
home ZskDoubleSignatureRoll = OfZone
home _ = OfKeys

home_on : (a : RollType) → is_on (home a) a ≡ true
home_on KskRoll = refl
home_on _ = refl

pub witness_on : (a : RollType) → is_on (witness a) a ≡ true
witness_on KskRoll = refl
witness_on _ = refl

-- ---- starts

-- what stands before the first start of a roll of the algorithm
first_ok : (ts : List Step) (t : Step) (after : List Step) → list_any (λ (t : Step). is_start AlgorithmRoll t.call) ts ≡ false → algorithm_first (ts ++ t ∷ after) ≡ true → (is_start AlgorithmRoll t.call || not (starts_from_ds t.call)) ≡ true
first_ok [] t after n h = at (is_start AlgorithmRoll t.call) (not (starts_from_ds t.call)) (algorithm_first after) h
  where
    at : (a b c : Bool) → (a || (b && c)) ≡ true → (a || b) ≡ true
    at true b c h = refl
    at false true c h = refl
    at false false c h = h
first_ok (x ∷ ts) t after n h = at (is_start AlgorithmRoll x.call) (not (starts_from_ds x.call)) n h (λ n h. first_ok ts t after n h)
  where
    at : (a b : Bool) → (a || list_any (λ (t : Step). is_start AlgorithmRoll t.call) ts) ≡ false → (a || (b && algorithm_first (ts ++ t ∷ after))) ≡ true
        → (list_any (λ (t : Step). is_start AlgorithmRoll t.call) ts ≡ false → algorithm_first (ts ++ t ∷ after) ≡ true → (is_start AlgorithmRoll t.call || not (starts_from_ds t.call)) ≡ true) → (is_start AlgorithmRoll t.call || not (starts_from_ds t.call)) ≡ true
    at true b n h more = cc
    at false true n h more = more n h
    at false false n h more = cc

algorithm_only : (a : RollType) (olds news : List Reference) → is_on OfKeys a ≡ true → (is_start AlgorithmRoll (Start a olds news) || not (starts_from_ds (Start a olds news))) ≡ true → a ≡ AlgorithmRoll
algorithm_only KskRoll olds news on h = cc
algorithm_only KskDoubleDsRoll olds news on h = cc
algorithm_only ZskRoll olds news on h = cc
algorithm_only ZskDoubleSignatureRoll olds news on h = cc
algorithm_only CskRoll olds news on h = cc
algorithm_only AlgorithmRoll olds news on h = refl

need_in : (P : Need → Bool) (side : Side) (a : RollType) → is_on side a ≡ true → list_all P (needs a) ≡ true → P (need_of side a) ≡ true
need_in P OfKeys KskRoll on h = left_of (P (need_of OfKeys KskRoll)) true h
need_in P OfKeys KskDoubleDsRoll on h = left_of (P (need_of OfKeys KskDoubleDsRoll)) true h
need_in P OfKeys ZskRoll on h = cc
need_in P OfKeys ZskDoubleSignatureRoll on h = cc
need_in P OfKeys CskRoll on h = left_of (P (need_of OfKeys CskRoll)) (P (need_of OfZone CskRoll) && true) h
need_in P OfKeys AlgorithmRoll on h = left_of (P (need_of OfKeys AlgorithmRoll)) (P (need_of OfZone AlgorithmRoll) && true) h
need_in P OfZone KskRoll on h = cc
need_in P OfZone KskDoubleDsRoll on h = cc
need_in P OfZone ZskRoll on h = left_of (P (need_of OfZone ZskRoll)) true h
need_in P OfZone ZskDoubleSignatureRoll on h = left_of (P (need_of OfZone ZskDoubleSignatureRoll)) true h
need_in P OfZone CskRoll on h = left_of (P (need_of OfZone CskRoll)) true (right_of (P (need_of OfKeys CskRoll)) (P (need_of OfZone CskRoll) && true) h)
need_in P OfZone AlgorithmRoll on h = left_of (P (need_of OfZone AlgorithmRoll)) true (right_of (P (need_of OfKeys AlgorithmRoll)) (P (need_of OfZone AlgorithmRoll) && true) h)

any_mapped : (f : KeyType → Bool) (g : Reference → Key → Key) (es : List (Reference × Key)) → list_any f (map (λ (e : Reference × Key). (g e.0 e.1).roles) es) ≡ list_any {X = Reference × Key} (λ e. f e.1.roles) (changed g es)
any_mapped f g [] = refl
any_mapped f g (e ∷ es) = ap (λ b. f (g e.0 e.1).roles || b) (any_mapped f g es)

all_four : (a b c d : Bool) → a ≡ true → b ≡ true → c ≡ true → d ≡ true → (a && b && c && d) ≡ true
all_four true true true true e f g h = refl
all_four true true true false e f g h = cc
all_four true true false d e f g h = cc
all_four true false c d e f g h = cc
all_four false b c d e f g h = cc

doubles_early : (side : Side) (a : RollType) → doubles side a ≡ true → Rattle.keyset_laws.proofs.SideTables.signs_late a ≡ false
doubles_early OfKeys KskRoll d = refl
doubles_early OfZone KskRoll d = refl
doubles_early OfKeys ZskRoll d = cc
doubles_early OfZone ZskRoll d = cc
doubles_early OfKeys CskRoll d = cc
doubles_early OfZone CskRoll d = cc
doubles_early _ _ d = refl

doubles_on : (side : Side) (a : RollType) → doubles side a ≡ true → is_on OfZone a ≡ true
doubles_on OfZone ZskDoubleSignatureRoll d = refl
doubles_on OfZone AlgorithmRoll d = refl
doubles_on OfKeys KskRoll d = cc
doubles_on _ _ d = cc

late_on : (a : RollType) → Rattle.keyset_laws.proofs.SideTables.signs_late a ≡ true → is_on OfZone a ≡ true
late_on ZskRoll d = refl
late_on CskRoll d = refl
late_on _ d = cc

wanted_if : (d c : Bool) → (d ≡ true → c ≡ true) → (not d || c) ≡ true
wanted_if true c f = f refl
wanted_if false c f = refl

module _ (life : Life) (steps after : List Step) (s x : KeySetState) (now : ℕ) (p : Noted) (b : Base life steps s p) (a : RollType) (olds news : List Reference) (w : Started a now olds news s x) (sorted : T (is_sorted reference_cmp x.keys))
    (keep : (q : Reference) (k : Key) → key_of x q ≡ Some k → keeps_all k.roles ≡ true) (roles : Roles x) where
  alone : (r : RollType) → is_some (phase_of s r) ≡ true → conflicts a r ≡ false
  alone r runs = runs_alone a r s.rolls w.starts.alone runs

  none_on : (side : Side) → is_on side a ≡ true → (r : RollType) → is_on side r ≡ true → is_some (phase_of s r) ≡ true → ⊥
  none_on side on r h runs = false≢true (sym (alone r runs) ∙ conflict_on side a r on h)

  settled_new : (side : Side) → doubles side a ≡ true → (q : Reference) (k : Key) → key_of x q ≡ Some k → is_settled k.roles ≡ true
  settled_new side d q k f = ⊎_elim
      (λ (y : is_settled k.roles ≡ true). y)
      (λ (y : IsUnsettled x k.roles).
      (let other : y.0 ≡ a → ⊥ = λ e. true≢false (sym y.1 ∙ ap Rattle.keyset_laws.proofs.SideTables.signs_late e ∙ doubles_early side a d) in
      let early : is_first (phase_of s y.0) ≡ true = ap is_first (sym (w.moved.turn.others y.0 (not_same y.0 a other))) ∙ y.3 in
      absurd (none_on OfZone (doubles_on side a d) y.0 (late_on y.0 y.1) (first_runs (phase_of s y.0) early))))
      (roles.settled q k f)

  -- a start leaves a key that is new and ready
  pub new_ready : (side : Side) → is_on side a ≡ true → (n : Reference) × HasKey x n (is_ready side a)
  new_ready side on =
      let test = λ (t : KeyType). touches a t && meets_need (need_of side a) t in
      let some : list_any test (roles_after a olds news s.keys) ≡ true = need_in (λ n. has_needed a n (roles_after a olds news s.keys)) side a on w.starts.serves in
      let there : list_any {X = Reference × Key} (λ e. test e.1.roles) x.keys ≡ true = ap (λ es. list_any {X = Reference × Key} (λ e. test e.1.roles) es) w.moved.turn.keys ∙ sym (any_mapped test (start_of a now olds news) s.keys) ∙ some in
      let found = any_found (λ _ k. test k.roles) x.keys sorted there in
      let n = found.0 in
      let k = found.1 in (
        n,
        (
          k,
          found.2,
          readied side a k.roles
              (all_four (touches a k.roles) (keeps_all k.roles) (not (doubles side a) || is_settled k.roles) (meets_need (need_of side a) k.roles)
              (left_of (touches a k.roles) (meets_need (need_of side a) k.roles) found.3)
              (keep n k found.2)
              (wanted_if (doubles side a) (is_settled k.roles) (λ d. settled_new side d n k found.2))
              (right_of (touches a k.roles) (meets_need (need_of side a) k.roles) found.3)),
        ),
      )

  shown_on : (side : Side) (q : Reference) (thing : Thing) → HasKey s q (is_shown side thing) → HasKey x q (is_shown side thing)
  shown_on side q thing h = taken a (phase_of s a) (Some Propagation1) (start_of a now olds news) s x (is_shown side thing) (is_shown side thing) w.moved.turn (λ q k f h. started_shown side a thing (listed olds q) (listed news q) k.roles h) q h

  start_kept : (side : Side) → Kept side life steps s p → Kept side life (steps ++ step_of now (Start a olds news) x ∷ []) x p
  start_kept side h = by_side side a (Kept side life (steps ++ step_of now (Start a olds news) x ∷ []) x p)
      (λ on.
      (let t = step_of now (Start a olds news) x in
      let rest = resting_of side life steps s p (together life steps s p b) h a on (λ r k i. none_on side on r k (first_runs (phase_of s r) i)) (λ r k i. none_on side on r k (second_runs (phase_of s r) i)) in
      let new = new_ready side on in
      Grows a
      (start_grows side life steps s t (p a) a on (start_of a now olds news) (phase_of s a) w.moved.turn (roll_itself a) new.0 new.1
      (inr (rest.anchor, anchored_more side life steps t s rest.anchor rest.anchored (shown_on side rest.anchor DnskeyAnswer rest.anchored.in_keys) (shown_on side rest.anchor (partner side) rest.anchored.in_ends))))))
      (λ off.
      off_kept life steps s (step_of now (Start a olds news) x) p p b a (phase_of s a) (Some Propagation1) (start_of a now olds news) w.moved
      (λ r e. not_alike a r (λ i. e (sym i))) (λ r e. refl) (λ r e. refl) side off (λ runs. absurd (false≢true (sym (alone AlgorithmRoll runs) ∙ algorithm_conflicts a))) h)

  -- a start of the algorithm leaves the parent alone
  started_unshown : (is_old is_new : Bool) (t : KeyType) → is_shown OfKeys DsSet (started_roles AlgorithmRoll is_old is_new t) ≡ is_shown OfKeys DsSet t
  started_unshown is_old true (Ksk f) = refl
  started_unshown is_old true (Zsk f) = refl
  started_unshown is_old true (Csk f g) = refl
  started_unshown is_old true (Include f) = refl
  started_unshown true false (Ksk f) = refl
  started_unshown true false (Zsk f) = refl
  started_unshown true false (Csk f g) = refl
  started_unshown true false (Include f) = refl
  started_unshown false false t = refl

  algorithm_unshown : a ≡ AlgorithmRoll → ((q : Reference) (k : Key) → key_of s q ≡ Some k → is_shown OfKeys DsSet k.roles ≡ false) → (q : Reference) (l : Key) → key_of x q ≡ Some l → is_shown OfKeys DsSet l.roles ≡ false
  algorithm_unshown e h q l f =
      let v = from_before (start_of a now olds news) s.keys q l (ap (find reference_cmp q) (sym w.moved.turn.keys) ∙ f) in
      ap (λ (k : Key). is_shown OfKeys DsSet k.roles) v.2
      ∙ ap (λ a. is_shown OfKeys DsSet (started_roles a (listed olds q) (listed news q) v.0.roles)) e
      ∙ started_unshown (listed olds q) (listed news q) v.0.roles
      ∙ h q v.0 v.1

  pub start_sides : life.steps ≡ steps ++ step_of now (Start a olds news) x ∷ after → algorithm_first life.steps ≡ true → Sides life steps s p → Sides life (steps ++ step_of now (Start a olds news) x ∷ []) x p
  start_sides all first (inr h) = inr (λ side. start_kept side (h side))
  start_sides all first (inl u) = by_side OfKeys a (Sides life (steps ++ step_of now (Start a olds news) x ∷ []) x p)
      (λ on.
      (let t = step_of now (Start a olds news) x in
      let e : a ≡ AlgorithmRoll = algorithm_only a olds news on (first_ok steps t after u.none_started (ap algorithm_first (sym all) ∙ first)) in
      let none : NoDs life (steps ++ t ∷ []) = no_ds_more OfKeys life steps t (unshown_empty x sorted (algorithm_unshown e u.at_no_parent)) u.no_ds in
      inr (λ side.
      (let on_side : is_on side a ≡ true = ap (is_on side) e ∙ algorithm_on side in
      let new = new_ready side on_side in
      Grows a (start_grows side life steps s t (p a) a on_side (start_of a now olds news) (phase_of s a) w.moved.turn (roll_itself a) new.0 new.1 (inl (e, none)))))))
      (λ off.
      inl (off_unborn life steps s (step_of now (Start a olds news) x) p p b a (phase_of s a) (Some Propagation1) (start_of a now olds news) w.moved
      (λ r e. not_alike a r (λ i. e (sym i))) (λ r e. refl) (λ r e. refl) sorted off u))

-- ---- reports and waits

module _ (life : Life) (steps : List Step) (s : KeySetState) (p : Noted) (b : Base life steps s p) (a : RollType) (runs : is_some (phase_of s a) ≡ true) where
  algorithm_alone : is_some (phase_of s AlgorithmRoll) ≡ true → a ≡ AlgorithmRoll
  algorithm_alone other = together life steps s p b a AlgorithmRoll runs other (algorithm_conflicts a)

pub when_roles : (c : Bool) (h : Key → Key) (k : Key) → (h k).roles ≡ k.roles → (when c h k).roles ≡ k.roles
when_roles true h k e = e
when_roles false h k e = refl

pub when_on : (c : Bool) (h : Key → Key) (k : Key) → c ≡ true → when c h k ≡ h k
when_on true h k e = refl
when_on false h k e = cc

module _ (life : Life) (steps after : List Step) (s x : KeySetState) (now ttl : ℕ) (p : Noted) (b : Base life steps s p) (a : RollType) (sorted : T (is_sorted reference_cmp x.keys)) (in_time : now ≤ life.moment) where
  noted1 : (then p (Report1 a ttl) now a).first ≡ Some (now, ttl)
  noted1 = ap (λ c. (cond c (record (p a) { first = Some (now, ttl) }) (p a)).first) (roll_itself a)

  noted2 : (then p (Report2 a ttl) now a).second ≡ Some (now, ttl)
  noted2 = ap (λ c. (cond c (record (p a) { second = Some (now, ttl) }) (p a)).second) (roll_itself a)

  unnoted1 : (r : RollType) → (r ≡ a → ⊥) → p r ≡ then p (Report1 a ttl) now r
  unnoted1 r e = ap (λ c. cond c (record (p r) { first = Some (now, ttl) }) (p r)) (sym (not_alike r a e))

  unnoted2 : (r : RollType) → (r ≡ a → ⊥) → p r ≡ then p (Report2 a ttl) now r
  unnoted2 r e = ap (λ c. cond c (record (p r) { second = Some (now, ttl) }) (p r)) (sym (not_alike r a e))

  pub report1_sides : Reported1 a now s ttl x → life.steps ≡ steps ++ step_of now (Report1 a ttl) x ∷ after → Sides life steps s p → Sides life (steps ++ step_of now (Report1 a ttl) x ∷ []) x (then p (Report1 a ttl) now)
  report1_sides w all (inl u) =
      inl (off_unborn life steps s (step_of now (Report1 a ttl) x) p (then p (Report1 a ttl) now) b a (Some Propagation1) (Some (CacheExpire1 ttl)) (touched_by a (reported1 a now)) w (λ r e. refl) (λ r e. refl) unnoted1 sorted
      (unborn_off life steps s a u (ap is_some w.turn.was)) u)
  report1_sides w all (inr h) = inr (λ side.
      by_side side a (Kept side life (steps ++ step_of now (Report1 a ttl) x ∷ []) x (then p (Report1 a ttl) now))
      (λ on.
      Grows a
      (report1_grows side life steps after s x now ttl (p a) (then p (Report1 a ttl) now a) a on (touched_by a (reported1 a now)) (λ y k. when_roles (touches a k.roles) (reported1 a now) k refl) in_time all w.turn noted1
      (growing_of side life steps s p (together life steps s p b) (h side) a on (ap is_first w.turn.was))
      (λ none. unshown_empty x sorted (λ q l f.
      (let v = from_before (touched_by a (reported1 a now)) s.keys q l (ap (find reference_cmp q) (sym w.turn.keys) ∙ f) in
      ap (λ (k : Key). is_shown OfKeys DsSet k.roles) v.2
      ∙ ap (is_shown OfKeys DsSet) (when_roles (touches a v.0.roles) (reported1 a now) v.0 refl)
      ∙ empty_unshown s (none b.here.0 s b.here.1) q v.0 v.1)))))
      (λ off.
      off_kept life steps s (step_of now (Report1 a ttl) x) p (then p (Report1 a ttl) now) b a (Some Propagation1) (Some (CacheExpire1 ttl)) (touched_by a (reported1 a now)) w (λ r e. refl) (λ r e. refl) unnoted1 side off
      (algorithm_alone life steps s p b a (ap is_some w.turn.was)) (h side)))

  pub report2_sides : Reported2 a now s ttl x → life.steps ≡ steps ++ step_of now (Report2 a ttl) x ∷ after → Sides life steps s p → Sides life (steps ++ step_of now (Report2 a ttl) x ∷ []) x (then p (Report2 a ttl) now)
  report2_sides w all (inl u) =
      inl (off_unborn life steps s (step_of now (Report2 a ttl) x) p (then p (Report2 a ttl) now) b a (Some Propagation2) (Some (CacheExpire2 ttl)) (touched_by a (reported2 a now)) w (λ r e. refl) (λ r e. refl) unnoted2 sorted
      (unborn_off life steps s a u (ap is_some w.turn.was)) u)
  report2_sides w all (inr h) = inr (λ side.
      by_side side a (Kept side life (steps ++ step_of now (Report2 a ttl) x ∷ []) x (then p (Report2 a ttl) now))
      (λ on.
      Switches a
      (report2_switches side life steps after s x now ttl (p a) (then p (Report2 a ttl) now a) a on (touched_by a (reported2 a now)) (λ y k. when_roles (touches a k.roles) (reported2 a now) k refl) in_time all w.turn noted2
      (switched_of side life steps s p (together life steps s p b) (h side) a on (ap is_second w.turn.was))))
      (λ off.
      off_kept life steps s (step_of now (Report2 a ttl) x) p (then p (Report2 a ttl) now) b a (Some Propagation2) (Some (CacheExpire2 ttl)) (touched_by a (reported2 a now)) w (λ r e. refl) (λ r e. refl) unnoted2 side off
      (algorithm_alone life steps s p b a (ap is_some w.turn.was)) (h side)))

module _ (life : Life) (steps after : List Step) (s x : KeySetState) (now : ℕ) (p : Noted) (b : Base life steps s p) (a : RollType) (sorted : T (is_sorted reference_cmp x.keys)) (in_time : now ≤ life.moment) where
  keep_here : (q : Reference) (k : Key) → key_of s q ≡ Some k → keeps_all k.roles ≡ true
  keep_here = keep_all life steps s p b

  pub wait1_sides : Waited1 a now s x → is_accepted (wait1 a now s) ≡ true → Sides life steps s p → Sides life (steps ++ step_of now (Wait1 a) x ∷ []) x p
  wait1_sides w accepted (inl u) =
      inl (off_unborn life steps s (step_of now (Wait1 a) x) p p b a (Some (CacheExpire1 w.ttl)) (Some Propagation2) (touched_by a (waited1 a now)) w.moved (λ r e. refl) (λ r e. not_alike a r (λ i. e (sym i))) (λ r e. refl) sorted
      (unborn_off life steps s a u (ap is_some w.phase)) u)
  wait1_sides w accepted (inr h) =
      let grows = λ (side : Side) (on : is_on side a ≡ true). growing_of side life steps s p (together life steps s p b) (h side) a on (ap is_first w.phase) in
      let at_home = grows (home a) (home_on a) in
      let ran = ran1 a s (p a) w.ttl now (b.holds a) w.phase accepted (ready_awaited (home a) a s at_home.new (λ k f. keep_here at_home.new k f) at_home.ready) in
      inr (λ side.
      by_side side a (Kept side life (steps ++ step_of now (Wait1 a) x ∷ []) x p)
      (λ on.
      Switches a
      (wait1_switches side life steps s (step_of now (Wait1 a) x) (p a) a on (touched_by a (waited1 a now)) w.moved.moves.still keep_here w.ttl ran.0 w.moved.turn
      (λ q k f e. ap (λ (k : Key). k.roles) (when_on (touches a k.roles) (waited1 a now) k e))
      (grows side on) (roll_itself a) ran.1 (now, in_time, ran.2)))
      (λ off.
      off_kept life steps s (step_of now (Wait1 a) x) p p b a (Some (CacheExpire1 w.ttl)) (Some Propagation2) (touched_by a (waited1 a now)) w.moved (λ r e. refl) (λ r e. not_alike a r (λ i. e (sym i))) (λ r e. refl) side off
      (algorithm_alone life steps s p b a (ap is_some w.phase)) (h side)))

  pub wait2_sides : Waited2 a now s x → is_accepted (wait2 a now s) ≡ true → Sides life steps s p → Sides life (steps ++ step_of now (Wait2 a) x ∷ []) x p
  wait2_sides w accepted (inl u) =
      inl (off_unborn life steps s (step_of now (Wait2 a) x) p p b a (Some (CacheExpire2 w.ttl)) (Some Done) (touched_by a (waited2 a now)) w.moved (λ r e. refl) (λ r e. refl) (λ r e. refl) sorted
      (unborn_off life steps s a u (ap is_some w.phase)) u)
  wait2_sides w accepted (inr h) =
      let switches = λ (side : Side) (on : is_on side a ≡ true). switched_of side life steps s p (together life steps s p b) (h side) a on (ap is_second w.phase) in
      let seen = switches (witness a) (witness_on a) in
      let ran = ran2 a s (p a) w.ttl now (b.holds a) w.phase accepted (lasting_awaited a s seen.new (λ k f. keep_here seen.new k f) seen.lasting) in
      inr (λ side.
      by_side side a (Kept side life (steps ++ step_of now (Wait2 a) x ∷ []) x p)
      (λ on.
      Rests
      (wait2_rests side life steps s (step_of now (Wait2 a) x) (p a) a on (touched_by a (waited2 a now)) w.moved.moves.still keep_here w.ttl ran.0 w.moved.turn
      (λ q k f e. ap (λ (k : Key). k.roles) (when_on (touches a k.roles) (waited2 a now) k e))
      (together life steps s p b) (switches side on) (λ d. (ran.1, (now, in_time, ran.2)))))
      (λ off.
      off_kept life steps s (step_of now (Wait2 a) x) p p b a (Some (CacheExpire2 w.ttl)) (Some Done) (touched_by a (waited2 a now)) w.moved (λ r e. refl) (λ r e. refl) (λ r e. refl) side off
      (algorithm_alone life steps s p b a (ap is_some w.phase)) (h side)))

  same_shown : Finished a s x → (side : Side) (q : Reference) (thing : Thing) → HasKey s q (is_shown side thing) → HasKey x q (is_shown side thing)
  same_shown w side q thing h = taken a (Some Done) None same_key s x (is_shown side thing) (is_shown side thing) w.turn (λ q k f h. h) q h

  finished_rests : Finished a s x → (side : Side) → Resting side life steps s → Resting side life (steps ++ step_of now (Finish a) x ∷ []) x
  finished_rests w side h = record {
    anchor = h.anchor;
    anchored = anchored_more side life steps (step_of now (Finish a) x) s h.anchor h.anchored (same_shown w side h.anchor DnskeyAnswer h.anchored.in_keys) (same_shown w side h.anchor (partner side) h.anchored.in_ends);
    none_runs = λ r on. at r on (eq_by_cmp kind_cmp r a) refl;
  }
    where
      at : (r : RollType) → is_on side r ≡ true → (c : Bool) → eq_by_cmp kind_cmp r a ≡ c → rests (phase_of x r) ≡ true
      at r on true e = ap (λ r. rests (phase_of x r)) (kind_same r a (is_equal (kind_cmp r a) e)) ∙ ap rests w.turn.becomes
      at r on false e = ap rests (w.turn.others r e) ∙ h.none_runs r on

  pub finish_sides : Finished a s x → Sides life steps s p → Sides life (steps ++ step_of now (Finish a) x ∷ []) x p
  finish_sides w (inl u) =
      inl (off_unborn life steps s (step_of now (Finish a) x) p p b a (Some Done) None same_key w (λ r e. refl) (λ r e. refl) (λ r e. refl) sorted (unborn_off life steps s a u (ap is_some w.turn.was)) u)
  finish_sides w (inr h) = inr (λ side.
      by_side side a (Kept side life (steps ++ step_of now (Finish a) x ∷ []) x p)
      (λ on. Rests (finished_rests w side (resting_at_done side life steps s p (together life steps s p b) (h side) a on w.turn.was)))
      (λ off. off_kept life steps s (step_of now (Finish a) x) p p b a (Some Done) None same_key w (λ r e. refl) (λ r e. refl) (λ r e. refl) side off (algorithm_alone life steps s p b a (ap is_some w.turn.was)) (h side)))
