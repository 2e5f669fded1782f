-- The tags that calls on a key set leave, and that references rise behind them.
use Rattle.std.proofs.Common.{◌≡◌, ℕ, Bool, true, false, List, refl, sym, ap, ◌∙◌, T}
use Rattle.std.specs.Prelude.{Option, Some, None, Ok, Err}
use Rattle.std.specs.FinMap.Entries.{find, is_sorted}
use Rattle.keyset_rolls.specs.declared.rolls.RollState.{RollState}
use Rattle.keyset_rolls.specs.declared.rolls.RollState.TheVariants.{Propagation1, CacheExpire1, Propagation2, CacheExpire2, Done}
use Rattle.keyset_rolls.specs.declared.rolls.RollType.{RollType}
use Rattle.keyset_rolls.specs.declared.rolls.Turn.TheVariants.{First, Second}
use Rattle.keyset.specs.KeyState.{Answer, Key, KeySetState, Reference, Refusal, done, enter, listed, on_keys, phase_of, reference_cmp, report1, report2, start, start_fault, started, unless_fault, wait1, wait2, wait_fault, when}
use Rattle.keyset.proofs.KeyFinds.{changed, from_before, sorted_changed}
use Rattle.keyset_rolls.specs.Rolls.{reported1, reported2, started_key, touches, waited1, waited2}

-- each key was there before, with its tag
abbrev pub TagsFrom : List (Reference × Key) → List (Reference × Key) → Type 0
TagsFrom es fs = (q : Reference) (l : Key) → find reference_cmp q fs ≡ Some l → (k : Key) × (find reference_cmp q es ≡ Some k) × (k.tag ≡ l.tag)

-- where references rose they rise
abbrev pub RisesFrom : List (Reference × Key) → List (Reference × Key) → Type 0
RisesFrom es fs = T (is_sorted reference_cmp es) → T (is_sorted reference_cmp fs)

-- what an accepted call leaves beside what was there
abbrev pub Leaves : (List (Reference × Key) → List (Reference × Key) → Type 0) → List (Reference × Key) → Answer → Type 0
Leaves P es (Ok x) = P es x.0.keys
Leaves P es (Err e) = Unit {0}

abbrev pub LeavesTags : List (Reference × Key) → Answer → Type 0
LeavesTags es a = Leaves TagsFrom es a

abbrev pub LeavesRising : List (Reference × Key) → Answer → Type 0
LeavesRising es a = Leaves RisesFrom es a

same_tags : (es : List (Reference × Key)) → TagsFrom es es
same_tags es q l h = (l, h, refl)

changed_tags : (h : Reference → Key → Key) → ((q : Reference) (k : Key) → (h q k).tag ≡ k.tag) → (es : List (Reference × Key)) → TagsFrom es (changed h es)
changed_tags h step es q l e =
    let b = from_before h es q l e in (b.0, b.1, sym (ap (λ (k : Key). k.tag) b.2 ∙ step q b.0))

changed_rises : (h : Reference → Key → Key) → ((q : Reference) (k : Key) → (h q k).tag ≡ k.tag) → (es : List (Reference × Key)) → RisesFrom es (changed h es)
changed_rises h step es = sorted_changed h es

when_tag : (b : Bool) (h : Key → Key) (k : Key) → (h k).tag ≡ k.tag → (when b h k).tag ≡ k.tag
when_tag true h k e = e
when_tag false h k e = refl

-- ---- calls that add nothing: they change keys and leave their tags

module _ (P : List (Reference × Key) → List (Reference × Key) → Type 0) (stays : (es : List (Reference × Key)) → P es es) (changes : (h : Reference → Key → Key) → ((q : Reference) (k : Key) → (h q k).tag ≡ k.tag) → (es : List (Reference × Key)) → P es (changed h es)) where
  on_keys_leaves : (r : RollType) (h : Key → Key) → ((k : Key) → (h k).tag ≡ k.tag) → (es : List (Reference × Key)) → P es (on_keys r h es)
  on_keys_leaves r h step es = changes (λ _ k. when (touches r k.roles) h k) (λ _ k. when_tag (touches r k.roles) h k (step k)) es

  unless_leaves : (fault : Option Refusal) (r : RollType) (p : RollState) (ks : List (Reference × Key)) (s : KeySetState) → P s.keys ks → Leaves P s.keys (unless_fault fault (enter r p ks s))
  unless_leaves None r p ks s w = w
  unless_leaves (Some e) r p ks s w = tt

  pub start_leaves : (r : RollType) (olds news : List Reference) (now : ℕ) (s : KeySetState) → Leaves P s.keys (start r olds news now s)
  start_leaves r olds news now s =
      unless_leaves (start_fault r olds news s) r Propagation1 (started r now olds news s.keys) s (changes (λ q k. started_key r now (listed olds q) (listed news q) k) (λ q k. refl) s.keys)

  module _ (r : RollType) (ttl now : ℕ) (s : KeySetState) where
    at_report1 : (o : Option RollState) → phase_of s r ≡ o → Leaves P s.keys (report1 r ttl now s)
    at_report1 None h = rw (h, report1) tt
    at_report1 (Some Propagation1) h = rw (h, report1) (on_keys_leaves r (reported1 r now) (λ _. refl) s.keys)
    at_report1 (Some (CacheExpire1 t)) h = rw (h, report1) tt
    at_report1 (Some Propagation2) h = rw (h, report1) tt
    at_report1 (Some (CacheExpire2 t)) h = rw (h, report1) tt
    at_report1 (Some Done) h = rw (h, report1) tt

    at_wait1 : (o : Option RollState) → phase_of s r ≡ o → Leaves P s.keys (wait1 r now s)
    at_wait1 None h = rw (h, wait1) tt
    at_wait1 (Some Propagation1) h = rw (h, wait1) tt
    at_wait1 (Some (CacheExpire1 t)) h = rw (h, wait1) (unless_leaves (wait_fault r First t now s.keys) r Propagation2 (on_keys r (waited1 r now) s.keys) s (on_keys_leaves r (waited1 r now) (λ _. refl) s.keys))
    at_wait1 (Some Propagation2) h = rw (h, wait1) tt
    at_wait1 (Some (CacheExpire2 t)) h = rw (h, wait1) tt
    at_wait1 (Some Done) h = rw (h, wait1) tt

    at_report2 : (o : Option RollState) → phase_of s r ≡ o → Leaves P s.keys (report2 r ttl now s)
    at_report2 None h = rw (h, report2) tt
    at_report2 (Some Propagation1) h = rw (h, report2) tt
    at_report2 (Some (CacheExpire1 t)) h = rw (h, report2) tt
    at_report2 (Some Propagation2) h = rw (h, report2) (on_keys_leaves r (reported2 r now) (λ _. refl) s.keys)
    at_report2 (Some (CacheExpire2 t)) h = rw (h, report2) tt
    at_report2 (Some Done) h = rw (h, report2) tt

    at_wait2 : (o : Option RollState) → phase_of s r ≡ o → Leaves P s.keys (wait2 r now s)
    at_wait2 None h = rw (h, wait2) tt
    at_wait2 (Some Propagation1) h = rw (h, wait2) tt
    at_wait2 (Some (CacheExpire1 t)) h = rw (h, wait2) tt
    at_wait2 (Some Propagation2) h = rw (h, wait2) tt
    at_wait2 (Some (CacheExpire2 t)) h = rw (h, wait2) (unless_leaves (wait_fault r Second t now s.keys) r Done (on_keys r (waited2 r now) s.keys) s (on_keys_leaves r (waited2 r now) (λ _. refl) s.keys))
    at_wait2 (Some Done) h = rw (h, wait2) tt

    at_done : (o : Option RollState) → phase_of s r ≡ o → Leaves P s.keys (done r s)
    at_done None h = rw (h, done) tt
    at_done (Some Propagation1) h = rw (h, done) tt
    at_done (Some (CacheExpire1 t)) h = rw (h, done) tt
    at_done (Some Propagation2) h = rw (h, done) tt
    at_done (Some (CacheExpire2 t)) h = rw (h, done) tt
    at_done (Some Done) h = rw (h, done) (stays s.keys)

  pub report1_leaves : (r : RollType) (ttl now : ℕ) (s : KeySetState) → Leaves P s.keys (report1 r ttl now s)
  report1_leaves r ttl now s = at_report1 r ttl now s (phase_of s r) refl

  pub wait1_leaves : (r : RollType) (now : ℕ) (s : KeySetState) → Leaves P s.keys (wait1 r now s)
  wait1_leaves r now s = at_wait1 r 0 now s (phase_of s r) refl

  pub report2_leaves : (r : RollType) (ttl now : ℕ) (s : KeySetState) → Leaves P s.keys (report2 r ttl now s)
  report2_leaves r ttl now s = at_report2 r ttl now s (phase_of s r) refl

  pub wait2_leaves : (r : RollType) (now : ℕ) (s : KeySetState) → Leaves P s.keys (wait2 r now s)
  wait2_leaves r now s = at_wait2 r 0 now s (phase_of s r) refl

  pub done_leaves : (r : RollType) (s : KeySetState) → Leaves P s.keys (done r s)
  done_leaves r s = at_done r 0 0 s (phase_of s r) refl

-- ---- the tags and the order that they leave

pub start_tags : (r : RollType) (olds news : List Reference) (now : ℕ) (s : KeySetState) → LeavesTags s.keys (start r olds news now s)
start_tags r olds news now s = start_leaves TagsFrom same_tags changed_tags r olds news now s

pub report1_tags : (r : RollType) (ttl now : ℕ) (s : KeySetState) → LeavesTags s.keys (report1 r ttl now s)
report1_tags r ttl now s = report1_leaves TagsFrom same_tags changed_tags r ttl now s

pub wait1_tags : (r : RollType) (now : ℕ) (s : KeySetState) → LeavesTags s.keys (wait1 r now s)
wait1_tags r now s = wait1_leaves TagsFrom same_tags changed_tags r now s

pub report2_tags : (r : RollType) (ttl now : ℕ) (s : KeySetState) → LeavesTags s.keys (report2 r ttl now s)
report2_tags r ttl now s = report2_leaves TagsFrom same_tags changed_tags r ttl now s

pub wait2_tags : (r : RollType) (now : ℕ) (s : KeySetState) → LeavesTags s.keys (wait2 r now s)
wait2_tags r now s = wait2_leaves TagsFrom same_tags changed_tags r now s

pub done_tags : (r : RollType) (s : KeySetState) → LeavesTags s.keys (done r s)
done_tags r s = done_leaves TagsFrom same_tags changed_tags r s

pub start_rises : (r : RollType) (olds news : List Reference) (now : ℕ) (s : KeySetState) → LeavesRising s.keys (start r olds news now s)
start_rises r olds news now s = start_leaves RisesFrom (λ es h. h) changed_rises r olds news now s

pub report1_rises : (r : RollType) (ttl now : ℕ) (s : KeySetState) → LeavesRising s.keys (report1 r ttl now s)
report1_rises r ttl now s = report1_leaves RisesFrom (λ es h. h) changed_rises r ttl now s

pub wait1_rises : (r : RollType) (now : ℕ) (s : KeySetState) → LeavesRising s.keys (wait1 r now s)
wait1_rises r now s = wait1_leaves RisesFrom (λ es h. h) changed_rises r now s

pub report2_rises : (r : RollType) (ttl now : ℕ) (s : KeySetState) → LeavesRising s.keys (report2 r ttl now s)
report2_rises r ttl now s = report2_leaves RisesFrom (λ es h. h) changed_rises r ttl now s

pub wait2_rises : (r : RollType) (now : ℕ) (s : KeySetState) → LeavesRising s.keys (wait2 r now s)
wait2_rises r now s = wait2_leaves RisesFrom (λ es h. h) changed_rises r now s

pub done_rises : (r : RollType) (s : KeySetState) → LeavesRising s.keys (done r s)
done_rises r s = done_leaves RisesFrom (λ es h. h) changed_rises r s
