-- Starts, ends, adds and deletes keep what runs keep.
use Rattle.std.proofs.Common.{◌≡◌, ℕ, Bool, true, false, cond, List, [], ◌∷◌, ◌++◌, refl, sym, ap, subst, ◌∙◌, ◌&&◌, ◌||◌, not, eqb}
use Rattle.std.specs.Prelude.{Option, Some, None, Ok, Err, is_some, if◌then◌else◌}
use Rattle.std.specs.List.{list_any}
use Rattle.std.specs.Str.{bytes_eq}
use Rattle.std.specs.Ordering.{eq_by_cmp}
use Rattle.std.specs.Cmp.Lexicographic.{bytes_decides, nat_list_cmp_total}
use Rattle.std.specs.declared.cmp.Ordering.TheVariants.{Equal}
use Rattle.std.specs.FinMap.Entries.{put, find, find-put, find-where_key, is_sorted-put, is_sorted-where_key}
use Rattle.std.proofs.lemmas.Bool.{false≢true}
use Rattle.keyset_keys.specs.declared.keys.KeyType.{KeyType}
use Rattle.keyset_rolls.specs.declared.rolls.RollState.{RollState}
use Rattle.keyset_rolls.specs.declared.rolls.RollState.TheVariants.{Propagation1, CacheExpire1, Propagation2, CacheExpire2, Done}
use Rattle.keyset_rolls.specs.declared.rolls.RollType.{RollType}
use Rattle.keyset_rolls.specs.Rolls.{touches, conflicts, started_key, started_roles}
use Rattle.keyset.specs.KeyState.{ConflictingRollInProgress, DuplicateKeyTag, Key, KeyExists, KeyNotFound, KeyNotOld, KeySetState, NoSuitableKeyPresent, Reference, Refusal, WrongKeyState, WrongKeyType, WrongStateForRollOperation, add, added, algorithms_fault, decoupled_to, delete, deleted, done, each_is, ended, entered, first_fault, first_new_fault, has_tag, index_of, is_fresh, is_stale, key_of, kind_cmp, listed, new_fault, new_key, old_fault, phase_of, reference_cmp, removed, roles_after, start, start_fault, started, suitable, write}
use Rattle.keyset.specs.KeyRuns.{Add, Delete, Finish, NewKey, SetDecoupled, Start, roles_of}
use Rattle.keyset.specs.KeyRunLaws.{Reports, keeps_roles}
use Rattle.keyset.proofs.KeyFinds.{is_equal, is_same}
use Rattle.keyset.proofs.KeyKinds.{conflicts_both, kind_started}
use Rattle.keyset.proofs.KeyMaps.{kind_same, kind_total}
use Rattle.keyset.proofs.KeyRunCalls.{Next, unless_next}
use Rattle.keyset.proofs.KeyRunSteps.{AllTouched, At, Holds, Kept, Moves, Stamped1, Stamped2, Together, step_holds}
use Rattle.keyset.proofs.KeyTables.{fresh_keeps, fresh_unwatched1, fresh_unwatched2, new_keeps, old_keeps}

-- ---- why a start isn't refused

abbrev after : Option Refusal → Option Refusal → Option Refusal
after x y = elim x [ Some e ↦ Some e | None ↦ y ]

pub record Starts (r : RollType) (olds news : List Reference) (s : KeySetState) : Type 0 where
  pub free : is_some (phase_of s r) ≡ false
  pub alone : list_any (λ e. conflicts r e.0) s.rolls ≡ false
  pub olds_pass : first_fault (old_fault r s) olds ≡ None
  pub news_pass : first_new_fault r s olds [] news ≡ None
  pub serves : suitable r (roles_after r olds news s.keys) ≡ true

parts : (a b c : Bool) (x y z : Option Refusal) (e f g : Refusal) → (if a then Some e else if b then Some f else after x (after y (after z (if c then None else Some g)))) ≡ None → (a ≡ false) × (b ≡ false) × (x ≡ None) × (y ≡ None) × (c ≡ true)
parts true b c x y z e f g h = cc
parts false true c x y z e f g h = cc
parts false false c (Some x) y z e f g h = cc
parts false false c None (Some y) z e f g h = cc
parts false false c None None (Some z) e f g h = cc
parts false false false None None None e f g h = cc
parts false false true None None None e f g h = (refl, refl, refl, refl, refl)

pub starts_so : (r : RollType) (olds news : List Reference) (s : KeySetState) → start_fault r olds news s ≡ None → Starts r olds news s
starts_so r olds news s h =
    let w = parts (is_some (phase_of s r)) (list_any (λ e. conflicts r e.0) s.rolls) (suitable r (roles_after r olds news s.keys)) (first_fault (old_fault r s) olds) (first_new_fault r s olds [] news) (algorithms_fault r olds news s)
    WrongStateForRollOperation ConflictingRollInProgress NoSuitableKeyPresent h in
    record { free = w.0; alone = w.1; olds_pass = w.2; news_pass = w.3; serves = w.4 }

after_none : (x y : Option Refusal) → after x y ≡ None → (x ≡ None) × (y ≡ None)
after_none None y h = (refl, h)
after_none (Some e) y h = cc

-- a listed reference is one of the list
listed_cases : (p q : Reference) (t : Bool) → bytes_eq p q ≡ t → (b : Bool) → (t || b) ≡ true → (t ≡ false → b ≡ true)
listed_cases p q true e b h = λ f. cc
listed_cases p q false e b h = λ _. h

old_passes : (f : Reference → Option Refusal) (qs : List Reference) (q : Reference) → first_fault f qs ≡ None → listed qs q ≡ true → f q ≡ None
old_passes f [] q h l = cc
old_passes f (x ∷ xs) q h l =
    let w = after_none (f x) (first_fault f xs) h in
    at (bytes_eq x q) refl w.0 (λ m. old_passes f xs q w.1 m) l
  where
    at : (t : Bool) → bytes_eq x q ≡ t → f x ≡ None → (listed xs q ≡ true → f q ≡ None) → (t || listed xs q) ≡ true → f q ≡ None
    at true e first more l = ap f (sym ((bytes_decides x q).0 e)) ∙ first
    at false e first more l = more l

new_passes : (r : RollType) (s : KeySetState) (olds before qs : List Reference) (q : Reference) → first_new_fault r s olds before qs ≡ None → listed qs q ≡ true → (b : List Reference) × (new_fault r s olds b q ≡ None)
new_passes r s olds before [] q h l = cc
new_passes r s olds before (x ∷ xs) q h l =
    let w = after_none (new_fault r s olds before x) (first_new_fault r s olds (before ++ x ∷ []) xs) h in
    at (bytes_eq x q) refl w.0 (λ m. new_passes r s olds (before ++ x ∷ []) xs q w.1 m) l
  where
    at : (t : Bool) → bytes_eq x q ≡ t → new_fault r s olds before x ≡ None → (listed xs q ≡ true → (b : List Reference) × (new_fault r s olds b q ≡ None)) → (t || listed xs q) ≡ true → (b : List Reference) × (new_fault r s olds b q ≡ None)
    at true e first more l = (before, ap (new_fault r s olds before) (sym ((bytes_decides x q).0 e)) ∙ first)
    at false e first more l = more l

abbrev old_of : RollType → Option Key → Option Refusal
old_of r o = elim o [ None ↦ Some KeyNotFound | Some k ↦ if touches r k.roles then None else Some WrongKeyType ]

abbrev new_of : RollType → List Reference → List Reference → Reference → Option Key → Option Refusal
new_of r olds before q o = elim o [
  | None ↦ Some KeyNotFound
  | Some k ↦ if not (touches r k.roles) then Some WrongKeyType
      else if each_is is_fresh k.roles && not (listed olds q) && not (listed before q) then None else Some WrongKeyState
]

-- a key that passes is touched
old_touched : (r : RollType) (k : Key) (o : Option Key) → o ≡ Some k → old_of r o ≡ None → touches r k.roles ≡ true
old_touched r k None e h = cc
old_touched r k (Some l) e h =
    let same : l ≡ k = cc in
    ap (λ (k : Key). touches r k.roles) (sym same) ∙ at (touches r l.roles) h
  where
    at : (t : Bool) → ◌≡◌ {A = Option Refusal} (if t then None else Some WrongKeyType) None → t ≡ true
    at true h = refl
    at false h = cc

new_touched : (r : RollType) (olds before : List Reference) (q : Reference) (k : Key) (o : Option Key) → o ≡ Some k
    → new_of r olds before q o ≡ None
    → (touches r k.roles ≡ true) × (each_is is_fresh k.roles ≡ true) × (listed olds q ≡ false)
new_touched r olds before q k None e h = cc
new_touched r olds before q k (Some l) e h =
    let same : l ≡ k = cc in
    subst (λ (k : Key). (touches r k.roles ≡ true) × (each_is is_fresh k.roles ≡ true) × (listed olds q ≡ false)) same (at (touches r l.roles) (each_is is_fresh l.roles) (listed olds q) (listed before q) h)
  where
    at : (t f o b : Bool) → ◌≡◌ {A = Option Refusal} (if not t then Some WrongKeyType else if f && not o && not b then None else Some WrongKeyState) None → (t ≡ true) × (f ≡ true) × (o ≡ false)
    at false f o b h = cc
    at true false o b h = cc
    at true true true b h = cc
    at true true false b h = (refl, refl, refl)

-- what an accepted start says of the keys that it lists
pub listed_old : (r : RollType) (olds news : List Reference) (s : KeySetState) → Starts r olds news s → (q : Reference) (k : Key) → At s.keys q k → listed olds q ≡ true → touches r k.roles ≡ true
listed_old r olds news s w q k f l = old_touched r k (key_of s q) f (old_passes (old_fault r s) olds q w.olds_pass l)

pub listed_new : (r : RollType) (olds news : List Reference) (s : KeySetState) → Starts r olds news s → (q : Reference) (k : Key) → At s.keys q k → listed news q ≡ true → (touches r k.roles ≡ true) × (each_is is_fresh k.roles ≡ true) × (listed olds q ≡ false)
listed_new r olds news s w q k f l = let b = new_passes r s olds [] news q w.news_pass l in new_touched r olds b.0 q k (key_of s q) f b.1

untouched_is_unlisted : (t l : Bool) → t ≡ false → (l ≡ true → t ≡ true) → l ≡ false
untouched_is_unlisted t true e h = absurd (false≢true (sym e ∙ h refl))
untouched_is_unlisted t false e h = refl

-- ---- starts

abbrev pub start_of : RollType → ℕ → List Reference → List Reference → Reference → Key → Key
start_of a now olds news q k = started_key a now (listed olds q) (listed news q) k

roles_keep : (a : RollType) (is_old is_new : Bool) (t : KeyType) → touches a t ≡ true → keeps_roles t ≡ true → keeps_roles (started_roles a is_old is_new t) ≡ true
roles_keep a is_old true t h k = new_keeps a t h k
roles_keep a true false t h k = old_keeps a t h k
roles_keep a false false t h k = k

pub moves_start : (a : RollType) (now : ℕ) (olds news : List Reference) (s : KeySetState) → Starts a olds news s → Moves a (start_of a now olds news) s.keys
moves_start a now olds news s w = record {
  still = λ q k f t.
      (let no : listed olds q ≡ false = untouched_is_unlisted (touches a k.roles) (listed olds q) t (listed_old a olds news s w q k f) in
      let nn : listed news q ≡ false = untouched_is_unlisted (touches a k.roles) (listed news q) t (λ l. (listed_new a olds news s w q k f l).0) in
      (λ i. started_key a now (no i) (nn i) k));
  kind = λ q k. kind_started a (listed olds q) (listed news q) k.roles;
  keeps = λ q k f t v. roles_keep a (listed olds q) (listed news q) k.roles t v;
}

-- a roll that runs is no other's that conflicts
pub runs_alone : (r b : RollType) (rs : List (RollType × RollState)) → list_any {X = RollType × RollState} (λ e. conflicts r e.0) rs ≡ false → is_some (find kind_cmp b rs) ≡ true → conflicts r b ≡ false
runs_alone r b [] n h = cc
runs_alone r b (e ∷ es) n h = at (eq_by_cmp kind_cmp b e.0) (conflicts r e.0) refl refl n h (λ m k. runs_alone r b es m k)
  where
    at : (t c : Bool) → eq_by_cmp kind_cmp b e.0 ≡ t → conflicts r e.0 ≡ c → (c || list_any {X = RollType × RollState} (λ e. conflicts r e.0) es) ≡ false → is_some (cond t (Some e.1) (find kind_cmp b es)) ≡ true
        → (list_any {X = RollType × RollState} (λ e. conflicts r e.0) es ≡ false → is_some (find kind_cmp b es) ≡ true → conflicts r b ≡ false) → conflicts r b ≡ false
    at t true i j n h more = cc
    at true false i j n h more = ap (conflicts r) (kind_same b e.0 (is_equal (kind_cmp b e.0) i)) ∙ j
    at false false i j n h more = more n h

found_phase : (s : KeySetState) (ks : List (Reference × Key)) (a b : RollType) (ph : RollState) → phase_of (entered a ph ks s) b ≡ cond (eq_by_cmp kind_cmp b a) (Some ph) (phase_of s b)
found_phase s ks a b ph = find-put kind_cmp kind_total b a ph s.rolls

pub together_started : (a : RollType) (ph : RollState) (ks : List (Reference × Key)) (s : KeySetState) → list_any (λ e. conflicts a e.0) s.rolls ≡ false → Together s → Together (entered a ph ks s)
together_started a ph ks s alone old b c k l conflict =
    at (eq_by_cmp kind_cmp b a) (eq_by_cmp kind_cmp c a) refl refl (ap is_some (sym (found_phase s ks a b ph)) ∙ k) (ap is_some (sym (found_phase s ks a c ph)) ∙ l)
  where
    same : (x : RollType) → eq_by_cmp kind_cmp x a ≡ true → x ≡ a
    same x e = kind_same x a (is_equal (kind_cmp x a) e)

    at : (t u : Bool) → eq_by_cmp kind_cmp b a ≡ t → eq_by_cmp kind_cmp c a ≡ u → is_some (cond t (Some ph) (phase_of s b)) ≡ true → is_some (cond u (Some ph) (phase_of s c)) ≡ true → b ≡ c
    at true true d e k l = same b d ∙ sym (same c e)
    at true false d e k l = absurd (false≢true (sym (runs_alone a c s.rolls alone l) ∙ ap (λ x. conflicts x c) (sym (same b d)) ∙ conflict))
    at false true d e k l = absurd (false≢true (sym (runs_alone a b s.rolls alone k) ∙ conflicts_both a b ∙ ap (conflicts b) (sym (same c e)) ∙ conflict))
    at false false d e k l = old b c k l conflict

pub start_next : (r : RollType) (p : Reports) (s : KeySetState) → Holds r s p → (a : RollType) (olds news : List Reference) (now : ℕ) → Next r p (Start a olds news) now s (start a olds news now s)
start_next r p s h a olds news now =
    unless_next r p (Start a olds news) now s (start_fault a olds news s) Propagation1 a (started a now olds news s.keys) h (λ e.
    (let w = starts_so a olds news s e in
    step_holds r s p h a (start_of a now olds news) Propagation1 (moves_start a now olds news s w) p
    (together_started a Propagation1 (started a now olds news s.keys) s w.alone h.together)
    (λ runs other. runs_alone a r s.rolls w.alone runs)
    (λ _. tt)
    (λ _. refl)))

-- ---- ends

module _ (r : RollType) (p : Reports) (s : KeySetState) (h : Holds r s p) (a : RollType) where
  pub phase_ended : (b : RollType) → phase_of (ended a s) b ≡ cond (not (eqb (index_of b) (index_of a))) (phase_of s b) None
  phase_ended b = find-where_key kind_cmp (λ q. not (eqb (index_of q) (index_of a))) b (λ x e. ap (λ q. not (eqb (index_of q) (index_of a))) (sym (kind_same b x e))) s.rolls

  ended_ran : (b : RollType) (t : Bool) → is_some (cond t (phase_of s b) None) ≡ true → is_some (phase_of s b) ≡ true
  ended_ran b true k = k
  ended_ran b false k = cc

  ended_kept : (t : Bool) → Kept r p s.keys (cond t (phase_of s r) None)
  ended_kept true = h.kept
  ended_kept false = tt

  ended_holds : Holds r (ended a s) p
  ended_holds = record {
    sorted = h.sorted;
    keeps = h.keeps;
    together = λ b c k l. h.together b c (ended_ran b (not (eqb (index_of b) (index_of a))) (ap is_some (sym (phase_ended b)) ∙ k)) (ended_ran c (not (eqb (index_of c) (index_of a))) (ap is_some (sym (phase_ended c)) ∙ l));
    kept = subst (Kept r p s.keys) (sym (phase_ended r)) (ended_kept (not (eqb (index_of r) (index_of a))));
  }

  at_done : (now : ℕ) (o : Option RollState) → phase_of s a ≡ o → Next r p (Finish a) now s (done a s)
  at_done now None e = rw (e, done) h
  at_done now (Some Propagation1) e = rw (e, done) h
  at_done now (Some (CacheExpire1 t)) e = rw (e, done) h
  at_done now (Some Propagation2) e = rw (e, done) h
  at_done now (Some (CacheExpire2 t)) e = rw (e, done) h
  at_done now (Some Done) e = rw (e, done) ended_holds

pub done_next : (r : RollType) (p : Reports) (s : KeySetState) → Holds r s p → (a : RollType) (now : ℕ) → Next r p (Finish a) now s (done a s)
done_next r p s h a now = at_done r p s h a now (phase_of s a) refl

-- ---- one key put in

module _ (r : RollType) (p : Reports) (s : KeySetState) (h : Holds r s p) (q : Reference) (n : Key) where
  pub put_all : (P : Key → Type 0) → P n → ((x : Reference) (k : Key) → At s.keys x k → P k) → (x : Reference) (k : Key) → At (put reference_cmp q n s.keys) x k → P k
  put_all P one all x k f = at (eq_by_cmp reference_cmp x q) (sym (find-put reference_cmp nat_list_cmp_total x q n s.keys) ∙ f)
    where
      at : (t : Bool) → cond t (Some n) (find reference_cmp x s.keys) ≡ Some k → P k
      at true g = let same : n ≡ k = cc in subst P same one
      at false g = all x k g

  put_touched : (F : Key → Type 0) → (touches r n.roles ≡ true → F n) → AllTouched r F s.keys → AllTouched r F (put reference_cmp q n s.keys)
  put_touched F one all = put_all (λ k. touches r k.roles ≡ true → F k) one all

  put_kept : (o : Option RollState) → ((since : ℕ) → AllTouched r (Stamped1 r since) s.keys → touches r n.roles ≡ true → Stamped1 r since n)
      → ((since : ℕ) → AllTouched r (Stamped2 r since) s.keys → touches r n.roles ≡ true → Stamped2 r since n) → Kept r p s.keys o → Kept r p (put reference_cmp q n s.keys) o
  put_kept None f e k = tt
  put_kept (Some Propagation1) f e k = tt
  put_kept (Some (CacheExpire1 ttl)) f e k = (k.0, k.1, put_touched (Stamped1 r k.0) (f k.0 k.2) k.2)
  put_kept (Some Propagation2) f e k = tt
  put_kept (Some (CacheExpire2 ttl)) f e k = (k.0, k.1, put_touched (Stamped2 r k.0) (e k.0 k.2) k.2)
  put_kept (Some Done) f e k = tt

  put_holds : keeps_roles n.roles ≡ true → ((since : ℕ) → AllTouched r (Stamped1 r since) s.keys → touches r n.roles ≡ true → Stamped1 r since n)
      → ((since : ℕ) → AllTouched r (Stamped2 r since) s.keys → touches r n.roles ≡ true → Stamped2 r since n) → Holds r (added q n s) p
  put_holds keeps f e = record {
    sorted = is_sorted-put reference_cmp nat_list_cmp_total q n s.keys h.sorted;
    keeps = put_all (λ k. keeps_roles k.roles ≡ true) keeps h.keeps;
    together = h.together;
    kept = put_kept (phase_of s r) f e h.kept;
  }

-- a fresh key
fresh_holds : (r : RollType) (p : Reports) (s : KeySetState) → Holds r s p → (q : Reference) (n : NewKey) → Holds r (added q (new_key n.private (roles_of n.kind n.available) n.algorithm n.tag n.created) s) p
fresh_holds r p s h q n =
    put_holds r p s h q (new_key n.private (roles_of n.kind n.available) n.algorithm n.tag n.created) (fresh_keeps n.kind n.available)
    (λ since _ _ w. absurd (false≢true (sym (fresh_unwatched1 r n.kind n.available) ∙ w)))
    (λ since _ _ w. absurd (false≢true (sym (fresh_unwatched2 r n.kind n.available) ∙ w)))

pub add_next : (r : RollType) (p : Reports) (s : KeySetState) → Holds r s p → (q : Reference) (n : NewKey) (now : ℕ) → Next r p (Add q n) now s (add q (new_key n.private (roles_of n.kind n.available) n.algorithm n.tag n.created) s)
add_next r p s h q n now =
    let k = new_key n.private (roles_of n.kind n.available) n.algorithm n.tag n.created in
    elim (has_tag k.tag s.keys) as (λ b. Next r p (Add q n) now s (cond b (Err DuplicateKeyTag) (cond (is_some (key_of s q)) (Err KeyExists) (Ok (added q k s, []))))) [
      | true ↦ h
      | false ↦ elim (is_some (key_of s q)) as (λ b. Next r p (Add q n) now s (cond b (Err KeyExists) (Ok (added q k s, [])))) [
        | true ↦ h
        | false ↦ fresh_holds r p s h q n
      ]
    ]

pub decouple_next : (r : RollType) (p : Reports) (s : KeySetState) → Holds r s p → (q : Reference) (b : Bool) (now : ℕ) → Next r p (SetDecoupled q b) now s (write (decoupled_to b) q s)
decouple_next r p s h q b now = at (key_of s q) refl
  where
    at : (o : Option Key) → key_of s q ≡ o → Next r p (SetDecoupled q b) now s (elim o [ None ↦ Err KeyNotFound | Some k ↦ elim (decoupled_to b k) [ Err e ↦ Err e | Ok l ↦ Ok (added q l s, []) ] ])
    at None e = h
    at (Some k) e = put_holds r p s h q (record k { decoupled = b }) (h.keeps q k e) (λ since all t. all q k e t) (λ since all t. all q k e t)

-- ---- one key taken out

module _ (r : RollType) (p : Reports) (s : KeySetState) (h : Holds r s p) (q : Reference) where
  pub there_before : (x : Reference) (k : Key) → At (removed q s.keys) x k → At s.keys x k
  there_before x k f = at (not (bytes_eq x q)) (sym (find-where_key reference_cmp (λ y. not (bytes_eq y q)) x (λ y e. ap (λ y. not (bytes_eq y q)) (sym (tied x y e))) s.keys) ∙ f)
    where
      tied : (x y : Reference) → reference_cmp x y ≡ Equal → x ≡ y
      tied x y e = is_same x y (ap Rattle.std.specs.Ordering.is_eq e)

      at : (t : Bool) → cond t (find reference_cmp x s.keys) None ≡ Some k → At s.keys x k
      at true g = g
      at false g = cc

  fewer : (F : Key → Type 0) → AllTouched r F s.keys → AllTouched r F (removed q s.keys)
  fewer F all x k f t = all x k (there_before x k f) t

  fewer_kept : (o : Option RollState) → Kept r p s.keys o → Kept r p (removed q s.keys) o
  fewer_kept None k = tt
  fewer_kept (Some Propagation1) k = tt
  fewer_kept (Some (CacheExpire1 ttl)) k = (k.0, k.1, fewer (Stamped1 r k.0) k.2)
  fewer_kept (Some Propagation2) k = tt
  fewer_kept (Some (CacheExpire2 ttl)) k = (k.0, k.1, fewer (Stamped2 r k.0) k.2)
  fewer_kept (Some Done) k = tt

  removed_holds : Holds r (deleted q s) p
  removed_holds = record {
    sorted = is_sorted-where_key reference_cmp (λ y. not (bytes_eq y q)) s.keys h.sorted;
    keeps = λ x k f. h.keeps x k (there_before x k f);
    together = h.together;
    kept = fewer_kept (phase_of s r) h.kept;
  }

pub delete_next : (r : RollType) (p : Reports) (s : KeySetState) → Holds r s p → (q : Reference) (now : ℕ) → Next r p (Delete q) now s (delete q s)
delete_next r p s h q now = at (key_of s q)
  where
    gone : (t : Bool) → Next r p (Delete q) now s (if t then Ok (deleted q s, []) else Err KeyNotOld)
    gone true = removed_holds r p s h q
    gone false = h

    at : (o : Option Key) → Next r p (Delete q) now s (elim o [ None ↦ Err KeyNotFound | Some k ↦ if each_is is_stale k.roles then Ok (deleted q s, []) else Err KeyNotOld ])
    at None = h
    at (Some k) = gone (each_is is_stale k.roles)
