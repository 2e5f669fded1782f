-- No two keys have one tag, whatever calls a set has behind it: what calls leave of tags, and that references rise.
use Rattle.std.proofs.Common.{◌≡◌, ℕ, Bool, true, false, cond, List, [], ◌∷◌, refl, sym, ap, ◌∙◌, ◌&&◌, ◌||◌, eqb, not}
use Rattle.std.specs.Prelude.{Option, Some, None, Result, Ok, Err, is_some, if◌then◌else◌}
use Rattle.std.specs.Str.{bytes_eq}
use Rattle.std.specs.Ordering.{eq_by_cmp, is_eq}
use Rattle.std.specs.Cmp.Lexicographic.{nat_list_cmp_total}
use Rattle.std.specs.FinMap.Entries.{find, find-put, find-where_key, is_sorted-put, is_sorted-where_key}
use Rattle.std.proofs.lemmas.Bool.{eq-eqb, false≢true}
use Rattle.keyset.specs.KeyState.{Answer, DuplicateKeyTag, Key, KeyExists, KeyNotFound, KeyNotOld, KeySetState, Reference, Refusal, add, added, at_parent_to, decoupled_to, delete, deleted, ds_seen_at, each_is, has_tag, if_kind, is_stale, on_each, on_ksk, publish, published_once, see, see_ds, see_rrsig, set_at_parent, set_present, set_signer, set_stale, with_roles, with_stamps, key_of, may_be_at_parent, may_sign, new_key, present_to, reference_cmp, rrsig_seen_at, seen_at, signer_to, stale_now, write}
use Rattle.keyset.specs.KeyRuns.{Add, Call, Delete, Finish, Report1, Report2, SetAtParent, SetDecoupled, SetDsVisible, SetPresent, SetRrsigVisible, SetSigner, SetStale, SetVisible, Start, Wait1, Wait2, behind, left, no_keys, on_state, roles_of}
use Rattle.keyset.specs.KeyRunLaws.{TagsDiffer}
use Rattle.keyset.proofs.KeyFinds.{is_same}
use Rattle.keyset.proofs.KeyTagsCalls.{LeavesRising, LeavesTags, RisesFrom, TagsFrom, done_rises, done_tags, report1_rises, report1_tags, report2_rises, report2_tags, start_rises, start_tags, wait1_rises, wait1_tags, wait2_rises, wait2_tags}

-- no two references have keys of one tag
abbrev pub Apart : List (Reference × Key) → Type 0
Apart es = (p q : Reference) (k l : Key) → find reference_cmp p es ≡ Some k → find reference_cmp q es ≡ Some l → k.tag ≡ l.tag → p ≡ q

from_apart : (es fs : List (Reference × Key)) → Apart es → TagsFrom es fs → Apart fs
from_apart es fs h from p q k l f g e = let a = from p k f in let b = from q l g in h p q a.0 b.0 a.1 b.1 (a.2 ∙ e ∙ sym b.2)

left_apart : (s : KeySetState) (a : Answer) → Apart s.keys → LeavesTags s.keys a → Apart (left s a).keys
left_apart s (Ok x) h from = from_apart s.keys x.0.keys h from
left_apart s (Err e) h from = h

-- ---- one key written over, with its tag

kept_tag : (s : KeySetState) (q : Reference) (k n : Key) → key_of s q ≡ Some k → n.tag ≡ k.tag → TagsFrom s.keys (added q n s).keys
kept_tag s q k n f e x l g = at (eq_by_cmp reference_cmp x q) refl (sym (find-put reference_cmp nat_list_cmp_total x q n s.keys) ∙ g)
  where
    at : (t : Bool) → eq_by_cmp reference_cmp x q ≡ t → cond t (Some n) (find reference_cmp x s.keys) ≡ Some l → (m : Key) × (find reference_cmp x s.keys ≡ Some m) × (m.tag ≡ l.tag)
    at true same h = (k, ap (λ y. find reference_cmp y s.keys) (is_same x q same) ∙ f, let i : n ≡ l = cc in sym e ∙ ap (λ (k : Key). k.tag) i)
    at false other h = (l, h, refl)

-- a setting that keeps the tag
abbrev KeepsTag : (Key → Result Key Refusal) → Type 0
KeepsTag h = (k n : Key) → h k ≡ Ok n → n.tag ≡ k.tag

write_tags : (h : Key → Result Key Refusal) (q : Reference) (s : KeySetState) → KeepsTag h → LeavesTags s.keys (write h q s)
write_tags h q s keeps = at (key_of s q) refl
  where
    made : (k : Key) (r : Result Key Refusal) → key_of s q ≡ Some k → (r ≡ h k) → LeavesTags s.keys (elim r [ Err e ↦ Err e | Ok l ↦ Ok (added q l s, []) ])
    made k (Ok n) f e = kept_tag s q k n f (keeps k n (sym e))
    made k (Err e) f i = tt

    at : (o : Option Key) → key_of s q ≡ o → LeavesTags s.keys (elim o [ None ↦ Err KeyNotFound | Some k ↦ elim (h k) [ Err e ↦ Err e | Ok l ↦ Ok (added q l s, []) ] ])
    at None e = tt
    at (Some k) e = made k (h k) e refl

if_kind_tag : (b : Bool) (k n m : Key) → n.tag ≡ k.tag → if_kind b n ≡ Ok m → m.tag ≡ k.tag
if_kind_tag true k n m e h = let i : n ≡ m = cc in ap (λ (k : Key). k.tag) (sym i) ∙ e
if_kind_tag false k n m e h = cc

tag_of : (k n m : Key) → n.tag ≡ k.tag → ◌≡◌ {A = Result Key Refusal} (Ok n) (Ok m) → m.tag ≡ k.tag
tag_of k n m e h = let i : n ≡ m = cc in ap (λ (k : Key). k.tag) (sym i) ∙ e

published_tag : (t : Bool) (now : ℕ) (k : Key) → (if t then with_stamps (publish now) k else k).tag ≡ k.tag
published_tag true now k = refl
published_tag false now k = refl

present_tag : (b : Bool) (now : ℕ) → KeepsTag (present_to b now)
present_tag b now k n h =
    let put : Key = with_roles (on_each (set_present b)) k in
    tag_of k (published_once now b put) n (published_tag (b && not (is_some k.stamps.published)) now put) h

-- ---- a key of a new tag

untagged : (tag : ℕ) (q : Reference) (k : Key) (es : List (Reference × Key)) → has_tag tag es ≡ false → find reference_cmp q es ≡ Some k → k.tag ≡ tag → ⊥
untagged tag q k [] none f e = cc
untagged tag q k (x ∷ es) none f e = at (eq_by_cmp reference_cmp q x.0) (eqb x.1.tag tag) refl none f (λ n g. untagged tag q k es n g e)
  where
    at : (t u : Bool) → eqb x.1.tag tag ≡ u → (u || has_tag tag es) ≡ false → cond t (Some x.1) (find reference_cmp q es) ≡ Some k → (has_tag tag es ≡ false → find reference_cmp q es ≡ Some k → ⊥) → ⊥
    at t true i n g more = cc
    at true false i n g more = let same : x.1 ≡ k = cc in false≢true (sym i ∙ eq-eqb x.1.tag tag (ap (λ (k : Key). k.tag) same ∙ e))
    at false false i n g more = more n g

added_apart : (s : KeySetState) (q : Reference) (n : Key) → has_tag n.tag s.keys ≡ false → Apart s.keys → Apart (added q n s).keys
added_apart s q n new h p r k l f g e =
    at (eq_by_cmp reference_cmp p q) (eq_by_cmp reference_cmp r q) refl refl (sym (find-put reference_cmp nat_list_cmp_total p q n s.keys) ∙ f) (sym (find-put reference_cmp nat_list_cmp_total r q n s.keys) ∙ g)
  where
    tag : (k l : Key) → ◌≡◌ {A = Option Key} (Some k) (Some l) → k.tag ≡ l.tag
    tag k l i = let same : k ≡ l = cc in ap (λ (k : Key). k.tag) same

    at : (t u : Bool) → eq_by_cmp reference_cmp p q ≡ t → eq_by_cmp reference_cmp r q ≡ u → cond t (Some n) (find reference_cmp p s.keys) ≡ Some k → cond u (Some n) (find reference_cmp r s.keys) ≡ Some l → p ≡ r
    at true true i j f g = is_same p q i ∙ sym (is_same r q j)
    at true false i j f g = absurd (untagged n.tag r l s.keys new g (sym e ∙ sym (tag n k f)))
    at false true i j f g = absurd (untagged n.tag p k s.keys new f (e ∙ sym (tag n l g)))
    at false false i j f g = h p r k l f g e

add_apart : (s : KeySetState) (q : Reference) (n : Key) → Apart s.keys → Apart (left s (add q n s)).keys
add_apart s q n h = at (has_tag n.tag s.keys) (is_some (key_of s q)) refl
  where
    at : (t e : Bool) → has_tag n.tag s.keys ≡ t → Apart (left s (cond t (Err DuplicateKeyTag) (cond e (Err KeyExists) (Ok (added q n s, []))))).keys
    at true e i = h
    at false true i = h
    at false false i = added_apart s q n i h

-- ---- one key taken out

removed_tags : (s : KeySetState) (q : Reference) → TagsFrom s.keys (deleted q s).keys
removed_tags s q x l f = at (not (bytes_eq x q)) (sym (find-where_key reference_cmp (λ y. not (bytes_eq y q)) x (λ y e. ap (λ y. not (bytes_eq y q)) (sym (is_same x y (ap is_eq e)))) s.keys) ∙ f)
  where
    at : (t : Bool) → cond t (find reference_cmp x s.keys) None ≡ Some l → (k : Key) × (find reference_cmp x s.keys ≡ Some k) × (k.tag ≡ l.tag)
    at true g = (l, g, refl)
    at false g = cc

delete_tags : (q : Reference) (s : KeySetState) → LeavesTags s.keys (delete q s)
delete_tags q s = at (key_of s q)
  where
    gone : (t : Bool) → LeavesTags s.keys (if t then Ok (deleted q s, []) else Err KeyNotOld)
    gone true = removed_tags s q
    gone false = tt

    at : (o : Option Key) → LeavesTags s.keys (elim o [ None ↦ Err KeyNotFound | Some k ↦ if each_is is_stale k.roles then Ok (deleted q s, []) else Err KeyNotOld ])
    at None = tt
    at (Some k) = gone (each_is is_stale k.roles)

-- ---- references rise

added_rises : (s : KeySetState) (q : Reference) (n : Key) → RisesFrom s.keys (added q n s).keys
added_rises s q n h = is_sorted-put reference_cmp nat_list_cmp_total q n s.keys h

add_rises : (q : Reference) (n : Key) (s : KeySetState) → LeavesRising s.keys (add q n s)
add_rises q n s = at (has_tag n.tag s.keys) (is_some (key_of s q))
  where
    at : (t e : Bool) → LeavesRising s.keys (cond t (Err DuplicateKeyTag) (cond e (Err KeyExists) (Ok (added q n s, []))))
    at true e = tt
    at false true = tt
    at false false = added_rises s q n

write_rises : (h : Key → Result Key Refusal) (q : Reference) (s : KeySetState) → LeavesRising s.keys (write h q s)
write_rises h q s = at (key_of s q)
  where
    made : (r : Result Key Refusal) → LeavesRising s.keys (elim r [ Err e ↦ Err e | Ok l ↦ Ok (added q l s, []) ])
    made (Ok n) = added_rises s q n
    made (Err e) = tt

    at : (o : Option Key) → LeavesRising s.keys (elim o [ None ↦ Err KeyNotFound | Some k ↦ elim (h k) [ Err e ↦ Err e | Ok l ↦ Ok (added q l s, []) ] ])
    at None = tt
    at (Some k) = made (h k)

delete_rises : (q : Reference) (s : KeySetState) → LeavesRising s.keys (delete q s)
delete_rises q s = at (key_of s q)
  where
    gone : (t : Bool) → LeavesRising s.keys (if t then Ok (deleted q s, []) else Err KeyNotOld)
    gone true = is_sorted-where_key reference_cmp (λ y. not (bytes_eq y q)) s.keys
    gone false = tt

    at : (o : Option Key) → LeavesRising s.keys (elim o [ None ↦ Err KeyNotFound | Some k ↦ if each_is is_stale k.roles then Ok (deleted q s, []) else Err KeyNotOld ])
    at None = tt
    at (Some k) = gone (each_is is_stale k.roles)

-- ---- all calls

abbrev pub adds : Call → Bool
adds (Add q n) = true
adds _ = false

-- what a call that adds nothing leaves of tags
pub call_tags : (c : Call) (now : ℕ) (s : KeySetState) → adds c ≡ false → LeavesTags s.keys (on_state c now s)
call_tags (Add q n) now s none = cc
call_tags (SetDecoupled q b) now s none = write_tags (decoupled_to b) q s (λ k n e. tag_of k (record k { decoupled = b }) n refl e)
call_tags (SetPresent q b) now s none = write_tags (present_to b now) q s (present_tag b now)
call_tags (SetSigner q b) now s none = write_tags (signer_to b) q s (λ k n e. if_kind_tag (may_sign k.roles) k (with_roles (on_each (set_signer b)) k) n refl e)
call_tags (SetAtParent q b) now s none = write_tags (at_parent_to b) q s (λ k n e. if_kind_tag (may_be_at_parent k.roles) k (with_roles (on_ksk (set_at_parent b)) k) n refl e)
call_tags (SetVisible q time) now s none = write_tags (seen_at time) q s (λ k n e. tag_of k (with_stamps (see time) k) n refl e)
call_tags (SetDsVisible q time) now s none = write_tags (ds_seen_at time) q s (λ k n e. tag_of k (with_stamps (see_ds time) k) n refl e)
call_tags (SetRrsigVisible q time) now s none = write_tags (rrsig_seen_at time) q s (λ k n e. tag_of k (with_stamps (see_rrsig time) k) n refl e)
call_tags (SetStale q) now s none = write_tags stale_now q s (λ k n e. tag_of k (with_roles (on_each set_stale) k) n refl e)
call_tags (Delete q) now s none = delete_tags q s
call_tags (Start r olds news) now s none = start_tags r olds news now s
call_tags (Report1 r ttl) now s none = report1_tags r ttl now s
call_tags (Wait1 r) now s none = wait1_tags r now s
call_tags (Report2 r ttl) now s none = report2_tags r ttl now s
call_tags (Wait2 r) now s none = wait2_tags r now s
call_tags (Finish r) now s none = done_tags r s

-- references rise behind any call
pub call_rises : (c : Call) (now : ℕ) (s : KeySetState) → LeavesRising s.keys (on_state c now s)
call_rises (Add q n) now s = add_rises q (new_key n.private (roles_of n.kind n.available) n.algorithm n.tag n.created) s
call_rises (SetDecoupled q b) now s = write_rises (decoupled_to b) q s
call_rises (SetPresent q b) now s = write_rises (present_to b now) q s
call_rises (SetSigner q b) now s = write_rises (signer_to b) q s
call_rises (SetAtParent q b) now s = write_rises (at_parent_to b) q s
call_rises (SetVisible q time) now s = write_rises (seen_at time) q s
call_rises (SetDsVisible q time) now s = write_rises (ds_seen_at time) q s
call_rises (SetRrsigVisible q time) now s = write_rises (rrsig_seen_at time) q s
call_rises (SetStale q) now s = write_rises stale_now q s
call_rises (Delete q) now s = delete_rises q s
call_rises (Start r olds news) now s = start_rises r olds news now s
call_rises (Report1 r ttl) now s = report1_rises r ttl now s
call_rises (Wait1 r) now s = wait1_rises r now s
call_rises (Report2 r ttl) now s = report2_rises r ttl now s
call_rises (Wait2 r) now s = wait2_rises r now s
call_rises (Finish r) now s = done_rises r s

no_add_apart : (s : KeySetState) → Apart s.keys → (c : Call) (now : ℕ) → adds c ≡ false → Apart (left s (on_state c now s)).keys
no_add_apart s h c now none = left_apart s (on_state c now s) h (call_tags c now s none)

pub call_apart : (s : KeySetState) → Apart s.keys → (c : Call) (now : ℕ) → Apart (left s (on_state c now s)).keys
call_apart s h (Add q n) now = add_apart s q (new_key n.private (roles_of n.kind n.available) n.algorithm n.tag n.created) h
call_apart s h (SetDecoupled q b) now = no_add_apart s h (SetDecoupled q b) now refl
call_apart s h (SetPresent q b) now = no_add_apart s h (SetPresent q b) now refl
call_apart s h (SetSigner q b) now = no_add_apart s h (SetSigner q b) now refl
call_apart s h (SetAtParent q b) now = no_add_apart s h (SetAtParent q b) now refl
call_apart s h (SetVisible q time) now = no_add_apart s h (SetVisible q time) now refl
call_apart s h (SetDsVisible q time) now = no_add_apart s h (SetDsVisible q time) now refl
call_apart s h (SetRrsigVisible q time) now = no_add_apart s h (SetRrsigVisible q time) now refl
call_apart s h (SetStale q) now = no_add_apart s h (SetStale q) now refl
call_apart s h (Delete q) now = no_add_apart s h (Delete q) now refl
call_apart s h (Start r olds news) now = no_add_apart s h (Start r olds news) now refl
call_apart s h (Report1 r ttl) now = no_add_apart s h (Report1 r ttl) now refl
call_apart s h (Wait1 r) now = no_add_apart s h (Wait1 r) now refl
call_apart s h (Report2 r ttl) now = no_add_apart s h (Report2 r ttl) now refl
call_apart s h (Wait2 r) now = no_add_apart s h (Wait2 r) now refl
call_apart s h (Finish r) now = no_add_apart s h (Finish r) now refl

runs_apart : (s : KeySetState) → Apart s.keys → (cs : List (ℕ × Call)) → Apart (behind s cs).keys
runs_apart s h [] = h
runs_apart s h (c ∷ cs) = runs_apart (left s (on_state c.1 c.0 s)) (call_apart s h c.1 c.0) cs

pub tags_differ : TagsDiffer
tags_differ name cs = runs_apart (no_keys name) (λ p q k l f g e. cc) cs
