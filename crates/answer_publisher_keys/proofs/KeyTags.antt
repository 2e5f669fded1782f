-- The tags of a zone's keys differ, whatever calls they have behind them.
use Rattle.std.proofs.Common.{◌≡◌, ℕ, Bool, true, false, cond, List, [], ◌∷◌, refl, sym, ap, subst, ◌∙◌, T, eqb}
use Rattle.std.specs.Prelude.{Option, Some, None, Ok, Err, is_some}
use Rattle.std.specs.declared.cmp.Ordering.{Ordering}
use Rattle.std.specs.declared.cmp.Ordering.TheVariants.{Less, Equal, Greater}
use Rattle.std.specs.Ordering.{eq_by_cmp, is_eq}
use Rattle.std.specs.Cmp.Lexicographic.{nat_list_cmp_total}
use Rattle.std.specs.FinMap.{nat_cmp-IsAntisymmetric, slice_cmp-IsAntisymmetric}
use Rattle.std.specs.FinMap.Entries.{put, find, find-put, is_sorted, is_sorted-put}
use Rattle.std.proofs.lemmas.Bool.{eq-eqb, or_parts, false≢true}
use Rattle.std.proofs.lemmas.Cmp.{tied_itself}
use Rattle.definitions.specs.Dnskey.{Dnskey, key_tag}
use Rattle.keyset_rolls.specs.declared.rolls.Action.{Action}
use Rattle.answer_publisher_keys.specs.Bindings.{Add, BoundKey, Call, Delete, Finish, Outcome, Report1, Report2, Set, Setting, Start, Wait1, Wait2, ZoneKeys, apply, bound_at, dnskey_for, dnskeys, has_role, is_bound_away, is_published, lifted, on_state, private_for, published, roles_of, set_call, setting_call}
use Rattle.answer_publisher_keys.specs.Bindings as bindings
use Rattle.answer_events.specs.Calls.{AtParent, Decoupled, DsVisible, Present, RrsigVisible, Signer, Stale, Visible}
use Rattle.keyset.specs.KeyState.{Answer, DuplicateKeyTag, Key, KeyExists, KeySetState, Reference, add, added, has_tag, key_of, new_key, reference_cmp}
use Rattle.keyset.proofs.KeyRunTags.{adds, call_rises, call_tags}
use Rattle.keyset.proofs.KeyTagsCalls.{LeavesRising, LeavesTags, RisesFrom, TagsFrom}
use Rattle.messages.proofs.Lists.{some_is}
use Rattle.answer_publisher_keys.proofs.BoundAll.{by_digest}

-- references rise, of keys and of what is bound; no two keys have one tag; each key's reference is bound to a DNSKEY of its
-- tag
pub record HasOwnTags (s : ZoneKeys) : Type 0 where
  pub sorted : T (is_sorted reference_cmp s.bound)
  pub rises : T (is_sorted reference_cmp s.keys.keys)
  pub apart : (p q : Reference) (k l : Key) → key_of s.keys p ≡ Some k → key_of s.keys q ≡ Some l → k.tag ≡ l.tag → p ≡ q
  pub tied : (q : Reference) (k : Key) → key_of s.keys q ≡ Some k → (b : BoundKey) × (bound_at s.bound q ≡ Some b) × (key_tag b.key ≡ k.tag)

-- ---- references

is_equal : (o : Ordering) → is_eq o ≡ true → o ≡ Equal
is_equal Less e = cc
is_equal Equal e = refl
is_equal Greater e = cc

is_same : (p q : Reference) → eq_by_cmp reference_cmp p q ≡ true → p ≡ q
is_same p q e = slice_cmp-IsAntisymmetric nat_cmp-IsAntisymmetric p q (is_equal (reference_cmp p q) e)

same_is : (q : Reference) → eq_by_cmp reference_cmp q q ≡ true
same_is q = ap is_eq (tied_itself nat_list_cmp_total q)

-- ---- calls that add nothing

kept : (s : ZoneKeys) (ks : KeySetState) → HasOwnTags s → TagsFrom s.keys.keys ks.keys → RisesFrom s.keys.keys ks.keys → HasOwnTags (record { keys = ks; bound = s.bound })
kept s ks h from up = record {
  sorted = h.sorted;
  rises = up h.rises;
  apart = λ p q k l f g e. let a = from p k f in let b = from q l g in h.apart p q a.0 b.0 a.1 b.1 (a.2 ∙ e ∙ sym b.2);
  tied = λ q k f. let a = from q k f in let b = h.tied q a.0 a.1 in (b.0, b.1, b.2 ∙ a.2);
}

-- what an outcome leaves
abbrev pub LeavesOwn : Outcome → Type 0
LeavesOwn (Ok r) = HasOwnTags r.0
LeavesOwn (Err e) = Unit {0}

rolled : (s : ZoneKeys) (a : Answer) → HasOwnTags s → LeavesTags s.keys.keys a → LeavesRising s.keys.keys a → LeavesOwn (lifted s.bound a)
rolled s (Ok x) h from up = kept s x.0 h from up
rolled s (Err e) h from up = tt

setting_adds : (q : Reference) (setting : Setting) → adds (setting_call q setting) ≡ false
setting_adds q (Decoupled b) = refl
setting_adds q (Present b) = refl
setting_adds q (Signer b) = refl
setting_adds q (AtParent b) = refl
setting_adds q (Visible time) = refl
setting_adds q (DsVisible time) = refl
setting_adds q (RrsigVisible time) = refl
setting_adds q Stale = refl

no_add : (c : Call) (now : ℕ) (s : ZoneKeys) → adds (set_call c now) ≡ false → HasOwnTags s → LeavesOwn (lifted s.bound (on_state c now s.keys))
no_add c now s none h = rolled s (on_state c now s.keys) h (call_tags (set_call c now) now s.keys none) (call_rises (set_call c now) now s.keys)

-- ---- adds

untagged : (tag : ℕ) (q : Reference) (k : Key) (es : List (Reference × Key)) → has_tag tag es ≡ false → find reference_cmp q es ≡ Some k → k.tag ≡ tag → ⊥
untagged tag q k [] none f e = cc
untagged tag q k (x ∷ es) none f e =
    let parts = or_parts (eqb x.1.tag tag) (has_tag tag es) none in
    at (eq_by_cmp reference_cmp q x.0) parts.0 (untagged tag q k es parts.1) f
  where
    some_key : (a b : Key) → Some a ≡ Some b → a ≡ b
    some_key a b e = cc

    at : (b : Bool) → eqb x.1.tag tag ≡ false → (find reference_cmp q es ≡ Some k → k.tag ≡ tag → ⊥) → cond b (Some x.1) (find reference_cmp q es) ≡ Some k → ⊥
    at true unlike later f = false≢true (sym unlike ∙ eq-eqb x.1.tag tag (ap (λ (l : Key). l.tag) (some_key x.1 k f) ∙ e))
    at false unlike later f = later f e

-- what stands at a reference behind a put
put_at : {X : Type 0} (q p : Reference) (v x : X) (es : List (Reference × X)) → find reference_cmp p (put reference_cmp q v es) ≡ Some x → cond (eq_by_cmp reference_cmp p q) (Some v) (find reference_cmp p es) ≡ Some x
put_at q p v x es h = sym (find-put reference_cmp nat_list_cmp_total p q v es) ∙ h

module _ (s : ZoneKeys) (q : Reference) (n : Key) (b : BoundKey) (same : key_tag b.key ≡ n.tag) (new : has_tag n.tag s.keys.keys ≡ false) (h : HasOwnTags s) where
  tied_at : (p : Reference) (k : Key) (t : Bool) → eq_by_cmp reference_cmp p q ≡ t → cond t (Some n) (key_of s.keys p) ≡ Some k → (c : BoundKey) × (cond t (Some b) (bound_at s.bound p) ≡ Some c) × (key_tag c.key ≡ k.tag)
  tied_at p k true e f = (b, refl, same ∙ ap (λ (l : Key). l.tag) (some_is n k f))
  tied_at p k false e f = h.tied p k f

  apart_at : (p r : Reference) (k l : Key) (t u : Bool) → eq_by_cmp reference_cmp p q ≡ t → eq_by_cmp reference_cmp r q ≡ u → cond t (Some n) (key_of s.keys p) ≡ Some k → cond u (Some n) (key_of s.keys r) ≡ Some l → k.tag ≡ l.tag → p ≡ r
  apart_at p r k l true true d e f g j = is_same p q d ∙ sym (is_same r q e)
  apart_at p r k l true false d e f g j = absurd (untagged n.tag r l s.keys.keys new g (sym j ∙ ap (λ (l : Key). l.tag) (sym (some_is n k f))))
  apart_at p r k l false true d e f g j = absurd (untagged n.tag p k s.keys.keys new f (j ∙ ap (λ (l : Key). l.tag) (sym (some_is n l g))))
  apart_at p r k l false false d e f g j = h.apart p r k l f g j

  joined : HasOwnTags (record { keys = added q n s.keys; bound = bindings.bind q b s.bound })
  joined = record {
    sorted = is_sorted-put reference_cmp nat_list_cmp_total q b s.bound h.sorted;
    rises = is_sorted-put reference_cmp nat_list_cmp_total q n s.keys.keys h.rises;
    apart = λ p r k l f g e. apart_at p r k l (eq_by_cmp reference_cmp p q) (eq_by_cmp reference_cmp r q) refl refl (put_at q p n k s.keys.keys f) (put_at q r n l s.keys.keys g) e;
    tied = λ p k f. let a = tied_at p k (eq_by_cmp reference_cmp p q) refl (put_at q p n k s.keys.keys f) in (a.0, find-put reference_cmp nat_list_cmp_total p q b s.bound ∙ a.1, a.2);
  }

put_in : (s : ZoneKeys) (q : Reference) (n : Key) (b : BoundKey) (t e : Bool) → key_tag b.key ≡ n.tag → has_tag n.tag s.keys.keys ≡ t → HasOwnTags s → LeavesOwn (lifted (bindings.bind q b s.bound) (cond t (Err DuplicateKeyTag) (cond e (Err KeyExists) (Ok (added q n s.keys, [])))))
put_in s q n b true e same new h = tt
put_in s q n b false true same new h = tt
put_in s q n b false false same new h = joined s q n b same new h

bound_in : (s : ZoneKeys) (q : Reference) (k : Dnskey) (n : Key) (o : Option (List ℕ)) (away : Bool) → key_tag k ≡ n.tag → HasOwnTags s → LeavesOwn (cond away (Err bindings.ReferenceBound) (by_digest s q k (add q n s.keys) o))
bound_in s q k n o true same h = tt
bound_in s q k n None false same h = tt
bound_in s q k n (Some d) false same h = put_in s q n (record { key = k; digest = d }) (has_tag n.tag s.keys.keys) (is_some (key_of s.keys q)) same refl h

-- a call keeps it
pub apply_own : (digest : Dnskey → Option (List ℕ)) (c : Call) (now : ℕ) (s : ZoneKeys) → HasOwnTags s → LeavesOwn (apply digest c now s)
apply_own digest (Add kind q private algorithm octets available) now s h =
    let k = dnskey_for kind algorithm octets in
    bound_in s q k (new_key (private_for kind private) (roles_of kind available) algorithm (key_tag k) now) (digest k) (is_bound_away s.bound q k) refl h
apply_own digest (Set q setting) now s h = no_add (Set q setting) now s (setting_adds q setting) h
apply_own digest (Delete q) now s h = no_add (Delete q) now s refl h
apply_own digest (Start r olds news) now s h = no_add (Start r olds news) now s refl h
apply_own digest (Report1 r ttl) now s h = no_add (Report1 r ttl) now s refl h
apply_own digest (Wait1 r) now s h = no_add (Wait1 r) now s refl h
apply_own digest (Report2 r ttl) now s h = no_add (Report2 r ttl) now s refl h
apply_own digest (Wait2 r) now s h = no_add (Wait2 r) now s refl h
apply_own digest (Finish r) now s h = no_add (Finish r) now s refl h

-- an accepted call
pub own_of : (o : Outcome) (t : ZoneKeys) (acts : List Action) → LeavesOwn o → o ≡ Ok (t, acts) → HasOwnTags t
own_of o t acts h e = subst LeavesOwn e h

pub none_own : (name : List (List ℕ)) → HasOwnTags (bindings.no_keys name)
none_own name = record { sorted = tt; rises = tt; apart = λ p q k l f g e. cc; tied = λ q k f. cc }
