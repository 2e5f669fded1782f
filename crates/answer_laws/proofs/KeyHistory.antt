-- The calls that a zone's keys have behind them: the states that they made, and that a reference stays bound to its key.
use Rattle.std.proofs.Common.{◌≡◌, ℕ, zero, suc, Bool, true, false, cond, not, List, [], ◌∷◌, ◌++◌, length, refl, sym, ap, subst, ◌∙◌, slice_get}
use Rattle.std.specs.Prelude.{Option, Some, None, option_map, Ok, Err}
use Rattle.std.specs.Ordering.{eq_by_cmp}
use Rattle.std.specs.Cmp.Lexicographic.{nat_list_cmp_total}
use Rattle.std.specs.FinMap.Entries.{find, find-put}
use Rattle.std.proofs.lemmas.Bool.{not-false}
use Rattle.definitions.specs.Dnskey.{Dnskey, same_key}
use Rattle.keyset_rolls.specs.declared.rolls.Action.{Action}
use Rattle.keyset.specs.KeyState.{Answer, KeySetState, Reference, reference_cmp}
use Rattle.keyset.specs.KeyRuns as runs
use Rattle.keyset.specs.KeyRuns.{Call}
use Rattle.keyset.proofs.KeyFinds.{is_itself, is_same}
use Rattle.keyset_laws.specs.KeyLife.{accepted, states}
use Rattle.keyset_laws.proofs.Meets.{accepted_ok}
use Rattle.answer_publisher_keys.specs.Bindings as bindings
use Rattle.answer_publisher_keys.specs.Bindings.{BoundKey, Outcome, ZoneKeys, apply, bind, bound_at, dnskey_at, dnskey_for, is_bound_away, lifted, on_state}
use Rattle.answer_publisher_keys.specs.KeyTags.{behind, left}
use Rattle.answer_laws.specs.StaysBound.{AddsBind, ReferencesStayBound}
use Rattle.answer_judge_keys.proofs.GivenKeys.{same_key-is}
use Rattle.answer_publisher_keys.proofs.BoundAll.{bound_by, by_digest}
use Rattle.messages.proofs.Lists.{some_is}

-- ---- a reference stays bound to its key

abbrev pub StayBound : List (Reference × BoundKey) → List (Reference × BoundKey) → Type 0
StayBound es fs = (q : Reference) (b : BoundKey) → find reference_cmp q es ≡ Some b → (c : BoundKey) × (find reference_cmp q fs ≡ Some c) × (c.key ≡ b.key)

pub stay_here : (es : List (Reference × BoundKey)) → StayBound es es
stay_here es q b f = (b, f, refl)

pub stay_on : (es fs gs : List (Reference × BoundKey)) → StayBound es fs → StayBound fs gs → StayBound es gs
stay_on es fs gs h i q b f = let c = h q b f in let d = i q c.0 c.1 in (d.0, d.1, d.2 ∙ c.2)

not_away : (o : Option BoundKey) (b : BoundKey) (k : Dnskey) → o ≡ Some b → elim o [ None ↦ false | Some b ↦ not (same_key b.key k) ] ≡ false → k ≡ b.key
not_away None b k e f = cc
not_away (Some c) b k e f = sym (same_key-is c.key k (not-false (same_key c.key k) f)) ∙ ap (λ (b : BoundKey). b.key) (some_is c b e)

stay_put : (es : List (Reference × BoundKey)) (q : Reference) (n : BoundKey) → is_bound_away es q n.key ≡ false → StayBound es (bind q n es)
stay_put es q n free p b f =
    let w = at (eq_by_cmp reference_cmp p q) refl in
    (w.0, find-put reference_cmp nat_list_cmp_total p q n es ∙ w.1, w.2)
  where
    at : (t : Bool) → eq_by_cmp reference_cmp p q ≡ t → (c : BoundKey) × (cond t (Some n) (find reference_cmp p es) ≡ Some c) × (c.key ≡ b.key)
    at true e = (n, refl, not_away (find reference_cmp q es) b n.key (ap (λ (x : Reference). find reference_cmp x es) (sym (is_same p q e)) ∙ f) free)
    at false e = (b, f, refl)

-- ---- an accepted call

-- what it did to the key set, and to what is bound
abbrev pub Did : bindings.Call → ℕ → ZoneKeys → ZoneKeys → List Action → Type 0
Did c now s t acts = (on_state c now s.keys ≡ Ok (t.keys, acts)) × StayBound s.bound t.bound

abbrev set_part : Answer → Outcome → Answer
set_part a (Ok r) = Ok (r.0.keys, r.1)
set_part a (Err e) = a

on_keys : (b : List (Reference × BoundKey)) (a : Answer) (t : ZoneKeys) (acts : List Action) → lifted b a ≡ Ok (t, acts) → a ≡ Ok (t.keys, acts)
on_keys b (Ok r) t acts e = ap (set_part (Ok r)) e
on_keys b (Err f) t acts e = ap (set_part (Err f)) e

did : (c : bindings.Call) (now : ℕ) (s t : ZoneKeys) (b : List (Reference × BoundKey)) (acts : List Action) → lifted b (on_state c now s.keys) ≡ Ok (t, acts) → StayBound s.bound b → Did c now s t acts
did c now s t b acts e h =
    (on_keys b (on_state c now s.keys) t acts e, subst (StayBound s.bound) (sym (bound_by b (on_state c now s.keys) t acts e)) h)

did_roll : (c : bindings.Call) (now : ℕ) (s t : ZoneKeys) (acts : List Action) → lifted s.bound (on_state c now s.keys) ≡ Ok (t, acts) → Did c now s t acts
did_roll c now s t acts e = did c now s t s.bound acts e (stay_here s.bound)

did_add : (c : bindings.Call) (now : ℕ) (s t : ZoneKeys) (q : Reference) (k : Dnskey) (o : Option (List ℕ)) (away : Bool) (acts : List Action) → is_bound_away s.bound q k ≡ away
    → cond away (Err bindings.ReferenceBound) (by_digest s q k (on_state c now s.keys) o) ≡ Ok (t, acts) → Did c now s t acts
did_add c now s t q k o true acts free e = cc
did_add c now s t q k None false acts free e = cc
did_add c now s t q k (Some d) false acts free e =
    let b : BoundKey = record { key = k; digest = d } in
    did c now s t (bind q b s.bound) acts e (stay_put s.bound q b free)

pub accepted_did : (digest : Dnskey → Option (List ℕ)) (c : bindings.Call) (now : ℕ) (s t : ZoneKeys) (acts : List Action) → apply digest c now s ≡ Ok (t, acts) → Did c now s t acts
accepted_did digest (bindings.Add kind q private algorithm octets available) now s t acts e =
    let k = dnskey_for kind algorithm octets in
    did_add (bindings.Add kind q private algorithm octets available) now s t q k (digest k) (is_bound_away s.bound q k) acts refl e
accepted_did digest (bindings.Set q setting) now s t acts e = did_roll (bindings.Set q setting) now s t acts e
accepted_did digest (bindings.Delete q) now s t acts e = did_roll (bindings.Delete q) now s t acts e
accepted_did digest (bindings.Start r olds news) now s t acts e = did_roll (bindings.Start r olds news) now s t acts e
accepted_did digest (bindings.Report1 r ttl) now s t acts e = did_roll (bindings.Report1 r ttl) now s t acts e
accepted_did digest (bindings.Wait1 r) now s t acts e = did_roll (bindings.Wait1 r) now s t acts e
accepted_did digest (bindings.Report2 r ttl) now s t acts e = did_roll (bindings.Report2 r ttl) now s t acts e
accepted_did digest (bindings.Wait2 r) now s t acts e = did_roll (bindings.Wait2 r) now s t acts e
accepted_did digest (bindings.Finish r) now s t acts e = did_roll (bindings.Finish r) now s t acts e

-- ---- what a reference is bound to

key_there : (o : Option BoundKey) (k : Dnskey) → option_map (λ (b : BoundKey). b.key) o ≡ Some k → (b : BoundKey) × (o ≡ Some b) × (b.key ≡ k)
key_there None k e = cc
key_there (Some b) k e = (b, refl, cc)

still_at : (es fs : List (Reference × BoundKey)) (q : Reference) (k : Dnskey) → StayBound es fs → dnskey_at es q ≡ Some k → dnskey_at fs q ≡ Some k
still_at es fs q k h e =
    let b = key_there (bound_at es q) k e in
    let c = h q b.0 b.1 in
    ap (λ (o : Option BoundKey). option_map (λ (b : BoundKey). b.key) o) c.1 ∙ ap (λ k. Some k) (c.2 ∙ b.2)

left_stays : (digest : Dnskey → Option (List ℕ)) (c : bindings.Call) (now : ℕ) (s : ZoneKeys) (o : Outcome) → apply digest c now s ≡ o → StayBound s.bound (left s o).bound
left_stays digest c now s (Ok r) e = (accepted_did digest c now s r.0 r.1 e).1
left_stays digest c now s (Err f) e = stay_here s.bound

behind_stays : (digest : Dnskey → Option (List ℕ)) (s : ZoneKeys) (cs : List (ℕ × bindings.Call)) → StayBound s.bound (behind digest s cs).bound
behind_stays digest s [] = stay_here s.bound
behind_stays digest s (c ∷ cs) =
    let t : ZoneKeys = left s (apply digest c.1 c.0 s) in
    stay_on s.bound t.bound (behind digest t cs).bound (left_stays digest c.1 c.0 s (apply digest c.1 c.0 s) refl) (behind_stays digest t cs)

pub stay_bound : ReferencesStayBound
stay_bound digest s cs q k e = still_at s.bound (behind digest s cs).bound q k (behind_stays digest s cs) e

-- what an add binds
put_here : (es : List (Reference × BoundKey)) (q : Reference) (b : BoundKey) → dnskey_at (bind q b es) q ≡ Some b.key
put_here es q b = ap (λ (o : Option BoundKey). option_map (λ (b : BoundKey). b.key) o) (find-put reference_cmp nat_list_cmp_total q q b es ∙ ap (λ t. cond t (Some b) (find reference_cmp q es)) (is_itself q))

add_binds : (s t : ZoneKeys) (q : Reference) (k : Dnskey) (a : Answer) (o : Option (List ℕ)) (away : Bool) (acts : List Action) → cond away (Err bindings.ReferenceBound) (by_digest s q k a o) ≡ Ok (t, acts) → dnskey_at t.bound q ≡ Some k
add_binds s t q k a o true acts e = cc
add_binds s t q k a None false acts e = cc
add_binds s t q k a (Some d) false acts e =
    let b : BoundKey = record { key = k; digest = d } in
    ap (λ es. dnskey_at es q) (bound_by (bind q b s.bound) a t acts e) ∙ put_here s.bound q b

pub adds_bind : AddsBind
adds_bind digest s t kind q private algorithm octets available now acts e =
    let k = dnskey_for kind algorithm octets in
    add_binds s t q k (on_state (bindings.Add kind q private algorithm octets available) now s.keys) (digest k) (is_bound_away s.bound q k) acts e

-- ---- the states

-- calls that are all accepted, from keys up to others
abbrev pub Reach : KeySetState → List (ℕ × Call) → KeySetState → Type 0
Reach s [] t = s ≡ t
Reach s (c ∷ cs) t = (a : KeySetState × List Action) × (runs.on_state c.1 c.0 s ≡ Ok a) × Reach a.0 cs t

pub reach_more : (s t u : KeySetState) (cs : List (ℕ × Call)) (c : ℕ × Call) (acts : List Action) → Reach s cs t → runs.on_state c.1 c.0 t ≡ Ok (u, acts) → Reach s (cs ++ c ∷ []) u
reach_more s t u [] c acts h e = ((u, acts), ap (runs.on_state c.1 c.0) h ∙ e, refl)
reach_more s t u (d ∷ cs) c acts h e = (h.0, h.1, reach_more h.0.0 t u cs c acts h.2 e)

-- the last state
pub reached_at : (s t : KeySetState) (cs : List (ℕ × Call)) → Reach s cs t → slice_get (states s (accepted s cs)) (length cs) ≡ Some t
reached_at s t [] h = ap (λ s. Some s) h
reached_at s t (c ∷ cs) h = ap (λ ts. slice_get (states s ts) (suc (length cs))) (accepted_ok s c cs h.0 h.1) ∙ reached_at h.0.0 t cs h.2

-- a state stays at its number
pub state_stays : (s t : KeySetState) (cs ds : List (ℕ × Call)) (i : ℕ) (x : KeySetState) → Reach s cs t → slice_get (states s (accepted s cs)) i ≡ Some x → slice_get (states s (accepted s (cs ++ ds))) i ≡ Some x
state_stays s t [] ds zero x h f = f
state_stays s t [] ds (suc i) x h f = cc
state_stays s t (c ∷ cs) ds zero x h f = f
state_stays s t (c ∷ cs) ds (suc i) x h f =
    ap (λ ts. slice_get (states s ts) (suc i)) (accepted_ok s c (cs ++ ds) h.0 h.1)
    ∙ state_stays h.0.0 t cs ds i x h.2 (ap (λ ts. slice_get (states s ts) (suc i)) (sym (accepted_ok s c cs h.0 h.1)) ∙ f)
