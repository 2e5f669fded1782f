-- What holds of each key that an add binds holds of every key that is bound.
use Rattle.std.proofs.Common.{◌≡◌, ℕ, Bool, true, false, cond, List, ◌∷◌, [], Option, Some, None, Ok, Err, refl, sym, subst, ap}
use Rattle.std.specs.declared.cmp.Ordering.TheVariants.{Less, Equal, Greater}
use Rattle.std.specs.List.{AllByRecursion}
use Rattle.std.specs.FinMap.Entries.{put, by_order}
use Rattle.definitions.specs.Dnskey.{Dnskey}
use Rattle.keyset.specs.KeyState.{Answer, Reference, reference_cmp}
use Rattle.keyset_rolls.specs.declared.rolls.Action.{Action}
use Rattle.answer_events.specs.declared.key_kind.KeyKind.{KeyKind}
use Rattle.answer_publisher_keys.specs.Bindings.{Add, BoundKey, Call, Delete, Finish, Outcome, Report1, Report2, Set, Start, Wait1, Wait2, ZoneKeys, apply, dnskey_for, is_bound_away, lifted, no_keys, on_state}
use Rattle.answer_publisher_keys.specs.Bindings as bindings
use Rattle.answer_publisher_keys.specs.KeyTags.{behind, left}

abbrev bound_of : List (Reference × BoundKey) → Outcome → List (Reference × BoundKey)
bound_of b (Ok r) = r.0.bound
bound_of b (Err e) = b

-- what a call on the key set leaves bound
pub bound_by : (b : List (Reference × BoundKey)) (a : Answer) (t : ZoneKeys) (acts : List Action) → lifted b a ≡ Ok (t, acts) → t.bound ≡ b
bound_by b (Ok a) t acts e = ap (bound_of b) (sym e)
bound_by b (Err f) t acts e = ap (bound_of b) (sym e)

abbrev pub by_digest : ZoneKeys → Reference → Dnskey → Answer → Option (List ℕ) → Outcome
by_digest s q k a None = Err bindings.DigestFailed
by_digest s q k a (Some d) = lifted (bindings.bind q (record { key = k; digest = d }) s.bound) a

abbrev pub AllBound : (BoundKey → Type 0) → List (Reference × BoundKey) → Type 0
AllBound P es = AllByRecursion (λ (e : Reference × BoundKey). P e.1) es

module _ (digest : Dnskey → Option (List ℕ)) (P : BoundKey → Type 0) (binds : (kind : KeyKind) (algorithm : ℕ) (octets d : List ℕ) → digest (dnskey_for kind algorithm octets) ≡ Some d → P (record { key = dnskey_for kind algorithm octets; digest = d })) where
  bound_more : (q : Reference) (b : BoundKey) (es : List (Reference × BoundKey)) → P b → AllBound P es → AllBound P (put reference_cmp q b es)
  bound_more q b [] is h = (is, tt)
  bound_more q b (e ∷ es) is h =
      let more = bound_more q b es is h.1 in
      elim (reference_cmp q e.0) as (λ o. AllBound P (by_order o ((q, b) ∷ e ∷ es) ((e.0, b) ∷ es) (e ∷ put reference_cmp q b es))) [
        | Less ↦ (is, h)
        | Equal ↦ (is, h.1)
        | Greater ↦ (h.0, more)
      ]

  added : (s t : ZoneKeys) (q : Reference) (k : Dnskey) (a : Answer) (o : Option (List ℕ)) (away : Bool) (acts : List Action) → ((d : List ℕ) → o ≡ Some d → P (record { key = k; digest = d })) → AllBound P s.bound
      → cond away (Err bindings.ReferenceBound) (by_digest s q k a o) ≡ Ok (t, acts) → AllBound P t.bound
  added s t q k a o true acts is h e = cc
  added s t q k a None false acts is h e = cc
  added s t q k a (Some d) false acts is h e =
      subst (AllBound P) (sym (bound_by (bindings.bind q (record { key = k; digest = d }) s.bound) a t acts e)) (bound_more q (record { key = k; digest = d }) s.bound (is d refl) h)

  rolled : (s t : ZoneKeys) (a : Answer) (acts : List Action) → AllBound P s.bound → lifted s.bound a ≡ Ok (t, acts) → AllBound P t.bound
  rolled s t a acts h e = subst (AllBound P) (sym (bound_by s.bound a t acts e)) h

  -- an accepted call keeps it
  pub apply_all : (c : Call) (now : ℕ) (s t : ZoneKeys) (acts : List Action) → AllBound P s.bound → apply digest c now s ≡ Ok (t, acts) → AllBound P t.bound
  apply_all (Add kind q private algorithm octets available) now s t acts h e =
      let k = dnskey_for kind algorithm octets in
      added s t q k (on_state (Add kind q private algorithm octets available) now s.keys) (digest k) (is_bound_away s.bound q k) acts (binds kind algorithm octets) h e
  apply_all (Set q setting) now s t acts h e = rolled s t (on_state (Set q setting) now s.keys) acts h e
  apply_all (Delete q) now s t acts h e = rolled s t (on_state (Delete q) now s.keys) acts h e
  apply_all (Start r olds news) now s t acts h e = rolled s t (on_state (Start r olds news) now s.keys) acts h e
  apply_all (Report1 r ttl) now s t acts h e = rolled s t (on_state (Report1 r ttl) now s.keys) acts h e
  apply_all (Wait1 r) now s t acts h e = rolled s t (on_state (Wait1 r) now s.keys) acts h e
  apply_all (Report2 r ttl) now s t acts h e = rolled s t (on_state (Report2 r ttl) now s.keys) acts h e
  apply_all (Wait2 r) now s t acts h e = rolled s t (on_state (Wait2 r) now s.keys) acts h e
  apply_all (Finish r) now s t acts h e = rolled s t (on_state (Finish r) now s.keys) acts h e

  left_all : (s : ZoneKeys) (o : Outcome) → ((t : ZoneKeys) (acts : List Action) → o ≡ Ok (t, acts) → AllBound P t.bound) → AllBound P s.bound → AllBound P (left s o).bound
  left_all s (Ok r) f h = f r.0 r.1 refl
  left_all s (Err e) f h = h

  from_here : (s : ZoneKeys) (cs : List (ℕ × Call)) → AllBound P s.bound → AllBound P (behind digest s cs).bound
  from_here s [] h = h
  from_here s (c ∷ cs) h =
      from_here (left s (apply digest c.1 c.0 s)) cs (left_all s (apply digest c.1 c.0 s) (λ t acts e. apply_all c.1 c.0 s t acts h e) h)

  -- and so do all calls
  pub all_behind : (name : List (List ℕ)) (cs : List (ℕ × Call)) → AllBound P (behind digest (no_keys name) cs).bound
  all_behind name cs = from_here (no_keys name) cs tt
