-- Adds to bound keys.
use Rattle.std.proofs.Common.{◌≡◌, ℕ, Bool, false, cond, List, [], refl, sym, ap, subst}
use Rattle.std.specs.Prelude.{Option, Some, None, Result, Ok, Err}
use Rattle.definitions.specs.Dnskey.{Dnskey, key_tag}
use Rattle.answer_events.specs.declared.key_kind.KeyKind.{KeyKind}
use Rattle.keyset_keys.specs.declared.errors.Error.{Error}
use Rattle.keyset_keys.specs.declared.errors.Error.TheVariants as error
use Rattle.keyset.specs.KeyAnswers as answers
use Rattle.keyset.specs.KeyAnswers.{Refuses, refusal_of}
use Rattle.answer_publisher_keys.specs.declared.fault.KeyFault.{KeyFault}
use Rattle.answer_publisher_keys.specs.declared.fault.KeyFault.TheVariants as fault
use Rattle.keyset_rolls.specs.declared.rolls.Action.{Action}
use Rattle.answer_publisher_keys.specs.KeyCalls.{Fails, Gives, IsAccepted, IsFree, IsNamed, RefusesAhead, fault_of, fault_from}
use Rattle.keyset.specs.KeyState.{KeySetState, Reference, Refusal, Answer}
use Rattle.keyset.specs.KeyRuns as runs
use Rattle.answer_publisher_keys.specs.Bindings.{ZoneKeys, BoundKey, Fault, Outcome, ReferenceBound, DigestFailed, Add, apply, lifted, bind, dnskey_for, is_bound_away, new_in_set}

pub lifted_ok : (b d : List (Reference × BoundKey)) (a : Answer) (k : KeySetState) → a ≡ Ok (k, []) → b ≡ d → lifted b a ≡ Ok (record { keys = k; bound = d }, [])
lifted_ok b d a k e f i = lifted (f i) (e i)

-- an add to the key set, by a tag
abbrev pub taking : KeyKind → Reference → Option Reference → ℕ → ℕ → ℕ → Bool → KeySetState → Answer
taking kind q private algorithm tag now available s = runs.on_state (runs.Add q (new_in_set kind private algorithm tag now available)) now s

-- an add of a key that isn't bound away and has a digest
pub applied : (digests : Dnskey → Option (List ℕ)) (kind : KeyKind) (q : Reference) (private : Option Reference) (algorithm : ℕ) (octets : List ℕ) (available : Bool) (now : ℕ) (s : ZoneKeys) (k : Dnskey) (d : List ℕ)
    → k ≡ dnskey_for kind algorithm octets → is_bound_away s.bound q k ≡ false → digests k ≡ Some d
    → apply digests (Add kind q private algorithm octets available) now s ≡ lifted (bind q (record { key = k; digest = d }) s.bound) (taking kind q private algorithm (key_tag k) now available s.keys)
applied digests kind q private algorithm octets available now s k d same free digest =
    let P : Dnskey → Type 0 = λ k. is_bound_away s.bound q k ≡ false → digests k ≡ Some d → apply digests (Add kind q private algorithm octets available) now s ≡ lifted (bind q (record { key = k; digest = d }) s.bound) (taking kind q private algorithm (key_tag k) now available s.keys) in
    let kk : Dnskey = dnskey_for kind algorithm octets in
    let there : P kk = λ f g. (λ i. cond (f i) (Err ReferenceBound) (elim (g i) [ None ↦ Err DigestFailed | Some d ↦ lifted (bind q (record { key = kk; digest = d }) s.bound) (taking kind q private algorithm (key_tag kk) now available s.keys) ])) in
    subst P (sym same) there free digest

-- what the key set accepts, is accepted
pub accepted_lifted : (b : List (Reference × BoundKey)) (a : Answer) → answers.IsAccepted a → IsAccepted (lifted b a)
accepted_lifted b (Ok a) h = tt
accepted_lifted b (Err e) h = h

-- what the key set refuses, the publisher refuses under its own name
pub refused_named : (e : Error) (b : List (Reference × BoundKey)) (a : Answer) → answers.Fails (refusal_of e) a → IsNamed (fault_from e) × Fails IsAccepted (fault_of (fault_from e)) (lifted b a)
refused_named error.KeyExists b a h = (tt, ap (lifted b) h)
refused_named error.KeyNotFound b a h = (tt, ap (lifted b) h)
refused_named error.KeyNotOld b a h = (tt, ap (lifted b) h)
refused_named error.DuplicateKeyTag b a h = (tt, ap (lifted b) h)
refused_named error.WrongKeyType b a h = (tt, ap (lifted b) h)
refused_named error.WrongKeyState b a h = (tt, ap (lifted b) h)
refused_named error.NoSuitableKeyPresent b a h = (tt, ap (lifted b) h)
refused_named error.WrongStateForRollOperation b a h = (tt, ap (lifted b) h)
refused_named error.ConflictingRollInProgress b a h = (tt, ap (lifted b) h)
refused_named error.AlgorithmSetsMismatch b a h = (tt, ap (lifted b) h)
refused_named (error.Wait d) b a h = (tt, ap (lifted b) h)
refused_named error.UnknownRollType b a h = (tt, ap (lifted b) h)
refused_named error.MissingTimestamp b a h = (tt, ap (lifted b) h)
refused_named error.Memory b a h = (tt, accepted_lifted b a h)

-- what is foretold is so
pub foretold : (r : Option Refusal) (a : Answer) → Refuses r a → answers.Fails r a
foretold None a h = absurd h
foretold (Some r) a h = h

-- only a reference that is bound away is not free
free_lifted : (b : List (Reference × BoundKey)) (a : Answer) → IsFree (lifted b a)
free_lifted b (Ok a) = tt
free_lifted b (Err e) = tt

pub free_applied : (digests : Dnskey → Option (List ℕ)) (kind : KeyKind) (q : Reference) (private : Option Reference) (algorithm : ℕ) (octets : List ℕ) (available : Bool) (now : ℕ) (s : ZoneKeys)
    → is_bound_away s.bound q (dnskey_for kind algorithm octets) ≡ false → IsFree (apply digests (Add kind q private algorithm octets available) now s)
free_applied digests kind q private algorithm octets available now s free =
    let k : Dnskey = dnskey_for kind algorithm octets in
    let a : Answer = taking kind q private algorithm (key_tag k) now available s.keys in
    let by : Option (List ℕ) → Outcome = λ o. elim o [ None ↦ Err DigestFailed | Some d ↦ lifted (bind q (record { key = k; digest = d }) s.bound) a ] in
    let there : IsFree (by (digests k)) = elim (digests k) as (λ o. IsFree (by o)) [ None ↦ tt | Some d ↦ free_lifted (bind q (record { key = k; digest = d }) s.bound) a ] in
    subst (λ (away : Bool). IsFree (cond away (Err ReferenceBound) (by (digests k)))) (sym free) there

-- where memory comes last, the reference is free
loose : (f : Option Fault) (b : List (Reference × BoundKey)) (a : Answer) → Fails IsAccepted f (lifted b a) → Fails IsFree f (lifted b a)
loose None b a h = free_lifted b a
loose (Some f) b a h = h

pub loosened : {X : Type 0} (view : X → List Action) (old new : ZoneKeys) (r : Result X KeyFault) (b : List (Reference × BoundKey)) (a : Answer) → Gives IsAccepted view old new r (lifted b a) → Gives IsFree view old new r (lifted b a)
loosened view old new (Ok x) b a h = h
loosened view old new (Err e) b a h = (h.0, h.1, loose (fault_of e) b a h.2)

-- an add that is refused before its call
pub refused_ahead : {X : Type 0} (view : X → List Action) (digests : Dnskey → Option (List ℕ)) (kind : KeyKind) (q : Reference) (private : Option Reference) (algorithm : ℕ) (octets : List ℕ) (available : Bool) (now : ℕ) (s : ZoneKeys) (f : KeyFault)
    → RefusesAhead (is_bound_away s.bound q (dnskey_for kind algorithm octets)) f → Gives IsFree view s s (Err f) (apply digests (Add kind q private algorithm octets available) now s)
refused_ahead view digests kind q private algorithm octets available now s fault.ReferenceBound h =
    let k : Dnskey = dnskey_for kind algorithm octets in
    let a : Answer = taking kind q private algorithm (key_tag k) now available s.keys in
    let by : Option (List ℕ) → Outcome = λ o. elim o [ None ↦ Err DigestFailed | Some d ↦ lifted (bind q (record { key = k; digest = d }) s.bound) a ] in
    (refl, tt, ap (λ (away : Bool). cond away (Err ReferenceBound) (by (digests k))) h)
refused_ahead view digests kind q private algorithm octets available now s fault.Memory h =
    (refl, tt, free_applied digests kind q private algorithm octets available now s h)
refused_ahead view digests kind q private algorithm octets available now s fault.DigestFailed h = absurd h
refused_ahead view digests kind q private algorithm octets available now s (fault.Key e) h = absurd h
