-- A journal that opened is refused for want of memory alone.
use Rattle.std.proofs.Common.{◌≡◌, ℕ, Bool, true, false, cond, List, [], ◌∷◌, ◌++◌, refl, sym, ap, subst, inl, inr, ◌∙◌}
use Rattle.std.specs.Prelude.{Option, Some, None, Ok, Err, unwrap_or}
use Rattle.std.proofs.lemmas.Bool.{false≢true}
use Rattle.definitions.specs.Name.{Name}
use Rattle.definitions.specs.Zone.{Zone}
use Rattle.definitions.specs.ZoneChain.{Mode, Nsec, Nsec3}
use Rattle.denial_chain_owners.specs.declared.error.SigningError.{SigningError}
use Rattle.denial_chain_owners.specs.declared.error.SigningError.TheVariants as chain
use Rattle.denial_nsec3_hash.specs.Hashing.{FitsName}
use Rattle.keyset_keys.specs.declared.errors.Error.TheVariants as error
use Rattle.messages.specs.HandedRr.{HandedRr}
use Rattle.answer_terms.specs.Accepting.{zone_of}
use Rattle.answer_terms.specs.Chainable.{HasChain}
use Rattle.answer_terms.specs.Hashing.{Hasher}
use Rattle.answer_zone_records.specs.AliasFaults.{IsAcceptedWithAliases, IsChained, RefusesZoneWithAliases}
use Rattle.answer_zone_records.specs.Faults.{IsChainFault, IsModeFault}
use Rattle.answer_zone_records.specs.declared.fault.ZoneFault.{ZoneFault}
use Rattle.answer_zone_records.specs.declared.fault.ZoneFault.TheVariants as zone
use Rattle.answer_zone_records.proofs.ZoneFaults.{unfaulted}
use Rattle.answer_publisher_keys.specs.Bindings.{Outcome}
use Rattle.answer_publisher_keys.specs.KeyCalls.{Fails, IsNamed, fault_of}
use Rattle.answer_publisher_keys.specs.declared.fault.KeyFault.{KeyFault}
use Rattle.answer_publisher_keys.specs.declared.fault.KeyFault.TheVariants as key
use Rattle.answer_publisher_keys.specs.Bindings.{apply}
use Rattle.answer_publisher.specs.declared.fault.ReplaceFault.TheVariants as replace
use Rattle.session_grammar.specs.Grammar.{ZoneLine}
use Rattle.server_zone.specs.JournalLaws.{JournalsOpenAgain}
use Rattle.server_zone.specs.Journals.{Phase, Empty, Beginning, Running, IsEndFit, IsFit, IsLineFit, IsOwnFit, Leads, RefusesBehind, RefusesEnd, RefusesLines, RefusesOwn, own_line, ran, with_line}
use Rattle.server_zone.specs.Lines.{has_feed, whole_lines}
use Rattle.server_zone.specs.Refusals.{is_key_memory, is_memory, is_zone_memory}
use Rattle.server_zone.specs.StateLines.{StateLine, Nothing, Added, Replaced, Called, Other, state_line}
use Rattle.server_zone.specs.States.{Digest, IsMemory, OfLine, RefusesTo, State, after, applied_line, behind_call, digests, gathering, is_begun, made}
use Rattle.server_zone.specs.declared.refusals.Refusal.{Refusal}
use Rattle.server_zone.specs.declared.refusals.Refusal.TheVariants as refusal
use Rattle.server_zone.proofs.JournalLemmas.{accepted_line, bind_ok, leads_from}
use Rattle.server_zone.proofs.LineLemmas.{whole_append}
use Rattle.server_zone.proofs.OpeningLemmas.{no_plain}
use Rattle.server_zone.proofs.StateLemmas.{read_line}

no_value : {A : Type 0} (x : A) → None ≡ Some x → ⊥
no_value x e = cc

no_error : {A B : Type 0} (x : A) (y : B) → Ok x ≡ Err y → ⊥
no_error x y e = cc

-- ---- a zone

module _ (hash : Hasher) (iterations : ℕ) (salt : List ℕ) (optout : Bool) (z : Zone) where
  no_hash_fault : (e : SigningError) → HasChain hash (Nsec3 iterations salt optout) z → IsModeFault hash (Nsec3 iterations salt optout) z e → ⊥
  no_hash_fault chain.HashFailed has h = let k = has.hashed h.name h.of_chain in no_value k.0 (sym h.fails ∙ k.1)
  no_hash_fault chain.HashTooLong has h =
      h.long (subst (FitsName z.name) (ap (λ (o : Option (List ℕ)). unwrap_or o []) h.one.has) (has.fit h.one.name h.one.of_chain))
  no_hash_fault chain.HashCollision has h =
      let one = ap (λ (o : Option (List ℕ)). unwrap_or o []) h.first.has in
      let other = ap (λ (o : Option (List ℕ)). unwrap_or o []) h.second.has in
      h.unlike (has.apart h.first.name h.second.name h.first.of_chain h.second.of_chain (one ∙ h.shared ∙ sym other))
  no_hash_fault chain.NoSingleSoa has h = h
  no_hash_fault chain.MultipleTtlValues has h = h
  no_hash_fault chain.Memory has h = h

no_mode_fault : (hash : Hasher) (mode : Mode) (z : Zone) (e : SigningError) → HasChain hash mode z → IsModeFault hash mode z e → ⊥
no_mode_fault hash Nsec z e has h = h
no_mode_fault hash (Nsec3 iterations salt optout) z e has h = no_hash_fault hash iterations salt optout z e has h

no_chain_fault : (hash : Hasher) (apex : Name) (mode : Mode) (rs : List HandedRr) (e : SigningError) → IsChained hash apex mode rs → IsChainFault hash apex mode rs e → ⊥
no_chain_fault hash apex mode rs chain.NoSingleSoa is h = h is.soa
no_chain_fault hash apex mode rs chain.MultipleTtlValues is h = false≢true (sym is.ttls ∙ h)
no_chain_fault hash apex mode rs chain.HashFailed is h = no_mode_fault hash mode (zone_of apex rs) chain.HashFailed is.chain h
no_chain_fault hash apex mode rs chain.HashTooLong is h = no_mode_fault hash mode (zone_of apex rs) chain.HashTooLong is.chain h
no_chain_fault hash apex mode rs chain.HashCollision is h = no_mode_fault hash mode (zone_of apex rs) chain.HashCollision is.chain h
no_chain_fault hash apex mode rs chain.Memory is h = no_mode_fault hash mode (zone_of apex rs) chain.Memory is.chain h

zone_only : (hash : Hasher) (apex : Name) (mode : Mode) (limit : ℕ) (rs : List HandedRr) (f : ZoneFault) → IsAcceptedWithAliases hash apex mode limit rs → RefusesZoneWithAliases hash apex mode limit rs f → is_zone_memory f ≡ true
zone_only hash apex mode limit rs f is (inl h) = ap is_zone_memory h.0
zone_only hash apex mode limit rs zone.Memory is (inr h) = refl
zone_only hash apex mode limit rs (zone.Chain e) is (inr h) = absurd (no_chain_fault hash apex mode rs e is.chained h.1)
zone_only hash apex mode limit rs f is (inr h) = absurd (no_value f (sym (unfaulted apex mode limit rs (no_plain apex mode limit rs is.faultless) is.faultless.aliases) ∙ h))

-- ---- a call on the keys

key_only : (ran_out : Outcome → Type 0) (o : Outcome) (f : KeyFault) (t : State) (s : State) (at : ℕ) → behind_call at o s ≡ Some t → IsNamed f → Fails ran_out (fault_of f) o → is_key_memory f ≡ true
key_only ran_out (Err g) f t s at e named h = absurd (no_value t e)
key_only ran_out (Ok a) key.Memory t s at e named h = refl
key_only ran_out (Ok a) key.ReferenceBound t s at e named h = absurd (no_error _ _ h)
key_only ran_out (Ok a) key.DigestFailed t s at e named h = absurd (no_error _ _ h)
key_only ran_out (Ok a) (key.Key error.Memory) t s at e named h = absurd named
key_only ran_out (Ok a) (key.Key f) t s at e named h = absurd (no_error _ _ h)

-- ---- a line

memory_only : (f : Refusal) → IsMemory f → is_memory f ≡ true
memory_only refusal.Memory h = refl
memory_only f h = absurd h

begun_only : (b : Bool) (o : State) (t : State) → cond b (Some o) None ≡ Some t → b ≡ false → ⊥
begun_only true o t e h = false≢true (sym h)
begun_only false o t e h = no_value t e

to_only : (digest : Digest) (hash : Hasher) (s t : State) (l : StateLine) (f : Refusal) → after digest l s ≡ Some t → IsFit hash s l → RefusesTo digest hash None s l f → is_memory f ≡ true
to_only digest hash s t Nothing f e fit h = memory_only f h
to_only digest hash s t (Added r) refusal.Memory e fit h = refl
to_only digest hash s t (Added r) refusal.TooEarly e fit h = absurd (begun_only (is_begun s) (gathering r s) t e h)
to_only digest hash s t (Added r) f e fit h = absurd h
to_only digest hash s t (Replaced at) refusal.Memory e fit h = refl
to_only digest hash s t (Replaced at) (refusal.Replace replace.TooSoon) e fit h = absurd (false≢true h)
to_only digest hash s t (Replaced at) (refusal.Replace (replace.Zone f)) e fit h = zone_only hash s.zone.apex s.zone.mode s.zone.limit s.gathered f fit h.1
to_only digest hash s t (Replaced at) f e fit h = absurd h
to_only digest hash s t (Called at c) refusal.Memory e fit h = refl
to_only digest hash s t (Called at c) (refusal.Key f) e fit h = key_only _ (apply (digests digest s) c at s.keys) f t s at e h.0 h.1
to_only digest hash s t (Called at c) f e fit h = absurd h
to_only digest hash s t Other f e fit h = absurd (no_value t e)

ran_some : (o : Option State) (r : Phase) → ran o ≡ Some r → (t : State) × (o ≡ Some t)
ran_some (Some t) r e = (t, refl)
ran_some None r e = absurd (no_value r e)

event_only : (digest : Digest) (hash : Hasher) (z : ZoneLine) (rs : List HandedRr) (l : StateLine) (f : Refusal) (r : Phase) → ran (after digest l (made z rs)) ≡ Some r → IsFit hash (made z rs) l → RefusesTo digest hash None (made z rs) l f → is_memory f ≡ true
event_only digest hash z rs l f r e fit h = let t = ran_some (after digest l (made z rs)) r e in to_only digest hash (made z rs) t.0 l f t.1 fit h

own_only : (digest : Digest) (hash : Hasher) (z : ZoneLine) (rs : List HandedRr) (l : StateLine) (f : Refusal) (r : Phase) → own_line digest z rs l ≡ Some r → IsOwnFit hash z rs l → RefusesOwn digest hash z rs l f → is_memory f ≡ true
own_only digest hash z rs Nothing f r e fit h = memory_only f h
own_only digest hash z rs (Added a) f r e fit h = memory_only f h
own_only digest hash z rs (Replaced at) (refusal.Zone f) r e fit h = zone_only hash z.apex z.mode z.limit rs f fit.0 h
own_only digest hash z rs (Replaced at) f r e fit h = event_only digest hash z rs (Replaced at) f r e fit.1 h
own_only digest hash z rs (Called at c) (refusal.Zone f) r e fit h = zone_only hash z.apex z.mode z.limit rs f fit.0 h
own_only digest hash z rs (Called at c) f r e fit h = event_only digest hash z rs (Called at c) f r e fit.1 h
own_only digest hash z rs Other f r e fit h = absurd (no_value r e)

module _ (digest : Digest) (hash : Hasher) (r : Phase) (line : List ℕ) where
  -- where the zone's own records stand
  module _ (z : ZoneLine) (rs : List HandedRr) (w : with_line digest (Beginning z rs) line ≡ Some r) (fit : IsLineFit hash (Beginning z rs) line) where
    own_read : (l : StateLine) × (state_line line ≡ Some l) × (own_line digest z rs l ≡ Some r)
    own_read = bind_ok (state_line line) (own_line digest z rs) r w

    of_own : (f : Refusal) → OfLine (λ l. RefusesOwn digest hash z rs l f) (state_line line) → is_memory f ≡ true
    of_own f h =
        let l = own_read in
        own_only digest hash z rs l.0 f r l.2 (read_line (IsOwnFit hash z rs) (state_line line) l.0 l.1 fit) (read_line (λ k. RefusesOwn digest hash z rs k f) (state_line line) l.0 l.1 h)

    beginning_only : (f : Refusal) → RefusesBehind digest hash (Beginning z rs) line f → is_memory f ≡ true
    beginning_only refusal.Memory h = refl
    beginning_only (refusal.Unreadable f) h = let l = own_read in absurd (no_value l.0 (sym h ∙ l.1))
    beginning_only f h = of_own f h

  -- where an event stands
  module _ (s : State) (w : with_line digest (Running s) line ≡ Some r) (fit : IsLineFit hash (Running s) line) where
    run_read : (t : State) × (has_feed line ≡ false) × (l : StateLine) × (state_line line ≡ Some l) × (after digest l s ≡ Some t)
    run_read = let t = ran_some (applied_line digest s line) r w in let l = accepted_line digest s t.0 line t.1 in (t.0, l.0, l.1, l.2, l.3)

    of_run : (f : Refusal) → OfLine (λ l. RefusesTo digest hash None s l f) (state_line line) → is_memory f ≡ true
    of_run f h =
        let l = run_read in
        to_only digest hash s l.0 l.2 f l.4 (read_line (IsFit hash s) (state_line line) l.2 l.3 fit) (read_line (λ k. RefusesTo digest hash None s k f) (state_line line) l.2 l.3 h)

    running_only : (f : Refusal) → RefusesBehind digest hash (Running s) line f → is_memory f ≡ true
    running_only refusal.Memory h = refl
    running_only refusal.ManyLines h = let l = run_read in absurd (false≢true (sym l.1 ∙ h))
    running_only (refusal.Unreadable f) h = let l = run_read in absurd (no_value l.2 (sym h ∙ l.3))
    running_only f h = of_run f h

-- where no zone's line stands
first_only : (digest : Digest) (hash : Hasher) (r : Phase) (line : List ℕ) (f : Refusal) → with_line digest Empty line ≡ Some r → RefusesBehind digest hash Empty line f → is_memory f ≡ true
first_only digest hash r line refusal.Memory w h = refl
first_only digest hash r line (refusal.Unreadable f) w h = absurd (no_value r (sym h ∙ w))
first_only digest hash r line f w h = absurd h

behind_only : (digest : Digest) (hash : Hasher) (p r : Phase) (line : List ℕ) (f : Refusal) → with_line digest p line ≡ Some r → IsLineFit hash p line → RefusesBehind digest hash p line f → is_memory f ≡ true
behind_only digest hash Empty r line f w fit h = first_only digest hash r line f w h
behind_only digest hash (Beginning z rs) r line f w fit h = beginning_only digest hash r line z rs w fit f h
behind_only digest hash (Running s) r line f w fit h = running_only digest hash r line s w fit f h

-- ---- the end

own_end_only : (hash : Hasher) (z : ZoneLine) (rs : List HandedRr) (f : Refusal) → IsAcceptedWithAliases hash z.apex z.mode z.limit rs → RefusesEnd hash (Beginning z rs) f → is_memory f ≡ true
own_end_only hash z rs (refusal.Zone f) fit h = zone_only hash z.apex z.mode z.limit rs f fit h
own_end_only hash z rs f fit h = absurd h

end_only : (hash : Hasher) (p : Phase) (f : Refusal) → IsEndFit hash p → RefusesEnd hash p f → is_memory f ≡ true
end_only hash Empty f fit h = absurd fit
end_only hash (Beginning z rs) f fit h = own_end_only hash z rs f fit h
end_only hash (Running s) f fit h = absurd h

lines_only : (digest : Digest) (hash : Hasher) (p q : Phase) (f : Refusal) (ls : List (List ℕ)) → Leads digest hash p ls q → IsEndFit hash q → RefusesLines digest hash p f ls → is_memory f ≡ true
lines_only digest hash p q f [] e fit h = end_only hash p f (subst (IsEndFit hash) e fit) h
lines_only digest hash p q f (l ∷ ls) leads fit h = behind_only digest hash p leads.0 l f leads.1 leads.2 h

pub journals_open_again : JournalsOpenAgain
journals_open_again digest hash text s e j is =
    let lines : whole_lines text ≡ whole_lines is.front ++ whole_lines is.rest = ap whole_lines is.text_is ∙ whole_append is.front is.rest is.whole in
    let leads : Leads digest hash Empty (whole_lines is.front ++ whole_lines is.rest) j.phase = subst (λ (ls : List (List ℕ)). Leads digest hash Empty ls j.phase) lines j.leads in
    lines_only digest hash is.phase j.phase e.reason (whole_lines is.rest) (leads_from digest hash Empty j.phase is.phase (whole_lines is.front) (whole_lines is.rest) leads is.accepted) j.fit is.refused
