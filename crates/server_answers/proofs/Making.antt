-- Messages that are made, and what becomes of them.
use Rattle.std.proofs.Common.{◌≡◌, ◌∙◌, ℕ, ◌<◌, Bool, true, false, List, Vec, length, refl, sym, ap, subst, inl, inr}
use Rattle.std.specs.declared.alloc.Global.{Global}
use Rattle.std.specs.Prelude.{◌≢◌, ◌↔◌, MatchBool, Option, Result, Ok, Err, IfErr, IfOk, IsErrOf, IsOk, OnErr}
use Rattle.std.proofs.lemmas.Bool.{false≢true}
use Rattle.definitions.specs.Limits.{pointer_limit}
use Rattle.definitions.specs.Name.{Name}
use Rattle.messages.specs.Message.{Asked, Message, message}
use Rattle.messages.specs.declared.error.MessageError.{MessageError}
use Rattle.answer_publisher_keys.specs.Bindings.{ZoneKeys}
use Rattle.answer_publisher.specs.Inputs.{Input, answer_inputs, keys_inputs}
use Rattle.answer_publisher.specs.declared.publishing.Publisher.{Publisher}
use Rattle.answer_publisher.specs.declared.fault.AnswerFault.{AnswerFault}
use Rattle.answer_publisher.specs.declared.fault.AnswerFault.TheVariants as fault
use Rattle.server_queries.specs.Queries.{Queried}
use Rattle.answer_publisher.specs.Replacing.{noted}
use Rattle.server_responses.specs.Responses.{is_dnssec_ok}
use Rattle.server_signatures.specs.Outcomes.{AnswersEach, AnswersKeysEach, IsSigned, RefusesEach, RefusesKeysEach, latest_after, signed_by}
use Rattle.server_signatures.specs.Table.{sign_by, verify_by}
use Rattle.server_signatures.specs.declared.answering.Signed.{Signed}
use Rattle.server_signatures.specs.declared.answering.Signed.TheVariants as signed
use Rattle.server_signatures.proofs.Signing.{own_entries}
use Rattle.server_answers.specs.Messages.{Makes}
use Rattle.server_answers.specs.Answering.{AnswersBy, RespondsItself, AnswersQueried}
use Rattle.server_answers.specs.MadeOf.{IsMadeOf, ReadsWhole}
use Rattle.server_answers.specs.Moments.{IsOrWasNoted}
use Rattle.server_answers.specs.Parameters.{RespondsWithParameters, is_for_parameters}
use Rattle.server_answers.specs.Responding.{AnswersHeld, IsMessage, Serving, TellsAllowed, is_for_keys, unsigned}
use Rattle.answer_publisher.specs.Aliases.{alias_of, asks_all, is_answered}
use Rattle.answer_publisher.specs.World.{RefusesKeysQuestion, World, served_in}
use Rattle.server_answers.specs.Subset.{AnswersSubset}
use Rattle.server_answers.specs.Synthesized.{AnswersSynthesized, IsMadeSynthesized, IsRefusal, is_synthesized, keeps_back, reserved}
use Rattle.server_answers.specs.declared.requests.Response.{Response}
use Rattle.server_answers.specs.declared.requests.Response.TheVariants as response

-- a publisher of which nothing but the latest second is another
pub rest_of : {S H : Type 0} (p q : Publisher S H) (l : Option ℕ) → q ≡ record p { latest = l } → q ≡ record p { latest = q.latest }
rest_of p q l e = e ∙ ap (λ (x : Option ℕ). record p { latest = x }) (sym (ap (λ r. r.latest) e))

pub of_err : {T E P : Type 0} (r : Result T E) → P → OnErr r P
of_err (Ok x) p = tt
of_err (Err e) p = p

-- ---- of a publisher's answers

-- what is given is an answer to a question that is allowed
pub is_allowed_for : {T : Type 0} (x : T) (answered : Bool) → (IsErrOf (Ok x) fault.QuestionNotAllowed ↔ (answered ≡ false)) → answered ≡ true
is_allowed_for x true iff = refl
is_allowed_for x false iff = let e = iff.1 refl in cc

-- a fault tells of a question for the zone's records whether it is allowed
pub tells_of : {T : Type 0} (apex : Name) (asked : Asked) (f : AnswerFault) → (IsErrOf {T = T} (Err f) fault.QuestionNotAllowed ↔ (is_answered apex asked ≡ false)) → TellsAllowed apex asked false f
tells_of apex asked f iff = ((λ e. iff.0 (ap Err e)), (λ none. let e = iff.1 none in cc))

-- and of one for the keys that it is
tells_of_keys : (apex : Name) (asked : Asked) (f : AnswerFault) → f ≢ fault.QuestionNotAllowed → TellsAllowed apex asked true f
tells_of_keys apex asked f other = ((λ e. absurd (other e)), (λ none. absurd (false≢true (sym none))))

-- the answer for the keys is never refused as not allowed
keys_are_allowed : (w : World) (keys : ZoneKeys) (at : ℕ) (f : AnswerFault) → RefusesKeysQuestion w keys at f → f ≢ fault.QuestionNotAllowed
keys_are_allowed w keys at f refuses e = (subst (RefusesKeysQuestion w keys at) e refuses).2

pub keys_refused : (s : Serving) (asked : Asked) (f : AnswerFault) → RefusesKeysEach s.table s.world s.keys s.at f → TellsAllowed s.world.zone.apex asked true f
keys_refused s asked f refuses =
    tells_of_keys s.world.zone.apex asked f (keys_are_allowed (signed_by s.world (sign_by s.table) (verify_by s.table)) s.keys s.at f (refuses.1 (sign_by s.table) (verify_by s.table) (own_entries s.table)))

pub bare_keys_refused : (s : Serving) (asked : Asked) (f : AnswerFault) → RefusesKeysQuestion (unsigned s.world) s.keys s.at f → TellsAllowed s.world.zone.apex asked true f
bare_keys_refused s asked f refuses = tells_of_keys s.world.zone.apex asked f (keys_are_allowed (unsigned s.world) s.keys s.at f refuses)

pub by_table : (s : Serving) (asked : Asked) (old new : Option ℕ) (r : Result Signed AnswerFault) → IfOk r (IsSigned s.table (AnswersEach s.table s.world s.keys s.at asked) (answer_inputs s.world s.keys s.at asked))
    → IfErr r (RefusesEach s.table s.world s.keys s.at asked) → (IsErrOf r fault.QuestionNotAllowed ↔ (is_answered s.world.zone.apex asked ≡ false)) → new ≡ latest_after r old s.at
    → Makes s asked false true old new r
by_table s asked old new (Ok (signed.Message m)) is refused allowed noted_is = (is, noted_is, is_allowed_for (signed.Message m) (is_answered s.world.zone.apex asked) allowed)
by_table s asked old new (Ok (signed.Missing v)) is refused allowed noted_is = (refl, is.0, is.1, noted_is, is_allowed_for (signed.Missing v) (is_answered s.world.zone.apex asked) allowed)
by_table s asked old new (Err f) is refused allowed noted_is = (refused, noted_is, tells_of s.world.zone.apex asked f allowed)

pub keys_by_table : (s : Serving) (asked : Asked) (old : Option ℕ) (r : Result Signed AnswerFault) → IfOk r (IsSigned s.table (AnswersKeysEach s.table s.world s.keys s.at) (keys_inputs s.world s.keys s.at))
    → IfErr r (RefusesKeysEach s.table s.world s.keys s.at) → Makes s asked true true old old r
keys_by_table s asked old (Ok (signed.Message m)) is refused = (is, refl, refl)
keys_by_table s asked old (Ok (signed.Missing v)) is refused = (refl, is.0, is.1, refl, refl)
keys_by_table s asked old (Err f) is refused = (refused, refl, keys_refused s asked f refused)

-- ---- messages read

pub ok_of : (r : Result Message MessageError) (read : Message) → r ≡ Ok read → IsOk r
ok_of r read e = subst IsOk (sym e) refl

pub is_read : (s : Serving) (asked : Asked) (keys dnssec_ok : Bool) (m : List ℕ) → IsMessage s asked keys dnssec_ok m → IsOk (message pointer_limit m)
is_read s asked true true m h = let spells = (h (sign_by s.table) (verify_by s.table) (own_entries s.table)).1 in ok_of (message pointer_limit m) spells.read spells.reads
is_read s asked true false m h = ok_of (message pointer_limit m) h.1.read h.1.reads
is_read s asked false true m h = let spells = (h.0 (sign_by s.table) (verify_by s.table) (own_entries s.table)).1 in ok_of (message pointer_limit m) spells.read spells.reads
is_read s asked false false m h = ok_of (message pointer_limit m) h.1.read h.1.reads

pub reads_whole : (s : Serving) (asked : Asked) (keys dnssec_ok : Bool) (old new : Option ℕ) (r : Result Signed AnswerFault) → Makes s asked keys dnssec_ok old new r → IfOk r ReadsWhole
reads_whole s asked keys dnssec_ok old new (Ok (signed.Message m)) h = is_read s asked keys dnssec_ok m.items h.0
reads_whole s asked keys dnssec_ok old new (Ok (signed.Missing v)) h = tt
reads_whole s asked keys dnssec_ok old new (Err f) h = tt

-- ---- what becomes of them

pub was_noted : (s : Serving) (asked : Asked) (keys dnssec_ok : Bool) (old new : Option ℕ) (r : Result Signed AnswerFault) → Makes s asked keys dnssec_ok old new r → IsOrWasNoted s.at old new
was_noted s asked true dnssec_ok old new (Ok (signed.Message m)) h = inl h.1
was_noted s asked false dnssec_ok old new (Ok (signed.Message m)) h = inr h.1
was_noted s asked keys dnssec_ok old new (Ok (signed.Missing v)) h = inl h.3
was_noted s asked keys dnssec_ok old new (Err f) h = inl h.1

pub held_answered : (s : Serving) (q : Queried) (old new : Option ℕ) (made : Result Signed AnswerFault) (r : Response) → Makes s q.asked (is_for_keys s.world.zone.apex q.asked) (is_dnssec_ok q) old new made → IsMadeOf s.limit s.size q s.addresses made r
    → AnswersHeld s q old new r
held_answered s q old new (Ok (signed.Message m)) (response.Reply v) h k = inl (record { allowed = h.2; m = m.items; is_message = h.0; answers = k; noted_is = h.1 })
held_answered s q old new (Ok (signed.Message m)) response.Nothing h k = absurd k
held_answered s q old new (Ok (signed.Message m)) (response.Sign v) h k = absurd k
held_answered s q old new (Ok (signed.Missing inputs)) (response.Sign v) h k =
    let is : v.items ≡ inputs.items = ap (λ x. x.items) k in
    (h.0, is ∙ h.1, subst (λ (l : List Input). 0 < length l) (sym is) h.2, h.3, h.4)
held_answered s q old new (Ok (signed.Missing inputs)) response.Nothing h k = absurd k
held_answered s q old new (Ok (signed.Missing inputs)) (response.Reply v) h k = absurd k
held_answered s q old new (Err f) (response.Reply v) h k = inr (record { f = f; is_fault = h.0; tells_allowed = h.2; enough_memory = k.0; octets_are = k.1; unchanged = h.1 })
held_answered s q old new (Err f) response.Nothing h k = absurd k
held_answered s q old new (Err f) (response.Sign v) h k = absurd k

-- ---- of a type that the zone does not hold

module _ (s : Serving) (q : Queried) (old new : Option ℕ) where
  -- of a message, by whether it is not the answer
  denied : (m : Vec ℕ Global) (r : Response) → IsMessage s (reserved q.asked) false (is_dnssec_ok q) m.items → new ≡ noted old s.at → is_answered s.world.zone.apex (reserved q.asked) ≡ true → (b : Bool) → keeps_back q m.items ≡ b
      → MatchBool b (IsRefusal s.size q r) (IsMadeOf s.limit s.size q s.addresses (Ok (signed.Message m)) r) → AnswersSynthesized s q old new r
  denied m (response.Reply v) is was may true e k = inr (inl (record { allowed = may; m = m.items; is_message = is; kept_back_is = e; noted_is = was }, k))
  denied m (response.Reply v) is was may false e k = inl (record { allowed = may; m = m.items; is_message = is; kept_back_is = e; noted_is = was }, k)
  denied m response.Nothing is was may true e k = absurd k
  denied m response.Nothing is was may false e k = absurd k
  denied m (response.Sign v) is was may true e k = absurd k
  denied m (response.Sign v) is was may false e k = absurd k

  pub synthesized_answered : (made : Result Signed AnswerFault) (r : Response) → Makes s (reserved q.asked) false (is_dnssec_ok q) old new made → IsMadeSynthesized s.limit s.size q s.addresses made r → AnswersSynthesized s q old new r
  synthesized_answered (Ok (signed.Message m)) r h k = denied m r h.0 h.1 h.2 (keeps_back q m.items) refl k
  synthesized_answered (Ok (signed.Missing inputs)) (response.Sign v) h k =
      let is : v.items ≡ inputs.items = ap (λ x. x.items) k in
      (h.0, is ∙ h.1, subst (λ (l : List Input). 0 < length l) (sym is) h.2, h.3, h.4)
  synthesized_answered (Ok (signed.Missing inputs)) response.Nothing h k = absurd k
  synthesized_answered (Ok (signed.Missing inputs)) (response.Reply v) h k = absurd k
  synthesized_answered (Err f) (response.Reply v) h k = inr (inr (record { f = f; is_fault = h.0; tells_allowed = h.2; enough_memory = k.0; octets_are = k.1; unchanged = h.1 }))
  synthesized_answered (Err f) response.Nothing h k = absurd k
  synthesized_answered (Err f) (response.Sign v) h k = absurd k

-- ---- by what is asked for

abbrev by_type : Serving → Queried → Option ℕ → Option ℕ → Response → Bool → Bool → Bool → Type 0
by_type s q old new r synthesized all parameters =
    MatchBool synthesized (AnswersSynthesized s q old new r) (MatchBool all (AnswersSubset s q old new r) (MatchBool parameters (RespondsWithParameters s q old new r) (AnswersHeld s q old new r)))

pub answered_so : (s : Serving) (q : Queried) (old new : Option ℕ) (r : Response) (synthesized all parameters : Bool) → is_synthesized s.world.zone.apex s.world.zone.mode q.asked ≡ synthesized → asks_all q.asked ≡ all
    → is_for_parameters s.world.zone.apex s.world.zone.mode q.asked ≡ parameters → by_type s q old new r synthesized all parameters → RespondsItself s q old new r
answered_so s q old new r synthesized all parameters is is_all is_for k =
    let for_parameters = is_for_parameters s.world.zone.apex s.world.zone.mode q.asked in
    subst (λ (b : Bool). by_type s q old new r b (asks_all q.asked) for_parameters) (sym is)
    (subst (λ (b : Bool). by_type s q old new r synthesized b for_parameters) (sym is_all) (subst (by_type s q old new r synthesized all) (sym is_for) k))

-- by the RRset of an alias, or where none answers
pub by_alias : (s : Serving) (q : Queried) (old new : Option ℕ) (r : Response) (o : Option Asked) → o ≡ alias_of s.world.zone.mode (served_in s.world).zone q.asked → AnswersBy s q old new r o → AnswersQueried s q old new r
by_alias s q old new r o is k = subst (AnswersBy s q old new r) is k
