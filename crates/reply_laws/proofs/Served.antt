-- What answers the same query twice.
use Rattle.std.proofs.Common.{◌≡◌, ◌∙◌, ℕ, ◌<◌, Bool, true, false, List, [], ◌∷◌, length, map, Option, Some, None, refl, sym, ap, subst, inl, inr}
use Rattle.std.specs.Prelude.{◌⊎◌, IsSomeAnd, MatchBool, Result, Ok, Err, if◌then◌else◌, unwrap_or}
use Rattle.std.specs.Option.{option_map_or}
use Rattle.std.proofs.lemmas.Bool.{false≢true}
use Rattle.definitions.specs.Dnskey.{Dnskey}
use Rattle.definitions.specs.Limits.{pointer_limit}
use Rattle.definitions.specs.Name.{strictly_above}
use Rattle.messages.specs.HandedRr.{HandedRr}
use Rattle.messages.specs.Message.{Asked, Message, message}
use Rattle.messages.specs.declared.error.MessageError.{MessageError}
use Rattle.answer_terms.specs.GroupView.{view_of}
use Rattle.answer_terms.specs.Served.{ServedRrset, key_group, keys_ttl}
use Rattle.answer_scheme.specs.Moments.{second_of}
use Rattle.answer_publisher_keys.specs.Bindings.{ZoneKeys, keys_by_tag}
use Rattle.answer_publisher_keys.specs.declared.keys.Publication.TheVariants.{SignsKeys, SignsZone}
use Rattle.answer_publisher.specs.Answering.{AnswersApex, RefusesApex}
use Rattle.answer_publisher.specs.Parameters.{OfBoth, parameters_in, parameters_inputs}
use Rattle.answer_publisher.specs.declared.fault.AnswerFault.{AnswerFault}
use Rattle.answer_publisher.specs.declared.fault.AnswerFault.TheVariants as fault
use Rattle.server_queries.specs.Queries.{Queried, RefusedRequest, query_at}
use Rattle.server_queries.specs.Replies.{error_octets}
use Rattle.server_responses.specs.Limits.{size_limit}
use Rattle.server_responses.specs.Redirects.{redirect_response}
use Rattle.server_responses.specs.Responses.{AnswersQuery, error_response, is_dnssec_ok, response_of}
use Rattle.server_responses.specs.Sections.{written_as_handed}
use Rattle.server_responses.specs.declared.transport.Transport.{Transport}
use Rattle.server_signatures.proofs.Signing.{own_entries}
use Rattle.server_signatures.specs.declared.answering.Signed.{Signed}
use Rattle.server_signatures.specs.declared.answering.Signed.TheVariants.{Message as Given, Missing}
use Rattle.server_answers.specs.Aliased.{AnswersAlias, IsMadeRedirect}
use Rattle.server_answers.specs.Aliases.{alias_of, asks_all}
use Rattle.server_answers.specs.Answering.{AnswersBy, AnswersOne, AnswersOther, AnswersQueried}
use Rattle.server_answers.specs.Blank.{sign_blank, verify_blank}
use Rattle.server_answers.specs.Glue.{glue}
use Rattle.server_answers.specs.Glued.{AnswersGlued}
use Rattle.server_answers.specs.Inputs.{Input, all_inputs}
use Rattle.server_answers.specs.MadeOf.{IsMadeOf}
use Rattle.server_answers.specs.Messages.{Makes}
use Rattle.server_answers.specs.Parameters.{HasNoParameters, IsParameters, MakesParameters, RespondsWithParameters, is_for_parameters}
use Rattle.server_answers.specs.Requests.{AnswersRead, IsReplyTo, Responds}
use Rattle.server_answers.specs.Responding.{AnswersHeld, IsMessage, Serving, TellsAllowed, inputs_for, is_for_keys, may_answer, rcode_of, unsigned}
use Rattle.server_answers.specs.Subset.{AnswersSubset, wants_signatures}
use Rattle.server_answers.specs.Synthesized.{AnswersSynthesized, is_synthesized, keeps_back, reserved}
use Rattle.server_answers.specs.Table.{missing, sign_by, verify_by}
use Rattle.server_answers.specs.World.{World, present_keys, served_in, signing_in}
use Rattle.server_answers.specs.declared.requests.Response.{Response}
use Rattle.server_answers.specs.declared.requests.Response.TheVariants as response
use Rattle.reply_laws.specs.Replies.{AsksOne}
use Rattle.reply_laws.proofs.Messages.{apex_lacks_none, apex_once, zone_lacks_none, zone_once}
use Rattle.reply_laws.proofs.Outcomes.{Agree, Kind, OfKind, Whole, Lacking, Barred, Failing, fault_kind, kind_of, made_agree}

-- ---- what a response says

pub data Said : Type 0 where
  Silence : Said
  Octets : List ℕ → Said
  Wants : List Input → Said

abbrev pub said_by : Response → Said
said_by response.Nothing = Silence
said_by (response.Reply v) = Octets v.items
said_by (response.Sign v) = Wants v.items

-- ---- messages of a server

message_once : (s : Serving) (asked : Asked) (keys ok : Bool) (m n : List ℕ) → IsMessage s asked keys ok m → IsMessage s asked keys ok n → m ≡ n
message_once s asked true true m n p q =
    let w = s.world in
    let own = own_entries s.table in
    apex_once (sign_by s.table) (verify_by s.table) w.zone.apex (second_of s.at) w.life (keys_by_tag s.keys SignsKeys) (key_group w.zone.apex (keys_ttl (served_in w)) (present_keys s.keys)) m n
    (p (sign_by s.table) (verify_by s.table) own).0 (q (sign_by s.table) (verify_by s.table) own).0
message_once s asked true false m n p q =
    let w = s.world in
    apex_once sign_blank verify_blank w.zone.apex (second_of s.at) w.life (keys_by_tag s.keys SignsKeys) (key_group w.zone.apex (keys_ttl (served_in w)) (present_keys s.keys)) m n p.0 q.0
message_once s asked false true m n p q =
    let w = s.world in
    let own = own_entries s.table in
    zone_once (sign_by s.table) (verify_by s.table) w.zone.apex (second_of s.at) w.life (served_in w) (keys_by_tag s.keys (signing_in w asked)) asked m n
    (p.0 (sign_by s.table) (verify_by s.table) own).0 (q.0 (sign_by s.table) (verify_by s.table) own).0
message_once s asked false false m n p q =
    let w = s.world in
    zone_once sign_blank verify_blank w.zone.apex (second_of s.at) w.life (served_in w) (keys_by_tag s.keys (signing_in w asked)) asked m n p.0 q.0

lacks_none : (s : Serving) (asked : Asked) (keys : Bool) (m : List ℕ) → IsMessage s asked keys true m → missing s.table (inputs_for s asked keys) ≡ []
lacks_none s asked true m p =
    let w = s.world in
    apex_lacks_none s.table (verify_by s.table) w.zone.apex (second_of s.at) w.life (keys_by_tag s.keys SignsKeys) (key_group w.zone.apex (keys_ttl (served_in w)) (present_keys s.keys)) m
    (p (sign_by s.table) (verify_by s.table) (own_entries s.table)).0
lacks_none s asked false m p =
    let w = s.world in
    zone_lacks_none s.table (verify_by s.table) w.zone.apex (second_of s.at) w.life (served_in w) (keys_by_tag s.keys (signing_in w asked)) asked m
    (p.0 (sign_by s.table) (verify_by s.table) (own_entries s.table)).0

lacks_none_signed : (s : Serving) (asked : Asked) (keys ok : Bool) (m : List ℕ) → ok ≡ true → IsMessage s asked keys ok m → missing s.table (inputs_for s asked keys) ≡ []
lacks_none_signed s asked keys ok m e p = lacks_none s asked keys m (subst (λ (b : Bool). IsMessage s asked keys b m) e p)

-- what becomes of a message for a question is the same
module _ (s : Serving) (asked : Asked) (keys ok : Bool) where
  abbrev pub IsMade : Kind → Type 0
  IsMade = OfKind (IsMessage s asked keys ok) (missing s.table (inputs_for s asked keys)) ok (may_answer s.world.zone.apex asked keys)

  pub agrees : {A : Type 0} (f : Kind → A) (k l : Kind) (x y : A) → IsMade k → IsMade l → x ≡ f k → y ≡ f l → Agree (f Failing) x y
  agrees f k l x y p q a b =
      made_agree (IsMessage s asked keys ok) (missing s.table (inputs_for s asked keys)) ok (may_answer s.world.zone.apex asked keys)
      (message_once s asked keys ok) (lacks_none_signed s asked keys ok) f k l x y p q a b

  pub fault_made : (f : AnswerFault) → TellsAllowed s.world.zone.apex asked keys f → IsMade (kind_of f)
  fault_made f h = fault_kind (IsMessage s asked keys ok) (missing s.table (inputs_for s asked keys)) ok (may_answer s.world.zone.apex asked keys) f h

-- ---- responses

-- the response of a message, with its glue
abbrev pub response_in : ℕ → ℕ → Queried → List HandedRr → List ℕ → Result Message MessageError → List ℕ
response_in limit size q addresses m (Ok read) = response_of limit size q m read.records (map written_as_handed (glue addresses m))
response_in limit size q addresses m (Err e) = []

abbrev pub glued : ℕ → ℕ → Queried → List HandedRr → List ℕ → List ℕ
glued limit size q addresses m = response_in limit size q addresses m (message pointer_limit m)

glued_is : (limit size : ℕ) (q : Queried) (addresses : List HandedRr) (m octets : List ℕ) → AnswersGlued limit size q addresses m octets → octets ≡ glued limit size q addresses m
glued_is limit size q addresses m octets g =
    let a = g.answers in
    a.2 ∙ ap (response_in limit size q addresses m) (sym a.1)

-- a reply of each kind but of messages and what is missing
abbrev pub failed : ℕ → Queried → ℕ → Said
failed size q rcode = Octets (error_response size q rcode)

abbrev pub said_of : ℕ → Queried → (List ℕ → Said) → Kind → Said
said_of size q whole (Whole m) = whole m
said_of size q whole (Lacking is) = Wants is
said_of size q whole Barred = failed size q 5
said_of size q whole Failing = failed size q 2

fault_said : (size : ℕ) (q : Queried) (whole : List ℕ → Said) (f : AnswerFault) → failed size q (rcode_of f) ≡ said_of size q whole (kind_of f)
fault_said size q whole fault.QuestionNotAllowed = refl
fault_said size q whole fault.HashFailed = refl
fault_said size q whole fault.SignFailed = refl
fault_said size q whole fault.TooLong = refl
fault_said size q whole fault.Memory = refl

-- what is said of a kind that is so
abbrev pub Says : (Kind → Type 0) → ℕ → Queried → (List ℕ → Said) → Response → Type 0
Says Is size q whole x = (k : Kind) × Is k × (said_by x ≡ said_of size q whole k)

-- ---- what the zone holds

abbrev pub glued_said : Serving → Queried → List ℕ → Said
glued_said s q m = Octets (glued s.limit s.size q s.addresses m)

held_says : (s : Serving) (q : Queried) (old new : Option ℕ) (x : Response) → AnswersHeld s q old new x
    → Says (IsMade s q.asked (is_for_keys s.world.zone.apex q.asked) (is_dnssec_ok q)) s.size q (glued_said s q) x
held_says s q old new response.Nothing h = absurd h
held_says s q old new (response.Reply v) (inl h) = (Whole h.m, (h.is_message, h.allowed), ap Octets (glued_is s.limit s.size q s.addresses h.m v.items h.answers))
held_says s q old new (response.Reply v) (inr h) =
    (kind_of h.f, fault_made s q.asked (is_for_keys s.world.zone.apex q.asked) (is_dnssec_ok q) h.f h.tells_allowed, ap Octets h.octets_are ∙ fault_said s.size q (glued_said s q) h.f)
held_says s q old new (response.Sign v) h = (Lacking v.items, (h.0, h.1, h.2, h.4), refl)

-- ---- types that no zone holds

abbrev pub denied_said : Serving → Queried → List ℕ → Said
denied_said s q m = if keeps_back q m then failed s.size q 5 else glued_said s q m

synthesized_says : (s : Serving) (q : Queried) (old new : Option ℕ) (x : Response) → AnswersSynthesized s q old new x
    → Says (IsMade s (reserved q.asked) false (is_dnssec_ok q)) s.size q (denied_said s q) x
synthesized_says s q old new response.Nothing h = absurd h
synthesized_says s q old new (response.Reply v) (inl h) = (
  Whole h.0.m,
  (h.0.is_message, h.0.allowed),
  ap Octets (glued_is s.limit s.size q s.addresses h.0.m v.items h.1) ∙ sym (ap (λ (b : Bool). if b then failed s.size q 5 else glued_said s q h.0.m) h.0.kept_back_is),
)
synthesized_says s q old new (response.Reply v) (inr (inl h)) = (
  Whole h.0.m,
  (h.0.is_message, h.0.allowed),
  ap Octets h.1 ∙ sym (ap (λ (b : Bool). if b then failed s.size q 5 else glued_said s q h.0.m) h.0.kept_back_is),
)
synthesized_says s q old new (response.Reply v) (inr (inr h)) =
    (kind_of h.f, fault_made s (reserved q.asked) false (is_dnssec_ok q) h.f h.tells_allowed, ap Octets h.octets_are ∙ fault_said s.size q (denied_said s q) h.f)
synthesized_says s q old new (response.Sign v) h = (Lacking v.items, (h.0, h.1, h.2, h.4), refl)

-- ---- aliases

abbrev pub alias_said : Serving → Queried → Bool → List ℕ → Said
alias_said s q above m = if above then Octets (unwrap_or (redirect_response s.limit s.size q m) (error_response s.size q 2)) else glued_said s q m

-- the kind of what is made
abbrev pub made_kind : Result Signed AnswerFault → Kind
made_kind (Ok (Given m)) = Whole m.items
made_kind (Ok (Missing v)) = Lacking v.items
made_kind (Err f) = kind_of f

made_said : (s : Serving) (q : Queried) (made : Result Signed AnswerFault) (x : Response) → IsMadeOf s.limit s.size q s.addresses made x → said_by x ≡ said_of s.size q (glued_said s q) (made_kind made)
made_said s q (Ok (Given m)) (response.Reply v) h = ap Octets (glued_is s.limit s.size q s.addresses m.items v.items h)
made_said s q (Ok (Missing is)) (response.Sign v) h = ap (λ u. Wants u.items) h
made_said s q (Err f) (response.Reply v) h = ap Octets h.1 ∙ fault_said s.size q (glued_said s q) f
made_said s q (Ok (Given m)) response.Nothing h = absurd h
made_said s q (Ok (Given m)) (response.Sign v) h = absurd h
made_said s q (Ok (Missing is)) response.Nothing h = absurd h
made_said s q (Ok (Missing is)) (response.Reply v) h = absurd h
made_said s q (Err f) response.Nothing h = absurd h
made_said s q (Err f) (response.Sign v) h = absurd h

-- of a DNAME above the name, or of another RRset
alias_made : (s : Serving) (q : Queried) (made : Result Signed AnswerFault) (x : Response) (above : Bool)
    → MatchBool above (IsMadeRedirect s.limit s.size q s.addresses made x) (IsMadeOf s.limit s.size q s.addresses made x) → said_by x ≡ said_of s.size q (alias_said s q above) (made_kind made)
alias_made s q made x false h = made_said s q made x h
alias_made s q made x true h = redirect_said s q made x h
  where
    redirect_said : (s : Serving) (q : Queried) (made : Result Signed AnswerFault) (x : Response) → IsMadeRedirect s.limit s.size q s.addresses made x → said_by x ≡ said_of s.size q (alias_said s q true) (made_kind made)
    redirect_said s q (Ok (Given m)) (response.Reply v) h = ap Octets h
    redirect_said s q (Ok (Given m)) response.Nothing h = absurd h
    redirect_said s q (Ok (Given m)) (response.Sign v) h = absurd h
    redirect_said s q (Ok (Missing is)) (response.Sign v) h = ap (λ u. Wants u.items) h
    redirect_said s q (Ok (Missing is)) response.Nothing h = absurd h
    redirect_said s q (Ok (Missing is)) (response.Reply v) h = absurd h
    redirect_said s q (Err f) (response.Reply v) h = ap Octets h.1 ∙ fault_said s.size q (alias_said s q true) f
    redirect_said s q (Err f) response.Nothing h = absurd h
    redirect_said s q (Err f) (response.Sign v) h = absurd h

makes_kind : (s : Serving) (asked : Asked) (keys ok : Bool) (old new : Option ℕ) (made : Result Signed AnswerFault) → Makes s asked keys ok old new made → IsMade s asked keys ok (made_kind made)
makes_kind s asked keys ok old new (Ok (Given m)) h = (h.0, h.2)
makes_kind s asked keys ok old new (Ok (Missing v)) h = (h.0, h.1, h.2, h.4)
makes_kind s asked keys ok old new (Err f) h = fault_made s asked keys ok f h.2

alias_says : (s : Serving) (q : Queried) (alias : Asked) (old new : Option ℕ) (x : Response) → AnswersAlias s q alias old new x
    → Says (IsMade s alias false (wants_signatures q)) s.size q (alias_said s q (strictly_above alias.name q.asked.name)) x
alias_says s q alias old new x h =
    (made_kind h.0, makes_kind s alias false (wants_signatures q) old new h.0 h.1, alias_made s q h.0 x (strictly_above alias.name q.asked.name) h.2)

-- ---- the parameters of the zone

both_once : (R : ServedRrset → List ℕ → Type 0) → ((g : ServedRrset) (m n : List ℕ) → R g m → R g n → m ≡ n) → (o : Option ServedRrset) (m n : List ℕ) → OfBoth R o (Some m) → OfBoth R o (Some n) → m ≡ n
both_once R once None m n p q = absurd p
both_once R once (Some g) m n p q = once g m n p q

parameters_once : (s : Serving) (ok : Bool) (m n : List ℕ) → IsParameters s ok m → IsParameters s ok n → m ≡ n
parameters_once s true m n p q =
    let w = s.world in
    let keys = keys_by_tag s.keys SignsZone in
    let own = own_entries s.table in
    both_once (AnswersApex (sign_by s.table) (verify_by s.table) w.zone.apex (second_of s.at) w.life keys) (apex_once (sign_by s.table) (verify_by s.table) w.zone.apex (second_of s.at) w.life keys)
    (parameters_in w) m n (p (sign_by s.table) (verify_by s.table) own).0 (q (sign_by s.table) (verify_by s.table) own).0
parameters_once s false m n p q =
    let w = s.world in
    let keys = keys_by_tag s.keys SignsZone in
    both_once (AnswersApex sign_blank verify_blank w.zone.apex (second_of s.at) w.life keys) (apex_once sign_blank verify_blank w.zone.apex (second_of s.at) w.life keys) (parameters_in w) m n p.0 q.0

both_lack_none : (s : Serving) (keys : List Dnskey) (o : Option ServedRrset) (m : List ℕ) → OfBoth (AnswersApex (sign_by s.table) (verify_by s.table) s.world.zone.apex (second_of s.at) s.world.life keys) o (Some m)
    → missing s.table (option_map_or (λ g. all_inputs s.world.zone.apex (second_of s.at) s.world.life keys (view_of g ∷ [])) o []) ≡ []
both_lack_none s keys None m p = absurd p
both_lack_none s keys (Some g) m p = apex_lacks_none s.table (verify_by s.table) s.world.zone.apex (second_of s.at) s.world.life keys g m p

parameters_lack_none : (s : Serving) (ok : Bool) (m : List ℕ) → ok ≡ true → IsParameters s ok m → missing s.table (parameters_inputs s.world s.keys s.at) ≡ []
parameters_lack_none s ok m e p =
    let there = subst (λ (b : Bool). IsParameters s b m) e p in
    both_lack_none s (keys_by_tag s.keys SignsZone) (parameters_in s.world) m (there (sign_by s.table) (verify_by s.table) (own_entries s.table)).0

-- a question for them is allowed
no_some : (o : Option ServedRrset) (P : ServedRrset → Type 0) → ((g : ServedRrset) → P g → ⊥) → IsSomeAnd o P → ⊥
no_some None P never h = h
no_some (Some g) P never h = never g h

not_barred : (s : Serving) (ok : Bool) → HasNoParameters s ok fault.QuestionNotAllowed → ⊥
not_barred s true h =
    no_some (parameters_in s.world) (λ g. RefusesApex (sign_by s.table) (verify_by s.table) s.world.zone.apex (second_of s.at) s.world.life (keys_by_tag s.keys SignsZone) g fault.QuestionNotAllowed) (λ g r. r.2)
    (h.1 (sign_by s.table) (verify_by s.table) (own_entries s.table))
not_barred s false h =
    no_some (parameters_in s.world) (λ g. RefusesApex sign_blank verify_blank s.world.zone.apex (second_of s.at) s.world.life (keys_by_tag s.keys SignsZone) g fault.QuestionNotAllowed) (λ g r. r.2) h

abbrev pub AreMade : Serving → Bool → Kind → Type 0
AreMade s ok = OfKind (IsParameters s ok) (missing s.table (parameters_inputs s.world s.keys s.at)) ok true

parameters_kind : (s : Serving) (ok : Bool) (made : Result Signed AnswerFault) → MakesParameters s ok made → AreMade s ok (made_kind made)
parameters_kind s ok (Ok (Given m)) h = (h, refl)
parameters_kind s ok (Ok (Missing v)) h = (h.0, h.1, h.2, refl)
parameters_kind s ok (Err fault.QuestionNotAllowed) h = absurd (not_barred s ok h)
parameters_kind s ok (Err fault.HashFailed) h = tt
parameters_kind s ok (Err fault.SignFailed) h = tt
parameters_kind s ok (Err fault.TooLong) h = tt
parameters_kind s ok (Err fault.Memory) h = tt

parameters_say : (s : Serving) (q : Queried) (old new : Option ℕ) (x : Response) → RespondsWithParameters s q old new x → Says (AreMade s (is_dnssec_ok q)) s.size q (glued_said s q) x
parameters_say s q old new x h = (made_kind h.0, parameters_kind s (is_dnssec_ok q) h.0 h.1, made_said s q h.0 x h.2)

-- ---- queries

module _ (s : Serving) (q : Queried) (old new old' new' : Option ℕ) (x y : Response) where
  abbrev pub AreAlike : Type 0
  AreAlike = Agree (failed s.size q 2) (said_by x) (said_by y)

  made_alike : (asked : Asked) (keys ok : Bool) (whole : List ℕ → Said) → Says (IsMade s asked keys ok) s.size q whole x → Says (IsMade s asked keys ok) s.size q whole y → AreAlike
  made_alike asked keys ok whole a b = agrees s asked keys ok (said_of s.size q whole) a.0 b.0 (said_by x) (said_by y) a.1 b.1 a.2 b.2

  parameters_alike : Says (AreMade s (is_dnssec_ok q)) s.size q (glued_said s q) x → Says (AreMade s (is_dnssec_ok q)) s.size q (glued_said s q) y → AreAlike
  parameters_alike a b =
      let ok = is_dnssec_ok q in
      made_agree (IsParameters s ok) (missing s.table (parameters_inputs s.world s.keys s.at)) ok true (parameters_once s ok) (parameters_lack_none s ok)
      (said_of s.size q (glued_said s q)) a.0 b.0 (said_by x) (said_by y) a.1 b.1 a.2 b.2

  one_alike : (b : Bool) → MatchBool b (RespondsWithParameters s q old new x) (AnswersHeld s q old new x) → MatchBool b (RespondsWithParameters s q old' new' y) (AnswersHeld s q old' new' y) → AreAlike
  one_alike true h k = parameters_alike (parameters_say s q old new x h) (parameters_say s q old' new' y k)
  one_alike false h k = made_alike q.asked (is_for_keys s.world.zone.apex q.asked) (is_dnssec_ok q) (glued_said s q) (held_says s q old new x h) (held_says s q old' new' y k)

  other_alike : asks_all q.asked ≡ false → AnswersOther s q old new x → AnswersOther s q old' new' y → AreAlike
  other_alike e h k =
      one_alike (is_for_parameters s.world.zone.apex s.world.zone.mode q.asked)
      (subst (λ (b : Bool). MatchBool b (AnswersSubset s q old new x) (AnswersOne s q old new x)) e h)
      (subst (λ (b : Bool). MatchBool b (AnswersSubset s q old' new' y) (AnswersOne s q old' new' y)) e k)

  itself_alike : asks_all q.asked ≡ false → (b : Bool) → MatchBool b (AnswersSynthesized s q old new x) (AnswersOther s q old new x) → MatchBool b (AnswersSynthesized s q old' new' y) (AnswersOther s q old' new' y) → AreAlike
  itself_alike e true h k = made_alike (reserved q.asked) false (is_dnssec_ok q) (denied_said s q) (synthesized_says s q old new x h) (synthesized_says s q old' new' y k)
  itself_alike e false h k = other_alike e h k

  by_alike : asks_all q.asked ≡ false → (o : Option Asked) → AnswersBy s q old new x o → AnswersBy s q old' new' y o → AreAlike
  by_alike e None h k = itself_alike e (is_synthesized s.world.zone.apex s.world.zone.mode q.asked) h k
  by_alike e (Some alias) h k =
      made_alike alias false (wants_signatures q) (alias_said s q (strictly_above alias.name q.asked.name)) (alias_says s q alias old new x h) (alias_says s q alias old' new' y k)

  pub queried_alike : asks_all q.asked ≡ false → AnswersQueried s q old new x → AnswersQueried s q old' new' y → AreAlike
  queried_alike e h k = by_alike e (alias_of s.world.zone.mode (served_in s.world).zone q.asked) h k

-- ---- requests

abbrev pub refused_said : ℕ → Option RefusedRequest → Said
refused_said size None = Silence
refused_said size (Some r) = Octets (error_octets size r)

refusal_said : (size : ℕ) (refused : Option RefusedRequest) (x : Response) → IsReplyTo size refused x → said_by x ≡ refused_said size refused
refusal_said size None response.Nothing h = refl
refusal_said size (Some r) (response.Reply v) h = ap Octets h
refusal_said size None (response.Reply v) h = absurd h
refusal_said size None (response.Sign v) h = absurd h
refusal_said size (Some r) response.Nothing h = absurd h
refusal_said size (Some r) (response.Sign v) h = absurd h

-- that the server failed is said of a query
abbrev pub HasFailed : ℕ → List ℕ → Said → Type 0
HasFailed size request said = (q : Queried) × (query_at pointer_limit request ≡ Ok q) × (said ≡ failed size q 2)

module _ (s : Serving) (transport : Transport) (request : List ℕ) (old new old' new' : Option ℕ) (x y : Response) where
  abbrev pub SaySame : Type 0
  SaySame = (said_by x ≡ said_by y) ⊎ (HasFailed s.size request (said_by x) ⊎ HasFailed s.size request (said_by y))

  of_query : (q : Queried) → query_at pointer_limit request ≡ Ok q → Agree (failed s.size q 2) (said_by x) (said_by y) → SaySame
  of_query q e (inl same) = inl same
  of_query q e (inr (inl h)) = inr (inl (q, e, h))
  of_query q e (inr (inr h)) = inr (inr (q, e, h))

  read_alike : AsksOne request → (r : Result Queried (Option RefusedRequest)) → query_at pointer_limit request ≡ r → AnswersRead s transport old new x r → AnswersRead s transport old' new' y r → SaySame
  read_alike one (Ok q) e h k = of_query q e (queried_alike (record s { limit = size_limit transport q.edns }) q old new old' new' x y (one q e) h k)
  read_alike one (Err refused) e h k = inl (refusal_said s.size refused x h.0 ∙ sym (refusal_said s.size refused y k.0))

  pub responds_alike : AsksOne request → Responds s transport request old new x → Responds s transport request old' new' y → SaySame
  responds_alike one h k = read_alike one (query_at pointer_limit request) refl h k
