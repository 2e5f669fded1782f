-- What a server's contracts say, as what happens in a life.
use Rattle.std.proofs.Common.{◌≡◌, ℕ, Bool, true, false, ◌&&◌, ◌||◌, List, [], ◌∷◌, refl, sym, ap, subst, ◌∙◌, inl, inr}
use Rattle.std.specs.Prelude.{MatchBool, ◌==◌}
use Rattle.std.proofs.lemmas.Bool.{or_cases, false≢true}
use Rattle.definitions.specs.Name.{Name, at_or_above}
use Rattle.messages.specs.HandedRr.{among}
use Rattle.messages.specs.Message.{Asked}
use Rattle.answer_terms.specs.Asking.{asks_alias, is_allowed}
use Rattle.answer_publisher_keys.specs.Bindings.{ZoneKeys}
use Rattle.server_responses.specs.Responses.{is_dnssec_ok}
use Rattle.server_signatures.specs.Outcomes.{AnswersEach}
use Rattle.server_answers.specs.Aliases.{for_type, is_answered}
use Rattle.server_answers.specs.Listed.{listed}
use Rattle.server_answers.specs.Responding.{IsMessage, Serving, is_for_keys, may_answer}
use Rattle.server_answers.specs.Subset.{IsChosen, IsFirst, IsHeld, is_no_data}
use Rattle.server_answers.specs.Synthesized.{reserved}
use Rattle.server_answers.specs.World.{World}
use Rattle.server_zone.specs.StateLines.{Nothing, Added, Replaced, Called, Other}
use Rattle.server_zone.specs.declared.open_zone.Applied.TheVariants as applied
use Rattle.served_lives.specs.Made.{AcceptedLinesAreTaken, PlainListsAreAccepted, ResponsesAreOfAnswers, Held, Denied, Chosen}

pub accepted_lines_taken : AcceptedLinesAreTaken
accepted_lines_taken digest hash latest st t Nothing applied.Nothing f = f
accepted_lines_taken digest hash latest st t (Added r) applied.Gathered f = f
accepted_lines_taken digest hash latest st t (Replaced at) applied.Replaced f = (refl, f.1, f.2, f.3)
accepted_lines_taken digest hash latest st t (Called at c) (applied.Actions actions) f = f
accepted_lines_taken digest hash latest st t Nothing _ f = absurd f
accepted_lines_taken digest hash latest st t (Added r) _ f = absurd f
accepted_lines_taken digest hash latest st t (Replaced at) _ f = absurd f
accepted_lines_taken digest hash latest st t (Called at c) _ f = absurd f
accepted_lines_taken digest hash latest st t Other _ f = absurd f

pub plain_lists_accepted : PlainListsAreAccepted
plain_lists_accepted hash apex mode limit rs a plain = record {
  faultless = record {
    of_class_in = a.faultless.plain.of_class_in;
    inside = a.faultless.plain.inside;
    unsigned = a.faultless.plain.unsigned;
    no_alias = plain;
    known = a.faultless.plain.known;
    no_star_delegation = a.faultless.plain.no_star_delegation;
    within_limit = a.faultless.within_limit;
  };
  soa = a.chained.soa;
  ttls = a.chained.ttls;
  chain = a.chained.chain;
}

-- ---- questions

-- a question that is answered, and is not for an alias, is allowed
allowed : (apex : Name) (a : Asked) → among (5 ∷ 39 ∷ []) a.rtype ≡ false → is_answered apex a ≡ true → is_allowed apex a ≡ true
allowed apex a plain h = elim (or_cases (is_allowed apex a) (asks_alias apex a) h) [
  | inl e ↦ e
  | inr e ↦ absurd (false≢true (sym (ap (λ b. b && (a.class == 1) && at_or_above apex a.name) plain) ∙ e))
]

-- the type that is chosen is allowed where the reserved one is
first_allowed : (w : World) (keys : ZoneKeys) (at : ℕ) (a : Asked) (us : List ℕ) (t : ℕ) → is_allowed w.zone.apex (for_type 65535 a) ≡ true → IsFirst w keys at a us t → is_allowed w.zone.apex (for_type t a) ≡ true
first_allowed w keys at a [] t k f = subst (λ u. is_allowed w.zone.apex (for_type u a) ≡ true) (sym f) k
first_allowed w keys at a (u ∷ us) t k f = go f.0 f.1 f.2 (first_allowed w keys at a us t k)
  where
    go : (b : Bool) → IsHeld w keys at (for_type u a) b → MatchBool b (t ≡ u) (IsFirst w keys at a us t) → (IsFirst w keys at a us t → is_allowed w.zone.apex (for_type t a) ≡ true) → is_allowed w.zone.apex (for_type t a) ≡ true
    go true held is rest = subst (λ x. is_allowed w.zone.apex (for_type x a) ≡ true) (sym is) held.1.0
    go false held later rest = rest later

chosen_allowed : (w : World) (keys : ZoneKeys) (at : ℕ) (a : Asked) (t : ℕ) → IsChosen w keys at a t → is_allowed w.zone.apex (for_type t a) ≡ true
chosen_allowed w keys at a t c = go (is_no_data c.0) c.2
  where
    go : (b : Bool) → MatchBool b (IsFirst w keys at a (listed c.0) t) (t ≡ 65535) → is_allowed w.zone.apex (for_type t a) ≡ true
    go true first = first_allowed w keys at a (listed c.0) t c.1.0 first
    go false is = subst (λ u. is_allowed w.zone.apex (for_type u a) ≡ true) (sym is) c.1.0

-- ---- responses

-- of this question and this message, if of those that they are
moved : (s : Serving) (a b : Asked) (m n : List ℕ) → a ≡ b → m ≡ n → (is_allowed s.world.zone.apex b ≡ true) × AnswersEach s.table s.world s.keys s.at b n
    → (is_allowed s.world.zone.apex a ≡ true) × AnswersEach s.table s.world s.keys s.at a m
moved s a b m n e f k =
    subst (λ x. (is_allowed s.world.zone.apex a ≡ true) × AnswersEach s.table s.world s.keys s.at a x) (sym f)
    (subst (λ x. (is_allowed s.world.zone.apex x ≡ true) × AnswersEach s.table s.world s.keys s.at x n) (sym e) k)

signed : (s : Serving) (a : Asked) (keys ok : Bool) (m : List ℕ) → keys ≡ false → ok ≡ true → IsMessage s a keys ok m → AnswersEach s.table s.world s.keys s.at a m
signed s a keys ok m k o h = subst (λ b. IsMessage s a false b m) o (subst (λ b. IsMessage s a b ok m) k h)

pub responses_of_answers : ResponsesAreOfAnswers
responses_of_answers s q octets asked m ok (Held old new r keys plain a e) =
    let apex : Name = s.world.zone.apex in
    let answered : is_answered apex q.asked ≡ true = subst (λ b. may_answer apex q.asked b ≡ true) keys r.allowed in
    moved s asked q.asked m r.m a e (allowed apex q.asked plain answered, signed s q.asked (is_for_keys apex q.asked) (is_dnssec_ok q) r.m keys ok r.is_message)
responses_of_answers s q octets asked m ok (Denied old new r a e) =
    moved s asked (reserved q.asked) m r.0.m a e
    (allowed s.world.zone.apex (reserved q.asked) refl r.0.allowed, signed s (reserved q.asked) false (is_dnssec_ok q) r.0.m refl ok r.0.is_message)
responses_of_answers s q octets asked m ok (Chosen old new r a e) =
    moved s asked (for_type r.t q.asked) m r.m a e (
      chosen_allowed s.world s.keys s.at q.asked r.t r.chosen,
      signed s (for_type r.t q.asked) false (is_dnssec_ok q || (q.asked.rtype == 46)) r.m refl (ap (λ b. b || (q.asked.rtype == 46)) ok) r.is_message,
    )
