-- Messages for the type that is chosen where all are asked for, and what becomes of them.
use Rattle.std.proofs.Common.{◌≡◌, ◌∙◌, ℕ, ◌+◌, ◌<◌, ◌≤◌, Bool, true, false, ◌||◌, List, [], ◌∷◌, Vec, length, drop, get_or, max, refl, sym, ap, subst, inl, inr, arith}
use Rattle.std.specs.declared.alloc.Global.{Global}
use Rattle.std.specs.Prelude.{◌≢◌, ◌↔◌, MatchBool, Option, Some, None, Result, Ok, Err, IfErr, IfOk, IsErrOf, OnErr, OnOk}
use Rattle.std.specs.Result.{is_err}
use Rattle.std.proofs.lemmas.Bool.{false≢true}
use Rattle.std.proofs.lemmas.List.{drop_all, drop_more}
use Rattle.definitions.specs.Name.{Name}
use Rattle.messages.specs.Message.{Asked}
use Rattle.messages.specs.Questions.{asked_of}
use Rattle.messages.specs.declared.question.Question.{Question}
use Rattle.answer_publisher_keys.specs.Bindings.{ZoneKeys}
use Rattle.answer_terms.specs.Asking.{asks_alias, is_allowed}
use Rattle.answer_publisher.specs.Inputs.{Input}
use Rattle.answer_publisher.specs.Replacing.{noted, whole_second}
use Rattle.answer_publisher.specs.World.{RefusesQuestion, World}
use Rattle.answer_publisher.specs.declared.fault.AnswerFault.{AnswerFault}
use Rattle.answer_publisher.specs.declared.fault.AnswerFault.TheVariants as fault
use Rattle.answer_publisher.specs.declared.publishing.Publisher.{Publisher}
use Rattle.server_queries.specs.Queries.{Queried}
use Rattle.server_signatures.specs.declared.answering.Signed.{Signed}
use Rattle.server_signatures.specs.declared.answering.Signed.TheVariants as signed
use Rattle.server_answers.specs.Listed.{listed}
use Rattle.server_answers.specs.MadeOf.{IsMadeOf, ReadsWhole}
use Rattle.server_answers.specs.Messages.{Makes}
use Rattle.server_answers.specs.Moments.{IsOrWasNoted}
use Rattle.server_answers.specs.Responding.{Serving, TellsAllowed, may_answer, unsigned}
use Rattle.answer_publisher.specs.Aliases.{for_type}
use Rattle.server_answers.specs.Subset.{AnswersSubset, IsBare, IsChosen, IsFirst, IsHeld, MakesSubset, TellsInside, is_memory, is_no_data, wants_signatures}
use Rattle.server_answers.specs.Synthesized.{has_answers}
use Rattle.server_answers.specs.declared.requests.Response.{Response}
use Rattle.server_answers.specs.declared.requests.Response.TheVariants as response
use Rattle.server_answers.proofs.Making.{is_read, rest_of}

-- ---- moments that are noted again

max_again : (m n : ℕ) → max (max m n) n ≡ max m n
max_again m n = omega arith

max_itself : (n : ℕ) → max n n ≡ n
max_itself n = omega arith

pub noted_again : (l : Option ℕ) (at : ℕ) → noted (noted l at) at ≡ noted l at
noted_again None at = ap Some (max_itself (whole_second at))
noted_again (Some l) at = ap Some (max_again l (whole_second at))

-- what was noted, noted once more or not
pub still_noted : (at : ℕ) (old mid new : Option ℕ) → mid ≡ noted old at → new ≡ noted mid at → new ≡ noted old at
still_noted at old mid new e f = f ∙ ap (λ l. noted l at) e ∙ noted_again old at

-- ---- publishers

-- of which nothing but the latest second is another, and that neither
pub same_publisher : {S H : Type 0} (p q : Publisher S H) → q ≡ record p { latest = q.latest } → q.latest ≡ p.latest → q ≡ p
same_publisher p q e f = e ∙ ap (λ (l : Option ℕ). record p { latest = l }) f

pub rest_either : {S H T E : Type 0} (p q : Publisher S H) (l : Option ℕ) (r : Result T E) → OnOk r (q ≡ record p { latest = l }) → OnErr r (q ≡ p) → q ≡ record p { latest = q.latest }
rest_either p q l (Ok x) e f = rest_of p q l e
rest_either p q l (Err x) e f = rest_of p q p.latest f

pub latest_ok : {S H T E : Type 0} (p q : Publisher S H) (l : Option ℕ) (r : Result T E) → OnOk r (q ≡ record p { latest = l }) → OnOk r (q.latest ≡ l)
latest_ok p q l (Ok x) e = ap (λ x. x.latest) e
latest_ok p q l (Err x) e = tt

pub latest_err : {S H T E : Type 0} (p q : Publisher S H) (r : Result T E) → OnErr r (q ≡ p) → OnErr r (q.latest ≡ p.latest)
latest_err p q (Ok x) e = tt
latest_err p q (Err x) e = ap (λ x. x.latest) e

pub of_ok : {T E P : Type 0} (r : Result T E) → P → OnOk r P
of_ok (Ok x) p = p
of_ok (Err e) p = tt

-- a fault that is want of memory alone
pub memory_alone : {T : Type 0} (P : AnswerFault → Type 0) (r : Result T AnswerFault) → IfErr r (λ f. f ≡ fault.Memory) → IfErr r (λ f. f ≢ fault.Memory → P f)
memory_alone P (Ok x) h = tt
memory_alone P (Err f) h = λ other. absurd (other h)

-- ---- messages without signatures

pub bare_by : (r : Result (Vec ℕ Global) AnswerFault) (allowed : Bool) (P Q : List ℕ → Type 0) → (IsErrOf r fault.QuestionNotAllowed ↔ (allowed ≡ false)) → IfOk r (λ m. P m.items) → IfOk r (λ m. Q m.items)
    → IfOk r (λ m. (allowed ≡ true) × P m.items × Q m.items)
bare_by (Ok m) true P Q iff p q = (refl, p, q)
bare_by (Ok m) false P Q iff p q = absurd (false≢true (ap is_err (iff.1 refl)))
bare_by (Err f) allowed P Q iff p q = tt

pub other_fault : (f : AnswerFault) → is_memory f ≡ false → f ≢ fault.Memory
other_fault f other e = false≢true (sym other ∙ ap is_memory e)

pub memory_fault : (f : AnswerFault) → is_memory f ≡ true → f ≡ fault.Memory
memory_fault fault.Memory e = refl
memory_fault fault.QuestionNotAllowed e = absurd (false≢true e)
memory_fault fault.HashFailed e = absurd (false≢true e)
memory_fault fault.SignFailed e = absurd (false≢true e)
memory_fault fault.TooLong e = absurd (false≢true e)

module _ (w : World) (keys : ZoneKeys) (at : ℕ) where
  pub held_by : (a : Asked) (m : List ℕ) → IsBare w keys at a m → (b : Bool) → has_answers m ≡ b → IsHeld w keys at a b
  held_by a m bare true e = (m, bare, e)
  held_by a m bare false e = inl (m, bare, e)

  pub not_held : (a : Asked) (f : AnswerFault) → RefusesQuestion (unsigned w) keys at a f → is_memory f ≡ false → IsHeld w keys at a false
  not_held a f refuses other = inr (f, refuses, other_fault f other)

  -- ---- the first of some types

  abbrev pub FirstOf : Asked → List ℕ → List ℕ → Type 0
  FirstOf a left all = (t : ℕ) → IsFirst w keys at a left t → IsFirst w keys at a all t

  abbrev pub held_asked : Name → ℕ → ℕ → Asked
  held_asked name u class = record { name = name; rtype = u; class = class }

  module _ (q r : Question Name) (us : List ℕ) (i u : ℕ) (inside : i < length us) (is : u ≡ get_or us i u) (first : FirstOf (asked_of q) (drop i us) us) (name : r.name ≡ q.name) (class : r.class ≡ q.class) where
    at_place : drop i us ≡ u ∷ drop (i + 1) us
    at_place = drop_more us i u inside ∙ ap (λ (v : ℕ). v ∷ drop (i + 1) us) (sym is)

    same_question : (b : Bool) → IsHeld w keys at (held_asked r.name u r.class) b → IsHeld w keys at (for_type u (asked_of q)) b
    same_question b held = subst (λ (a : Asked). IsHeld w keys at a b) (λ j. record { name = name j; rtype = u; class = class j }) held

    pub is_first : (b : Bool) → IsHeld w keys at (held_asked r.name u r.class) b → b ≡ true → IsFirst w keys at (asked_of q) us u
    is_first b held e =
        first u (subst (λ (vs : List ℕ). IsFirst w keys at (asked_of q) vs u) (sym at_place)
        (true, subst (IsHeld w keys at (for_type u (asked_of q))) e (same_question b held), refl))

    pub passed : (b : Bool) → IsHeld w keys at (held_asked r.name u r.class) b → b ≡ false → FirstOf (asked_of q) (drop (i + 1) us) us
    passed b held e t rest =
        first t (subst (λ (vs : List ℕ). IsFirst w keys at (asked_of q) vs t) (sym at_place)
        (false, subst (IsHeld w keys at (for_type u (asked_of q))) e (same_question b held), rest))

  pub none_first : (a : Asked) (us : List ℕ) (i t : ℕ) → length us ≤ i → FirstOf a (drop i us) us → t ≡ 65535 → IsFirst w keys at a us t
  none_first a us i t past first e = first t (subst (λ (vs : List ℕ). IsFirst w keys at a vs t) (sym (drop_all i us past)) e)

  -- ---- the type that is chosen

  module _ (a : Asked) (x : ℕ) (m : List ℕ) (reserved : x ≡ 65535) (bare : IsBare w keys at (for_type x a) m) (t : ℕ) where
    there : IsBare w keys at (for_type 65535 a) m
    there = subst (λ (k : ℕ). IsBare w keys at (for_type k a) m) reserved bare

    by_denial : (b : Bool) → MatchBool b (IsFirst w keys at (for_type x a) (listed m) t) (t ≡ x) → MatchBool b (IsFirst w keys at (for_type 65535 a) (listed m) t) (t ≡ 65535)
    by_denial true first = subst (λ (k : ℕ). IsFirst w keys at (for_type k a) (listed m) t) reserved first
    by_denial false same = same ∙ reserved

    pub is_chosen : MatchBool (is_no_data m) (IsFirst w keys at (for_type x a) (listed m) t) (t ≡ x) → IsChosen w keys at a t
    is_chosen h = (m, there, by_denial (is_no_data m) h)

    pub chosen_where : {T E : Type 0} (r : Result T E) → OnOk r (MatchBool (is_no_data m) (IsFirst w keys at (for_type x a) (listed m) t) (t ≡ x)) → OnOk r (IsChosen w keys at a t)
    chosen_where (Ok y) h = is_chosen h
    chosen_where (Err e) h = tt

  pub listed_first : {T E : Type 0} (r : Result T E) (a : Asked) (m us : List ℕ) (t x : ℕ) → is_no_data m ≡ true → us ≡ listed m → OnOk r (IsFirst w keys at a us t)
      → OnOk r (MatchBool (is_no_data m) (IsFirst w keys at a (listed m) t) (t ≡ x))
  listed_first (Ok y) a m us t x none is first =
      subst (λ (b : Bool). MatchBool b (IsFirst w keys at a (listed m) t) (t ≡ x)) (sym none) (subst (λ (vs : List ℕ). IsFirst w keys at a vs t) is first)
  listed_first (Err e) a m us t x none is first = tt

  pub listed_none : (a : Asked) (m : List ℕ) (t : ℕ) → is_no_data m ≡ false → MatchBool (is_no_data m) (IsFirst w keys at a (listed m) t) (t ≡ t)
  listed_none a m t none = subst (λ (b : Bool). MatchBool b (IsFirst w keys at a (listed m) t) (t ≡ t)) (sym none) refl

  -- ---- a question for the type that is chosen is allowed

  of_type : (r : Asked) (u t : ℕ) → t ≡ u → is_allowed w.zone.apex (for_type u r) ≡ true → is_allowed w.zone.apex (for_type t r) ≡ true
  of_type r u t same e = subst (λ (k : ℕ). is_allowed w.zone.apex (for_type k r) ≡ true) (sym same) e

  by_held : (r : Asked) (u t : ℕ) (us : List ℕ) (b : Bool) → IsHeld w keys at (for_type u r) b → MatchBool b (t ≡ u) (IsFirst w keys at r us t)
      → (IsFirst w keys at r us t → is_allowed w.zone.apex (for_type t r) ≡ true) → is_allowed w.zone.apex (for_type t r) ≡ true
  by_held r u t us true held same later = of_type r u t same held.1.0
  by_held r u t us false held rest later = later rest

  first_allowed : (r : Asked) (us : List ℕ) (t : ℕ) → is_allowed w.zone.apex (for_type 65535 r) ≡ true → IsFirst w keys at r us t → is_allowed w.zone.apex (for_type t r) ≡ true
  first_allowed r [] t e same = of_type r 65535 t same e
  first_allowed r (u ∷ us) t e first = by_held r u t us first.0 first.1 first.2 (λ rest. first_allowed r us t e rest)

  by_listed : (a : Asked) (us : List ℕ) (t : ℕ) (b : Bool) → is_allowed w.zone.apex (for_type 65535 a) ≡ true → MatchBool b (IsFirst w keys at (for_type 65535 a) us t) (t ≡ 65535)
      → is_allowed w.zone.apex (for_type t a) ≡ true
  by_listed a us t true e first = first_allowed (for_type 65535 a) us t e first
  by_listed a us t false e same = of_type a 65535 t same e

  pub chosen_allowed : (a : Asked) (t : ℕ) → IsChosen w keys at a t → is_allowed w.zone.apex (for_type t a) ≡ true
  chosen_allowed a t chosen = by_listed a (listed chosen.0) t (is_no_data chosen.0) chosen.1.0 chosen.2

-- a fault of a message for the reserved type
pub tells_inside : {T : Type 0} (apex : Name) (a : Asked) (x : ℕ) (f : AnswerFault) → x ≡ 65535 → (IsErrOf {T = T} (Err f) fault.QuestionNotAllowed ↔ (is_allowed apex (for_type x a) ≡ false)) → TellsInside apex a f
tells_inside apex a x f reserved iff =
    subst (λ (k : ℕ). (f ≡ fault.QuestionNotAllowed) ↔ (is_allowed apex (for_type k a) ≡ false)) reserved ((λ e. iff.0 (ap Err e)), (λ none. let e = iff.1 none in cc))

-- one of a message for the type that is chosen, where the question is allowed, is another
chosen_inside : (s : Serving) (a : Asked) (t : ℕ) (f : AnswerFault) → IsChosen s.world s.keys s.at a t → TellsAllowed s.world.zone.apex (for_type t a) false f → TellsInside s.world.zone.apex a f
chosen_inside s a t f chosen tells =
    let asked = for_type t a in
    let may : may_answer s.world.zone.apex asked false ≡ true = ap (λ (b : Bool). b || asks_alias s.world.zone.apex asked) (chosen_allowed s.world s.keys s.at a t chosen) in
    ((λ e. absurd (false≢true (sym (tells.0 e) ∙ may))), (λ none. absurd (false≢true (sym none ∙ chosen.1.0))))

-- a question of the same name and class
pub asked_same : (q r : Question Name) → r.name ≡ q.name → r.class ≡ q.class → asked_of r ≡ for_type r.rtype (asked_of q)
asked_same q r name class = λ j. record { name = name j; rtype = r.rtype; class = class j }

-- ---- what is made for it

pub subset_made : (s : Serving) (a : Asked) (t : ℕ) (signs : Bool) (old mid new : Option ℕ) (r : Result Signed AnswerFault) → IsChosen s.world s.keys s.at a t → mid ≡ noted old s.at → Makes s (for_type t a) false signs mid new r
    → MakesSubset s a signs old new r
subset_made s a t signs old mid new (Ok (signed.Message m)) chosen was h = (t, chosen, h.0, still_noted s.at old mid new was h.1)
subset_made s a t signs old mid new (Ok (signed.Missing v)) chosen was h = (t, chosen, h.0, h.1, h.2, h.3 ∙ was)
subset_made s a t signs old mid new (Err f) chosen was h = (inr (h.1 ∙ was), λ other. (inr (t, chosen, h.0), chosen_inside s a t f chosen h.2))

pub subset_unmade : (s : Serving) (a : Asked) (signs : Bool) (old new : Option ℕ) (f : AnswerFault) → (f ≢ fault.Memory → RefusesQuestion (unsigned s.world) s.keys s.at (for_type 65535 a) f) → (f ≢ fault.Memory → TellsInside s.world.zone.apex a f)
    → IsOrWasNoted s.at old new → MakesSubset s a signs old new (Err f)
subset_unmade s a signs old new f refuses tells was = (was, λ other. (inl (refuses other), tells other))

-- ---- what becomes of it

module _ (s : Serving) (a : Asked) (signs : Bool) (old new : Option ℕ) where
  pub subset_reads : (r : Result Signed AnswerFault) → MakesSubset s a signs old new r → IfOk r ReadsWhole
  subset_reads (Ok (signed.Message m)) h = is_read s (for_type h.0 a) false signs m.items h.2
  subset_reads (Ok (signed.Missing v)) h = tt
  subset_reads (Err f) h = tt

  pub subset_was : (r : Result Signed AnswerFault) → MakesSubset s a signs old new r → IsOrWasNoted s.at old new
  subset_was (Ok (signed.Message m)) h = inr h.3
  subset_was (Ok (signed.Missing v)) h = inr h.5
  subset_was (Err f) h = h.0

module _ (s : Serving) (q : Queried) (old new : Option ℕ) where
  pub subset_answered : (made : Result Signed AnswerFault) (r : Response) → MakesSubset s q.asked (wants_signatures q) old new made → IsMadeOf s.limit s.size q s.addresses made r → AnswersSubset s q old new r
  subset_answered (Ok (signed.Message m)) (response.Reply v) h k = inl (record { t = h.0; chosen = h.1; m = m.items; is_message = h.2; answers = k; noted_is = h.3 })
  subset_answered (Ok (signed.Message m)) response.Nothing h k = absurd k
  subset_answered (Ok (signed.Message m)) (response.Sign v) h k = absurd k
  subset_answered (Ok (signed.Missing inputs)) (response.Sign v) h k =
      let is : v.items ≡ inputs.items = ap (λ x. x.items) k in
      (h.0, h.1, h.2, is ∙ h.3, subst (λ (l : List Input). 0 < length l) (sym is) h.4, h.5)
  subset_answered (Ok (signed.Missing inputs)) response.Nothing h k = absurd k
  subset_answered (Ok (signed.Missing inputs)) (response.Reply v) h k = absurd k
  subset_answered (Err f) (response.Reply v) h k = inr (record { f = f; unchosen = (h.1 k.0).0; tells_inside = (h.1 k.0).1; enough_memory = k.0; octets_are = k.1; noted_is = h.0 })
  subset_answered (Err f) response.Nothing h k = absurd k
  subset_answered (Err f) (response.Sign v) h k = absurd k
