-- Outcomes that are added leave what was shown, and show more.
use Rattle.std.proofs.Common.{◌≡◌, Bor, ℕ, List, [], ◌∷◌, ◌++◌, Option, Some, None, length, map, zero, suc, true, false, refl, ap, sym, subst, ◌∙◌}
use Rattle.std.proofs.lemmas.List.{length-map, map-append}
use Rattle.std.specs.List.{AllByRecursion, slice_get}
use Rattle.std.specs.Option.{IsSome, unwrap_or}
use Rattle.definitions.specs.Dnskey.{Ds}
use Rattle.definitions.specs.Name.{Name}
use Rattle.messages.specs.declared.question.Question.{Question}
use Rattle.messages.specs.Questions.{asked_of}
use Rattle.answer_outcomes.specs.declared.outcome.Outcome.{Outcome}
use Rattle.answer.specs.declared.simulation.results.Shown.{Shown as CodeShown}
use Rattle.answer.specs.declared.simulation.results.Shown.TheVariants as code
use Rattle.answer.specs.Results.{IsThere, Results, octets_of, results, set_of, shown_of}
use Rattle.answer_laws.specs.Simulating.{Shown, OfParent, OfKeys, OfZone}

-- what stands at a place stays there
stays : {X : Type 0} (of : Option Outcome → Option X) → of None ≡ None → (os more : List Outcome) (n : ℕ) → IsSome (of (slice_get os n)) → slice_get (os ++ more) n ≡ slice_get os n
stays of none [] more n h = let no : false ≡ true = subst IsSome none h in cc
stays of none (o ∷ os) more zero h = refl
stays of none (o ∷ os) more (suc n) h = stays of none os more n h

thing_stays : (os more : List Outcome) (s : CodeShown) → IsThere os s → (shown_of (os ++ more) s ≡ shown_of os s) × IsThere (os ++ more) s
thing_stays os more (code.OfParent n) h =
    let e = stays set_of refl os more n h in
    (ap (λ o. OfParent (unwrap_or (set_of o) [])) e, subst (λ (o : Option Outcome). IsSome (set_of o)) (sym e) h)
thing_stays os more (code.OfKeys n) h =
    let e = stays octets_of refl os more n h in
    (ap (λ o. OfKeys (unwrap_or (octets_of o) [])) e, subst (λ (o : Option Outcome). IsSome (octets_of o)) (sym e) h)
thing_stays os more (code.OfZone q n) h =
    let e = stays octets_of refl os more n h in
    (ap (λ o. OfZone (asked_of q.now) (unwrap_or (octets_of o) [])) e, subst (λ (o : Option Outcome). IsSome (octets_of o)) (sym e) h)

things_stay : (os more : List Outcome) (ss : List CodeShown) → AllByRecursion (IsThere os) ss → (map (shown_of (os ++ more)) ss ≡ map (shown_of os) ss) × AllByRecursion (IsThere (os ++ more)) ss
things_stay os more [] h = (refl, tt)
things_stay os more (s ∷ ss) h =
    let first = thing_stays os more s h.0 in
    let others = things_stay os more ss h.1 in
    ((λ i. first.0 i ∷ others.0 i), (first.1, others.1))

-- more outcomes that show nothing
pub more_outcomes : (os new : List Outcome) (ss : List CodeShown) (k : Results) (more : List Outcome) → results os ss ≡ k → AllByRecursion (IsThere os) ss → new ≡ os ++ more → (results new ss ≡ record k { outcomes = k.outcomes ++ more }) × AllByRecursion (IsThere new) ss
more_outcomes os new ss k more v h e =
    let stay = things_stay os more ss h in
    let Seen : Results → Type 0 = λ k. results new ss ≡ record k { outcomes = k.outcomes ++ more } in
    let All : List Outcome → Type 0 = λ os. AllByRecursion (IsThere os) ss in
    (subst Seen v (ap (λ os. results os ss) e ∙ ap (λ shown. record { outcomes = os ++ more; shown = shown }) stay.0), subst All (sym e) stay.1)

all_push : {X : Type 0} (P : X → Type 0) (xs : List X) (x : X) → AllByRecursion P xs → P x → AllByRecursion P (xs ++ x ∷ [])
all_push P [] x h p = (p, tt)
all_push P (y ∷ xs) x h p = (h.0, all_push P xs x h.1 p)

-- a thing stands there as what it is
abbrev pub IsThereAs : List Outcome → CodeShown → Shown → Type 0
IsThereAs os s t = (shown_of os s ≡ t) × IsThere os s

-- one outcome more, which shows a thing at the next place
pub one_shown : (os new : List Outcome) (ss more : List CodeShown) (k : Results) (of : ℕ → Outcome) (place : ℕ) (s : CodeShown) (t : Shown) → results os ss ≡ k → AllByRecursion (IsThere os) ss → place ≡ length ss → new ≡ os ++ of place ∷ [] → more ≡ ss ++ s ∷ [] → IsThereAs (os ++ of place ∷ []) s t → (results new more ≡ record { outcomes = k.outcomes ++ of (length k.shown) ∷ []; shown = k.shown ++ t ∷ [] }) × AllByRecursion (IsThere new) more
one_shown os new ss more k of place s t v h p e f g =
    let all = os ++ of place ∷ [] in
    let stay = things_stay os (of place ∷ []) ss h in
    let Seen : Results → Type 0 = λ k. results new more ≡ record { outcomes = k.outcomes ++ of (length k.shown) ∷ []; shown = k.shown ++ t ∷ [] } in
    let All : List Outcome → List CodeShown → Type 0 = λ os ss. AllByRecursion (IsThere os) ss in
    let next : place ≡ length (map (shown_of os) ss) = p ∙ sym (length-map ss (shown_of os)) in
    let things : map (shown_of all) (ss ++ s ∷ []) ≡ map (shown_of os) ss ++ t ∷ [] = map-append (shown_of all) ss (s ∷ []) ∙ (λ i. stay.0 i ++ g.0 i ∷ []) in
    let seen = (λ i. results (e i) (f i)) ∙ (λ i. record { outcomes = os ++ of (next i) ∷ []; shown = things i }) in
    (subst Seen v seen, subst (λ (os : List Outcome). All os more) (sym e) (subst (All all) (sym f) (all_push (IsThere all) ss s stay.1 g.1)))

at_end : (os : List Outcome) (o : Outcome) → slice_get (os ++ o ∷ []) (length os) ≡ Some o
at_end [] o = refl
at_end (p ∷ os) o = at_end os o

-- the outcome that is added stands at the end
last_is : {X : Type 0} (of : Option Outcome → Option X) (os : List Outcome) (o : Outcome) (n : ℕ) (x : X) → of (Some o) ≡ Some x → n ≡ length os → of (slice_get (os ++ o ∷ []) n) ≡ Some x
last_is of os o n x h e = ap (λ n. of (slice_get (os ++ o ∷ []) n)) e ∙ (ap of (at_end os o) ∙ h)

pub last_set : (os : List Outcome) (o : Outcome) (n : ℕ) (set : List Ds) → set_of (Some o) ≡ Some set → n ≡ length os → IsThereAs (os ++ o ∷ []) (code.OfParent n) (OfParent set)
last_set os o n set h e =
    let there = last_is set_of os o n set h e in
    (ap (λ s. OfParent (unwrap_or s [])) there, subst IsSome (sym there) refl)

pub last_keys : (os : List Outcome) (o : Outcome) (n : ℕ) (octets : List ℕ) → octets_of (Some o) ≡ Some octets → n ≡ length os → IsThereAs (os ++ o ∷ []) (code.OfKeys n) (OfKeys octets)
last_keys os o n octets h e =
    let there = last_is octets_of os o n octets h e in
    (ap (λ s. OfKeys (unwrap_or s [])) there, subst IsSome (sym there) refl)

pub last_answer : (os : List Outcome) (o : Outcome) (q : Bor (Question Name)) (n : ℕ) (octets : List ℕ) → octets_of (Some o) ≡ Some octets → n ≡ length os → IsThereAs (os ++ o ∷ []) (code.OfZone q n) (OfZone (asked_of q.now) octets)
last_answer os o q n octets h e =
    let there = last_is octets_of os o n octets h e in
    (ap (λ s. OfZone (asked_of q.now) (unwrap_or s [])) there, subst IsSome (sym there) refl)
