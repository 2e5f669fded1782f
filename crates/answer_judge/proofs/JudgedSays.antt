-- Where a judge says a verdict beside a DS set that isn't empty: both messages read, a trusted key signs the keys, and what is
-- verified of the answer decides it.
use Rattle.std.proofs.Common.{◌≡◌, ℕ, Bool, true, false, not, ◌&&◌, List, [], ◌∷◌, length, filter, Option, Some, None, Result, Ok, Err, refl, sym, ap, ◌∙◌, arith}
use Rattle.std.specs.Prelude.{nat_eq, if◌then◌else◌}
use Rattle.std.proofs.lemmas.Bool.{ne_eqb}
use Rattle.definitions.specs.Dnskey.{Ds}
use Rattle.definitions.specs.Zone.{Verdict}
use Rattle.denial_laws.specs.Facts.{Facts}
use Rattle.messages.specs.declared.error.MessageError.{MessageError}
use Rattle.messages.specs.Message.{Message, message}
use Rattle.answer_scheme.specs.Answers.{Answers}
use Rattle.answer_judge.specs.declared.verdict.Refusal.{Refusal}
use Rattle.answer_judge.specs.declared.verdict.Refusal.TheVariants as r
use Rattle.answer_judge_facts.specs.Trusted.{is_usable}
use Rattle.answer_judge.specs.Judged.{are_mixed, has_unlike_times, are_over, by_facts, decided_by, facts_in, ds_authenticates_keys, is_unhashed, judged, judged_answer, judged_bytes, judged_facts, judged_messages, keys_of}
use Rattle.answer_judge.specs.Judging.{Answer, JudgeInput, Refuses, Says, first_refusal, is_judged}

-- the facts of the answer, under the usable keys
abbrev pub facts_of : Answers → ℕ → JudgeInput → Message → Message → Facts
facts_of a k h keys answer = facts_in a k h (filter is_usable (keys_of h keys)) answer

pub record IsSaid (a : Answers) (k : ℕ) (h : JudgeInput) (v : Verdict) : Type 0 where
  pub keys : Message
  pub answer : Message
  pub keys_read : message k h.dnskey_bytes ≡ Ok keys
  pub answer_read : message k h.answer_bytes ≡ Ok answer
  pub asked : is_judged h ≡ true
  pub chained : ds_authenticates_keys a k h keys ≡ true
  pub of_one_moment : (h.one_moment && has_unlike_times a k h (filter is_usable (keys_of h keys)) answer) ≡ false
  pub decided : decided_by a h (facts_of a k h keys answer) ≡ Some v

said_is : (v w : Verdict) → Says v ≡ Says w → v ≡ w
said_is v w e = cc

not_refused : (e : Refusal) (v : Verdict) → Refuses e ≡ Says v → ⊥
not_refused e v h = cc

unless : (b : Bool) (e : Refusal) (x : Answer) (v : Verdict) → (if b then Refuses e else x) ≡ Says v → x ≡ Says v
unless true e x v h = absurd (not_refused e v h)
unless false e x v h = h

not_so : (b : Bool) (e : Refusal) (x : Answer) (v : Verdict) → (if b then Refuses e else x) ≡ Says v → b ≡ false
not_so true e x v h = absurd (not_refused e v h)
not_so false e x v h = refl

by_some : (o : Option Verdict) (v : Verdict) → by_facts o ≡ Says v → o ≡ Some v
by_some None v h = absurd (not_refused r.NotProven v h)
by_some (Some w) v h = ap Some (said_is w v h)

facts_decide : (a : Answers) (h : JudgeInput) (f : Facts) (v : Verdict) → judged_facts a h f ≡ Says v → decided_by a h f ≡ Some v
facts_decide a h f v e =
    let mixed = unless (are_mixed f.hash_links) r.MixedNsec3Parameters _ v e in
    let over = unless (are_over h.limit f.hash_links) r.IterationsOverLimit _ v mixed in
    by_some (decided_by a h f) v (unless (is_unhashed a h f) r.HashFailed _ v over)

not_first : (o : Option Refusal) (x : Answer) (v : Verdict) → elim o as (λ _. Answer) [ Some e ↦ Refuses e | None ↦ x ] ≡ Says v → (o ≡ None) × (x ≡ Says v)
not_first None x v h = (refl, h)
not_first (Some e) x v h = absurd (not_refused e v h)

asked_first : (b : Bool) (later : Option Refusal) → (if not b then Some r.QuestionNotAllowed else later) ≡ None → b ≡ true
asked_first true later h = refl
asked_first false later h = cc

not_empty : (ds : List Ds) → (ds ≡ [] → ⊥) → nat_eq (length ds) 0 ≡ false
not_empty [] h = absurd (h refl)
not_empty (d ∷ ds) h = ne_eqb (length (d ∷ ds)) 0 (λ e. omega (arith, e))

module _ (a : Answers) (k : ℕ) (h : JudgeInput) (v : Verdict) (asked : is_judged h ≡ true) where
  chained_says : (b : Bool) (x : Answer) → elim b as (λ _. Answer) [ true ↦ x | false ↦ Refuses r.NoTrustedKey ] ≡ Says v → (b ≡ true) × (x ≡ Says v)
  chained_says true x e = (refl, e)
  chained_says false x e = absurd (not_refused r.NoTrustedKey v e)

  messages_say : (keys answer : Message) → message k h.dnskey_bytes ≡ Ok keys → message k h.answer_bytes ≡ Ok answer → judged_messages a k h keys answer ≡ Says v → IsSaid a k h v
  messages_say keys answer i j e =
      let usable = filter is_usable (keys_of h keys) in
      let c = chained_says (ds_authenticates_keys a k h keys) (judged_answer a k h usable answer) e in
      let mixed : Bool = h.one_moment && has_unlike_times a k h usable answer in
      let facts : Facts = facts_of a k h keys answer in
      record {
        keys = keys;
        answer = answer;
        keys_read = i;
        answer_read = j;
        asked = asked;
        chained = c.0;
        of_one_moment = not_so mixed r.MixedVersions (judged_facts a h facts) v c.1;
        decided = facts_decide a h facts v (unless mixed r.MixedVersions (judged_facts a h facts) v c.1);
      }

  answer_says : (keys : Message) → message k h.dnskey_bytes ≡ Ok keys → (o : Result Message MessageError) → message k h.answer_bytes ≡ o
      → elim o as (λ _. Answer) [ Err e ↦ Refuses r.BadAnswerMessage | Ok answer ↦ judged_messages a k h keys answer ] ≡ Says v → IsSaid a k h v
  answer_says keys i (Err f) j e = absurd (not_refused r.BadAnswerMessage v e)
  answer_says keys i (Ok answer) j e = messages_say keys answer i j e

  bytes_say : (o : Result Message MessageError) → message k h.dnskey_bytes ≡ o
      → elim o as (λ _. Answer) [ Err e ↦ Refuses r.BadDnskeyMessage | Ok keys ↦ elim (message k h.answer_bytes) as (λ _. Answer) [ Err e ↦ Refuses r.BadAnswerMessage | Ok answer ↦ judged_messages a k h keys answer ] ] ≡ Says v → IsSaid a k h v
  bytes_say (Err f) i e = absurd (not_refused r.BadDnskeyMessage v e)
  bytes_say (Ok keys) i e = answer_says keys i (message k h.answer_bytes) refl e

pub judged_says : (a : Answers) (k : ℕ) (h : JudgeInput) (v : Verdict) → (h.ds ≡ [] → ⊥) → judged a k h ≡ Says v → IsSaid a k h v
judged_says a k h v some e =
    let first = not_first (first_refusal k h) _ v e in
    let asked = asked_first (is_judged h) _ first.0 in
    let unsigned : judged_bytes a k h ≡ Says v = sym (ap (λ b. if b then Says Rattle.definitions.specs.Zone.Unsigned else judged_bytes a k h) (not_empty h.ds some)) ∙ first.1 in
    bytes_say a k h v asked (message k h.dnskey_bytes) refl unsigned
