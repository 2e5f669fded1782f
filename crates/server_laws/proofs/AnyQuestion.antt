-- A judge that takes answers to other questions says the same of messages whose records are alike, whatever they ask.
use Rattle.std.proofs.Common.{◌≡◌, ℕ, Bool, true, false, ◌&&◌, ◌||◌, List, filter, length, Option, Ok, nat_eq, sym, ap, ◌∙◌}
use Rattle.std.specs.Prelude.{if◌then◌else◌}
use Rattle.std.specs.List.{AllZip, list_any}
use Rattle.definitions.specs.Dnskey.{Dnskey}
use Rattle.denial_laws.specs.Facts.{Facts}
use Rattle.messages.specs.Message.{Message, message}
use Rattle.answer_scheme.specs.Answers.{Answers}
use Rattle.answer_terms.specs.Alike.{IsLike}
use Rattle.answer_terms.specs.EqualTags.{has_equal_tags}
use Rattle.answer_terms.specs.FactsCase.{low_facts}
use Rattle.answer_terms.proofs.FactsCase.{caseless}
use Rattle.answer_judge_rules.specs.Hashes.{hash_among}
use Rattle.answer_judge.specs.Judging.{Answer, JudgeInput, Refuses, is_judged, may_ask, message_refusal, same_question}
use Rattle.answer_judge_keys.specs.DnskeyAnswer.{keys_in}
use Rattle.answer_judge_keys.specs.Trusted.{is_usable}
use Rattle.answer_judge.specs.declared.verdict.Refusal.{Refusal}
use Rattle.answer_judge.specs.declared.verdict.Refusal.TheVariants as r
use Rattle.answer_judge.specs.Judged.{are_mixed, are_over, by_facts, ds_authenticates_keys, facts_in, is_unhashed, judged, judged_answer, judged_bytes, judged_facts, judged_messages, keys_of, trusting}
use Rattle.answer_judge_facts.specs.Times.{are_unlike, proof_times}
use Rattle.answer_judge_facts.specs.Verified.{Trusting, verified_facts}
use Rattle.message_laws.specs.SeenAlike.{VerifiesAlike, is_covering, is_used}
use Rattle.message_laws.proofs.FactsAlike.{all_bare_times, all_times, bare_facts, facts_alike}
use Rattle.message_laws.proofs.JudgedAlike.{asked_for_keys, judged_of, refused_by, refused_of, said_of}

-- ---- facts, in whose links the case of names means nothing

judged_low : (a : Answers) (h : JudgeInput) (f : Facts) → judged_facts a h f ≡ judged_facts a h (low_facts f)
judged_low a h f =
    ap (λ v. if are_mixed f.hash_links then Refuses r.MixedNsec3Parameters else if are_over h.limit f.hash_links then Refuses r.IterationsOverLimit else if is_unhashed a h f then Refuses r.HashFailed else by_facts v)
    (sym (caseless h.apex (hash_among a.hash f.hash_links) f h.asked.name h.asked.rtype).links)

judged_same : (a : Answers) (h : JudgeInput) (f g : Facts) → low_facts f ≡ low_facts g → judged_facts a h f ≡ judged_facts a h g
judged_same a h f g e = judged_low a h f ∙ ap (judged_facts a h) e ∙ sym (judged_low a h g)

-- ---- answers to any question

module _ (a : Answers) (k : ℕ) (h : JudgeInput) (any : h.other_question ≡ true) (m n : List ℕ) (one other : Message) (reads_one : message k m ≡ Ok one) (reads_other : message k n ≡ Ok other) where
  abbrev one_handing : JudgeInput
  one_handing = record h { answer_bytes = m }

  abbrev other_handing : JudgeInput
  other_handing = record h { answer_bytes = n }

  module _ (facts : (w : Trusting) → low_facts (verified_facts w k m one.records h.asked.name h.asked.rtype) ≡ low_facts (verified_facts w k n other.records h.asked.name h.asked.rtype)) (times : (w : Trusting) → proof_times w k m one.records h.asked.name h.asked.rtype ≡ proof_times w k n other.records h.asked.name h.asked.rtype) where
    answer_asked : may_ask one_handing one.asked ≡ may_ask other_handing other.asked
    answer_asked = ap (λ b. b || same_question one.asked h.asked) any ∙ sym (ap (λ b. b || same_question other.asked h.asked) any)

    abbrev answer_refused : (Message → Bool) → Message → Message → Option Refusal
    answer_refused asks x y = refused_by (same_question x.asked (asked_for_keys h.apex) && asks y) (has_equal_tags (keys_in h.dnskey_bytes h.apex x.records))

    answer_first : message_refusal k one_handing ≡ message_refusal k other_handing
    answer_first =
        ap (λ o. refused_of (message k h.dnskey_bytes) o (answer_refused (λ y. may_ask one_handing y.asked))) reads_one
        ∙ (λ i. refused_of (message k h.dnskey_bytes) (Ok one) (answer_refused (λ y. answer_asked i)))
        ∙ ap (λ o. refused_of (message k h.dnskey_bytes) o (answer_refused (λ y. may_ask other_handing y.asked))) (sym reads_other)

    answer_judged : (usable : List Dnskey) → judged_answer a k one_handing usable one ≡ judged_answer a k other_handing usable other
    answer_judged usable =
        let w = trusting a h usable in
        let at = times w in
        let same : judged_facts a h (facts_in a k one_handing usable one) ≡ judged_facts a h (facts_in a k other_handing usable other) =
        judged_same a h (facts_in a k one_handing usable one) (facts_in a k other_handing usable other) (facts w) in
        λ i. if h.one_moment && are_unlike (at i) then Refuses r.MixedVersions else same i

    chained_answer : (x : Message) → judged_messages a k one_handing x one ≡ judged_messages a k other_handing x other
    chained_answer x =
        ap (λ v. elim (ds_authenticates_keys a k h x) as (λ _. Answer) [ true ↦ v | false ↦ Refuses r.NoTrustedKey ]) (answer_judged (filter is_usable (keys_of h x)))

    answer_bytes_judged : judged_bytes a k one_handing ≡ judged_bytes a k other_handing
    answer_bytes_judged =
        ap (λ o. judged_of (message k h.dnskey_bytes) o (judged_messages a k one_handing)) reads_one
        ∙ (λ i. judged_of (message k h.dnskey_bytes) (Ok one) (λ x y. chained_answer x i))
        ∙ ap (λ o. judged_of (message k h.dnskey_bytes) o (judged_messages a k other_handing)) (sym reads_other)

    pub answers_judged : judged a k one_handing ≡ judged a k other_handing
    answers_judged = λ i. said_of (is_judged h) (nat_eq (length h.ds) 0) (answer_first i) (answer_bytes_judged i)

-- where the same is verified
pub any_judged : (a : Answers) (k : ℕ) (h : JudgeInput) (m n : List ℕ) → h.other_question ≡ true → VerifiesAlike k h.asked.rtype m n → judged a k (record h { answer_bytes = m }) ≡ judged a k (record h { answer_bytes = n })
any_judged a k h m n any v = answers_judged a k h any m n v.one v.other v.reads_one v.reads_other (λ w. v.facts w h.asked.name) (λ w. v.times w h.asked.name)

module _ (k t : ℕ) (m n : List ℕ) (one other : Message) (reads_one : message k m ≡ Ok one) (reads_other : message k n ≡ Ok other) where
  -- so it is where the records are alike that are used for a type
  pub any_alike : AllZip (IsLike k m n) (filter (is_used t) one.records) (filter (is_used t) other.records) → VerifiesAlike k t m n
  any_alike alike = record {
    one = one;
    other = other;
    reads_one = reads_one;
    reads_other = reads_other;
    facts = facts_alike k m n t one.records other.records alike;
    times = all_times k m n t one.records other.records alike;
  }

  -- and where signatures and records of chains are alike, and no signature covers that type
  pub any_uncovered : AllZip (IsLike k m n) (filter (is_used 46) one.records) (filter (is_used 46) other.records) → list_any (is_covering k n t) other.records ≡ false → VerifiesAlike k t m n
  any_uncovered alike bare = record {
    one = one;
    other = other;
    reads_one = reads_one;
    reads_other = reads_other;
    facts = bare_facts k m n t one.records other.records alike bare;
    times = all_bare_times k m n t one.records other.records alike bare;
  }
