-- A judge says the same of messages that it sees alike.
use Rattle.std.proofs.Common.{◌≡◌, ℕ, Bool, true, false, not, ◌&&◌, ◌||◌, List, length, map, filter, Option, Some, None, Result, Ok, Err, eqb, nat_eq, refl, sym, ap, ◌∙◌}
use Rattle.std.specs.Prelude.{if◌then◌else◌}
use Rattle.std.specs.List.{list_any}
use Rattle.definitions.specs.Dnskey.{Dnskey, dnskey_data, dnskey_of_data}
use Rattle.definitions.specs.Name.{Name, labels_eq, low, same}
use Rattle.definitions.specs.Zone.{Unsigned, sorted_data}
use Rattle.denial_laws.specs.Facts.{Facts}
use Rattle.messages.specs.declared.error.MessageError.{MessageError}
use Rattle.messages.specs.Message.{Asked, Message, Spelled, canonical_data, data_of, message}
use Rattle.messages.proofs.Lists.{some_is}
use Rattle.answer_scheme.specs.Answers.{Answers}
use Rattle.answer_terms.specs.Alike.{IsLike}
use Rattle.answer_terms.specs.EqualTags.{has_equal_tags}
use Rattle.answer_terms.specs.FactsCase.{low_facts}
use Rattle.answer_terms.proofs.FactsCase.{caseless}
use Rattle.answer_judge_rules.specs.Hashes.{hash_among}
use Rattle.answer_judge.specs.Judging.{Answer, JudgeInput, Refuses, Says, is_judged, may_ask, message_refusal, same_question}
use Rattle.answer_judge_keys.specs.DnskeyAnswer.{key_at, keys_in}
use Rattle.answer_judge_keys.specs.Trusted.{is_trusted, is_usable}
use Rattle.answer_judge.specs.declared.verdict.Refusal.{Refusal}
use Rattle.answer_judge.specs.declared.verdict.Refusal.TheVariants as r
use Rattle.answer_judge.specs.Judged.{are_mixed, are_over, by_facts, facts_in, ds_authenticates_keys, is_unhashed, judged, judged_answer, judged_bytes, judged_facts, judged_messages, keys_of, trusting}
use Rattle.answer_judge_facts.specs.Times.{are_unlike}
use Rattle.answer_judge_facts.specs.Verified.{is_verified}
use Rattle.answer_judge.proofs.GivenNext.{canonical_octets}
use Rattle.message_laws.specs.SeenAlike.{AnswersJudgedAlike, KeysJudgedAlike, ProvesAlike, SeenAlike, SeenProveAlike, UncoveredJudgedAlike, is_covering}
use Rattle.message_laws.proofs.UsedAlike.{some_alike, verified_alike}
use Rattle.message_laws.proofs.FactsAlike.{all_bare_times, all_times, bare_facts, facts_alike}

-- ---- what the judge looks at

abbrev pub asked_for_keys : Name → Asked
asked_for_keys apex = record { name = apex; rtype = 48; class = 1 }

abbrev pub refused_by : Bool → Bool → Option Refusal
refused_by asks tags = if not asks then Some r.QuestionMismatch else if tags then Some r.EqualTags else None

abbrev pub refused_of : Result Message MessageError → Result Message MessageError → (Message → Message → Option Refusal) → Option Refusal
refused_of keys answer f = elim keys [
  | Err e ↦ Some r.BadDnskeyMessage
  | Ok x ↦ elim answer [ Err e ↦ Some r.BadAnswerMessage | Ok y ↦ f x y ]
]

abbrev pub judged_of : Result Message MessageError → Result Message MessageError → (Message → Message → Answer) → Answer
judged_of keys answer f = elim keys [
  | Err e ↦ Refuses r.BadDnskeyMessage
  | Ok x ↦ elim answer [ Err e ↦ Refuses r.BadAnswerMessage | Ok y ↦ f x y ]
]

abbrev pub said_of : Bool → Bool → Option Refusal → Answer → Answer
said_of allowed none later answer = elim (if not allowed then Some r.QuestionNotAllowed else if none then None else later) [
  | Some e ↦ Refuses e
  | None ↦ if none then Says Unsigned else answer
]

same_asked : (x y z : Asked) → low x.name ≡ low y.name → x.rtype ≡ y.rtype → x.class ≡ y.class → same_question x z ≡ same_question y z
same_asked x y z name rtype class = λ i. labels_eq (name i) (low z.name) && eqb (rtype i) z.rtype && eqb (class i) z.class

-- ---- facts

-- the case of the names in links means nothing
pub judged_low : (a : Answers) (h : JudgeInput) (f : Facts) → judged_facts a h f ≡ judged_facts a h (low_facts f)
judged_low a h f =
    ap (λ v. if are_mixed f.hash_links then Refuses r.MixedNsec3Parameters else if are_over h.limit f.hash_links then Refuses r.IterationsOverLimit else if is_unhashed a h f then Refuses r.HashFailed else by_facts v)
    (sym (caseless h.apex (hash_among a.hash f.hash_links) f h.asked.name h.asked.rtype).links)

judged_same : (a : Answers) (h : JudgeInput) (f g : Facts) → low_facts f ≡ low_facts g → judged_facts a h f ≡ judged_facts a h g
judged_same a h f g e = judged_low a h f ∙ ap (judged_facts a h) e ∙ sym (judged_low a h g)

-- ---- answers

-- what is proved of the question's type is alike
module _ (a : Answers) (k : ℕ) (h : JudgeInput) (m n : List ℕ) (seen : ProvesAlike k h.asked.rtype m n) where
  abbrev one_handing : JudgeInput
  one_handing = record h { answer_bytes = m }

  abbrev other_handing : JudgeInput
  other_handing = record h { answer_bytes = n }

  answer_asked : may_ask one_handing seen.verified.one.asked ≡ may_ask other_handing seen.verified.other.asked
  answer_asked = ap (λ b. h.other_question || b) (same_asked seen.verified.one.asked seen.verified.other.asked h.asked seen.name_is seen.rtype_is seen.class_is)

  abbrev answer_refused : (Message → Bool) → Message → Message → Option Refusal
  answer_refused asks x y = refused_by (same_question x.asked (asked_for_keys h.apex) && asks y) (has_equal_tags (keys_in h.dnskey_bytes h.apex x.records))

  answer_first : message_refusal k one_handing ≡ message_refusal k other_handing
  answer_first =
      ap (λ o. refused_of (message k h.dnskey_bytes) o (answer_refused (λ y. may_ask one_handing y.asked))) seen.verified.reads_one
      ∙ (λ i. refused_of (message k h.dnskey_bytes) (Ok seen.verified.one) (answer_refused (λ y. answer_asked i)))
      ∙ ap (λ o. refused_of (message k h.dnskey_bytes) o (answer_refused (λ y. may_ask other_handing y.asked))) (sym seen.verified.reads_other)

  answer_judged : (usable : List Dnskey) → judged_answer a k one_handing usable seen.verified.one ≡ judged_answer a k other_handing usable seen.verified.other
  answer_judged usable =
      let w = trusting a h usable in
      let at = seen.verified.times w h.asked.name in
      let same : judged_facts a h (facts_in a k one_handing usable seen.verified.one) ≡ judged_facts a h (facts_in a k other_handing usable seen.verified.other) =
      judged_same a h (facts_in a k one_handing usable seen.verified.one) (facts_in a k other_handing usable seen.verified.other) (seen.verified.facts w h.asked.name) in
      λ i. if h.one_moment && are_unlike (at i) then Refuses r.MixedVersions else same i

  chained_answer : (x : Message) → judged_messages a k one_handing x seen.verified.one ≡ judged_messages a k other_handing x seen.verified.other
  chained_answer x =
      ap (λ v. elim (ds_authenticates_keys a k h x) as (λ _. Answer) [ true ↦ v | false ↦ Refuses r.NoTrustedKey ]) (answer_judged (filter is_usable (keys_of h x)))

  answer_bytes_judged : judged_bytes a k one_handing ≡ judged_bytes a k other_handing
  answer_bytes_judged =
      ap (λ o. judged_of (message k h.dnskey_bytes) o (judged_messages a k one_handing)) seen.verified.reads_one
      ∙ (λ i. judged_of (message k h.dnskey_bytes) (Ok seen.verified.one) (λ x y. chained_answer x i))
      ∙ ap (λ o. judged_of (message k h.dnskey_bytes) o (judged_messages a k other_handing)) (sym seen.verified.reads_other)

  pub proven_judged : judged a k one_handing ≡ judged a k other_handing
  proven_judged = λ i. said_of (is_judged h) (nat_eq (length h.ds) 0) (answer_first i) (answer_bytes_judged i)

pub seen_prove : SeenProveAlike
seen_prove k t m n seen = record {
  verified = record {
    one = seen.one;
    other = seen.other;
    reads_one = seen.reads_one;
    reads_other = seen.reads_other;
    facts = facts_alike k m n t seen.one.records seen.other.records seen.records_are;
    times = all_times k m n t seen.one.records seen.other.records seen.records_are;
  };
  name_is = seen.name_is;
  rtype_is = seen.rtype_is;
  class_is = seen.class_is;
}

-- so do those of which no signature covers the type
pub bare_prove : (k t : ℕ) (m n : List ℕ) (seen : SeenAlike k 46 m n) → list_any (is_covering k n t) seen.other.records ≡ false → ProvesAlike k t m n
bare_prove k t m n seen bare = record {
  verified = record {
    one = seen.one;
    other = seen.other;
    reads_one = seen.reads_one;
    reads_other = seen.reads_other;
    facts = bare_facts k m n t seen.one.records seen.other.records seen.records_are bare;
    times = all_bare_times k m n t seen.one.records seen.other.records seen.records_are bare;
  };
  name_is = seen.name_is;
  rtype_is = seen.rtype_is;
  class_is = seen.class_is;
}

pub answers_alike : AnswersJudgedAlike
answers_alike a k h m n seen = proven_judged a k h m n (seen_prove k h.asked.rtype m n seen)

pub uncovered_alike : UncoveredJudgedAlike
uncovered_alike a k h m n seen bare = proven_judged a k h m n (bare_prove k h.asked.rtype m n seen bare)

-- ---- DNSKEY answers

module _ (a : Answers) (k : ℕ) (h : JudgeInput) (m n : List ℕ) (seen : SeenAlike k 48 m n) where
  abbrev these_keys : JudgeInput
  these_keys = record h { dnskey_bytes = m }

  abbrev those_keys : JudgeInput
  those_keys = record h { dnskey_bytes = n }

  abbrev key_when : Bool → List ℕ → Option Dnskey
  key_when b d = if b then dnskey_of_data d else None

  no_type : (b c : Bool) → (b && false && c) ≡ false
  no_type true c = refl
  no_type false c = refl

  no_key : (x : List ℕ) (s : Spelled) → eqb s.rtype 48 ≡ false → key_at x h.apex s ≡ None
  no_key x s e =
      ap (λ b. key_when (same s.owner h.apex && b && eqb s.class 1) (data_of x s)) e
      ∙ ap (λ b. key_when b (data_of x s)) (no_type (same s.owner h.apex) (eqb s.class 1))

  key_octets : (x : List ℕ) (s : Spelled) → s.rtype ≡ 48 → canonical_data k x s ≡ Some (data_of x s)
  key_octets x s is = canonical_octets k x s (ap (λ u. eqb u 2) is) (ap (λ u. eqb u 6) is) (ap (λ u. eqb u 47) is) (ap (λ u. eqb u 50) is)

  key_alike : (s t : Spelled) → IsLike k m n s t → s.rtype ≡ 48 → key_at m h.apex s ≡ key_at n h.apex t
  key_alike s t like is =
      let octets : data_of m s ≡ data_of n t = some_is (data_of m s) (data_of n t) (sym (key_octets m s is) ∙ like.data_are ∙ key_octets n t (sym like.type_is ∙ is)) in
      λ i. key_when (labels_eq (like.owner_is i) (low h.apex) && eqb (like.type_is i) 48 && eqb (like.class_is i) 1) (octets i)

  pub same_keys : keys_in m h.apex seen.one.records ≡ keys_in n h.apex seen.other.records
  same_keys = some_alike k m n 48 seen.one.records seen.other.records seen.records_are 48 (key_at m h.apex) (key_at n h.apex) refl (no_key m) (no_key n) key_alike

  pub keys_asked : same_question seen.one.asked (asked_for_keys h.apex) ≡ same_question seen.other.asked (asked_for_keys h.apex)
  keys_asked = same_asked seen.one.asked seen.other.asked (asked_for_keys h.apex) seen.name_is seen.rtype_is seen.class_is

  abbrev keys_refused : Bool → List Dnskey → Message → Option Refusal
  keys_refused asks ks y = refused_by (asks && may_ask h y.asked) (has_equal_tags ks)

  keys_first : message_refusal k these_keys ≡ message_refusal k those_keys
  keys_first =
      ap (λ o. refused_of o (message k h.answer_bytes) (λ x y. keys_refused (same_question x.asked (asked_for_keys h.apex)) (keys_in m h.apex x.records) y)) seen.reads_one
      ∙ (λ i. refused_of (Ok seen.one) (message k h.answer_bytes) (λ x y. keys_refused (keys_asked i) (same_keys i) y))
      ∙ ap (λ o. refused_of o (message k h.answer_bytes) (λ x y. keys_refused (same_question x.asked (asked_for_keys h.apex)) (keys_in n h.apex x.records) y)) (sym seen.reads_other)

  pub keys_chained : ds_authenticates_keys a k these_keys seen.one ≡ ds_authenticates_keys a k those_keys seen.other
  keys_chained =
      let ks = keys_in m h.apex seen.one.records in
      verified_alike k m n 48 seen.one.records seen.other.records seen.records_are (trusting a h (filter (is_trusted a h.apex h.ds) ks)) h.apex 48 (sorted_data (map dnskey_data ks))
      ∙ ap (λ (xs : List Dnskey). is_verified (trusting a h (filter (is_trusted a h.apex h.ds) xs)) k n seen.other.records h.apex 48 (sorted_data (map dnskey_data xs))) same_keys

  keys_judged : (y : Message) → judged_messages a k these_keys seen.one y ≡ judged_messages a k those_keys seen.other y
  keys_judged y = λ i. elim (keys_chained i) as (λ _. Answer) [ true ↦ judged_answer a k h (filter is_usable (same_keys i)) y | false ↦ Refuses r.NoTrustedKey ]

  key_bytes_judged : judged_bytes a k these_keys ≡ judged_bytes a k those_keys
  key_bytes_judged =
      ap (λ o. judged_of o (message k h.answer_bytes) (judged_messages a k these_keys)) seen.reads_one
      ∙ (λ i. judged_of (Ok seen.one) (message k h.answer_bytes) (λ x y. keys_judged y i))
      ∙ ap (λ o. judged_of o (message k h.answer_bytes) (judged_messages a k those_keys)) (sym seen.reads_other)

  all_judged : judged a k these_keys ≡ judged a k those_keys
  all_judged = λ i. said_of (is_judged h) (nat_eq (length h.ds) 0) (keys_first i) (key_bytes_judged i)

pub keys_alike : KeysJudgedAlike
keys_alike a k h m n seen = all_judged a k h m n seen
