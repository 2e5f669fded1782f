-- What a zone under keys that meet has given is judged by what its answer verifies.
use Rattle.std.proofs.Common.{◌≡◌, ℕ, ◌<◌, Bool, true, false, not, ◌&&◌, ◌||◌, List, [], ◌∷◌, Option, Some, None, Result, Ok, Err, length, filter, refl, ap, ◌∙◌, arith}
use Rattle.std.specs.Prelude.{find, nat_eq, if◌then◌else◌}
use Rattle.std.proofs.lemmas.Bool.{and_from, eq-eqb, ne_eqb, or_right}
use Rattle.definitions.specs.Name.{Name, low}
use Rattle.definitions.specs.Dnskey.{Dnskey, Ds, key_tag}
use Rattle.definitions.specs.Signing.{Fields}
use Rattle.definitions.specs.Zone.{Unsigned}
use Rattle.definitions.specs.ZoneChain.{Mode}
use Rattle.messages.specs.HandedRr.{HandedRr}
use Rattle.answer_scheme.specs.Answers.{Answers}
use Rattle.answer_terms.specs.Asking.{asks_alias}
use Rattle.answer_judge_facts.specs.Trusted.{is_usable}
use Rattle.answer_judge.specs.OwnFacts.{passes_for}
use Rattle.answer_judge.specs.declared.verdict.Refusal.{Refusal}
use Rattle.answer_judge.specs.declared.verdict.Refusal.TheVariants as r
use Rattle.messages.specs.declared.error.MessageError.{MessageError}
use Rattle.answer_judge.specs.Judged.{judged, judged_answer, judged_messages, keys_of}
use Rattle.answer_judge.specs.Judging.{Answer, JudgeInput, Refuses, Says, first_refusal, is_judged, may_ask, message_refusal, same_question}
use Rattle.answer_terms.specs.EqualTags.{has_equal_tags}
use Rattle.answer_judge.specs.Meeting.{HasDs, WasGiven}
use Rattle.messages.specs.Message.{Asked, Message}
use Rattle.answer_terms.specs.Served.{by_tag}
use Rattle.answer_judge.proofs.GivenChained.{chained_given, keys_apart, keys_has}
use Rattle.answer_judge_facts.proofs.GivenKeys.{by_tag-has, find_kept}
use Rattle.answer_judge.proofs.GivenLists.{has_contained}
use Rattle.messages.proofs.Lists.{Has, all_at}
use Rattle.messages.proofs.ZoneNames.{labels_eq-same}

-- ---- no first refusal

abbrev question_of : Name → Asked
question_of apex = record { name = apex; rtype = 48; class = 1 }

same_asked : (a b : Asked) → low a.name ≡ low b.name → a.rtype ≡ b.rtype → a.class ≡ b.class → same_question a b ≡ true
same_asked a b n t c = and_from _ _ (and_from _ _ (labels_eq-same (low a.name) (low b.name) n) (eq-eqb a.rtype b.rtype t)) (eq-eqb a.class b.class c)

abbrev two_messages : Result Message MessageError → Result Message MessageError → (Message → Message → Option Refusal) → Option Refusal
two_messages keys answer f = elim keys [
  | Err e ↦ Some r.BadDnskeyMessage
  | Ok m ↦ elim answer [ Err e ↦ Some r.BadAnswerMessage | Ok n ↦ f m n ]
]

abbrev refusal_by : Bool → Bool → Option Refusal
refusal_by asked tags = if not asked then Some r.QuestionMismatch else if tags then Some r.EqualTags else None

abbrev refusal_of : JudgeInput → Message → Message → Option Refusal
refusal_of h keys answer = refusal_by (same_question keys.asked (question_of h.apex) && may_ask h answer.asked) (has_equal_tags (keys_of h keys))

abbrev first_by : Bool → Bool → Option Refusal → Option Refusal
first_by asked none later = if not asked then Some r.QuestionNotAllowed else if none then None else later

abbrev judged_by : Option Refusal → Bool → Answer → Answer
judged_by first none later = elim first [ Some e ↦ Refuses e | None ↦ if none then Says Unsigned else later ]

abbrev answers_by : Result Message MessageError → Result Message MessageError → (Message → Message → Answer) → Answer
answers_by keys answer f = elim keys [
  | Err e ↦ Refuses r.BadDnskeyMessage
  | Ok m ↦ elim answer [ Err e ↦ Refuses r.BadAnswerMessage | Ok n ↦ f m n ]
]

abbrev chained_by : Bool → Answer → Answer
chained_by chained later = elim chained [ true ↦ later | false ↦ Refuses r.NoTrustedKey ]

module _ (a : Answers) (k : ℕ) (h : JudgeInput) (mode : Mode) (rs : List HandedRr) (given : WasGiven a k h mode rs) where
  abbrev read_keys : List Dnskey
  read_keys = keys_of h given.keys_told.read

  abbrev pub usable_keys : List Dnskey
  usable_keys = filter is_usable read_keys

  apart : has_equal_tags read_keys ≡ false
  apart = keys_apart a.verifies k given.keys_ttl h.apex given.present given.keysigners given.keys_at given.life h.dnskey_bytes given.keys_told given.flags_are given.present_tags

  asked : (same_question given.keys_told.read.asked (question_of h.apex) && may_ask h given.answer_told.read.asked) ≡ true
  asked = and_from _ _ (same_asked given.keys_told.read.asked (question_of h.apex) given.keys_told.name_is given.keys_told.rtype_is given.keys_told.class_is) (or_right h.other_question _ (same_asked given.answer_told.read.asked h.asked given.answer_told.name_is given.answer_told.rtype_is given.answer_told.class_is))

  messages_first : message_refusal k h ≡ None
  messages_first =
      (λ i. two_messages (given.keys_told.reads i) (given.answer_told.reads i) (refusal_of h))
      ∙ (λ i. refusal_by (asked i) (apart i))

  judged_question : is_judged h ≡ true
  judged_question = or_right (h.other_question && asks_alias h.apex h.asked) _ given.allowed

  -- the DS set has the key at the parent
  pub some_ds : nat_eq (length h.ds) 0 ≡ false
  some_ds =
      let anchor : Dnskey = given.meet.anchor in
      let has : HasDs a h.apex h.ds anchor = all_at (HasDs a h.apex h.ds) given.parents anchor given.ds_is (has_contained given.parents anchor given.meet.at_parent) in
      let some : 0 < length h.ds = some_ds_length h.ds (record { tag = key_tag anchor; algorithm = anchor.algorithm; digest_type = has.digest_type; digest = has.digest }) (has_contained h.ds _ has.held) in
      ne_eqb (length h.ds) 0 (λ e. omega (arith, e, some))
    where
      some_ds_length : (ds : List Ds) (d : Ds) → Has ds d → 0 < length ds
      some_ds_length [] d i = absurd i
      some_ds_length (x ∷ xs) d i = omega arith

  pub first_refusal_given : first_refusal k h ≡ None
  first_refusal_given = (λ i. first_by (judged_question i) (some_ds i) (messages_first i))

  -- the judgement is what the answer verifies under the usable keys
  pub judged_given : judged a k h ≡ judged_answer a k h usable_keys given.answer_told.read
  judged_given =
      (λ i. judged_by (first_refusal_given i) (some_ds i) (answers_by (given.keys_told.reads i) (given.answer_told.reads i) (judged_messages a k h)))
      ∙ ap (λ b. chained_by b (judged_answer a k h usable_keys given.answer_told.read)) (chained_given a k h mode rs given)

  -- the key that signs the zone is found by its tag and algorithm
  pub signer_found : find (passes_for given.meet.signer) usable_keys ≡ Some given.meet.signer
  signer_found =
      let signer : Dnskey = given.meet.signer in
      let there : Has given.present signer = has_contained given.present signer given.meet.signer_present in
      let named : Fields = record { covered = 0; algorithm = signer.algorithm; labels = 0; ttl = 0; expiration = 0; inception = 0; tag = key_tag signer; signer = h.apex } in
      find_kept is_usable read_keys signer named apart
      (keys_has a.verifies k given.keys_ttl h.apex given.present given.keysigners given.keys_at given.life h.dnskey_bytes given.keys_told given.flags_are signer there)
      given.signer_usable refl refl

  pub signer_signs : Has (by_tag given.zonesigners) given.meet.signer
  signer_signs = by_tag-has given.zonesigners given.meet.signer given.zonesigner_tags (has_contained given.zonesigners given.meet.signer given.meet.signs_zone)
