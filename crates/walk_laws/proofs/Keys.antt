-- A judge does not refuse keys that were given.
use Rattle.std.proofs.Common.{◌≡◌, ℕ, Bool, true, false, not, ◌&&◌, List, Option, Some, None, Result, Ok, Err, refl, ap, ◌∙◌, inl, inr}
use Rattle.std.specs.Prelude.{if◌then◌else◌}
use Rattle.std.specs.List.{filter}
use Rattle.definitions.specs.Dnskey.{Dnskey}
use Rattle.definitions.specs.Zone.{Verdict}
use Rattle.definitions.specs.ZoneChain.{Mode}
use Rattle.denial_laws.specs.Facts.{Facts}
use Rattle.messages.specs.HandedRr.{HandedRr}
use Rattle.messages.specs.Message.{Message, message}
use Rattle.messages.specs.declared.error.MessageError.{MessageError}
use Rattle.messages.proofs.Lists.{all_at}
use Rattle.answer_scheme.specs.Answers.{Answers}
use Rattle.answer_judge.specs.Judging.{Answer, JudgeInput, Refuses, is_judged, may_ask, same_question}
use Rattle.answer_judge_keys.specs.Trusted.{is_usable}
use Rattle.answer_judge.specs.declared.verdict.Refusal.TheVariants as r
use Rattle.answer_judge.specs.Judged.{AnswersAs, are_mixed, are_over, decided_by, facts_in, has_unlike_times, is_unhashed, judged, judged_answer, judged_messages, keys_of}
use Rattle.answer_judge.specs.Meeting.{HasDs, WasGiven}
use Rattle.answer_judge.proofs.GivenLists.{has_contained}
use Rattle.message_laws.specs.Given.{KeysWereGiven}
use Rattle.message_laws.specs.Shown.{ShowsKeys}
use Rattle.message_laws.proofs.GivenKeys.{keys_shown}
use Rattle.walk_laws.specs.Keys.{GivenKeysAreTrusted, is_refused_for_keys}
use Rattle.message_laws.proofs.Parts.{chained_by, first_of, judged_by, proved_by}
use Rattle.message_laws.proofs.Shown.{some_named}

-- no refusal behind the keys is one for them
proved_beside : (unlike mixed over unhashed : Bool) (decided : Option Verdict) → is_refused_for_keys (proved_by unlike mixed over unhashed decided) ≡ false
proved_beside true mixed over unhashed decided = refl
proved_beside false true over unhashed decided = refl
proved_beside false false true unhashed decided = refl
proved_beside false false false true decided = refl
proved_beside false false false false None = refl
proved_beside false false false false (Some v) = refl

-- ---- keys that are shown, with whatever answer beside them

module _ (a : Answers) (k : ℕ) (h : JudgeInput) (shown : ShowsKeys a k h.apex h.ds h.dnskey_bytes h.now) where
  abbrev key_answer : Message
  key_answer = shown.read

  abbrev shown_keys : List Dnskey
  shown_keys = keys_of h key_answer

  abbrev facts : Message → Facts
  facts m = facts_in a k h (filter is_usable shown_keys) m

  abbrev is_asked : Message → Bool
  is_asked m = same_question key_answer.asked (record { name = h.apex; rtype = 48; class = 1 }) && may_ask h m.asked

  abbrev by_question : Message → Bool → Bool → Bool → Answer
  by_question m asked tags authentic = elim (if not asked then Some r.QuestionMismatch else if tags then Some r.EqualTags else None) [
    | Some e ↦ Refuses e
    | None ↦ chained_by authentic (judged_answer a k h (filter is_usable shown_keys) m)
  ]

  whichever : (m : Message) (asked : Bool) → is_refused_for_keys (by_question m asked false true) ≡ false
  whichever m false = refl
  whichever m true = proved_beside (h.one_moment && has_unlike_times a k h (filter is_usable shown_keys) m) (are_mixed (facts m).hash_links) (are_over h.limit (facts m).hash_links) (is_unhashed a h (facts m)) (decided_by a h (facts m))

  beside : (asked : Bool) (answer : Result Message MessageError) → is_refused_for_keys (judged_by asked false (Ok key_answer) answer (first_of h) (judged_messages a k h)) ≡ false
  beside false answer = refl
  beside true (Err e) = refl
  beside true (Ok m) = (λ i. is_refused_for_keys (by_question m (is_asked m) (shown.tags i) (shown.signed i))) ∙ whichever m (is_asked m)

  unrefused : is_refused_for_keys (judged a k h) ≡ false
  unrefused =
      (λ i. is_refused_for_keys (judged_by (is_judged h) (some_named h.ds shown.ds_some i) (shown.reads i) (message k h.answer_bytes) (first_of h) (judged_messages a k h)))
      ∙ beside (is_judged h) (message k h.answer_bytes)

  pub keys_trusted : (answer : Answer) → AnswersAs answer (judged a k h) → is_refused_for_keys answer ≡ false
  keys_trusted answer (inl memory) = ap is_refused_for_keys memory
  keys_trusted answer (inr said) = ap is_refused_for_keys said ∙ unrefused

-- those of a zone that has given an answer
keys_given : (a : Answers) (k : ℕ) (h : JudgeInput) (mode : Mode) (rs : List HandedRr) → WasGiven a k h mode rs → KeysWereGiven a k h.apex h.ds h.dnskey_bytes h.now
keys_given a k h mode rs given = record {
  present = given.present;
  keysigners = given.keysigners;
  anchor = given.meet.anchor;
  life = given.life;
  ttl = given.keys_ttl;
  at = given.keys_at;
  flags_are = given.flags_are;
  ds_is = all_at (HasDs a h.apex h.ds) given.parents given.meet.anchor given.ds_is (has_contained given.parents given.meet.anchor given.meet.at_parent);
  anchor_present = given.meet.anchor_present;
  signs_keys = given.meet.signs_keys;
  anchor_usable = given.anchor_usable;
  present_tags = given.present_tags;
  keysigner_tags = given.keysigner_tags;
  told = given.keys_told;
  hold = given.keys_hold;
}

pub given_keys_are_trusted : GivenKeysAreTrusted
given_keys_are_trusted = record {
  trusted = λ a k h answer shown. keys_trusted a k h shown answer;
  shown = λ a k h given. keys_shown a k h given;
  given = keys_given;
}
