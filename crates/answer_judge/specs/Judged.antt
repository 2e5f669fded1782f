-- What a judge says of two messages (RFC 4035, 5).
use Rattle.std.specs.Prelude.{◌≡◌, ◌⊎◌, ℕ, Bool, true, false, List, [], ◌∷◌, map, filter, length, Option, Some, None, Ok, Err, nat_eq, if◌then◌else◌, Result, nat_lt, not, ◌&&◌, ◌==◌}
use Rattle.std.specs.List.{list_any}
use Rattle.std.specs.Str.{bytes_eq}
use Rattle.definitions.specs.Dnskey.{Dnskey, dnskey_data}
use Rattle.definitions.specs.Zone.{Verdict, Unsigned, sorted_data}
use Rattle.answer_scheme.specs.Answers.{Answers}
use Rattle.answer_judge_facts.specs.Trusted.{is_usable, is_trusted}
use Rattle.denial_laws.specs.Deciding.{decided}
use Rattle.denial_laws.specs.Facts.{Facts, HashLink}
use Rattle.answer_judge_rules.specs.Hashes.{fails_among, hash_among, hashed_for}
use Rattle.answer_judge_rules.specs.declared.verdict.Verdict.{Verdict as CodeVerdict}
use Rattle.answer_judge.specs.declared.verdict.Refusal.{Refusal}
use Rattle.answer_judge.specs.declared.verdict.Refusal.TheVariants as r
use Rattle.answer_judge.specs.Judging.{Answer, Says, Refuses, JudgeInput, first_refusal, message_refusal}
use Rattle.answer_judge_facts.specs.DnskeyAnswer.{keys_in}
use Rattle.answer_judge_rules.specs.Rules.{verdict_of}
use Rattle.messages.specs.Message.{Message, message}
use Rattle.answer_judge_facts.specs.Times.{are_unlike, proof_times}
use Rattle.answer_judge_facts.specs.Verified.{Trusting, is_verified, verified_facts}

-- some keys of the apex at the moment
abbrev pub trusting : Answers → JudgeInput → List Dnskey → Trusting
trusting a h ks = record { answers = a; apex = h.apex; keys = ks; now = h.now }

-- the keys of the DNSKEY answer
abbrev pub keys_of : JudgeInput → Message → List Dnskey
keys_of h keys = keys_in h.dnskey_bytes h.apex keys.records

-- one of the keys that a DS record names signs the keys (RFC 4035, 5.2)
abbrev pub ds_authenticates_keys : Answers → ℕ → JudgeInput → Message → Bool
ds_authenticates_keys a k h keys = is_verified (trusting a h (filter (is_trusted a h.apex h.ds) (keys_of h keys))) k h.dnskey_bytes keys.records h.apex 48 (sorted_data (map dnskey_data (keys_of h keys)))

abbrev pub by_facts : Option Verdict → Answer
by_facts None = Refuses r.NotProven
by_facts (Some v) = Says v

-- what the usable keys verify of the answer decides (RFC 4035, 5.3 and 5.4)
abbrev pub facts_in : Answers → ℕ → JudgeInput → List Dnskey → Message → Facts
facts_in a k h usable answer = verified_facts (trusting a h usable) k h.answer_bytes answer.records h.asked.name h.asked.rtype

-- Records of one chain are hashed alike: a mixture could prove of one name what another chain says (RFC 5155, 8.2).
abbrev pub are_alike : HashLink → HashLink → Bool
are_alike a b = (a.iterations == b.iterations) && bytes_eq a.salt b.salt

abbrev pub are_mixed : List HashLink → Bool
are_mixed [] = false
are_mixed (l ∷ ls) = list_any (λ m. not (are_alike l m)) ls

-- what a judge is ready to hash (RFC 5155, 10.3; RFC 9276, 3.2)
abbrev pub are_over : ℕ → List HashLink → Bool
are_over limit ls = list_any (λ l. nat_lt limit l.iterations) ls

abbrev pub decided_by : Answers → JudgeInput → Facts → Option Verdict
decided_by a h f = decided h.apex (hash_among a.hash f.hash_links) f h.asked.name h.asked.rtype

-- a name that cannot be hashed
abbrev pub is_unhashed : Answers → JudgeInput → Facts → Bool
is_unhashed a h f = list_any (fails_among a.hash f.hash_links) (hashed_for a.hash h.apex f h.asked.name)

-- the refusals that links of hashes bring, in order
abbrev pub judged_facts : Answers → JudgeInput → Facts → Answer
judged_facts a h f =
    if are_mixed f.hash_links then Refuses r.MixedNsec3Parameters
    else if are_over h.limit f.hash_links then Refuses r.IterationsOverLimit
    else if is_unhashed a h f then Refuses r.HashFailed
    else by_facts (decided_by a h f)

-- the signatures by which the answer is verified are not all of one inception and one expiration
abbrev pub has_unlike_times : Answers → ℕ → JudgeInput → List Dnskey → Message → Bool
has_unlike_times a k h usable answer = are_unlike (proof_times (trusting a h usable) k h.answer_bytes answer.records h.asked.name h.asked.rtype)

-- Signatures of unlike times may be those of two versions of a zone, which together prove what neither says.
abbrev pub judged_proof : Answers → JudgeInput → Facts → Bool → Answer
judged_proof a h f unlike_times = if h.one_moment && unlike_times then Refuses r.MixedVersions else judged_facts a h f

abbrev pub judged_answer : Answers → ℕ → JudgeInput → List Dnskey → Message → Answer
judged_answer a k h usable answer = judged_proof a h (facts_in a k h usable answer) (has_unlike_times a k h usable answer)

abbrev pub judged_messages : Answers → ℕ → JudgeInput → Message → Message → Answer
judged_messages a k h keys answer = elim (ds_authenticates_keys a k h keys) [ true ↦ judged_answer a k h (filter is_usable (keys_of h keys)) answer | false ↦ Refuses r.NoTrustedKey ]

-- beside a DS set that isn't empty, where no first refusal stands
abbrev pub judged_bytes : Answers → ℕ → JudgeInput → Answer
judged_bytes a k h = elim (message k h.dnskey_bytes) [
  | Err e ↦ Refuses r.BadDnskeyMessage
  | Ok keys ↦ elim (message k h.answer_bytes) [ Err e ↦ Refuses r.BadAnswerMessage | Ok answer ↦ judged_messages a k h keys answer ]
]

-- beside a DS set that isn't empty
abbrev pub judged_beyond : Answers → ℕ → JudgeInput → Answer
judged_beyond a k h = elim (message_refusal k h) [ Some e ↦ Refuses e | None ↦ judged_bytes a k h ]

-- memory aside
abbrev pub judged : Answers → ℕ → JudgeInput → Answer
judged a k h = elim (first_refusal k h) [
  | Some e ↦ Refuses e
  | None ↦ if nat_eq (length h.ds) 0 then Says Unsigned else judged_bytes a k h
]

-- a verdict or a refusal, as an answer
abbrev pub said : Result CodeVerdict Refusal → Answer
said (Ok v) = Says (verdict_of v)
said (Err e) = Refuses e

-- this is the answer, or memory ran out
abbrev pub AnswersAs : Answer → Answer → Type 0
AnswersAs actual said = (actual ≡ Refuses r.Memory) ⊎ (actual ≡ said)
