-- How long what is verified of an answer lasts: how long it may be kept (RFC 4035, 5.3.3), and for how many seconds more the
-- signatures hold by which it is verified (RFC 4034, 3.1.5).
use Rattle.std.specs.Prelude.{ℕ, ◌+◌, ◌-◌, ◌%◌, min, true, false, ◌&&◌, ◌==◌, List, [], ◌∷◌, ◌++◌, map, Option, Some, None, if◌then◌else◌}
use Rattle.std.specs.List.{cons_option, filter_map, list_any}
use Rattle.std.specs.Option.{option_map}
use Rattle.definitions.specs.Dnskey.{Dnskey, dnskey_data}
use Rattle.definitions.specs.Limits.{pointer_limit}
use Rattle.definitions.specs.Name.{Name}
use Rattle.definitions.specs.Serial.{serial_le}
use Rattle.definitions.specs.Signing.{Fields}
use Rattle.definitions.specs.Zone.{sorted_data}
use Rattle.messages.specs.Message.{Spelled, rrsig_at}
use Rattle.answer_judge_keys.specs.Trusted.{is_signature}
use Rattle.answer_judge_facts.specs.declared.validity.Validity.{Validity}
use Rattle.answer_judge_facts.specs.Marked.{is_of, is_proved, times_by}
use Rattle.answer_judge_facts.specs.Sought.{Sought, answer_sought, keys_sought}
use Rattle.answer_judge_facts.specs.Times.{Times, proof_times, times_of}
use Rattle.answer_judge_facts.specs.Verified.{Trusting, rrset_in, verified_by}
use Rattle.answer_judge_facts.specs.declared.groups.SignedRrset.{SignedRrset}
use Rattle.answer_judge_facts.specs.declared.groups.Signed.{Signed}

-- ---- the least of some numbers

-- of a number and those of a list
abbrev pub least : ℕ → List ℕ → ℕ
least n [] = n
least n (x ∷ xs) = least (min n x) xs

-- where there are none, the largest of 32 bits
abbrev pub least_or_max : List ℕ → ℕ
least_or_max xs = least 4294967295 xs

-- ---- how long records may be kept

-- What the first signature says that verifies a record's RRset, where that is sought for a question: the RRset that was asked for,
-- and the NSEC and NSEC3 RRsets of one record. A verdict rests on such records alone, and maybe not on all of them: to count each
-- of them may shorten the time, and never lengthens it.
abbrev pub rests_on : {X : Type 0} → (Fields → X) → Trusting → ℕ → List ℕ → List Spelled → Name → ℕ → Spelled → Option X
rests_on of w k m rs q t r = elim ((r.class == 1) && (answer_sought k m w.apex rs q t).is r.owner r.rtype) [
  | true ↦ option_map of (verified_by w k m rs r.owner r.rtype (rrset_in k m rs r.owner r.rtype))
  | false ↦ None
]

-- the record's own TTL, and the one that the zone gave it, which is signed
abbrev pub own_ttl : Trusting → ℕ → List ℕ → List Spelled → Name → ℕ → Spelled → Option ℕ
own_ttl w k m rs q t r = rests_on (λ f. r.ttl) w k m rs q t r

abbrev pub original_ttl : Trusting → ℕ → List ℕ → List Spelled → Name → ℕ → Spelled → Option ℕ
original_ttl w k m rs q t r = rests_on (λ f. f.ttl) w k m rs q t r

-- those of all records that an answer's verdict rests on (of denials NSEC and NSEC3 records: RFC 9077)
abbrev pub answer_ttls : Trusting → ℕ → List ℕ → List Spelled → Name → ℕ → List ℕ
answer_ttls w k m rs q t = filter_map (original_ttl w k m rs q t) rs ++ filter_map (own_ttl w k m rs q t) rs

-- ---- for how many seconds signatures hold

-- the seconds from a moment on to the next one of a number, round the circle of serial numbers (RFC 1982)
abbrev pub seconds_to : ℕ → ℕ → ℕ
seconds_to from to = (to + 4294967296 - from) % 4294967296

-- For how many seconds more a signature holds that holds now: up to its expiration, and for less than half the circle from its
-- inception on.
abbrev pub held_for : ℕ → Times → ℕ
held_for now t = min (seconds_to now t.expiration) (2147483647 - seconds_to t.inception now)

-- For how many seconds more one does not hold that does not now: up to the second before its inception. One that has expired
-- would begin anew where half the circle lies behind its expiration.
abbrev pub idle_for : ℕ → Times → ℕ
idle_for now t = if serial_le t.inception now then 2147483648 - seconds_to t.expiration now else seconds_to now t.inception - 1

-- where it does not hold
abbrev pub idle_at : ℕ → Times → Option ℕ
idle_at now t = if serial_le t.inception now && serial_le now t.expiration then None else Some (idle_for now t)

-- A signature of an RRset that is sought and does not hold now: once it does, something else may be verified.
abbrev pub wait_at : ℕ → ℕ → List ℕ → Sought → Spelled → Option ℕ
wait_at now k m s r = elim (is_signature r && (r.class == 1)) [
  | false ↦ None
  | true ↦ elim (rrsig_at k m r) [ None ↦ None | Some f ↦ if s.is r.owner f.0.covered then idle_at now (times_of f.0) else None ]
]

-- of signatures that verify, and of those that do not hold
abbrev pub seconds_of : ℕ → ℕ → List ℕ → Sought → List Spelled → List Times → List ℕ
seconds_of now k m s rs ts = map (held_for now) ts ++ filter_map (wait_at now k m s) rs

-- of the DNSKEY answer: the first signature that verifies the keys
abbrev pub key_seconds : Trusting → ℕ → List ℕ → List Spelled → List Dnskey → List ℕ
key_seconds w k m rs ks =
    seconds_of w.now k m (keys_sought w.apex ks) rs (cons_option (option_map times_of (verified_by w k m rs w.apex 48 (sorted_data (map dnskey_data ks)))) [])

-- of the zone answer
abbrev pub answer_seconds : Trusting → ℕ → List ℕ → List Spelled → Name → ℕ → List ℕ
answer_seconds w k m rs q t = seconds_of w.now k m (answer_sought k m w.apex rs q t) rs (proof_times w k m rs q t)

-- ---- of an answer

-- what is verified of an answer
abbrev pub answer_validity : Trusting → ℕ → List ℕ → List Spelled → Name → ℕ → Validity
answer_validity w k m rs q t = record { ttl = least_or_max (answer_ttls w k m rs q t); seconds = least_or_max (answer_seconds w k m rs q t) }

-- ---- by groups

-- the original TTL of the signature that verified a group
abbrev pub original_of : Signed → ℕ
original_of s = s.ttl

abbrev pub original_in : SignedRrset → Option ℕ
original_in g = option_map original_of g.verified

-- the TTL of a record whose owner has a verified group of its type
abbrev pub own_in : List SignedRrset → Spelled → Option ℕ
own_in gs r = if (r.class == 1) && list_any (is_proved r.owner r.rtype) gs then Some r.ttl else None

abbrev pub ttls_in : List SignedRrset → List Spelled → List ℕ
ttls_in gs rs = filter_map original_in gs ++ filter_map (own_in gs) rs

-- a signature of a group that does not hold
abbrev pub wait_in : ℕ → List ℕ → List SignedRrset → Spelled → Option ℕ
wait_in now m gs r = elim (is_signature r && (r.class == 1)) [
  | false ↦ None
  | true ↦ elim (rrsig_at pointer_limit m r) [ None ↦ None | Some f ↦ if list_any (is_of r.owner f.0.covered) gs then idle_at now (times_of f.0) else None ]
]

abbrev pub seconds_in : ℕ → List ℕ → List SignedRrset → List Spelled → List ℕ
seconds_in now m gs rs = map (held_for now) (filter_map times_by gs) ++ filter_map (wait_in now m gs) rs
