-- Which extended error says why a judge refused, read from RFC 8914, 4, and RFC 9276, 3.2.
use Rattle.std.specs.Prelude.{ℕ, Bool, true, false, not, ◌&&◌, ◌||◌, ◌==◌, List, [], filter, length, Option, Some, None, Ok, Err, is_some, if◌then◌else◌}
use Rattle.std.specs.List.{filter_map, list_any}
use Rattle.definitions.specs.Name.{Name, same}
use Rattle.definitions.specs.Dnskey.{Ds}
use Rattle.definitions.specs.Serial.{serial_le}
use Rattle.definitions.specs.Signing.{Fields, in_time}
use Rattle.messages.specs.Message.{Asked, Spelled, if_true, message, rrsig_at}
use Rattle.answer_scheme.specs.Answers.{Answers}
use Rattle.answer_judge.specs.Judging.{JudgeInput}
use Rattle.answer_judge_keys.specs.DnskeyAnswer.{keys_in}
use Rattle.answer_judge_keys.specs.Trusted.{is_signature, is_trusted, is_usable}
use Rattle.answer_judge.specs.declared.verdict.Refusal.{Refusal}
use Rattle.answer_judge.specs.declared.verdict.Refusal.TheVariants as r
use Rattle.answer_judge.specs.Judged.{trusting}
use Rattle.answer_judge_facts.specs.Sought.{is_alone, keys_sought}
use Rattle.answer_judge_facts.specs.Verified.{Trusting, is_hash_alone, is_verified, rrset_in}
use Rattle.answer_extended_errors.specs.declared.error.ExtendedError.{ExtendedError}
use Rattle.answer_extended_errors.specs.declared.error.ExtendedError.TheVariants as e

-- a test of RRsets, by owner and type
abbrev pub RrsetTest : Type 0
RrsetTest = Name → ℕ → Bool

-- the records of a message
abbrev pub records_in : ℕ → List ℕ → Option (List Spelled)
records_in k m = elim (message k m) [ Err e ↦ None | Ok read ↦ Some read.records ]

-- ---- signatures of RRsets

-- the fields of a record's signature, where it is the apex's and covers an RRset that passes a test
abbrev pub signature_at : ℕ → List ℕ → Name → RrsetTest → Spelled → Option Fields
signature_at k m apex is r = elim (is_signature r && (r.class == 1)) [
  | false ↦ None
  | true ↦ elim (rrsig_at k m r) [ None ↦ None | Some f ↦ if_true (is r.owner f.0.covered && same f.0.signer apex) f.0 ]
]

abbrev pub signatures_of : ℕ → List ℕ → Name → RrsetTest → List Spelled → List Fields
signatures_of k m apex is rs = filter_map (signature_at k m apex is) rs

-- the moment is behind the expiration, or before the inception (RFC 4034, 3.1.5)
abbrev pub has_expired : ℕ → Fields → Bool
has_expired now f = not (serial_le now f.expiration)

abbrev pub is_early : ℕ → Fields → Bool
is_early now f = not (serial_le f.inception now)

-- Why signatures cannot be used at a moment: there are none; or none of them is presently valid, and some are expired, or else
-- all are not yet valid.
abbrev pub untimely : ℕ → List Fields → Option ExtendedError
untimely now fs =
    if length fs == 0 then Some e.RrsigsMissing
    else if list_any (λ f. in_time f now) fs then None
    else if list_any (has_expired now) fs then Some e.SignatureExpired
    else Some e.SignatureNotYetValid

-- ---- no trusted key

-- digests of its type are made: of no octets as of any, since the type alone decides (RFC 4034, 5.1.3)
abbrev pub is_made : Answers → Ds → Bool
is_made a d = is_some (a.digest d.digest_type [])

-- The DS RRset has only digest types that are not made; or no key of the DNSKEY answer, usable in the zone, matches a DS record;
-- or the apex did not sign the keys, or no signature of them is presently valid. Else one of them fails, or is of another key.
abbrev pub untrusted_keys : Answers → ℕ → Name → List Ds → List ℕ → List Spelled → ℕ → ExtendedError
untrusted_keys a k apex ds m rs now =
    let keys = keys_in m apex rs in
    if not (list_any (is_made a) ds) then e.UnsupportedDsDigestType
    else if length (filter (is_trusted a apex ds) keys) == 0 then e.DnskeyMissing
    else elim (untimely now (signatures_of k m apex (keys_sought apex keys).is rs)) [ Some error ↦ error | None ↦ e.DnssecBogus ]

-- octets that are no message bring no key
abbrev pub untrusted : Answers → ℕ → JudgeInput → ExtendedError
untrusted a k h = elim (records_in k h.dnskey_bytes) [ None ↦ e.DnssecBogus | Some rs ↦ untrusted_keys a k h.apex h.ds h.dnskey_bytes rs h.now ]

-- ---- nothing proven

-- The RRsets that an answer rests on: that of the question where it is there, and else the NSEC and NSEC3 RRsets of one record.
abbrev pub is_chain_rrset : ℕ → List ℕ → Name → List Spelled → RrsetTest
is_chain_rrset k m apex rs owner t = ((47 == t) && is_alone k m apex rs owner) || ((50 == t) && is_hash_alone k m apex rs owner)

abbrev pub is_rrset_asked : Asked → RrsetTest
is_rrset_asked q owner t = (q.rtype == t) && same owner q.name

abbrev pub is_rrset_rested_on : ℕ → List ℕ → Name → List Spelled → Asked → RrsetTest
is_rrset_rested_on k m apex rs q = if length (rrset_in k m rs q.name q.rtype) == 0 then is_chain_rrset k m apex rs else is_rrset_asked q

-- a record of class IN is of such an RRset
abbrev pub is_of_rrset : RrsetTest → Spelled → Bool
is_of_rrset is r = (r.class == 1) && is r.owner r.rtype

-- and that is verified
abbrev pub is_of_verified : Trusting → ℕ → List ℕ → List Spelled → RrsetTest → Spelled → Bool
is_of_verified w k m rs is r = is_of_rrset is r && is_verified w k m rs r.owner r.rtype (rrset_in k m rs r.owner r.rtype)

-- The requested data are missing, and so are NSEC and NSEC3 records; or the apex signed none of the RRsets, or no signature of
-- them is presently valid. If one is verified and there is no verdict, the denial is incomplete: a record is missing that the proof
-- needs beside it. Else signatures fail, or are of other keys.
abbrev pub resting_on : Trusting → ℕ → List ℕ → List Spelled → RrsetTest → ExtendedError
resting_on w k m rs is =
    if not (list_any (is_of_rrset is) rs) then e.NsecMissing
    else elim (untimely w.now (signatures_of k m w.apex is rs)) [
      | Some error ↦ error
      | None ↦ if list_any (is_of_verified w k m rs is) rs then e.IncompleteDenial else e.DnssecBogus
    ]

abbrev pub unproven_under : Trusting → ℕ → List ℕ → List Spelled → Asked → ExtendedError
unproven_under w k m rs q = resting_on w k m rs (is_rrset_rested_on k m w.apex rs q)

-- under the usable keys of the DNSKEY answer
abbrev pub unproven_beside : Answers → ℕ → JudgeInput → List Spelled → List Spelled → ExtendedError
unproven_beside a k h keys rs = unproven_under (trusting a h (filter is_usable (keys_in h.dnskey_bytes h.apex keys))) k h.answer_bytes rs h.asked

abbrev pub unproven : Answers → ℕ → JudgeInput → ExtendedError
unproven a k h = elim (records_in k h.dnskey_bytes) [
  | None ↦ e.DnssecBogus
  | Some keys ↦ elim (records_in k h.answer_bytes) [ None ↦ e.DnssecBogus | Some rs ↦ unproven_beside a k h keys rs ]
]

-- ---- each refusal

-- The other refusals say all themselves. What a DS RRset promises is bogus where it is missing or does not fit together (RFC 4035,
-- 4.3): octets that are no message, NSEC3 records of unlike parameters (RFC 5155, 8.2), signatures of two versions where one moment
-- is demanded. Not bogus, and of no other code, are a question that is not judged; an answer to another question, which is dropped
-- (RFC 5452, 9.1); two keys of one tag, which a zone may have (RFC 4034, appendix B); a hash or memory that the judge lacked.
abbrev pub plain_error : Refusal → ExtendedError
plain_error r.IterationsOverLimit = e.UnsupportedNsec3Iterations
plain_error r.BadDnskeyMessage = e.DnssecBogus
plain_error r.BadAnswerMessage = e.DnssecBogus
plain_error r.MixedNsec3Parameters = e.DnssecBogus
plain_error r.MixedVersions = e.DnssecBogus
plain_error r.NoTrustedKey = e.DnssecBogus
plain_error r.NotProven = e.DnssecBogus
plain_error r.QuestionNotAllowed = e.Other
plain_error r.QuestionMismatch = e.Other
plain_error r.EqualTags = e.Other
plain_error r.HashFailed = e.Other
plain_error r.Memory = e.Other

-- the error of a refusal of what was handed in
abbrev pub extended_error_of : Answers → ℕ → JudgeInput → Refusal → ExtendedError
extended_error_of a k h r.NoTrustedKey = untrusted a k h
extended_error_of a k h r.NotProven = unproven a k h
extended_error_of a k h refusal = plain_error refusal
