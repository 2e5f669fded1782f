-- What is said of a reply: its name in C, and a sentence; its kind.
use Rattle.std.specs.Prelude.{ℕ, Bool, List, codes, ◌≡◌, ◌∷◌, ◌++◌, [], if◌then◌else◌}
use Rattle.answer_judge_octets.specs.declared.reply.ReplyCode.{ReplyCode}
use Rattle.answer_judge_octets.specs.declared.reply.ReplyCode.TheVariants as c
use Rattle.answer_judge_octets.specs.Replying.{number_of}

abbrev pub code_text : ReplyCode → List ℕ
code_text c.Records = codes "ZERMUITA_RECORDS: the name has records of the type"
code_text c.NoType = codes "ZERMUITA_NODATA: the name has no records of the type"
code_text c.NoName = codes "ZERMUITA_NXDOMAIN: there is no such name"
code_text c.StarRecords = codes "ZERMUITA_WILDCARD: a wildcard stands for the name and has records of the type"
code_text c.StarNoType = codes "ZERMUITA_WILDCARD_NODATA: a wildcard stands for the name and has no records of the type"
code_text c.Delegated = codes "ZERMUITA_DELEGATED: the name is at or below a delegation"
code_text c.Open = codes "ZERMUITA_OPTOUT: an opt-out chain leaves open what is there"
code_text c.Unsigned = codes "ZERMUITA_INSECURE: no DS record can be checked, so nothing vouches for the zone's keys"
code_text c.Alias = codes "ZERMUITA_ALIAS: the name has a CNAME record"
code_text c.WildcardAlias = codes "ZERMUITA_WILDCARD_ALIAS: a wildcard stands for the name and has a CNAME record"
code_text c.Dname = codes "ZERMUITA_DNAME: a name above has a DNAME record"
code_text c.Referral = codes "ZERMUITA_REFERRAL: the name is at or below a delegation with DS records"
code_text c.QuestionNotAllowed = codes "ZERMUITA_QUESTION_NOT_ALLOWED: the name is not in the zone, the class is not IN, or the type is not judged"
code_text c.BadDnskeyMessage = codes "ZERMUITA_BAD_DNSKEY_MESSAGE: the DNSKEY answer is not a message"
code_text c.BadAnswerMessage = codes "ZERMUITA_BAD_ANSWER_MESSAGE: the answer is not a message"
code_text c.QuestionMismatch = codes "ZERMUITA_QUESTION_MISMATCH: a message answers another question"
code_text c.EqualTags = codes "ZERMUITA_EQUAL_TAGS: two different keys have one tag"
code_text c.NoTrustedKey = codes "ZERMUITA_NO_TRUSTED_KEY: no key that a DS record names signs the DNSKEY set"
code_text c.MixedNsec3Parameters = codes "ZERMUITA_MIXED_NSEC3_PARAMETERS: NSEC3 records have different parameters"
code_text c.IterationsOverLimit = codes "ZERMUITA_ITERATIONS_OVER_LIMIT: the NSEC3 iterations are over the limit"
code_text c.HashFailed = codes "ZERMUITA_HASH_FAILED: a name was not hashed"
code_text c.NotProven = codes "ZERMUITA_NOT_PROVEN: the signed records prove no verdict"
code_text c.OutOfMemory = codes "ZERMUITA_OUT_OF_MEMORY: memory ran out"
code_text c.MixedVersions = codes "ZERMUITA_MIXED_VERSIONS: signatures have different times, and one moment is demanded"
code_text c.MessageTooLong = codes "ZERMUITA_MESSAGE_TOO_LONG: a message is too long in canonical form, or costs too much work"
code_text c.TooManySignatures = codes "ZERMUITA_TOO_MANY_SIGNATURES: more signatures are to be checked than the case allows"
code_text c.NothingTold = codes "ZERMUITA_NOTHING_TOLD: a zone's answer tells nothing of the way to the name"
code_text c.Outside = codes "ZERMUITA_OUTSIDE: the name is not at or below the trust anchor, or the question is for DS at the anchor"
code_text c.Ask = codes "ZERMUITA_ASK: signatures are to be checked"
code_text c.Want = codes "ZERMUITA_WANT: messages are wanted"
code_text c.BufferTooSmall = codes "ZERMUITA_BUFFER_TOO_SMALL: the reply has more octets than there is room for"
code_text c.BadApex = codes "ZERMUITA_BAD_APEX: the name of the zone is not a name in wire form"
code_text c.BadDsSet = codes "ZERMUITA_BAD_DS_SET: the DS set is not DS records behind their lengths"
code_text c.BadName = codes "ZERMUITA_BAD_NAME: the name that was asked for is not a name in wire form"
code_text c.BadSignatures = codes "ZERMUITA_BAD_SIGNATURES: the checked signatures are not entries"
code_text c.BadCase = codes "ZERMUITA_BAD_CASE: a size or a flag is unknown, octets are null, or no_ds contradicts ds"
code_text c.BadMessages = codes "ZERMUITA_BAD_MESSAGES: the messages are not messages behind the names that they are of"
code_text c.TooManyCuts = codes "ZERMUITA_TOO_MANY_CUTS: more delegations are on the way to the name than are allowed"
code_text c.TooManyAliases = codes "ZERMUITA_TOO_MANY_ALIASES: more aliases are on the way to the name than are allowed"
code_text c.TooManyMessages = codes "ZERMUITA_TOO_MANY_MESSAGES: more messages are wanted than the evidence may have"
code_text c.IncompleteDenial = codes "ZERMUITA_INCOMPLETE_DENIAL: records verify, but a denial record that the proof needs is missing"
code_text c.TooMuchWork = codes "ZERMUITA_TOO_MUCH_WORK: the walk would go on, but may have used up the work that is allowed"

-- The text of a reply's number, or that no reply has it, and an octet 0 behind it.
pub record IsTextOf (number : ℕ) (octets : List ℕ) : Type 0 where
  pub known : (code : ReplyCode) → number_of code ≡ number → octets ≡ code_text code ++ (0 ∷ [])
  pub unknown : ((code : ReplyCode) → number_of code ≡ number → ⊥) → octets ≡ codes "not a reply of this library" ++ (0 ∷ [])

-- 1 where a reply of the number is of a kind, else 0
pub record TellsKind (is_kind : ReplyCode → Bool) (number told : ℕ) : Type 0 where
  pub known : (code : ReplyCode) → number_of code ≡ number → told ≡ (if is_kind code then 1 else 0)
  pub unknown : ((code : ReplyCode) → number_of code ≡ number → ⊥) → told ≡ 0
