-- What is honest where some signatures pass is honest where fewer do.
use Rattle.std.proofs.Common.{ℕ, Bool, List, [], ◌∷◌, inl, inr}
use Rattle.std.specs.List.{AllByRecursion}
use Rattle.definitions.specs.Dnskey.{Dnskey}
use Rattle.definitions.specs.Name.{Name}
use Rattle.messages.specs.Message.{Message, Spelled}
use Rattle.answer_judge.specs.Honest.{AnswersHonest, HasSignature, IsHonest, IsSignedOfVersion, IsVersion, SignedOfKeys, Settled, SignedOfVersion, Signing, WasSigned, over, sought_of_answer}
use Rattle.answer_judge.specs.Versions.{Version}
use Rattle.answer_judge_facts.specs.Sought.{Sought}
use Rattle.answer_judge.specs.Judging.{Answer, JudgeInput}
use Rattle.answer_judge_table.specs.Table.{AreTrue, Tried, answers_with, tried}

module _ (fewer passes : Tried → Bool) (true_are : AreTrue fewer passes) (k : ℕ) (h : JudgeInput) where
  -- what was signed is the same, as names have the same hashes
  version_signed : (signings : List Signing) (octets : List ℕ) → IsSignedOfVersion (answers_with passes) h.apex signings octets → IsSignedOfVersion (answers_with fewer) h.apex signings octets
  version_signed signings octets is = record { signing = is.signing; there = is.there; rrset = is.rrset; of = is.of; fields = is.fields; times_are = is.times_are; over = is.over }

  still_signed : (published : List Dnskey) (signings : List Signing) (octets : List ℕ) → WasSigned (answers_with passes) h.apex published signings octets → WasSigned (answers_with fewer) h.apex published signings octets
  still_signed published signings octets (SignedOfKeys is) = SignedOfKeys is
  still_signed published signings octets (SignedOfVersion is) = SignedOfVersion (version_signed signings octets is)

  stays : (published : List Dnskey) (signings : List Signing) (sought : List Spelled → Sought) (m : List ℕ) → IsHonest (answers_with passes) k h published (WasSigned (answers_with passes) h.apex published signings) sought m
      → IsHonest (answers_with fewer) k h published (WasSigned (answers_with fewer) h.apex published signings) sought m
  stays published signings sought m is = record {
    octets_are = is.octets_are;
    unforged = λ read r f signature key reads used known usable some verifies.
        let octets = over (sought read.records) r f in
        still_signed published signings octets (is.unforged read r f signature key reads used known usable some (true_are (tried key octets signature) verifies));
  }

  version_stays : (v : Version) → IsVersion (answers_with passes) h v → IsVersion (answers_with fewer) h v
  version_stays v is = record { records_are = is.records_are; in_order = is.in_order; few = is.few; chain = is.chain; apart = is.apart; truly = is.truly }

  versions_stay : (versions : List Version) → AllByRecursion (IsVersion (answers_with passes) h) versions → AllByRecursion (IsVersion (answers_with fewer) h) versions
  versions_stay [] are = tt
  versions_stay (v ∷ versions) are = (version_stays v are.0, versions_stay versions are.1)

  -- one RRset that is signed is the only one
  signature_stays : (published : List Dnskey) (sought : Sought) (m : List ℕ) (read : Message) (o : Name) (t : ℕ) → HasSignature (answers_with fewer) k h published sought m read o t → HasSignature (answers_with passes) k h published sought m read o t
  signature_stays published sought m read o t is = record {
    rrsig = is.rrsig;
    fields = is.fields;
    signature = is.signature;
    key = is.key;
    may_be_used = is.may_be_used;
    owner_is = is.owner_is;
    covered_is = is.covered_is;
    key_published = is.key_published;
    key_usable = is.key_usable;
    some = is.some;
    passes = true_are (tried is.key (over sought is.rrsig is.fields) is.signature) is.passes;
  }

  settled_stays : (published : List Dnskey) (versions : List Version) (signings : List Signing) → Settled (answers_with passes) k h published versions signings → Settled (answers_with fewer) k h published versions signings
  settled_stays published versions signings (inl never) = inl never
  settled_stays published versions signings (inr (inl one)) = inr (inl one)
  settled_stays published versions signings (inr (inr single)) = inr (inr (λ read o p t u reads x y.
      let sought = sought_of_answer k h read.records in
      single read o p t u reads (signature_stays published sought h.answer_bytes read o t x) (signature_stays published sought h.answer_bytes read p u y)))

  -- an answer where fewer pass, where these do
  pub stays_honest : (answer : Answer) → AnswersHonest (answers_with fewer) k h answer → AnswersHonest (answers_with passes) k h answer
  stays_honest answer by_fewer versions are = by_fewer versions (record {
    published = are.published;
    signings = are.signings;
    apex_is = are.apex_is;
    one = are.one;
    versions_are = versions_stay versions are.versions_are;
    asked_is = are.asked_is;
    ds_some = are.ds_some;
    flags_are = are.flags_are;
    of_versions = are.of_versions;
    settled = settled_stays are.published versions are.signings are.settled;
    keys_honest = stays _ _ _ _ are.keys_honest;
    keys_known = are.keys_known;
    answer_honest = stays _ _ _ _ are.answer_honest;
  })
