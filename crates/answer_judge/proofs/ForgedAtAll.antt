-- What is asked of all that may be signed holds of what stands in a message.
use Rattle.std.proofs.Common.{◌≡◌, ℕ, List, map, refl}
use Rattle.std.specs.Prelude.{Ok}
use Rattle.std.specs.List.{AllByRecursion, filter_map}
use Rattle.definitions.specs.Dnskey.{Dnskey, dnskey_data}
use Rattle.definitions.specs.Signing.{Fields, ascending, signed_octets}
use Rattle.messages.specs.Message.{AreOctets, Message, Spelled}
use Rattle.messages.proofs.Lists.{all_at}
use Rattle.answer_scheme.specs.Answers.{Answers}
use Rattle.answer_judge.specs.Judging.{JudgeInput}
use Rattle.answer_judge_facts.specs.DnskeyAnswer.{keys_in}
use Rattle.answer_judge_facts.specs.Sought.{Sought}
use Rattle.answer_judge_facts.specs.Verified.{datum_of}
use Rattle.answer_judge.specs.Honest.{NothingForged, WasSigned, sought_of_answer, sought_of_keys}
use Rattle.answer_judge.specs.ForgedAtAll.{AtAllIsEnough, NothingForgedAtAll}
use Rattle.answer_judge.proofs.GivenLists.{has_contained}
use Rattle.answer_judge.proofs.HonestKeys.{keys_read}
use Rattle.answer_judge.proofs.HonestReads.{IsDatum, ReadsRecord, fields_read, message_read, rrset_read}
use Rattle.answer_judge.proofs.HonestVerified.{signable, signed_are_octets, sorted_ascend}

-- an RRset that may be signed
pub record IsSorted (ds : List (List ℕ)) : Type 0 where
  pub data_are : AllByRecursion IsDatum ds
  pub rising : ascending ds ≡ Rattle.std.specs.Prelude.true

module _ (a : Answers) (k : ℕ) (h : JudgeInput) (published : List Dnskey) (Signed : List ℕ → Type 0) where
  of_sought : (sought : List Spelled → Sought) (m : List ℕ) → ((read : Message) (r : Spelled) (f : Fields) → AllByRecursion ReadsRecord read.records → IsSorted ((sought read.records).datas r.owner f.covered))
      → AreOctets m → NothingForgedAtAll a k h.now published Signed m → NothingForged a k h published Signed sought m
  of_sought sought m sorted octets unforged read r f signature key reads used inside usable some passes =
      let are = message_read k m read octets reads in
      let name = (all_at ReadsRecord read.records r are (has_contained read.records r used.there)).owner in
      let said = fields_read k m r (f, signature) octets used.reads in
      let ds = (sought read.records).datas r.owner f.covered in
      let is : IsSorted ds = sorted read r f are in
      unforged read r f signature (signed_octets f r.owner 1 ds) r.owner 1 ds key reads used.there used.rtype_is used.reads used.timely inside (record {
        fits = signable f r.owner ds said name.name some is.data_are;
        rising = is.rising;
        are = refl;
        octets_are = signed_are_octets f r.owner ds said name is.data_are;
      }) passes

pub at_all_is_enough : AtAllIsEnough
at_all_is_enough a k h published keys apex signings = (
  (λ octets unforged. of_sought a k h published (WasSigned a apex keys signings) (sought_of_keys h) h.dnskey_bytes
      (λ read r f are. record { data_are = keys_read h.dnskey_bytes h.apex read.records octets are; rising = sorted_ascend (map dnskey_data (keys_in h.dnskey_bytes h.apex read.records)) })
      octets unforged),
  (λ octets unforged. of_sought a k h published (WasSigned a apex keys signings) (sought_of_answer k h) h.answer_bytes
      (λ read r f are. record { data_are = rrset_read k h.answer_bytes read.records r.owner f.covered octets are; rising = sorted_ascend (filter_map (datum_of k h.answer_bytes r.owner f.covered) read.records) })
      octets unforged),
)
