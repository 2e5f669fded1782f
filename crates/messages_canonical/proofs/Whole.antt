-- A whole message in canonical form.
use Rattle.std.proofs.Common.{◌≡◌, ℕ, ◌+◌, ◌<◌, ◌≤◌, List, ◌++◌, length, map, take, Ok, sym, ap, subst, ◌∙◌, length-append, length-take, arith}
use Rattle.std.specs.Prelude.{slice_index}
use Rattle.std.specs.Int.{w16, to_be_bytes}
use Rattle.std.specs.List.{flat_map}
use Rattle.definitions.specs.Name.{wire}
use Rattle.definitions.specs.Limits.{pointer_limit}
use Rattle.messages.specs.declared.view.ViewRecord.{ViewRecord}
use Rattle.messages.specs.Message.{Message, message}
use Rattle.messages.specs.Record.{spelled}
use Rattle.messages.specs.Written.{question_octets, record_octets}
use Rattle.messages.specs.WrittenLaws.{ReadsBack}
use Rattle.messages.proofs.MessageWritten.{wire-length}
use Rattle.messages_canonical.specs.Canonical.{IsCanonical, IsTooLong, canonical_octets, canonical_records, head_octets, most_octets}
use Rattle.messages_canonical.proofs.HeadRead.{head_of}
use Rattle.messages.proofs.MessageParts.{octets_all}
use Rattle.messages_canonical.proofs.WrittenBack.{reads_back}

-- header and question take no more than twelve octets, a name and four
pub head_short : (m : List ℕ) (read : Message) → ((i : ℕ) → slice_index m i < 256) → message pointer_limit m ≡ Ok read → length (head_octets m read.asked) ≤ most_octets
unfolding question_octets
head_short m read small reads =
    let q = read.asked in
    let name = (head_of pointer_limit m read (octets_all m small) reads).asked.name in
    let w = wire q.name in
    let t = to_be_bytes w16 q.rtype in
    let c = to_be_bytes w16 q.class in
    omega (arith, length-append (take 12 m) (w ++ t ++ c), length-append (w ++ t) c, length-append w t, length-take 12 m, wire-length q.name, name.short)

module _ (m : List ℕ) (read : Message) (rs : List ViewRecord) (small : (i : ℕ) → slice_index m i < 256) (reads : message pointer_limit m ≡ Ok read) (listed : map spelled rs ≡ read.records) where
  abbrev body : List ℕ
  body = flat_map record_octets (canonical_records pointer_limit m (map spelled rs))

  whole : head_octets m read.asked ++ body ≡ canonical_octets pointer_limit m read
  whole = ap (λ r. head_octets m read.asked ++ flat_map record_octets (canonical_records pointer_limit m r)) listed

  pub canonical_is : (a b : List ℕ) → a ≡ head_octets m read.asked → b ≡ a ++ body → length b ≤ most_octets → IsCanonical m b
  canonical_is a b p q short =
      let octets_are : b ≡ canonical_octets pointer_limit m read = q ∙ ap (λ (l : List ℕ). l ++ body) p ∙ whole in
      let room : length (canonical_octets pointer_limit m read) ≤ most_octets = subst (λ (l : List ℕ). length l ≤ most_octets) octets_are short in
      record {
        read = read;
        reads = reads;
        octets_are = octets_are;
        short = short;
        back = subst (λ (l : List ℕ). ReadsBack l read.asked (canonical_records pointer_limit m read.records)) (sym octets_are) (reads_back m read (octets_all m small) reads room);
      }

  pub too_long_is : (a : List ℕ) → a ≡ head_octets m read.asked → most_octets < length a + length body → IsTooLong m
  too_long_is a p long = record {
    read = read;
    reads = reads;
    long = omega (arith, ap length whole, length-append (head_octets m read.asked) body, ap length p, long);
  }
