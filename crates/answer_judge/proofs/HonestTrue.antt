-- All that is verified in an honest answer is true of a version, whichever chain it has.
use Rattle.std.proofs.Common.{◌≡◌, ℕ, List, Some, false}
use Rattle.std.specs.List.{AllByRecursion}
use Rattle.definitions.specs.Dnskey.{Dnskey}
use Rattle.definitions.specs.Name.{Name}
use Rattle.definitions.specs.Zone.{Zone}
use Rattle.definitions.specs.ZoneChain.{Mode, Nsec, Nsec3}
use Rattle.denial_laws.specs.Facts.{Facts, HashLink}
use Rattle.denial_laws.specs.Truth.{AreTrue, NoSharedHash, SaysTruly, SaysTrulyHash, is_added_type}
use Rattle.messages.specs.HandedRr.{HandedRr}
use Rattle.messages.specs.Message.{AreOctets, Message, Spelled}
use Rattle.messages.proofs.Lists.{Has}
use Rattle.answer_scheme.specs.Answers.{Answers}
use Rattle.answer_terms.specs.Hashing.{hash_in}
use Rattle.answer_judge.specs.Versions.{IsMade, SignedRrset, Version, zone_in}
use Rattle.answer_judge.specs.Judged.{trusting}
use Rattle.answer_judge.specs.Judging.{JudgeInput}
use Rattle.answer_judge_facts.specs.Verified.{Trusting, hash_link_at, link_at, verified_facts}
use Rattle.answer_judge_facts.proofs.KeptItems.{all_kept_of, none_kept_of}
use Rattle.answer_judge.proofs.GivenFacts.{FitsRecords}
use Rattle.answer_judge.proofs.GivenHashing.{AreHashedBy, SaysHashing}
use Rattle.answer_judge.proofs.HonestChain.{SaysHere, hash_true, next_true, no_hashes, no_names}
use Rattle.answer_judge.proofs.HonestFacts.{IsKnown, IsOfVersion, hash_record, next_record, question_true}

-- true, and hashed as the version hashes
pub record AreTrueHere (apex : Name) (hash : Name → List ℕ) (v : Version) (q : Name) (t : ℕ) (f : Facts) : Type 0 where
  pub true_facts : AreTrue (zone_in apex v) hash v.mode q t f
  pub hashed : AreHashedBy v.mode f.hash_links

module _ (a : Answers) (k : ℕ) (h : JudgeInput) (rs : List HandedRr) (made : List SignedRrset) (read : Message) (keys : List Dnskey) (asked : is_added_type h.asked.rtype ≡ false) (octets : AreOctets h.answer_bytes) where
  abbrev w : Trusting
  w = trusting a h keys

  abbrev facts : Facts
  facts = verified_facts w k h.answer_bytes read.records h.asked.name h.asked.rtype

  abbrev of : Mode → Version
  of mode = record { records = rs; mode = mode; made = made }

  pub true_here : (mode : Mode) → IsKnown h.apex (of mode) → NoSharedHash (zone_in h.apex (of mode)) (hash_in a.hash mode) mode h.asked.name → AllByRecursion (IsMade (zone_in h.apex (of mode)) (hash_in a.hash mode) mode h.asked.name) made
      → IsOfVersion a k h (of mode) read keys → FitsRecords (zone_in h.apex (of mode)) mode (hash_in a.hash mode) → AreTrueHere h.apex (hash_in a.hash mode) (of mode) h.asked.name h.asked.rtype facts
  true_here Nsec known apart truly is_of fits =
      let v : Version = of Nsec in
      let z : Zone = zone_in h.apex v in
      let hash : Name → List ℕ = hash_in a.hash Nsec in
      let none = none_kept_of (hash_link_at w k h.answer_bytes read.records) read.records (λ r l i e. no_hashes h.apex hash v known h.asked.name truly h.answer_bytes r l (hash_record a k h v known read keys asked is_of r l i e)) in
      record {
        true_facts = record {
          rrset = question_true a k h v known read keys asked is_of;
          said = (
            all_kept_of (SaysTruly z h.asked.name) (link_at w k h.answer_bytes read.records) read.records
                (λ r l i e. next_true h.apex hash v known h.asked.name truly k h.answer_bytes r l octets (next_record a k h v known read keys asked is_of r l i e)),
            none,
          );
        };
        hashed = none;
      }
  true_here (Nsec3 iterations salt optout) known apart truly is_of fits =
      let mode : Mode = Nsec3 iterations salt optout in
      let v : Version = of mode in
      let z : Zone = zone_in h.apex v in
      let hash : Name → List ℕ = hash_in a.hash mode in
      let q : Name = h.asked.name in
      let one : (r : Spelled) (l : HashLink) → Has read.records r → hash_link_at w k h.answer_bytes read.records r ≡ Some l → SaysHere h.apex hash v iterations salt optout fits.1 fits.0 q l =
      λ r l i e. hash_true h.apex hash v iterations salt optout fits.1 fits.0 q known.servable apart truly h.answer_bytes r l (hash_record a k h v known read keys asked is_of r l i e) in
      record {
        true_facts = record {
          rrset = question_true a k h v known read keys asked is_of;
          said = (
            none_kept_of (link_at w k h.answer_bytes read.records) read.records (λ r l i e. no_names h.apex hash v iterations salt optout fits.1 fits.0 q truly k h.answer_bytes r l (next_record a k h v known read keys asked is_of r l i e)),
            all_kept_of (SaysTrulyHash z hash optout q) (hash_link_at w k h.answer_bytes read.records) read.records (λ r l i e. (one r l i e).says),
          );
        };
        hashed = all_kept_of (SaysHashing iterations salt) (hash_link_at w k h.answer_bytes read.records) read.records (λ r l i e. (one r l i e).hashed);
      }
