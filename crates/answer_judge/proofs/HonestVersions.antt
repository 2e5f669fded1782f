-- What a judge uses of an honest answer is of one version of the zone.
use Rattle.std.proofs.Common.{◌≡◌, ◌⊎◌, ℕ, ◌<◌, true, false, ◌&&◌, List, [], ◌∷◌, Some, Ok, eqb, length, refl, sym, ap, subst, ◌∙◌, inl, ⊎_elim}
use Rattle.std.specs.Prelude.{◌==◌}
use Rattle.std.specs.Option.{option_map}
use Rattle.std.proofs.lemmas.Bool.{and_parts}
use Rattle.definitions.specs.Dnskey.{Dnskey}
use Rattle.definitions.specs.Name.{Name, low}
use Rattle.definitions.specs.Signing.{Fields, signed_octets, signed_owner}
use Rattle.messages.specs.Message.{Message, Spelled, message}
use Rattle.messages.proofs.Lists.{Has, some_is}
use Rattle.answer_scheme.specs.Answers.{Answers}
use Rattle.answer_terms.specs.Hashing.{hash_in}
use Rattle.answer_judge.specs.Honest.{HasOneRrset, HasSignature, IsHonest, Signing, WasSigned, over, sought_of_answer}
use Rattle.answer_judge.specs.Versions.{Version}
use Rattle.answer_judge.specs.Judged.{trusting}
use Rattle.answer_judge.specs.Judging.{JudgeInput}
use Rattle.answer_judge_facts.specs.Times.{Times, are_unlike, proof_times, times_at, times_of}
use Rattle.answer_judge_facts.specs.Verified.{Trusting, rrset_in, verified_by}
use Rattle.answer_judge_facts.proofs.JudgeCase.{rrset_in-owner, signed_octets-owner, signed_owner-owner}
use Rattle.answer_judge_facts.proofs.JudgeTimes.{alike_from, alike_verified, first_used, not_of_keys, sought-owner}
use Rattle.answer_judge_facts.proofs.KeptItems.{kept_from, mapped, when}
use Rattle.answer_judge.proofs.HonestFacts.{IsOfVersion, of_rrset}
use Rattle.answer_judge.proofs.HonestTold.{IsOf, IsOfSigning}
use Rattle.answer_judge.proofs.GivenLists.{contained_has}
use Rattle.answer_judge.proofs.HonestVerified.{IsSigner, first_verifying, of_apex, timely}

-- what was signed and may be used together is of one version
abbrev pub AreOfOne : JudgeInput → List Signing → Type 0
AreOfOne h signings = (x y : Signing) → Has signings x → Has signings y → (h.one_moment ≡ true → x.times ≡ y.times) → x.version ≡ y.version

module _ (a : Answers) (k : ℕ) (h : JudgeInput) (published : List Dnskey) (signings : List Signing) (read : Message)
    (honest : IsHonest a k h published (WasSigned a h.apex published signings) (sought_of_answer k h) h.answer_bytes) (reads : message k h.answer_bytes ≡ Ok read) (keys : List Dnskey) (signers : (key : Dnskey) → Has keys key → IsSigner published key)
    (asked : eqb h.asked.rtype 48 ≡ false) where
  abbrev w : Trusting
  w = trusting a h keys

  abbrev m : List ℕ
  m = h.answer_bytes

  abbrev times : List Times
  times = proof_times w k m read.records h.asked.name h.asked.rtype

  abbrev items : Name → ℕ → List (List ℕ)
  items o u = rrset_in k m read.records o u

  -- the first signature of an RRset that is sought
  record IsFirst (o : Name) (u : ℕ) (f : Fields) : Type 0 where
    pub sought : (sought_of_answer k h read.records).is o u ≡ true
    pub other : eqb u 48 ≡ false
    pub verifies : verified_by w k m read.records o u (items o u) ≡ Some f

  -- is of a version
  signed_at : (o : Name) (u : ℕ) (f : Fields) → IsFirst o u f → IsOfSigning a h.apex signings f o (items o u)
  signed_at o u f is =
      let first = first_verifying w k m read.records o u (items o u) f is.verifies in
      subst (λ (y : Fields). IsOfSigning a h.apex signings y o (items o u)) first.1 (of_rrset a k h published signings read honest reads keys signers o u is.sought is.other first.0)

  -- and has a signature that passes under a published key
  signed_there : (o : Name) (u : ℕ) (f : Fields) → IsFirst o u f → HasSignature a k h published (sought_of_answer k h read.records) m read o u
  signed_there o u f is =
      let x = (first_verifying w k m read.records o u (items o u) f is.verifies).0 in
      let r : Spelled = x.spelled in
      let g : Fields = x.by.fields in
      let sought_is : (sought_of_answer k h read.records).is r.owner g.covered ≡ true =
      ap ((sought_of_answer k h read.records).is r.owner) x.by.covered ∙ sought-owner k m h.apex read.records h.asked.name h.asked.rtype r.owner o u x.by.owner_is ∙ is.sought in
      let covers : items r.owner g.covered ≡ items o u = ap (items r.owner) x.by.covered ∙ rrset_in-owner k m read.records r.owner o u x.by.owner_is in
      let octets : over (sought_of_answer k h read.records) r g ≡ signed_octets g o 1 (items o u) =
      ap (signed_octets g r.owner 1) covers ∙ signed_octets-owner g r.owner o (items o u) x.by.owner_is in
      let signer : IsSigner published x.by.key = signers x.by.key x.by.trusted in
      record {
        rrsig = r;
        fields = g;
        signature = x.by.signature;
        key = x.by.key;
        may_be_used = record {
          there = contained_has read.records r x.there;
          rtype_is = x.by.type_is;
          reads = x.by.reads;
          timely = timely h.apex h.now o g x.by.due;
          signer_is = of_apex h.apex h.now o g x.by.due;
          sought_is = sought_is;
        };
        owner_is = x.by.owner_is;
        covered_is = x.by.covered;
        key_published = signer.known;
        key_usable = signer.usable;
        some = subst (λ (ds : List (List ℕ)). 0 < length ds) (sym covers) x.by.some;
        passes = ap (λ ys. a.verifies x.by.key ys x.by.signature) octets ∙ x.by.passes;
      }

  -- the one that has some times
  record IsFrom (x : Times) : Type 0 where
    pub owner : Name
    pub type_is : ℕ
    pub fields : Fields
    pub first : IsFirst owner type_is fields
    pub times_are : x ≡ times_of fields

  from : (x : Times) → Has times x → IsFrom x
  from x i =
      let r = kept_from (times_at w k m read.records h.asked.name h.asked.rtype) read.records x i in
      let o : Name = r.0.owner in
      let u : ℕ = r.0.rtype in
      let there = when ((r.0.class == 1) && (sought_of_answer k h read.records).is o u) (option_map times_of (verified_by w k m read.records o u (items o u))) x r.2 in
      let sought = (and_parts (r.0.class == 1) ((sought_of_answer k h read.records).is o u) there.0).1 in
      let f = mapped times_of (verified_by w k m read.records o u (items o u)) x there.1 in
      record {
        owner = o;
        type_is = u;
        fields = f.0;
        first = record { sought = sought; other = not_of_keys k m h.apex read.records h.asked.name h.asked.rtype o u asked sought; verifies = f.1 };
        times_are = sym f.2;
      }

  -- the version of one signing is that of all that is used
  pub record IsChosen (versions : List Version) : Type 0 where
    pub version : Version
    pub there : Has versions version
    pub is_of : IsOfVersion a k h version read keys

  module _ (of_one : (h.one_moment && are_unlike times) ≡ false) (versions : List Version) (of_versions : (s : Signing) → Has signings s → Has versions s.version) where
    same_times : (x y : Times) → Has times x → Has times y → h.one_moment ≡ true → x ≡ y
    same_times x y i j on = alike_from times (ap (λ b. b && are_unlike times) (sym on) ∙ of_one) x y i j

    -- the only RRset that is signed is of the version of its signing
    alone : (x : Times) (of : IsFrom x) (v : Version) → HasOneRrset a k h published → IsOf h.apex (hash_in a.hash v.mode) v of.fields of.owner (items of.owner of.type_is)
        → (o : Name) (u : ℕ) (f : Fields) → IsFirst o u f → IsOf h.apex (hash_in a.hash v.mode) v f o (items o u)
    alone x of v single is o u f first =
        let same : (low o ≡ low of.owner) × (u ≡ of.type_is) =
        single read o of.owner u of.type_is reads (signed_there o u f first) (signed_there of.owner of.type_is of.fields of.first) in
        let fields : f ≡ of.fields = some_is f of.fields (sym first.verifies ∙ alike_verified w k m read.records o of.owner u of.type_is same.0 same.1 ∙ of.first.verifies) in
        let datas : items o u ≡ items of.owner of.type_is = rrset_in-owner k m read.records o of.owner u same.0 ∙ ap (items of.owner) same.1 in
        record {
          rrset = is.rrset;
          of = is.of;
          tells = record {
            covered = ap (λ (y : Fields). y.covered) fields ∙ is.tells.covered;
            owners = ap (λ (y : Fields). signed_owner y.labels o) fields ∙ signed_owner-owner of.fields.labels o of.owner same.0 ∙ is.tells.owners;
            contents = datas ∙ is.tells.contents;
          };
        }

    pub chosen : AreOfOne h signings ⊎ HasOneRrset a k h published → (spare : Version) → Has versions spare → IsChosen versions
    chosen settled spare spare_there = go times refl
      where
        go : (ts : List Times) → times ≡ ts → IsChosen versions
        go [] e = record { version = spare; there = spare_there; is_of = λ owner u sought other f v. absurd (subst (λ ys. Has ys (times_of f)) e (first_used w k m read.records h.asked.name h.asked.rtype owner u sought f v)) }
        go (first ∷ rest) e =
            let i : Has times first = subst (λ ys. Has ys first) (sym e) (inl refl) in
            let of : IsFrom first = from first i in
            let at : IsOfSigning a h.apex signings of.fields of.owner (items of.owner of.type_is) = signed_at of.owner of.type_is of.fields of.first in
            record {
              version = at.signing.version;
              there = of_versions at.signing at.there;
              is_of = λ owner u sought other f v.
                  let here : IsFirst owner u f = record { sought = sought; other = other; verifies = v } in
                  ⊎_elim
                  (λ (one : AreOfOne h signings).
                  let was : IsOfSigning a h.apex signings f owner (items owner u) = signed_at owner u f here in
                  let j : Has times (times_of f) = first_used w k m read.records h.asked.name h.asked.rtype owner u sought f v in
                  let same : was.signing.version ≡ at.signing.version =
                  one was.signing at.signing was.there at.there (λ on. sym was.times ∙ same_times (times_of f) first j i on ∙ of.times_are ∙ at.times) in
                  subst (λ (v : Version). IsOf h.apex (hash_in a.hash v.mode) v f owner (items owner u)) same was.is)
                  (λ (single : HasOneRrset a k h published). alone first of at.signing.version single at.is owner u f here)
                  settled;
            }
