-- What is verified in an honest answer are true facts of a version.
use Rattle.std.proofs.Common.{◌≡◌, ◌⊎◌, ℕ, ◌<◌, ◌≤◌, true, false, ◌&&◌, List, [], ◌∷◌, ◌++◌, length, Option, Some, None, Ok, eqb, refl, sym, ap, subst, ◌∙◌, inl, inr, arith}
use Rattle.std.specs.Prelude.{◌==◌, Contains, IfSome, nat_le, nat_lt}
use Rattle.std.specs.List.{AllByRecursion, filter_map}
use Rattle.std.specs.Option.{option_map}
use Rattle.std.proofs.lemmas.Bool.{and_from, and_parts, eqb-true, false≢true, leb-true, ltb-true, or_cases}
use Rattle.std.proofs.lemmas.List.{length-map}
use Rattle.std.specs.Str.{str_to_ascii_lowercase}
use Rattle.definitions.specs.Dnskey.{Dnskey}
use Rattle.definitions.specs.Name.{Name, IsName, low, same, wire, at_or_above}
use Rattle.definitions.specs.Signing.{Fields, label_count}
use Rattle.definitions.specs.Zone.{Zone, Rr, has, data_at, is_of}
use Rattle.definitions.specs.ZoneChain.{Mode, Nsec, Nsec3}
use Rattle.definitions.proofs.Members.{any_of, in_contained}
use Rattle.denial_laws.specs.Facts.{HashLink, Link, Rrset}
use Rattle.denial_laws.specs.Truth.{IsServable, IsTrueRrset, is_added_type, is_signed}
use Rattle.denial_laws.proofs.ChainBits.{all_at}
use Rattle.messages.specs.Handed.{IsHanded}
use Rattle.messages.specs.Message.{HashedNext, Message, Spelled, canonical_data, data_of, message, nsec3_at, nsec3_of, nsec_at}
use Rattle.messages.proofs.Lists.{Has}
use Rattle.messages.proofs.ZoneNames.{labels_eq-same}
use Rattle.answer_terms.specs.Accepting.{sorted_records}
use Rattle.answer_terms.specs.Hashing.{hash_in}
use Rattle.answer_scheme.specs.Answers.{Answers}
use Rattle.answer_judge.specs.Honest.{IsHonest, Signing, WasSigned, sought_of_answer}
use Rattle.answer_judge.specs.Versions.{IsOfChain, IsRrsetOf, OfZone, OfChain, OfMade, OfParameters, SignedRrset, Version, zone_in}
use Rattle.answer_judge_facts.specs.Trusted.{labels_fit, may_expand}
use Rattle.answer_judge.specs.Judged.{trusting}
use Rattle.answer_judge.specs.Judging.{JudgeInput}
use Rattle.answer_judge_facts.specs.Sought.{answer_sought}
use Rattle.answer_judge_facts.specs.Verified.{Trusting, datum_of, hash_link_at, hash_link_with, is_hash_alone, is_hash_link, is_link, is_verified, link_at, link_of, rrset_in, verified_by, verified_rrset}
use Rattle.answer_judge.proofs.GivenNext.{canonical_nsec, canonical_nsec3}
use Rattle.answer_judge_facts.proofs.GivenSorted.{data_has}
use Rattle.answer_judge_facts.proofs.JudgeCase.{rrset_in-owner, signed_owner-owner}
use Rattle.answer_judge_facts.proofs.JudgeTimes.{sought-owner}
use Rattle.answer_judge_facts.proofs.KeptItems.{kept_has, mapped, only_item, when}
use Rattle.answer_judge.proofs.HonestReads.{IsDatum, message_read, rrset_read}
use Rattle.answer_judge.proofs.HonestTold.{IsOf, IsOfSigning, Tells, owner_whole, signed_of_version}
use Rattle.answer_judge.proofs.HonestUsed.{asked_sought, first_there, hash_sought, link_sought, not_keys}
use Rattle.answer_judge.proofs.HonestVerified.{Found, IsOver, IsSigner, due_labels, first_verifying, over_signed}

-- ---- labels

-- without a wildcard the labels are the owner's
whole_labels : (apex owner : Name) (f : Fields) → may_expand f.covered ≡ false → labels_fit apex owner f ≡ true → f.labels ≡ label_count owner
whole_labels apex owner f whole e = elim (or_cases (f.labels == label_count owner) _ e) [
  | inl equal ↦ eqb-true f.labels (label_count owner) equal
  | inr more ↦ absurd (false≢true (sym whole ∙ (and_parts (may_expand f.covered) (nat_lt f.labels (label_count owner)) (and_parts (may_expand f.covered && nat_lt f.labels (label_count owner)) (nat_le (length apex) f.labels) more).0).0))
]

-- with one they are not above the apex
expanded_labels : (apex owner : Name) (f : Fields) → nat_lt f.labels (label_count owner) ≡ true → labels_fit apex owner f ≡ true → length apex ≤ f.labels
expanded_labels apex owner f fewer e = elim (or_cases (f.labels == label_count owner) _ e) [
  | inl equal ↦
      let is : f.labels ≡ label_count owner = eqb-true f.labels (label_count owner) equal in
      let less : f.labels < label_count owner = ltb-true f.labels (label_count owner) fewer in
      absurd (omega arith)
  | inr more ↦ leb-true (length apex) f.labels (and_parts (may_expand f.covered && nat_lt f.labels (label_count owner)) (nat_le (length apex) f.labels) more).1
]

-- ---- a version

-- of the type of a record of denial
abbrev pub IsOfDenial : SignedRrset → Type 0
IsOfDenial x = (x.rtype ≡ 47) ⊎ (x.rtype ≡ 50)

denial_added : (x : SignedRrset) → IsOfDenial x → is_added_type x.rtype ≡ true
denial_added x is = elim is [ inl e ↦ ap is_added_type e | inr e ↦ ap is_added_type e ]

pub denial_no_key : (x : SignedRrset) → IsOfDenial x → x.rtype ≡ 48 → ⊥
denial_no_key x is e = elim is [
  | inl k ↦ false≢true (ap (λ (n : ℕ). eqb n 48) (sym k ∙ e))
  | inr k ↦ false≢true (ap (λ (n : ℕ). eqb n 48) (sym k ∙ e))
]

-- a version of a zone in order
pub record IsKnown (apex : Name) (v : Version) : Type 0 where
  pub servable : IsServable (zone_in apex v)
  pub apex_is : IsName apex
  pub handed : AllByRecursion IsHanded (sorted_records v.records)
  pub denials : AllByRecursion IsOfDenial v.made

pub signed_has : (z : Zone) (o : Name) (t : ℕ) → is_signed z o t ≡ true → has z o t ≡ true
signed_has z o t h = (and_parts _ (has z o t) h).1

-- no zone has a type that signing adds
pub not_added : (apex : Name) (v : Version) → IsServable (zone_in apex v) → (o : Name) (t : ℕ) → is_added_type t ≡ true → has (zone_in apex v) o t ≡ true → ⊥
not_added apex v servable o t added h =
    let z : Zone = zone_in apex v in
    let r = any_of (is_of o t) z.records h in
    let kind : r.0.rtype ≡ t = eqb-true r.0.rtype t (and_parts _ (r.0.rtype == t) r.1.1).1 in
    false≢true (sym (all_at (λ (x : Rr). is_added_type x.rtype ≡ false) z.records r.0 servable.ordinary r.1.0) ∙ ap is_added_type kind ∙ added)

-- ---- the RRset of the question

-- the type of a chain's record
pub chain_type : (z : Zone) (hash : Name → List ℕ) (mode : Mode) (x : SignedRrset) → IsOfChain z hash mode x → is_added_type x.rtype ≡ true
chain_type z hash Nsec x is = ap is_added_type is.rtype_is
chain_type z hash (Nsec3 iterations salt optout) x is = ap is_added_type is.rtype_is

module _ (apex : Name) (hash : Name → List ℕ) (v : Version) (denials : AllByRecursion IsOfDenial v.made) (q : Name) (t : ℕ) (asked : is_added_type t ≡ false) where
  abbrev zone : Zone
  zone = zone_in apex v

  rrset_of : (f : Fields) (items : List (List ℕ)) → f.covered ≡ t → labels_fit apex q f ≡ true → IsOf apex hash v f q items → IsTrueRrset zone q t (record { datas = items; labels = f.labels })
  rrset_of f items covered fit x = go x.rrset x.of x.tells
    where
      added : (g : SignedRrset) → f.covered ≡ g.rtype → is_added_type g.rtype ≡ true → ⊥
      added g e h = false≢true (sym asked ∙ ap is_added_type (sym covered ∙ e) ∙ h)

      go : (g : SignedRrset) → IsRrsetOf apex hash v g → Tells f q items g → IsTrueRrset zone q t (record { datas = items; labels = f.labels })
      go g (OfChain is) y = absurd (added g y.covered (chain_type zone hash v.mode g is))
      go g (OfMade i) y = absurd (added g y.covered (denial_added g (all_at IsOfDenial v.made g denials (in_contained v.made g i.0 i.1 i.2))))
      go g (OfParameters o e) y = absurd (added g y.covered (ap is_added_type e))
      go g (OfZone signed datas) y =
          let kind : g.rtype ≡ t = sym y.covered ∙ covered in
          record {
            signed = (λ i. is_signed zone (y.owners i) (sym kind i)) ∙ signed;
            datas = y.contents ∙ datas ∙ (λ i. data_at zone (sym y.owners i) (kind i));
            inside = λ e. let long : length apex ≤ f.labels = expanded_labels apex q f e fit in omega (arith, length-map apex str_to_ascii_lowercase);
          }

-- ---- records of a chain

-- a record is that of a name of the chain, or was made: it has this owner, and the one datum of this RRset
pub record IsChainRecord (z : Zone) (hash : Name → List ℕ) (mode : Mode) (made : List SignedRrset) (t : ℕ) (r : Spelled) (d : List ℕ) : Type 0 where
  pub rrset : SignedRrset
  pub of : IsOfChain z hash mode rrset ⊎ Contains made rrset
  pub type_is : rrset.rtype ≡ t
  pub owner_is : low r.owner ≡ low rrset.owner
  pub data_is : (e : List ℕ) → rrset.datas ≡ e ∷ [] → d ≡ e

-- an NSEC record that is verified
pub record IsNextRecord (z : Zone) (hash : Name → List ℕ) (mode : Mode) (made : List SignedRrset) (k : ℕ) (m : List ℕ) (r : Spelled) (l : Link) : Type 0 where
  pub next : Name × List ℕ
  pub reads : nsec_at k m r ≡ Some next
  pub is : record { owner = r.owner; next = next.0; bits = next.1 } ≡ l
  pub chain : IsChainRecord z hash mode made 47 r (wire next.0 ++ next.1)

-- an NSEC3 record that is verified
pub record IsHashRecord (z : Zone) (hash : Name → List ℕ) (mode : Mode) (made : List SignedRrset) (m : List ℕ) (r : Spelled) (l : HashLink) : Type 0 where
  pub next : HashedNext
  pub reads : nsec3_of (data_of m r) ≡ Some next
  pub is : hash_link_with r.owner next ≡ l
  pub chain : IsChainRecord z hash mode made 50 r (data_of m r)

-- ---- what is found in an honest answer

module _ (a : Answers) (k : ℕ) (h : JudgeInput) (published : List Dnskey) (signings : List Signing) (read : Message)
    (honest : IsHonest a k h published (WasSigned a h.apex published signings) (sought_of_answer k h) h.answer_bytes) (reads : message k h.answer_bytes ≡ Ok read) (keys : List Dnskey) (signers : (key : Dnskey) → Has keys key → IsSigner published key) where
  abbrev items : Name → ℕ → List (List ℕ)
  items owner u = rrset_in k h.answer_bytes read.records owner u

  -- an RRset that is sought, and verified, is of a version
  pub of_rrset : (owner : Name) (u : ℕ) → (sought_of_answer k h read.records).is owner u ≡ true → eqb u 48 ≡ false → (x : Found (trusting a h keys) k h.answer_bytes read.records owner u (items owner u))
      → IsOfSigning a h.apex signings x.by.fields owner (items owner u)
  of_rrset owner u sought other x =
      let m : List ℕ = h.answer_bytes in
      let is : (sought_of_answer k h read.records).is x.spelled.owner x.by.fields.covered ≡ true =
      ap ((sought_of_answer k h read.records).is x.spelled.owner) x.by.covered ∙ sought-owner k m h.apex read.records h.asked.name h.asked.rtype x.spelled.owner owner u x.by.owner_is ∙ sought in
      let covers : rrset_in k m read.records x.spelled.owner x.by.fields.covered ≡ items owner u =
      ap (rrset_in k m read.records x.spelled.owner) x.by.covered ∙ rrset_in-owner k m read.records x.spelled.owner owner u x.by.owner_is in
      let data_are : AllByRecursion IsDatum (items owner u) = rrset_read k m read.records owner u honest.octets_are (message_read k m read honest.octets_are reads) in
      let signed : IsOver (WasSigned a h.apex published signings) x.by.fields x.spelled.owner (items owner u) =
      over_signed a k h published (WasSigned a h.apex published signings) (sought_of_answer k h) m read honest reads keys signers owner u (items owner u) data_are x is covers in
      let was : IsOfSigning a h.apex signings x.by.fields x.spelled.owner (items owner u) = signed_of_version a h.apex published signings x.by.fields x.spelled.owner (items owner u) signed (ap (λ n. eqb n 48) x.by.covered ∙ other) in
      let tells : Tells x.by.fields x.spelled.owner (items owner u) was.is.rrset = was.is.tells in
      record {
        signing = was.signing;
        there = was.there;
        is = record {
          rrset = was.is.rrset;
          of = was.is.of;
          tells = record {
            covered = tells.covered;
            owners = signed_owner-owner x.by.fields.labels owner x.spelled.owner (sym x.by.owner_is) ∙ tells.owners;
            contents = tells.contents;
          };
        };
        times = was.times;
      }

-- What is used of an answer is of one version: each RRset that is sought, as its first signature verifies it.
abbrev pub IsOfVersion : Answers → ℕ → JudgeInput → Version → Message → List Dnskey → Type 0
IsOfVersion a k h v read keys =
    (owner : Name) (u : ℕ) → (sought_of_answer k h read.records).is owner u ≡ true → eqb u 48 ≡ false
    → (f : Fields) → verified_by (trusting a h keys) k h.answer_bytes read.records owner u (rrset_in k h.answer_bytes read.records owner u) ≡ Some f
    → IsOf h.apex (hash_in a.hash v.mode) v f owner (rrset_in k h.answer_bytes read.records owner u)

module _ (a : Answers) (k : ℕ) (h : JudgeInput) (v : Version) (known : IsKnown h.apex v) (read : Message) (keys : List Dnskey) (asked : is_added_type h.asked.rtype ≡ false) (is_of : IsOfVersion a k h v read keys) where
  abbrev zone_here : Zone
  zone_here = zone_in h.apex v

  abbrev hash : Name → List ℕ
  hash = hash_in a.hash v.mode

  abbrev m : List ℕ
  m = h.answer_bytes

  abbrev q : Name
  q = h.asked.name

  abbrev t : ℕ
  t = h.asked.rtype

  abbrev w : Trusting
  w = trusting a h keys

  abbrev rrset : Name → ℕ → List (List ℕ)
  rrset owner u = rrset_in k m read.records owner u

  -- a first signature of an RRset that is sought is used
  used : (owner : Name) (u : ℕ) → (answer_sought k m h.apex read.records q t).is owner u ≡ true → eqb u 48 ≡ false → (f : Fields) (e : verified_by w k m read.records owner u (rrset owner u) ≡ Some f)
      → (x : Found w k m read.records owner u (rrset owner u)) × IsOf h.apex hash v x.by.fields owner (rrset owner u) × (x.by.fields ≡ f)
  used owner u sought other f e =
      let first = first_verifying w k m read.records owner u (rrset owner u) f e in
      (first.0, subst (λ (y : Fields). IsOf h.apex hash v y owner (rrset owner u)) (sym first.1) (is_of owner u sought other f e), first.1)

  -- ---- the RRset of the question

  rrset_true : (x : Rrset) → verified_rrset w k m read.records q t ≡ Some x → IsTrueRrset zone_here q t x
  rrset_true x e =
      let f = mapped (λ (f : Fields). record { datas = rrset q t; labels = f.labels }) (verified_by w k m read.records q t (rrset q t)) x e in
      let first = used q t (asked_sought k m h.apex read.records q t) (not_keys t asked) f.0 f.1 in
      let by = first.0.by in
      let is : IsTrueRrset zone_here q t (record { datas = rrset q t; labels = by.fields.labels }) =
      rrset_of h.apex hash v known.denials q t asked by.fields (rrset q t) by.covered (due_labels h.apex h.now q by.fields by.due) first.1 in
      subst (IsTrueRrset zone_here q t) ((λ i. record { datas = rrset q t; labels = (first.2 i).labels }) ∙ f.2) is

  pub question_true : IfSome (verified_rrset w k m read.records q t) (IsTrueRrset zone_here q t)
  question_true = go (verified_rrset w k m read.records q t) refl
    where
      go : (o : Option Rrset) → verified_rrset w k m read.records q t ≡ o → IfSome o (IsTrueRrset zone_here q t)
      go None e = tt
      go (Some x) e = rrset_true x e

  -- ---- records of a chain

  -- the RRset of a record that stands alone
  chain_datum : (u : ℕ) (r : Spelled) (d : List ℕ) → Has read.records r → (r.class == 1) ≡ true → (r.rtype == u) ≡ true → canonical_data k m r ≡ Some d → Has (rrset r.owner u) d
  chain_datum u r d i class kind e =
      let open_gate : ((r.class == 1) && (r.rtype == u) && same r.owner r.owner) ≡ true = and_from _ _ (and_from _ _ class kind) (labels_eq-same (low r.owner) (low r.owner) refl) in
      data_has (filter_map (datum_of k m r.owner u) read.records) d
      (kept_has (datum_of k m r.owner u) read.records r d i (ap (λ b. elim b as (λ _. Option (List ℕ)) [ true ↦ canonical_data k m r | false ↦ None ]) open_gate ∙ e))

  chain_found : (u : ℕ) (r : Spelled) (d : List ℕ) → is_added_type u ≡ true → eqb u 48 ≡ false → (u ≡ 51 → ⊥) → may_expand u ≡ false → (answer_sought k m h.apex read.records q t).is r.owner u ≡ true → Has read.records r → (r.class == 1) ≡ true → (r.rtype == u) ≡ true → canonical_data k m r ≡ Some d
      → is_verified w k m read.records r.owner u (rrset r.owner u) ≡ true → IsChainRecord zone_here hash v.mode v.made u r d
  chain_found u r d added not_keys other whole sought i class kind e verified = go x.by.fields x.by.covered labels is.rrset is.of is.tells
    where
      f : (f : Fields) × (verified_by w k m read.records r.owner u (rrset r.owner u) ≡ Some f)
      f = first_there w k m read.records r.owner u (rrset r.owner u) verified

      first : (x : Found w k m read.records r.owner u (rrset r.owner u)) × IsOf h.apex hash v x.by.fields r.owner (rrset r.owner u) × (x.by.fields ≡ f.0)
      first = used r.owner u sought not_keys f.0 f.1

      x : Found w k m read.records r.owner u (rrset r.owner u)
      x = first.0

      is : IsOf h.apex hash v x.by.fields r.owner (rrset r.owner u)
      is = first.1

      labels : x.by.fields.labels ≡ label_count r.owner
      labels = whole_labels h.apex r.owner x.by.fields (ap may_expand x.by.covered ∙ whole) (due_labels h.apex h.now r.owner x.by.fields x.by.due)

      inside : Has (rrset r.owner u) d
      inside = chain_datum u r d i class kind e

      denies : (f : Fields) → f.covered ≡ u → f.labels ≡ label_count r.owner → (g : SignedRrset) → IsOfChain zone_here hash v.mode g ⊎ Contains v.made g → Tells f r.owner (rrset r.owner u) g → IsChainRecord zone_here hash v.mode v.made u r d
      denies f c l g of y = record {
        rrset = g;
        of = of;
        type_is = sym y.covered ∙ c;
        owner_is = sym (owner_whole f.labels r.owner l) ∙ y.owners;
        data_is = λ e one. only_item (rrset r.owner u) e d (y.contents ∙ one) inside;
      }

      go : (f : Fields) → f.covered ≡ u → f.labels ≡ label_count r.owner → (g : SignedRrset) → IsRrsetOf h.apex hash v g → Tells f r.owner (rrset r.owner u) g → IsChainRecord zone_here hash v.mode v.made u r d
      go f c l g (OfZone signed datas) y = absurd (not_added h.apex v known.servable (low g.owner) g.rtype (ap is_added_type (sym y.covered ∙ c) ∙ added) (signed_has zone_here (low g.owner) g.rtype signed))
      go f c l g (OfParameters o e) y = absurd (other (sym c ∙ y.covered ∙ e))
      go f c l g (OfChain of) y = denies f c l g (inl of) y
      go f c l g (OfMade i) y = denies f c l g (inr i) y

  -- ---- NSEC

  pub next_record : (r : Spelled) (l : Link) → Has read.records r → link_at w k m read.records r ≡ Some l → IsNextRecord zone_here hash v.mode v.made k m r l
  next_record r l i e =
      let gate = when (is_link w k m read.records r) (link_of k m r) l e in
      let n = mapped (λ (n : Name × List ℕ). record { owner = r.owner; next = n.0; bits = n.1 }) (nsec_at k m r) l gate.1 in
      let items = rrset r.owner 47 in
      let v = and_parts ((r.rtype == 47) && (r.class == 1) && at_or_above h.apex r.owner && (length items == 1)) (is_verified w k m read.records r.owner 47 items) gate.0 in
      let o = and_parts ((r.rtype == 47) && (r.class == 1) && at_or_above h.apex r.owner) (length items == 1) v.0 in
      let b = and_parts ((r.rtype == 47) && (r.class == 1)) (at_or_above h.apex r.owner) o.0 in
      let c = and_parts (r.rtype == 47) (r.class == 1) b.0 in
      let d : canonical_data k m r ≡ Some (wire n.0.0 ++ n.0.1) = canonical_nsec k m r (eqb-true r.rtype 47 c.0) ∙ ap (λ (x : Option (Name × List ℕ)). elim x as (λ _. Option (List ℕ)) [ None ↦ None | Some n ↦ Some (wire n.0 ++ n.1) ]) n.1 in
      record { next = n.0; reads = n.1; is = n.2; chain = chain_found 47 r (wire n.0.0 ++ n.0.1) refl refl (λ e. false≢true (ap (λ n. eqb n 51) e)) refl (link_sought k m h.apex read.records q t r.owner b.1 o.1) i c.1 c.0 d v.1 }

  -- ---- NSEC3

  pub hash_record : (r : Spelled) (l : HashLink) → Has read.records r → hash_link_at w k m read.records r ≡ Some l → IsHashRecord zone_here hash v.mode v.made m r l
  hash_record r l i e =
      let gate = when (is_hash_link w k m read.records r) (option_map (hash_link_with r.owner) (nsec3_at m r)) l e in
      let n = mapped (hash_link_with r.owner) (nsec3_at m r) l gate.1 in
      let items = rrset r.owner 50 in
      let v = and_parts ((r.rtype == 50) && (r.class == 1) && is_hash_alone k m h.apex read.records r.owner) (is_verified w k m read.records r.owner 50 items) gate.0 in
      let o = and_parts ((r.rtype == 50) && (r.class == 1)) (is_hash_alone k m h.apex read.records r.owner) v.0 in
      let c = and_parts (r.rtype == 50) (r.class == 1) o.0 in
      let d : canonical_data k m r ≡ Some (data_of m r) = canonical_nsec3 k m r (eqb-true r.rtype 50 c.0) ∙ ap (λ (x : Option HashedNext). elim x as (λ _. Option (List ℕ)) [ None ↦ None | Some n ↦ Some (data_of m r) ]) n.1 in
      record { next = n.0; reads = n.1; is = n.2; chain = chain_found 50 r (data_of m r) refl refl (λ e. false≢true (ap (λ n. eqb n 51) e)) refl (hash_sought k m h.apex read.records q t r.owner o.1) i c.1 c.0 d v.1 }
