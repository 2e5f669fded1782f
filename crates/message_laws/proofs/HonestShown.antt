-- What is verified in a message in which nothing is forged is true of its zone, and of its chain.
use Rattle.std.proofs.Common.{◌≡◌, ℕ, ◌<◌, Bool, true, false, List, [], ◌∷◌, ◌++◌, map, refl, sym, ap, subst, ◌∙◌, ⊎_elim, arith}
use Rattle.std.specs.Prelude.{Contains, nat_eq}
use Rattle.std.specs.List.{AllByRecursion}
use Rattle.std.specs.Char.{to_ascii_lowercase}
use Rattle.std.proofs.lemmas.Bool.{or_from, or_parts}
use Rattle.std.proofs.lemmas.List.{length-map}
use Rattle.definitions.specs.Base32hex.{base32hex}
use Rattle.definitions.specs.Bitmap.{bitmap}
use Rattle.definitions.specs.Dnskey.{Dnskey}
use Rattle.definitions.specs.Name.{IsName, Name, low, wire}
use Rattle.definitions.specs.Signing.{Fields}
use Rattle.definitions.specs.Zone.{Zone}
use Rattle.definitions.specs.ZoneChain.{Mode, Nsec, Nsec3, hashed_names, nsec3_names, nsec_names, nsec_next, nsec_types}
use Rattle.definitions.proofs.Members.{In, contained, sort_has}
use Rattle.definitions.proofs.SignedLaws.{Labelled, wire_of}
use Rattle.definitions.proofs.ZoneNames.{low-low}
use Rattle.denial_laws.specs.Facts.{HashLink, Link}
use Rattle.denial_laws.specs.OwnFacts.{hash_link_of}
use Rattle.denial_laws.specs.Truth.{IsTrueLink, is_added_type}
use Rattle.messages.specs.Handed.{IsHanded}
use Rattle.messages.specs.HandedRr.{HandedRr, among}
use Rattle.messages.specs.Message.{AreOctets, Message, Spelled, data_of, nsec3_of}
use Rattle.messages.proofs.Lists.{Has, all_at, all_sorted, some_is}
use Rattle.messages.proofs.ReadNames.{labelled}
use Rattle.answer_scheme.specs.Answers.{Answers}
use Rattle.answer_terms.specs.Accepting.{record_cmp, sorted_records}
use Rattle.answer_terms.specs.FactsCase.{low_link}
use Rattle.answer_terms.specs.HashOwner.{hash_spelled}
use Rattle.answer_terms.specs.Hashing.{hash_in}
use Rattle.answer_terms.proofs.ZoneNaming.{chain_named, lower_name, next_name}
use Rattle.answer_judge_facts.specs.Trusted.{is_usable}
use Rattle.answer_judge_facts.specs.Verified.{Trusting, hash_link_at, link_at, rrset_in, verified_links}
use Rattle.answer_judge_facts.proofs.GivenSorted.{filter_from, has_in}
use Rattle.answer_judge_facts.proofs.KeptItems.{all_kept_of, none_kept_of, passes_has}
use Rattle.answer_judge.specs.Honest.{AreHonestOf, IsVersion, Signing}
use Rattle.answer_judge.specs.Judged.{keys_of, trusting}
use Rattle.answer_judge.specs.Judging.{JudgeInput}
use Rattle.answer_judge.specs.Versions.{IsNsec3Of, IsNsecOf, Version, zone_in}
use Rattle.answer_judge.proofs.GivenGroups.{SaysHashLink, said_of}
use Rattle.answer_judge.proofs.GivenHashes.{owner_spells}
use Rattle.answer_judge.proofs.GivenLists.{has_contained}
use Rattle.answer_judge.proofs.HonestChain.{no_hashes, no_names}
use Rattle.answer_judge.proofs.HonestFacts.{IsHashRecord, IsKnown, IsNextRecord, IsOfVersion, hash_record, next_record, of_rrset, question_true}
use Rattle.answer_judge.proofs.HonestKeys.{all_published}
use Rattle.answer_judge.proofs.HonestReads.{ReadsNext, link_read}
use Rattle.answer_judge.proofs.HonestTold.{IsOf, IsOfSigning}
use Rattle.answer_judge.proofs.HonestVerified.{IsSigner, first_verifying}
use Rattle.answer_judge.proofs.OwnHashed.{by_hash, by_hash_total, hashed_group, says}
use Rattle.message_laws.specs.Honest.{HonestIsShown, HonestIsTruthful, IsHonestOn, as_published}
use Rattle.message_laws.specs.Shown.{AreOfChain, IsChainLink, ShowsKeys, shown_facts, usable_of}
use Rattle.message_laws.proofs.Held.{held_is_included}

-- ---- links of the chain

-- labels have as many octets in lower case
unlowered : (n : Name) → Labelled (low n) → Labelled n
unlowered [] h = tt
unlowered (l ∷ n) h = (omega (arith, h.0, length-map l to_ascii_lowercase), unlowered n h.1)

module _ (apex : Name) (rs : List HandedRr) (apex_is : IsName apex) (handed : AllByRecursion IsHanded (sorted_records rs)) (k : ℕ) (m : List ℕ) (octets : AreOctets m) where
  abbrev z : Zone
  z = zone_in apex (as_published Nsec rs)

  next_is_true : (hash : Name → List ℕ) (r : Spelled) (l : Link) → IsNextRecord z hash Nsec [] k m r l → IsTrueLink z l
  next_is_true hash r l x = ⊎_elim by (λ (i : Contains [] x.chain.rrset). absurd (has_contained [] x.chain.rrset i)) x.chain.of
    where
      by : IsNsecOf z x.chain.rrset → IsTrueLink z l
      by of =
          let o : Name = low x.chain.rrset.owner in
          let bits : List ℕ = bitmap (nsec_types z true o) in
          let read : ReadsNext x.next = link_read k m r x.next octets x.reads in
          let name : IsName (low of.next) = subst IsName (sym of.next_is) (next_name (low apex) o (nsec_names z) (lower_name apex apex_is) (chain_named apex (sorted_records rs) handed)) in
          let said : (x.next.0 ≡ of.next) × (x.next.1 ≡ bits) = wire_of x.next.0 of.next x.next.1 bits (labelled x.next.0 read.next.name.labels) (unlowered of.next (labelled (low of.next) name.labels)) (x.chain.data_is (wire of.next ++ bits) of.datas_are) in
          subst (IsTrueLink z) x.is (record {
            owner = subst (Contains (nsec_names z)) (sym x.chain.owner_is) of.there;
            next = ap low said.0 ∙ of.next_is ∙ ap (nsec_next z) (sym x.chain.owner_is);
            bits = said.1 ∙ ap (λ (n : Name). bitmap (nsec_types z true n)) (sym x.chain.owner_is);
          })

  module _ (hash : Name → List ℕ) (iterations : ℕ) (salt : List ℕ) (optout : Bool) (small : iterations < 65536) (hashes : (n : Name) → Contains (nsec3_names (zone_in apex (as_published (Nsec3 iterations salt optout) rs)) optout) n → AllByRecursion (λ x. x < 256) (hash n)) where
    abbrev zone : Zone
    zone = zone_in apex (as_published (Nsec3 iterations salt optout) rs)

    hash_is_true : (r : Spelled) (l : HashLink) → IsHashRecord zone hash (Nsec3 iterations salt optout) [] m r l → IsChainLink zone hash iterations salt optout l
    hash_is_true r l x = ⊎_elim by (λ (i : Contains [] x.chain.rrset). absurd (has_contained [] x.chain.rrset i)) x.chain.of
      where
        by : IsNsec3Of zone hash iterations salt optout x.chain.rrset → IsChainLink zone hash iterations salt optout l
        by of =
            let o : Name = of.name in
            let named : In o (nsec3_names zone optout) = sort_has (by_hash hash) (by_hash_total hash) (nsec3_names zone optout) o (has_in (hashed_names hash zone optout) o (has_contained (hashed_names hash zone optout) o of.there)) in
            let bytes : AllByRecursion (λ x. x < 256) (hash o) = hashes o (contained (nsec3_names zone optout) o named) in
            let say : SaysHashLink apex (hashed_group apex (sorted_records rs) hash iterations salt optout o) (hash_link_of zone hash iterations salt optout o) = says apex (sorted_records rs) hash iterations salt optout small o bytes in
            let data_is : data_of m r ≡ say.datum = x.chain.data_is say.datum (of.datas_are ∙ say.data_are) in
            let next : x.next ≡ say.next = some_is x.next say.next (sym x.reads ∙ ap nsec3_of data_is ∙ say.reads) in
            let owner : low r.owner ≡ base32hex (hash o) ∷ low apex = x.chain.owner_is ∙ of.owner_is in
            let spelled : hash_spelled r.owner ≡ hash o = (owner_spells apex r.owner (hash o) bytes owner).1 in
            let is : hash_link_of zone hash iterations salt optout o ≡ l = sym say.is ∙ (λ i. said_of (sym spelled i) (sym next i)) ∙ x.is in
            subst (IsChainLink zone hash iterations salt optout) is (record { name = o; named = of.there; owner = refl; next = refl; bits = refl; opts = refl }, refl, refl)

-- links are true in lower case, too
lowered : (z : Zone) (ls : List Link) → AllByRecursion (IsTrueLink z) ls → AllByRecursion (IsTrueLink z) (map low_link ls)
lowered z [] all = tt
lowered z (l ∷ ls) all =
    let twice : low l.owner ≡ low (low l.owner) = sym (low-low l.owner) in (
      record {
        owner = subst (Contains (nsec_names z)) twice all.0.owner;
        next = low-low l.next ∙ all.0.next ∙ ap (nsec_next z) twice;
        bits = all.0.bits ∙ ap (λ (n : Name). bitmap (nsec_types z true n)) twice;
      },
      lowered z ls all.1,
    )

-- ---- a message

-- h asks the question
module _ (a : Answers) (k : ℕ) (h : JudgeInput) (keys : ShowsKeys a k h.apex h.ds h.dnskey_bytes h.now) (read : Message) (rs : List HandedRr) where
  abbrev usable : List Dnskey
  usable = usable_of keys

  abbrev w : Trusting
  w = trusting a h usable

  abbrev q : Name
  q = h.asked.name

  abbrev t : ℕ
  t = h.asked.rtype

  module _ (mode : Mode) (x : IsHonestOn a k h keys read mode rs h.asked) where
    abbrev v : Version
    v = as_published mode rs

    honest : AreHonestOf a k h v
    honest = x.honest

    version_is : IsVersion a h v
    version_is = honest.versions_are.0

    known : IsKnown h.apex v
    known = record { servable = version_is.in_order; apex_is = honest.apex_is; handed = all_sorted IsHanded record_cmp rs version_is.records_are; denials = tt }

    one_version : (s : Signing) → Has honest.signings s → s.version ≡ v
    one_version s i = ⊎_elim (λ (e : s.version ≡ v). e) (λ (n : ⊥). absurd n) (has_contained (v ∷ []) s.version (all_at (λ (s : Signing). Contains (v ∷ []) s.version) honest.signings s honest.of_versions i))

    published : (key : Dnskey) → Has (keys_of h keys.read) key → Contains honest.published key
    published = all_published a k h honest.published honest.signings (λ s i. subst (IsKnown h.apex) (sym (one_version s i)) known) keys.read honest.keys_honest keys.reads honest.keys_known honest.flags_are keys.signed

    signers : (key : Dnskey) → Has usable key → IsSigner honest.published key
    signers key i = record { known = published key (filter_from is_usable (keys_of h keys.read) key i); usable = (passes_has is_usable (keys_of h keys.read) key i).1 }

    pub of_version : IsOfVersion a k h v read usable
    of_version owner u sought other f e =
        let items : List (List ℕ) = rrset_in k h.answer_bytes read.records owner u in
        let first = first_verifying w k h.answer_bytes read.records owner u items f e in
        let was : IsOfSigning a h.apex honest.signings f owner items =
        subst (λ (y : Fields). IsOfSigning a h.apex honest.signings y owner items) first.1 (of_rrset a k h honest.published honest.signings read honest.answer_honest x.reads usable signers owner u sought other first.0) in
        subst (λ (v : Version). IsOf h.apex (hash_in a.hash v.mode) v f owner items) (one_version was.signing was.there) was.is

  of_chain : (mode : Mode) → IsHonestOn a k h keys read mode rs h.asked → AreOfChain (zone_in h.apex (as_published mode rs)) (hash_in a.hash mode) mode (shown_facts a k h usable read h.asked)
  of_chain Nsec x =
      let v : Version = as_published Nsec rs in
      let hash : Name → List ℕ = hash_in a.hash Nsec in
      let sure : IsKnown h.apex v = known Nsec x in
      let of : IsOfVersion a k h v read usable = of_version Nsec x in (
        lowered (zone_in h.apex v) (verified_links w k h.answer_bytes read.records)
            (all_kept_of (IsTrueLink (zone_in h.apex v)) (link_at w k h.answer_bytes read.records) read.records
            (λ r l i e. next_is_true h.apex rs sure.apex_is sure.handed k h.answer_bytes x.honest.answer_honest.octets_are hash r l (next_record a k h v sure read usable x.plain of r l i e))),
        none_kept_of (hash_link_at w k h.answer_bytes read.records) read.records (λ r l i e. no_hashes h.apex hash v sure q tt h.answer_bytes r l (hash_record a k h v sure read usable x.plain of r l i e)),
      )
  of_chain (Nsec3 iterations salt optout) x =
      let mode : Mode = Nsec3 iterations salt optout in
      let v : Version = as_published mode rs in
      let hash : Name → List ℕ = hash_in a.hash mode in
      let sure : IsKnown h.apex v = known mode x in
      let is : IsVersion a h v = version_is mode x in
      let of : IsOfVersion a k h v read usable = of_version mode x in (
        ap (map low_link) (none_kept_of (link_at w k h.answer_bytes read.records) read.records
            (λ r l i e. no_names h.apex hash v iterations salt optout is.chain.octets is.few q tt k h.answer_bytes r l (next_record a k h v sure read usable x.plain of r l i e))),
        all_kept_of (IsChainLink (zone_in h.apex v) hash iterations salt optout) (hash_link_at w k h.answer_bytes read.records) read.records
            (λ r l i e. hash_is_true h.apex rs sure.apex_is sure.handed k h.answer_bytes x.honest.answer_honest.octets_are hash iterations salt optout is.few is.chain.octets r l (hash_record a k h v sure read usable x.plain of r l i e)),
      )

-- ---- the laws

pub honest_is_truthful : HonestIsTruthful
honest_is_truthful a k h keys read mode rs asked x =
    let there : JudgeInput = record h { asked = asked } in
    let here : IsHonestOn a k there keys read mode rs asked = record { reads = x.reads; plain = x.plain; moment = x.moment; honest = x.honest } in
    record {
      rrset = question_true a k there (as_published mode rs) (known a k there keys read rs mode here) read (usable_of keys) x.plain (of_version a k there keys read rs mode here);
      chain = of_chain a k there keys read rs mode here;
      moment = x.moment;
    }

-- a type that signing does not add is none of its three
unsigned_type : (t : ℕ) → is_added_type t ≡ false → among (46 ∷ 47 ∷ 50 ∷ []) t ≡ false
unsigned_type t e =
    let a46 = or_parts (nat_eq t 46) _ e in
    let a47 = or_parts (nat_eq t 47) _ a46.1 in
    let a48 = or_parts (nat_eq t 48) _ a47.1 in
    let a50 = or_parts (nat_eq t 50) _ a48.1 in
    or_from _ _ a46.0 (or_from _ _ a47.0 (or_from _ _ a50.0 refl))

pub honest_is_shown : HonestIsShown
honest_is_shown a k h keys read mode rs asked x small accepted inside held = record {
  truthful = honest_is_truthful a k h keys read mode rs asked x;
  includes = held_is_included a k h (usable_of keys) read mode rs asked x.honest.apex_is x.honest.versions_are.0.records_are small accepted inside (unsigned_type asked.rtype x.plain) held;
}
