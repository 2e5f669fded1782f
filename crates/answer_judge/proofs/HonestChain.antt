-- Records of a version's chain, and those that were made, say truly where they are verified.
use Rattle.std.proofs.Common.{◌≡◌, ℕ, ◌<◌, Bool, true, List, [], ◌∷◌, ◌++◌, length, eqb, refl, sym, ap, subst, ◌∙◌, inl, inr, arith}
use Rattle.std.specs.Int.{w16, to_be_bytes}
use Rattle.std.specs.List.{AllByRecursion, Contains}
use Rattle.std.specs.Char.{to_ascii_lowercase}
use Rattle.std.proofs.lemmas.Bool.{false≢true}
use Rattle.std.proofs.lemmas.List.{length-map}
use Rattle.definitions.specs.Base32hex.{base32hex}
use Rattle.definitions.specs.Bitmap.{bitmap}
use Rattle.definitions.specs.Name.{Name, IsName, low, wire}
use Rattle.definitions.specs.Zone.{Zone}
use Rattle.definitions.specs.ZoneChain.{Mode, Nsec, Nsec3, hashed_names, nsec_names, nsec_next, nsec_types, nsec3_names}
use Rattle.definitions.proofs.Members.{In, contained, sort_has}
use Rattle.definitions.proofs.SignedLaws.{Labelled, wire_of}
use Rattle.denial_laws.specs.Facts.{HashLink, Link}
use Rattle.denial_laws.specs.OwnFacts.{hash_link_of}
use Rattle.denial_laws.specs.Truth.{IsServable, IsTrueLink, NoSharedHash, SaysTruly, SaysTrulyHash}
use Rattle.denial_laws.proofs.ChainSays.{hash_link_says, link_says, owner_respelled}
use Rattle.messages.specs.HandedRr.{HandedRr}
use Rattle.messages.specs.Message.{AreOctets, HashedNext, Spelled, data_of, nsec3_of}
use Rattle.messages.proofs.Nsec3Read.{nsec3_reads}
use Rattle.messages.proofs.Lists.{all_at, some_is}
use Rattle.messages.proofs.ReadNames.{labelled}
use Rattle.answer_terms.specs.Accepting.{sorted_records}
use Rattle.answer_terms.proofs.ZoneNaming.{chain_named, lower_name, next_name}
use Rattle.answer_terms.specs.HashOwner.{hash_spelled}
use Rattle.answer_judge.specs.Versions.{IsNsecMade, IsNsecOf, IsNsec3Made, IsNsec3Of, Version, zone_in}
use Rattle.answer_judge.proofs.GivenGroups.{SaysHashLink, said_of}
use Rattle.answer_judge.proofs.GivenHashes.{owner_spells}
use Rattle.answer_judge.proofs.GivenHashing.{SaysHashing}
use Rattle.answer_judge.proofs.GivenLists.{has_contained}
use Rattle.answer_judge_facts.proofs.GivenSorted.{has_in}
use Rattle.answer_judge.proofs.HonestFacts.{IsHashRecord, IsKnown, IsNextRecord}
use Rattle.answer_judge.proofs.HonestReads.{ReadsNext, link_read}
use Rattle.answer_judge.proofs.OwnHashed.{by_hash, by_hash_total, flag, flag_back, hashed_group, says}

-- ---- a chain of names

-- labels have as many octets in lower case
unlowered : (n : Name) → Labelled (low n) → Labelled n
unlowered [] h = tt
unlowered (l ∷ n) h = (omega (arith, h.0, length-map l to_ascii_lowercase), unlowered n h.1)

module _ (apex : Name) (hash : Name → List ℕ) (v : Version) (known : IsKnown apex v) where
  abbrev z : Zone
  z = zone_in apex v

  next_of_chain : (k : ℕ) (m : List ℕ) (r : Spelled) (l : Link) → AreOctets m → (x : IsNextRecord z hash Nsec v.made k m r l) → IsNsecOf z x.chain.rrset → IsTrueLink z l
  next_of_chain k m r l octets x of =
      let o : Name = low x.chain.rrset.owner in
      let bits : List ℕ = bitmap (nsec_types z true o) in
      let read : ReadsNext x.next = link_read k m r x.next octets x.reads in
      let name : IsName (low of.next) = subst IsName (sym of.next_is) (next_name (low apex) o (nsec_names z) (lower_name apex known.apex_is) (chain_named apex (sorted_records v.records) known.handed)) in
      let said : (x.next.0 ≡ of.next) × (x.next.1 ≡ bits) = wire_of x.next.0 of.next x.next.1 bits (labelled x.next.0 read.next.name.labels) (unlowered of.next (labelled (low of.next) name.labels)) (x.chain.data_is (wire of.next ++ bits) of.datas_are) in
      let owner : low r.owner ≡ o = x.chain.owner_is in
      subst (IsTrueLink z) x.is (record {
        owner = subst (Contains (nsec_names z)) (sym owner) of.there;
        next = ap low said.0 ∙ of.next_is ∙ ap (nsec_next z) (sym owner);
        bits = said.1 ∙ ap (λ n. bitmap (nsec_types z true n)) (sym owner);
      })

  -- its owner may be spelled otherwise than as it was signed
  next_of_made : (q : Name) (k : ℕ) (m : List ℕ) (r : Spelled) (l : Link) → AreOctets m → (x : IsNextRecord z hash Nsec v.made k m r l) → IsNsecMade z q x.chain.rrset → SaysTruly z q l
  next_of_made q k m r l octets x of =
      let read : ReadsNext x.next = link_read k m r x.next octets x.reads in
      let said : (x.next.0 ≡ of.next) × (x.next.1 ≡ of.bits) = wire_of x.next.0 of.next x.next.1 of.bits (labelled x.next.0 read.next.name.labels) (labelled of.next of.named.labels) (x.chain.data_is (wire of.next ++ of.bits) of.datas_are) in
      let here : SaysTruly z q (record { owner = r.owner; next = of.next; bits = of.bits }) = owner_respelled z q (record { owner = x.chain.rrset.owner; next = of.next; bits = of.bits }) r.owner x.chain.owner_is of.says in
      subst (SaysTruly z q) ((λ i. record { owner = r.owner; next = sym said.0 i; bits = sym said.1 i }) ∙ x.is) here

  pub next_true : (q : Name) → AllByRecursion (IsNsecMade z q) v.made → (k : ℕ) (m : List ℕ) (r : Spelled) (l : Link) → AreOctets m → IsNextRecord z hash Nsec v.made k m r l → SaysTruly z q l
  next_true q truly k m r l octets x = elim x.chain.of [
    | inl of ↦ link_says z known.servable q l (next_of_chain k m r l octets x of)
    | inr i ↦ next_of_made q k m r l octets x (all_at (IsNsecMade z q) v.made x.chain.rrset truly (has_contained v.made x.chain.rrset i))
  ]

  -- it has no record of hashes
  pub no_hashes : (q : Name) → AllByRecursion (IsNsecMade z q) v.made → (m : List ℕ) (r : Spelled) (l : HashLink) → IsHashRecord z hash Nsec v.made m r l → ⊥
  no_hashes q truly m r l x = elim x.chain.of [
    | inl of ↦ false≢true (ap (λ (n : ℕ). eqb n 50) (sym of.rtype_is ∙ x.chain.type_is))
    | inr i ↦ let of = all_at (IsNsecMade z q) v.made x.chain.rrset truly (has_contained v.made x.chain.rrset i) in false≢true (ap (λ (n : ℕ). eqb n 50) (sym of.rtype_is ∙ x.chain.type_is))
  ]

-- ---- a chain of hashes

module _ (apex : Name) (hash : Name → List ℕ) (v : Version) (iterations : ℕ) (salt : List ℕ) (optout : Bool) (octets : (n : Name) → Contains (nsec3_names (zone_in apex v) optout) n → AllByRecursion (λ x. x < 256) (hash n)) (small : iterations < 65536) where
  abbrev zone : Zone
  zone = zone_in apex v

  abbrev rs : List HandedRr
  rs = sorted_records v.records

  abbrev mode : Mode
  mode = Nsec3 iterations salt optout

  -- hashed as the zone hashes
  pub record SaysHere (q : Name) (l : HashLink) : Type 0 where
    pub says : SaysTrulyHash zone hash optout q l
    pub hashed : SaysHashing iterations salt l

  hash_of_chain : (m : List ℕ) (r : Spelled) (l : HashLink) → (x : IsHashRecord zone hash mode v.made m r l) (of : IsNsec3Of zone hash iterations salt optout x.chain.rrset) → hash_link_of zone hash iterations salt optout of.name ≡ l
  hash_of_chain m r l x of =
      let o : Name = of.name in
      let named : In o (nsec3_names zone optout) = sort_has (by_hash hash) (by_hash_total hash) (nsec3_names zone optout) o (has_in (hashed_names hash zone optout) o (has_contained (hashed_names hash zone optout) o of.there)) in
      let bytes : AllByRecursion (λ x. x < 256) (hash o) = octets o (contained (nsec3_names zone optout) o named) in
      let say : SaysHashLink apex (hashed_group apex rs hash iterations salt optout o) (hash_link_of zone hash iterations salt optout o) = says apex rs hash iterations salt optout small o bytes in
      let data_is : data_of m r ≡ say.datum = x.chain.data_is say.datum (of.datas_are ∙ say.data_are) in
      let next : x.next ≡ say.next = some_is x.next say.next (sym x.reads ∙ ap nsec3_of data_is ∙ say.reads) in
      let owner : low r.owner ≡ base32hex (hash o) ∷ low apex = x.chain.owner_is ∙ of.owner_is in
      let spelled : hash_spelled r.owner ≡ hash o = (owner_spells apex r.owner (hash o) bytes owner).1 in
      sym say.is ∙ (λ i. said_of (sym spelled i) (sym next i)) ∙ x.is

  hash_of_made : (q : Name) (m : List ℕ) (r : Spelled) (l : HashLink) → (x : IsHashRecord zone hash mode v.made m r l) → IsNsec3Made zone hash iterations salt optout q x.chain.rrset → SaysHere q l
  hash_of_made q m r l x of =
      let made : HashLink = record { owner = of.hashed; next = of.next; bits = of.bits; opt_out = optout; iterations = iterations; salt = salt } in
      let datum : List ℕ = 1 ∷ flag optout ∷ to_be_bytes w16 iterations ++ length salt ∷ salt ++ length of.next ∷ of.next ++ of.bits in
      let read : HashedNext = record { algorithm = 1; flags = flag optout; iterations = iterations; salt = salt; next = of.next; bits = of.bits } in
      let data_is : data_of m r ≡ datum = x.chain.data_is datum of.datas_are in
      let next : x.next ≡ read = some_is x.next read (sym x.reads ∙ ap nsec3_of data_is ∙ nsec3_reads 1 (flag optout) iterations salt of.next of.bits small of.windows) in
      let spelled : hash_spelled r.owner ≡ of.hashed = (owner_spells apex r.owner of.hashed of.octets (x.chain.owner_is ∙ of.owner_is)).1 in
      let is : made ≡ l = (λ i. record made { opt_out = sym (flag_back optout) i }) ∙ (λ i. said_of (sym spelled i) (sym next i)) ∙ x.is in
      subst (SaysHere q) is (record { says = of.says; hashed = (refl, refl) })

  pub hash_true : (q : Name) → IsServable zone → NoSharedHash zone hash mode q → AllByRecursion (IsNsec3Made zone hash iterations salt optout q) v.made
      → (m : List ℕ) (r : Spelled) (l : HashLink) → IsHashRecord zone hash mode v.made m r l → SaysHere q l
  hash_true q servable apart truly m r l x = elim x.chain.of [
    | inl of ↦ subst (SaysHere q) (hash_of_chain m r l x of) (record {
      says = hash_link_says zone hash iterations salt optout q servable apart (hash_link_of zone hash iterations salt optout of.name)
          (record { name = of.name; named = of.there; owner = refl; next = refl; bits = refl; opts = refl });
      hashed = (refl, refl);
    })
    | inr i ↦ hash_of_made q m r l x (all_at (IsNsec3Made zone hash iterations salt optout q) v.made x.chain.rrset truly (has_contained v.made x.chain.rrset i))
  ]

  -- it has no record of names
  pub no_names : (q : Name) → AllByRecursion (IsNsec3Made zone hash iterations salt optout q) v.made → (k : ℕ) (m : List ℕ) (r : Spelled) (l : Link) → IsNextRecord zone hash mode v.made k m r l → ⊥
  no_names q truly k m r l x = elim x.chain.of [
    | inl of ↦ false≢true (ap (λ (n : ℕ). eqb n 47) (sym of.rtype_is ∙ x.chain.type_is))
    | inr i ↦ let of = all_at (IsNsec3Made zone hash iterations salt optout q) v.made x.chain.rrset truly (has_contained v.made x.chain.rrset i) in false≢true (ap (λ (n : ℕ). eqb n 47) (sym of.rtype_is ∙ x.chain.type_is))
  ]
