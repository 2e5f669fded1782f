-- What a publisher signs is signed of a version.
use Rattle.std.proofs.Common.{◌≡◌, ℕ, ◌+◌, ◌%◌, ◌<◌, Bool, true, List, [], ◌∷◌, ◌++◌, map, refl, sym, ap, subst, ◌∙◌, inl, inr, lit<}
use Rattle.std.specs.Prelude.{◌==◌, Contains}
use Rattle.std.specs.List.{AllByRecursion, flat_map}
use Rattle.std.proofs.Math.Nat.{mod-lt}
use Rattle.definitions.specs.Bitmap.{bitmap}
use Rattle.definitions.specs.Dnskey.{Dnskey}
use Rattle.definitions.specs.Name.{Name, IsName, labels_eq, low, wire}
use Rattle.definitions.specs.Signing.{Fields, canonical_record, fields_data, label_count, signed_owner}
use Rattle.definitions.specs.Zone.{Rr, Zone, data_at, is_of}
use Rattle.definitions.specs.ZoneChain.{Mode, Nsec, Nsec3, hashed_names, nsec_names, nsec_next, nsec_types, nsec3_names}
use Rattle.definitions.proofs.Members.{In, any_of, contained, sort_has}
use Rattle.definitions.proofs.ZoneNames.{low-low}
use Rattle.denial_laws.specs.Facts.{Link}
use Rattle.denial_laws.specs.Truth.{IsServable, is_signed}
use Rattle.messages.specs.Handed.{IsHanded}
use Rattle.messages.specs.HandedRr.{HandedRr}
use Rattle.messages.proofs.Lists.{Has}
use Rattle.messages.proofs.ZoneNames.{same_labels}
use Rattle.std.proofs.lemmas.Bool.{and_parts}
use Rattle.answer_scheme.specs.Answers.{Answers}
use Rattle.answer_terms.specs.Accepting.{rr_of, sorted_records, zone_with}
use Rattle.answer_terms.specs.Chainable.{HasChain}
use Rattle.answer_terms.specs.Hashing.{hash_in}
use Rattle.answer_terms.specs.Made.{IsShortGroup}
use Rattle.answer_terms.specs.Served.{ServedRrset, Served, chain_record, key_group, served_of, spelled_as}
use Rattle.answer_terms.specs.Told.{fields_for, octets_for}
use Rattle.answer_terms.proofs.ZoneData.{label_count-low}
use Rattle.answer_terms.proofs.ZoneNaming.{lower_name}
use Rattle.answer_judge.specs.Honest.{IsMadeOver, Signing, SignedOfKeys, SignedOfVersion, WasSigned}
use Rattle.answer_judge.specs.Versions.{IsRrsetOf, OfChain, OfZone, Version, zone_in}
use Rattle.answer_judge_facts.specs.Times.{times_of}
use Rattle.answer_judge.specs.OwnMessages.{signing_of}
use Rattle.answer_judge.proofs.GivenLists.{contained_has}
use Rattle.answer_judge_facts.proofs.GivenSorted.{has_in, in_has}
use Rattle.answer_judge.proofs.HonestMade.{ChainKind, IsRoomy, IsZoneGroup, KeyKind, Kind, ZoneKind, signed_has}
use Rattle.answer_judge.proofs.HonestSpelled.{fits_16, fits_32, kept_32, tidied, tidied_octets}
use Rattle.answer_judge.proofs.HonestTold.{owner_whole}
use Rattle.answer_judge.proofs.OwnChain.{chain_labels, low-chain_owner, read_low}
use Rattle.answer_judge.proofs.OwnHashed.{by_hash, by_hash_total, low-hashed_owner}

-- octets over a group are those over an RRset under its own owner
made_over : (apex : Name) (at life : ℕ) (g : ServedRrset) (n : Name) (key : Dnskey) → IsName apex → label_count g.source ≡ label_count n → signed_owner (label_count g.source) g.owner ≡ low n → IsName n → IsRoomy g → IsShortGroup g
    → IsMadeOver apex (record { owner = n; rtype = g.rtype; datas = g.datas }) (tidied (fields_for apex at life g key)) (octets_for apex at life g key)
made_over apex at life g n key apex_is count owner named roomy short =
    let f : Fields = fields_for apex at life g key in
    record {
      covered = refl;
      labels = count;
      signer = refl;
      fits = record {
        covered = roomy.small;
        ttl = fits_32 f.ttl;
        expiration = fits_32 f.expiration;
        inception = fits_32 f.inception;
        tag = fits_16 f.tag;
        signer = lower_name apex apex_is;
        named = named;
        classed = lit< tt;
        some = roomy.some;
        short = short;
      };
      is = ap (λ o. fields_data f ++ flat_map (canonical_record o f.covered 1 f.ttl) g.datas) (owner ∙ sym (owner_whole f.labels n count)) ∙ sym (tidied_octets f n g.datas);
    }

-- an owner of a record is a name
record_name : (rs : List HandedRr) (x : Rr) → AllByRecursion IsHanded rs → Has (map rr_of rs) x → IsName (low x.spelled)
record_name [] x h i = absurd i
record_name (r ∷ rs) x h i = elim i [
  | inl e ↦ subst (λ (y : Rr). IsName (low y.spelled)) (sym e) (lower_name r.owner h.0.owner)
  | inr j ↦ record_name rs x h.1 j
]

zone_name : (apex : Name) (rs : List HandedRr) (o : Name) (t : ℕ) → AllByRecursion IsHanded rs → is_signed (zone_with apex rs) o t ≡ true → IsName o
zone_name apex rs o t handed h =
    let z : Zone = zone_with apex rs in
    let r = any_of (is_of o t) z.records (signed_has z o t h) in
    let owner : low r.0.spelled ≡ o = same_labels (low r.0.spelled) o (and_parts (labels_eq (low r.0.spelled) o) (r.0.rtype == t) r.1.1).0 in
    subst IsName owner (record_name rs r.0 handed (in_has z.records r.0 r.1.0))

-- its times, in seconds modulo 2^32
signed_times : (apex : Name) (mode : Mode) (rs : List HandedRr) (at life : ℕ) (g : ServedRrset) (key : Dnskey) → times_of (tidied (fields_for apex at life g key)) ≡ (signing_of mode rs at life).times
signed_times apex mode rs at life g key = λ i. record {
  inception = kept_32 (at % 4294967296) (mod-lt at (lit< tt)) i;
  expiration = kept_32 ((at + life) % 4294967296) (mod-lt (at + life) (lit< tt)) i;
}

module _ (a : Answers) (apex : Name) (mode : Mode) (rs : List HandedRr) (published : List Dnskey) (signings : List Signing) (at life : ℕ) (apex_is : IsName apex) where
  abbrev v : Version
  v = record { records = rs; mode = mode; made = [] }

  abbrev sorted : List HandedRr
  sorted = sorted_records rs

  abbrev hash : Name → List ℕ
  hash = hash_in a.hash mode

  abbrev s : Served
  s = served_of apex mode hash sorted

  abbrev z : Zone
  z = zone_in apex v

  abbrev Signed : List ℕ → Type 0
  Signed = WasSigned a apex published signings

  -- the keys
  pub keys_signed : (present : List Dnskey) (ttl : ℕ) (key : Dnskey) → AllByRecursion (Contains published) present → IsRoomy (key_group apex ttl present) → IsShortGroup (key_group apex ttl present) → Signed (octets_for apex at life (key_group apex ttl present) key)
  keys_signed present ttl key of roomy short = SignedOfKeys (record {
    present = present;
    published_are = of;
    fields = tidied (fields_for apex at life (key_group apex ttl present) key);
    over = made_over apex at life (key_group apex ttl present) apex key apex_is refl (owner_whole (label_count apex) apex refl) apex_is roomy short;
  })

  module _ (there : Contains signings (signing_of mode rs at life)) (handed : AllByRecursion IsHanded sorted) (servable : IsServable z) where
    -- an RRset of the version
    version_signed : (g : ServedRrset) (n : Name) (key : Dnskey) → label_count g.source ≡ label_count n → signed_owner (label_count g.source) g.owner ≡ low n → IsName n → IsRoomy g → IsShortGroup g
        → IsRrsetOf apex hash v (record { owner = n; rtype = g.rtype; datas = g.datas }) → Signed (octets_for apex at life g key)
    version_signed g n key count owner named roomy short of = SignedOfVersion (record {
      signing = signing_of mode rs at life;
      there = there;
      rrset = record { owner = n; rtype = g.rtype; datas = g.datas };
      of = of;
      fields = tidied (fields_for apex at life g key);
      times_are = signed_times apex mode rs at life g key;
      over = made_over apex at life g n key apex_is count owner named roomy short;
    })

    zone_signed : (g : ServedRrset) (key : Dnskey) → IsZoneGroup z g → IsRoomy g → IsShortGroup g → Signed (octets_for apex at life g key)
    zone_signed g key is roomy short =
        let lower : low (low g.source) ≡ low g.source = low-low g.source in
        let signed : is_signed z (low g.source) g.rtype ≡ true = ap (λ n. is_signed z n g.rtype) (sym is.source_is) ∙ is.signed in
        version_signed g (low g.source) key (sym (label_count-low g.source)) (is.source_is ∙ sym lower) (zone_name apex sorted (low g.source) g.rtype handed signed) roomy short
        (OfZone (ap (λ n. is_signed z n g.rtype) lower ∙ signed) (is.datas ∙ ap (λ n. data_at z n g.rtype) (is.source_is ∙ sym lower)))

-- a record of the chain of names
next_signed : (a : Answers) (apex : Name) (rs : List HandedRr) (published : List Dnskey) (signings : List Signing) (at life : ℕ) → IsName apex → Contains signings (signing_of Nsec rs at life) → AllByRecursion IsHanded (sorted_records rs) → IsServable (zone_with apex (sorted_records rs))
    → (o : Name) (key : Dnskey) → Has (nsec_names (zone_with apex (sorted_records rs))) o → (g : ServedRrset) → g ≡ chain_record (served_of apex Nsec (hash_in a.hash Nsec) (sorted_records rs)) o → IsRoomy g → IsShortGroup g
    → WasSigned a apex published signings (octets_for apex at life g key)
next_signed a apex rs published signings at life apex_is there handed servable o key i g e roomy short =
    let sorted : List HandedRr = sorted_records rs in
    let hash : Name → List ℕ = hash_in a.hash Nsec in
    let z : Zone = zone_with apex sorted in
    let c : ServedRrset = chain_record (served_of apex Nsec hash sorted) o in
    let here : In o (nsec_names z) = has_in (nsec_names z) o i in
    let owner : low c.owner ≡ o = low-chain_owner apex sorted hash o here in
    let same = chain_labels apex sorted hash o here in
    subst (λ g. IsRoomy g → IsShortGroup g → WasSigned a apex published signings (octets_for apex at life g key)) (sym e)
    (λ roomy short. version_signed a apex Nsec rs published signings at life apex_is there handed servable c c.owner key same (owner_whole (label_count c.source) c.owner same) roomy.named roomy short
    (OfChain (record {
      there = subst (Contains (nsec_names z)) (sym owner) (contained (nsec_names z) o here);
      rtype_is = refl;
      next = spelled_as apex sorted (nsec_next z o);
      next_is = ap (λ (y : Link). y.next) (read_low apex sorted hash servable o here) ∙ ap (nsec_next z) (sym owner);
      datas_are = ap (λ n. (wire (spelled_as apex sorted (nsec_next z o)) ++ bitmap (nsec_types z true n)) ∷ []) (sym owner);
    })))
    roomy short

-- a record of the chain of hashes
hash_signed : (a : Answers) (apex : Name) (iterations : ℕ) (salt : List ℕ) (optout : Bool) (rs : List HandedRr) (published : List Dnskey) (signings : List Signing) (at life : ℕ) → IsName apex → Contains signings (signing_of (Nsec3 iterations salt optout) rs at life) → AllByRecursion IsHanded (sorted_records rs)
    → IsServable (zone_with apex (sorted_records rs)) → HasChain a.hash (Nsec3 iterations salt optout) (zone_with apex (sorted_records rs))
    → (o : Name) (key : Dnskey) → Has (hashed_names (hash_in a.hash (Nsec3 iterations salt optout)) (zone_with apex (sorted_records rs)) optout) o → (g : ServedRrset) → g ≡ chain_record (served_of apex (Nsec3 iterations salt optout) (hash_in a.hash (Nsec3 iterations salt optout)) (sorted_records rs)) o
    → IsRoomy g → IsShortGroup g → WasSigned a apex published signings (octets_for apex at life g key)
hash_signed a apex iterations salt optout rs published signings at life apex_is there handed servable chain o key i g e roomy short =
    let mode : Mode = Nsec3 iterations salt optout in
    let sorted : List HandedRr = sorted_records rs in
    let hash : Name → List ℕ = hash_in a.hash mode in
    let z : Zone = zone_with apex sorted in
    let c : ServedRrset = chain_record (served_of apex mode hash sorted) o in
    let named : In o (nsec3_names z optout) = sort_has (by_hash hash) (by_hash_total hash) (nsec3_names z optout) o (has_in (hashed_names hash z optout) o i) in
    let bytes : AllByRecursion (λ x. x < 256) (hash o) = chain.octets o (contained (nsec3_names z optout) o named) in
    subst (λ g. IsRoomy g → IsShortGroup g → WasSigned a apex published signings (octets_for apex at life g key)) (sym e)
    (λ roomy short. version_signed a apex mode rs published signings at life apex_is there handed servable c c.owner key refl (owner_whole (label_count c.owner) c.owner refl) roomy.named roomy short
    (OfChain (record {
      name = o;
      there = contained_has (hashed_names hash z optout) o i;
      owner_is = low-hashed_owner apex sorted hash iterations salt optout o bytes;
      rtype_is = refl;
      datas_are = refl;
    })))
    roomy short

-- whichever RRset it is
pub kind_signed : (a : Answers) (apex : Name) (mode : Mode) (rs : List HandedRr) (published : List Dnskey) (signings : List Signing) (at life : ℕ) → IsName apex → Contains signings (signing_of mode rs at life) → AllByRecursion IsHanded (sorted_records rs) → IsServable (zone_with apex (sorted_records rs))
    → HasChain a.hash mode (zone_with apex (sorted_records rs)) → (g : ServedRrset) (key : Dnskey) → IsRoomy g → IsShortGroup g → Kind (served_of apex mode (hash_in a.hash mode) (sorted_records rs)) apex published g → WasSigned a apex published signings (octets_for apex at life g key)
kind_signed a apex mode rs published signings at life apex_is there handed servable chain g key roomy short (KeyKind present of e) =
    subst (λ g. IsRoomy g → IsShortGroup g → WasSigned a apex published signings (octets_for apex at life g key)) (sym e) (λ roomy short. keys_signed a apex mode rs published signings at life apex_is present _ key of roomy short) roomy short
kind_signed a apex mode rs published signings at life apex_is there handed servable chain g key roomy short (ZoneKind is) = zone_signed a apex mode rs published signings at life apex_is there handed servable g key is roomy short
kind_signed a apex Nsec rs published signings at life apex_is there handed servable chain g key roomy short (ChainKind o i e) = next_signed a apex rs published signings at life apex_is there handed servable o key i g e roomy short
kind_signed a apex (Nsec3 iterations salt optout) rs published signings at life apex_is there handed servable chain g key roomy short (ChainKind o i e) = hash_signed a apex iterations salt optout rs published signings at life apex_is there handed servable chain o key i g e roomy short
