-- What a generator has made is the chain of the zone, and what it refuses has its cause.
use Rattle.std.proofs.Common.{◌≡◌, Bool, true, false, List, [], ◌∷◌, map, Some, refl, sym, ap, subst, ◌∙◌, inl, inr}
use Rattle.std.specs.List.{AllByRecursion, Contains}
use Rattle.std.specs.List.Sorted.{IsStrictlySortedBy}
use Rattle.std.specs.Str.{bytes_eq}
use Rattle.definitions.specs.Laws.{IsNsec3Chain}
use Rattle.definitions.specs.Name.{Name, name_cmp}
use Rattle.definitions.specs.Zone.{Zone, apex_of, owners}
use Rattle.definitions.specs.ZoneChain.{behind, head_or, links, nsec3_names, nsec3_next, nsec3_types}
use Rattle.definitions.proofs.Members.{In, in_map, map_in, contained, in_contained}
use Rattle.definitions.proofs.ChainSpeaks.{all_from}
use Rattle.plain.specs.ZoneData.{zone_canonical, zone_type}
use Rattle.plain.specs.declared.record.Record.{Record}
use Rattle.plain.specs.declared.zone_data.ZoneRecordData.{ZoneRecordData}
use Rattle.denial_nsec_data.specs.Hashed.{Nsec3Data}
use Rattle.denial_nsec3_hash.specs.Hashing.{Answers, hash_by, FitsName}
use Rattle.denial_nsec3_hash.specs.declared.config.GenerateNsec3Config.{GenerateNsec3Config}
use Rattle.denial_nsec3_names.specs.Chained.{chain_name, chain_names_of, some_fails, IsHashed, IsHashedChain}
use Rattle.denial_nsec3_names.specs.Walk.{spots_of}
use Rattle.denial_rrsets.specs.Groups.{group_owner}
use Rattle.denial_nsec3_names.specs.declared.hashed.HashedName.{HashedName}
use Rattle.denial_nsec3_names.proofs.Assembled.{all_in, map_map}
use Rattle.denial_chain_owners.specs.Conditions.{IsOneClass, IsZoneOrder}
use Rattle.denial_chain_owners.specs.Kept.{kept_groups}
use Rattle.denial_chain_owners.specs.Refused.{IsOwnersFault}
use Rattle.denial_chain_owners.specs.Soa.{soa_ttls}
use Rattle.denial_chain_owners.specs.declared.error.SigningError.{SigningError}
use Rattle.denial_chain_owners.specs.declared.error.SigningError.TheVariants.{NoSingleSoa, MultipleTtlValues, HashFailed, HashTooLong, HashCollision, Memory}
use Rattle.denial_chain_owners.specs.declared.soa.SoaTtls.{SoaTtls}
use Rattle.denial_nsec3_chain.specs.Chain.{leaves_out, making, nsec3_chain, zone_among}
use Rattle.denial_nsec3_chain.specs.Faults.{names_among, unequal_ttls, HasNoFault, IsNsec3Fault}
use Rattle.denial_nsec3_chain.specs.Linked.{linked, links_around, nsec3_record, IsLinkFault}
use Rattle.denial_nsec3_chain.proofs.Chained.{all_linked, apart, apex_owns, from_names, hash_is, in_names, kept_climb, names_are, ordered, speaks, strict_of}
use Rattle.denial_nsec3_chain.proofs.Linking.{behind_each, firsts, made_each, octets_rise}

module _ {O N S : Type 0} (name : N → Name) (apex : Name) (answers : Answers) (c : GenerateNsec3Config S) (rs : List (Record N (ZoneRecordData O N))) (one : IsOneClass rs) (order : IsZoneOrder name rs) where
  abbrev Rr : Type 0
  Rr = Record N (ZoneRecordData O N)

  abbrev z : Zone
  z = zone_among name apex rs

  abbrev e : Bool
  e = leaves_out c

  abbrev pub kept_now : List (List Rr)
  kept_now = kept_groups name zone_type (zone_canonical name) apex e rs

  pub owners_fault : (f : SigningError) → IsOwnersFault name apex e rs f → IsNsec3Fault name apex answers c rs f
  owners_fault NoSingleSoa h = h
  owners_fault MultipleTtlValues h = h
  owners_fault HashFailed h = absurd h
  owners_fault HashTooLong h = absurd h
  owners_fault HashCollision h = absurd h
  owners_fault Memory h = tt

  module _ (groups : List (List Rr)) (are : groups ≡ kept_now) where
    pub in_order : IsStrictlySortedBy name_cmp (map (group_owner name) groups)
    in_order =
        let P : List (List Rr) → Type 0 = λ gs. IsStrictlySortedBy name_cmp (map (group_owner name) gs) in
        subst P (sym are) (strict_of (map (group_owner name) kept_now) (kept_climb name apex rs one order e))

    module _ (s : SoaTtls) (soa : soa_ttls name apex rs ≡ Some s) where
      there : Contains (owners z) (apex_of z)
      there = apex_owns name apex rs one order e s soa

      pub names_listed : chain_names_of name groups ≡ names_among name apex answers c rs
      names_listed = ap (chain_names_of name) are ∙ names_are name apex rs one order e there

      module _ (hs : List (HashedName N (ZoneRecordData O N))) (made : IsHashedChain name answers c.params (spots_of (group_owner name) groups) hs) where
        abbrev Item : Type 0
        Item = HashedName N (ZoneRecordData O N)

        abbrev item : Item → Name
        item h = chain_name name h.name

        abbrev octets : Item → List Rattle.std.proofs.Common.ℕ
        octets h = h.hash.items

        abbrev hash : Name → List Rattle.std.proofs.Common.ℕ
        hash = hash_by answers c.params

        made_now : IsHashedChain name answers c.params (spots_of (group_owner name) kept_now) hs
        made_now =
            let P : List (List Rr) → Type 0 = λ gs. IsHashedChain name answers c.params (spots_of (group_owner name) gs) hs in
            subst P are made

        pub speaks_now : IsNsec3Chain hash z e
        speaks_now = speaks name apex rs one order e answers c there hs made_now

        pub no_fault : unequal_ttls name apex answers c rs ≡ false → some_fails answers c.params (chain_names_of name groups) ≡ false → AllByRecursion (λ (h : Item). FitsName apex h.hash.items) hs → HasNoFault name apex answers c rs s
        no_fault ttls hashed fit = record {
          soa = soa;
          ttls = ttls;
          hashed = ap (some_fails answers c.params) (sym names_listed) ∙ hashed;
          fit = all_from (λ o. FitsName apex (hash o)) (nsec3_names z e) (λ o i.
              let m = map_in item hs o (from_names name apex rs one order e answers c there hs made_now o i) in
              let P : List Rattle.std.proofs.Common.ℕ → Type 0 = λ h. FitsName apex h in
              subst P (sym (ap hash m.makes ∙ hash_is name apex rs one order e answers c there hs made_now m.item m.inside)) (all_in (λ (h : Item). FitsName apex h.hash.items) hs m.item fit m.inside));
          apart = apart name apex rs one order e answers c there hs made_now;
        }

        pub link_fault : some_fails answers c.params (chain_names_of name groups) ≡ false → (f : SigningError) → IsLinkFault apex (map octets hs) f → IsNsec3Fault name apex answers c rs f
        link_fault hashed HashTooLong h =
            let m = map_in octets hs h.0 (in_contained (map octets hs) h.0 h.1.0.0 h.1.0.1 h.1.0.2) in
            record {
              hashed = ap (some_fails answers c.params) (sym names_listed) ∙ hashed;
              apart = apart name apex rs one order e answers c there hs made_now;
              one = item m.item;
              has_one = contained (nsec3_names z e) (item m.item) (in_names name apex rs one order e answers c there hs made_now m.item m.inside);
              hash = h.0;
              of_one = all_in (IsHashed name answers c.params) hs m.item made.hashes m.inside ∙ ap Some (sym m.makes);
              long = h.1.1;
            }
        link_fault hashed Memory h = tt
        link_fault hashed NoSingleSoa h = absurd h
        link_fault hashed MultipleTtlValues h = absurd h
        link_fault hashed HashFailed h = absurd h
        link_fault hashed HashCollision h = absurd h

        abbrev of_name : Name → Record Name Nsec3Data
        of_name o = nsec3_record (making c s) apex (hash o) (nsec3_next hash z e o) (nsec3_types z c.assume_dnskeys_will_be_added o)

        pub chain_made : map (linked name zone_type apex (making c s)) (links_around hs) ≡ nsec3_chain name apex answers c rs s
        chain_made = around hs refl ∙ sym (map_map item of_name hs) ∙ ap (map of_name) (ordered name apex rs one order e answers c there hs made_now)
          where
            around : (xs : List Item) → xs ≡ hs → map (linked name zone_type apex (making c s)) (links_around xs) ≡ map (λ h. of_name (item h)) xs
            around [] q = refl
            around (x ∷ xs) q =
                let ls : List (Item × Item) = links x (x ∷ xs) in
                let firsts_are : map (λ (l : Item × Item). l.0) ls ≡ x ∷ xs = firsts octets x (x ∷ xs) in
                let inside : (l : Item × Item) → In l ls → In l.0 hs = λ l i.
                let P : List Item → Type 0 = λ ys. In l.0 ys in
                subst P (firsts_are ∙ q) (in_map (λ (l : Item × Item). l.0) ls l i) in
                let Q : List Item → Type 0 = λ ys. AllByRecursion (λ (m : Item × Item). behind bytes_eq [] (octets m.0) (links (head_or [] (map octets ys)) (map octets ys)) ≡ octets m.1) ls in
                let next = behind_each octets x (x ∷ xs) (octets_rise (map octets (x ∷ xs)) (ap (λ ys. Rattle.definitions.specs.Signing.ascending (map octets ys)) q ∙ made.ascends)) in
                made_each octets (linked name zone_type apex (making c s)) (λ h. of_name (item h)) ls (all_linked name apex rs one order e answers c there hs made_now x ls inside (subst Q q next) s)
                ∙ ap (map (λ h. of_name (item h))) firsts_are
