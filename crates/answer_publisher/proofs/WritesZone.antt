-- The RRsets that a zone answers with read back.
use Rattle.std.proofs.Common.{◌≡◌, ℕ, ◌<◌, Bool, true, false, ◌&&◌, List, [], ◌∷◌, ◌++◌, map, refl, sym, subst, ap, ◌∙◌, cond, eqb, lit<}
use Rattle.std.specs.Prelude.{Option, Some, None, ◌||◌}
use Rattle.std.specs.List.{AllByRecursion, AllZip, filter, list_any}
use Rattle.std.proofs.lemmas.Bool.{and_parts, eqb-true}
use Rattle.messages.proofs.ZoneNames.{low-low, same_labels}
use Rattle.definitions.specs.Name.{Name, IsName, labels_eq, low, same}
use Rattle.definitions.specs.Bitmap.{bitmap}
use Rattle.definitions.specs.Dnskey.{Dnskey}
use Rattle.definitions.specs.Zone.{Verdict, Records, NoType, NoName, StarRecords, StarNoType, Delegated, Open, Unsigned, ce, cut, data_at, has, star_under, verdict}
use Rattle.definitions.specs.ZoneChain.{Mode, Nsec, Nsec3, nsec_names, nsec_next, nsec_types, optout_of, parameters_of}
use Rattle.definitions.proofs.BitmapLaws.{spells_set}
use Rattle.messages.specs.HandedRr.{HandedRr, is_meta}
use Rattle.answer_terms.specs.Accepting.{zone_with}
use Rattle.messages.specs.Handed.{AreHanded, IsHanded}
use Rattle.answer_terms.specs.GroupView.{all_spelled_by, spelled_by}
use Rattle.answer_terms.specs.Served.{ServedRrset, Served, ahead, ahead_open, answer_groups, canonical_group, chain_names, chain_record, chain_ttl, if_any, key_data, key_group, written_under, owner_among, proofs_of, rrset, served_of, served_owner, soa, speaks_for, spelled_among, spoken, ttl_among, under, unsigned_ns, written_among, written_of_handed, written_rr}
use Rattle.answer_terms.specs.ZoneView.{is_of}
use Rattle.answer_zone.specs.ZoneInOrder.{AreZoneRecords}
use Rattle.denial_nsec_data.specs.Hashed.{nsec3param_octets, nsec3param_with}
use Rattle.answer_publisher.specs.Parameters.{parameters_group}
use Rattle.answer_publisher.proofs.WritesAnswer.{all_behind}
use Rattle.answer_publisher.proofs.WritesData.{all_plain, of_chain, reads_handed, reads_nsec, reads_nsec3}
use Rattle.answer_publisher.proofs.WritesGroups.{IsFormed}
use Rattle.answer_publisher.proofs.WritesHashes.{chain_is_read}
use Rattle.answer_terms.proofs.ZoneCutNames.{ce_lower, cut_lower, cut_name}
use Rattle.answer_publisher.proofs.WritesRecords.{ReadsAs, ReadsRecord}
use Rattle.answer_terms.proofs.ZoneNaming.{all_filter, chain_named, chain_small, either, first_name, lower_name, next_name, owner_name, spelled_name, ttl_small}
use Rattle.answer_terms.proofs.ZoneData.{data_are, low-owner_among, low-spelled_among}
use Rattle.messages.proofs.Lists.{all_more, map-map}

-- records that keep their owners stand under that of the RRset, up to case
abbrev NamesIt : Bool → ServedRrset → Name → Type 0
NamesIt true g q = low g.owner ≡ low q
NamesIt false g q = Unit {0}

-- a record of an RRset, under the RRset's owner or its own
record_read : (own : Bool) (g : ServedRrset) (r : HandedRr) (q : Name) → IsHanded r → is_meta r ≡ false → is_of q g.rtype r ≡ true → IsName g.owner → NamesIt own g q → of_chain g.rtype ≡ false → ReadsRecord g (spelled_by own g.owner r) r.bytes
record_read true g r q h k is name n plain =
    let parts = and_parts (same r.owner q) (eqb r.rtype g.rtype) is in
    let kind : r.rtype ≡ g.rtype = eqb-true r.rtype g.rtype parts.1 in
    record { owner = h.owner; named = same_labels (low r.owner) (low q) parts.0 ∙ sym n; rtype = kind; class = refl; ttl = h.ttl; reads = reads_handed r g.rtype h k kind plain }
record_read false g r q h k is name n plain =
    let kind : r.rtype ≡ g.rtype = eqb-true r.rtype g.rtype (and_parts (same r.owner q) (eqb r.rtype g.rtype) is).1 in
    record { owner = name; named = refl; rtype = kind; class = refl; ttl = h.ttl; reads = reads_handed r g.rtype h k kind plain }

-- the records of an owner and a type, one by one
records_read : (own : Bool) (g : ServedRrset) (rs : List HandedRr) (q : Name) → AllByRecursion IsHanded rs → AllByRecursion (λ r. is_meta r ≡ false) rs → IsName g.owner → NamesIt own g q → of_chain g.rtype ≡ false
    → AllZip (ReadsRecord g) (map (spelled_by own g.owner) (filter (is_of q g.rtype) rs)) (map (λ r. r.bytes) (filter (is_of q g.rtype) rs))
records_read own g [] q h k name n plain = tt
records_read own g (r ∷ rs) q h k name n plain =
    let rest : List HandedRr = filter (is_of q g.rtype) rs in
    let more = records_read own g rs q h.1 k.1 name n plain in
    let go : (b : Bool) → is_of q g.rtype r ≡ b → AllZip (ReadsRecord g) (map (spelled_by own g.owner) (cond b (r ∷ rest) rest)) (map (λ s. s.bytes) (cond b (r ∷ rest) rest)) =
    λ b. elim b as (λ b. is_of q g.rtype r ≡ b → AllZip (ReadsRecord g) (map (spelled_by own g.owner) (cond b (r ∷ rest) rest)) (map (λ s. s.bytes) (cond b (r ∷ rest) rest))) [
      | true ↦ λ e. (record_read own g r q h.0 k.0 e name n plain, more)
      | false ↦ λ e. more
    ] in
    go (is_of q g.rtype r) refl

one_by_one : (own : Bool) (owner : Name) (rs : List HandedRr) → all_spelled_by own owner (map written_of_handed rs) ≡ map (spelled_by own owner) rs
one_by_one true owner rs = refl
one_by_one false owner rs = map-map (written_under owner) written_of_handed rs

rrset_read : (own : Bool) (g : ServedRrset) (apex : Name) (rs : List HandedRr) → AreZoneRecords apex rs → AreHanded apex rs → (q : Name) → IsName g.owner → NamesIt own g q → of_chain g.rtype ≡ false
    → AllZip (ReadsRecord g) (all_spelled_by own g.owner (written_among rs (low q) g.rtype)) (data_at (zone_with apex rs) (low q) g.rtype)
rrset_read own g apex rs p h q name n plain =
    let xs : List HandedRr = filter (is_of q g.rtype) rs in
    subst (λ ws. AllZip (ReadsRecord g) ws (data_at (zone_with apex rs) (low q) g.rtype)) (sym (one_by_one own g.owner xs))
    (subst (AllZip (ReadsRecord g) (map (spelled_by own g.owner) xs)) (data_are apex rs p.rising q g.rtype) (records_read own g rs q h.records_are h.known name n plain))

ttls : (rs : List HandedRr) → AllByRecursion IsHanded rs → AllByRecursion (λ r. r.ttl < 4294967296) rs
ttls rs h = all_more IsHanded (λ r. r.ttl < 4294967296) rs (λ r is. is.ttl) h

ttl_fits : (apex : Name) (rs : List HandedRr) → AreHanded apex rs → (o : Name) (t : ℕ) → ttl_among rs o t < 4294967296
ttl_fits apex rs h o t = ttl_small 4294967296 (lit< tt) rs o t (ttls rs h.records_are)

module _ (apex : Name) (mode : Mode) (hash : Name → List ℕ) (rs : List HandedRr) (p : AreZoneRecords apex rs) (h : AreHanded apex rs) where
  ttl_served : (o : Name) (t : ℕ) → (served_of apex mode hash rs).ttl_of o t < 4294967296
  ttl_served o t = either (λ n. n < 4294967296) (eqb t 47 || eqb t 50) (chain_ttl apex rs) (ttl_among rs o t) (chain_small 4294967296 (lit< tt) apex rs (ttls rs h.records_are)) (ttl_fits apex rs h o t)

  -- an RRset under another owner, as that of a wildcard
  under_formed : (owner q : Name) (t : ℕ) → IsName owner → t < 65536 → of_chain t ≡ false → IsFormed (under owner (rrset (served_of apex mode hash rs) (low q) t))
  under_formed owner q t name small plain = record {
    owner = name;
    rtype = small;
    ttl = ttl_served (low q) t;
    datas = rrset_read false (under owner (rrset (served_of apex mode hash rs) (low q) t)) apex rs p h q name tt plain;
  }

  -- an RRset as its records spell it, signed or not
  own_formed : (q : Name) (t : ℕ) (signed : Bool) → IsName q → t < 65536 → of_chain t ≡ false → IsFormed (record (rrset (served_of apex mode hash rs) (low q) t) { signed = signed })
  own_formed q t signed name small plain =
      let is : IsName (served_owner rs (low q) t) = either IsName (eqb t 47 || eqb t 50) (spelled_among rs (low q)) (owner_among rs (low q) t) (first_name rs (low q) h.records_are (lower_name q name)) (owner_name rs (low q) t h.records_are (lower_name q name)) in
      let named : low (served_owner rs (low q) t) ≡ low q = either (λ n. low n ≡ low q) (eqb t 47 || eqb t 50) (spelled_among rs (low q)) (owner_among rs (low q) t) (low-spelled_among rs q) (low-owner_among rs q t) in
      record {
        owner = is;
        rtype = small;
        ttl = ttl_served (low q) t;
        datas = rrset_read true (record (rrset (served_of apex mode hash rs) (low q) t) { signed = signed }) apex rs p h q is named plain;
      }

  soa_formed : IsFormed (soa (served_of apex mode hash rs))
  soa_formed = own_formed apex 6 true h.apex_is (lit< tt) refl

  -- of a delegation, as its records spell it
  cut_formed : (c : Name) (t : ℕ) (signed : Bool) → IsName c → low c ≡ c → t < 65536 → of_chain t ≡ false → IsFormed (record (rrset (served_of apex mode hash rs) c t) { signed = signed })
  cut_formed c t signed name lower small plain = subst (λ o. IsFormed (record (rrset (served_of apex mode hash rs) o t) { signed = signed })) lower (own_formed c t signed name small plain)

  star_formed : (q : Name) (t : ℕ) → IsName q → t < 65536 → of_chain t ≡ false → (e : Name) → low e ≡ e → IsFormed (under q (rrset (served_of apex mode hash rs) (star_under e) t))
  star_formed q t name small plain e lower = subst (λ o. IsFormed (under q (rrset (served_of apex mode hash rs) o t))) (ap star_under lower) (under_formed q (star_under e) t name small plain)

  -- ---- what stands before the chain's records

  at_encloser : (q : Name) (t : ℕ) → IsName q → t < 65536 → of_chain t ≡ false → (ds : List (List ℕ)) → AllByRecursion IsFormed (ahead (served_of apex mode hash rs) q t (StarRecords ds))
  at_encloser q t name small plain ds = at (ce (zone_with apex rs) (low q)) refl
    where
      at : (o : Option Name) → ce (zone_with apex rs) (low q) ≡ o → AllByRecursion IsFormed (elim o [ None ↦ [] | Some e ↦ under q (rrset (served_of apex mode hash rs) (star_under e) t) ∷ [] ])
      at None i = tt
      at (Some e) i = (star_formed q t name small plain e (ce_lower (zone_with apex rs) (low q) e (low-low q) i), tt)

  cut_at : (q : Name) → IsName q → (c : Name) → cut (zone_with apex rs) (low q) ≡ Some c → IsName c × (low c ≡ c)
  cut_at q name c i = (cut_name (zone_with apex rs) (low q) c (lower_name q name) i, cut_lower (zone_with apex rs) (low q) c (low-low q) i)

  at_cut : (q : Name) (t : ℕ) → IsName q → AllByRecursion IsFormed (ahead (served_of apex mode hash rs) q t Delegated)
  at_cut q t name = at (cut (zone_with apex rs) (low q)) refl
    where
      s : Served
      s = served_of apex mode hash rs

      at : (o : Option Name) → cut (zone_with apex rs) (low q) ≡ o → AllByRecursion IsFormed (elim o [ None ↦ [] | Some c ↦ unsigned_ns s c ++ if_any s c 43 ])
      at None i = tt
      at (Some c) i =
          let is = cut_at q name c i in
          (cut_formed c 2 false is.0 is.1 (lit< tt) refl, either (AllByRecursion IsFormed) (has (zone_with apex rs) c 43) (rrset s c 43 ∷ []) [] (cut_formed c 43 true is.0 is.1 (lit< tt) refl, tt) tt)

  left_open : (q : Name) (t : ℕ) → IsName q → AllByRecursion IsFormed (ahead_open (served_of apex mode hash rs) q t NoType)
  left_open q t name = at (cut (zone_with apex rs) (low q)) refl
    where
      s : Served
      s = served_of apex mode hash rs

      at : (o : Option Name) → cut (zone_with apex rs) (low q) ≡ o → AllByRecursion IsFormed (elim o [ None ↦ soa s ∷ [] | Some c ↦ cond (labels_eq c (low q) && eqb t 43) (soa s ∷ []) (unsigned_ns s c) ])
      at None i = (soa_formed, tt)
      at (Some c) i =
          let is = cut_at q name c i in
          either (AllByRecursion IsFormed) (labels_eq c (low q) && eqb t 43) (soa s ∷ []) (unsigned_ns s c) (soa_formed, tt) (cut_formed c 2 false is.0 is.1 (lit< tt) refl, tt)

  at_open : (q : Name) (t : ℕ) → IsName q → t < 65536 → of_chain t ≡ false → (v : Verdict) → AllByRecursion IsFormed (ahead_open (served_of apex mode hash rs) q t v)
  at_open q t name small plain (StarRecords ds) = at_encloser q t name small plain ds
  at_open q t name small plain (Records ds) = left_open q t name
  at_open q t name small plain NoType = left_open q t name
  at_open q t name small plain NoName = left_open q t name
  at_open q t name small plain StarNoType = left_open q t name
  at_open q t name small plain Delegated = left_open q t name
  at_open q t name small plain Open = left_open q t name
  at_open q t name small plain Unsigned = left_open q t name

  ahead_formed : (q : Name) (t : ℕ) → IsName q → t < 65536 → of_chain t ≡ false → (v : Verdict) → AllByRecursion IsFormed (ahead (served_of apex mode hash rs) q t v)
  ahead_formed q t name small plain (Records ds) = (under_formed q q t name small plain, tt)
  ahead_formed q t name small plain NoType = (soa_formed, tt)
  ahead_formed q t name small plain NoName = (soa_formed, tt)
  ahead_formed q t name small plain (StarRecords ds) = at_encloser q t name small plain ds
  ahead_formed q t name small plain StarNoType = (soa_formed, tt)
  ahead_formed q t name small plain Delegated = at_cut q t name
  ahead_formed q t name small plain Open = at_open q t name small plain (verdict (zone_with apex rs) false q t)
  ahead_formed q t name small plain Unsigned = tt

-- ---- the chain

link_formed : (apex : Name) (hash : Name → List ℕ) (rs : List HandedRr) → AreHanded apex rs → (o : Name) → IsName o → IsFormed (chain_record (served_of apex Nsec hash rs) o)
link_formed apex hash rs h o name =
    let z = zone_with apex rs in
    let ttl : chain_ttl apex rs < 4294967296 = chain_small 4294967296 (lit< tt) apex rs (ttls rs h.records_are) in
    let owner : IsName (spelled_among rs o) = first_name rs o h.records_are name in
    let next : IsName (nsec_next z o) = next_name (low apex) o (nsec_names z) (lower_name apex h.apex_is) (chain_named apex rs h.records_are) in
    record {
      owner = owner;
      rtype = lit< tt;
      ttl = ttl;
      datas = (
        record {
          owner = owner;
          named = refl;
          rtype = refl;
          class = refl;
          ttl = ttl;
          reads = reads_nsec _ (bitmap (nsec_types z true o)) (spelled_name apex rs (nsec_next z o) h.apex_is h.records_are next) (spells_set (nsec_types z true o)).spelled;
        },
        tt,
      );
    }

links_formed : (apex : Name) (hash : Name → List ℕ) (rs : List HandedRr) → AreHanded apex rs → (ns : List Name) → AllByRecursion IsName ns → AllByRecursion IsFormed (map (chain_record (served_of apex Nsec hash rs)) ns)
links_formed apex hash rs h [] names = tt
links_formed apex hash rs h (n ∷ ns) names = (link_formed apex hash rs h n names.0, links_formed apex hash rs h ns names.1)

proofs_formed : (apex : Name) (hash : Name → List ℕ) (rs : List HandedRr) → AreHanded apex rs → (qs : List Name) → AllByRecursion IsFormed (proofs_of (served_of apex Nsec hash rs) qs)
proofs_formed apex hash rs h qs =
    let s = served_of apex Nsec hash rs in
    links_formed apex hash rs h (filter (λ o. list_any (speaks_for s o) qs) (chain_names s)) (all_filter IsName (λ o. list_any (speaks_for s o) qs) (chain_names s) (chain_named apex rs h.records_are))

-- ---- a chain of hashes

-- a name owns it
abbrev pub Named : ServedRrset → Type 0
Named g = IsName g.owner

hashed_formed : (apex : Name) (iterations : ℕ) (salt : List ℕ) (optout : Bool) (hash : Name → List ℕ) (rs : List HandedRr) → AreHanded apex rs → (o : Name)
    → Named (chain_record (served_of apex (Nsec3 iterations salt optout) hash rs) o) → IsFormed (chain_record (served_of apex (Nsec3 iterations salt optout) hash rs) o)
hashed_formed apex iterations salt optout hash rs h o name =
    let z = zone_with apex rs in
    let ttl : chain_ttl apex rs < 4294967296 = chain_small 4294967296 (lit< tt) apex rs (ttls rs h.records_are) in
    let is = chain_is_read hash z (parameters_of (Nsec3 iterations salt optout)) o in
    record {
      owner = name;
      rtype = lit< tt;
      ttl = ttl;
      datas = (
        record {
          owner = name;
          named = refl;
          rtype = refl;
          class = refl;
          ttl = ttl;
          reads = reads_nsec3 _ is.0 is.1;
        },
        tt,
      );
    }

all_hashed_formed : (apex : Name) (iterations : ℕ) (salt : List ℕ) (optout : Bool) (hash : Name → List ℕ) (rs : List HandedRr) → AreHanded apex rs → (ns : List Name)
    → AllByRecursion Named (map (chain_record (served_of apex (Nsec3 iterations salt optout) hash rs)) ns) → AllByRecursion IsFormed (map (chain_record (served_of apex (Nsec3 iterations salt optout) hash rs)) ns)
all_hashed_formed apex iterations salt optout hash rs h [] names = tt
all_hashed_formed apex iterations salt optout hash rs h (n ∷ ns) names =
    (hashed_formed apex iterations salt optout hash rs h n names.0, all_hashed_formed apex iterations salt optout hash rs h ns names.1)

-- records of either chain whose owners are names
proofs_read : (apex : Name) (mode : Mode) (hash : Name → List ℕ) (rs : List HandedRr) → AreHanded apex rs → (qs : List Name)
    → AllByRecursion Named (proofs_of (served_of apex mode hash rs) qs) → AllByRecursion IsFormed (proofs_of (served_of apex mode hash rs) qs)
proofs_read apex Nsec hash rs h qs names = proofs_formed apex hash rs h qs
proofs_read apex (Nsec3 iterations salt optout) hash rs h qs names =
    let s = served_of apex (Nsec3 iterations salt optout) hash rs in
    all_hashed_formed apex iterations salt optout hash rs h (filter (λ o. list_any (speaks_for s o) qs) (chain_names s)) names

-- ---- answers

joined_formed : (gs hs : List ServedRrset) → AllByRecursion IsFormed gs → AllByRecursion IsFormed hs → AllByRecursion IsFormed (gs ++ hs)
joined_formed [] hs f more = more
joined_formed (g ∷ gs) hs f more = (f.0, joined_formed gs hs f.1 more)

-- whatever the verdict, and whichever chain
pub answer_formed : (apex : Name) (mode : Mode) (hash : Name → List ℕ) (rs : List HandedRr) → AreZoneRecords apex rs → AreHanded apex rs → (q : Name) (t : ℕ) → IsName q → t < 65536 → of_chain t ≡ false
    → AllByRecursion Named (answer_groups (served_of apex mode hash rs) q t) → AllByRecursion IsFormed (answer_groups (served_of apex mode hash rs) q t)
answer_formed apex mode hash rs p h q t name small plain names =
    let s = served_of apex mode hash rs in
    let v = verdict (zone_with apex rs) (optout_of mode) q t in
    let first : List ServedRrset = ahead s q t v in
    let second : List ServedRrset = proofs_of s (spoken s (low q) (verdict (zone_with apex rs) false q t) v) in
    joined_formed first second (ahead_formed apex mode hash rs p h q t name small plain v) (proofs_read apex mode hash rs h (spoken s (low q) (verdict (zone_with apex rs) false q t) v) (all_behind Named first second names))

canonical_read : (g : ServedRrset) (ttl : ℕ) (ds : List (List ℕ)) → IsName g.owner → ttl < 4294967296 → AllZip (ReadsAs g.rtype) ds ds → AllZip (ReadsRecord g) (map (written_rr g.owner g.rtype ttl) ds) ds
canonical_read g ttl [] name small h = tt
canonical_read g ttl (d ∷ ds) name small h =
    (record { owner = name; named = refl; rtype = refl; class = refl; ttl = small; reads = h.0 }, canonical_read g ttl ds name small h.1)

-- an RRset of the apex that is written in canonical form, with the TTL of the SOA record
pub apex_formed : (apex : Name) (rs : List HandedRr) → AreHanded apex rs → (t : ℕ) (ds : List (List ℕ)) → t < 65536 → eqb t 2 ≡ false → eqb t 6 ≡ false → of_chain t ≡ false → IsFormed (canonical_group apex apex t (ttl_among rs (low apex) 6) ds)
apex_formed apex rs h t ds small ns soa plain =
    let ttl = ttl_fits apex rs h (low apex) 6 in
    record {
      owner = h.apex_is;
      rtype = small;
      ttl = ttl;
      datas = canonical_read (canonical_group apex apex t (ttl_among rs (low apex) 6) ds) (ttl_among rs (low apex) 6) ds h.apex_is ttl (all_plain t ds ns soa plain);
    }

-- the DNSKEY RRset
pub keys_formed : (apex : Name) (rs : List HandedRr) → AreHanded apex rs → (ks : List Dnskey) → IsFormed (key_group apex (ttl_among rs (low apex) 6) ks)
keys_formed apex rs h ks = apex_formed apex rs h 48 (key_data ks) (lit< tt) refl refl refl

-- the NSEC3PARAM RRset
pub parameters_formed : (apex : Name) (rs : List HandedRr) → AreHanded apex rs → (iterations : ℕ) (salt : List ℕ) → IsFormed (parameters_group apex (ttl_among rs (low apex) 6) iterations salt)
parameters_formed apex rs h iterations salt = apex_formed apex rs h 51 (nsec3param_octets (nsec3param_with 1 0 iterations salt) ∷ []) (lit< tt) refl refl refl
