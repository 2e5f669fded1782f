-- The keys of an honest DNSKEY answer that a trusted key signs are published.
use Rattle.std.proofs.Common.{◌≡◌, ℕ, ◌+◌, ◌*◌, ◌<◌, Bool, true, false, ◌&&◌, List, [], ◌∷◌, map, Some, None, Ok, eqb, refl, sym, ap, subst, ◌∙◌, inl, inr, arith}
use Rattle.std.specs.Prelude.{◌==◌, Contains, if◌then◌else◌}
use Rattle.std.specs.List.{AllByRecursion, filter, list_any}
use Rattle.std.specs.Int.{w16, to_be_bytes}
use Rattle.std.specs.Ordering.{nat_cmp}
use Rattle.std.specs.Cmp.Lexicographic.{slice_cmp}
use Rattle.std.proofs.lemmas.Bool.{and_from, and_parts, eq-eqb, eqb-true, false≢true}
use Rattle.definitions.specs.Dnskey.{Dnskey, dnskey_data, dnskey_of_data}
use Rattle.definitions.specs.Name.{Name, low, same}
use Rattle.definitions.specs.Zone.{Zone, sorted_data}
use Rattle.definitions.specs.ZoneChain.{Mode, Nsec, Nsec3}
use Rattle.denial_laws.specs.Truth.{is_added_type}
use Rattle.messages.specs.Message.{AreOctets, Message, Spelled, data_of, message}
use Rattle.messages.proofs.ZoneNames.{labels_eq-same}
use Rattle.messages.proofs.Lists.{Has, all_at, all_more, all_sorted, some_is}
use Rattle.answer_terms.specs.Hashing.{hash_in}
use Rattle.answer_terms.proofs.KeyData.{key_read_back}
use Rattle.answer_scheme.specs.Answers.{Answers}
use Rattle.answer_judge.specs.Honest.{IsHonest, NoStranger, Signing, WasSigned, sought_of_keys}
use Rattle.answer_judge.specs.Versions.{IsOfChain, IsRrsetOf, OfZone, OfChain, OfMade, OfParameters, SignedRrset, Version, zone_in}
use Rattle.answer_judge_facts.specs.Trusted.{is_trusted, is_usable, matches_key}
use Rattle.answer_judge.specs.Judged.{ds_authenticates_keys, keys_of, trusting}
use Rattle.answer_judge.specs.Judging.{JudgeInput}
use Rattle.answer_judge_facts.specs.DnskeyAnswer.{key_at, keys_in}
use Rattle.answer_judge_facts.proofs.GivenKeys.{IsKeyData, data_of_key, key_data}
use Rattle.answer_judge.proofs.GivenLists.{contained_has, has_contained}
use Rattle.answer_judge_facts.proofs.GivenSorted.{data_has, sorted_from}
use Rattle.answer_judge.proofs.HonestFacts.{IsKnown, IsOfDenial, denial_no_key, not_added, signed_has}
use Rattle.answer_judge_facts.proofs.KeptItems.{kept_from, passes_has}
use Rattle.answer_judge.proofs.HonestReads.{IsDatum, ReadsRecord, data_read, message_read, octets_16, octets_join}
use Rattle.answer_judge.proofs.HonestTold.{IsSignedOf, OfKeys, OfVersion, signed_of}
use Rattle.answer_judge.proofs.HonestVerified.{Found, IsSigner, found_verifying, over_signed}

-- ---- keys that are read

-- a key that octets spell
pub record IsReadKey (key : Dnskey) : Type 0 where
  pub datum : IsDatum (dnskey_data key)
  pub small : key.flags < 65536

read_key : (d : List ℕ) (key : Dnskey) → IsDatum d → dnskey_of_data d ≡ Some key → IsReadKey key
read_key [] key i e = cc
read_key (a ∷ []) key i e = cc
read_key (a ∷ b ∷ []) key i e = cc
read_key (a ∷ b ∷ p ∷ []) key i e = cc
read_key (a ∷ b ∷ p ∷ g ∷ octets) key i e =
    let k : Dnskey = record { flags = a * 256 + b; protocol = p; algorithm = g; octets = octets } in
    subst IsReadKey (some_is k key e) (record {
      datum = record {
        short = omega (arith, i.short);
        octets = octets_join (to_be_bytes w16 (a * 256 + b)) (p ∷ g ∷ octets) (octets_16 (a * 256 + b)) i.octets.1.1;
      };
      small = omega (arith, i.octets.0, i.octets.1.0);
    })

-- a record of a key
pub record IsKeyRecord (m : List ℕ) (rs : List Spelled) (key : Dnskey) : Type 0 where
  pub spelled : Spelled
  pub there : Has rs spelled
  pub type_is : spelled.rtype ≡ 48
  pub reads : dnskey_of_data (data_of m spelled) ≡ Some key

key_record : (m : List ℕ) (apex : Name) (rs : List Spelled) (key : Dnskey) (r : Spelled) → Has rs r → key_at m apex r ≡ Some key → IsKeyRecord m rs key
key_record m apex rs key r i e =
    let got = go (same r.owner apex && (r.rtype == 48) && (r.class == 1)) e in
    record {
      spelled = r;
      there = i;
      type_is = eqb-true r.rtype 48 (and_parts (same r.owner apex) (r.rtype == 48) (and_parts (same r.owner apex && (r.rtype == 48)) (r.class == 1) got.0).0).1;
      reads = got.1;
    }
  where
    go : (b : Bool) → (if b then dnskey_of_data (data_of m r) else None) ≡ Some key → (b ≡ true) × (dnskey_of_data (data_of m r) ≡ Some key)
    go true h = (refl, h)
    go false h = cc

pub is_read_key : (m : List ℕ) (apex : Name) (rs : List Spelled) → AreOctets m → AllByRecursion ReadsRecord rs → (key : Dnskey) → Has (keys_in m apex rs) key → IsReadKey key
is_read_key m apex rs octets are key i =
    let from = kept_from (key_at m apex) rs key i in
    let r : IsKeyRecord m rs key = key_record m apex rs key from.0 from.1 from.2 in
    read_key (data_of m r.spelled) key (data_read m r.spelled octets (all_at ReadsRecord rs r.spelled are r.there).short) r.reads

each_datum : (ks : List Dnskey) → ((key : Dnskey) → Has ks key → IsReadKey key) → AllByRecursion IsDatum (map dnskey_data ks)
each_datum [] f = tt
each_datum (key ∷ ks) f = ((f key (inl refl)).datum, each_datum ks (λ y i. f y (inr i)))

-- the RRset of the keys of a message
pub keys_read : (m : List ℕ) (apex : Name) (rs : List Spelled) → AreOctets m → AllByRecursion ReadsRecord rs → AllByRecursion IsDatum (sorted_data (map dnskey_data (keys_in m apex rs)))
keys_read m apex rs octets are = all_sorted IsDatum (slice_cmp nat_cmp) (map dnskey_data (keys_in m apex rs)) (each_datum (keys_in m apex rs) (is_read_key m apex rs octets are))

chain_other : (z : Zone) (hash : Name → List ℕ) (mode : Mode) (x : SignedRrset) → IsOfChain z hash mode x → x.rtype ≡ 48 → ⊥
chain_other z hash Nsec x is e = false≢true (ap (λ (n : ℕ). eqb n 48) (sym is.rtype_is ∙ e))
chain_other z hash (Nsec3 iterations salt optout) x is e = false≢true (ap (λ (n : ℕ). eqb n 48) (sym is.rtype_is ∙ e))

-- no RRset of a version is one of keys
no_keys : (apex : Name) (hash : Name → List ℕ) (v : Version) → IsKnown apex v → (g : SignedRrset) → IsRrsetOf apex hash v g → g.rtype ≡ 48 → ⊥
no_keys apex hash v known g (OfZone signed datas) e = not_added apex v known.servable (low g.owner) g.rtype (ap is_added_type e) (signed_has (zone_in apex v) (low g.owner) g.rtype signed)
no_keys apex hash v known g (OfChain is) e = chain_other (zone_in apex v) hash v.mode g is e
no_keys apex hash v known g (OfMade i) e = denial_no_key g (all_at IsOfDenial v.made g known.denials (has_contained v.made g i)) e
no_keys apex hash v known g (OfParameters o e) f = false≢true (ap (λ n. eqb n 48) (sym e ∙ f))

module _ (a : Answers) (k : ℕ) (h : JudgeInput) (published : List Dnskey) (signings : List Signing) (known : (s : Signing) → Has signings s → IsKnown h.apex s.version) (read : Message)
    (honest : IsHonest a k h published (WasSigned a h.apex published signings) (sought_of_keys h) h.dnskey_bytes) (reads : message k h.dnskey_bytes ≡ Ok read) (keys_known : NoStranger a k h published)
    (flags_are : AllByRecursion (λ (key : Dnskey). key.flags < 65536) published) where
  abbrev keys : List Dnskey
  keys = keys_of h read

  -- those that a DS record names
  abbrev trusted : List Dnskey
  trusted = filter (is_trusted a h.apex h.ds) keys

  trusted_signs : (key : Dnskey) → Has trusted key → IsSigner published key
  trusted_signs key i =
      let p = passes_has (is_trusted a h.apex h.ds) keys key i in
      record {
        known = keys_known read key reads (contained_has keys key p.0) p.1;
        usable = (and_parts (is_usable key) (list_any (matches_key a h.apex key) h.ds) p.1).0;
      }

  abbrev items : List (List ℕ)
  items = sorted_data (map dnskey_data keys)

  records_are : AllByRecursion ReadsRecord read.records
  records_are = message_read k h.dnskey_bytes read honest.octets_are reads

  -- the RRset that was signed is that of keys that were published
  from_present : (present : List Dnskey) → AllByRecursion (Contains published) present → items ≡ sorted_data (map dnskey_data present) → (key : Dnskey) → Has keys key → Contains published key
  from_present present of same key i =
      let d : List ℕ = dnskey_data key in
      let inside : Has items d = data_has (map dnskey_data keys) d (data_of_key keys key i) in
      let back : Has (map dnskey_data present) d = sorted_from (slice_cmp nat_cmp) (map dnskey_data present) d (subst (λ ds. Has ds d) same inside) in
      let small : AllByRecursion (λ (key : Dnskey). key.flags < 65536) present = all_more (Contains published) (λ (key : Dnskey). key.flags < 65536) present (λ x c. all_at (λ (key : Dnskey). key.flags < 65536) published x flags_are (has_contained published x c)) of in
      let p : IsKeyData present d = key_data present d small back in
      let one : p.key ≡ key = some_is p.key key (sym p.reads ∙ key_read_back key (is_read_key h.dnskey_bytes h.apex read.records honest.octets_are records_are key i).small) in
      subst (Contains published) one (all_at (Contains published) present p.key of p.inside)

  module _ (chained : ds_authenticates_keys a k h read ≡ true) where
    abbrev x : Found (trusting a h trusted) k h.dnskey_bytes read.records h.apex 48 items
    x = found_verifying (trusting a h trusted) k h.dnskey_bytes read.records h.apex 48 items chained

    sought : (sought_of_keys h read.records).is x.spelled.owner x.by.fields.covered ≡ true
    sought = and_from _ _ (eq-eqb 48 x.by.fields.covered (sym x.by.covered)) (labels_eq-same (low x.spelled.owner) (low h.apex) x.by.owner_is)

    was : IsSignedOf a h.apex published signings x.by.fields x.spelled.owner items
    was =
        signed_of a h.apex published signings x.by.fields x.spelled.owner items
        (over_signed a k h published (WasSigned a h.apex published signings) (sought_of_keys h) h.dnskey_bytes read honest reads trusted trusted_signs h.apex 48 items (keys_read h.dnskey_bytes h.apex read.records honest.octets_are records_are) x sought refl)

    pub all_published : (key : Dnskey) → Has keys key → Contains published key
    all_published = go was
      where
        go : IsSignedOf a h.apex published signings x.by.fields x.spelled.owner items → (key : Dnskey) → Has keys key → Contains published key
        go (OfKeys is) = from_present is.present is.published_are is.tells.contents
        go (OfVersion is) = absurd (no_keys h.apex (hash_in a.hash is.signing.version.mode) is.signing.version (known is.signing is.there) is.is.rrset is.is.of (sym is.is.tells.covered ∙ x.by.covered))
