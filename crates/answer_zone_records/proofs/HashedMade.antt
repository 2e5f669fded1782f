-- A chain of hashes that was made is that of the zone, and why none is made.
use Rattle.std.proofs.Common.{◌≡◌, ℕ, ◌%◌, ◌<◌, Bool, true, false, ◌&&◌, List, [], ◌∷◌, ◌++◌, map, Option, Some, None, inl, inr, refl, sym, ap, subst, ◌∙◌, append_assoc}
use Rattle.std.specs.Prelude.{if◌then◌else◌, ◌==◌, IsSome, length, unwrap_or}
use Rattle.std.specs.Int.{w16, to_be_bytes}
use Rattle.std.specs.List.{AllByRecursion, Contains}
use Rattle.std.specs.Option.{is_none}
use Rattle.std.proofs.lemmas.Bool.{false≢true, or_parts}
use Rattle.std.specs.Cmp.{IsTotalOrder}
use Rattle.std.specs.FinMap.{nat_cmp-IsAntisymmetric, slice_cmp-IsAntisymmetric}
use Rattle.std.specs.Str.{bytes_eq}
use Rattle.std.specs.declared.cmp.Ordering.{Ordering}
use Rattle.std.proofs.lemmas.Cmp.{nat_list_cmp_total, on_total}
use Rattle.definitions.specs.Base32hex.{base32hex}
use Rattle.definitions.specs.Bitmap.{bitmap}
use Rattle.definitions.specs.Laws.{IsNsec3Chain, NoneShare}
use Rattle.definitions.specs.Name.{Name, low, wire}
use Rattle.definitions.specs.Zone.{Zone}
use Rattle.definitions.specs.ZoneChain.{Mode, Nsec3, behind, hash_cmp, hashed_names, head_or, links, nsec3_names, nsec3_next, nsec3_types, optout_of}
use Rattle.definitions.proofs.Members.{In, any_of, contained, in_contained, in_map, sort_keeps}
use Rattle.plain.specs.ZoneData.{zone_canonical, zone_type}
use Rattle.plain.specs.declared.record.Record.{Record}
use Rattle.plain.specs.declared.zone_data.ZoneRecordData.{ZoneRecordData}
use Rattle.denial_nsec_data.specs.Hashed.{Nsec3Data, Nsec3paramData, nsec3param_with}
use Rattle.denial_nsec3_hash.specs.Hashing.{Answers, FitsName, answered, hash_by}
use Rattle.denial_nsec3_hash.specs.declared.config.GenerateNsec3Config.{GenerateNsec3Config}
use Rattle.denial_nsec3_names.specs.Chained.{TwoShare, some_fails}
use Rattle.denial_chain_owners.specs.Ttls.{has_unequal_ttls}
use Rattle.denial_chain_owners.specs.declared.error.SigningError.{SigningError}
use Rattle.denial_chain_owners.specs.declared.error.SigningError.TheVariants.{NoSingleSoa, MultipleTtlValues, HashFailed, HashTooLong, HashCollision, Memory}
use Rattle.denial_chain_owners.specs.declared.soa.SoaTtls.{SoaTtls}
use Rattle.denial_nsec3_chain.specs.Chain.{leaves_out, making, nsec3_chain, zone_among}
use Rattle.denial_nsec3_chain.specs.Faults.{HasNoFault, IsNsec3Fault}
use Rattle.denial_nsec3_chain.specs.Linked.{Making, nsec3_record}
use Rattle.denial_nsec3_chain.proofs.Linking.{behind_each, octets_rise}
use Rattle.messages.specs.HandedRr.{HandedRr, handed_of}
use Rattle.answer_terms.specs.Accepting.{zone_with}
use Rattle.answer_terms.specs.Chainable.{AllHashed}
use Rattle.answer_terms.specs.HashedLinks.{HashedLink, hashed_link_at, hashed_links_of}
use Rattle.answer_terms.specs.Hashing.{Hasher, hash_in}
use Rattle.answer_zone_records.specs.MadeLinks.{HasOctets, IsMade, IsUnmade, hashed_around, hashed_from, hashed_link_of, last_next}
use Rattle.answer_zone_records.proofs.ZoneWords.{map_agree, zone_is}

-- ---- each record's hash is the next hash of the one before

module _ (m : Making) (apex : Name) (hash : Name → List ℕ) (types : Name → List ℕ) (all : List Name) where
  abbrev next_in : Name → List ℕ
  next_in o = behind bytes_eq [] (hash o) (links (head_or [] (map hash all)) (map hash all))

  abbrev made_at : Name → Record Name Nsec3Data
  made_at o = nsec3_record m apex (hash o) (next_in o) (types o)

  abbrev kept_at : Name → HashedLink
  kept_at o = hashed_link_of (hash o) (made_at o)

  abbrev Leads : Name × Name → Type 0
  Leads l = next_in l.0 ≡ hash l.1

  walked : (f x : Name) (xs : List Name) → AllByRecursion Leads (links f (x ∷ xs)) → hashed_from (hash x) (map made_at (x ∷ xs)) ≡ map kept_at (x ∷ xs)
  walked f x [] h = refl
  walked f x (y ∷ ys) h = ap (λ t. kept_at x ∷ t) (ap (λ n. hashed_from n (map made_at (y ∷ ys))) h.0 ∙ walked f y ys h.1)

  last_leads : (d : List ℕ) (f x : Name) (xs : List Name) → AllByRecursion Leads (links f (x ∷ xs)) → last_next d (map made_at (x ∷ xs)) ≡ hash f
  last_leads d f x [] h = h.0
  last_leads d f x (y ∷ ys) h = last_leads (next_in x) f y ys h.1

around : (m : Making) (apex : Name) (hash : Name → List ℕ) (types : Name → List ℕ) (all : List Name) → Rattle.definitions.specs.Signing.ascending (map hash all) ≡ true → hashed_around (map (made_at m apex hash types all) all) ≡ map (kept_at m apex hash types all) all
around m apex hash types [] r = refl
around m apex hash types (x ∷ xs) r =
    let leads = behind_each hash x (x ∷ xs) (octets_rise (map hash (x ∷ xs)) r) in
    ap (λ h. hashed_from h (map (made_at m apex hash types (x ∷ xs)) (x ∷ xs))) (last_leads m apex hash types (x ∷ xs) [] x x xs leads)
    ∙ walked m apex hash types (x ∷ xs) x x xs leads

-- ---- the chain of a zone

flags_are : (o : Bool) → ((if o then 1 else 0) % 2 == 1) ≡ o
flags_are true = refl
flags_are false = refl

none_fails : (answers : Answers) (p : Nsec3paramData) (ns : List Name) → some_fails answers p ns ≡ false → (n : Name) → In n ns → (h : List ℕ) × (answered answers p n ≡ Some h)
none_fails answers p [] e n i = absurd i
none_fails answers p (m ∷ ns) e n i = go (answered answers p m) refl (none_fails answers p ns (or_parts (is_none (answered answers p m)) (some_fails answers p ns) e).1 n) i
  where
    go : (a : Option (List ℕ)) → answered answers p m ≡ a → (In n ns → (h : List ℕ) × (answered answers p n ≡ Some h)) → In n (m ∷ ns) → (h : List ℕ) × (answered answers p n ≡ Some h)
    go None q f j = absurd (false≢true (sym (or_parts (is_none (answered answers p m)) (some_fails answers p ns) e).0 ∙ ap is_none q))
    go (Some h) q f j = elim j [ inl s ↦ (h, ap (answered answers p) s ∙ q) | inr t ↦ f t ]

to_in : {X : Type 0} (xs : List X) (x : X) → Contains xs x → In x xs
to_in xs x c = in_contained xs x c.0 c.1 c.2

fails_none : (o : Option (List ℕ)) → is_none o ≡ true → o ≡ None
fails_none None e = refl
fails_none (Some h) e = absurd (false≢true e)

-- the hash of one fits no name, with all parameters named
record TooLong (answers : Answers) (apex : Name) (p : Nsec3paramData) (ns : List Name) : Type 0 where
  hashed : some_fails answers p ns ≡ false
  one : Name
  has_one : Contains ns one
  hash : List ℕ
  of_one : answered answers p one ≡ Some hash
  long : FitsName apex hash → ⊥

record Chains (answers : Answers) (apex : Name) (p : Nsec3paramData) (ns : List Name) : Type 0 where
  hashed : some_fails answers p ns ≡ false
  fit : AllByRecursion (λ o. FitsName apex (hash_by answers p o)) ns
  apart : NoneShare (hash_by answers p) ns

all_in : {A : Type 0} (P : A → Type 0) (xs : List A) → AllByRecursion P xs → (x : A) → In x xs → P x
all_in P [] h x i = absurd i
all_in P (y ∷ ys) h x i = elim i [ inl s ↦ subst P (sym s) h.0 | inr j ↦ all_in P ys h.1 x j ]

-- each name's hash stands in a record of the chain, since no two share one
pub hashes_are_octets : (hash : Name → List ℕ) (mode : Mode) (apex : Name) (rs : List HandedRr) → NoneShare hash (nsec3_names (zone_with apex rs) (optout_of mode)) → AllByRecursion HasOctets (hashed_links_of hash mode apex rs)
    → (n : Name) → Contains (nsec3_names (zone_with apex rs) (optout_of mode)) n → AllByRecursion (λ x. x < 256) (hash n)
hashes_are_octets hash mode apex rs apart made n has =
    let names : List Name = nsec3_names (zone_with apex rs) (optout_of mode) in
    let R : Name → Name → Ordering = λ a b. hash_cmp (hash a) (hash b) in
    let total : IsTotalOrder R = on_total hash nat_list_cmp_total in
    let there : In n (hashed_names hash (zone_with apex rs) (optout_of mode)) =
    sort_keeps R total names n (λ a b i j e. apart a b (contained names a i) (contained names b j) (slice_cmp-IsAntisymmetric nat_cmp-IsAntisymmetric (hash a) (hash b) e)) (to_in names n has) in
    all_in HasOctets (hashed_links_of hash mode apex rs) made (hashed_link_at hash mode apex rs n)
    (in_map (hashed_link_at hash mode apex rs) (hashed_names hash (zone_with apex rs) (optout_of mode)) n there)

module _ {O S : Type 0} (answers : Hasher) (apex : Name) (rs : List (Record Name (ZoneRecordData O Name))) (c : GenerateNsec3Config S) (iterations : ℕ) (salt : List ℕ) (o : Bool)
    (params : c.params ≡ nsec3param_with 1 (if o then 1 else 0) iterations salt) (dnskeys : c.assume_dnskeys_will_be_added ≡ true) (excluding : c.opt_out_exclude_owner_names_of_unsigned_delegations ≡ true) where
  abbrev mode : Mode
  mode = Nsec3 iterations salt o

  abbrev p : Nsec3paramData
  p = nsec3param_with 1 (if o then 1 else 0) iterations salt

  abbrev z : Zone
  z = zone_with apex (map handed_of rs)

  leaves : leaves_out c ≡ o
  leaves = (λ i. excluding i && ((params i).flags % 2 == 1)) ∙ flags_are o

  names : nsec3_names (zone_among (λ n. n) apex rs) (leaves_out c) ≡ nsec3_names z o
  names = λ i. nsec3_names (zone_is apex rs i) (leaves i)

  all_hashed : some_fails answers p (nsec3_names z o) ≡ false → AllHashed answers iterations salt o z
  all_hashed e n k = none_fails answers p (nsec3_names z o) e n (to_in (nsec3_names z o) n k)

  same_hash : hash_by answers p ≡ hash_in answers mode
  same_hash = λ i n. unwrap_or (answers (wire (low n)) 1 iterations salt) []

  -- ---- its links

  abbrev linked : Nsec3paramData → Bool → Bool → Zone → List HashedLink
  linked p d l z = map (λ n. hashed_link_of (hash_by answers p n) (nsec3_record (record { params = p; dnskey = d; ttl = 0 }) apex (hash_by answers p n) (nsec3_next (hash_by answers p) z l n) (nsec3_types z d n))) (hashed_names (hash_by answers p) z l)

  octets_are : (n : Name) → hashed_link_of (hash_by answers p n) (nsec3_record (record { params = p; dnskey = true; ttl = 0 }) apex (hash_by answers p n) (nsec3_next (hash_by answers p) z o n) (nsec3_types z true n)) ≡ hashed_link_at (hash_by answers p) mode apex (map handed_of rs) n
  octets_are n =
      let next : List ℕ = nsec3_next (hash_by answers p) z o n in
      let bits : List ℕ = bitmap (nsec3_types z true n) in
      let flags : ℕ = if o then 1 else 0 in
      let octets : List ℕ → HashedLink = λ tail. record { owner = base32hex (hash_by answers p n) ∷ apex; hash = hash_by answers p n; next = next; octets = 1 ∷ flags ∷ tail } in
      ap octets (sym (append_assoc (to_be_bytes w16 iterations ++ (length salt ∷ salt)) (length next ∷ next) bits))

  pub links_are : (s : SoaTtls) (made : List (Record Name Nsec3Data)) → made ≡ nsec3_chain (λ n. n) apex answers c rs s → IsNsec3Chain (hash_by answers c.params) (zone_among (λ n. n) apex rs) (leaves_out c)
      → hashed_around made ≡ hashed_links_of (hash_in answers mode) mode apex (map handed_of rs)
  links_are s made is speaks =
      let zone = zone_among (λ n. n) apex rs in
      ap hashed_around is
      ∙ around (making c s) apex (hash_by answers c.params) (nsec3_types zone c.assume_dnskeys_will_be_added) (hashed_names (hash_by answers c.params) zone (leaves_out c)) speaks.ascends
      ∙ (λ i. linked (params i) (dnskeys i) (leaves i) (zone_is apex rs i))
      ∙ map_agree (λ n. hashed_link_of (hash_by answers p n) (nsec3_record (record { params = p; dnskey = true; ttl = 0 }) apex (hash_by answers p n) (nsec3_next (hash_by answers p) z o n) (nsec3_types z true n))) (hashed_link_at (hash_by answers p) mode apex (map handed_of rs)) octets_are (hashed_names (hash_by answers p) z o)
      ∙ ap (λ h. hashed_links_of h mode apex (map handed_of rs)) same_hash

  -- ---- what it asks for

  pub is_made : (s : SoaTtls) → HasNoFault (λ n. n) apex answers c rs s → AllByRecursion HasOctets (hashed_links_of (hash_in answers mode) mode apex (map handed_of rs)) → IsMade answers apex mode rs
  is_made s f made =
      let k : Chains answers apex p (nsec3_names z o) = subst (Chains answers apex p) names (subst (λ q. Chains answers apex q (nsec3_names (zone_among (λ n. n) apex rs) (leaves_out c))) params (record { hashed = f.hashed; fit = f.fit; apart = f.apart })) in
      record {
        soa = subst IsSome (sym f.soa) refl;
        ttls = ap (λ b. has_unequal_ttls (λ n. n) zone_type (zone_canonical (λ n. n)) apex b rs) (sym leaves) ∙ f.ttls;
        chain = record {
          hashed = all_hashed k.hashed;
          octets = hashes_are_octets (hash_in answers mode) mode apex (map handed_of rs) k.apart made;
          fit = λ n i. all_in (λ o. FitsName apex (hash_by answers p o)) (nsec3_names z o) k.fit n (to_in (nsec3_names z o) n i);
          apart = k.apart;
        };
      }

  pub is_unmade : (e : SigningError) → IsNsec3Fault (λ n. n) apex answers c rs e → IsUnmade answers apex mode rs e
  is_unmade NoSingleSoa f = f
  is_unmade MultipleTtlValues f = ap (λ b. has_unequal_ttls (λ n. n) zone_type (zone_canonical (λ n. n)) apex b rs) (sym leaves) ∙ f
  is_unmade HashFailed f =
      let e : some_fails answers p (nsec3_names z o) ≡ true = (λ i. some_fails answers (sym params i) (sym names i)) ∙ f in
      let n = any_of (λ n. is_none (answered answers p n)) (nsec3_names z o) e in
      record { name = n.0; of_chain = contained (nsec3_names z o) n.0 n.1.0; fails = fails_none (answered answers p n.0) n.1.1 }
  is_unmade HashTooLong f =
      let k : TooLong answers apex p (nsec3_names z o) = subst (TooLong answers apex p) names (subst (λ q. TooLong answers apex q (nsec3_names (zone_among (λ n. n) apex rs) (leaves_out c))) params (record { hashed = f.hashed; one = f.one; has_one = f.has_one; hash = f.hash; of_one = f.of_one; long = f.long })) in
      record { hashed = all_hashed k.hashed; one = record { name = k.one; of_chain = k.has_one; octets = k.hash; has = k.of_one }; long = k.long }
  is_unmade HashCollision f =
      let k : TwoShare answers p (nsec3_names z o) = subst (TwoShare answers p) names (subst (λ q. TwoShare answers q (nsec3_names (zone_among (λ n. n) apex rs) (leaves_out c))) params f) in
      record {
        hashed = all_hashed k.hashed;
        first = record { name = k.first; of_chain = k.has_first; octets = k.hash; has = k.of_first };
        second = record { name = k.second; of_chain = k.has_second; octets = k.hash; has = k.of_second };
        unlike = k.unlike;
        shared = refl;
      }
  is_unmade Memory f = tt
