-- What is verified in bytes that tell a zone's answer is the zone's own facts, up to case.
use Rattle.std.proofs.Common.{◌≡◌, ℕ, ◌<◌, ◌≤◌, Bool, true, false, ◌&&◌, ◌||◌, cond, length, List, [], ◌∷◌, ◌++◌, map, Option, Some, None, eqb, leb, refl, sym, ap, ◌∙◌, ◌⊎◌, inl, inr, ⊎_elim, arith}
use Rattle.std.specs.Prelude.{◌==◌, Contains, IfSome, nat_lt}
use Rattle.std.specs.List.{AllByRecursion, AllZip, find}
use Rattle.std.proofs.lemmas.Bool.{and_parts, eq-eqb, false≢true, leb-true, ltb-false, ltb-true, ne_eqb, or_from}
use Rattle.std.proofs.lemmas.List.Folds.{list_any-append}
use Rattle.definitions.specs.Dnskey.{Dnskey}
use Rattle.definitions.specs.Name.{Name, IsLabel, low, same, at_or_above}
use Rattle.definitions.specs.Signing.{label_count}
use Rattle.definitions.specs.Zone.{Zone, Verdict, apex_of, has, verdict}
use Rattle.definitions.specs.ZoneChain.{Mode, Nsec, Nsec3, nsec3_names, optout_of}
use Rattle.definitions.proofs.ZoneNames.{above_lowered}
use Rattle.denial_laws.specs.Facts.{Link, Rrset, is_expanded}
use Rattle.denial_laws.specs.OwnFacts.{own_facts, own_hash_links, own_links, own_rrset, spoken}
use Rattle.denial_laws.specs.Truth.{IsServable}
use Rattle.messages.specs.HandedRr.{HandedRr}
use Rattle.messages.specs.Handed.{IsHanded}
use Rattle.messages.specs.Message.{Asked, Spelled}
use Rattle.messages.proofs.Lists.{Has, all_at, all_more, all_sorted, eqb-back}
use Rattle.answer_terms.specs.Accepting.{over_limit, record_cmp, soas, sorted_records, zone_of, zone_with}
use Rattle.answer_terms.specs.Chainable.{HasChain}
use Rattle.answer_terms.specs.Hashing.{Hasher, hash_in}
use Rattle.answer_terms.specs.Served.{ServedRrset, Served, ahead, answer_groups, proofs_of, served_of}
use Rattle.answer_terms.specs.Told.{TellsGroups, fields_for}
use Rattle.answer_terms.proofs.AllowedTypes.{unsigned_from}
use Rattle.answer_terms.proofs.Servable.{asked_inside, servable}
use Rattle.answer_terms.proofs.ZoneData.{label_count-low}
use Rattle.answer_judge_facts.specs.Trusted.{fits_key, may_expand}
use Rattle.answer_judge.specs.Meeting.{holds}
use Rattle.answer_terms.specs.FactsCase.{low_facts, low_link}
use Rattle.answer_judge.specs.OwnFacts.{TellsZone, ToldFactsAreOwn}
use Rattle.answer_judge_facts.specs.Verified.{Trusting, verified_facts, verified_hash_links, verified_links, verified_rrset}
use Rattle.answer_judge.proofs.GivenGroups.{SameLink, has_twins}
use Rattle.answer_judge.proofs.GivenHashes.{verified_hash_links_given}
use Rattle.answer_judge.proofs.GivenLinks.{IsProof, verified_links_given}
use Rattle.answer_judge.proofs.GivenLists.{has_contained, has_left}
use Rattle.answer_judge.proofs.GivenRrset.{all_joined, is_ordinary, is_signed_rrset, verified_rrset_given, verified_rrset_missing}
use Rattle.answer_judge.proofs.GivenSignatures.{IsSignedBy}
use Rattle.answer_judge.proofs.OwnAnswer.{IsFront, Proves, own_front}
use Rattle.answer_judge.proofs.OwnBehind.{IsBehind, IsVerifiable, hashes_behind, names_behind}
use Rattle.answer_judge.proofs.OwnChain.{AreNamed}

-- links that are the same up to case have the same names in lower case
lowered_links : (fs ls : List Link) → AllZip SameLink fs ls → map low_link fs ≡ map low_link ls
lowered_links [] [] h = refl
lowered_links [] (l ∷ ls) h = absurd h
lowered_links (f ∷ fs) [] h = absurd h
lowered_links (f ∷ fs) (l ∷ ls) h =
    let rest = lowered_links fs ls h.1 in
    λ i. record { owner = h.0.owner_is i; next = low (h.0.next_is i); bits = h.0.bits_are i } ∷ rest i

-- an item of two lists put together
pub from_joined : {A : Type 0} (xs ys : List A) (x : A) → Has (xs ++ ys) x → Has xs x ⊎ Has ys x
from_joined [] ys x h = inr h
from_joined (y ∷ xs) ys x h = ⊎_elim (λ e. inl (inl e)) (λ k. ⊎_elim (λ i. inl (inr i)) (λ j. inr j) (from_joined xs ys x k)) h

-- a zone's answer is told, under keys of which one that signs is trusted
pub record IsToldBy (w : Trusting) (k : ℕ) (m : List ℕ) (records : List Spelled) (apex : Name) (mode : Mode) (hash : Name → List ℕ) (rs : List HandedRr) (q : Name) (t : ℕ) : Type 0 where
  pub at : ℕ
  pub life : ℕ
  pub keys : List Dnskey
  pub key : Dnskey
  pub trusted_apex : w.apex ≡ apex
  pub apex_is : AllByRecursion IsLabel apex
  pub named : AreNamed rs
  pub servable : IsServable (zone_with apex rs)
  pub soa_there : has (zone_with apex rs) (low apex) 6 ≡ true
  pub inside : at_or_above (apex_of (zone_with apex rs)) (low q) ≡ true
  pub not_rrsig : eqb t 46 ≡ false
  pub not_nsec : eqb t 47 ≡ false
  pub not_nsec3 : eqb t 50 ≡ false
  pub groups_are : TellsGroups w.answers.verifies k m records apex at life keys (answer_groups (served_of apex mode hash rs) q t)
  pub signer : Has keys key
  pub found : (g : ServedRrset) → find (fits_key (fields_for apex at life g key)) w.keys ≡ Some key
  pub hold : holds at life w.now ≡ true

-- iterations that a record holds, and hashes of the chain that are octets
abbrev pub FitsRecords : Zone → Mode → (Name → List ℕ) → Type 0
FitsRecords z Nsec hash = Unit {0}
FitsRecords z (Nsec3 iterations salt optout) hash = (iterations < 65536) × ((n : Name) → Contains (nsec3_names z optout) n → AllByRecursion (λ x. x < 256) (hash n))

module _ (w : Trusting) (k : ℕ) (m : List ℕ) (records : List Spelled) (apex : Name) (mode : Mode) (hash : Name → List ℕ) (rs : List HandedRr) (q : Name) (t : ℕ) (told : IsToldBy w k m records apex mode hash rs q t) where
  abbrev z : Zone
  z = zone_with apex rs

  abbrev s : Served
  s = served_of apex mode hash rs

  abbrev said : Verdict
  said = verdict z (optout_of mode) q t

  abbrev front : List ServedRrset
  front = ahead s q t said

  is_front : IsFront apex q t front (own_rrset z q t said)
  is_front = own_front apex mode hash rs q t told.servable told.soa_there told.not_rrsig told.not_nsec told.not_nsec3 told.inside

  abbrev names : List Name
  names = spoken z mode (low q) (verdict z false q t) said

  abbrev chain : List ServedRrset
  chain = proofs_of s names

  abbrev groups : List ServedRrset
  groups = front ++ chain

  are : TellsGroups w.answers.verifies k m records apex told.at told.life told.keys groups
  are = told.groups_are

  module _ (behind : IsBehind apex q t front chain (own_links z mode names) (own_hash_links z hash mode names)) where
    ordinary : AllByRecursion is_ordinary groups
    ordinary = all_joined is_ordinary front chain is_front.ordinary behind.ordinary

    -- ---- links

    no_front : (p : ℕ) (gs : List ServedRrset) → AllByRecursion (λ g. eqb g.rtype p ≡ false) gs → (g : ServedRrset) → Has gs g → g.rtype ≡ p → ⊥
    no_front p [] h g i e = i
    no_front p (x ∷ gs) h g i e = ⊎_elim (λ here. false≢true (sym h.0 ∙ ap (λ (y : ServedRrset). eqb y.rtype p) (sym here) ∙ eq-eqb g.rtype p e)) (λ j. no_front p gs h.1 g j e) i

    signed_by : (g : ServedRrset) → Has groups g → IsVerifiable apex g → IsSignedBy w apex told.at told.life told.keys groups g told.key
    signed_by g there is = record {
      apex_is = told.trusted_apex;
      group = there;
      signed = is.signed;
      some = is.some;
      fits = is.fits;
      signer = told.signer;
      found = told.found g;
      hold = told.hold;
    }

    -- an RRset of a type that is not in front is the chain's
    of_chain : (p : ℕ) → AllByRecursion (λ g. eqb g.rtype p ≡ false) front → (g : ServedRrset) → Has groups g → g.rtype ≡ p → IsVerifiable apex g
    of_chain p none g i e = ⊎_elim
        (λ (f : Has front g). absurd (no_front p front none g f e))
        (λ (c : Has chain g). all_at (IsVerifiable apex) chain g behind.each c)
        (from_joined front chain g i)

    proofs : (g : ServedRrset) → Has groups g → g.rtype ≡ 47 → IsProof w apex told.at told.life told.keys groups g told.key
    proofs g i e =
        let is : IsVerifiable apex g = of_chain 47 is_front.beside g i e in
        record { by = signed_by g i is; below = is.below e }

    links_are : map low_link (verified_links w k m records) ≡ own_links z mode names
    links_are =
        lowered_links (verified_links w k m records) behind.read
        (verified_links_given w k m records apex told.at told.life told.keys groups told.key behind.read are behind.alone proofs behind.says)
        ∙ behind.lowered

    hash_links_are : verified_hash_links w k m records ≡ own_hash_links z hash mode names
    hash_links_are =
        verified_hash_links_given w k m records apex told.at told.life told.keys groups told.key (own_hash_links z hash mode names) are behind.alone
        (λ g i e. signed_by g i (of_chain 50 is_front.unhashed g i e)) behind.hashed

    -- ---- the RRset

    rrset_by : (r : Option Rrset) → Proves apex q t front r → verified_rrset w k m records q t ≡ r
    rrset_by None h =
        verified_rrset_missing w k m records apex told.at told.life told.keys groups q t are ordinary
        (list_any-append (is_signed_rrset q t) front chain ∙ or_from _ _ h behind.unasked)
    rrset_by (Some r) (g, there, is) =
        verified_rrset_given w k m records apex told.at told.life told.keys groups q t g told.key are ordinary
        (record { apex_is = told.trusted_apex; group = has_left front chain g there; signed = is.signed; some = is.some; fits = is.fits; signer = told.signer; found = told.found g; hold = told.hold })
        (eqb-back 46 t ∙ told.not_rrsig) behind.alone is.sorted is.rtype_is is.owner_is
        ∙ ap (λ (x : Rrset). Some x) is.is

    facts_behind : low_facts (verified_facts w k m records q t) ≡ own_facts z hash mode q t
    facts_behind = λ i. record { rrset = rrset_by (own_rrset z q t said) is_front.proves i; links = links_are i; hash_links = hash_links_are i }

-- behind the RRsets in front stand those of its chain
behind_told : (w : Trusting) (k : ℕ) (m : List ℕ) (records : List Spelled) (apex : Name) (mode : Mode) (hash : Name → List ℕ) (rs : List HandedRr) (q : Name) (t : ℕ) (told : IsToldBy w k m records apex mode hash rs q t) → FitsRecords (zone_with apex rs) mode hash → IsBehind apex q t (front w k m records apex mode hash rs q t told) (chain w k m records apex mode hash rs q t told) (own_links (zone_with apex rs) mode (names w k m records apex mode hash rs q t told)) (own_hash_links (zone_with apex rs) hash mode (names w k m records apex mode hash rs q t told))
behind_told w k m records apex Nsec hash rs q t told fits =
    let f = is_front w k m records apex Nsec hash rs q t told in
    names_behind apex rs q t hash (names w k m records apex Nsec hash rs q t told) (front w k m records apex Nsec hash rs q t told) f.beside f.unhashed f.alone told.servable told.apex_is told.named told.not_nsec
behind_told w k m records apex (Nsec3 iterations salt optout) hash rs q t told fits =
    let mode : Mode = Nsec3 iterations salt optout in
    let f = is_front w k m records apex mode hash rs q t told in
    hashes_behind apex rs q t hash (names w k m records apex mode hash rs q t told) (front w k m records apex mode hash rs q t told) f.beside f.unhashed f.alone iterations salt optout fits.1 fits.0 told.not_nsec3

module _ (w : Trusting) (k : ℕ) (m : List ℕ) (records : List Spelled) (apex : Name) (mode : Mode) (hash : Name → List ℕ) (rs : List HandedRr) (q : Name) (t : ℕ) (told : IsToldBy w k m records apex mode hash rs q t) (fits : FitsRecords (zone_with apex rs) mode hash) where
  abbrev behind : IsBehind apex q t (front w k m records apex mode hash rs q t told) (chain w k m records apex mode hash rs q t told) (own_links (zone_with apex rs) mode (names w k m records apex mode hash rs q t told)) (own_hash_links (zone_with apex rs) hash mode (names w k m records apex mode hash rs q t told))
  behind = behind_told w k m records apex mode hash rs q t told fits

  pub facts_told : low_facts (verified_facts w k m records q t) ≡ own_facts (zone_with apex rs) hash mode q t
  facts_told = facts_behind w k m records apex mode hash rs q t told behind

  -- no RRset of the answer is one of signatures
  pub groups_ordinary : AllByRecursion is_ordinary (answer_groups (served_of apex mode hash rs) q t)
  groups_ordinary = ordinary w k m records apex mode hash rs q t told behind

  -- each RRset of it is there once
  pub groups_alone : has_twins (answer_groups (served_of apex mode hash rs) q t) ≡ false
  groups_alone = behind.alone

-- ---- an accepted zone

-- an SOA record stands at the apex
pub soa_has : (apex : Name) (rs : List HandedRr) → 0 < length (soas apex rs) → has (zone_with apex rs) (low apex) 6 ≡ true
soa_has apex [] h = absurd (omega arith)
soa_has apex (r ∷ rs) h = go (same r.owner apex && (r.rtype == 6)) h (λ l. soa_has apex rs l)
  where
    go : (b : Bool) → 0 < length (cond b (r ∷ soas apex rs) (soas apex rs)) → (0 < length (soas apex rs) → has (zone_with apex rs) (low apex) 6 ≡ true) → (b || has (zone_with apex rs) (low apex) 6) ≡ true
    go true h f = refl
    go false h f = f h

owners_named : (rs : List HandedRr) → AllByRecursion IsHanded rs → AreNamed (sorted_records rs)
owners_named rs h = all_sorted (λ r. AllByRecursion IsLabel r.owner) record_cmp rs (all_more IsHanded (λ r. AllByRecursion IsLabel r.owner) rs (λ r is. is.owner.labels) h)

-- ---- hashes

small_iterations : (a b : ℕ) → nat_lt a b ≡ false → a < 65536 → b < 65536
small_iterations a b h small = let over = ltb-false a b h in omega (arith, over, small)

pub fitting : (hash : Hasher) (z : Zone) (mode : Mode) (limit : ℕ) → limit < 65536 → over_limit mode limit ≡ false → HasChain hash mode z → FitsRecords z mode (hash_in hash mode)
fitting hash z Nsec limit small within _ = tt
fitting hash z (Nsec3 iterations salt optout) limit small within chain = (small_iterations limit iterations within small, chain.octets)

-- ---- what an accepted zone gave

pub told_by : (w : Trusting) (k : ℕ) (mode : Mode) (rs : List HandedRr) (asked : Asked) (bytes : List ℕ) → (t : TellsZone w k mode rs asked bytes) → IsToldBy w k bytes t.told.read.records w.apex mode (hash_in w.answers.hash mode) (sorted_records rs) asked.name asked.rtype
told_by w k mode rs asked bytes t =
    let types = unsigned_from w.apex asked t.allowed in
    let one : length (soas w.apex (sorted_records rs)) ≡ 1 = t.accepted.soa in
    record {
      at = t.at;
      life = t.life;
      keys = t.keys;
      key = t.signer;
      trusted_apex = refl;
      apex_is = t.apex_is.labels;
      named = owners_named rs t.records_are;
      servable = servable w.answers.hash w.apex mode t.limit rs t.accepted;
      soa_there = soa_has w.apex (sorted_records rs) (omega (arith, one));
      inside = above_lowered (low w.apex) asked.name ∙ (asked_inside w.apex asked t.allowed).inside rs;
      not_rrsig = types.rrsig;
      not_nsec = types.nsec;
      not_nsec3 = types.nsec3;
      groups_are = t.told.groups_are;
      signer = has_contained t.keys t.signer t.signs;
      found = λ g. t.found;
      hold = t.hold;
    }

pub told_facts_are_own : ToldFactsAreOwn
told_facts_are_own w k mode rs asked bytes t =
    facts_told w k bytes t.told.read.records w.apex mode (hash_in w.answers.hash mode) (sorted_records rs) asked.name asked.rtype
    (told_by w k mode rs asked bytes t)
    (fitting w.answers.hash (zone_of w.apex rs) mode t.limit t.short_limit t.accepted.faultless.within_limit t.accepted.chain)

-- the RRset of its own facts is expanded no further than from the apex
abbrev RrsetInside : Name → Name → Option Rrset → Type 0
RrsetInside apex q o = IfSome o (λ r. is_expanded r q ≡ true → length apex ≤ r.labels)

expands_inside : (apex q : Name) (t : ℕ) (gs : List ServedRrset) (o : Option Rrset) → Proves apex q t gs o → RrsetInside apex q o
expands_inside apex q t gs None h = tt
expands_inside apex q t gs (Some r) (g, there, is) = λ x.
    let counted : label_count g.source ≡ r.labels = ap (λ (y : Rrset). y.labels) is.is in
    let long : label_count g.owner ≡ label_count q = sym (label_count-low g.owner) ∙ ap label_count is.owner_is ∙ label_count-low q in
    let fewer : r.labels < label_count q = ltb-true r.labels (label_count q) x in
    let unlike : eqb (label_count g.source) (label_count g.owner) ≡ false = ne_eqb (label_count g.source) (label_count g.owner) (λ e. omega (arith, e, counted, long, fewer)) in
    let wider = and_parts (may_expand g.rtype && nat_lt (label_count g.source) (label_count g.owner)) (leb (length apex) (label_count g.source)) (ap (λ b. b || (may_expand g.rtype && nat_lt (label_count g.source) (label_count g.owner) && leb (length apex) (label_count g.source))) (sym unlike) ∙ is.fits) in
    let far = leb-true (length apex) (label_count g.source) wider.1 in
    omega (arith, far, counted)

pub rrset_inside : (w : Trusting) (k : ℕ) (mode : Mode) (rs : List HandedRr) (asked : Asked) (bytes : List ℕ) → (t : TellsZone w k mode rs asked bytes) → RrsetInside w.apex asked.name (own_rrset (zone_of w.apex rs) asked.name asked.rtype (verdict (zone_of w.apex rs) (optout_of mode) asked.name asked.rtype))
rrset_inside w k mode rs asked bytes t =
    let hash : Name → List ℕ = hash_in w.answers.hash mode in
    let told = told_by w k mode rs asked bytes t in
    let f = is_front w k bytes t.told.read.records w.apex mode hash (sorted_records rs) asked.name asked.rtype told in
    expands_inside w.apex asked.name asked.rtype (front w k bytes t.told.read.records w.apex mode hash (sorted_records rs) asked.name asked.rtype told)
    (own_rrset (zone_of w.apex rs) asked.name asked.rtype (verdict (zone_of w.apex rs) (optout_of mode) asked.name asked.rtype)) f.proves
