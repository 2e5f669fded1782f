-- The links of hashes that a given message proves are those of its NSEC3 records.
use Rattle.std.proofs.Common.{[], ◌≡◌, ℕ, ◌<◌, Bool, true, false, ◌&&◌, List, ◌∷◌, ◌++◌, Option, Some, None, cond, eqb, refl, sym, ap, subst, ◌∙◌, inl, inr}
use Rattle.std.specs.Prelude.{if◌then◌else◌}
use Rattle.std.specs.List.{AllByRecursion, AllZip, cons_option, filter, filter_map}
use Rattle.std.specs.Option.{option_map}
use Rattle.std.specs.Str.{str_to_ascii_lowercase}
use Rattle.std.proofs.lemmas.Bool.{and_from, eq-eqb, eqb-true}
use Rattle.std.proofs.lemmas.List.{append-nil}
use Rattle.std.proofs.lemmas.List.Elements.{filter_map-append}
use Rattle.definitions.specs.Base32hex.{base32hex}
use Rattle.definitions.specs.Name.{Name, low}
use Rattle.definitions.specs.Dnskey.{Dnskey}
use Rattle.denial_laws.specs.Facts.{HashLink}
use Rattle.messages.specs.Message.{HashedNext, Spelled, canonical_data, data_of, nsec3_at, nsec3_of}
use Rattle.messages.proofs.Lists.{Has, some_is}
use Rattle.messages.proofs.ZoneNames.{labels_eq-same}
use Rattle.answer_terms.specs.Served.{ServedRrset}
use Rattle.answer_terms.specs.Told.{AreRecords, AreSignatures, IsRecord, IsValidSignature, TellsGroups}
use Rattle.answer_judge_facts.specs.Verified.{Trusting, hash_link_at, hash_link_with, is_hash_alone, is_hash_link, is_known, is_verified, one_known, rrset_in, verified_hash_links}
use Rattle.answer_terms.specs.HashOwner.{hash_spelled, spells_hash}
use Rattle.answer_judge.proofs.GivenGroups.{SaysHashLink, has_twins, is_nsec3, said_of}
use Rattle.answer_judge.proofs.GivenLinks.{OneRecord, one_record, sorted_one}
use Rattle.answer_judge.proofs.GivenNext.{canonical_nsec3}
use Rattle.answer_judge.proofs.GivenRecords.{rrset_given}
use Rattle.answer_judge.proofs.GivenSignatures.{IsSignedBy, verified_given}
use Rattle.answer_terms.proofs.HashOwners.{label_spells}

-- ---- owners

pub first_label : (a b : List ℕ) (x y : Name) → a ∷ x ≡ b ∷ y → a ≡ b
first_label a b x y e = cc

later_labels : (a b : List ℕ) (x y : Name) → a ∷ x ≡ b ∷ y → x ≡ y
later_labels a b x y e = cc

-- an owner that spells a hash, in either case
pub owner_spells : (apex o : Name) (h : List ℕ) → AllByRecursion (λ x. x < 256) h → low o ≡ base32hex h ∷ low apex → (spells_hash apex o ≡ true) × (hash_spelled o ≡ h)
owner_spells apex [] h octets e = cc
owner_spells apex (l ∷ o) h octets e =
    let label : str_to_ascii_lowercase l ≡ base32hex h = first_label (str_to_ascii_lowercase l) (base32hex h) (low o) (low apex) e in
    let under : low o ≡ low apex = later_labels (str_to_ascii_lowercase l) (base32hex h) (low o) (low apex) e in
    let spells = label_spells l h octets (sym label) in
    (and_from _ _ (labels_eq-same (low o) (low apex) under) spells.0, sym spells.1)

-- ---- data

abbrev standing : List ℕ → Option HashedNext → Option (List ℕ)
standing d o = elim o [ None ↦ None | Some n ↦ Some d ]

stands : (d datum : List ℕ) (o : Option HashedNext) → standing d o ≡ Some datum → d ≡ datum
stands d datum None h = cc
stands d datum (Some n) h = some_is d datum h

-- a record whose canonical data are known says what they read as
nsec3_given : (k : ℕ) (m : List ℕ) (r : Spelled) (d : List ℕ) (n : HashedNext) → r.rtype ≡ 50 → canonical_data k m r ≡ Some d → nsec3_of d ≡ Some n → nsec3_at m r ≡ Some n
nsec3_given k m r d n t h reads =
    let there : data_of m r ≡ d = stands (data_of m r) d (nsec3_at m r) (sym (canonical_nsec3 k m r t) ∙ h) in
    ap nsec3_of there ∙ reads

-- ---- one record

abbrev link_when : Bool → Option HashLink → Option HashLink
link_when b o = elim b [ true ↦ o | false ↦ None ]

other_type : (w : Trusting) (k : ℕ) (m : List ℕ) (rs : List Spelled) (r : Spelled) → eqb r.rtype 50 ≡ false → hash_link_at w k m rs r ≡ None
other_type w k m rs r e = ap (λ b. link_when (b && eqb r.class 1 && is_hash_alone k m w.apex rs r.owner && is_verified w k m rs r.owner 50 (rrset_in k m rs r.owner 50)) (option_map (hash_link_with r.owner) (nsec3_at m r))) e

abbrev when_known : Option HashedNext → Bool
when_known o = elim o [ None ↦ false | Some n ↦ is_known n ]

known_one : (d : List ℕ) (n : HashedNext) → nsec3_of d ≡ Some n → is_known n ≡ true → one_known (d ∷ []) ≡ true
known_one d n reads known = ap when_known reads ∙ known

proves : (w : Trusting) (k : ℕ) (m : List ℕ) (rs : List Spelled) (apex : Name) (at life : ℕ) (keys : List Dnskey) (gs : List ServedRrset) (g : ServedRrset) (key : Dnskey) (r : Spelled) (l : HashLink) → TellsGroups w.answers.verifies k m rs apex at life keys gs → has_twins gs ≡ false
    → IsSignedBy w apex at life keys gs g key → g.rtype ≡ 50 → (says : SaysHashLink apex g l) → IsRecord k m r g.owner g.rtype says.datum → hash_link_at w k m rs r ≡ Some l
proves w k m rs apex at life keys gs g key r l are alone by t says is =
    let d : List ℕ = says.datum in
    let type_is : r.rtype ≡ 50 = is.type_is ∙ t in
    let there : rrset_in k m rs r.owner 50 ≡ d ∷ [] = rrset_given w.answers.verifies k m rs apex at life keys gs r.owner 50 g refl are alone by.group t (sym is.owner_is) ∙ sorted_one d g.datas says.data_are in
    let verified : is_verified w k m rs r.owner 50 (d ∷ []) ≡ true = ap (is_verified w k m rs r.owner 50) (sym says.data_are) ∙ verified_given w k m rs apex at life keys gs r.owner 50 g key are by t (sym is.owner_is) in
    let spells = owner_spells apex r.owner l.owner says.octets (is.owner_is ∙ says.owner_is) in
    let spelled : spells_hash w.apex r.owner ≡ true = ap (λ n. spells_hash n r.owner) by.apex_is ∙ spells.0 in
    let one : is_hash_alone k m w.apex rs r.owner ≡ true = and_from _ _ spelled (ap one_known there ∙ known_one d says.next says.reads says.known) in
    let linked : is_hash_link w k m rs r ≡ true = and_from _ _ (and_from _ _ (and_from _ _ (eq-eqb r.rtype 50 type_is) (eq-eqb r.class 1 is.class_is)) one) (ap (is_verified w k m rs r.owner 50) there ∙ verified) in
    let reads : nsec3_at m r ≡ Some says.next = nsec3_given k m r d says.next type_is is.data_is says.reads in
    ap (λ b. link_when b (option_map (hash_link_with r.owner) (nsec3_at m r))) linked
    ∙ ap (option_map (hash_link_with r.owner)) reads
    ∙ ap (λ h. Some (said_of h says.next)) spells.1
    ∙ ap (λ (x : HashLink). Some x) says.is

-- ---- all records

none_signed : (w : Trusting) (v : Dnskey → List ℕ → List ℕ → Bool) (k : ℕ) (m : List ℕ) (rs xs : List Spelled) (apex : Name) (at life : ℕ) (g : ServedRrset) (keys : List Dnskey) → AreSignatures v k m xs apex at life g keys → filter_map (hash_link_at w k m rs) xs ≡ []
none_signed w v k m rs [] apex at life g [] h = refl
none_signed w v k m rs [] apex at life g (key ∷ keys) h = absurd h
none_signed w v k m rs (r ∷ xs) apex at life g [] h = absurd h
none_signed w v k m rs (r ∷ xs) apex at life g (key ∷ keys) h =
    let is : IsValidSignature v k m r apex at life g key = h.0 in
    let other : eqb r.rtype 50 ≡ false = ap (λ n. eqb n 50) is.type_is in
    λ i. cons_option (other_type w k m rs r other i) (none_signed w v k m rs xs apex at life g keys h.1 i)

none_other : (w : Trusting) (k : ℕ) (m : List ℕ) (rs xs : List Spelled) (g : ServedRrset) (ds : List (List ℕ)) → is_nsec3 g ≡ false → AreRecords k m xs g ds → filter_map (hash_link_at w k m rs) xs ≡ []
none_other w k m rs [] g [] e h = refl
none_other w k m rs [] g (d ∷ ds) e h = absurd h
none_other w k m rs (r ∷ xs) g [] e h = absurd h
none_other w k m rs (r ∷ xs) g (d ∷ ds) e h =
    let is : IsRecord k m r g.owner g.rtype d = h.0 in
    let other : eqb r.rtype 50 ≡ false = ap (λ n. eqb n 50) is.type_is ∙ e in
    λ i. cons_option (other_type w k m rs r other i) (none_other w k m rs xs g ds e h.1 i)

-- what the records of one group prove is put in front of what the later ones prove
parts : (f : Spelled → Option HashLink) (own signatures rest : List Spelled) (ls ks : List HashLink) → filter_map f own ≡ ls → filter_map f signatures ≡ [] → filter_map f rest ≡ ks → filter_map f (own ++ signatures ++ rest) ≡ ls ++ ks
parts f own signatures rest ls ks first none later =
    filter_map-append f (own ++ signatures) rest
    ∙ (λ i. (filter_map-append f own signatures ∙ (λ j. first j ++ none j) ∙ append-nil ls) i ++ later i)

module _ (w : Trusting) (k : ℕ) (m : List ℕ) (rs : List Spelled) (apex : Name) (at life : ℕ) (keys : List Dnskey) (all : List ServedRrset) (key : Dnskey)
    (are : TellsGroups w.answers.verifies k m rs apex at life keys all) (alone : has_twins all ≡ false) where
  abbrev f : Spelled → Option HashLink
  f = hash_link_at w k m rs

  one_linked : (own : List Spelled) (g : ServedRrset) (l : HashLink) → IsSignedBy w apex at life keys all g key → g.rtype ≡ 50 → SaysHashLink apex g l → AreRecords k m own g g.datas → filter_map f own ≡ l ∷ []
  one_linked own g l by t says records =
      let one : OneRecord k m own g says.datum = one_record k m own g says.datum (subst (λ ds. AreRecords k m own g ds) says.data_are records) in
      ap (filter_map f) one.are
      ∙ ap (λ o. cons_option o []) (proves w k m rs apex at life keys all g key one.spelled l are alone by t says one.is)

  linked_in : (xs : List Spelled) (gs : List ServedRrset) (ls : List HashLink) → ((g : ServedRrset) → Has gs g → g.rtype ≡ 50 → IsSignedBy w apex at life keys all g key) → TellsGroups w.answers.verifies k m xs apex at life keys gs → AllZip (SaysHashLink apex) (filter is_nsec3 gs) ls → filter_map f xs ≡ ls
  linked_in xs [] [] each h z = ap (filter_map f) h
  linked_in xs [] (l ∷ ls) each h z = absurd z
  linked_in xs (g ∷ gs) ls each (own, signatures, rest, split, records, signs, more) z =
      ap (filter_map f) split ∙ go (is_nsec3 g) refl ls z (λ ks y. linked_in rest gs ks (λ x i. each x (inr i)) more y)
    where
      none : filter_map f signatures ≡ []
      none = none_signed w w.answers.verifies k m rs signatures apex at life g (if g.signed then keys else []) signs

      go : (b : Bool) → is_nsec3 g ≡ b → (ks : List HashLink) → AllZip (SaysHashLink apex) (cond b (g ∷ filter is_nsec3 gs) (filter is_nsec3 gs)) ks → ((js : List HashLink) → AllZip (SaysHashLink apex) (filter is_nsec3 gs) js → filter_map f rest ≡ js) → filter_map f (own ++ signatures ++ rest) ≡ ks
      go true e [] y later = absurd y
      go true e (l ∷ ks) y later =
          let t : g.rtype ≡ 50 = eqb-true g.rtype 50 e in
          parts f own signatures rest (l ∷ []) ks (one_linked own g l (each g (inl refl) t) t y.0 records) none (later ks y.1)
      go false e ks y later = parts f own signatures rest [] ks (none_other w k m rs own g g.datas e records) none (later ks y)

-- the links of hashes of a message are what its NSEC3 groups say
pub verified_hash_links_given : (w : Trusting) (k : ℕ) (m : List ℕ) (rs : List Spelled) (apex : Name) (at life : ℕ) (keys : List Dnskey) (gs : List ServedRrset) (key : Dnskey) (ls : List HashLink) → TellsGroups w.answers.verifies k m rs apex at life keys gs → has_twins gs ≡ false
    → ((g : ServedRrset) → Has gs g → g.rtype ≡ 50 → IsSignedBy w apex at life keys gs g key) → AllZip (SaysHashLink apex) (filter is_nsec3 gs) ls → verified_hash_links w k m rs ≡ ls
verified_hash_links_given w k m rs apex at life keys gs key ls are alone each says = linked_in w k m rs apex at life keys gs key are alone rs gs ls each are says
