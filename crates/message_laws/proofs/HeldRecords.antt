-- What a message proves that holds RRsets of a chain.
use Rattle.std.proofs.Common.{◌≡◌, ℕ, Bool, true, false, ◌&&◌, List, [], ◌∷◌, ◌++◌, map, length, Option, Some, None, eqb, refl, sym, ap, subst, ◌∙◌, inl, inr}
use Rattle.std.specs.Prelude.{◌==◌}
use Rattle.std.specs.List.{AllZip, cons_option, filter_map}
use Rattle.std.specs.Option.{option_map}
use Rattle.std.specs.Cmp.Lexicographic.{slice_cmp}
use Rattle.std.specs.Ordering.{nat_cmp}
use Rattle.std.proofs.lemmas.Bool.{and_from, and_parts, eq-eqb, eqb-true}
use Rattle.std.proofs.lemmas.Cmp.{nat_list_cmp_total}
use Rattle.definitions.specs.Name.{Name, at_or_above, low, same, wire}
use Rattle.definitions.specs.Signing.{Fields}
use Rattle.definitions.proofs.Members.{In, any_in, in_map, sort_has}
use Rattle.denial_laws.specs.Facts.{HashLink, Link}
use Rattle.denial_laws.proofs.AtName.{on_true}
use Rattle.denial_laws.proofs.Found.{first_from}
use Rattle.denial_laws.proofs.NameFacts.{same_names}
use Rattle.messages.specs.Message.{HashedNext, Spelled, canonical_data, data_of, nsec3_at, nsec3_of, nsec_at, rrsig_at}
use Rattle.messages.proofs.Lists.{some_is}
use Rattle.answer_terms.specs.FactsCase.{low_link}
use Rattle.answer_terms.specs.Served.{ServedRrset}
use Rattle.answer_judge_keys.specs.HashOwner.{spells_hash}
use Rattle.answer_judge_facts.specs.Verified.{Trusting, datum_of, hash_link_at, hash_link_with, is_hash_alone, is_hash_link, is_known, is_link, is_verified, link_at, link_of, one_known, rrset_in, verified_by, verified_hash_links, verified_links, verified_with, verifies_with}
use Rattle.answer_judge_facts.proofs.JudgeCase.{above-owner, is_verified-owner, rrset_in-owner}
use Rattle.answer_judge.proofs.GivenGroups.{SaysHashLink, SaysLink, said_of}
use Rattle.answer_judge.proofs.GivenHashes.{owner_spells}
use Rattle.answer_judge.proofs.GivenNext.{canonical_nsec3, nsec_given}
use Rattle.message_laws.specs.Held.{HoldsRrset}

-- ---- lists

-- an item that is kept of a list, and one that it comes from
in_picked : {A B : Type 0} (f : A → Option B) (xs : List A) (x : A) (y : B) → In x xs → f x ≡ Some y → In y (filter_map f xs)
in_picked f [] x y i e = absurd i
in_picked {A} {B} f (z ∷ xs) x y i e = elim i [
  | inl s ↦ subst (λ (o : Option B). In y (cons_option o (filter_map f xs))) (sym (ap f (sym s) ∙ e)) (inl refl)
  | inr j ↦ later (f z) (in_picked f xs x y j e)
]
  where
    later : (o : Option B) → In y (filter_map f xs) → In y (cons_option o (filter_map f xs))
    later None k = k
    later (Some v) k = inr k

picked_in : {A B : Type 0} (f : A → Option B) (xs : List A) (y : B) → In y (filter_map f xs) → (x : A) × (In x xs × (f x ≡ Some y))
picked_in f [] y i = absurd i
picked_in {A} {B} f (z ∷ xs) y i = go (f z) refl (λ j. let found = picked_in f xs y j in (found.0, (inr found.1.0, found.1.1))) i
  where
    go : (o : Option B) → f z ≡ o → (In y (filter_map f xs) → (x : A) × (In x (z ∷ xs) × (f x ≡ Some y))) → In y (cons_option o (filter_map f xs)) → (x : A) × (In x (z ∷ xs) × (f x ≡ Some y))
    go None e behind j = behind j
    go (Some v) e behind j = elim j [
      | inl s ↦ (z, (inl refl, e ∙ ap (λ (b : B). Some b) (sym s)))
      | inr later ↦ behind later
    ]

-- an item of one of two lists that agree has one beside it
pub zip_from : {A B : Type 0} (R : A → B → Type 0) (xs : List A) (ys : List B) (y : B) → AllZip R xs ys → In y ys → (x : A) × (In x xs × R x y)
zip_from R [] [] y z i = absurd i
zip_from R [] (b ∷ ys) y z i = absurd z
zip_from R (a ∷ xs) [] y z i = absurd i
zip_from {A} {B} R (a ∷ xs) (b ∷ ys) y z i = elim i [
  | inl s ↦ (a, (inl refl, subst (λ (c : B). R a c) (sym s) z.0))
  | inr j ↦ let found = zip_from R xs ys y z.1 j in (found.0, (inr found.1.0, found.1.1))
]

pub some_mapped : {A B : Type 0} (f : A → B) (o : Option A) (y : B) → option_map f o ≡ Some y → (x : A) × (o ≡ Some x) × (f x ≡ y)
some_mapped f None y e = absurd cc
some_mapped f (Some x) y e = (x, refl, (let same : f x ≡ y = cc in same))

module _ (w : Trusting) (k : ℕ) (m : List ℕ) (rs : List Spelled) where
  -- ---- one RRset

  verified_of : (o : Name) (t : ℕ) (items : List (List ℕ)) (f : Fields) → verified_by w k m rs o t items ≡ Some f → is_verified w k m rs o t items ≡ true
  verified_of o t items f is =
      let found = first_from (verified_with w k m o t items) rs f is in
      let r = on_true (verifies_with w k m o t items found.0) (option_map (λ (x : Fields × List ℕ). x.0) (rrsig_at k m found.0)) f found.1.1 in
      any_in (verifies_with w k m o t items) rs found.0 found.1.0 r.0

  held_verified : (g : ServedRrset) → HoldsRrset w k m rs g → is_verified w k m rs g.owner g.rtype g.datas ≡ true
  held_verified g held =
      let first = some_mapped (λ (f : Fields). f.labels) (verified_by w k m rs g.owner g.rtype g.datas) _ held.labels_are in
      verified_of g.owner g.rtype g.datas first.0 first.1

  -- a record with a datum
  record IsThere (o : Name) (t : ℕ) (d : List ℕ) : Type 0 where
    spelled : Spelled
    inside : In spelled rs
    class_is : (spelled.class == 1) ≡ true
    type_is : spelled.rtype ≡ t
    owner_is : low spelled.owner ≡ low o
    data_is : canonical_data k m spelled ≡ Some d

  there : (o : Name) (t : ℕ) (d : List ℕ) → rrset_in k m rs o t ≡ d ∷ [] → IsThere o t d
  there o t d is =
      let sorted : In d (rrset_in k m rs o t) = subst (λ (ds : List (List ℕ)). In d ds) (sym is) (inl refl) in
      let found = picked_in (datum_of k m o t) rs d (sort_has (slice_cmp nat_cmp) nat_list_cmp_total (filter_map (datum_of k m o t) rs) d sorted) in
      let r : Spelled = found.0 in
      let parts = on_true ((r.class == 1) && (r.rtype == t) && same r.owner o) (canonical_data k m r) d found.1.1 in
      let front = and_parts ((r.class == 1) && (r.rtype == t)) (same r.owner o) parts.0 in
      let types = and_parts (r.class == 1) (r.rtype == t) front.0 in
      record { spelled = r; inside = found.1.0; class_is = types.0; type_is = eqb-true r.rtype t types.1; owner_is = same_names r.owner o front.1; data_is = parts.1 }

  -- its RRset under the owner that it has there
  here : (g : ServedRrset) (t : ℕ) (d : List ℕ) → HoldsRrset w k m rs g → g.rtype ≡ t → g.datas ≡ d ∷ [] → rrset_in k m rs g.owner t ≡ d ∷ []
  here g t d held type_is data_is = ap (rrset_in k m rs g.owner) (sym type_is) ∙ held.datas_are ∙ data_is

  verified_here : (g : ServedRrset) (t : ℕ) (d : List ℕ) (held : HoldsRrset w k m rs g) → g.rtype ≡ t → g.datas ≡ d ∷ [] → (x : IsThere g.owner t d) → is_verified w k m rs x.spelled.owner t (rrset_in k m rs x.spelled.owner t) ≡ true
  verified_here g t d held type_is data_is x =
      ap (is_verified w k m rs x.spelled.owner t) (rrset_in-owner k m rs x.spelled.owner g.owner t x.owner_is ∙ here g t d held type_is data_is)
      ∙ is_verified-owner w k m rs x.spelled.owner g.owner t (d ∷ []) x.owner_is
      ∙ (λ i. is_verified w k m rs g.owner (sym type_is i) (sym data_is i))
      ∙ held_verified g held

  -- ---- a link of names

  abbrev link_when : Bool → Option Link → Option Link
  link_when b o = elim b [ true ↦ o | false ↦ None ]

  abbrev with_owner : Name → Option (Name × List ℕ) → Option Link
  with_owner o n = option_map (λ (x : Name × List ℕ). record { owner = o; next = x.0; bits = x.1 }) n

  pub link_held : (g : ServedRrset) (l : Link) → HoldsRrset w k m rs g → g.rtype ≡ 47 → SaysLink g l → at_or_above w.apex g.owner ≡ true → In (low_link l) (map low_link (verified_links w k m rs))
  link_held g l held type_is says inside =
      let d : List ℕ = wire l.next ++ l.bits in
      let x : IsThere g.owner 47 d = there g.owner 47 d (here g 47 d held type_is says.data_are) in
      let r : Spelled = x.spelled in
      let one : rrset_in k m rs r.owner 47 ≡ d ∷ [] = rrset_in-owner k m rs r.owner g.owner 47 x.owner_is ∙ here g 47 d held type_is says.data_are in
      let linked : is_link w k m rs r ≡ true =
      and_from _ _
      (and_from _ _ (and_from _ _ (and_from _ _ (eq-eqb r.rtype 47 x.type_is) x.class_is) (above-owner w.apex r.owner g.owner x.owner_is ∙ inside)) (ap (λ (ds : List (List ℕ)). eqb (length ds) 1) one))
      (verified_here g 47 d held type_is says.data_are x) in
      let reads : nsec_at k m r ≡ Some (l.next, l.bits) = nsec_given k m r l.next l.bits says.labels x.type_is x.data_is in
      let link : Link = record { owner = r.owner; next = l.next; bits = l.bits } in
      let proven : link_at w k m rs r ≡ Some link = ap (λ b. link_when b (link_of k m r)) linked ∙ ap (with_owner r.owner) reads in
      subst (λ (n : Name). In (record { owner = n; next = low l.next; bits = l.bits }) (map low_link (verified_links w k m rs))) (x.owner_is ∙ says.owner_is)
      (in_map low_link (verified_links w k m rs) link (in_picked (link_at w k m rs) rs r link x.inside proven))

  -- ---- a link of hashes

  abbrev hash_link_when : Bool → Option HashLink → Option HashLink
  hash_link_when b o = elim b [ true ↦ o | false ↦ None ]

  abbrev standing : List ℕ → Option HashedNext → Option (List ℕ)
  standing d o = elim o [ None ↦ None | Some n ↦ Some d ]

  stands : (d datum : List ℕ) (o : Option HashedNext) → standing d o ≡ Some datum → d ≡ datum
  stands d datum None h = absurd cc
  stands d datum (Some n) h = some_is d datum h

  abbrev when_known : Option HashedNext → Bool
  when_known o = elim o [ None ↦ false | Some n ↦ is_known n ]

  pub hash_link_held : (g : ServedRrset) (l : HashLink) → HoldsRrset w k m rs g → g.rtype ≡ 50 → SaysHashLink w.apex g l → In l (verified_hash_links w k m rs)
  hash_link_held g l held type_is says =
      let d : List ℕ = says.datum in
      let x : IsThere g.owner 50 d = there g.owner 50 d (here g 50 d held type_is says.data_are) in
      let r : Spelled = x.spelled in
      let one : rrset_in k m rs r.owner 50 ≡ d ∷ [] = rrset_in-owner k m rs r.owner g.owner 50 x.owner_is ∙ here g 50 d held type_is says.data_are in
      let spells = owner_spells w.apex r.owner l.owner says.octets (x.owner_is ∙ says.owner_is) in
      let known : one_known (d ∷ []) ≡ true = ap when_known says.reads ∙ says.known in
      let alone : is_hash_alone k m w.apex rs r.owner ≡ true = and_from (spells_hash w.apex r.owner) _ spells.0 (ap one_known one ∙ known) in
      let linked : is_hash_link w k m rs r ≡ true =
      and_from _ _ (and_from _ _ (and_from _ _ (eq-eqb r.rtype 50 x.type_is) x.class_is) alone) (verified_here g 50 d held type_is says.data_are x) in
      let octets : data_of m r ≡ d = stands (data_of m r) d (nsec3_at m r) (sym (canonical_nsec3 k m r x.type_is) ∙ x.data_is) in
      let reads : nsec3_at m r ≡ Some says.next = ap nsec3_of octets ∙ says.reads in
      let proven : hash_link_at w k m rs r ≡ Some l =
      ap (λ b. hash_link_when b (option_map (hash_link_with r.owner) (nsec3_at m r))) linked
      ∙ ap (option_map (hash_link_with r.owner)) reads
      ∙ ap (λ h. Some (said_of h says.next)) spells.1
      ∙ ap (λ (y : HashLink). Some y) says.is in
      in_picked (hash_link_at w k m rs) rs r l x.inside proven
