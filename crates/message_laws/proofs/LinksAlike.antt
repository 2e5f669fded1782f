-- Records of chains of messages whose used records are alike.
use Rattle.std.proofs.Common.{◌≡◌, ℕ, Bool, true, false, ◌&&◌, List, [], ◌∷◌, ◌++◌, length, map, Option, Some, None, eqb, get_or, refl, sym, ap, subst, ◌∙◌}
use Rattle.std.specs.List.{AllZip, cons_option, filter, filter_map}
use Rattle.std.specs.Option.{option_map}
use Rattle.std.specs.Prelude.{slice_range}
use Rattle.definitions.specs.Bitmap.{is_bitmap}
use Rattle.definitions.specs.Name.{Name, at_or_above, low, wire}
use Rattle.definitions.proofs.ReadingLaws.{reads_exactly}
use Rattle.definitions.proofs.SignedLaws.{Labelled, wire_of}
use Rattle.numbers.specs.Decoding.{decoded}
use Rattle.denial_laws.specs.Facts.{HashLink, Link}
use Rattle.messages.specs.Message.{HashedNext, Spelled, data_of, fits, if_true, name_in, nsec3_at, nsec3_of, nsec_at}
use Rattle.messages.specs.Message as message
use Rattle.messages.proofs.Lists.{some_is}
use Rattle.messages.proofs.ReadNames.{reads_labelled}
use Rattle.answer_terms.specs.HashOwner.{hash_spelled}
use Rattle.answer_terms.specs.Alike.{IsLike}
use Rattle.answer_terms.specs.FactsCase.{low_link}
use Rattle.answer_judge_facts.specs.Verified.{Trusting, hash_link_at, hash_link_with, is_hash_alone, is_hash_link, is_link, is_verified, link_at, link_of, one_known, rrset_in, verified_hash_links, verified_links}
use Rattle.answer_judge_facts.proofs.JudgeCase.{above-owner, is_verified-owner, rrset_in-owner, spells-owner}
use Rattle.answer_judge.proofs.GivenNext.{canonical_nsec, canonical_nsec3, if_true_some, name_in_at}
use Rattle.message_laws.specs.SeenAlike.{is_used, is_used_type}
use Rattle.message_laws.proofs.UsedAlike.{rrset_alike, some_alike, verified_alike}

-- ---- what the data of chains' records say

abbrev next_from : List ℕ → Spelled → Option (Name × ℕ) → Option (Name × List ℕ)
next_from m r o = elim o [
  | None ↦ None
  | Some n ↦ let bits = slice_range m n.1 (message.behind r) in if_true (is_bitmap bits && fits (wire n.0 ++ bits)) (n.0, bits)
]

-- a next name is one of labels
next_labels : (k : ℕ) (m : List ℕ) (r : Spelled) (o : Option (Name × ℕ)) (n : Name × List ℕ) → name_in k m r r.start ≡ o → next_from m r o ≡ Some n → Labelled n.0
next_labels k m r None n e h = cc
next_labels k m r (Some s) n e h =
    let bits : List ℕ = slice_range m s.1 (message.behind r) in
    let same : (s.0, bits) ≡ n = if_true_some (is_bitmap bits && fits (wire s.0 ++ bits)) (s.0, bits) n h in
    let reads = (reads_exactly m r.start k s.0 s.1).0 (name_in_at k m r r.start s e) in
    subst Labelled (ap (λ (x : Name × List ℕ). x.0) same) (reads_labelled reads.0)

abbrev joined : Option (Name × List ℕ) → Option (List ℕ)
joined o = elim o [ None ↦ None | Some n ↦ Some (wire n.0 ++ n.1) ]

-- the octets say the name and the bitmap
next_same : (k : ℕ) (m n : List ℕ) (r s : Spelled) (x y : Option (Name × List ℕ)) → nsec_at k m r ≡ x → nsec_at k n s ≡ y → joined x ≡ joined y → x ≡ y
next_same k m n r s None None e f h = refl
next_same k m n r s None (Some y) e f h = cc
next_same k m n r s (Some x) None e f h = cc
next_same k m n r s (Some x) (Some y) e f h =
    let octets : wire x.0 ++ x.1 ≡ wire y.0 ++ y.1 = some_is (wire x.0 ++ x.1) (wire y.0 ++ y.1) h in
    let one = wire_of x.0 y.0 x.1 y.1 (next_labels k m r (name_in k m r r.start) x refl e) (next_labels k n s (name_in k n s s.start) y refl f) octets in
    λ i. Some (one.0 i, one.1 i)

abbrev kept : Option HashedNext → List ℕ → Option (List ℕ)
kept o d = elim o [ None ↦ None | Some n ↦ Some d ]

-- data that read say the same where they are the same
hashed_same : (d e : List ℕ) (x y : Option HashedNext) → nsec3_of d ≡ x → nsec3_of e ≡ y → kept x d ≡ kept y e → x ≡ y
hashed_same d e None None p q h = refl
hashed_same d e None (Some y) p q h = cc
hashed_same d e (Some x) None p q h = cc
hashed_same d e (Some x) (Some y) p q h = sym p ∙ ap nsec3_of (some_is d e h) ∙ q

hash_owner : (a b : Name) → low a ≡ low b → hash_spelled a ≡ hash_spelled b
hash_owner [] [] h = refl
hash_owner [] (l ∷ b) h = cc
hash_owner (l ∷ a) [] h = cc
hash_owner (l ∷ a) (j ∷ b) h = ap decoded (ap (λ (n : Name). get_or n 0 []) h)

module _ (k : ℕ) (m n : List ℕ) (t : ℕ) (rs ss : List Spelled) (z : AllZip (IsLike k m n) (filter (is_used t) rs) (filter (is_used t) ss)) where
  next_alike : (r s : Spelled) → IsLike k m n r s → r.rtype ≡ 47 → nsec_at k m r ≡ nsec_at k n s
  next_alike r s like is =
      next_same k m n r s (nsec_at k m r) (nsec_at k n s) refl refl
      (sym (canonical_nsec k m r is) ∙ like.data_are ∙ canonical_nsec k n s (sym like.type_is ∙ is))

  hashed_alike : (r s : Spelled) → IsLike k m n r s → r.rtype ≡ 50 → nsec3_at m r ≡ nsec3_at n s
  hashed_alike r s like is =
      hashed_same (data_of m r) (data_of n s) (nsec3_at m r) (nsec3_at n s) refl refl
      (sym (canonical_nsec3 k m r is) ∙ like.data_are ∙ canonical_nsec3 k n s (sym like.type_is ∙ is))

  -- the RRset of the chain at an owner, up to case
  chain_rrset : (u : ℕ) → is_used_type t u ≡ true → (r s : Spelled) → IsLike k m n r s → rrset_in k m rs r.owner u ≡ rrset_in k n ss s.owner u
  chain_rrset u used r s like = rrset_alike k m n t rs ss z r.owner u used ∙ rrset_in-owner k n ss r.owner s.owner u like.owner_is

  chain_verified : (w : Trusting) (u : ℕ) → is_used_type t u ≡ true → (r s : Spelled) → IsLike k m n r s
      → is_verified w k m rs r.owner u (rrset_in k m rs r.owner u) ≡ is_verified w k n ss s.owner u (rrset_in k n ss s.owner u)
  chain_verified w u used r s like =
      verified_alike k m n t rs ss z w r.owner u (rrset_in k m rs r.owner u)
      ∙ is_verified-owner w k n ss r.owner s.owner u (rrset_in k m rs r.owner u) like.owner_is
      ∙ ap (is_verified w k n ss s.owner u) (chain_rrset u used r s like)

  -- ---- NSEC records

  abbrev link_when : Bool → Option Link → Option Link
  link_when b o = elim b [ true ↦ o | false ↦ None ]

  abbrev with_owner : Name → Option (Name × List ℕ) → Option Link
  with_owner o n = option_map (λ (x : Name × List ℕ). record { owner = o; next = x.0; bits = x.1 }) n

  abbrev lowered_with : Name → Option (Name × List ℕ) → Option Link
  lowered_with o n = option_map (λ (x : Name × List ℕ). record { owner = o; next = low x.0; bits = x.1 }) n

  low_when : (b : Bool) (o : Name) (n : Option (Name × List ℕ)) → option_map low_link (link_when b (with_owner o n)) ≡ link_when b (lowered_with (low o) n)
  low_when true o None = refl
  low_when true o (Some x) = refl
  low_when false o n = refl

  is_link_alike : (w : Trusting) (r s : Spelled) → IsLike k m n r s → is_link w k m rs r ≡ is_link w k n ss s
  is_link_alike w r s like =
      let above = above-owner w.apex r.owner s.owner like.owner_is in
      let rrset = chain_rrset 47 refl r s like in
      let verified = chain_verified w 47 refl r s like in
      λ i. eqb (like.type_is i) 47 && eqb (like.class_is i) 1 && above i && eqb (length (rrset i)) 1 && verified i

  link_alike : (w : Trusting) (r s : Spelled) → IsLike k m n r s → r.rtype ≡ 47 → option_map low_link (link_at w k m rs r) ≡ option_map low_link (link_at w k n ss s)
  link_alike w r s like is =
      let next = next_alike r s like is in
      low_when (is_link w k m rs r) r.owner (nsec_at k m r)
      ∙ (λ i. link_when (is_link_alike w r s like i) (lowered_with (like.owner_is i) (next i)))
      ∙ sym (low_when (is_link w k n ss s) s.owner (nsec_at k n s))

  no_link : (w : Trusting) (q : List ℕ) (xs : List Spelled) (r : Spelled) → eqb r.rtype 47 ≡ false → option_map low_link (link_at w k q xs r) ≡ None
  no_link w q xs r e = ap (λ b. option_map low_link (link_when (b && eqb r.class 1 && at_or_above w.apex r.owner && eqb (length (rrset_in k q xs r.owner 47)) 1 && is_verified w k q xs r.owner 47 (rrset_in k q xs r.owner 47)) (link_of k q r))) e

  low_all : (f : Spelled → Option Link) (xs : List Spelled) → map low_link (filter_map f xs) ≡ filter_map (λ r. option_map low_link (f r)) xs
  low_all f [] = refl
  low_all f (x ∷ xs) = one (f x) ∙ ap (cons_option (option_map low_link (f x))) (low_all f xs)
    where
      one : (o : Option Link) → map low_link (cons_option o (filter_map f xs)) ≡ cons_option (option_map low_link o) (map low_link (filter_map f xs))
      one None = refl
      one (Some l) = refl

  pub links_alike : (w : Trusting) → map low_link (verified_links w k m rs) ≡ map low_link (verified_links w k n ss)
  links_alike w =
      low_all (link_at w k m rs) rs
      ∙ some_alike k m n t rs ss z 47 (λ r. option_map low_link (link_at w k m rs r)) (λ r. option_map low_link (link_at w k n ss r)) refl (no_link w m rs) (no_link w n ss) (link_alike w)
      ∙ sym (low_all (link_at w k n ss) ss)

  -- ---- NSEC3 records

  abbrev hash_when : Bool → Option HashLink → Option HashLink
  hash_when b o = elim b [ true ↦ o | false ↦ None ]

  abbrev pub link_with : List ℕ → HashedNext → HashLink
  link_with h x = record { owner = h; next = x.next; bits = x.bits; opt_out = eqb x.flags 1; iterations = x.iterations; salt = x.salt }

  pub alone_alike : (apex : Name) (r s : Spelled) → IsLike k m n r s → is_hash_alone k m apex rs r.owner ≡ is_hash_alone k n apex ss s.owner
  alone_alike apex r s like =
      let spells = spells-owner apex r.owner s.owner like.owner_is in
      let rrset = chain_rrset 50 refl r s like in
      λ i. spells i && one_known (rrset i)

  is_hash_alike : (w : Trusting) (r s : Spelled) → IsLike k m n r s → is_hash_link w k m rs r ≡ is_hash_link w k n ss s
  is_hash_alike w r s like =
      let alone = alone_alike w.apex r s like in
      let verified = chain_verified w 50 refl r s like in
      λ i. eqb (like.type_is i) 50 && eqb (like.class_is i) 1 && alone i && verified i

  hash_alike : (w : Trusting) (r s : Spelled) → IsLike k m n r s → r.rtype ≡ 50 → hash_link_at w k m rs r ≡ hash_link_at w k n ss s
  hash_alike w r s like is =
      let next = hashed_alike r s like is in
      let owner = hash_owner r.owner s.owner like.owner_is in
      λ i. hash_when (is_hash_alike w r s like i) (option_map (link_with (owner i)) (next i))

  no_hash : (w : Trusting) (q : List ℕ) (xs : List Spelled) (r : Spelled) → eqb r.rtype 50 ≡ false → hash_link_at w k q xs r ≡ None
  no_hash w q xs r e = ap (λ b. hash_when (b && eqb r.class 1 && is_hash_alone k q w.apex xs r.owner && is_verified w k q xs r.owner 50 (rrset_in k q xs r.owner 50)) (option_map (hash_link_with r.owner) (nsec3_at q r))) e

  pub hash_links_alike : (w : Trusting) → verified_hash_links w k m rs ≡ verified_hash_links w k n ss
  hash_links_alike w = some_alike k m n t rs ss z 50 (hash_link_at w k m rs) (hash_link_at w k n ss) refl (no_hash w m rs) (no_hash w n ss) (hash_alike w)
