-- What a true record of an NSEC3 chain says of a name whose hash it has or covers.
use Rattle.std.proofs.Common.{◌≡◌, ℕ, Bool, true, false, ◌&&◌, ◌||◌, not, List, [], ◌∷◌, map, refl, sym, ap, subst, ◌∙◌, inl, inr}
use Rattle.std.specs.Prelude.{filter}
use Rattle.std.specs.List.{Contains}
use Rattle.std.specs.Str.{bytes_eq}
use Rattle.std.specs.Ordering.{is_lt}
use Rattle.std.specs.Cmp.{on_total}
use Rattle.std.specs.Cmp.Lexicographic.{bytes_decides}
use Rattle.std.proofs.lemmas.Cmp.{nat_list_cmp_total, tied_itself}
use Rattle.std.proofs.lemmas.Bool.{or_cases, or_left, or_right, false≢true, false_from_ne_true}
use Rattle.definitions.specs.Name.{Name, low, same, at_or_above, strictly_above}
use Rattle.definitions.specs.Covering.{octets_before, hash_covers}
use Rattle.definitions.specs.Bitmap.{bitmap}
use Rattle.definitions.specs.Zone.{Zone, kept, star_under}
use Rattle.definitions.specs.ZoneChain.{with_parents, hash_cmp, nsec3_names, nsec3_types, hashed_names, nsec3_next}
use Rattle.definitions.specs.Laws.{NoneShare, SharesNone, IsNsec3Chain, nsec3_speaks}
use Rattle.definitions.proofs.Members.{In, in_map, in_filter, in_append_left, in_append_right, contained, in_contained, sort_has}
use Rattle.definitions.proofs.OwnChains.{one_nsec3_record_speaks}
use Rattle.definitions.proofs.ZoneNames.{low-low, above_lowered, same_lowered, chain_kept}
use Rattle.denial_laws.specs.Facts.{HashLink}
use Rattle.denial_laws.specs.Nsec3Rules.{is_at, covers_hash}
use Rattle.denial_laws.specs.Truth.{IsServable, IsTrueHashLink, ShowsTypes, concerned, parents}
use Rattle.denial_laws.proofs.NameFacts.{above-low}
use Rattle.denial_laws.proofs.ChainBits.{LacksTypes, nsec3_shows, nsec3_lacks}
use Rattle.denial_laws.proofs.ZoneCuts.{tail_low}

-- ---- which names a question concerns

in_parents : (n o : Name) → at_or_above n o ≡ true → low n ≡ n → low o ≡ o → In n (with_parents o)
in_parents n [] h ln lo = inl (same_lowered n [] ln refl h)
in_parents n (l ∷ o) h ln lo = elim (or_cases (same n (l ∷ o)) (at_or_above n o) h) [
  | inl s ↦ inl (same_lowered n (l ∷ o) ln lo s)
  | inr a ↦ inr (in_parents n o a ln (tail_low l o lo))
]

abbrev encloser_names : Name → Name → List Name
encloser_names apex q = filter (at_or_above apex) (with_parents q)

in_enclosers : (apex p q : Name) → at_or_above apex p ≡ true → at_or_above p q ≡ true → In (low p) (encloser_names apex (low q))
in_enclosers apex p q i a =
    in_filter (at_or_above apex) (with_parents (low q)) (low p) (in_parents (low p) (low q) (above-low p q ∙ a) (low-low p) (low-low q)) (above_lowered apex p ∙ i)

-- what a name stands under up to the apex, and the wildcards there
pub concerns_name : (apex p q : Name) → at_or_above apex p ≡ true → at_or_above p q ≡ true → Contains (concerned apex (low q)) (low p)
concerns_name apex p q i a =
    contained (concerned apex (low q)) (low p)
    (in_append_left (encloser_names apex (low q)) (map star_under (filter (at_or_above apex) (parents (low q)))) (low p) (in_enclosers apex p q i a))

pub concerns_star : (apex p q : Name) → at_or_above apex p ≡ true → strictly_above p q ≡ true → Contains (concerned apex (low q)) (low (star_under p))
concerns_star apex p [] i a = absurd (false≢true a)
concerns_star apex p (l ∷ q) i a =
    let long : Name = low (l ∷ q) in
    contained (concerned apex long) (star_under (low p))
    (in_append_right (encloser_names apex long) (map star_under (encloser_names apex (low q))) (star_under (low p))
    (in_map star_under (encloser_names apex (low q)) (low p) (in_enclosers apex p q i a)))

-- ---- hashes

-- a record does not cover its own owner
not_before_itself : (h : List ℕ) → octets_before h h ≡ false
not_before_itself h = ap is_lt (tied_itself nat_list_cmp_total h)

uncovered : (b : Bool) → ((false && b) || (not b && (false || b))) ≡ false
uncovered true = refl
uncovered false = refl

covers_not_itself : (owner next : List ℕ) → hash_covers owner next owner ≡ false
covers_not_itself owner next =
    (λ i. (not_before_itself owner i && octets_before owner next) || (not (octets_before owner next) && (not_before_itself owner i || octets_before owner next)))
    ∙ uncovered (octets_before owner next)

-- two items of a list of one are the same
one_item : {X : Type 0} (xs : List X) (o a b : X) → xs ≡ o ∷ [] → In a xs → In b xs → a ≡ b
one_item {X} xs o a b e i j =
    let only : (x : X) → In x (o ∷ []) → x ≡ o = λ x k. elim k [ inl s ↦ s | inr n ↦ absurd n ] in
    only a (subst (In a) e i) ∙ sym (only b (subst (In b) e j))

module _ (z : Zone) (hash : Name → List ℕ) (ex : Bool) (s : IsServable z) (none : NoneShare hash (nsec3_names z ex)) where
  pub own_chain : IsNsec3Chain hash z ex
  own_chain = one_nsec3_record_speaks hash z ex s.apex none

  hashed_in : (n : Name) → In n (hashed_names hash z ex) → In n (nsec3_names z ex)
  hashed_in n i = sort_has (λ a b. hash_cmp (hash a) (hash b)) (on_total hash nat_list_cmp_total) (nsec3_names z ex) n i

  -- exactly one name of the chain speaks for a hash
  speaks_once : (h : List ℕ) (a b : Name) → In a (hashed_names hash z ex) → In b (hashed_names hash z ex) → nsec3_speaks hash z ex h a ≡ true → nsec3_speaks hash z ex h b ≡ true → a ≡ b
  speaks_once h a b i j sa sb =
      let one = own_chain.one h in
      let speaks : Name → Bool = nsec3_speaks hash z ex h in
      one_item (filter speaks (hashed_names hash z ex)) one.0 a b one.1
      (in_filter speaks (hashed_names hash z ex) a i sa) (in_filter speaks (hashed_names hash z ex) b j sb)

  -- ---- a true record

  module _ (l : HashLink) (k : IsTrueHashLink z hash ex l) where
    named : In k.name (hashed_names hash z ex)
    named = in_contained (hashed_names hash z ex) k.name k.named.0 k.named.1 k.named.2

    -- at the hash of a name that shares it with none, it is the name's own
    matched_name : (x : Name) → SharesNone hash (nsec3_names z ex) (low x) → is_at (hash (low x)) l ≡ true → k.name ≡ low x
    matched_name x shares h =
        shares k.name (contained (nsec3_names z ex) k.name (hashed_in k.name named))
        (sym k.owner ∙ (bytes_decides l.owner (hash (low x))).0 h)

    pub matched_kept : (x : Name) → SharesNone hash (nsec3_names z ex) (low x) → is_at (hash (low x)) l ≡ true → kept z ex x ≡ true
    matched_kept x shares h = chain_kept z ex x (subst (λ n. In n (nsec3_names z ex)) (matched_name x shares h) (hashed_in k.name named))

    pub matched_shows : (x : Name) → SharesNone hash (nsec3_names z ex) (low x) → is_at (hash (low x)) l ≡ true → ShowsTypes z (low x) l.bits
    matched_shows x shares h = subst (ShowsTypes z (low x)) (sym (k.bits ∙ ap (λ n. bitmap (nsec3_types z true n)) (matched_name x shares h))) (nsec3_shows z s (low x))

    pub matched_lacks : (x : Name) → SharesNone hash (nsec3_names z ex) (low x) → is_at (hash (low x)) l ≡ true → LacksTypes z (low x) l.bits
    matched_lacks x shares h = subst (LacksTypes z (low x)) (sym (k.bits ∙ ap (λ n. bitmap (nsec3_types z true n)) (matched_name x shares h))) (nsec3_lacks z s (low x))

    -- where it covers a name's hash, the name is not kept: the name's own record would speak for the hash too
    pub covered_gone : (x : Name) → covers_hash (hash (low x)) l ≡ true → kept z ex x ≡ false
    covered_gone x h = false_from_ne_true (kept z ex x) (λ there.
        let own = (own_chain.each x).1 there in
        let i : In (low x) (hashed_names hash z ex) = in_contained (hashed_names hash z ex) (low x) own.0 own.1 own.2 in
        let covers : hash_covers (hash k.name) (nsec3_next hash z ex k.name) (hash (low x)) ≡ true = (λ j. hash_covers (sym k.owner j) (sym k.next j) (hash (low x))) ∙ h in
        let same : k.name ≡ low x =
        speaks_once (hash (low x)) k.name (low x) named i
        (or_right (bytes_eq (hash k.name) (hash (low x))) _ covers)
        (or_left (bytes_eq (hash (low x)) (hash (low x))) _ ((bytes_decides (hash (low x)) (hash (low x))).1 refl)) in
        let itself : hash_covers (hash k.name) (nsec3_next hash z ex k.name) (hash k.name) ≡ true = ap (λ n. hash_covers (hash k.name) (nsec3_next hash z ex k.name) (hash n)) same ∙ covers in
        false≢true (sym (covers_not_itself (hash k.name) (nsec3_next hash z ex k.name)) ∙ itself))
