-- The NSEC3 records of a zone's own answer are true, and one speaks for each name that the answer speaks of.
use Rattle.std.proofs.Common.{◌≡◌, ℕ, Bool, true, false, ◌||◌, List, [], ◌∷◌, refl, sym, subst, ◌∙◌, inl, inr}
use Rattle.std.specs.Prelude.{filter}
use Rattle.std.specs.List.{AllByRecursion, list_any}
use Rattle.std.proofs.lemmas.Bool.{or_cases, false≢true, false_from_ne_true}
use Rattle.definitions.specs.Name.{Name, low}
use Rattle.definitions.specs.Zone.{Zone, kept}
use Rattle.definitions.specs.ZoneChain.{Nsec3, nsec3_names, hashed_names}
use Rattle.definitions.specs.Laws.{NoneShare, SharesNone, nsec3_speaks}
use Rattle.definitions.proofs.ChainSpeaks.{all_from}
use Rattle.definitions.proofs.Members.{In, contained, in_map, map_in, in_filter, filter_in, any_of, any_in}
use Rattle.denial_laws.specs.Facts.{HashLink}
use Rattle.denial_laws.specs.OwnFacts.{hash_link_of, hash_link_speaks, own_hash_links}
use Rattle.denial_laws.specs.Nsec3Rules.{is_at, covers_hash, is_matched}
use Rattle.denial_laws.specs.Truth.{IsServable, IsTrueHashLink}
use Rattle.denial_laws.proofs.ChainBits.{all_at}
use Rattle.denial_laws.proofs.HashChain.{own_chain, matched_kept, covered_gone}

-- a record that is at a hash, or that covers it
pub record IsAmong (fs : List HashLink) (test : HashLink → Bool) : Type 0 where
  pub link : HashLink
  pub inside : In link fs
  pub passes : test link ≡ true

module _ (z : Zone) (hash : Name → List ℕ) (ex : Bool) (s : IsServable z) (none : NoneShare hash (nsec3_names z ex)) (iterations : ℕ) (salt : List ℕ) (qs : List Name) where
  abbrev pub own : List HashLink
  own = own_hash_links z hash (Nsec3 iterations salt ex) qs

  pub own_true : AllByRecursion (IsTrueHashLink z hash ex) own
  own_true = all_from (IsTrueHashLink z hash ex) own (λ l i.
      let m = map_in (hash_link_of z hash iterations salt ex) (filter (λ o. list_any (hash_link_speaks z hash ex o) qs) (hashed_names hash z ex)) l i in
      let f = filter_in (λ o. list_any (hash_link_speaks z hash ex o) qs) (hashed_names hash z ex) m.item m.inside in
      subst (IsTrueHashLink z hash ex) (sym m.makes) (record {
        name = m.item;
        named = contained (hashed_names hash z ex) m.item f.0;
        owner = refl;
        next = refl;
        bits = refl;
        opts = refl;
      }))

  pub own_speaks : (x : Name) → In x qs → IsAmong own (λ l. is_at (hash x) l || covers_hash (hash x) l)
  own_speaks x i =
      let one = (own_chain z hash ex s none).one (hash x) in
      let here : In one.0 (one.0 ∷ []) = inl refl in
      let f = filter_in (nsec3_speaks hash z ex (hash x)) (hashed_names hash z ex) one.0 (subst (In one.0) (sym one.1) here) in
      record {
        link = hash_link_of z hash iterations salt ex one.0;
        inside = in_map (hash_link_of z hash iterations salt ex) (filter (λ o. list_any (hash_link_speaks z hash ex o) qs) (hashed_names hash z ex)) one.0
            (in_filter (λ o. list_any (hash_link_speaks z hash ex o) qs) (hashed_names hash z ex) one.0 f.0 (any_in (hash_link_speaks z hash ex one.0) qs x i f.1));
        passes = f.1;
      }

  -- the record of a kept name has its hash
  pub own_at : (x : Name) → In (low x) qs → kept z ex x ≡ true → IsAmong own (is_at (hash (low x)))
  own_at x i k =
      let m : IsAmong own (λ l. is_at (hash (low x)) l || covers_hash (hash (low x)) l) = own_speaks (low x) i in
      let yes : is_at (hash (low x)) m.link ≡ true = elim (or_cases (is_at (hash (low x)) m.link) (covers_hash (hash (low x)) m.link) m.passes) [
        | inl a ↦ a
        | inr c ↦ absurd (false≢true (sym (covered_gone z hash ex s none m.link (all_at (IsTrueHashLink z hash ex) own m.link own_true m.inside) x c) ∙ k))
      ] in
      record { link = m.link; inside = m.inside; passes = yes }

  -- none has the hash of a name that is not kept
  pub own_unmatched : (x : Name) → SharesNone hash (nsec3_names z ex) (low x) → kept z ex x ≡ false → (l : HashLink) → In l own → is_at (hash (low x)) l ≡ false
  own_unmatched x shares k l i = false_from_ne_true (is_at (hash (low x)) l) (λ a.
      false≢true (sym k ∙ matched_kept z hash ex s none l (all_at (IsTrueHashLink z hash ex) own l own_true i) x shares a))

  pub own_covers : (x : Name) → In (low x) qs → SharesNone hash (nsec3_names z ex) (low x) → kept z ex x ≡ false → IsAmong own (covers_hash (hash (low x)))
  own_covers x i shares k =
      let m : IsAmong own (λ l. is_at (hash (low x)) l || covers_hash (hash (low x)) l) = own_speaks (low x) i in
      let yes : covers_hash (hash (low x)) m.link ≡ true = elim (or_cases (is_at (hash (low x)) m.link) (covers_hash (hash (low x)) m.link) m.passes) [
        | inl a ↦ absurd (false≢true (sym (own_unmatched x shares k m.link m.inside) ∙ a))
        | inr c ↦ c
      ] in
      record { link = m.link; inside = m.inside; passes = yes }

  pub own_none : (x : Name) → SharesNone hash (nsec3_names z ex) (low x) → kept z ex x ≡ false → is_matched own (hash (low x)) ≡ false
  own_none x shares k = false_from_ne_true (is_matched own (hash (low x))) (λ h.
      let m = any_of (is_at (hash (low x))) own h in
      false≢true (sym (own_unmatched x shares k m.0 m.1.0) ∙ m.1.1))
