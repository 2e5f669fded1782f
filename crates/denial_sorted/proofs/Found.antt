-- The first group whose records are asked for, by the first of these records.
use Rattle.std.proofs.Common.{◌≡◌, ℕ, suc, ◌+◌, ◌-◌, Bool, true, false, ◌&&◌, nat_eq, if◌then◌else◌, List, [], ◌∷◌, ◌++◌, take, drop, refl, sym, ap, ◌∙◌, subst, Option, Some, None, option_map, arith}
use Rattle.std.proofs.lemmas.Bool.{and_parts, both_ways, eq-eqb}
use Rattle.std.proofs.lemmas.List.{drop-drop, take-append-drop}
use Rattle.std.specs.Cmp.{nat_eq_equiv}
use Rattle.std.specs.List.{AllByRecursion, onto_first}
use Rattle.definitions.specs.Name.{Name, same}
use Rattle.names_labels.specs.Laws.{same_equivalence}
use Rattle.plain.specs.declared.record.Record.{Record}
use Rattle.denial_sorted.specs.declared.search.Span.{Span}
use Rattle.denial_rrsets.specs.Groups.{found_set, groups, is_at, is_of_type, of_one_set, rrset_of}
use Rattle.denial_sorted.specs.Owned.{is_owned}
use Rattle.denial_sorted.specs.Spans.{IsSpan}
use Rattle.denial_sorted.proofs.Asked.{all_front}
use Rattle.denial_sorted.proofs.Spanned.{all_dropped}
use Rattle.denial_rrsets.proofs.Started.{first_is, more}

module _ {N D : Type 0} (rtype : D → ℕ) (alike : Record N D → Record N D → Bool) (asked : Record N D → Bool) (same : (a b : Record N D) → alike a b ≡ true → asked a ≡ asked b) where
  abbrev found_from : List (Record N D) → Option (Option (List (Record N D)))
  found_from [] = Some None
  found_from (x ∷ xs) = if asked x then option_map Some (rrset_of rtype (x ∷ take (more alike x xs) xs)) else found_from xs

  found_groups : (xs : List (Record N D)) → found_set rtype asked (groups alike xs) ≡ found_from xs
  found_groups [] = refl
  found_groups (x ∷ []) = refl
  found_groups (x ∷ y ∷ ys) = go (alike x y) refl (first_is alike y ys) (found_groups (y ∷ ys))
    where
      joined : (s : Bool) → asked x ≡ s → asked y ≡ s → found_set rtype asked ((y ∷ take (more alike y ys) ys) ∷ groups alike (drop (more alike y ys) ys)) ≡ found_from (y ∷ ys) → (if asked x then option_map Some (rrset_of rtype (x ∷ y ∷ take (more alike y ys) ys)) else found_set rtype asked (groups alike (drop (more alike y ys) ys))) ≡ (if asked x then option_map Some (rrset_of rtype (x ∷ y ∷ take (more alike y ys) ys)) else found_from (y ∷ ys))
      joined true e f h = ap (λ t. if t then option_map Some (rrset_of rtype (x ∷ y ∷ take (more alike y ys) ys)) else found_set rtype asked (groups alike (drop (more alike y ys) ys))) e ∙ ap (λ t. if t then option_map Some (rrset_of rtype (x ∷ y ∷ take (more alike y ys) ys)) else found_from (y ∷ ys)) (sym e)
      joined false e f h =
          let skip : found_set rtype asked ((y ∷ take (more alike y ys) ys) ∷ groups alike (drop (more alike y ys) ys)) ≡ found_set rtype asked (groups alike (drop (more alike y ys) ys)) = ap (λ t. if t then option_map Some (rrset_of rtype (y ∷ take (more alike y ys) ys)) else found_set rtype asked (groups alike (drop (more alike y ys) ys))) f in
          ap (λ t. if t then option_map Some (rrset_of rtype (x ∷ y ∷ take (more alike y ys) ys)) else found_set rtype asked (groups alike (drop (more alike y ys) ys))) e
          ∙ sym skip ∙ h
          ∙ ap (λ t. if t then option_map Some (rrset_of rtype (x ∷ y ∷ take (more alike y ys) ys)) else found_from (y ∷ ys)) (sym e)

      go : (t : Bool) → alike x y ≡ t → groups alike (y ∷ ys) ≡ (y ∷ take (more alike y ys) ys) ∷ groups alike (drop (more alike y ys) ys) → found_set rtype asked (groups alike (y ∷ ys)) ≡ found_from (y ∷ ys) → found_set rtype asked (if t then onto_first x (groups alike (y ∷ ys)) else (x ∷ []) ∷ groups alike (y ∷ ys)) ≡ (if asked x then option_map Some (rrset_of rtype (x ∷ take (if t then suc (more alike y ys) else 0) (y ∷ ys))) else found_from (y ∷ ys))
      go true a e h = ap (λ gs. found_set rtype asked (onto_first x gs)) e ∙ joined (asked x) refl (sym (same x y a)) (ap (found_set rtype asked) (sym e) ∙ h)
      go false a e h = ap (λ r. if asked x then option_map Some (rrset_of rtype (x ∷ [])) else r) h

  pub none_found : (xs : List (Record N D)) → AllByRecursion (λ r. asked r ≡ false) xs → found_from xs ≡ Some None
  none_found [] h = refl
  none_found (x ∷ xs) h = ap (λ t. if t then option_map Some (rrset_of rtype (x ∷ take (more alike x xs) xs)) else found_from xs) h.0 ∙ none_found xs h.1

  skipped : (fs zs : List (Record N D)) → AllByRecursion (λ r. asked r ≡ false) fs → found_from (fs ++ zs) ≡ found_from zs
  skipped [] zs h = refl
  skipped (f ∷ fs) zs h = ap (λ t. if t then option_map Some (rrset_of rtype (f ∷ take (more alike f (fs ++ zs)) (fs ++ zs))) else found_from (fs ++ zs)) h.0 ∙ skipped fs zs h.1

  -- the group of a record that is asked for ends before those that aren't
  group_ends : (x : Record N D) (ms bs : List (Record N D)) → asked x ≡ true → AllByRecursion (λ r. asked r ≡ false) bs → take (more alike x (ms ++ bs)) (ms ++ bs) ≡ take (more alike x ms) ms
  group_ends x [] [] e h = refl
  group_ends x [] (b ∷ bs) e h = go (alike x b) refl
    where
      go : (t : Bool) → alike x b ≡ t → take (if t then suc (more alike b bs) else 0) (b ∷ bs) ≡ []
      go true a = absurd (both_ways (asked b) h.0 (sym (same x b a) ∙ e))
      go false a = refl
  group_ends x (m ∷ ms) bs e h = go (alike x m) refl (λ f. group_ends m ms bs f h)
    where
      go : (t : Bool) → alike x m ≡ t → (asked m ≡ true → take (more alike m (ms ++ bs)) (ms ++ bs) ≡ take (more alike m ms) ms) → take (if t then suc (more alike m (ms ++ bs)) else 0) (m ∷ ms ++ bs) ≡ take (if t then suc (more alike m ms) else 0) (m ∷ ms)
      go true a k = ap (λ zs. m ∷ zs) (k (sym (same x m a) ∙ e))
      go false a k = refl

  cut_off : (ms bs : List (Record N D)) → AllByRecursion (λ r. asked r ≡ false) bs → found_from (ms ++ bs) ≡ found_from ms
  cut_off [] bs h = none_found bs h
  cut_off (x ∷ ms) bs h = go (asked x) refl (cut_off ms bs h)
    where
      go : (t : Bool) → asked x ≡ t → found_from (ms ++ bs) ≡ found_from ms → found_from (x ∷ ms ++ bs) ≡ found_from (x ∷ ms)
      go true e k = ap (λ zs. if asked x then option_map Some (rrset_of rtype (x ∷ zs)) else found_from (ms ++ bs)) (group_ends x ms bs e h) ∙ ap (λ r. if asked x then option_map Some (rrset_of rtype (x ∷ take (more alike x ms) ms)) else r) k
      go false e k = ap (λ t. if t then option_map Some (rrset_of rtype (x ∷ take (more alike x (ms ++ bs)) (ms ++ bs))) else found_from (ms ++ bs)) e ∙ k ∙ ap (λ t. if t then option_map Some (rrset_of rtype (x ∷ take (more alike x ms) ms)) else found_from ms) (sym e)

  -- those before and behind that aren't asked for make no difference
  pub found_within : (fs ms bs : List (Record N D)) → AllByRecursion (λ r. asked r ≡ false) fs → AllByRecursion (λ r. asked r ≡ false) bs → found_set rtype asked (groups alike (fs ++ (ms ++ bs))) ≡ found_set rtype asked (groups alike ms)
  found_within fs ms bs f b = found_groups (fs ++ (ms ++ bs)) ∙ skipped fs (ms ++ bs) f ∙ cut_off ms bs b ∙ sym (found_groups ms)

  pub found_none : (xs : List (Record N D)) → AllByRecursion (λ r. asked r ≡ false) xs → found_set rtype asked (groups alike xs) ≡ Some None
  found_none xs h = found_groups xs ∙ none_found xs h

-- the RRset of a type at an owner, among the records of the owner's class
module _ {N D : Type 0} (name : N → Name) (rtype : D → ℕ) (owner : Name) (type : ℕ) where
  abbrev at : Record N D → Bool
  at = is_at name rtype owner type

  at_alike : (a b : Record N D) → of_one_set name rtype a b ≡ true → at a ≡ at b
  at_alike a b h =
      let types = and_parts (nat_eq (rtype a.content) (rtype b.content)) (nat_eq a.class b.class && same (name a.owner) (name b.owner)) h in
      let owners = and_parts (nat_eq a.class b.class) (same (name a.owner) (name b.owner)) types.1 in
      let t : nat_eq (rtype a.content) type ≡ nat_eq (rtype b.content) type = nat_eq_equiv.congr (rtype a.content) (rtype b.content) type types.0 in
      let o : same (name a.owner) owner ≡ same (name b.owner) owner = same_equivalence.congr (name a.owner) (name b.owner) owner owners.1 in
      ap (λ x. x && same (name a.owner) owner) t ∙ ap (λ x. nat_eq (rtype b.content) type && x) o

  not_at : (c : ℕ) (rs : List (Record N D)) → AllByRecursion (λ r. r.class ≡ c) rs → AllByRecursion (λ r. is_owned name c owner r ≡ false) rs → AllByRecursion (λ r. at r ≡ false) rs
  not_at c [] e h = tt
  not_at c (x ∷ xs) e h = (go (nat_eq x.class c) (eq-eqb x.class c e.0) (same (name x.owner) owner) (is_of_type rtype type x) h.0, not_at c xs e.1 h.1)
    where
      go : (t : Bool) → t ≡ true → (s u : Bool) → (t && s) ≡ false → (u && s) ≡ false
      go true f false true g = refl
      go true f false false g = refl
      go true f true u g = absurd cc
      go false f s u g = absurd cc

  pub found_in_span : (c : ℕ) (rs : List (Record N D)) (s : Span) → AllByRecursion (λ r. r.class ≡ c) rs → IsSpan (is_owned name c owner) rs (Some s) → found_set rtype at (groups (of_one_set name rtype) rs) ≡ found_set rtype at (groups (of_one_set name rtype) (take (s.end - s.start) (drop s.start rs)))
  found_in_span c rs s e h =
      let fs = take s.start rs in
      let ms = take (s.end - s.start) (drop s.start rs) in
      let bs = drop s.end rs in
      let behind : drop (s.end - s.start) (drop s.start rs) ≡ bs = let n : s.start + (s.end - s.start) ≡ s.end = omega (arith, h.0) in drop-drop (s.end - s.start) s.start rs ∙ ap (λ k. drop k rs) n in
      let whole : fs ++ (ms ++ bs) ≡ rs = ap (λ zs. fs ++ (ms ++ zs)) (sym behind) ∙ ap (λ zs. fs ++ zs) (take-append-drop (s.end - s.start) (drop s.start rs)) ∙ take-append-drop s.start rs in
      let P : List (Record N D) → Type 0 = λ zs. found_set rtype at (groups (of_one_set name rtype) zs) ≡ found_set rtype at (groups (of_one_set name rtype) ms) in
      subst P whole (found_within rtype (of_one_set name rtype) at at_alike fs ms bs (not_at c fs (all_front (λ r. r.class ≡ c) s.start rs e) h.2) (not_at c bs (all_dropped (λ r. r.class ≡ c) s.end rs e) h.4))

  pub found_nowhere : (c : ℕ) (rs : List (Record N D)) → AllByRecursion (λ r. r.class ≡ c) rs → AllByRecursion (λ r. is_owned name c owner r ≡ false) rs → Some None ≡ found_set rtype at (groups (of_one_set name rtype) rs)
  found_nowhere c rs e h = sym (found_none rtype (of_one_set name rtype) at at_alike rs (not_at c rs e h))
