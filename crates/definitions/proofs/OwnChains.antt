-- The chains of a zone: whose records they are, and that one of them speaks.
use Rattle.std.proofs.Common.{◌≡◌, ℕ, Bool, true, false, List, [], ◌∷◌, map, refl, sym, ap, subst, ◌∙◌, inl, IsTrue}
use Rattle.std.specs.Prelude.{filter}
use Rattle.std.specs.List.{Contains}
use Rattle.std.specs.Str.{bytes_eq}
use Rattle.std.specs.declared.cmp.Ordering.{Ordering}
use Rattle.std.specs.declared.cmp.Ordering.TheVariants.{Less, Equal}
use Rattle.std.specs.Ordering.{is_lt}
use Rattle.std.specs.Cmp.{IsTotalOrder, on_total}
use Rattle.std.specs.Cmp.Lexicographic.{bytes_decides}
use Rattle.std.specs.FinMap.{nat_cmp-IsAntisymmetric, slice_cmp-IsAntisymmetric}
use Rattle.std.proofs.lemmas.Cmp.{nat_list_cmp_total, tied_itself}
use Rattle.definitions.specs.Name.{Name, low, labels_eq, name_cmp}
use Rattle.definitions.specs.Signing.{ascending}
use Rattle.definitions.specs.Zone.{apex_of, owners, kept_owners, kept}
use Rattle.definitions.specs.ZoneChain.{links, behind, head_or, hash_cmp, nsec_names, nsec3_names, hashed_names, hashes}
use Rattle.definitions.specs.Laws.{rising, link_speaks, hash_link_speaks, NsecChainSpeaks, Nsec3ChainSpeaks}
use Rattle.definitions.proofs.Members.{In, in_map, map_in, contained, in_contained, Rises, sort_has, sort_keeps, sort_rises}
use Rattle.definitions.proofs.NameLaws.{name_cmp_total, labels_decide}
use Rattle.definitions.proofs.LawProofs.{one_link_speaks}
use Rattle.definitions.proofs.CircleLaws.{one_hash_link_speaks}
use Rattle.definitions.proofs.ChainSpeaks.{all_from, filter_map, one_of_map, Apart, speaks_alone}
use Rattle.definitions.proofs.ZoneNames.{live_owner, owner_in_chain, chain_begins, chain_kept, kept_in_chain, apex_in_chain, rising_test}

not_true : (b : Bool) → (b ≡ true → ⊥) → b ≡ false
not_true true f = absurd (f refl)
not_true false f = refl

to_in : {X : Type 0} (xs : List X) (x : X) → Contains xs x → In x xs
to_in xs x c = in_contained xs x c.0 c.1 c.2

-- items that rise are unlike one another
apart : {A : Type 0} (R : A → A → Ordering) (o : IsTotalOrder R) (eq : A → A → Bool) → ((a b : A) → R a b ≡ Less → eq b a ≡ false) → (xs : List A) → Rises R o xs → Apart eq xs
apart R o eq f [] h = tt
apart R o eq f (a ∷ xs) h = (all_from (λ x. eq x a ≡ false) xs (λ x i. f a x (h.0 x i)), apart R o eq f xs h.1)

-- ---- NSEC

names_unlike : (a b : Name) → name_cmp a b ≡ Less → labels_eq b a ≡ false
names_unlike a b e = not_true (labels_eq b a) (λ h.
    let n : name_cmp a b ≡ Equal = ap (name_cmp a) ((labels_decide b a).0 h) ∙ tied_itself name_cmp_total a in
    let x : Less ≡ Equal = sym e ∙ n in cc)

names_itself : (a : Name) → labels_eq a a ≡ true
names_itself a = (labels_decide a a).1 refl

pub one_nsec_record_speaks : NsecChainSpeaks
one_nsec_record_speaks z c =
    let apex : Name = apex_of z in
    let names : Rises name_cmp name_cmp_total (nsec_names z) = sort_rises name_cmp name_cmp_total (kept_owners z false) in
    let begins = chain_begins z c in
    let rises : IsTrue (rising (nsec_names z)) = rising_test (nsec_names z) names in
    record {
      live = λ o. (
        (λ h. let l = live_owner z o (to_in (nsec_names z) o h) in (contained (owners z) o l.0, l.1)),
        (λ h. contained (nsec_names z) o (owner_in_chain z o (to_in (owners z) o h.0) h.1)),
      );
      rises = rises;
      one = λ q h.
          let speaks : Name → Name → Bool = λ o n. link_speaks apex q (o, n) in
          let P : List Name → Type 0 = λ ns. (o : Name) × (filter (λ o. speaks o (behind labels_eq apex o (links apex ns))) ns ≡ o ∷ []) in
          let climbs : Rises name_cmp name_cmp_total (apex ∷ begins.0) = subst (Rises name_cmp name_cmp_total) begins.1 names in
          let found = one_link_speaks apex q begins.0 (subst (λ ns. IsTrue (rising ns)) begins.1 rises) h in
          subst P (sym begins.1) (
            found.0.0,
            speaks_alone labels_eq speaks apex apex (apex ∷ begins.0) names_itself (apart name_cmp name_cmp_total labels_eq names_unlike (apex ∷ begins.0) climbs) found.0 found.1,
          );
    }

-- ---- NSEC3

hashes_unlike : (a b : List ℕ) → hash_cmp a b ≡ Less → bytes_eq b a ≡ false
hashes_unlike a b e = not_true (bytes_eq b a) (λ h.
    let n : hash_cmp a b ≡ Equal = ap (hash_cmp a) ((bytes_decides b a).0 h) ∙ tied_itself nat_list_cmp_total a in
    let x : Less ≡ Equal = sym e ∙ n in cc)

hash_itself : (a : List ℕ) → bytes_eq a a ≡ true
hash_itself a = (bytes_decides a a).1 refl

hash_cmp_exact : (a b : List ℕ) → hash_cmp a b ≡ Equal → a ≡ b
hash_cmp_exact = slice_cmp-IsAntisymmetric nat_cmp-IsAntisymmetric

module _ (hash : Name → List ℕ) where
  abbrev by_hash : Name → Name → Ordering
  by_hash a b = hash_cmp (hash a) (hash b)

  by_hash_total : IsTotalOrder by_hash
  by_hash_total = on_total hash nat_list_cmp_total

  abbrev chosen : List ℕ → List (List ℕ) → Bool → Bool
  chosen e ds b = elim b [ true ↦ ascending (e ∷ ds) | false ↦ false ]

  climb : (ns : List Name) → Rises by_hash by_hash_total ns → ascending (map hash ns) ≡ true
  climb [] h = refl
  climb (a ∷ []) h = refl
  climb (a ∷ b ∷ ns) h = ap (λ r. chosen (hash b) (map hash ns) (is_lt r)) (h.0 b (inl refl)) ∙ climb (b ∷ ns) h.1

  hashes_rise : (ns : List Name) → Rises by_hash by_hash_total ns → Rises hash_cmp nat_list_cmp_total (map hash ns)
  hashes_rise [] h = tt
  hashes_rise (a ∷ ns) h = (
    (λ x i. let f = map_in hash ns x i in ap (hash_cmp (hash a)) f.makes ∙ h.0 f.item f.inside),
    hashes_rise ns h.1,
  )

  -- one of the names in order of hash speaks for a hash, by the hash behind its own
  one_of_hashed : (h : List ℕ) (ns : List Name) (n : Name) → In n ns → Rises by_hash by_hash_total ns
      → (o : Name) × (filter (λ o. hash_link_speaks h (hash o, behind bytes_eq [] (hash o) (links (head_or [] (map hash ns)) (map hash ns)))) ns ≡ o ∷ [])
  one_of_hashed h [] n i r = absurd i
  one_of_hashed h (a ∷ ns) n i r =
      let hs : List (List ℕ) = map hash (a ∷ ns) in
      let speaks : List ℕ → List ℕ → Bool = λ o next. hash_link_speaks h (o, next) in
      let next : List ℕ → List ℕ = λ o. behind bytes_eq [] o (links (hash a) hs) in
      let found = one_hash_link_speaks (hash a) (map hash ns) h (climb (a ∷ ns) r) in
      let alone : filter (λ o. speaks o (next o)) hs ≡ found.0.0 ∷ [] =
      speaks_alone bytes_eq speaks [] (hash a) hs hash_itself (apart hash_cmp nat_list_cmp_total bytes_eq hashes_unlike hs (hashes_rise (a ∷ ns) r)) found.0 found.1 in
      one_of_map hash (filter (λ o. speaks (hash o) (next (hash o))) (a ∷ ns)) found.0.0 (sym (filter_map (λ o. speaks o (next o)) hash (a ∷ ns)) ∙ alone)

pub one_nsec3_record_speaks : Nsec3ChainSpeaks
one_nsec3_record_speaks hash z excluding c none =
    let names : List Name = nsec3_names z excluding in
    let R : Name → Name → Ordering = λ a b. hash_cmp (hash a) (hash b) in
    let o : IsTotalOrder R = on_total hash nat_list_cmp_total in
    let back : (n : Name) → In n (hashed_names hash z excluding) → In n names = sort_has R o names in
    let there : (n : Name) → In n names → In n (hashed_names hash z excluding) =
    λ n. sort_keeps R o names n (λ a b i j e. none a b (contained names a i) (contained names b j) (hash_cmp_exact (hash a) (hash b) e)) in
    let kept_there : (q : Name) → kept z excluding q ≡ true → In (low q) (hashed_names hash z excluding) = λ q k. there (low q) (kept_in_chain z excluding q k) in
    let rises : Rises R o (hashed_names hash z excluding) = sort_rises R o names in
    record {
      each = λ q. (
        (λ h. chain_kept z excluding q (back (low q) (to_in (hashed_names hash z excluding) (low q) h))),
        (λ k. contained (hashed_names hash z excluding) (low q) (kept_there q k)),
      );
      ascends = climb hash (hashed_names hash z excluding) rises;
      matches = λ q shares. (
        (λ h.
            let f = map_in hash (hashed_names hash z excluding) (hash (low q)) (to_in (hashes hash z excluding) (hash (low q)) h) in
            let is : f.item ≡ low q = shares f.item (contained names f.item (back f.item f.inside)) (sym f.makes) in
            chain_kept z excluding q (subst (λ n. In n names) is (back f.item f.inside))),
        (λ k. contained (hashes hash z excluding) (hash (low q)) (in_map hash (hashed_names hash z excluding) (low q) (kept_there q k))),
      );
      one = λ h. one_of_hashed hash h (hashed_names hash z excluding) (low (apex_of z)) (kept_there (apex_of z) (apex_in_chain z excluding c)) rises;
    }
