-- What a judge hashes by links of one kind: names that the question concerns, or nothing where there is no link.
use Rattle.std.proofs.Common.{◌≡◌, ℕ, suc, ◌+◌, ◌<◌, ◌≤◌, Bool, true, false, ◌&&◌, not, List, [], ◌∷◌, length, Option, Some, None, refl, sym, ap, subst, ◌∙◌, inl, inr, arith}
use Rattle.std.specs.Prelude.{Contains, IfSome, IsSome, if◌then◌else◌, is_none, nat_lt, unwrap_or}
use Rattle.std.specs.List.{AllByRecursion, list_any}
use Rattle.std.specs.Str.{bytes_eq}
use Rattle.std.proofs.lemmas.Bool.{and_from, eq-eqb, false≢true, ltb-true, or_from}
use lib.Pointwise.{bytes_decides}
use Rattle.definitions.specs.Name.{Name, at_or_above, low, same, strictly_above, wire}
use Rattle.definitions.specs.Signing.{label_count}
use Rattle.definitions.specs.Zone.{Verdict, star_under}
use Rattle.definitions.specs.ZoneChain.{Mode, Nsec, Nsec3}
use Rattle.definitions.proofs.ZoneNames.{above_itself, lowered_above}
use Rattle.denial_laws.specs.Deciding.{decided, hashed, hashed_by_chain, hashed_by_wildcard, hashed_inside}
use Rattle.denial_laws.specs.Facts.{Facts, HashLink, Link, Rrset, is_expanded}
use Rattle.denial_laws.specs.Nsec3Rules.{asks_star, cut_above, encloses, hashed_climbing, hashed_denied, hashed_enclosed, is_matched, last_labels}
use Rattle.denial_laws.specs.NsecRules.{first_some}
use Rattle.denial_laws.specs.Truth.{concerned}
use Rattle.denial_laws.proofs.HashChain.{concerns_name, concerns_star}
use Rattle.denial_laws.proofs.NameFacts.{above_cases, names_same, same_names, shorter_above, strictly_above_at, strictly_at}
use Rattle.denial_laws.proofs.Nsec3Wildcard.{last_labels_are}
use Rattle.answer_judge_rules.specs.Hashes.{answered_among, fails_among, hash_among, up_to}
use Rattle.answer_terms.specs.Accepting.{over_limit}
use Rattle.answer_terms.specs.Hashing.{HaveHashes, Hasher, hash_in}
use Rattle.answer_judge.specs.Judged.{are_alike, are_mixed, are_over}

-- facts by their parts
abbrev pub facts : Option Rrset → List Link → List HashLink → Facts
facts r ks ls = record { rrset = r; links = ks; hash_links = ls }

-- ---- links of one kind

-- a link says how its owner was hashed
abbrev pub SaysHashing : ℕ → List ℕ → HashLink → Type 0
SaysHashing iterations salt l = (l.iterations ≡ iterations) × (l.salt ≡ salt)

-- links of a chain of this mode
abbrev pub AreHashedBy : Mode → List HashLink → Type 0
AreHashedBy Nsec ls = ls ≡ []
AreHashedBy (Nsec3 iterations salt optout) ls = AllByRecursion (SaysHashing iterations salt) ls

unlike_none : (iterations : ℕ) (salt : List ℕ) (l : HashLink) (ls : List HashLink) → SaysHashing iterations salt l → AllByRecursion (SaysHashing iterations salt) ls → list_any (λ m. not (are_alike l m)) ls ≡ false
unlike_none iterations salt l [] h hs = refl
unlike_none iterations salt l (m ∷ ls) h hs =
    let alike : are_alike l m ≡ true = and_from _ _ (eq-eqb l.iterations m.iterations (h.0 ∙ sym hs.0.0)) ((bytes_decides l.salt m.salt).1 (h.1 ∙ sym hs.0.1)) in
    or_from _ _ (ap not alike) (unlike_none iterations salt l ls h hs.1)

pub not_mixed : (mode : Mode) (ls : List HashLink) → AreHashedBy mode ls → are_mixed ls ≡ false
not_mixed Nsec ls h = ap are_mixed h
not_mixed (Nsec3 iterations salt optout) [] h = refl
not_mixed (Nsec3 iterations salt optout) (l ∷ ls) h = unlike_none iterations salt l ls h.0 h.1

none_over : (limit iterations : ℕ) (salt : List ℕ) (ls : List HashLink) → nat_lt limit iterations ≡ false → AllByRecursion (SaysHashing iterations salt) ls → are_over limit ls ≡ false
none_over limit iterations salt [] e h = refl
none_over limit iterations salt (l ∷ ls) e h = or_from _ _ (ap (nat_lt limit) h.0.0 ∙ e) (none_over limit iterations salt ls e h.1)

pub not_over : (mode : Mode) (limit : ℕ) (ls : List HashLink) → over_limit mode limit ≡ false → AreHashedBy mode ls → are_over limit ls ≡ false
not_over Nsec limit ls e h = ap (are_over limit) h
not_over (Nsec3 iterations salt optout) limit ls e h = none_over limit iterations salt ls e h

-- names are hashed with the chain's parameters
answered_is : (hash : Hasher) (iterations : ℕ) (salt : List ℕ) (l : HashLink) (ls : List HashLink) (n : Name) → SaysHashing iterations salt l → answered_among hash (l ∷ ls) n ≡ hash (wire (low n)) 1 iterations salt
answered_is hash iterations salt l ls n h = λ i. hash (wire (low n)) 1 (h.0 i) (h.1 i)

-- without a link no hash takes part
none_decides : (apex : Name) (f g : Name → List ℕ) (r : Option Rrset) (ks : List Link) (q : Name) (t : ℕ) → decided apex f (facts r ks []) q t ≡ decided apex g (facts r ks []) q t
none_decides apex f g None ks q t = refl
none_decides apex f g (Some r) ks q t = refl

-- the hashes by links are the chain's
pub hashes_agree : (hash : Hasher) (mode : Mode) (apex : Name) (r : Option Rrset) (ks : List Link) (ls : List HashLink) (q : Name) (t : ℕ) → AreHashedBy mode ls → decided apex (hash_among hash ls) (facts r ks ls) q t ≡ decided apex (hash_in hash mode) (facts r ks ls) q t
hashes_agree hash mode apex r ks [] q t h = none_decides apex (hash_among hash []) (hash_in hash mode) r ks q t
hashes_agree hash Nsec apex r ks (l ∷ ls) q t h = cc
hashes_agree hash (Nsec3 iterations salt optout) apex r ks (l ∷ ls) q t h =
    λ i. decided apex (λ n. unwrap_or (answered_is hash iterations salt l ls n h.0 i) []) (facts r ks (l ∷ ls)) q t

-- ---- names that are hashed

within : (q : Name) → label_count q ≤ length q
within [] = omega arith
within (l ∷ q) = go (bytes_eq l (42 ∷ []))
  where
    go : (b : Bool) → (if b then length q else length q + 1) ≤ suc (length q)
    go true = omega arith
    go false = omega arith

-- a wildcard's RRset is expanded no further than from the apex
abbrev pub ExpandsInside : Name → Name → Rrset → Type 0
ExpandsInside apex q r = is_expanded r q ≡ true → length apex ≤ r.labels

module _ (apex q : Name) (hash : Name → List ℕ) where
  -- a name that the question concerns
  abbrev Concerns : Name → Type 0
  Concerns n = Contains (concerned (low apex) (low q)) (low n)

  name_concerns : (p : Name) → at_or_above apex p ≡ true → at_or_above p q ≡ true → Concerns p
  name_concerns p i a = concerns_name (low apex) p q (lowered_above apex p ∙ i) a

  star_concerns : (p : Name) → at_or_above apex p ≡ true → strictly_above p q ≡ true → Concerns (star_under p)
  star_concerns p i a = concerns_star (low apex) p q (lowered_above apex p ∙ i) a

  parent_above : (l : List ℕ) (p : Name) → at_or_above (l ∷ p) q ≡ true → strictly_above p q ≡ true
  parent_above l p a = strictly_above_at p (l ∷ p) q (above_itself p) a

  -- the parent of a name below the apex
  parent_inside : (l : List ℕ) (p : Name) → at_or_above apex (l ∷ p) ≡ true → same (l ∷ p) apex ≡ false → at_or_above apex p ≡ true
  parent_inside l p i e = elim (above_cases apex (l ∷ p) i) [
    | inl s ↦ absurd (false≢true (sym e ∙ names_same (l ∷ p) apex (sym (same_names apex (l ∷ p) s))))
    | inr a ↦ a
  ]

  star_or_none : (p : Name) (b : Bool) → Concerns (star_under p) → AllByRecursion Concerns (elim b as (λ _. List Name) [ true ↦ star_under p ∷ [] | false ↦ [] ])
  star_or_none p true c = (c, tt)
  star_or_none p false c = tt

  enclosed_concerns : (closer p : Name) (fs : List HashLink) → at_or_above apex p ≡ true → strictly_above p q ≡ true → AllByRecursion Concerns (hashed_enclosed apex hash closer p fs)
  enclosed_concerns closer p fs i a = go (first_some (cut_above apex p (hash (low p))) fs)
    where
      go : (o : Option Verdict) → AllByRecursion Concerns (elim o as (λ _. List Name) [
        | Some v ↦ []
        | None ↦ elim (list_any (encloses (hash (low p))) fs && asks_star (hash (low closer)) fs) [ true ↦ star_under p ∷ [] | false ↦ [] ]
      ])
      go (Some v) = tt
      go None = star_or_none p (list_any (encloses (hash (low p))) fs && asks_star (hash (low closer)) fs) (star_concerns p i a)

  climbing_concerns : (m : Name) (fs : List HashLink) → at_or_above apex m ≡ true → at_or_above m q ≡ true → AllByRecursion Concerns (hashed_climbing apex hash m fs)
  climbing_concerns [] fs i a = tt
  climbing_concerns (l ∷ p) fs i a = go (same (l ∷ p) apex) (is_matched fs (hash (low p))) refl (climbing_concerns p fs)
    where
      go : (s b : Bool) → same (l ∷ p) apex ≡ s → (at_or_above apex p ≡ true → at_or_above p q ≡ true → AllByRecursion Concerns (hashed_climbing apex hash p fs))
          → AllByRecursion Concerns (elim s as (λ _. List Name) [ true ↦ [] | false ↦ p ∷ elim b [ true ↦ hashed_enclosed apex hash (l ∷ p) p fs | false ↦ hashed_climbing apex hash p fs ] ])
      go true b e later = tt
      go false true e later =
          let inside = parent_inside l p i e in
          let up = parent_above l p a in
          (name_concerns p inside (strictly_at p q up), enclosed_concerns (l ∷ p) p fs inside up)
      go false false e later =
          let inside = parent_inside l p i e in
          let up = parent_above l p a in
          (name_concerns p inside (strictly_at p q up), later inside (strictly_at p q up))

  denied_concerns : (fs : List HashLink) → at_or_above apex q ≡ true → AllByRecursion Concerns (hashed_denied apex hash q fs)
  denied_concerns fs i = go (is_matched fs (hash (low q)))
    where
      go : (b : Bool) → AllByRecursion Concerns (q ∷ (elim b as (λ _. List Name) [ true ↦ [] | false ↦ hashed_climbing apex hash q fs ]))
      go true = (name_concerns q i (above_itself q), tt)
      go false = (name_concerns q i (above_itself q), climbing_concerns q fs i (above_itself q))

  chain_concerns : (fs : List HashLink) → at_or_above apex q ≡ true → AllByRecursion Concerns (hashed_by_chain apex hash fs q)
  chain_concerns [] i = tt
  chain_concerns (f ∷ fs) i = denied_concerns (f ∷ fs) i

  -- the name one label longer than the wildcard's parent
  longer_concerns : (r : Rrset) → at_or_above apex q ≡ true → is_expanded r q ≡ true → length apex ≤ r.labels → Concerns (last_labels (r.labels + 1) q)
  longer_concerns r i x far =
      let fewer : r.labels < length q = omega (arith, ltb-true r.labels (label_count q) x, within q) in
      let last = last_labels_are r.labels q fewer in
      let n : Name = last.label ∷ last.parent in
      let inside : at_or_above apex n ≡ true = shorter_above apex n q i last.above (omega (arith, far, last.long)) in
      subst Concerns (sym last.is) (name_concerns n inside last.above)

  wildcard_concerns : (fs : List HashLink) (r : Rrset) → at_or_above apex q ≡ true → is_expanded r q ≡ true → length apex ≤ r.labels → AllByRecursion Concerns (hashed_by_wildcard fs r q)
  wildcard_concerns [] r i x far = tt
  wildcard_concerns (f ∷ fs) r i x far = (longer_concerns r i x far, tt)

  expanded_concerns : (fs : List HashLink) (r : Rrset) → at_or_above apex q ≡ true → ExpandsInside apex q r → AllByRecursion Concerns (elim (is_expanded r q) as (λ _. List Name) [ false ↦ [] | true ↦ hashed_by_wildcard fs r q ])
  expanded_concerns fs r i far = go (is_expanded r q) refl
    where
      go : (b : Bool) → is_expanded r q ≡ b → AllByRecursion Concerns (elim b as (λ _. List Name) [ false ↦ [] | true ↦ hashed_by_wildcard fs r q ])
      go false e = tt
      go true e = wildcard_concerns fs r i e (far e)

  inside_concerns : (r : Option Rrset) (ks : List Link) (fs : List HashLink) → at_or_above apex q ≡ true → IfSome r (ExpandsInside apex q) → AllByRecursion Concerns (hashed_inside apex hash (facts r ks fs) q)
  inside_concerns None ks fs i far = chain_concerns fs i
  inside_concerns (Some r) ks fs i far = expanded_concerns fs r i far

  pub hashed_concern : (r : Option Rrset) (ks : List Link) (fs : List HashLink) → at_or_above apex q ≡ true → IfSome r (ExpandsInside apex q) → AllByRecursion Concerns (hashed apex hash (facts r ks fs) q)
  hashed_concern r ks fs i far =
      subst (λ b. AllByRecursion Concerns (elim b as (λ _. List Name) [ true ↦ hashed_inside apex hash (facts r ks fs) q | false ↦ [] ])) (sym i) (inside_concerns r ks fs i far)

-- ---- none fails

nothing_hashed : (apex : Name) (hash : Name → List ℕ) (r : Option Rrset) (ks : List Link) (q : Name) → hashed apex hash (facts r ks []) q ≡ []
nothing_hashed apex hash r ks q = either (at_or_above apex q) (hashed_inside apex hash (facts r ks []) q) (inside r)
  where
    either : (b : Bool) (ns : List Name) → ns ≡ [] → (elim b as (λ _. List Name) [ true ↦ ns | false ↦ [] ]) ≡ []
    either true ns e = e
    either false ns e = refl

    expanded : (b : Bool) → (elim b as (λ _. List Name) [ false ↦ [] | true ↦ [] ]) ≡ []
    expanded true = refl
    expanded false = refl

    inside : (o : Option Rrset) → hashed_inside apex hash (facts o ks []) q ≡ []
    inside None = refl
    inside (Some x) = expanded (is_expanded x q)

none_up_to : (fails : Name → Bool) (ns : List Name) → AllByRecursion (λ n. fails n ≡ false) ns → list_any fails (up_to fails ns) ≡ false
none_up_to fails [] h = refl
none_up_to fails (n ∷ ns) h =
    or_from _ _ h.0
    (ap (λ b. list_any fails (elim b as (λ _. List Name) [ true ↦ [] | false ↦ up_to fails ns ])) h.0 ∙ none_up_to fails ns h.1)

some_is_there : (o : Option (List ℕ)) → IsSome o → is_none o ≡ false
some_is_there o h = ap not h

-- names that are hashed have hashes
each_hashed : (hash : Hasher) (iterations : ℕ) (salt : List ℕ) (apex q : Name) (l : HashLink) (ls : List HashLink) (ns : List Name) → SaysHashing iterations salt l
    → ((n : Name) → Contains (concerned (low apex) (low q)) n → IsSome (hash (wire n) 1 iterations salt)) → AllByRecursion (λ n. Contains (concerned (low apex) (low q)) (low n)) ns → AllByRecursion (λ n. fails_among hash (l ∷ ls) n ≡ false) ns
each_hashed hash iterations salt apex q l ls [] h made c = tt
each_hashed hash iterations salt apex q l ls (n ∷ ns) h made c =
    (ap (λ (o : Option (List ℕ)). is_none o) (answered_is hash iterations salt l ls n h) ∙ some_is_there (hash (wire (low n)) 1 iterations salt) (made (low n) c.0), each_hashed hash iterations salt apex q l ls ns h made c.1)

pub none_fails : (hash : Hasher) (mode : Mode) (apex : Name) (r : Option Rrset) (ks : List Link) (ls : List HashLink) (q : Name) → AreHashedBy mode ls → HaveHashes hash mode apex q → at_or_above apex q ≡ true → IfSome r (ExpandsInside apex q)
    → list_any (fails_among hash ls) (up_to (fails_among hash ls) (hashed apex (hash_among hash ls) (facts r ks ls) q)) ≡ false
none_fails hash mode apex r ks [] q h made i far = ap (λ ns. list_any (fails_among hash []) (up_to (fails_among hash []) ns)) (nothing_hashed apex (hash_among hash []) r ks q)
none_fails hash Nsec apex r ks (l ∷ ls) q h made i far = cc
none_fails hash (Nsec3 iterations salt optout) apex r ks (l ∷ ls) q h made i far =
    none_up_to (fails_among hash (l ∷ ls)) (hashed apex (hash_among hash (l ∷ ls)) (facts r ks (l ∷ ls)) q)
    (each_hashed hash iterations salt apex q l ls (hashed apex (hash_among hash (l ∷ ls)) (facts r ks (l ∷ ls)) q) h.0 made (hashed_concern apex q (hash_among hash (l ∷ ls)) r ks (l ∷ ls) i far))
