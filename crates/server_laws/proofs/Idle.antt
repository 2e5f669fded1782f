-- Records that tell nothing of a question: with them a message tells what it tells without them.
use Rattle.std.proofs.Common.{◌≡◌, ◌⊎◌, ℕ, Bool, true, false, ◌&&◌, ◌||◌, List, [], ◌∷◌, ◌++◌, length, Option, Some, None, eqb, inl, inr, refl, sym, ap, ◌∙◌, ⊎_elim}
use Rattle.std.specs.List.{AllByRecursion, cons_option, filter_map, list_any}
use Rattle.std.specs.Option.{option_map}
use Rattle.std.proofs.lemmas.Bool.{and_parts, eq-eqb, eqb-true, or_cases, true≢false}
use Rattle.definitions.specs.Name.{Name, at_or_above, low, same}
use Rattle.definitions.specs.Signing.{Fields}
use Rattle.definitions.specs.Zone.{sorted_data}
use Rattle.denial_laws.specs.Facts.{HashLink, Link}
use Rattle.denial_laws.specs.NsecRules.{first_some}
use Rattle.messages.specs.Message.{Spelled, canonical_data, nsec3_at, rrsig_at}
use Rattle.messages.proofs.Lists.{all_more}
use Rattle.messages.proofs.ZoneNames.{labels_eq-same, same_labels}
use Rattle.answer_terms.specs.HashOwner.{spells_hash}
use Rattle.answer_judge_keys.specs.Trusted.{signs}
use Rattle.answer_judge_facts.specs.Sought.{answer_sought}
use Rattle.answer_judge_facts.specs.Times.{Times, proof_times, times_at, times_of}
use Rattle.answer_judge_facts.specs.Verified.{Trusting, datum_of, hash_link_at, hash_link_with, is_verified, link_at, link_of, one_known, rrset_in, verified_by, verified_facts, verified_hash_links, verified_links, verified_rrset, verified_with, verifies_with}

-- ---- lists

none_before : {A B : Type 0} (f : A → Option B) (xs ys : List A) → AllByRecursion (λ x. f x ≡ None) xs → filter_map f (xs ++ ys) ≡ filter_map f ys
none_before f [] ys h = refl
none_before f (x ∷ xs) ys h = ap (λ o. cons_option o (filter_map f (xs ++ ys))) h.0 ∙ none_before f xs ys h.1

no_first_before : {A B : Type 0} (f : A → Option B) (xs ys : List A) → AllByRecursion (λ x. f x ≡ None) xs → first_some f (xs ++ ys) ≡ first_some f ys
no_first_before {A} {B} f [] ys h = refl
no_first_before {A} {B} f (x ∷ xs) ys h = ap (λ o. elim o as (λ _. Option B) [ None ↦ first_some f (xs ++ ys) | Some y ↦ Some y ]) h.0 ∙ no_first_before f xs ys h.1

no_any_before : {A : Type 0} (f : A → Bool) (xs ys : List A) → AllByRecursion (λ x. f x ≡ false) xs → list_any f (xs ++ ys) ≡ list_any f ys
no_any_before f [] ys h = refl
no_any_before f (x ∷ xs) ys h = ap (λ b. b || list_any f (xs ++ ys)) h.0 ∙ no_any_before f xs ys h.1

mapped_each : {A B : Type 0} (f g : A → Option B) (xs : List A) → ((x : A) → f x ≡ g x) → filter_map f xs ≡ filter_map g xs
mapped_each f g [] same = refl
mapped_each f g (x ∷ xs) same = λ i. cons_option (same x i) (mapped_each f g xs same i)

-- ---- tests

unlike_within : (c a b : Bool) → (a && b) ≡ false → ((c && a) && b) ≡ false
unlike_within true a b e = e
unlike_within false a b e = refl

first_fails : (b : Bool) → (b && true) ≡ false → b ≡ false
first_fails true e = e
first_fails false e = refl

same_itself : (n : Name) → same n n ≡ true
same_itself n = labels_eq-same (low n) (low n) refl

-- ---- questions

-- a judge that is asked for a name and a type looks at RRsets of the chains, and at the one that is asked for
abbrev pub LooksAt : Name → ℕ → Name → ℕ → Type 0
LooksAt q t o u = (u ≡ 47) ⊎ ((u ≡ 50) ⊎ ((t ≡ u) × (low o ≡ low q)))

-- a signature of other RRsets
pub record SignsElsewhere (k : ℕ) (m : List ℕ) (r : Spelled) (o : Name) (u : ℕ) : Type 0 where
  pub said : Fields × List ℕ
  pub reads : rrsig_at k m r ≡ Some said
  pub other : (eqb said.0.covered u && same r.owner o) ≡ false

-- a record of none of these RRsets, and a signature of none of them
pub record IsIdle (k : ℕ) (m : List ℕ) (q : Name) (t : ℕ) (r : Spelled) : Type 0 where
  pub unlike : (o : Name) (u : ℕ) → LooksAt q t o u → (eqb r.rtype u && same r.owner o) ≡ false
  pub signs : (o : Name) (u : ℕ) → LooksAt q t o u → r.rtype ≡ 46 → SignsElsewhere k m r o u

module _ (w : Trusting) (k : ℕ) (m : List ℕ) (q : Name) (t : ℕ) where
  abbrev AllIdle : List Spelled → Type 0
  AllIdle xs = AllByRecursion (IsIdle k m q t) xs

  -- ---- one record

  no_datum : (o : Name) (u : ℕ) → LooksAt q t o u → (r : Spelled) → IsIdle k m q t r → datum_of k m o u r ≡ None
  no_datum o u looks r h =
      ap (λ b. elim b as (λ _. Option (List ℕ)) [ true ↦ canonical_data k m r | false ↦ None ])
      (unlike_within (eqb r.class 1) (eqb r.rtype u) (same r.owner o) (h.unlike o u looks))

  -- what is made of a signature, by whether it is one of the owner
  abbrev when_owned : Name → ℕ → List (List ℕ) → Spelled → Bool → Bool
  when_owned o u items r b = elim b [
    | false ↦ false
    | true ↦ elim (rrsig_at k m r) [ None ↦ false | Some f ↦ eqb f.0.covered u && signs w.answers w.apex w.keys w.now o items f.0 f.1 ]
  ]

  elsewhere : (o : Name) (u : ℕ) (items : List (List ℕ)) (r : Spelled) → SignsElsewhere k m r o u → (c b : Bool) → same r.owner o ≡ b → when_owned o u items r (c && b) ≡ false
  elsewhere o u items r e false b at = refl
  elsewhere o u items r e true false at = refl
  elsewhere o u items r e true true at =
      let other : eqb e.said.0.covered u ≡ false = first_fails (eqb e.said.0.covered u) (ap (λ b. eqb e.said.0.covered u && b) (sym at) ∙ e.other) in
      ap (λ f. elim f as (λ _. Bool) [ None ↦ false | Some f ↦ eqb f.0.covered u && signs w.answers w.apex w.keys w.now o items f.0 f.1 ]) e.reads
      ∙ ap (λ b. b && signs w.answers w.apex w.keys w.now o items e.said.0 e.said.1) other

  no_signature : (o : Name) (u : ℕ) (items : List (List ℕ)) → LooksAt q t o u → (r : Spelled) → IsIdle k m q t r → verifies_with w k m o u items r ≡ false
  no_signature o u items looks r h = go (eqb r.rtype 46) refl
    where
      go : (b : Bool) → eqb r.rtype 46 ≡ b → verifies_with w k m o u items r ≡ false
      go false e = ap (λ b. when_owned o u items r (b && eqb r.class 1 && same r.owner o)) e
      go true e =
          ap (λ b. when_owned o u items r (b && eqb r.class 1 && same r.owner o)) e
          ∙ elsewhere o u items r (h.signs o u looks (eqb-true r.rtype 46 e)) (eqb r.class 1) (same r.owner o) refl

  no_verified : (o : Name) (u : ℕ) (items : List (List ℕ)) → LooksAt q t o u → (r : Spelled) → IsIdle k m q t r → verified_with w k m o u items r ≡ None
  no_verified o u items looks r h =
      ap (λ b. elim b as (λ _. Option Fields) [ true ↦ option_map (λ f. f.0) (rrsig_at k m r) | false ↦ None ]) (no_signature o u items looks r h)

  -- it is of no type that is looked at under its owner
  not_of : (u : ℕ) (r : Spelled) → IsIdle k m q t r → LooksAt q t r.owner u → eqb r.rtype u ≡ false
  not_of u r h looks = first_fails (eqb r.rtype u) (ap (λ b. eqb r.rtype u && b) (sym (same_itself r.owner)) ∙ h.unlike r.owner u looks)

  -- ---- the records of a message, such records first

  module _ (xs ys : List Spelled) (idle : AllIdle xs) where
    items_same : (o : Name) (u : ℕ) → LooksAt q t o u → rrset_in k m (xs ++ ys) o u ≡ rrset_in k m ys o u
    items_same o u looks =
        ap sorted_data (none_before (datum_of k m o u) xs ys (all_more (IsIdle k m q t) (λ r. datum_of k m o u r ≡ None) xs (no_datum o u looks) idle))

    verified_same : (o : Name) (u : ℕ) → LooksAt q t o u → is_verified w k m (xs ++ ys) o u (rrset_in k m (xs ++ ys) o u) ≡ is_verified w k m ys o u (rrset_in k m ys o u)
    verified_same o u looks =
        let items = rrset_in k m (xs ++ ys) o u in
        no_any_before (verifies_with w k m o u items) xs ys (all_more (IsIdle k m q t) (λ r. verifies_with w k m o u items r ≡ false) xs (no_signature o u items looks) idle)
        ∙ ap (is_verified w k m ys o u) (items_same o u looks)

    fields_same : (o : Name) (u : ℕ) → LooksAt q t o u → verified_by w k m (xs ++ ys) o u (rrset_in k m (xs ++ ys) o u) ≡ verified_by w k m ys o u (rrset_in k m ys o u)
    fields_same o u looks =
        let items = rrset_in k m (xs ++ ys) o u in
        no_first_before (verified_with w k m o u items) xs ys (all_more (IsIdle k m q t) (λ r. verified_with w k m o u items r ≡ None) xs (no_verified o u items looks) idle)
        ∙ ap (verified_by w k m ys o u) (items_same o u looks)

    -- ---- links

    link_same : (r : Spelled) → link_at w k m (xs ++ ys) r ≡ link_at w k m ys r
    link_same r =
        let items = items_same r.owner 47 (inl refl) in
        let verified = verified_same r.owner 47 (inl refl) in
        λ i. elim (eqb r.rtype 47 && eqb r.class 1 && at_or_above w.apex r.owner && eqb (length (items i)) 1 && verified i) as (λ _. Option Link) [ true ↦ link_of k m r | false ↦ None ]

    no_link : (r : Spelled) → IsIdle k m q t r → link_at w k m ys r ≡ None
    no_link r h =
        ap (λ b. elim (b && eqb r.class 1 && at_or_above w.apex r.owner && eqb (length (rrset_in k m ys r.owner 47)) 1 && is_verified w k m ys r.owner 47 (rrset_in k m ys r.owner 47)) as (λ _. Option Link) [ true ↦ link_of k m r | false ↦ None ])
        (not_of 47 r h (inl refl))

    hash_link_same : (r : Spelled) → hash_link_at w k m (xs ++ ys) r ≡ hash_link_at w k m ys r
    hash_link_same r =
        let items = items_same r.owner 50 (inr (inl refl)) in
        let verified = verified_same r.owner 50 (inr (inl refl)) in
        λ i. elim (eqb r.rtype 50 && eqb r.class 1 && (spells_hash w.apex r.owner && one_known (items i)) && verified i) as (λ _. Option HashLink) [ true ↦ option_map (hash_link_with r.owner) (nsec3_at m r) | false ↦ None ]

    no_hash_link : (r : Spelled) → IsIdle k m q t r → hash_link_at w k m ys r ≡ None
    no_hash_link r h =
        ap (λ b. elim (b && eqb r.class 1 && (spells_hash w.apex r.owner && one_known (rrset_in k m ys r.owner 50)) && is_verified w k m ys r.owner 50 (rrset_in k m ys r.owner 50)) as (λ _. Option HashLink) [ true ↦ option_map (hash_link_with r.owner) (nsec3_at m r) | false ↦ None ])
        (not_of 50 r h (inr (inl refl)))

    -- ---- facts

    asked_itself : LooksAt q t q t
    asked_itself = inr (inr (refl, refl))

    rrset_same : verified_rrset w k m (xs ++ ys) q t ≡ verified_rrset w k m ys q t
    rrset_same = λ i. option_map (λ (f : Fields). record { datas = items_same q t asked_itself i; labels = f.labels }) (fields_same q t asked_itself i)

    links_same : verified_links w k m (xs ++ ys) ≡ verified_links w k m ys
    links_same =
        mapped_each (link_at w k m (xs ++ ys)) (link_at w k m ys) (xs ++ ys) link_same
        ∙ none_before (link_at w k m ys) xs ys (all_more (IsIdle k m q t) (λ r. link_at w k m ys r ≡ None) xs no_link idle)

    hash_links_same : verified_hash_links w k m (xs ++ ys) ≡ verified_hash_links w k m ys
    hash_links_same =
        mapped_each (hash_link_at w k m (xs ++ ys)) (hash_link_at w k m ys) (xs ++ ys) hash_link_same
        ∙ none_before (hash_link_at w k m ys) xs ys (all_more (IsIdle k m q t) (λ r. hash_link_at w k m ys r ≡ None) xs no_hash_link idle)

    pub facts_same : verified_facts w k m (xs ++ ys) q t ≡ verified_facts w k m ys q t
    facts_same = λ i. record { rrset = rrset_same i; links = links_same i; hash_links = hash_links_same i }

    -- ---- times of signatures

    abbrev is_sought : List Spelled → Name → ℕ → Bool
    is_sought rs o u = (answer_sought k m w.apex rs q t).is o u

    sought_same : (o : Name) (u : ℕ) → is_sought (xs ++ ys) o u ≡ is_sought ys o u
    sought_same o u =
        let nsec = items_same o 47 (inl refl) in
        let nsec3 = items_same o 50 (inr (inl refl)) in
        λ i. (eqb 47 u && (at_or_above w.apex o && eqb (length (nsec i)) 1)) || (eqb 50 u && (spells_hash w.apex o && one_known (nsec3 i))) || (eqb t u && same o q)

    looked_at : (o : Name) (u : ℕ) → is_sought ys o u ≡ true → LooksAt q t o u
    looked_at o u e = ⊎_elim
        (λ chain. ⊎_elim
        (λ nsec. inl (sym (eqb-true 47 u (and_parts (eqb 47 u) _ nsec).0)))
        (λ nsec3. inr (inl (sym (eqb-true 50 u (and_parts (eqb 50 u) _ nsec3).0))))
        (or_cases (eqb 47 u && (at_or_above w.apex o && eqb (length (rrset_in k m ys o 47)) 1)) _ chain))
        (λ asked.
        let both = and_parts (eqb t u) (same o q) asked in
        inr (inr (eqb-true t u both.0, same_labels (low o) (low q) both.1)))
        (or_cases ((eqb 47 u && (at_or_above w.apex o && eqb (length (rrset_in k m ys o 47)) 1)) || (eqb 50 u && (spells_hash w.apex o && one_known (rrset_in k m ys o 50)))) _ e)

    abbrev times_when : Bool → Option Times → Option Times
    times_when b o = elim b [ true ↦ o | false ↦ None ]

    abbrev times_there : List Spelled → Spelled → Option Times
    times_there rs r = option_map times_of (verified_by w k m rs r.owner r.rtype (rrset_in k m rs r.owner r.rtype))

    unsought : (c : Bool) (o : Option Times) → times_when (c && false) o ≡ None
    unsought true o = refl
    unsought false o = refl

    times_same : (r : Spelled) → times_at w k m (xs ++ ys) q t r ≡ times_at w k m ys q t r
    times_same r = go (is_sought ys r.owner r.rtype) refl
      where
        go : (b : Bool) → is_sought ys r.owner r.rtype ≡ b → times_at w k m (xs ++ ys) q t r ≡ times_at w k m ys q t r
        go true e =
            let there = fields_same r.owner r.rtype (looked_at r.owner r.rtype e) in
            λ i. times_when (eqb r.class 1 && sought_same r.owner r.rtype i) (option_map times_of (there i))
        go false e =
            ap (λ b. times_when (eqb r.class 1 && b) (times_there (xs ++ ys) r)) (sought_same r.owner r.rtype ∙ e)
            ∙ unsought (eqb r.class 1) (times_there (xs ++ ys) r)
            ∙ sym (unsought (eqb r.class 1) (times_there ys r))
            ∙ sym (ap (λ b. times_when (eqb r.class 1 && b) (times_there ys r)) e)

    no_times : (r : Spelled) → IsIdle k m q t r → times_at w k m ys q t r ≡ None
    no_times r h = go (is_sought ys r.owner r.rtype) refl
      where
        go : (b : Bool) → is_sought ys r.owner r.rtype ≡ b → times_at w k m ys q t r ≡ None
        go true e = absurd (true≢false (sym (eq-eqb r.rtype r.rtype refl) ∙ not_of r.rtype r h (looked_at r.owner r.rtype e)))
        go false e = ap (λ b. times_when (eqb r.class 1 && b) (times_there ys r)) e ∙ unsought (eqb r.class 1) (times_there ys r)

    pub proof_times_same : proof_times w k m (xs ++ ys) q t ≡ proof_times w k m ys q t
    proof_times_same =
        mapped_each (times_at w k m (xs ++ ys) q t) (times_at w k m ys q t) (xs ++ ys) times_same
        ∙ none_before (times_at w k m ys q t) xs ys (all_more (IsIdle k m q t) (λ r. times_at w k m ys q t r ≡ None) xs no_times idle)
