-- Chains whose records each lead to the next: which record speaks for a name or a hash, and that a zone's chains are such.
use Rattle.std.proofs.Common.{◌≡◌, ◌⊎◌, ℕ, zero, suc, ◌+◌, ◌-◌, ◌<◌, ◌≤◌, Bool, true, false, ◌||◌, ◌&&◌, not, List, [], ◌∷◌, Option, Some, None, inl, inr, refl, sym, ap, subst, ◌∙◌, length, get_or, arith}
use Rattle.std.specs.Prelude.{if◌then◌else◌, nat_lt}
use Rattle.std.specs.List.Sorted.{IsPartitionPoint, IsPartitionedBy}
use Rattle.std.specs.Str.{bytes_eq}
use Rattle.std.specs.Cmp.{IsTotalOrder}
use Rattle.std.specs.Cmp.Lexicographic.{bytes_decides}
use Rattle.std.specs.FinMap.{nat_cmp-IsAntisymmetric, slice_cmp-IsAntisymmetric}
use Rattle.std.specs.Ordering.{is_le, is_lt, ordering_reverse}
use Rattle.std.specs.declared.cmp.Ordering.{Ordering}
use Rattle.std.specs.declared.cmp.Ordering.TheVariants.{Less, Equal, Greater}
use Rattle.std.proofs.Math.Nat.{eq-or-lt_of_le}
use Rattle.std.proofs.lemmas.List.{get_or_default}
use Rattle.std.proofs.lemmas.Bool.{cases_order, eq-eqb, false≢true, false_from_ne_true, ne_eqb}
use Rattle.std.proofs.lemmas.Cmp.{nat_list_cmp_total, tied_itself}
use Rattle.definitions.specs.Covering.{covers, hash_covers, octets_before}
use Rattle.definitions.specs.Name.{Name, low, name_cmp, same}
use Rattle.definitions.specs.ZoneChain.{hash_cmp}
use Rattle.definitions.proofs.Members.{in_contained}
use Rattle.definitions.proofs.NameLaws.{name_cmp_total}
use Rattle.denial_laws.proofs.ChainBits.{all_at}
use Rattle.messages.proofs.ZoneNames.{name_cmp-low}
use Rattle.answer_terms.specs.HashedLinks.{HashedLink, hashed_link_at_or_around}
use Rattle.answer_terms.specs.Links.{ChainLink}
use Rattle.answer_zone_records.specs.ChainPlaces.{AreAt, is_among}
use Rattle.answer_zone_records.specs.Round.{Climbs, IsCircle, IsRound, Leads, LeadsRound, first_hash, is_hash_up_to, is_up_to, link_speaks_for}
use Rattle.answer_zone_records.proofs.ZoneLinks.{speaks_equal, speaks_greater, speaks_last, speaks_less}

-- ---- the place before a count

abbrev pub before_count : ℕ → Option ℕ
before_count k = if nat_lt 0 k then Some (k - 1) else None

among_one : (n j : ℕ) → n ≡ j → is_among (n ∷ []) j ≡ true
among_one n j e = ap (λ b. b || false) (eq-eqb j n (sym e))

among_other : (n j : ℕ) → (n ≡ j → ⊥) → is_among (n ∷ []) j ≡ false
among_other n j e = ap (λ b. b || false) (ne_eqb j n (λ h. e (sym h)))

-- ---- keys that ascend

le_cases : (o : Ordering) → is_le o ≡ true → (o ≡ Less) ⊎ (o ≡ Equal)
le_cases Less h = inl refl
le_cases Equal h = inr refl
le_cases Greater h = absurd (false≢true h)

not_le : (o : Ordering) → is_le o ≡ false → o ≡ Greater
not_le Less h = absurd (false≢true (sym h))
not_le Equal h = absurd (false≢true (sym h))
not_le Greater h = refl

module _ {A K : Type 0} (R : K → K → Ordering) (o : IsTotalOrder R) (key : A → K) where
  climbs_at : (xs : List A) → Climbs R key xs → (i j : ℕ) (x y : A) → i < j → j < length xs → x ≡ get_or xs i x → y ≡ get_or xs j y → R (key x) (key y) ≡ Less
  climbs_at [] c i j x y ij jl ex ey = absurd (omega arith)
  climbs_at (z ∷ xs) c i zero x y ij jl ex ey = absurd (omega arith)
  climbs_at (z ∷ xs) c zero (suc j) x y ij jl ex ey =
      subst (λ w. R (key w) (key y) ≡ Less) (sym ex) (all_at (λ y. R (key z) (key y) ≡ Less) xs y c.0 (in_contained xs y j (omega arith) (sym ey)))
  climbs_at (z ∷ xs) c (suc i) (suc j) x y ij jl ex ey = climbs_at xs c.1 i j x y (omega arith) (omega arith) ex ey

  flips : (a b : K) (r : Ordering) → R a b ≡ r → R b a ≡ ordering_reverse r
  flips a b r e = o.antisymm b a ∙ ap ordering_reverse e

  -- before a key that does not come behind another
  less_up_to : (a b q : K) → R a b ≡ Less → is_le (R b q) ≡ true → R a q ≡ Less
  less_up_to a b q l h = elim (le_cases (R b q) h) [
    | inl s ↦ o.trans a b q l s
    | inr e ↦ flips q a Greater (sym (o.congr b q a e) ∙ flips a b Less l)
  ]

  -- keys up to another stand in front
  pub up_to_partitioned : (xs : List A) (q : K) → Climbs R key xs → IsPartitionedBy (λ x. is_le (R (key x) q)) xs
  up_to_partitioned xs q c i j d ij jl b = elim (eq-or-lt_of_le ij) [
    | inl s ↦ subst (λ k. is_le (R (key (get_or xs k d)) q) ≡ true) (sym s) b
    | inr l ↦ ap is_le (less_up_to (key (get_or xs i d)) (key (get_or xs j d)) q
        (climbs_at xs c i j (get_or xs i d) (get_or xs j d) l jl (get_or_default xs i d (get_or xs i d) (omega arith)) (get_or_default xs j d (get_or xs j d) jl)) b)
  ]

-- ---- names

leads_at : (apex : Name) (ls : List ChainLink) → Leads apex ls → (j : ℕ) (l m : ChainLink) → j + 1 < length ls → l ≡ get_or ls j l → m ≡ get_or ls (j + 1) m → (low l.next ≡ low m.owner) × (same l.next apex ≡ false)
leads_at apex [] h j l m jl el em = absurd (omega arith)
leads_at apex (a ∷ []) h j l m jl el em = absurd (omega arith)
leads_at apex (a ∷ b ∷ ls) h zero l m jl el em =
    let here : m ≡ b = em in
    ((λ i. low (el i).next) ∙ h.0 ∙ (λ i. low (sym here i).owner), (λ i. same (el i).next apex) ∙ h.1)
leads_at apex (a ∷ b ∷ ls) h (suc j) l m jl el em =
    let place : suc j + 1 ≡ suc (j + 1) = omega arith in
    leads_at apex (b ∷ ls) h.2 j l m (omega arith) el (em ∙ ap (λ k. get_or (a ∷ b ∷ ls) k m) place)

leads_last : (apex : Name) (ls : List ChainLink) → Leads apex ls → (j : ℕ) (l : ChainLink) → j + 1 ≡ length ls → l ≡ get_or ls j l → same l.next apex ≡ true
leads_last apex [] h j l jl el = absurd (omega arith)
leads_last apex (a ∷ []) h zero l jl el = (λ i. same (el i).next apex) ∙ h
leads_last apex (a ∷ []) h (suc j) l jl el = absurd (omega arith)
leads_last apex (a ∷ b ∷ ls) h zero l jl el = absurd (omega arith)
leads_last apex (a ∷ b ∷ ls) h (suc j) l jl el = leads_last apex (b ∷ ls) h.2 j l (omega arith) el

-- a record with the next owner matches or covers what stands from it up to that owner, the last one what stands from it on
speaks_of : (apex q : Name) (l : ChainLink) → link_speaks_for apex q l ≡ (same l.owner q || covers (low apex) (low l.owner) (low l.next) (low q))
speaks_of apex q l = last (same l.owner q || covers (low apex) (low l.owner) (low l.next) (low q))
  where
    last : (b : Bool) → (b || false) ≡ b
    last true = refl
    last false = refl

speaks_up_to : (apex q : Name) (l m : ChainLink) → name_cmp l.owner m.owner ≡ Less → low l.next ≡ low m.owner → same l.next apex ≡ false → link_speaks_for apex q l ≡ (is_up_to q l && not (is_up_to q m))
speaks_up_to apex q l m lm next off = speaks_of apex q l ∙ go (name_cmp l.owner q) refl
  where
    ahead : name_cmp q l.next ≡ name_cmp q m.owner
    ahead = sym (name_cmp-low q l.next) ∙ ap (name_cmp (low q)) next ∙ name_cmp-low q m.owner

    behind_m : (o : Ordering) → name_cmp q m.owner ≡ o → is_lt o ≡ not (is_le (ordering_reverse o))
    behind_m Less e = refl
    behind_m Equal e = refl
    behind_m Greater e = refl

    turned : is_lt (name_cmp q l.next) ≡ not (is_up_to q m)
    turned = ap is_lt ahead ∙ behind_m (name_cmp q m.owner) refl ∙ ap (λ o. not (is_le o)) (sym (name_cmp_total.antisymm m.owner q))

    go : (o : Ordering) → name_cmp l.owner q ≡ o → (same l.owner q || covers (low apex) (low l.owner) (low l.next) (low q)) ≡ (is_le o && not (is_up_to q m))
    go Less e = sym (speaks_less apex l.owner l.next q e off) ∙ turned
    go Equal e =
        let before : name_cmp q m.owner ≡ Less = sym (name_cmp_total.congr l.owner q m.owner e) ∙ lm in
        sym (speaks_equal apex l.owner l.next q e) ∙ sym (ap (λ o. not (is_le o)) (name_cmp_total.antisymm m.owner q ∙ ap ordering_reverse before))
    go Greater e = sym (speaks_greater apex l.owner l.next q e)

speaks_from : (apex q : Name) (l : ChainLink) → same l.next apex ≡ true → link_speaks_for apex q l ≡ is_up_to q l
speaks_from apex q l on = speaks_of apex q l ∙ go (name_cmp l.owner q) refl
  where
    go : (o : Ordering) → name_cmp l.owner q ≡ o → (same l.owner q || covers (low apex) (low l.owner) (low l.next) (low q)) ≡ is_le o
    go Less e = sym (speaks_last apex l.owner l.next q e on)
    go Equal e = sym (speaks_equal apex l.owner l.next q e)
    go Greater e = sym (speaks_greater apex l.owner l.next q e)

module _ (apex q : Name) (ls : List ChainLink) (r : IsRound apex ls) (k : ℕ) (few : k ≤ length ls) (cut : IsPartitionPoint (λ l. is_up_to q l ≡ true) (λ l. is_up_to q l ≡ false) ls k) where
  up_to : (j : ℕ) (l : ChainLink) → l ≡ get_or ls j l → j < k → is_up_to q l ≡ true
  up_to j l el h = subst (λ (m : ChainLink). is_up_to q m ≡ true) (sym el) (cut.0 j l (omega arith) h)

  not_up_to : (j : ℕ) (l : ChainLink) → l ≡ get_or ls j l → k ≤ j → j < length ls → is_up_to q l ≡ false
  not_up_to j l el h jl = subst (λ (m : ChainLink). is_up_to q m ≡ false) (sym el) (cut.1 j l h jl)

  speaks_within : (j : ℕ) (l m : ChainLink) → j + 1 < length ls → l ≡ get_or ls j l → m ≡ get_or ls (j + 1) m → link_speaks_for apex q l ≡ (is_up_to q l && not (is_up_to q m))
  speaks_within j l m jl el em =
      let next = leads_at apex ls r.leads j l m jl el em in
      speaks_up_to apex q l m (climbs_at name_cmp name_cmp_total (λ (l : ChainLink). l.owner) ls r.climbing j (j + 1) l m (omega arith) jl el em) next.0 next.1

  -- of the record before the count alone
  speaks_there : (j : ℕ) (l : ChainLink) → j < length ls → l ≡ get_or ls j l → j + 1 ≡ k → link_speaks_for apex q l ≡ true
  speaks_there j l jl el e = elim (eq-or-lt_of_le (let h : j + 1 ≤ length ls = omega arith in h)) [
    | inl s ↦ speaks_from apex q l (leads_last apex ls r.leads j l s el) ∙ up_to j l el (omega (arith, e))
    | inr s ↦
        let m : ChainLink = get_or ls (j + 1) l in
        let em : m ≡ get_or ls (j + 1) m = get_or_default ls (j + 1) l m s in
        speaks_within j l m s el em ∙ (λ i. up_to j l el (omega (arith, e)) i && not (not_up_to (j + 1) m em (omega (arith, e)) s i))
  ]

  speaks_before : (j : ℕ) (l : ChainLink) → j < length ls → l ≡ get_or ls j l → j + 1 < k → link_speaks_for apex q l ≡ false
  speaks_before j l jl el h =
      let s : j + 1 < length ls = omega arith in
      let m : ChainLink = get_or ls (j + 1) l in
      let em : m ≡ get_or ls (j + 1) m = get_or_default ls (j + 1) l m s in
      speaks_within j l m s el em ∙ (λ i. up_to j l el (omega arith) i && not (up_to (j + 1) m em h i))

  speaks_behind : (j : ℕ) (l : ChainLink) → j < length ls → l ≡ get_or ls j l → k ≤ j → link_speaks_for apex q l ≡ false
  speaks_behind j l jl el h = elim (eq-or-lt_of_le (let h : j + 1 ≤ length ls = omega arith in h)) [
    | inl s ↦ speaks_from apex q l (leads_last apex ls r.leads j l s el) ∙ not_up_to j l el h jl
    | inr s ↦
        let m : ChainLink = get_or ls (j + 1) l in
        let em : m ≡ get_or ls (j + 1) m = get_or_default ls (j + 1) l m s in
        speaks_within j l m s el em ∙ ap (λ b. b && not (is_up_to q m)) (not_up_to j l el h jl)
  ]

  pub speaks_at_place : 0 < k → AreAt (link_speaks_for apex q) ls ((k - 1) ∷ [])
  speaks_at_place some j l jl el = elim (cases_order (j + 1) k) [
    | inl e ↦ speaks_there j l jl el e ∙ sym (among_one (k - 1) j (omega (arith, e)))
    | inr c ↦ elim c [
      | inl b ↦ speaks_before j l jl el b ∙ sym (among_other (k - 1) j (λ e. omega (arith, e)))
      | inr b ↦ speaks_behind j l jl el (omega arith) ∙ sym (among_other (k - 1) j (λ e. omega (arith, e)))
    ]
  ]

  pub speaks_nowhere : k ≡ 0 → AreAt (link_speaks_for apex q) ls []
  speaks_nowhere none j l jl el = speaks_behind j l jl el (omega (arith, none))

-- ---- hashes

hash_before : (a b : List ℕ) (o : Ordering) → hash_cmp a b ≡ o → octets_before a b ≡ is_lt o
hash_before a b o e = ap is_lt e

equal_hashes : (a b : List ℕ) → hash_cmp a b ≡ Equal → bytes_eq a b ≡ true
equal_hashes a b e = (bytes_decides a b).1 (slice_cmp-IsAntisymmetric nat_cmp-IsAntisymmetric a b e)

unlike_hashes : (a b : List ℕ) (o : Ordering) → (o ≡ Equal → ⊥) → hash_cmp a b ≡ o → bytes_eq a b ≡ false
unlike_hashes a b o n e = false_from_ne_true (bytes_eq a b) (λ h. n (sym e ∙ ap (hash_cmp a) (sym ((bytes_decides a b).0 h)) ∙ tied_itself nat_list_cmp_total a))

turned_hash : (a b : List ℕ) (o : Ordering) → hash_cmp a b ≡ o → hash_cmp b a ≡ ordering_reverse o
turned_hash a b o e = nat_list_cmp_total.antisymm b a ∙ ap ordering_reverse e

-- a record with a greater next hash, as a name's
around_up_to : (h : List ℕ) (l : HashedLink) → hash_cmp l.hash l.next ≡ Less → hashed_link_at_or_around l h ≡ (is_hash_up_to h l && not (is_le (hash_cmp l.next h)))
around_up_to h l lm = go (hash_cmp l.hash h) refl
  where
    plain : hash_covers l.hash l.next h ≡ (octets_before l.hash h && octets_before h l.next)
    plain = ap (λ b. (octets_before l.hash h && octets_before h l.next) || (not b && (octets_before l.hash h || octets_before h l.next))) (hash_before l.hash l.next Less lm) ∙ right (octets_before l.hash h && octets_before h l.next)
      where
        right : (b : Bool) → (b || false) ≡ b
        right true = refl
        right false = refl

    behind : (o : Ordering) → is_lt o ≡ not (is_le (ordering_reverse o))
    behind Less = refl
    behind Equal = refl
    behind Greater = refl

    ahead : octets_before h l.next ≡ not (is_le (hash_cmp l.next h))
    ahead = behind (hash_cmp h l.next) ∙ ap (λ o. not (is_le o)) (sym (nat_list_cmp_total.antisymm l.next h))

    go : (o : Ordering) → hash_cmp l.hash h ≡ o → hashed_link_at_or_around l h ≡ (is_le o && not (is_le (hash_cmp l.next h)))
    go Less e = (λ i. unlike_hashes l.hash h Less (λ x. cc) e i || plain i) ∙ ap (λ b. b && octets_before h l.next) (hash_before l.hash h Less e) ∙ ahead
    go Equal e =
        let before : hash_cmp h l.next ≡ Less = sym (nat_list_cmp_total.congr l.hash h l.next e) ∙ lm in
        ap (λ b. b || hash_covers l.hash l.next h) (equal_hashes l.hash h e) ∙ sym (ap (λ o. not (is_le o)) (turned_hash h l.next Less before))
    go Greater e = (λ i. unlike_hashes l.hash h Greater (λ x. cc) e i || plain i) ∙ ap (λ b. b && octets_before h l.next) (hash_before l.hash h Greater e)

-- the last record, whose next hash is not greater: what stands from its hash on, or before the next
around_last : (h : List ℕ) (l : HashedLink) → octets_before l.hash l.next ≡ false → hashed_link_at_or_around l h ≡ (is_hash_up_to h l || octets_before h l.next)
around_last h l not_less = go (hash_cmp l.hash h) refl
  where
    either : (a b : Bool) → ((a && b) || (a || b)) ≡ (a || b)
    either true true = refl
    either true false = refl
    either false b = refl

    plain : hash_covers l.hash l.next h ≡ (octets_before l.hash h || octets_before h l.next)
    plain = ap (λ b. (octets_before l.hash h && octets_before h l.next) || (not b && (octets_before l.hash h || octets_before h l.next))) not_less ∙ either (octets_before l.hash h) (octets_before h l.next)

    go : (o : Ordering) → hash_cmp l.hash h ≡ o → hashed_link_at_or_around l h ≡ (is_le o || octets_before h l.next)
    go Less e = (λ i. unlike_hashes l.hash h Less (λ x. cc) e i || plain i) ∙ ap (λ b. b || octets_before h l.next) (hash_before l.hash h Less e)
    go Equal e = ap (λ b. b || hash_covers l.hash l.next h) (equal_hashes l.hash h e)
    go Greater e = (λ i. unlike_hashes l.hash h Greater (λ x. cc) e i || plain i) ∙ ap (λ b. b || octets_before h l.next) (hash_before l.hash h Greater e)

round_at : (first : List ℕ) (ls : List HashedLink) → LeadsRound first ls → (j : ℕ) (l m : HashedLink) → j + 1 < length ls → l ≡ get_or ls j l → m ≡ get_or ls (j + 1) m → l.next ≡ m.hash
round_at first [] h j l m jl el em = absurd (omega arith)
round_at first (a ∷ []) h j l m jl el em = absurd (omega arith)
round_at first (a ∷ b ∷ ls) h zero l m jl el em =
    let here : m ≡ b = em in
    (λ i. (el i).next) ∙ h.0 ∙ (λ i. (sym here i).hash)
round_at first (a ∷ b ∷ ls) h (suc j) l m jl el em =
    let place : suc j + 1 ≡ suc (j + 1) = omega arith in
    round_at first (b ∷ ls) h.1 j l m (omega arith) el (em ∙ ap (λ k. get_or (a ∷ b ∷ ls) k m) place)

round_last : (first : List ℕ) (ls : List HashedLink) → LeadsRound first ls → (j : ℕ) (l : HashedLink) → j + 1 ≡ length ls → l ≡ get_or ls j l → l.next ≡ first
round_last first [] h j l jl el = absurd (omega arith)
round_last first (a ∷ []) h zero l jl el = (λ i. (el i).next) ∙ h
round_last first (a ∷ []) h (suc j) l jl el = absurd (omega arith)
round_last first (a ∷ b ∷ ls) h zero l jl el = absurd (omega arith)
round_last first (a ∷ b ∷ ls) h (suc j) l jl el = round_last first (b ∷ ls) h.1 j l (omega arith) el

module _ (h : List ℕ) (ls : List HashedLink) (r : IsCircle ls) (k : ℕ) (few : k ≤ length ls) (cut : IsPartitionPoint (λ l. is_hash_up_to h l ≡ true) (λ l. is_hash_up_to h l ≡ false) ls k) where
  hash_up_to : (j : ℕ) (l : HashedLink) → l ≡ get_or ls j l → j < k → is_hash_up_to h l ≡ true
  hash_up_to j l el s = subst (λ (m : HashedLink). is_hash_up_to h m ≡ true) (sym el) (cut.0 j l (omega arith) s)

  hash_not_up_to : (j : ℕ) (l : HashedLink) → l ≡ get_or ls j l → k ≤ j → j < length ls → is_hash_up_to h l ≡ false
  hash_not_up_to j l el s jl = subst (λ (m : HashedLink). is_hash_up_to h m ≡ false) (sym el) (cut.1 j l s jl)

  -- a record with a later one: what stands from it up to that one
  around_within : (j : ℕ) (l m : HashedLink) → j + 1 < length ls → l ≡ get_or ls j l → m ≡ get_or ls (j + 1) m → hashed_link_at_or_around l h ≡ (is_hash_up_to h l && not (is_hash_up_to h m))
  around_within j l m jl el em =
      let next : l.next ≡ m.hash = round_at (first_hash ls) ls r.leads j l m jl el em in
      let less : hash_cmp l.hash m.hash ≡ Less = climbs_at hash_cmp nat_list_cmp_total (λ (l : HashedLink). l.hash) ls r.ascending j (j + 1) l m (omega arith) jl el em in
      around_up_to h l (ap (hash_cmp l.hash) next ∙ less) ∙ ap (λ n. is_hash_up_to h l && not (is_le (hash_cmp n h))) next

  first_at : (f : HashedLink) → 0 < length ls → f ≡ get_or ls 0 f → first_hash ls ≡ f.hash
  first_at f some ef = go ls some ef
    where
      go : (ls : List HashedLink) → 0 < length ls → f ≡ get_or ls 0 f → first_hash ls ≡ f.hash
      go [] some ef = absurd (omega arith)
      go (a ∷ ls) some ef = λ i. (sym ef i).hash

  -- the last record: what stands from it on, or before the first
  around_end : (j : ℕ) (l f : HashedLink) → j + 1 ≡ length ls → l ≡ get_or ls j l → f ≡ get_or ls 0 f → hashed_link_at_or_around l h ≡ (is_hash_up_to h l || not (is_hash_up_to h f))
  around_end j l f jl el ef =
      let next : l.next ≡ f.hash = round_last (first_hash ls) ls r.leads j l jl el ∙ first_at f (omega (arith, jl)) ef in
      let not_less : octets_before l.hash l.next ≡ false = ap (octets_before l.hash) next ∙ not_before_first j l f jl el ef in
      let turned : (o : Ordering) → is_lt o ≡ not (is_le (ordering_reverse o)) = λ o. elim o as (λ o. is_lt o ≡ not (is_le (ordering_reverse o))) [ Less ↦ refl | Equal ↦ refl | Greater ↦ refl ] in
      around_last h l not_less
      ∙ ap (λ b. is_hash_up_to h l || b) (ap (octets_before h) next ∙ turned (hash_cmp h f.hash) ∙ ap (λ o. not (is_le o)) (sym (nat_list_cmp_total.antisymm f.hash h)))
    where
      not_before_first : (j : ℕ) (l f : HashedLink) → j + 1 ≡ length ls → l ≡ get_or ls j l → f ≡ get_or ls 0 f → octets_before l.hash f.hash ≡ false
      not_before_first zero l f jl el ef =
          let is : l ≡ f = el ∙ get_or_default ls 0 l f (omega (arith, jl)) ∙ sym ef in
          ap is_lt ((λ i. hash_cmp (is i).hash f.hash) ∙ tied_itself nat_list_cmp_total f.hash)
      not_before_first (suc j) l f jl el ef =
          let less : hash_cmp f.hash l.hash ≡ Less = climbs_at hash_cmp nat_list_cmp_total (λ (l : HashedLink). l.hash) ls r.ascending 0 (suc j) f l (omega arith) (omega (arith, jl)) ef el in
          ap is_lt (turned_hash f.hash l.hash Less less)

  first_up_to : (j : ℕ) (l f : HashedLink) → j < length ls → l ≡ get_or ls j l → f ≡ get_or ls 0 f → 0 < k → is_hash_up_to h f ≡ true
  first_up_to j l f jl el ef some = hash_up_to 0 f ef some

  pub around_at_place : 0 < k → AreAt (λ l. hashed_link_at_or_around l h) ls ((k - 1) ∷ [])
  around_at_place some j l jl el =
      let f : HashedLink = get_or ls 0 l in
      let ef : f ≡ get_or ls 0 f = get_or_default ls 0 l f (omega arith) in
      elim (eq-or-lt_of_le (let s : j + 1 ≤ length ls = omega arith in s)) [
        | inl s ↦
            let whole = around_end j l f s el ef ∙ ap (λ b. is_hash_up_to h l || not b) (hash_up_to 0 f ef some) ∙ right (is_hash_up_to h l) in
            elim (cases_order (j + 1) k) [
              | inl e ↦ whole ∙ hash_up_to j l el (omega (arith, e)) ∙ sym (among_one (k - 1) j (omega (arith, e)))
              | inr c ↦ elim c [
                | inl b ↦ absurd (omega (arith, s))
                | inr b ↦ whole ∙ hash_not_up_to j l el (omega arith) jl ∙ sym (among_other (k - 1) j (λ e. omega (arith, e)))
              ]
            ]
        | inr s ↦
            let m : HashedLink = get_or ls (j + 1) l in
            let em : m ≡ get_or ls (j + 1) m = get_or_default ls (j + 1) l m s in
            let whole = around_within j l m s el em in
            elim (cases_order (j + 1) k) [
              | inl e ↦ whole ∙ (λ i. hash_up_to j l el (omega (arith, e)) i && not (hash_not_up_to (j + 1) m em (omega (arith, e)) s i)) ∙ sym (among_one (k - 1) j (omega (arith, e)))
              | inr c ↦ elim c [
                | inl b ↦ whole ∙ (λ i. hash_up_to j l el (omega arith) i && not (hash_up_to (j + 1) m em b i)) ∙ sym (among_other (k - 1) j (λ e. omega (arith, e)))
                | inr b ↦ whole ∙ ap (λ b. b && not (is_hash_up_to h m)) (hash_not_up_to j l el (omega arith) jl) ∙ sym (among_other (k - 1) j (λ e. omega (arith, e)))
              ]
            ]
      ]
    where
      right : (b : Bool) → (b || false) ≡ b
      right true = refl
      right false = refl

  pub around_at_end : k ≡ 0 → 0 < length ls → AreAt (λ l. hashed_link_at_or_around l h) ls ((length ls - 1) ∷ [])
  around_at_end none some j l jl el =
      let f : HashedLink = get_or ls 0 l in
      let ef : f ≡ get_or ls 0 f = get_or_default ls 0 l f some in
      elim (eq-or-lt_of_le (let s : j + 1 ≤ length ls = omega arith in s)) [
        | inl s ↦
            around_end j l f s el ef
            ∙ (λ i. hash_not_up_to j l el (omega (arith, none)) jl i || not (hash_not_up_to 0 f ef (omega (arith, none)) some i))
            ∙ sym (among_one (length ls - 1) j (omega (arith, s)))
        | inr s ↦
            let m : HashedLink = get_or ls (j + 1) l in
            let em : m ≡ get_or ls (j + 1) m = get_or_default ls (j + 1) l m s in
            around_within j l m s el em ∙ ap (λ b. b && not (is_hash_up_to h m)) (hash_not_up_to j l el (omega (arith, none)) jl) ∙ sym (among_other (length ls - 1) j (λ e. omega (arith, e)))
      ]

  pub around_nowhere : length ls ≡ 0 → AreAt (λ l. hashed_link_at_or_around l h) ls []
  around_nowhere none j l jl el = absurd (omega (arith, none))
