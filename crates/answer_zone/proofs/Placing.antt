-- What the place of a name in canonical order tells: what it owns, whether it exists, and the delegation above it.
use Rattle.std.proofs.Common.{◌≡◌, ◌⊎◌, ℕ, ◌≤◌, Bool, true, false, ◌&&◌, ◌||◌, not, List, [], ◌∷◌, filter, length, cond, Option, Some, None, inl, inr, refl, sym, ap, ◌∙◌, eqb, arith}
use Rattle.std.specs.Prelude.{IfSome, IsNone, if◌then◌else◌}
use Rattle.std.specs.Iterator.{YieldsFirst}
use Rattle.std.specs.List.{AllByRecursion, list_any, slice_get}
use Rattle.std.specs.Option.{is_none, is_some, option_map}
use Rattle.std.proofs.lemmas.Bool.{and_parts, and_from, false≢true, false_from_ne_true}
use Rattle.definitions.specs.Name.{Name, at_or_above, labels_eq, low, same, strictly_above}
use Rattle.definitions.specs.Zone.{Zone, apex_of, cut, cut_above, exists, has, is_delegation, kept}
use Rattle.definitions.proofs.Members.{any_in, any_of}
use Rattle.definitions.proofs.NameLaws.{labels_decide}
use Rattle.definitions.proofs.ZoneNames.{above_itself, above_longer, lowered_above}
use Rattle.denial_laws.specs.OwnFacts.{kept_ancestor}
use Rattle.denial_laws.proofs.NameFacts.{above-low, above_trans, names_same, same_above, same_names, strictly_above_at, strictly_at}
use Rattle.denial_laws.proofs.ZoneCuts.{IsCut, NoneStrictlyAbove, cut_is, tail_low, uncut, uncut_from}
use Rattle.names_labels.specs.Suffixes.{suffixes}
use Rattle.messages.specs.HandedRr.{HandedRr}
use Rattle.answer_terms.specs.Accepting.{zone_with}
use Rattle.answer_terms.specs.ZoneView.{is_of}
use Rattle.answer_terms.proofs.ZoneServed.{has_is}
use Rattle.answer_zone_records.specs.OwnedRecords.{is_of_type, owned_by}
use Rattle.answer_zone_records.specs.declared.owned.Cut.{Cut}
use Rattle.answer_zone_records.proofs.OwnedFacts.{all_owned, any_owned}
use Rattle.answer_zone.specs.Cuts.{NoneRefers, Refers, is_parents}
use Rattle.answer_zone.specs.Placed.{IsCutRecords}
use Rattle.answer_zone.proofs.Cuts.{any_owner, exists_uncut}

-- ---- what a name owns

pub has_owned : (apex : Name) (rs : List HandedRr) (q : Name) (t : ℕ) → list_any (is_of_type t) (owned_by q rs) ≡ has (zone_with apex rs) (low q) t
has_owned apex rs q t = any_owned q t rs ∙ sym (has_is apex rs q t)

pub owned_alike : (a b : Name) (rs : List HandedRr) → low a ≡ low b → owned_by a rs ≡ owned_by b rs
owned_alike a b rs e = λ i. filter (λ (r : HandedRr). labels_eq (low r.owner) (e i)) rs

first_owner : (q n : Name) (os : List HandedRr) → AllByRecursion (λ r. same r.owner q ≡ true) os → Some n ≡ option_map (λ (r : HandedRr). r.owner) (slice_get os 0) → low n ≡ low q
first_owner q n [] h e = cc
first_owner q n (r ∷ os) h e = let is : n ≡ r.owner = cc in ap low is ∙ same_names r.owner q h.0

-- a delegation that was found by what a name owns
pub cut_owned : (rs : List HandedRr) (q : Name) (c : Cut) → c.owned ≡ owned_by q rs → Some c.name.now ≡ option_map (λ (r : HandedRr). r.owner) (slice_get (owned_by q rs) 0) → (low c.name.now ≡ low q) × IsCutRecords rs c
cut_owned rs q c is first =
    let name = first_owner q c.name.now (owned_by q rs) (all_owned q rs) first in
    (name, is ∙ owned_alike q c.name.now rs (sym name))

-- a name that no owner is at or below owns nothing
pub nothing_owned : (apex : Name) (rs : List HandedRr) (q : Name) (t : ℕ) → list_any (λ r. at_or_above q r.owner) rs ≡ false → has (zone_with apex rs) (low q) t ≡ false
nothing_owned apex rs q t none = has_is apex rs q t ∙ false_from_ne_true (list_any (is_of q t) rs) (λ h.
    let r = any_of (is_of q t) rs h in
    let s = and_parts (same r.0.owner q) (eqb r.0.rtype t) r.1.1 in
    false≢true (sym none ∙ any_in (λ (r : HandedRr). at_or_above q r.owner) rs r.0 r.1.0 (same_above q r.0.owner (names_same q r.0.owner (sym (same_names r.0.owner q s.0))))))

-- what a name owns is at or below it
pub owned_below : (q : Name) (rs : List HandedRr) → (owned_by q rs ≡ [] → ⊥) → list_any (λ r. at_or_above q r.owner) rs ≡ true
owned_below q [] f = absurd (f refl)
owned_below q (r ∷ rs) f = go (same r.owner q) refl f (owned_below q rs)
  where
    go : (b : Bool) → same r.owner q ≡ b → (cond b (r ∷ owned_by q rs) (owned_by q rs) ≡ [] → ⊥) → ((owned_by q rs ≡ [] → ⊥) → list_any (λ (r : HandedRr). at_or_above q r.owner) rs ≡ true) → (at_or_above q r.owner || list_any (λ (r : HandedRr). at_or_above q r.owner) rs) ≡ true
    go true e f later = ap (λ b. b || list_any (λ (r : HandedRr). at_or_above q r.owner) rs) (same_above q r.owner (names_same q r.owner (sym (same_names r.owner q e))))
    go false e f later = ap (λ b. at_or_above q r.owner || b) (later f) ∙ right (at_or_above q r.owner)
      where
        right : (b : Bool) → (b || true) ≡ true
        right true = refl
        right false = refl

-- ---- the delegation above a name

-- at or above a name by what is strictly above it
pub cut_from_above : (z : Zone) (q : Name) → cut z q ≡ elim (cut_above z q) as (λ _. Option Name) [ None ↦ (if is_delegation z q then Some q else None) | Some c ↦ Some c ]
cut_from_above z [] = sym (ap (λ b. if b then Some [] else None) (none (has z [] 2)))
  where
    none : (b : Bool) → (b && false) ≡ false
    none true = refl
    none false = refl
cut_from_above z (l ∷ q) = refl

pub none_strictly : (z : Zone) (q : Name) → low q ≡ q → cut_above z q ≡ None → NoneStrictlyAbove z q
none_strictly z [] lq e d h s = false≢true s
none_strictly z (l ∷ q) lq e d h s = uncut z q (tail_low l q lq) e d h s

-- no delegation is strictly above what is at or above a name that none is strictly above
pub none_further : (z : Zone) (p q : Name) → NoneStrictlyAbove z q → at_or_above p q ≡ true → NoneStrictlyAbove z p
none_further z p q n a d h s = n d h (strictly_above_at d p q s a)

-- a name with no delegation strictly above it exists where an owner is at or below it
pub exists_here : (apex : Name) (rs : List HandedRr) (q : Name) → NoneStrictlyAbove (zone_with apex rs) (low q) → exists (zone_with apex rs) (low q) ≡ (at_or_above apex q && list_any (λ r. at_or_above q r.owner) rs)
exists_here apex rs q n = exists_uncut (zone_with apex rs) (low q) n ∙ (λ i. above-low apex q i && any_owner q rs i)

-- outside the zone no delegation is at or above a name
pub uncut_outside : (z : Zone) (q : Name) → low q ≡ q → strictly_above (apex_of z) q ≡ false → cut z q ≡ None
uncut_outside z q lq out = uncut_from z q lq (λ d h a. false≢true (sym out ∙ strictly_above_at (apex_of z) d q (and_parts (has z d 2) (strictly_above (apex_of z) d) h).1 a))

-- ---- sought from the name upwards

-- the delegation found so far
abbrev pub found : Option Cut → Option Name
found None = None
found (Some c) = Some (low c.name.now)

-- the topmost delegation at or above the first name that is left, or else the one found
abbrev pub left_cut : Zone → Option Name → List Name → Option Name
left_cut z best [] = best
left_cut z best (s ∷ ss) = elim (cut z (low s)) [ None ↦ best | Some c ↦ Some c ]

-- what is left are a name above the one sought and its ancestors, or nothing
abbrev pub AreLeft : Name → List Name → Type 0
AreLeft q ss = (ss ≡ []) ⊎ ((s : Name) × (ss ≡ suffixes s) × (at_or_above s q ≡ true))

-- the ancestors of a name, and its first
abbrev pub behind_first : Name → List Name
behind_first [] = []
behind_first (l ∷ q) = suffixes q

pub suffixes_are : (s : Name) → suffixes s ≡ s ∷ behind_first s
suffixes_are [] = refl
suffixes_are (l ∷ q) = refl

none_twice : (o : Option Name) → elim o as (λ _. Option Name) [ None ↦ None | Some c ↦ Some c ] ≡ o
none_twice None = refl
none_twice (Some c) = refl

left_of : (z : Zone) (best : Option Name) (q : Name) → left_cut z best (suffixes q) ≡ elim (cut z (low q)) as (λ _. Option Name) [ None ↦ best | Some c ↦ Some c ]
left_of z best [] = refl
left_of z best (l ∷ q) = refl

pub left_at_first : (z : Zone) (q : Name) → cut_above z (low q) ≡ left_cut z None (behind_first q)
left_at_first z [] = refl
left_at_first z (l ∷ q) = sym (left_of z None q ∙ none_twice (cut z (low q)))

pub left_below : (q s : Name) → at_or_above s q ≡ true → AreLeft q (behind_first s)
left_below q [] a = inl refl
left_below q (l ∷ s) a = inr (s, refl, above_trans s (l ∷ s) q (strictly_at s (l ∷ s) (above_itself s)) a)

-- one name further up: a delegation takes the place of the one found, any other name leaves it
step_by : (o best here : Option Name) → elim (elim o as (λ _. Option Name) [ None ↦ here | Some c ↦ Some c ]) as (λ _. Option Name) [ None ↦ best | Some c ↦ Some c ] ≡ elim o as (λ _. Option Name) [ None ↦ elim here as (λ _. Option Name) [ None ↦ best | Some c ↦ Some c ] | Some c ↦ Some c ]
step_by None best here = refl
step_by (Some c) best here = refl

pub left_passes : (z : Zone) (best : Option Name) (s : Name) → is_delegation z (low s) ≡ false → left_cut z best (suffixes s) ≡ left_cut z best (behind_first s)
left_passes z best [] d = refl
left_passes z best (l ∷ s) d =
    ap (λ b. elim (elim (cut z (low s)) as (λ _. Option Name) [ None ↦ (if b then Some (low (l ∷ s)) else None) | Some c ↦ Some c ]) as (λ _. Option Name) [ None ↦ best | Some c ↦ Some c ]) d
    ∙ step_by (cut z (low s)) best None ∙ sym (left_of z best s)

pub left_takes : (z : Zone) (best : Option Name) (s : Name) → is_delegation z (low s) ≡ true → left_cut z best (suffixes s) ≡ left_cut z (Some (low s)) (behind_first s)
left_takes z best [] d = absurd (false≢true (sym (none (has z [] 2)) ∙ d))
  where
    none : (b : Bool) → (b && false) ≡ false
    none true = refl
    none false = refl
left_takes z best (l ∷ s) d =
    ap (λ b. elim (elim (cut z (low s)) as (λ _. Option Name) [ None ↦ (if b then Some (low (l ∷ s)) else None) | Some c ↦ Some c ]) as (λ _. Option Name) [ None ↦ best | Some c ↦ Some c ]) d
    ∙ step_by (cut z (low s)) best (Some (low (l ∷ s))) ∙ sym (left_of z (Some (low (l ∷ s))) s)

pub left_stops : (z : Zone) (best : Option Name) (s : Name) → cut z (low s) ≡ None → left_cut z best (suffixes s) ≡ best
left_stops z best s e = left_of z best s ∙ ap (λ o. elim o as (λ _. Option Name) [ None ↦ best | Some c ↦ Some c ]) e

-- a delegation strictly above a name is not the name
pub cut_unlike : (z : Zone) (q c : Name) → low q ≡ q → cut_above z q ≡ Some c → labels_eq c q ≡ false
cut_unlike z [] c lq e = cc
cut_unlike z (l ∷ q) c lq e =
    let k : IsCut z q c = cut_is z q c (tail_low l q lq) e in
    let shorter : length c ≤ length q = above_longer c q k.above in
    false_from_ne_true (labels_eq c (l ∷ q)) (λ s. let same : length c ≡ length (l ∷ q) = ap length ((labels_decide c (l ∷ q)).0 s) in omega arith)

-- ---- where a question is answered

module _ (z : Zone) (q : Name) (lq : low q ≡ q) (t : ℕ) where
  abbrev by_above : Option Name → Option Name
  by_above o = elim o [ None ↦ (if is_delegation z q then Some q else None) | Some c ↦ Some c ]

  -- a delegation strictly above the name
  pub refers_above : (c : Name) → cut_above z q ≡ Some c → Refers z q t c
  refers_above c e = record { topmost = cut_from_above z q ∙ ap by_above e; away = ap (λ b. b && eqb t 43) (cut_unlike z q c lq e) }

  pub cut_here : cut_above z q ≡ None → (b : Bool) → is_delegation z q ≡ b → cut z q ≡ (if b then Some q else None)
  cut_here e b d = cut_from_above z q ∙ ap by_above e ∙ ap (λ b. if b then Some q else None) d

  pub refers_here : cut_above z q ≡ None → is_delegation z q ≡ true → eqb t 43 ≡ false → Refers z q t q
  refers_here e d n = record { topmost = cut_here e true d; away = (λ i. labels_eq q q && n i) ∙ right (labels_eq q q) }
    where
      right : (b : Bool) → (b && false) ≡ false
      right true = refl
      right false = refl

  -- none strictly above it, and none here unless DS is asked for
  pub none_refers : cut_above z q ≡ None → (is_delegation z q ≡ false) ⊎ (eqb t 43 ≡ true) → NoneRefers z q t
  none_refers e h c at = go (is_delegation z q) refl h
    where
      go : (b : Bool) → is_delegation z q ≡ b → (is_delegation z q ≡ false) ⊎ (eqb t 43 ≡ true) → is_parents c q t ≡ true
      go false d h = let x : None ≡ Some c = sym (cut_here e false d) ∙ at in cc
      go true d h = elim h [
        | inl n ↦ absurd (false≢true (sym n ∙ d))
        | inr k ↦
            let x : Some q ≡ Some c = sym (cut_here e true d) ∙ at in
            let is : c ≡ q = cc in
            and_from (labels_eq c q) (eqb t 43) ((labels_decide c q).1 is) k
      ]

-- ---- above the closest encloser

cut_up : (z : Zone) (l : List ℕ) (q : Name) → cut z (l ∷ q) ≡ None → cut z q ≡ None
cut_up z l q e = go (cut z q) refl e
  where
    go : (o : Option Name) → cut z q ≡ o → elim o as (λ _. Option Name) [ None ↦ (if is_delegation z (l ∷ q) then Some (l ∷ q) else None) | Some c ↦ Some c ] ≡ None → cut z q ≡ None
    go None s e = s
    go (Some c) s e = absurd cc

pub uncut_encloser : (z : Zone) (ex : Bool) (q : Name) → cut_above z q ≡ None → cut z (kept_ancestor z ex q) ≡ None
uncut_encloser z ex [] e = refl
uncut_encloser z ex (l ∷ q) e = go (kept z ex q) (uncut_encloser z ex q (above q e))
  where
    above : (q : Name) → cut z q ≡ None → cut_above z q ≡ None
    above [] e = refl
    above (m ∷ q) e = cut_up z m q e

    go : (b : Bool) → cut z (kept_ancestor z ex q) ≡ None → cut z (if b then q else kept_ancestor z ex q) ≡ None
    go true k = e
    go false k = k

-- ---- from what the code finds

-- the first name that is left, and what is left behind it
pub left_first : (q : Name) (ss : List Name) (a : Name) (rest : List Name) → AreLeft q ss → ss ≡ a ∷ rest → (ss ≡ suffixes a) × (rest ≡ behind_first a) × (at_or_above a q ≡ true)
left_first q ss a rest l e = elim l [
  | inl n ↦ absurd (let x : [] ≡ a ∷ rest = sym n ∙ e in cc)
  | inr w ↦
      let x : w.0 ∷ behind_first w.0 ≡ a ∷ rest = sym (suffixes_are w.0) ∙ sym w.1 ∙ e in
      let is : w.0 ≡ a = cc in
      let more : behind_first w.0 ≡ rest = cc in
      (w.1 ∙ ap suffixes is, sym more ∙ ap behind_first is, ap (λ n. at_or_above n q) (sym is) ∙ w.2)
]

-- what is left once the first is taken
pub passed : (old : List Name) (r : Option Name) (new : List Name) → YieldsFirst (λ (ns : List Name). ns) old r new → (x : Name) (xs : List Name) → old ≡ x ∷ xs → new ≡ xs
passed old None new h x xs e = absurd (let y : [] ≡ x ∷ xs = sym h.0 ∙ e in cc)
passed old (Some y) new h x xs e = cc

pub found_some : (o : Option Cut) (x : Option Name) (P : Cut → Type 0) → x ≡ found o → IfSome o P → IfSome o (λ c. (x ≡ Some (low c.name.now)) × P c)
found_some None x P e h = tt
found_some (Some c) x P e h = (e, h)

pub found_none : (o : Option Cut) (x : Option Name) → x ≡ found o → IsNone o → x ≡ None
found_none None x e h = e
found_none (Some c) x e h = absurd (false≢true (sym h))

-- a name that may not be referred away at itself is no delegation, or its DS record is asked for
pub not_referred_here : (ds above here : Bool) → (not ds && above) ≡ false → ((here && above) ≡ false) ⊎ (ds ≡ true)
not_referred_here true above here e = inr refl
not_referred_here false above true e = inl e
not_referred_here false above false e = inl refl

pub is_none_by : (o : Option Cut) (x : Option Name) (b : Bool) → is_some o ≡ not b → IfSome o (λ c. x ≡ Some (low c.name.now)) → (IsNone o → x ≡ None) → b ≡ is_none x
is_none_by None x true e s n = ap is_none (sym (n refl))
is_none_by None x false e s n = absurd (false≢true e)
is_none_by (Some c) x true e s n = absurd (false≢true (sym e))
is_none_by (Some c) x false e s n = ap is_none (sym s)

pub any_lowered : (n : Name) (os : List Name) → list_any (at_or_above (low n)) os ≡ list_any (at_or_above n) os
any_lowered n [] = refl
any_lowered n (o ∷ os) = λ i. lowered_above n o i || any_lowered n os i

pub if_some_first : {A : Type 0} (P Q : A → Type 0) (o : Option A) → IfSome o (λ a. P a × Q a) → IfSome o P
if_some_first P Q None h = tt
if_some_first P Q (Some a) h = h.0
