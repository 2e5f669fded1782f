-- What signatures verify of an answer.
use Rattle.std.proofs.Common.{◌≡◌, ℕ, suc, ◌-◌, Bool, true, false, ◌&&◌, ◌||◌, ◌==◌, List, [], ◌∷◌, ◌++◌, map, take, drop, get_or, length, refl, sym, ap, subst, ◌∙◌, arith, inl, inr, ◌⊎◌, ⊎_elim}
use Rattle.std.specs.Prelude.{Option, Some, None, is_some}
use Rattle.std.specs.List.{list_any, filter_map, cons_option, AllByRecursion}
use Rattle.std.specs.Option.{option_map}
use Rattle.definitions.specs.Signing.{Fields}
use Rattle.std.proofs.lemmas.Bool.{and_parts, eqb-true}
use Rattle.definitions.proofs.Members.{both_ways}
use Rattle.definitions.specs.Name.{Name, low, same, at_or_above}
use Rattle.definitions.specs.Limits.{pointer_limit}
use Rattle.answer_judge_facts.specs.declared.groups.SignedRrset.{SignedRrset}
use Rattle.answer_judge_facts.specs.declared.groups.Signed.{Signed}
use Rattle.denial_laws.specs.Facts.{HashLink, Link, Rrset}
use Rattle.messages.specs.Message.{Spelled, nsec3_at}
use Rattle.answer_judge_facts.specs.Sought.{is_alone}
use Rattle.answer_judge_facts.specs.Verified.{Trusting, hash_link_at, hash_link_with, is_hash_alone, is_hash_link, is_verified, link_at, link_of, one_known, rrset_in, verified_by, verified_facts, verified_hash_links, verified_links, verified_rrset}
use Rattle.answer_judge_keys.specs.HashOwner.{spells_hash}
use Rattle.answer_judge_facts.specs.Marked.{data_in, has_place, hash_link_by, hash_link_of, holds_one, is_chain, is_chain_type, is_of, is_proved, is_record_of, stands_alone, marked, IsAlone, IsGathered, AreGathered, facts_by, link_by, or_first, rrset_verified, signed_of}
use Rattle.answer_judge_facts.specs.Ranked.{AskedLast}
use Rattle.std.proofs.lemmas.List.{map-append}
use Rattle.messages.proofs.ZoneNames.{same_labels}
use Rattle.messages.proofs.Lists.{found, any_from, all_at, list_any-map}
use Rattle.answer_judge_facts.proofs.JudgeCase.{above-owner, rrset_in-owner, is_verified-owner, spells-owner}
use Rattle.answer_judge_facts.proofs.JudgeMarks.{marked_is, or_no}

-- ---- the groups

or_cases : (x y : Bool) → (x || y) ≡ true → (x ≡ true) ⊎ (y ≡ true)
or_cases true y h = inl refl
or_cases false y h = inr h

-- which chain's RRset stands alone
pub chain_cases : (t : ℕ) (x y : Bool) → (((47 == t) && x) || ((50 == t) && y)) ≡ true → ((t ≡ 47) × (x ≡ true)) ⊎ ((t ≡ 50) × (y ≡ true))
chain_cases t x y h = ⊎_elim
    (λ a. let p = and_parts (47 == t) x a in inl (sym (eqb-true 47 t p.0), p.1))
    (λ b. let p = and_parts (50 == t) y b in inr (sym (eqb-true 50 t p.0), p.1))
    (or_cases ((47 == t) && x) ((50 == t) && y) h)

pub chain_type : (m : List ℕ) (apex : Name) (rs : List Spelled) (t : ℕ) (o : Name) → stands_alone m apex rs t o ≡ true → is_chain_type t ≡ true
chain_type m apex rs t o h = ⊎_elim (λ k. ap is_chain_type k.0) (λ k. ap is_chain_type k.0) (chain_cases t (is_alone pointer_limit m apex rs o) (is_hash_alone pointer_limit m apex rs o) h)

-- where such an RRset stands, and what it holds
pub alone_is : (m : List ℕ) (apex : Name) (rs : List Spelled) (t : ℕ) (o : Name) → is_chain_type t ≡ true → stands_alone m apex rs t o ≡ (has_place t apex o && holds_one t (rrset_in pointer_limit m rs o t))
alone_is m apex rs t o h = ⊎_elim
    (λ a. subst (λ n. stands_alone m apex rs n o ≡ (has_place n apex o && holds_one n (rrset_in pointer_limit m rs o n))) (sym (eqb-true t 47 a)) (or_no (is_alone pointer_limit m apex rs o)))
    (λ b. subst (λ n. stands_alone m apex rs n o ≡ (has_place n apex o && holds_one n (rrset_in pointer_limit m rs o n))) (sym (eqb-true t 50 b)) refl)
    (or_cases (t == 47) (t == 50) h)

abbrev with_labels : List (List ℕ) → ℕ → Rrset
with_labels ds n = record { datas = ds; labels = n }

signed_labels : (ds : List (List ℕ)) (f : Option Fields) → option_map (λ s. with_labels ds s.labels) (option_map signed_of f) ≡ option_map (λ f. with_labels ds f.labels) f
signed_labels ds None = refl
signed_labels ds (Some f) = refl

-- the RRset that was asked for, with the labels of its first signature
asked_rrset : (w : Trusting) (m : List ℕ) (rs : List Spelled) (g : SignedRrset) (owner : Name) (t : ℕ) → g.owner ≡ owner → g.rtype ≡ t → data_in g ≡ rrset_in pointer_limit m rs owner t → g.verified ≡ None → rrset_verified (Some (marked w m rs g)) ≡ verified_rrset w pointer_limit m rs owner t
asked_rrset w m rs g owner t o r d v =
    (λ i. option_map (λ (s : Signed). with_labels (d i) s.labels) (or_first (v i) (option_map signed_of (verified_by w pointer_limit m rs (o i) (r i) (d i)))))
    ∙ signed_labels (rrset_in pointer_limit m rs owner t) (verified_by w pointer_limit m rs owner t (rrset_in pointer_limit m rs owner t))

-- ---- links

-- a group of the owner is verified where the owner's RRset is
marked_owner : (w : Trusting) (m : List ℕ) (rs : List Spelled) (apex : Name) (o : Name) (t : ℕ) (g : SignedRrset) → IsAlone m apex rs g → is_of o t g ≡ true → is_some (marked w m rs g).verified ≡ is_verified w pointer_limit m rs o t (rrset_in pointer_limit m rs o t)
marked_owner w m rs apex o t g a s =
    let p = and_parts (g.rtype == t) (same o g.owner) s in
    let e : low g.owner ≡ low o = sym (same_labels (low o) (low g.owner) p.1) in
    let r : g.rtype ≡ t = eqb-true g.rtype t p.0 in
    let v = a.unverified in
    let d : data_in g ≡ rrset_in pointer_limit m rs g.owner t = a.data_are ∙ ap (rrset_in pointer_limit m rs g.owner) r in
    marked_is w m rs g
    ∙ (λ i. is_some (v i) || is_verified w pointer_limit m rs g.owner (r i) (d i))
    ∙ ap (is_verified w pointer_limit m rs g.owner t) (rrset_in-owner pointer_limit m rs g.owner o t e)
    ∙ is_verified-owner w pointer_limit m rs g.owner o t (rrset_in pointer_limit m rs o t) e

-- it stands alone where the owner does
pub alone_owner : (m : List ℕ) (rs : List Spelled) (apex : Name) (t : ℕ) (a b : Name) → same a b ≡ true → stands_alone m apex rs t b ≡ stands_alone m apex rs t a
alone_owner m rs apex t a b s =
    let e : low b ≡ low a = sym (same_labels (low a) (low b) s) in
    (λ i. ((47 == t) && (above-owner apex b a e i && (length (rrset_in-owner pointer_limit m rs b a 47 e i) == 1))) || ((50 == t) && (spells-owner apex b a e i && one_known (rrset_in-owner pointer_limit m rs b a 50 e i))))

-- a group of an owner and a type stands alone
pub group_alone : (m : List ℕ) (rs : List Spelled) (apex : Name) (o : Name) (t : ℕ) (g : SignedRrset) → IsAlone m apex rs g → is_of o t g ≡ true → stands_alone m apex rs t o ≡ true
group_alone m rs apex o t g a s =
    let p = and_parts (g.rtype == t) (same o g.owner) s in
    sym (alone_owner m rs apex t o g.owner p.1) ∙ ap (λ n. stands_alone m apex rs n g.owner) (sym (eqb-true g.rtype t p.0)) ∙ a.alone

proved_of : (w : Trusting) (m : List ℕ) (rs : List Spelled) (apex : Name) (gs : List SignedRrset) (o : Name) (t : ℕ) → AllByRecursion (IsAlone m apex rs) gs → list_any (λ g. is_proved o t (marked w m rs g)) gs ≡ true
    → (stands_alone m apex rs t o && is_verified w pointer_limit m rs o t (rrset_in pointer_limit m rs o t)) ≡ true
proved_of w m rs apex gs o t each h =
    let f = found (λ g. is_proved o t (marked w m rs g)) gs h in
    let g = f.0 in
    let alone = all_at (IsAlone m apex rs) gs g each f.1 in
    let p = and_parts (is_some (marked w m rs g).verified) (is_of o t g) f.2 in
    let a = group_alone m rs apex o t g alone p.1 in
    let v = sym (marked_owner w m rs apex o t g alone p.1) ∙ p.0 in
    (λ i. a i && v i)

proved_by : (w : Trusting) (m : List ℕ) (rs : List Spelled) (apex : Name) (gs : List SignedRrset) (o : Name) (t : ℕ) → AllByRecursion (IsAlone m apex rs) gs → (stands_alone m apex rs t o ≡ true → list_any (is_of o t) gs ≡ true)
    → (stands_alone m apex rs t o && is_verified w pointer_limit m rs o t (rrset_in pointer_limit m rs o t)) ≡ true → list_any (λ g. is_proved o t (marked w m rs g)) gs ≡ true
proved_by w m rs apex gs o t each has h =
    let p = and_parts (stands_alone m apex rs t o) (is_verified w pointer_limit m rs o t (rrset_in pointer_limit m rs o t)) h in
    let f = found (is_of o t) gs (has p.0) in
    let g = f.0 in
    let alone = all_at (IsAlone m apex rs) gs g each f.1 in
    let v = marked_owner w m rs apex o t g alone f.2 ∙ p.1 in
    any_from (λ g. is_proved o t (marked w m rs g)) gs g f.1 (λ i. v i && f.2 i)

and_regroup : (a b c d e : Bool) → ((a && b) && (((c && d) || false) && e)) ≡ (a && b && c && d && e)
and_regroup true true true true e = refl
and_regroup true true true false e = refl
and_regroup true true false d e = refl
and_regroup true false c d e = refl
and_regroup false b c d e = refl

and_of_four : (a b c e : Bool) → ((a && b) && (c && e)) ≡ (a && b && c && e)
and_of_four true true c e = refl
and_of_four true false c e = refl
and_of_four false b c e = refl

under_test : (n x y : Bool) → (n ≡ true → x ≡ y) → (n && x) ≡ (n && y)
under_test true x y f = f refl
under_test false x y f = refl

-- a record's owner has a verified group of its type where its RRset stands alone and is verified
any_proved : (w : Trusting) (m : List ℕ) (rs : List Spelled) (gs : List SignedRrset) (r : Spelled) (t : ℕ) → is_chain_type t ≡ true → AllByRecursion (IsAlone m w.apex rs) gs → IsGathered m w.apex rs gs r → is_record_of t r ≡ true
    → list_any (is_proved r.owner t) (map (marked w m rs) gs) ≡ (stands_alone m w.apex rs t r.owner && is_verified w pointer_limit m rs r.owner t (rrset_in pointer_limit m rs r.owner t))
any_proved w m rs gs r t chain each has n =
    let p = and_parts (r.rtype == t) (r.class == 1) n in
    let kind : r.rtype ≡ t = eqb-true r.rtype t p.0 in
    let of_chain : is_chain r ≡ true = (λ i. (ap is_chain_type kind ∙ chain) i && p.1 i) in
    let gathered : stands_alone m w.apex rs t r.owner ≡ true → list_any (is_of r.owner t) gs ≡ true =
    λ s. ap (λ k. list_any (is_of r.owner k) gs) (sym kind) ∙ has of_chain (ap (λ k. stands_alone m w.apex rs k r.owner) kind ∙ s) in
    list_any-map (is_proved r.owner t) (marked w m rs) gs
    ∙ both_ways _ _ (proved_of w m rs w.apex gs r.owner t each) (proved_by w m rs w.apex gs r.owner t each gathered)

-- a record's link by the groups is its link by what is verified
link_same : (w : Trusting) (m : List ℕ) (rs : List Spelled) (gs : List SignedRrset) (r : Spelled) → AllByRecursion (IsAlone m w.apex rs) gs → IsGathered m w.apex rs gs r → link_by m (map (marked w m rs) gs) r ≡ link_at w pointer_limit m rs r
link_same w m rs gs r each has =
    let test = under_test (is_record_of 47 r) _ _ (any_proved w m rs gs r 47 refl each has)
    ∙ and_regroup (r.rtype == 47) (r.class == 1) (at_or_above w.apex r.owner) (length (rrset_in pointer_limit m rs r.owner 47) == 1) (is_verified w pointer_limit m rs r.owner 47 (rrset_in pointer_limit m rs r.owner 47)) in
    ap (λ (b : Bool). elim b as (λ _. Option Link) [ true ↦ link_of pointer_limit m r | false ↦ None ]) test

links_same : (w : Trusting) (m : List ℕ) (rs some : List Spelled) (gs : List SignedRrset) → AllByRecursion (IsAlone m w.apex rs) gs → AllByRecursion (IsGathered m w.apex rs gs) some → filter_map (link_by m (map (marked w m rs) gs)) some ≡ filter_map (link_at w pointer_limit m rs) some
links_same w m rs [] gs each has = refl
links_same w m rs (r ∷ some) gs each has = (λ i. cons_option (link_same w m rs gs r each has.0 i) (links_same w m rs some gs each has.1 i))

-- the links by the groups are those of the message
links_verified : (w : Trusting) (m : List ℕ) (rs : List Spelled) (gs : List SignedRrset) → AreGathered m w.apex rs rs gs → filter_map (link_by m (map (marked w m rs) gs)) rs ≡ verified_links w pointer_limit m rs
links_verified w m rs gs a = links_same w m rs rs gs a.each a.all

-- ---- links of hashes

-- what is tested inside holds where the outer test does
inner_test : (b s : Bool) (x : Option HashLink) → (b ≡ true → s ≡ true) → elim b as (λ _. Option HashLink) [ true ↦ elim s as (λ _. Option HashLink) [ true ↦ x | false ↦ None ] | false ↦ None ] ≡ elim b as (λ _. Option HashLink) [ true ↦ x | false ↦ None ]
inner_test true s x h = ap (λ (s : Bool). elim s as (λ _. Option HashLink) [ true ↦ x | false ↦ None ]) (h refl)
inner_test false s x h = refl

spells_of : (w : Trusting) (m : List ℕ) (rs : List Spelled) (r : Spelled) → is_hash_link w pointer_limit m rs r ≡ true → spells_hash w.apex r.owner ≡ true
spells_of w m rs r h =
    let alone = is_hash_alone pointer_limit m w.apex rs r.owner in
    let front = (and_parts ((r.rtype == 50) && (r.class == 1) && alone) (is_verified w pointer_limit m rs r.owner 50 (rrset_in pointer_limit m rs r.owner 50)) h).0 in
    let stands = (and_parts ((r.rtype == 50) && (r.class == 1)) alone front).1 in
    (and_parts (spells_hash w.apex r.owner) (one_known (rrset_in pointer_limit m rs r.owner 50)) stands).0

hash_link_same : (w : Trusting) (m : List ℕ) (rs : List Spelled) (gs : List SignedRrset) (r : Spelled) → AllByRecursion (IsAlone m w.apex rs) gs → IsGathered m w.apex rs gs r → hash_link_by w.apex m (map (marked w m rs) gs) r ≡ hash_link_at w pointer_limit m rs r
hash_link_same w m rs gs r each has =
    let test : (is_record_of 50 r && list_any (is_proved r.owner 50) (map (marked w m rs) gs)) ≡ is_hash_link w pointer_limit m rs r =
    under_test (is_record_of 50 r) _ _ (any_proved w m rs gs r 50 refl each has)
    ∙ and_of_four (r.rtype == 50) (r.class == 1) (is_hash_alone pointer_limit m w.apex rs r.owner) (is_verified w pointer_limit m rs r.owner 50 (rrset_in pointer_limit m rs r.owner 50)) in
    ap (λ (b : Bool). elim b as (λ _. Option HashLink) [ true ↦ hash_link_of w.apex m r | false ↦ None ]) test
    ∙ inner_test (is_hash_link w pointer_limit m rs r) (spells_hash w.apex r.owner) (option_map (hash_link_with r.owner) (nsec3_at m r)) (spells_of w m rs r)

hash_links_same : (w : Trusting) (m : List ℕ) (rs some : List Spelled) (gs : List SignedRrset) → AllByRecursion (IsAlone m w.apex rs) gs → AllByRecursion (IsGathered m w.apex rs gs) some
    → filter_map (hash_link_by w.apex m (map (marked w m rs) gs)) some ≡ filter_map (hash_link_at w pointer_limit m rs) some
hash_links_same w m rs [] gs each has = refl
hash_links_same w m rs (r ∷ some) gs each has = (λ i. cons_option (hash_link_same w m rs gs r each has.0 i) (hash_links_same w m rs some gs each has.1 i))

hash_links_verified : (w : Trusting) (m : List ℕ) (rs : List Spelled) (gs : List SignedRrset) → AreGathered m w.apex rs rs gs → filter_map (hash_link_by w.apex m (map (marked w m rs) gs)) rs ≡ verified_hash_links w pointer_limit m rs
hash_links_verified w m rs gs a = hash_links_same w m rs rs gs a.each a.all

-- ---- the last group is taken off

take_front : {X : Type 0} (xs ys : List X) → take (length xs) (xs ++ ys) ≡ xs
take_front [] ys = refl
take_front (x ∷ xs) ys = ap (λ zs. x ∷ zs) (take_front xs ys)

get_last : {X : Type 0} (xs : List X) (y d : X) → get_or (xs ++ y ∷ []) (length xs) d ≡ y
get_last [] y d = refl
get_last (x ∷ xs) y d = get_last xs y d

pub length_more : {X : Type 0} (xs : List X) (y : X) → length (xs ++ y ∷ []) ≡ suc (length xs)
length_more [] y = refl
length_more (x ∷ xs) y = ap suc (length_more xs y)

-- what stands where groups were written over as many
pub over : {X : Type 0} (now old : List X) (n : ℕ) → n ≡ length now → take n (now ++ drop (length now) old) ≡ now
over now old n h = ap (λ k. take k (now ++ drop (length now) old)) h ∙ take_front now (drop (length now) old)

module _ {X : Type 0} (xs : List X) (y : X) (all : List X) (n : ℕ) (e : all ≡ xs ++ y ∷ []) (h : n ≡ length all) where
  others : n - 1 ≡ length xs
  others = omega (arith, h, ap length e ∙ length_more xs y)

  pub front_of : take (n - 1) all ≡ xs
  front_of = (λ i. take (others i) (e i)) ∙ take_front xs (y ∷ [])

  pub last_of : (d : X) → get_or all (n - 1) d ≡ y
  last_of d = (λ i. get_or (e i) (others i) d) ∙ get_last xs y d

-- ---- all facts

-- groups that are marked, the one that was asked for still behind the others
pub marked_last : (w : Trusting) (m : List ℕ) (rs : List Spelled) (q : Name) (t : ℕ) (gs : List SignedRrset) (l : AskedLast m w.apex rs q t gs) → map (marked w m rs) gs ≡ map (marked w m rs) l.chains ++ marked w m rs l.asked ∷ []
marked_last w m rs q t gs l = ap (map (marked w m rs)) l.are ∙ map-append (marked w m rs) l.chains (l.asked ∷ [])

pub facts_verified : (w : Trusting) (m : List ℕ) (rs : List Spelled) (q : Name) (t : ℕ) (gs : List SignedRrset) (l : AskedLast m w.apex rs q t gs) → facts_by w.apex m rs (map (marked w m rs) l.chains) (marked w m rs l.asked) ≡ verified_facts w pointer_limit m rs q t
facts_verified w m rs q t gs l = λ i. record {
  rrset = asked_rrset w m rs l.asked q t l.owner_is l.rtype_is l.datas_are l.unverified i;
  links = links_verified w m rs l.chains l.gathered i;
  hash_links = hash_links_verified w m rs l.chains l.gathered i;
}
