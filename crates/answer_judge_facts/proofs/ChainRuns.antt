-- Records of chains in order, run by run.
use Rattle.std.proofs.Common.{◌≡◌, ℕ, zero, suc, ◌<◌, ◌+◌, Bool, true, false, not, ◌&&◌, ◌==◌, cond, List, [], ◌∷◌, ◌++◌, take, drop, length, get_or, refl, sym, ap, subst, ◌∙◌, arith, append_assoc, Ordering}
use Rattle.std.specs.Prelude.{Option, None}
use Rattle.std.specs.declared.cmp.Ordering.TheVariants.{Less, Equal, Greater}
use Rattle.std.specs.Cmp.{IsTotalOrder, nat_cmp_total, on_total, tied_itself}
use Rattle.std.specs.FinMap.{nat_cmp-IsAntisymmetric}
use Rattle.std.specs.List.{AllByRecursion, cons_option, filter_map}
use Rattle.std.specs.List.Sorted.{IsSortedBy}
use Rattle.std.specs.Ordering.{is_lt, nat_cmp, ordering_reverse, ordering_then}
use Rattle.std.proofs.lemmas.Bool.{and_from, and_parts, eq-eqb, eqb-true, false_from_ne_true, false≢true}
use Rattle.std.proofs.lemmas.Cmp.{then_total}
use Rattle.std.proofs.lemmas.List.{append-nil}
use Rattle.std.proofs.lemmas.List.Elements.{filter_map-append}
use Rattle.std.proofs.lemmas.List.Sorted.{ranks_by, sorted_far}
use Rattle.definitions.proofs.NameLaws.{equal_is_same, name_cmp_total, same_is_equal}
use Rattle.definitions.specs.Limits.{pointer_limit}
use Rattle.definitions.specs.Name.{Name, name_cmp, same}
use Rattle.definitions.specs.Zone.{sorted_data}
use Rattle.messages.specs.Message.{Spelled, canonical_data}
use Rattle.answer_judge_facts.specs.Marked.{AreGathered, IsAlone, IsGathered, has_place, holds_one, is_chain, is_chain_type, is_of, stands_alone}
use Rattle.answer_judge_facts.specs.Ranked.{AreRanked, IsRun, alike_len, are_alike, chain_cmp, place_of, run_data, sought_cmp, type_rank}
use Rattle.answer_judge_facts.specs.Verified.{datum_of, rrset_in}
use Rattle.answer_judge_facts.specs.declared.groups.SignedRrset.{SignedRrset}
use Rattle.answer_judge_facts.proofs.JudgeFacts.{alone_is, alone_owner}
use Rattle.answer_judge_facts.proofs.JudgeGathered.{all_push, any_kept, any_push, same_swap}
use Rattle.answer_judge_facts.proofs.JudgeMarks.{are_apart, is_like}
use Rattle.answer_judge_facts.proofs.Places.{apart_parts, none_ranked, ranked_push}
use Rattle.messages.proofs.Lists.{all_more}

-- ---- the orders

pub chain_total : IsTotalOrder chain_cmp
chain_total = then_total (on_total (λ (r : Spelled). r.rtype) nat_cmp_total) (on_total (λ (r : Spelled). r.owner) name_cmp_total)

pub sought_total : IsTotalOrder sought_cmp
sought_total = then_total (on_total (λ (p : ℕ × Name). type_rank p.0) nat_cmp_total) (on_total (λ (p : ℕ × Name). p.1) name_cmp_total)

pub both_equal : (a b : Ordering) → ordering_then a b ≡ Equal → (a ≡ Equal) × (b ≡ Equal)
both_equal Equal b e = (refl, e)
both_equal Less b e = absurd cc
both_equal Greater b e = absurd cc

alike_parts : (a b : Spelled) → are_alike a b ≡ true → (a.rtype ≡ b.rtype) × (same a.owner b.owner ≡ true)
alike_parts a b h = let p = and_parts (a.rtype == b.rtype) (same a.owner b.owner) h in (eqb-true a.rtype b.rtype p.0, p.1)

pub alike_equal : (a b : Spelled) → are_alike a b ≡ true → chain_cmp a b ≡ Equal
alike_equal a b h =
    let p = alike_parts a b h in
    let types : nat_cmp a.rtype b.rtype ≡ Equal = ap (nat_cmp a.rtype) (sym p.0) ∙ tied_itself nat_cmp_total a.rtype in
    (λ i. ordering_then (types i) (same_is_equal a.owner b.owner p.1 i))

equal_alike : (a b : Spelled) → chain_cmp a b ≡ Equal → are_alike a b ≡ true
equal_alike a b e =
    let p = both_equal (nat_cmp a.rtype b.rtype) (name_cmp a.owner b.owner) e in
    let types : a.rtype ≡ b.rtype = nat_cmp-IsAntisymmetric a.rtype b.rtype p.0 in
    and_from _ _ (eq-eqb a.rtype b.rtype types) (equal_is_same a.owner b.owner p.1)

flip : (a b : Spelled) (o : Ordering) → chain_cmp a b ≡ o → chain_cmp b a ≡ ordering_reverse o
flip a b o e = chain_total.antisymm b a ∙ ap ordering_reverse e

alike_swap : (a b : Spelled) → are_alike a b ≡ true → are_alike b a ≡ true
alike_swap a b h = equal_alike b a (flip a b Equal (alike_equal a b h))

-- neither after nor alike
less_from : (a b : Spelled) → is_lt (chain_cmp b a) ≡ false → are_alike a b ≡ false → chain_cmp a b ≡ Less
less_from a b h n = go (chain_cmp a b) refl
  where
    go : (o : Ordering) → chain_cmp a b ≡ o → chain_cmp a b ≡ Less
    go Less e = e
    go Equal e = absurd (false≢true (sym n ∙ equal_alike a b e))
    go Greater e = absurd (false≢true (sym h ∙ ap is_lt (flip a b Greater e)))

-- less than what is not after another
less_on : (a b d : Spelled) → chain_cmp a b ≡ Less → is_lt (chain_cmp d b) ≡ false → chain_cmp a d ≡ Less
less_on a b d h n = go (chain_cmp d b) refl
  where
    go : (o : Ordering) → chain_cmp d b ≡ o → chain_cmp a d ≡ Less
    go Less e = absurd (false≢true (sym n ∙ ap is_lt e))
    go Equal e = chain_total.antisymm a d ∙ ap ordering_reverse (chain_total.congr d b a e ∙ flip a b Less h)
    go Greater e = chain_total.trans a b d h (flip d b Greater e)

-- alike is as great
less_alike : (a b d : Spelled) → are_alike a b ≡ true → chain_cmp b d ≡ Less → chain_cmp a d ≡ Less
less_alike a b d h e = chain_total.congr a b d (alike_equal a b h) ∙ e

apart_less : (a b : Spelled) → chain_cmp a b ≡ Less → are_alike a b ≡ false
apart_less a b e = false_from_ne_true (are_alike a b) (λ t. let c : Less ≡ Equal = sym e ∙ alike_equal a b t in cc)

apart_greater : (a b : Spelled) → chain_cmp b a ≡ Less → are_alike a b ≡ false
apart_greater a b e = false_from_ne_true (are_alike a b) (λ t. let c : Greater ≡ Equal = sym (flip b a Less e) ∙ alike_equal a b t in cc)

-- ---- a run

abbrev IsUp : List Spelled → Type 0
IsUp rs = IsSortedBy (λ a b. is_lt (chain_cmp a b)) rs

far : (r : Spelled) (rs : List Spelled) → IsUp (r ∷ rs) → (k : ℕ) (d : Spelled) → k < length rs → is_lt (chain_cmp (get_or rs k d) r) ≡ false
far r rs s k d h = sorted_far (λ a b. is_lt (chain_cmp a b)) (ranks_by chain_total (λ x. x)) (r ∷ rs) s 0 (suc k) d (omega arith) (omega arith)

all_far : (r : Spelled) (rs : List Spelled) → ((k : ℕ) (d : Spelled) → k < length rs → is_lt (chain_cmp (get_or rs k d) r) ≡ false) → AllByRecursion (λ s. is_lt (chain_cmp s r) ≡ false) rs
all_far r [] h = tt
all_far r (s ∷ ss) h = (h 0 s (omega arith), all_far r ss (λ k d l. h (suc k) d (omega arith)))

up_head : (r : Spelled) (rs : List Spelled) → IsUp (r ∷ rs) → AllByRecursion (λ s. is_lt (chain_cmp s r) ≡ false) rs
up_head r rs s = all_far r rs (far r rs s)

up_tail : (r : Spelled) (rs : List Spelled) → IsUp (r ∷ rs) → IsUp rs
up_tail r rs s k d low h =
    let e : suc k + 1 ≡ suc (k + 1) = omega arith in
    subst (λ n. is_lt (chain_cmp (get_or (r ∷ rs) n d) (get_or (r ∷ rs) (suc k) d)) ≡ false) e (s (suc k) d (omega arith) (omega arith))

up_drop : (n : ℕ) (rs : List Spelled) → IsUp rs → IsUp (drop n rs)
up_drop zero rs s = s
up_drop (suc n) [] s = s
up_drop (suc n) (r ∷ rs) s = up_drop n rs (up_tail r rs s)

-- what is alike in front, and what is greater behind
pub run_front : (r : Spelled) (rs : List Spelled) → AllByRecursion (λ s. are_alike r s ≡ true) (take (alike_len r rs) rs)
run_front r [] = tt
run_front r (s ∷ ss) = go (are_alike r s) refl (run_front r ss)
  where
    go : (b : Bool) → are_alike r s ≡ b → AllByRecursion (λ s. are_alike r s ≡ true) (take (alike_len r ss) ss) → AllByRecursion (λ s. are_alike r s ≡ true) (take (cond b (suc (alike_len r ss)) 0) (s ∷ ss))
    go true e rest = (e, rest)
    go false e rest = tt

run_behind : (r : Spelled) (rs : List Spelled) → AllByRecursion (λ s. is_lt (chain_cmp s r) ≡ false) rs → IsUp rs → AllByRecursion (λ s. chain_cmp r s ≡ Less) (drop (alike_len r rs) rs)
run_behind r [] h s = tt
run_behind r (x ∷ xs) h s = go (are_alike r x) refl (run_behind r xs h.1 (up_tail x xs s))
  where
    go : (b : Bool) → are_alike r x ≡ b → AllByRecursion (λ s. chain_cmp r s ≡ Less) (drop (alike_len r xs) xs) → AllByRecursion (λ s. chain_cmp r s ≡ Less) (drop (cond b (suc (alike_len r xs)) 0) (x ∷ xs))
    go true e rest = rest
    go false e rest =
        let first : chain_cmp r x ≡ Less = less_from r x h.0 e in
        (first, all_more (λ z. is_lt (chain_cmp z x) ≡ false) (λ z. chain_cmp r z ≡ Less) xs (λ z n. less_on r x z first n) (up_head x xs s))

-- ---- its data

datum_alike : (m : List ℕ) (r s : Spelled) → are_alike r s ≡ true → is_chain s ≡ true → datum_of pointer_limit m r.owner r.rtype s ≡ canonical_data pointer_limit m s
datum_alike m r s a c =
    let p = alike_parts r s a in
    let class = (and_parts (is_chain_type s.rtype) (s.class == 1) c).1 in
    let test : ((s.class == 1) && (s.rtype == r.rtype) && same s.owner r.owner) ≡ true = (λ i. class i && eq-eqb s.rtype r.rtype (sym p.0) i && same_swap r.owner s.owner p.1 i) in
    ap (λ (b : Bool). elim b as (λ _. Option (List ℕ)) [ true ↦ canonical_data pointer_limit m s | false ↦ None ]) test

datum_other : (m : List ℕ) (r s : Spelled) → are_alike r s ≡ false → datum_of pointer_limit m r.owner r.rtype s ≡ None
datum_other m r s a =
    let test : ((s.class == 1) && (s.rtype == r.rtype) && same s.owner r.owner) ≡ false = false_from_ne_true _ (λ t.
    let p = and_parts ((s.class == 1) && (s.rtype == r.rtype)) (same s.owner r.owner) t in
    let q = and_parts (s.class == 1) (s.rtype == r.rtype) p.0 in
    false≢true (sym a ∙ and_from _ _ (eq-eqb r.rtype s.rtype (sym (eqb-true s.rtype r.rtype q.1))) (same_swap s.owner r.owner p.1))) in
    ap (λ (b : Bool). elim b as (λ _. Option (List ℕ)) [ true ↦ canonical_data pointer_limit m s | false ↦ None ]) test

data_alike : (m : List ℕ) (r : Spelled) (ss : List Spelled) → AllByRecursion (λ s. are_alike r s ≡ true) ss → AllByRecursion (λ s. is_chain s ≡ true) ss → filter_map (datum_of pointer_limit m r.owner r.rtype) ss ≡ filter_map (canonical_data pointer_limit m) ss
data_alike m r [] a c = refl
data_alike m r (s ∷ ss) a c = (λ i. cons_option (datum_alike m r s a.0 c.0 i) (data_alike m r ss a.1 c.1 i))

data_other : (m : List ℕ) (r : Spelled) (ss : List Spelled) → AllByRecursion (λ s. are_alike r s ≡ false) ss → filter_map (datum_of pointer_limit m r.owner r.rtype) ss ≡ []
data_other m r [] a = refl
data_other m r (s ∷ ss) a = (λ i. cons_option (datum_other m r s a.0 i) (data_other m r ss a.1 i))

all_split : (P : Spelled → Type 0) (n : ℕ) (rs : List Spelled) → AllByRecursion P rs → AllByRecursion P (take n rs) × AllByRecursion P (drop n rs)
all_split P zero rs h = (tt, h)
all_split P (suc n) [] h = (tt, tt)
all_split P (suc n) (r ∷ rs) h = let p = all_split P n rs h.1 in ((h.0, p.0), p.1)

take_drop : (n : ℕ) (rs : List Spelled) → take n rs ++ drop n rs ≡ rs
take_drop zero rs = refl
take_drop (suc n) [] = refl
take_drop (suc n) (r ∷ rs) = ap (λ ys. r ∷ ys) (take_drop n rs)

all_joined : {X : Type 0} (P : X → Type 0) (xs ys : List X) → AllByRecursion P xs → AllByRecursion P ys → AllByRecursion P (xs ++ ys)
all_joined P [] ys h k = k
all_joined P (x ∷ xs) ys h k = (h.0, all_joined P xs ys h.1 k)

-- ---- groups run by run

-- what was gathered of the records done, and what is left of those in order
pub record Gathering (m : List ℕ) (apex : Name) (rs left : List Spelled) (gs : List SignedRrset) : Type 0 where
  pub done : List Spelled
  pub whole : done ++ left ≡ rs
  pub sorted : IsUp left
  pub chain : AllByRecursion (λ r. is_chain r ≡ true) left
  pub below : AllByRecursion (λ d. AllByRecursion (λ r. chain_cmp d r ≡ Less) left) done
  pub ranked : AreRanked gs
  pub under : AllByRecursion (λ (g : SignedRrset). AllByRecursion (λ r. sought_cmp (place_of g) (r.rtype, r.owner) ≡ Less) left) gs
  pub each : AllByRecursion (IsAlone m apex rs) gs
  pub all : AllByRecursion (IsGathered m apex rs gs) done

pub nothing_yet : (m : List ℕ) (apex : Name) (rs : List Spelled) → AllByRecursion (λ r. is_chain r ≡ true) rs → IsUp rs → Gathering m apex rs rs []
nothing_yet m apex rs c s = record {
  done = [];
  whole = refl;
  sorted = s;
  chain = c;
  below = tt;
  ranked = none_ranked place_of sought_cmp sought_total;
  under = tt;
  each = tt;
  all = tt;
}

like_equal : (a b : SignedRrset) → is_like a b ≡ true → sought_cmp (place_of a) (place_of b) ≡ Equal
like_equal a b h =
    let p = and_parts (a.rtype == b.rtype) (same a.owner b.owner) h in
    let types : nat_cmp (type_rank a.rtype) (type_rank b.rtype) ≡ Equal = ap (λ t. nat_cmp (type_rank a.rtype) (type_rank t)) (sym (eqb-true a.rtype b.rtype p.0)) ∙ tied_itself nat_cmp_total (type_rank a.rtype) in
    (λ i. ordering_then (types i) (same_is_equal a.owner b.owner p.1 i))

pub ranked_apart : (gs : List SignedRrset) → AreRanked gs → are_apart gs ≡ true
ranked_apart [] s = refl
ranked_apart (g ∷ gs) s =
    let p = apart_parts place_of sought_cmp sought_total is_like like_equal g gs s in
    (λ i. not (p.0 i) && ranked_apart gs p.1 i)

pub all_gathered : (m : List ℕ) (apex : Name) (rs : List Spelled) (gs : List SignedRrset) → Gathering m apex rs [] gs → AreGathered m apex rs rs gs
all_gathered m apex rs gs c =
    let done : c.done ≡ rs = sym (append-nil c.done) ∙ c.whole in
    record {
      each = c.each;
      all = subst (AllByRecursion (IsGathered m apex rs gs)) done c.all;
    }

chain_rank : (t : ℕ) → is_chain_type t ≡ true → type_rank t ≡ t
chain_rank t h = ap (λ (b : Bool). cond b t (t + 65536)) h

chain_of : (r : Spelled) → is_chain r ≡ true → is_chain_type r.rtype ≡ true
chain_of r h = (and_parts (is_chain_type r.rtype) (r.class == 1) h).0

-- for chains' records the order of groups is theirs
sought_less : (r s : Spelled) → is_chain r ≡ true → is_chain s ≡ true → chain_cmp r s ≡ Less → sought_cmp (r.rtype, r.owner) (s.rtype, s.owner) ≡ Less
sought_less r s c d e =
    (λ i. ordering_then (nat_cmp (chain_rank r.rtype (chain_of r c) i) (chain_rank s.rtype (chain_of s d) i)) (name_cmp r.owner s.owner)) ∙ e

all_less : (r : Spelled) (ss : List Spelled) → is_chain r ≡ true → AllByRecursion (λ s. is_chain s ≡ true) ss → AllByRecursion (λ s. chain_cmp r s ≡ Less) ss → AllByRecursion (λ s. sought_cmp (r.rtype, r.owner) (s.rtype, s.owner) ≡ Less) ss
all_less r [] c d h = tt
all_less r (s ∷ ss) c d h = (sought_less r s c d.0 h.0, all_less r ss c d.1 h.1)

all_parts : {X Y : Type 0} (P : X → Y → Type 0) (ys zs : List Y) → ((Q : Y → Type 0) → AllByRecursion Q ys → AllByRecursion Q zs) → (xs : List X) → AllByRecursion (λ x. AllByRecursion (P x) ys) xs → AllByRecursion (λ x. AllByRecursion (P x) zs) xs
all_parts P ys zs f [] h = tt
all_parts P ys zs f (x ∷ xs) h = (f (P x) h.0, all_parts P ys zs f xs h.1)

module _ (m : List ℕ) (apex : Name) (rs : List Spelled) (r : Spelled) (others : List Spelled) (gs : List SignedRrset) (now : Gathering m apex rs (r ∷ others) gs) where
  abbrev run : List Spelled
  run = r ∷ take (alike_len r others) others

  abbrev behind : List Spelled
  behind = drop (alike_len r others) others

  others_up : IsUp others
  others_up = up_tail r others now.sorted

  greater : AllByRecursion (λ s. chain_cmp r s ≡ Less) behind
  greater = run_behind r others (up_head r others now.sorted) others_up

  itself : are_alike r r ≡ true
  itself = equal_alike r r (tied_itself chain_total r)

  front : AllByRecursion (λ s. are_alike r s ≡ true) run
  front = (itself, run_front r others)

  split_chain : AllByRecursion (λ s. is_chain s ≡ true) (take (alike_len r others) others) × AllByRecursion (λ s. is_chain s ≡ true) behind
  split_chain = all_split (λ s. is_chain s ≡ true) (alike_len r others) others now.chain.1

  whole : now.done ++ (run ++ behind) ≡ rs
  whole = ap (λ ss. now.done ++ r ∷ ss) (take_drop (alike_len r others) others) ∙ now.whole

  -- what was done is less than what is left
  done_apart : AllByRecursion (λ d. are_alike r d ≡ false) now.done
  done_apart = all_more (λ d. AllByRecursion (λ s. chain_cmp d s ≡ Less) (r ∷ others)) (λ d. are_alike r d ≡ false) now.done (λ d h. apart_greater r d h.0) now.below

  -- the RRset of the run's owner and type
  pub run_is : rrset_in pointer_limit m rs r.owner r.rtype ≡ run_data m run
  run_is =
      let f = datum_of pointer_limit m r.owner r.rtype in
      ap (λ ss. sorted_data (filter_map f ss)) (sym whole)
      ∙ ap sorted_data
      (filter_map-append f now.done (run ++ behind)
      ∙ (λ i. data_other m r now.done done_apart i ++ filter_map f (run ++ behind))
      ∙ filter_map-append f run behind
      ∙ (λ i. data_alike m r run front (now.chain.0, split_chain.0) i ++ data_other m r behind (all_more (λ s. chain_cmp r s ≡ Less) (λ s. are_alike r s ≡ false) behind (λ s e. apart_less r s e) greater) i)
      ∙ append-nil (filter_map (canonical_data pointer_limit m) run))

  stands_is : stands_alone m apex rs r.rtype r.owner ≡ (has_place r.rtype apex r.owner && holds_one r.rtype (run_data m run))
  stands_is = alone_is m apex rs r.rtype r.owner (chain_of r now.chain.0) ∙ ap (λ ds. has_place r.rtype apex r.owner && holds_one r.rtype ds) run_is

  below_more : AllByRecursion (λ d. AllByRecursion (λ s. chain_cmp d s ≡ Less) behind) (now.done ++ run)
  below_more =
      all_joined (λ d. AllByRecursion (λ s. chain_cmp d s ≡ Less) behind) now.done run
      (all_parts (λ d s. chain_cmp d s ≡ Less) (r ∷ others) behind (λ Q h. (all_split Q (alike_len r others) others h.1).1) now.done now.below)
      (all_more (λ d. are_alike r d ≡ true) (λ d. AllByRecursion (λ s. chain_cmp d s ≡ Less) behind) run (λ d a. all_more (λ s. chain_cmp r s ≡ Less) (λ s. chain_cmp d s ≡ Less) behind (λ s e. less_alike d r s (alike_swap r d a) e) greater) front)

  under_less : AllByRecursion (λ (g : SignedRrset). AllByRecursion (λ s. sought_cmp (place_of g) (s.rtype, s.owner) ≡ Less) behind) gs
  under_less = all_parts (λ (g : SignedRrset) s. sought_cmp (place_of g) (s.rtype, s.owner) ≡ Less) (r ∷ others) behind (λ Q h. (all_split Q (alike_len r others) others h.1).1) gs now.under

  -- where the run is no RRset that stands alone
  pub run_none : (has_place r.rtype apex r.owner && holds_one r.rtype (run_data m run)) ≡ false → Gathering m apex rs behind gs
  run_none fails = record {
    done = now.done ++ run;
    whole = append_assoc now.done run behind ∙ whole;
    sorted = up_drop (alike_len r others) others others_up;
    chain = split_chain.1;
    below = below_more;
    ranked = now.ranked;
    under = under_less;
    each = now.each;
    all = all_joined (IsGathered m apex rs gs) now.done run now.all (all_more (λ d. are_alike r d ≡ true) (IsGathered m apex rs gs) run (λ d a c s. absurd (false≢true (sym (stands_is ∙ fails) ∙ sym (moved d a) ∙ s))) front);
  }
    where
      moved : (d : Spelled) → are_alike r d ≡ true → stands_alone m apex rs d.rtype d.owner ≡ stands_alone m apex rs r.rtype r.owner
      moved d a = let p = alike_parts r d a in ap (λ t. stands_alone m apex rs t d.owner) (sym p.0) ∙ alone_owner m rs apex r.rtype r.owner d.owner p.1

  -- and where it is one
  module _ (g : SignedRrset) (is : IsRun m apex r (run_data m run) g) where
    alone : stands_alone m apex rs r.rtype r.owner ≡ true
    alone = stands_is ∙ (λ i. is.place i && is.held i)

    is_alone : IsAlone m apex rs g
    is_alone = record {
      data_are = is.datas ∙ sym run_is ∙ (λ i. rrset_in pointer_limit m rs (sym is.owner i) (sym is.rtype i));
      alone = (λ i. stands_alone m apex rs (is.rtype i) (is.owner i)) ∙ alone;
      unverified = is.unverified;
    }

    own : (d : Spelled) → are_alike r d ≡ true → is_of d.owner d.rtype g ≡ true
    own d a =
        let p = alike_parts r d a in
        and_from _ _ (eq-eqb g.rtype d.rtype (is.rtype ∙ p.0)) (ap (same d.owner) is.owner ∙ same_swap r.owner d.owner p.1)

    place_is : place_of g ≡ (r.rtype, r.owner)
    place_is = (λ i. (is.rtype i, is.owner i))

    above_all : AllByRecursion (λ (x : SignedRrset). sought_cmp (place_of x) (place_of g) ≡ Less) gs
    above_all = all_more (λ (x : SignedRrset). AllByRecursion (λ s. sought_cmp (place_of x) (s.rtype, s.owner) ≡ Less) (r ∷ others)) (λ (x : SignedRrset). sought_cmp (place_of x) (place_of g) ≡ Less) gs (λ x h. ap (sought_cmp (place_of x)) place_is ∙ h.0) now.under

    pub run_more : Gathering m apex rs behind (gs ++ g ∷ [])
    run_more = record {
      done = now.done ++ run;
      whole = append_assoc now.done run behind ∙ whole;
      sorted = up_drop (alike_len r others) others others_up;
      chain = split_chain.1;
      below = below_more;
      ranked = ranked_push place_of sought_cmp sought_total gs g now.ranked above_all;
      under = all_push (λ (x : SignedRrset). AllByRecursion (λ s. sought_cmp (place_of x) (s.rtype, s.owner) ≡ Less) behind) gs g under_less (subst (λ p. AllByRecursion (λ s. sought_cmp p (s.rtype, s.owner) ≡ Less) behind) (sym place_is) (all_less r behind now.chain.0 split_chain.1 greater));
      each = all_push (IsAlone m apex rs) gs g now.each is_alone;
      all = all_joined (IsGathered m apex rs (gs ++ g ∷ [])) now.done run
          (all_more (IsGathered m apex rs gs) (IsGathered m apex rs (gs ++ g ∷ [])) now.done (λ d f c s. any_kept (is_of d.owner d.rtype) gs g (f c s)) now.all)
          (all_more (λ d. are_alike r d ≡ true) (IsGathered m apex rs (gs ++ g ∷ [])) run (λ d a c s. any_push (is_of d.owner d.rtype) gs g (own d a)) front);
    }
