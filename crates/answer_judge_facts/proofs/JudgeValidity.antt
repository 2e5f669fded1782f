-- How long what verified groups lasts is how long what a message's proof rests on does.
use Rattle.std.proofs.Common.{◌≡◌, ℕ, Bool, true, false, ◌&&◌, ◌||◌, ◌==◌, List, [], ◌∷◌, ◌++◌, map, refl, sym, ap, subst, ◌∙◌, ⊎_elim}
use Rattle.std.specs.Prelude.{Option, Some, None, is_some, if◌then◌else◌}
use Rattle.std.specs.List.{AllByRecursion, cons_option, filter_map, list_any}
use Rattle.std.specs.Option.{option_map}
use Rattle.std.proofs.lemmas.Bool.{and_parts, eqb-true}
use Rattle.definitions.specs.Dnskey.{Dnskey, dnskey_data}
use Rattle.definitions.specs.Limits.{pointer_limit}
use Rattle.definitions.specs.Name.{Name, low, same}
use Rattle.definitions.specs.Signing.{Fields}
use Rattle.definitions.specs.Zone.{sorted_data}
use Rattle.messages.specs.Message.{Spelled, rrsig_at}
use Rattle.messages.proofs.Lists.{Has, list_any-map}
use Rattle.messages.proofs.ZoneNames.{same_labels}
use Rattle.answer_judge_keys.specs.Trusted.{is_signature}
use Rattle.answer_judge_facts.specs.Validity.{answer_seconds, answer_ttls, held_for, idle_at, key_seconds, least_or_max, original_in, original_of, original_ttl, own_in, own_ttl, seconds_in, seconds_of, ttls_in, wait_at, wait_in}
use Rattle.answer_judge_facts.specs.Marked.{data_in, is_of, is_proved, marked, or_first, signed_of, times_by, times_in}
use Rattle.answer_judge_facts.specs.Sought.{Sought, answer_sought, keys_sought}
use Rattle.answer_judge_facts.specs.Times.{Times, proof_times, times_of}
use Rattle.answer_judge_facts.specs.Verified.{Trusting, is_verified, rrset_in, verified_by}
use Rattle.answer_judge_facts.specs.declared.groups.SignedRrset.{SignedRrset}
use Rattle.answer_judge_facts.specs.declared.groups.Signed.{Signed}
use Rattle.answer_judge_facts.proofs.JudgeCase.{is_verified-owner}
use Rattle.answer_judge_facts.proofs.JudgeCounted.{AreSought, any_alike}
use Rattle.answer_judge_facts.proofs.JudgeMarks.{by_is, marked_is}
use Rattle.answer_judge_facts.proofs.JudgeSought.{keys_are}
use Rattle.answer_judge_facts.proofs.JudgeTimes.{marked_said, times_to_groups, times_to_records, to_groups, to_records}
use Rattle.answer_judge_facts.proofs.KeptItems.{has_from_map, has_map}
use Rattle.answer_judge_facts.proofs.LeastOf.{has_behind, has_either, has_front, least_alike}

-- ---- what is sought, by groups

-- of groups that are marked the same are of an owner and a type
marked_of : (w : Trusting) (m : List ℕ) (rs : List Spelled) (o : Name) (t : ℕ) (gs : List SignedRrset) → list_any (is_of o t) (map (marked w m rs) gs) ≡ list_any (is_of o t) gs
marked_of w m rs o t gs = list_any-map (is_of o t) (marked w m rs) gs

and_swap : (a b : Bool) → (a && b) ≡ (b && a)
and_swap true true = refl
and_swap true false = refl
and_swap false true = refl
and_swap false false = refl

module _ (w : Trusting) (m : List ℕ) (rs : List Spelled) (s : Sought) (gs : List SignedRrset) (a : AreSought s gs) where
  -- signatures that don't hold
  waits_are : filter_map (wait_in w.now m (map (marked w m rs) gs)) rs ≡ filter_map (wait_at w.now pointer_limit m s) rs
  waits_are = λ i. filter_map (λ r. elim (is_signature r && (r.class == 1)) as (λ _. Option ℕ) [
    | false ↦ None
    | true ↦ elim (rrsig_at pointer_limit m r) as (λ _. Option ℕ) [
      | None ↦ None
      | Some f ↦ if (marked_of w m rs r.owner f.0.covered gs ∙ sym (a.found r.owner f.0.covered)) i then idle_at w.now (times_of f.0) else None
    ]
  ]) rs

  -- an RRset that is verified
  each_proved : (o : Name) (t : ℕ) (xs : List SignedRrset) → AllByRecursion (λ g. is_of o t g ≡ true → data_in g ≡ s.datas o t) xs → AllByRecursion (λ g. g.verified ≡ None) xs
      → AllByRecursion (λ g. is_of o t g ≡ true → is_some (marked w m rs g).verified ≡ is_verified w pointer_limit m rs o t (s.datas o t)) xs
  each_proved o t [] d v = tt
  each_proved o t (g ∷ xs) d v = (
    (λ is.
        let p = and_parts (g.rtype == t) (same o g.owner) is in
        let owner : low g.owner ≡ low o = sym (same_labels (low o) (low g.owner) p.1) in
        let kind : g.rtype ≡ t = eqb-true g.rtype t p.0 in
        let items = d.0 is in
        marked_is w m rs g
        ∙ (λ i. is_some (v.0 i) || is_verified w pointer_limit m rs g.owner (kind i) (items i))
        ∙ is_verified-owner w pointer_limit m rs g.owner o t (s.datas o t) owner),
    each_proved o t xs d.1 v.1,
  )

  proved_any : (o : Name) (t : ℕ) → list_any (is_proved o t) (map (marked w m rs) gs) ≡ (s.is o t && is_verified w pointer_limit m rs o t (s.datas o t))
  proved_any o t =
      list_any-map (is_proved o t) (marked w m rs) gs
      ∙ (λ i. list_any (λ g. and_swap (is_some (marked w m rs g).verified) (is_of o t g) i) gs)
      ∙ any_alike (is_of o t) (λ g. is_some (marked w m rs g).verified) (is_verified w pointer_limit m rs o t (s.datas o t)) gs (each_proved o t gs (a.datas o t) a.fresh)
      ∙ ap (λ b. b && is_verified w pointer_limit m rs o t (s.datas o t)) (sym (a.found o t))

-- ---- joined lists

both_front : {A : Type 0} (xs ys zs : List A) → ((x : A) → Has xs x → Has ys x) → (x : A) → Has (xs ++ zs) x → Has (ys ++ zs) x
both_front xs ys zs f x h = ⊎_elim (λ i. has_front ys zs x (f x i)) (λ i. has_behind ys zs x i) (has_either xs zs x h)

least_front : (xs ys zs us : List ℕ) → zs ≡ us → ((x : ℕ) → Has xs x → Has ys x) → ((x : ℕ) → Has ys x → Has xs x) → least_or_max (xs ++ zs) ≡ least_or_max (ys ++ us)
least_front xs ys zs us e to from = ap (λ vs. least_or_max (xs ++ vs)) e ∙ least_alike 4294967295 (xs ++ us) (ys ++ us) (both_front xs ys us to) (both_front ys xs us from)

mapped_has : {A B : Type 0} (f : A → B) (xs ys : List A) → ((x : A) → Has xs x → Has ys x) → (y : B) → Has (map f xs) y → Has (map f ys) y
mapped_has f xs ys to y h =
    let k = has_from_map f xs y h in
    subst (Has (map f ys)) (sym k.2) (has_map f ys k.0 (to k.0 k.1))

-- ---- an answer

-- what is kept of an RRset that is sought and verified
kept_if : (c s : Bool) (n : ℕ) (v : Option Fields) → (if c && (s && is_some v) then Some n else None) ≡ elim (c && s) as (λ _. Option ℕ) [ true ↦ option_map (λ f. n) v | false ↦ None ]
kept_if true true n (Some f) = refl
kept_if true true n None = refl
kept_if true false n v = refl
kept_if false s n v = refl

module _ (w : Trusting) (m : List ℕ) (rs : List Spelled) (q : Name) (t : ℕ) (gs : List SignedRrset) (a : AreSought (answer_sought pointer_limit m w.apex rs q t) gs) where
  abbrev sought : Sought
  sought = answer_sought pointer_limit m w.apex rs q t

  own_is : (r : Spelled) → own_in (map (marked w m rs) gs) r ≡ own_ttl w pointer_limit m rs q t r
  own_is r =
      let items = rrset_in pointer_limit m rs r.owner r.rtype in
      (λ i. if (r.class == 1) && (proved_any w m rs sought gs a r.owner r.rtype i) then Some r.ttl else None)
      ∙ (λ i. if (r.class == 1) && (sought.is r.owner r.rtype && sym (by_is w pointer_limit m rs r.owner r.rtype items) i) then Some r.ttl else None)
      ∙ kept_if (r.class == 1) (sought.is r.owner r.rtype) r.ttl (verified_by w pointer_limit m rs r.owner r.rtype items)

  pub ttls_are : (new : List SignedRrset) → new ≡ map (marked w m rs) gs → least_or_max (ttls_in new rs) ≡ least_or_max (answer_ttls w pointer_limit m rs q t)
  ttls_are new n =
      ap (λ ys. least_or_max (ttls_in ys rs)) n
      ∙ least_front (filter_map original_in (map (marked w m rs) gs)) (filter_map (original_ttl w pointer_limit m rs q t) rs) (filter_map (own_in (map (marked w m rs) gs)) rs) (filter_map (own_ttl w pointer_limit m rs q t) rs)
      (λ i. filter_map (λ r. own_is r i) rs)
      (to_records w m rs q t gs a (λ f. f.ttl) original_of (λ f. refl)) (to_groups w m rs q t gs a (λ f. f.ttl) original_of (λ f. refl))

  pub seconds_are : (new : List SignedRrset) → new ≡ map (marked w m rs) gs → least_or_max (seconds_in w.now m new rs) ≡ least_or_max (answer_seconds w pointer_limit m rs q t)
  seconds_are new n =
      let ts = filter_map times_by (map (marked w m rs) gs) in
      let us = proof_times w pointer_limit m rs q t in
      ap (λ ys. least_or_max (seconds_in w.now m ys rs)) n
      ∙ least_front (map (held_for w.now) ts) (map (held_for w.now) us) (filter_map (wait_in w.now m (map (marked w m rs) gs)) rs) (filter_map (wait_at w.now pointer_limit m sought) rs) (waits_are w m rs sought gs a)
      (mapped_has (held_for w.now) ts us (times_to_records w m rs q t gs a)) (mapped_has (held_for w.now) us ts (times_to_groups w m rs q t gs a))

-- ---- the keys

pub key_seconds_are : (w : Trusting) (m : List ℕ) (rs : List Spelled) (ks : List Dnskey) (g : SignedRrset) (new : List SignedRrset) → g.owner ≡ w.apex → g.rtype ≡ 48 → data_in g ≡ sorted_data (map dnskey_data ks) → g.verified ≡ None → new ≡ marked w m rs g ∷ []
    → seconds_in w.now m new rs ≡ key_seconds w pointer_limit m rs ks
key_seconds_are w m rs ks g new o t d v n =
    let a = keys_are w.apex ks g o t d v in
    let said : times_by (marked w m rs g) ≡ option_map times_of (verified_by w pointer_limit m rs w.apex 48 (sorted_data (map dnskey_data ks))) =
    marked_said times_of times_in (λ f. refl) g.verified (verified_by w pointer_limit m rs g.owner g.rtype (data_in g)) v
    ∙ (λ i. option_map times_of (verified_by w pointer_limit m rs (o i) (t i) (d i))) in
    ap (λ ys. seconds_in w.now m ys rs) n
    ∙ (λ i. map (held_for w.now) (cons_option (said i) []) ++ waits_are w m rs (keys_sought w.apex ks) (g ∷ []) a i)
