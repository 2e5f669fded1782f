-- While the signatures hold that verify, and no other begins to, a judge says the same.
use Rattle.std.proofs.Common.{◌≡◌, ℕ, ◌+◌, ◌-◌, ◌<◌, ◌≤◌, Bool, true, false, not, ◌&&◌, ◌||◌, ◌==◌, List, [], ◌∷◌, ◌++◌, map, filter, length, refl, sym, ap, subst, ◌∙◌, inl, inr, arith}
use Rattle.std.specs.Prelude.{◌%◌, ◌/◌, Option, Some, None, Result, Ok, Err, is_some, nat_eq, if◌then◌else◌}
use Rattle.std.specs.List.{cons_option, filter_map, find}
use Rattle.std.specs.Option.{option_map}
use Rattle.std.proofs.lemmas.Bool.{and_from, and_parts, eq-eqb, eqb-true, false≢true, or_left, or_right}
use Rattle.definitions.specs.Dnskey.{Dnskey, dnskey_data}
use Rattle.definitions.specs.Name.{Name, at_or_above, labels_eq, low, same}
use Rattle.definitions.specs.Signing.{Fields, in_time, signed_octets}
use Rattle.definitions.specs.Zone.{Unsigned, sorted_data}
use Rattle.denial_laws.specs.Facts.{HashLink, Link, Rrset}
use Rattle.denial_laws.specs.NsecRules.{first_some}
use Rattle.messages.specs.Message.{AreOctets, Message, Spelled, message, nsec3_at, rrsig_at}
use Rattle.messages.specs.declared.error.MessageError.{MessageError}
use Rattle.messages.proofs.Lists.{Has, some_is}
use Rattle.messages.proofs.ZoneNames.{labels_eq-same, same_labels}
use Rattle.answer_scheme.specs.Answers.{Answers}
use Rattle.answer_scheme.specs.Moments.{second_of}
use Rattle.answer_judge_facts.specs.Trusted.{fits_key, is_signature, is_trusted, is_usable, labels_fit, signs}
use Rattle.answer_judge.specs.Judging.{Answer, JudgeInput, Refuses, Says, first_refusal}
use Rattle.answer_judge_facts.specs.declared.validity.Validity.{Validity}
use Rattle.answer_judge.specs.declared.verdict.Refusal.TheVariants as r
use Rattle.answer_judge.specs.Judged.{ds_authenticates_keys, judged, judged_answer, judged_bytes, judged_messages, judged_proof, keys_of, trusting}
use Rattle.answer_judge_facts.specs.Validity.{answer_seconds, held_for, idle_at, idle_for, key_seconds, least_or_max, seconds_of, wait_at}
use Rattle.answer_judge.specs.Lasts.{at_moment, validity_in_bytes, validity_in_messages, validity_of_input, VerdictsLast}
use Rattle.answer_judge_facts.specs.Sought.{Sought, answer_sought, is_alone, keys_sought}
use Rattle.answer_judge_facts.specs.Times.{Times, are_unlike, proof_times, times_at, times_of}
use Rattle.answer_judge_facts.specs.Verified.{Trusting, hash_link_at, hash_link_with, is_hash_alone, is_hash_link, is_link, is_verified, link_at, link_of, rrset_in, verified_by, verified_facts, verified_with, verifies_with}
use Rattle.answer_judge_facts.proofs.JudgeMarks.{by_is}
use Rattle.answer_judge_facts.proofs.JudgeTimes.{first_used, sought-owner}
use Rattle.answer_judge_facts.proofs.KeptItems.{has_map, kept_has}
use Rattle.answer_judge_facts.proofs.LeastOf.{has_behind, has_front, least_under}
use Rattle.answer_judge_facts.proofs.Seconds.{AreTimes, are_times, holds, later, still_held, still_idle}

-- ---- one signature

-- what is signed, by its parts: the RRset isn't empty, the labels fit, it holds, the signer is the apex, and it passes
abbrev passes_by : Bool → Bool → Bool → Bool → Bool → Bool
passes_by n l t s x = elim (n && (l && t && s)) [ false ↦ false | true ↦ x ]

still_fails : (n l s x before after : Bool) → (before ≡ false → after ≡ false) → passes_by n l before s x ≡ false → passes_by n l after s x ≡ false
still_fails n l s x false after f h = (λ i. passes_by n l (f refl i) s x) ∙ h
still_fails n l s x true true f h = h
still_fails n true s x true false f h = none n
  where
    none : (n : Bool) → passes_by n true false s x ≡ false
    none true = refl
    none false = refl
still_fails n false s x true false f h = none n
  where
    none : (n : Bool) → passes_by n false false s x ≡ false
    none true = refl
    none false = refl

passes_now : (n l s x t : Bool) → passes_by n l t s x ≡ true → t ≡ true
passes_now n l s x true h = refl
passes_now true true s x false h = absurd (false≢true h)
passes_now true false s x false h = absurd (false≢true h)
passes_now false l s x false h = absurd (false≢true h)

still_passes : (n l s x before after : Bool) → after ≡ true → passes_by n l before s x ≡ true → passes_by n l after s x ≡ true
still_passes n l s x before after e h = (λ i. passes_by n l (e i) s x) ∙ (λ i. passes_by n l (sym (passes_now n l s x before h) i) s x) ∙ h

-- ---- RRsets of a message

module _ (w : Trusting) (k : ℕ) (m : List ℕ) (d : ℕ) (octets : AreOctets m) (small : w.now < 4294967296) where
  -- the same, some seconds later
  abbrev after : Trusting
  after = record w { now = later w.now d }

  module _ (o : Name) (t : ℕ) (items : List (List ℕ)) where
    abbrev passes : List Dnskey → Fields → List ℕ → Bool
    passes keys f signature = elim (find (fits_key f) keys) [ None ↦ false | Some key ↦ w.answers.verifies key (signed_octets f o 1 items) signature ]

    abbrev by_read : ℕ → Bool → Option (Fields × List ℕ) → Bool
    by_read now b x = elim b [
      | false ↦ false
      | true ↦ elim x [ None ↦ false | Some f ↦ (f.0.covered == t) && signs w.answers w.apex w.keys now o items f.0 f.1 ]
    ]

    fails_later : (b : Bool) (x : Option (Fields × List ℕ)) → ((f : Fields × List ℕ) → b ≡ true → x ≡ Some f → (f.0.covered == t) ≡ true → in_time f.0 w.now ≡ false → in_time f.0 (later w.now d) ≡ false)
        → by_read w.now b x ≡ false → by_read (later w.now d) b x ≡ false
    fails_later false x idle h = refl
    fails_later true None idle h = refl
    fails_later true (Some f) idle h = go (f.0.covered == t) refl h
      where
        go : (c : Bool) → (f.0.covered == t) ≡ c → (c && signs w.answers w.apex w.keys w.now o items f.0 f.1) ≡ false → (c && signs w.answers w.apex w.keys (later w.now d) o items f.0 f.1) ≡ false
        go false e h = refl
        go true e h = still_fails (not (length items == 0)) (labels_fit w.apex o f.0) (same f.0.signer w.apex) (passes w.keys f.0 f.1) (in_time f.0 w.now) (in_time f.0 (later w.now d)) (idle f refl refl e) h

    -- a signature that verifies holds, and verifies as long as it holds
    verifies_later : (b : Bool) (x : Option (Fields × List ℕ)) → by_read w.now b x ≡ true
        → (f : Fields × List ℕ) × (x ≡ Some f) × (in_time f.0 w.now ≡ true) × (in_time f.0 (later w.now d) ≡ true → by_read (later w.now d) b x ≡ true)
    verifies_later false x h = absurd (false≢true h)
    verifies_later true None h = absurd (false≢true h)
    verifies_later true (Some f) h =
        let p = and_parts (f.0.covered == t) (signs w.answers w.apex w.keys w.now o items f.0 f.1) h in
        let n = not (length items == 0) in
        let l = labels_fit w.apex o f.0 in
        let s = same f.0.signer w.apex in (
          f,
          refl,
          passes_now n l s (passes w.keys f.0 f.1) (in_time f.0 w.now) p.1,
          λ e. and_from _ _ p.0 (still_passes n l s (passes w.keys f.0 f.1) (in_time f.0 w.now) (in_time f.0 (later w.now d)) e p.1),
        )

    abbrev gate : Spelled → Bool
    gate r = is_signature r && (r.class == 1) && same r.owner o

    -- of one record: where it does not hold, it does not later
    abbrev IsIdle : Spelled → Type 0
    IsIdle r = (f : Fields × List ℕ) → gate r ≡ true → rrsig_at k m r ≡ Some f → (f.0.covered == t) ≡ true → in_time f.0 w.now ≡ false → in_time f.0 (later w.now d) ≡ false

    abbrev with_bit : Bool → Spelled → Option Fields
    with_bit b r = elim b [ true ↦ option_map (λ f. f.0) (rrsig_at k m r) | false ↦ None ]

    abbrev first_of : Option Fields → Option Fields → Option Fields
    first_of x y = elim x [ None ↦ y | Some f ↦ Some f ]

    pub by_later : (rs : List Spelled) → ((r : Spelled) → Has rs r → IsIdle r) → ((f : Fields) → verified_by w k m rs o t items ≡ Some f → d ≤ held_for w.now (times_of f))
        → verified_by after k m rs o t items ≡ verified_by w k m rs o t items
    by_later [] idle held = refl
    by_later (r ∷ rs) idle held = go (verifies_with w k m o t items r) refl (by_later rs (λ s i. idle s (inr i)))
      where
        go : (b : Bool) → verifies_with w k m o t items r ≡ b
            → (((f : Fields) → verified_by w k m rs o t items ≡ Some f → d ≤ held_for w.now (times_of f)) → verified_by after k m rs o t items ≡ verified_by w k m rs o t items)
            → verified_by after k m (r ∷ rs) o t items ≡ verified_by w k m (r ∷ rs) o t items
        go false e behind =
            let never : verifies_with after k m o t items r ≡ false = fails_later (gate r) (rrsig_at k m r) (idle r (inl refl)) e in
            let rest = behind (λ f g. held f ((λ i. first_of (with_bit (e i) r) (verified_by w k m rs o t items)) ∙ g)) in
            (λ i. first_of (with_bit (never i) r) (verified_by after k m rs o t items)) ∙ rest ∙ (λ i. first_of (with_bit (sym e i) r) (verified_by w k m rs o t items))
        go true e behind =
            let v = verifies_later (gate r) (rrsig_at k m r) e in
            let first : verified_by w k m (r ∷ rs) o t items ≡ Some v.0.0 =
            (λ i. first_of (with_bit (e i) r) (verified_by w k m rs o t items)) ∙ (λ i. first_of (option_map (λ f. f.0) (v.1 i)) (verified_by w k m rs o t items)) in
            let still = still_held w.now d (times_of v.0.0) (are_times k m r v.0 octets v.1) small v.2 (held v.0.0 first) in
            let always : verifies_with after k m o t items r ≡ true = v.3 still in
            (λ i. first_of (with_bit (always i) r) (verified_by after k m rs o t items)) ∙ (λ i. first_of (option_map (λ f. f.0) (v.1 i)) (verified_by after k m rs o t items)) ∙ sym first

  -- ---- what is sought

  module _ (s : Sought) (rs : List Spelled) (alike : (a b : Name) (u : ℕ) → low a ≡ low b → s.is a u ≡ s.is b u) (waits : (x : ℕ) → Has (filter_map (wait_at w.now k m s) rs) x → d ≤ x) where
    abbrev wait_by : Bool → Option (Fields × List ℕ) → Spelled → Option ℕ
    wait_by b x r = elim b [ false ↦ None | true ↦ elim x [ None ↦ None | Some f ↦ if s.is r.owner f.0.covered then idle_at w.now (times_of f.0) else None ] ]

    idle_there : (o : Name) (u : ℕ) (items : List (List ℕ)) → s.is o u ≡ true → (r : Spelled) → Has rs r → IsIdle o u items r
    idle_there o u items sought r i f g e c n =
        let p = and_parts (is_signature r && (r.class == 1)) (same r.owner o) g in
        let kind : f.0.covered ≡ u = eqb-true f.0.covered u c in
        let here : s.is r.owner f.0.covered ≡ true = ap (s.is r.owner) kind ∙ alike r.owner o u (same_labels (low r.owner) (low o) p.1) ∙ sought in
        let is : wait_at w.now k m s r ≡ Some (idle_for w.now (times_of f.0)) =
        (λ j. wait_by (p.0 j) (e j) r) ∙ (λ j. if here j then idle_at w.now (times_of f.0) else None) ∙ (λ j. if n j then None else Some (idle_for w.now (times_of f.0))) in
        still_idle w.now d (times_of f.0) (are_times k m r f octets e) small n (waits (idle_for w.now (times_of f.0)) (kept_has (wait_at w.now k m s) rs r (idle_for w.now (times_of f.0)) i is))

    pub sought_later : (o : Name) (u : ℕ) (items : List (List ℕ)) → s.is o u ≡ true → ((f : Fields) → verified_by w k m rs o u items ≡ Some f → d ≤ held_for w.now (times_of f))
        → verified_by after k m rs o u items ≡ verified_by w k m rs o u items
    sought_later o u items sought held = by_later o u items rs (idle_there o u items sought) held

    pub verified_later : (o : Name) (u : ℕ) (items : List (List ℕ)) → s.is o u ≡ true → ((f : Fields) → verified_by w k m rs o u items ≡ Some f → d ≤ held_for w.now (times_of f))
        → is_verified after k m rs o u items ≡ is_verified w k m rs o u items
    verified_later o u items sought held = sym (by_is after k m rs o u items) ∙ ap is_some (sought_later o u items sought held) ∙ by_is w k m rs o u items

-- ---- the keys

module _ (w : Trusting) (k : ℕ) (m : List ℕ) (d : ℕ) (octets : AreOctets m) (small : w.now < 4294967296) (rs : List Spelled) (ks : List Dnskey) (within : (x : ℕ) → Has (key_seconds w k m rs ks) x → d ≤ x) where
  abbrev keys_data : List (List ℕ)
  keys_data = sorted_data (map dnskey_data ks)

  abbrev keys_by : Option Fields → List Times
  keys_by o = cons_option (option_map times_of o) []

  pub keys_later : is_verified (record w { now = later w.now d }) k m rs w.apex 48 keys_data ≡ is_verified w k m rs w.apex 48 keys_data
  keys_later =
      let s = keys_sought w.apex ks in
      let held = map (held_for w.now) (keys_by (verified_by w k m rs w.apex 48 keys_data)) in
      verified_later w k m d octets small s rs
      (λ a b u h. ap (λ n. (48 == u) && labels_eq n (low w.apex)) h)
      (λ x h. within x (has_behind held (filter_map (wait_at w.now k m s) rs) x h))
      w.apex 48 keys_data (labels_eq-same (low w.apex) (low w.apex) refl)
      (λ f e. within (held_for w.now (times_of f)) (has_front held (filter_map (wait_at w.now k m s) rs) (held_for w.now (times_of f))
      (has_map (held_for w.now) (keys_by (verified_by w k m rs w.apex 48 keys_data)) (times_of f) (subst (λ o. Has (keys_by o) (times_of f)) (sym e) (inl refl)))))

-- ---- the answer

under_front : (n x y : Bool) → (n ≡ true → x ≡ y) → (n && x) ≡ (n && y)
under_front true x y f = f refl
under_front false x y f = refl

module _ (w : Trusting) (k : ℕ) (m : List ℕ) (d : ℕ) (octets : AreOctets m) (small : w.now < 4294967296) (rs : List Spelled) (q : Name) (t : ℕ) (within : (x : ℕ) → Has (answer_seconds w k m rs q t) x → d ≤ x) where
  abbrev s : Sought
  s = answer_sought k m w.apex rs q t

  abbrev next : Trusting
  next = record w { now = later w.now d }

  waits_within : (x : ℕ) → Has (filter_map (wait_at w.now k m s) rs) x → d ≤ x
  waits_within x h = within x (has_behind (map (held_for w.now) (proof_times w k m rs q t)) (filter_map (wait_at w.now k m s) rs) x h)

  first_held : (o : Name) (u : ℕ) → s.is o u ≡ true → (f : Fields) → verified_by w k m rs o u (rrset_in k m rs o u) ≡ Some f → d ≤ held_for w.now (times_of f)
  first_held o u sought f e = within (held_for w.now (times_of f)) (has_front (map (held_for w.now) (proof_times w k m rs q t)) (filter_map (wait_at w.now k m s) rs) (held_for w.now (times_of f))
      (has_map (held_for w.now) (proof_times w k m rs q t) (times_of f) (first_used w k m rs q t o u sought f e)))

  by_next : (o : Name) (u : ℕ) → s.is o u ≡ true → verified_by next k m rs o u (rrset_in k m rs o u) ≡ verified_by w k m rs o u (rrset_in k m rs o u)
  by_next o u sought = sought_later w k m d octets small s rs (λ a b v h. sought-owner k m w.apex rs q t a b v h) waits_within o u (rrset_in k m rs o u) sought (first_held o u sought)

  is_next : (o : Name) (u : ℕ) → s.is o u ≡ true → is_verified next k m rs o u (rrset_in k m rs o u) ≡ is_verified w k m rs o u (rrset_in k m rs o u)
  is_next o u sought = sym (by_is next k m rs o u (rrset_in k m rs o u)) ∙ ap is_some (by_next o u sought) ∙ by_is w k m rs o u (rrset_in k m rs o u)

  -- the RRset that was asked for
  asked_sought : s.is q t ≡ true
  asked_sought = or_right (((47 == t) && is_alone k m w.apex rs q) || ((50 == t) && is_hash_alone k m w.apex rs q)) ((t == t) && same q q) (and_from _ _ (eq-eqb t t refl) (labels_eq-same (low q) (low q) refl))

  -- records of chains
  link_next : (r : Spelled) → is_link next k m rs r ≡ is_link w k m rs r
  link_next r =
      let front = (r.rtype == 47) && (r.class == 1) && at_or_above w.apex r.owner && (length (rrset_in k m rs r.owner 47) == 1) in
      under_front front (is_verified next k m rs r.owner 47 (rrset_in k m rs r.owner 47)) (is_verified w k m rs r.owner 47 (rrset_in k m rs r.owner 47)) (λ e.
      let p = and_parts ((r.rtype == 47) && (r.class == 1) && at_or_above w.apex r.owner) (length (rrset_in k m rs r.owner 47) == 1) e in
      let a = and_parts ((r.rtype == 47) && (r.class == 1)) (at_or_above w.apex r.owner) p.0 in
      let alone : is_alone k m w.apex rs r.owner ≡ true = and_from _ _ a.1 p.1 in
      is_next r.owner 47 (or_left (is_alone k m w.apex rs r.owner || false) ((t == 47) && same r.owner q) (or_left (is_alone k m w.apex rs r.owner) false alone)))

  hash_link_next : (r : Spelled) → is_hash_link next k m rs r ≡ is_hash_link w k m rs r
  hash_link_next r =
      let front = (r.rtype == 50) && (r.class == 1) && is_hash_alone k m w.apex rs r.owner in
      under_front front (is_verified next k m rs r.owner 50 (rrset_in k m rs r.owner 50)) (is_verified w k m rs r.owner 50 (rrset_in k m rs r.owner 50)) (λ e.
      let p = and_parts ((r.rtype == 50) && (r.class == 1)) (is_hash_alone k m w.apex rs r.owner) e in
      is_next r.owner 50 (or_left (is_hash_alone k m w.apex rs r.owner) ((t == 50) && same r.owner q) p.1))

  pub facts_next : verified_facts next k m rs q t ≡ verified_facts w k m rs q t
  facts_next = λ i. record {
    rrset = option_map (λ (f : Fields). record { datas = rrset_in k m rs q t; labels = f.labels }) (by_next q t asked_sought i);
    links = filter_map (λ r. elim (link_next r i) as (λ _. Option Link) [ true ↦ link_of k m r | false ↦ None ]) rs;
    hash_links = filter_map (λ r. elim (hash_link_next r i) as (λ _. Option HashLink) [ true ↦ option_map (hash_link_with r.owner) (nsec3_at m r) | false ↦ None ]) rs;
  }

  -- their times
  time_next : (r : Spelled) → times_at next k m rs q t r ≡ times_at w k m rs q t r
  time_next r = go ((r.class == 1) && s.is r.owner r.rtype) refl
    where
      go : (b : Bool) → ((r.class == 1) && s.is r.owner r.rtype) ≡ b
          → elim b as (λ _. Option Times) [ true ↦ option_map times_of (verified_by next k m rs r.owner r.rtype (rrset_in k m rs r.owner r.rtype)) | false ↦ None ]
          ≡ elim b as (λ _. Option Times) [ true ↦ option_map times_of (verified_by w k m rs r.owner r.rtype (rrset_in k m rs r.owner r.rtype)) | false ↦ None ]
      go true e = ap (option_map times_of) (by_next r.owner r.rtype (and_parts (r.class == 1) (s.is r.owner r.rtype) e).1)
      go false e = refl

  pub times_next : are_unlike (proof_times next k m rs q t) ≡ are_unlike (proof_times w k m rs q t)
  times_next = λ i. are_unlike (filter_map (λ r. time_next r i) rs)

-- ---- a judgement

module _ (a : Answers) (k : ℕ) (h : JudgeInput) (d : ℕ) (small : h.now < 4294967296) (of_keys : AreOctets h.dnskey_bytes) (of_answer : AreOctets h.answer_bytes) where
  abbrev moved : JudgeInput
  moved = record h { now = later h.now d }

  messages_later : (keys answer : Message) → d ≤ (validity_in_messages a k h keys answer).seconds → judged_messages a k moved keys answer ≡ judged_messages a k h keys answer
  messages_later keys answer few =
      let ks = keys_of h keys in
      let named = trusting a h (filter (is_trusted a h.apex h.ds) ks) in
      let usable = trusting a h (filter is_usable ks) in
      let first = key_seconds named k h.dnskey_bytes keys.records ks in
      let second = answer_seconds usable k h.answer_bytes answer.records h.asked.name h.asked.rtype in
      let each : (x : ℕ) → Has (first ++ second) x → d ≤ x = λ x i. omega (arith, few, least_under 4294967295 (first ++ second) x i) in
      let chained : ds_authenticates_keys a k moved keys ≡ ds_authenticates_keys a k h keys = keys_later named k h.dnskey_bytes d of_keys small keys.records ks (λ x i. each x (has_front first second x i)) in
      let within : (x : ℕ) → Has second x → d ≤ x = λ x i. each x (has_behind first second x i) in
      let facts = facts_next usable k h.answer_bytes d of_answer small answer.records h.asked.name h.asked.rtype within in
      let times = times_next usable k h.answer_bytes d of_answer small answer.records h.asked.name h.asked.rtype within in
      λ i. elim (chained i) as (λ _. Answer) [ true ↦ judged_proof a h (facts i) (times i) | false ↦ Refuses r.NoTrustedKey ]

  abbrev judged_by : JudgeInput → Result Message MessageError → Result Message MessageError → Answer
  judged_by g x y = elim x [
    | Err e ↦ Refuses r.BadDnskeyMessage
    | Ok keys ↦ elim y [ Err e ↦ Refuses r.BadAnswerMessage | Ok answer ↦ judged_messages a k g keys answer ]
  ]

  abbrev validity_by : Result Message MessageError → Result Message MessageError → Option Validity
  validity_by x y = elim x [
    | Err e ↦ None
    | Ok keys ↦ elim y [ Err e ↦ None | Ok answer ↦ Some (validity_in_messages a k h keys answer) ]
  ]

  bytes_later : (x y : Result Message MessageError) (l : Validity) → validity_by x y ≡ Some l → d ≤ l.seconds → judged_by moved x y ≡ judged_by h x y
  bytes_later (Err e) y l is few = refl
  bytes_later (Ok keys) (Err e) l is few = refl
  bytes_later (Ok keys) (Ok answer) l is few =
      let same = some_is (validity_in_messages a k h keys answer) l is in
      messages_later keys answer (subst (λ (l : Validity). d ≤ l.seconds) (sym same) few)

  abbrev said_by : JudgeInput → Bool → Answer
  said_by g empty = elim (first_refusal k h) [
    | Some e ↦ Refuses e
    | None ↦ if empty then Says Unsigned else judged_bytes a k g
  ]

  pub later_alike : (l : Validity) → validity_of_input a k h ≡ Some l → d ≤ l.seconds → judged a k moved ≡ judged a k h
  later_alike l is few = go (nat_eq (length h.ds) 0) is
    where
      go : (empty : Bool) → (if empty then None else validity_in_bytes a k h) ≡ Some l → said_by moved empty ≡ said_by h empty
      go true e = refl
      go false e = λ i. elim (first_refusal k h) as (λ _. Answer) [ Some e ↦ Refuses e | None ↦ bytes_later (message k h.dnskey_bytes) (message k h.answer_bytes) l e few i ]

-- the second of a later moment
seconds_later : (at next : ℕ) → at ≤ next → second_of next ≡ later (second_of at) (next / 1000000000 - at / 1000000000)
seconds_later at next h = omega (arith, h)

pub verdicts_last : VerdictsLast
verdicts_last a k h at next l keys answer is after few =
    let d = next / 1000000000 - at / 1000000000 in
    let moved = seconds_later at next after in
    ap (λ n. judged a k (record h { now = n })) moved ∙ later_alike a k (at_moment at h) d (omega arith) keys answer l is (omega (arith, few))
