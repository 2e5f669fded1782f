-- Steps of the rules: what is decided and hashed behind a name that was hashed, in the words of what comes before it.
use Rattle.std.proofs.Common.{◌≡◌, ℕ, Bool, true, false, List, [], ◌∷◌, refl, sym, ap, ◌∙◌, subst}
use Rattle.std.specs.Prelude.{Option, Some, None, Result, Ok, Err, IfOk}
use Rattle.std.specs.List.{list_any}
use Rattle.std.specs.Option.{option_map}
use Rattle.definitions.specs.Name.{Name, low, same}
use Rattle.definitions.specs.Zone.{Verdict, star_under}
use Rattle.denial_nsec3_hash.specs.declared.hasher.HashError.{HashError}
use Rattle.denial_laws.specs.Facts.{HashLink}
use Rattle.denial_laws.specs.NsecRules.{first_some, or_else}
use Rattle.denial_laws.specs.Nsec3Rules.{asks_star, at_hash, beyond, by_closest_encloser, cut_above, enclosed, encloses, hash_denied, hashed_climbing, hashed_denied, hashed_enclosed, is_matched, star_at}
use Rattle.answer_scheme.specs.Answers.{Answers}
use Rattle.answer_judge_rules.specs.Hashing.{fails_as, hash_as, hashed_beyond, HashesInTurn, open_among}
use Rattle.answer_judge_rules.specs.Rules.{verdict_of}
use Rattle.answer_judge_rules.specs.declared.verdict.Verdict.{Verdict as CodeVerdict}
use Rattle.answer_judge_rules.proofs.Climbs.{climbed_to, enclosed_so, hashed_enclosed_so, hashed_out, hashed_to}
use Rattle.answer_judge_rules.proofs.Gaps.{beyond_gaps, said_asked, said_unasked}
use Rattle.answer_judge_rules.proofs.InTurn.{behind, err_stopped, none}

abbrev pub Answered : Type 0
Answered = Result (Option CodeVerdict) HashError

abbrev pub Says : Answered → Option Verdict → Type 0
Says r v = IfOk r (λ o. option_map verdict_of o ≡ v)

-- checks that answer as before
pub as_before : (first : HashLink) (n : Name) (a b : Answers) (h : List ℕ) → b ≡ a → h ≡ hash_as a.hash first n → h ≡ hash_as b.hash first n
as_before first n a b h e k = k ∙ ap (λ (x : Answers). hash_as x.hash first n) (sym e)

-- ---- a parent that was hashed

module _ (apex : Name) (first : HashLink) (fs : List HashLink) (q p : Name) (l : List ℕ) (a b : Answers) (h : List ℕ) (alike : b ≡ a) (child : q ≡ l ∷ p) (apart : same q apex ≡ false) (is : h ≡ hash_as a.hash first (low p)) where
  at_parent : (m : Bool) → is_matched fs h ≡ m → is_matched fs (hash_as a.hash first (low p)) ≡ m
  at_parent m e = ap (is_matched fs) (sym is) ∙ e

  pub found : (t : ℕ) (r : Answered) → is_matched fs h ≡ true → Says r (enclosed apex (hash_as b.hash first) q p t fs) → Says r (by_closest_encloser apex (hash_as a.hash first) q t fs)
  found t r m s = subst (λ x. Says r x)
      (ap (λ (x : Answers). enclosed apex (hash_as x.hash first) q p t fs) alike ∙ sym (climbed_to apex (hash_as a.hash first) fs q p l t true child apart (at_parent true m))) s

  pub passed : (t : ℕ) (r : Answered) → is_matched fs h ≡ false → Says r (by_closest_encloser apex (hash_as b.hash first) p t fs) → Says r (by_closest_encloser apex (hash_as a.hash first) q t fs)
  passed t r m s = subst (λ x. Says r x)
      (ap (λ (x : Answers). by_closest_encloser apex (hash_as x.hash first) p t fs) alike ∙ sym (climbed_to apex (hash_as a.hash first) fs q p l t false child apart (at_parent false m))) s

  pub hashed_found : {T : Type 0} (before mid after : ℕ) (parent : T) (r : Answered) → is_matched fs h ≡ true
      → HashesInTurn (fails_as a.hash first) (p ∷ []) before mid (Ok parent)
      → HashesInTurn (fails_as b.hash first) (hashed_enclosed apex (hash_as b.hash first) q p fs) mid after r
      → HashesInTurn (fails_as a.hash first) (hashed_climbing apex (hash_as a.hash first) q fs) before after r
  hashed_found before mid after parent r m one rest = subst (λ ns. HashesInTurn (fails_as a.hash first) ns before after r)
      (sym (hashed_to apex (hash_as a.hash first) fs q p l true child apart (at_parent true m)))
      (behind (fails_as a.hash first) p (hashed_enclosed apex (hash_as a.hash first) q p fs) before mid after parent r one
      (subst (λ (x : Answers). HashesInTurn (fails_as x.hash first) (hashed_enclosed apex (hash_as x.hash first) q p fs) mid after r) alike rest))

  pub hashed_passed : {T : Type 0} (before mid after : ℕ) (parent : T) (r : Answered) → is_matched fs h ≡ false
      → HashesInTurn (fails_as a.hash first) (p ∷ []) before mid (Ok parent)
      → HashesInTurn (fails_as b.hash first) (hashed_climbing apex (hash_as b.hash first) p fs) mid after r
      → HashesInTurn (fails_as a.hash first) (hashed_climbing apex (hash_as a.hash first) q fs) before after r
  hashed_passed before mid after parent r m one rest = subst (λ ns. HashesInTurn (fails_as a.hash first) ns before after r)
      (sym (hashed_to apex (hash_as a.hash first) fs q p l false child apart (at_parent false m)))
      (behind (fails_as a.hash first) p (hashed_climbing apex (hash_as a.hash first) p fs) before mid after parent r one
      (subst (λ (x : Answers). HashesInTurn (fails_as x.hash first) (hashed_climbing apex (hash_as x.hash first) p fs) mid after r) alike rest))

-- a parent that was not hashed
pub hashed_stopped : (T : Type 0) (apex : Name) (hash : Name → List ℕ) (fails : Name → Bool) (fs : List HashLink) (q p : Name) (l : List ℕ) → q ≡ l ∷ p → same q apex ≡ false
    → (before after : ℕ) (e y : HashError) (r : Answered) → r ≡ Err y → y ≡ e
    → HashesInTurn {T = T} fails (p ∷ []) before after (Err e)
    → HashesInTurn fails (hashed_climbing apex hash q fs) before after r
hashed_stopped T apex hash fails fs q p l child apart before after e y r was same_error one =
    let m : Bool = is_matched fs (hash (low p)) in
    subst (λ ns. HashesInTurn fails ns before after r) (sym (hashed_to apex hash fs q p l m child apart refl))
    (err_stopped T fails p (elim m as (λ _. List Name) [ true ↦ hashed_enclosed apex hash q p fs | false ↦ hashed_climbing apex hash p fs ]) before after e y r was same_error one)

-- the apex, and the root
pub hashed_ended : (apex : Name) (hash : Name → List ℕ) (fails : Name → Bool) (fs : List HashLink) (q : Name) (n : ℕ) (v : Option CodeVerdict) → same q apex ≡ true → HashesInTurn fails (hashed_climbing apex hash q fs) n n (Ok v)
hashed_ended apex hash fails fs q n v e = subst (λ ns. HashesInTurn fails ns n n (Ok v)) (sym (hashed_out apex hash fs q e)) (none fails n v)

pub climbed_root : (apex : Name) (hash : Name → List ℕ) (fs : List HashLink) (q : Name) (t : ℕ) → q ≡ [] → by_closest_encloser apex hash q t fs ≡ None
climbed_root apex hash fs q t e = ap (λ n. by_closest_encloser apex hash n t fs) e

pub hashed_root : (apex : Name) (hash : Name → List ℕ) (fails : Name → Bool) (fs : List HashLink) (q : Name) (n : ℕ) (v : Option CodeVerdict) → q ≡ [] → HashesInTurn fails (hashed_climbing apex hash q fs) n n (Ok v)
hashed_root apex hash fails fs q n v e = subst (λ ns. HashesInTurn fails ns n n (Ok v)) (sym (ap (λ m. hashed_climbing apex hash m fs) e)) (none fails n v)

-- ---- the name itself

module _ (apex : Name) (first : HashLink) (fs : List HashLink) (q : Name) (a b : Answers) (h : List ℕ) (alike : b ≡ a) (is : h ≡ hash_as a.hash first (low q)) where
  at_itself : (m : Bool) → is_matched fs h ≡ m → is_matched fs (hash_as a.hash first (low q)) ≡ m
  at_itself m e = ap (is_matched fs) (sym is) ∙ e

  chosen : (t : ℕ) (m : Bool) → is_matched fs h ≡ m → hash_denied apex (hash_as a.hash first) q t fs ≡ (elim m as (λ _. Option Verdict) [ true ↦ first_some (at_hash apex q t (hash_as a.hash first (low q))) fs | false ↦ by_closest_encloser apex (hash_as a.hash first) q t fs ])
  chosen t m e = ap (λ (x : Bool). elim x as (λ _. Option Verdict) [ true ↦ first_some (at_hash apex q t (hash_as a.hash first (low q))) fs | false ↦ by_closest_encloser apex (hash_as a.hash first) q t fs ]) (at_itself m e)

  names : (m : Bool) → is_matched fs h ≡ m → hashed_denied apex (hash_as a.hash first) q fs ≡ q ∷ (elim m as (λ _. List Name) [ true ↦ [] | false ↦ hashed_climbing apex (hash_as a.hash first) q fs ])
  names m e = ap (λ (x : Bool). q ∷ (elim x as (λ _. List Name) [ true ↦ [] | false ↦ hashed_climbing apex (hash_as a.hash first) q fs ])) (at_itself m e)

  pub matched : (t : ℕ) → is_matched fs h ≡ true → first_some (at_hash apex q t h) fs ≡ hash_denied apex (hash_as a.hash first) q t fs
  matched t m = ap (λ k. first_some (at_hash apex q t k) fs) is ∙ sym (chosen t true m)

  pub hashed_matched : {T : Type 0} (before mid : ℕ) (name : T) (v : Option CodeVerdict) → is_matched fs h ≡ true
      → HashesInTurn (fails_as a.hash first) (q ∷ []) before mid (Ok name)
      → HashesInTurn (fails_as a.hash first) (hashed_denied apex (hash_as a.hash first) q fs) before mid (Ok v)
  hashed_matched before mid name v m one = subst (λ ns. HashesInTurn (fails_as a.hash first) ns before mid (Ok v)) (sym (names true m)) one

  pub unmatched : (t : ℕ) (r : Answered) → is_matched fs h ≡ false → Says r (by_closest_encloser apex (hash_as b.hash first) q t fs) → Says r (hash_denied apex (hash_as a.hash first) q t fs)
  unmatched t r m s = subst (λ x. Says r x) (ap (λ (x : Answers). by_closest_encloser apex (hash_as x.hash first) q t fs) alike ∙ sym (chosen t false m)) s

  pub hashed_unmatched : {T : Type 0} (before mid after : ℕ) (name : T) (r : Answered) → is_matched fs h ≡ false
      → HashesInTurn (fails_as a.hash first) (q ∷ []) before mid (Ok name)
      → HashesInTurn (fails_as b.hash first) (hashed_climbing apex (hash_as b.hash first) q fs) mid after r
      → HashesInTurn (fails_as a.hash first) (hashed_denied apex (hash_as a.hash first) q fs) before after r
  hashed_unmatched before mid after name r m one rest = subst (λ ns. HashesInTurn (fails_as a.hash first) ns before after r) (sym (names false m))
      (behind (fails_as a.hash first) q (hashed_climbing apex (hash_as a.hash first) q fs) before mid after name r one
      (subst (λ (x : Answers). HashesInTurn (fails_as x.hash first) (hashed_climbing apex (hash_as x.hash first) q fs) mid after r) alike rest))

pub denied_stopped : (T : Type 0) (apex : Name) (hash : Name → List ℕ) (fails : Name → Bool) (fs : List HashLink) (q : Name)
    → (before after : ℕ) (e y : HashError) (r : Answered) → r ≡ Err y → y ≡ e
    → HashesInTurn {T = T} fails (q ∷ []) before after (Err e)
    → HashesInTurn fails (hashed_denied apex hash q fs) before after r
denied_stopped T apex hash fails fs q before after e y r was same_error one =
    err_stopped T fails q (elim (is_matched fs (hash (low q))) as (λ _. List Name) [ true ↦ [] | false ↦ hashed_climbing apex hash q fs ]) before after e y r was same_error one

-- ---- the closest encloser, whose hash is k, and the next closer name, whose hash is h

module _ (apex : Name) (hash : Name → List ℕ) (fs : List HashLink) (closer e : Name) (h k : List ℕ) (is : h ≡ hash (low closer)) (is_encloser : k ≡ hash (low e)) where
  cut_at : (o : Option Verdict) → first_some (cut_above apex e k) fs ≡ o → first_some (cut_above apex e (hash (low e))) fs ≡ o
  cut_at o c = ap (λ x. first_some (cut_above apex e x) fs) (sym is_encloser) ∙ c

  enclosed_at : (m : Bool) → list_any (encloses k) fs ≡ m → list_any (encloses (hash (low e))) fs ≡ m
  enclosed_at m c = ap (λ x. list_any (encloses x) fs) (sym is_encloser) ∙ c

  pub cut : (t : ℕ) (v : Verdict) → first_some (cut_above apex e k) fs ≡ Some v → enclosed apex hash closer e t fs ≡ Some v
  cut t v c = enclosed_so apex hash fs closer e t (Some v) (list_any (encloses (hash (low e))) fs) (cut_at (Some v) c) refl

  pub hashed_cut : (fails : Name → Bool) (n : ℕ) (o : Option CodeVerdict) (v : Verdict) → first_some (cut_above apex e k) fs ≡ Some v → HashesInTurn fails (hashed_enclosed apex hash closer e fs) n n (Ok o)
  hashed_cut fails n o v c = subst (λ ns. HashesInTurn fails ns n n (Ok o)) (sym (hashed_enclosed_so apex hash fs closer e (Some v) (list_any (encloses (hash (low e))) fs) (cut_at (Some v) c) refl)) (none fails n o)

  pub unenclosed : (t : ℕ) → first_some (cut_above apex e k) fs ≡ None → list_any (encloses k) fs ≡ false → enclosed apex hash closer e t fs ≡ None
  unenclosed t c m = enclosed_so apex hash fs closer e t None false (cut_at None c) (enclosed_at false m)

  pub hashed_unenclosed : (fails : Name → Bool) (n : ℕ) (o : Option CodeVerdict) → first_some (cut_above apex e k) fs ≡ None → list_any (encloses k) fs ≡ false → HashesInTurn fails (hashed_enclosed apex hash closer e fs) n n (Ok o)
  hashed_unenclosed fails n o c m = subst (λ ns. HashesInTurn fails ns n n (Ok o)) (sym (hashed_enclosed_so apex hash fs closer e None false (cut_at None c) (enclosed_at false m))) (none fails n o)

  pub went_beyond : (t : ℕ) (r : Answered) → first_some (cut_above apex e k) fs ≡ None → list_any (encloses k) fs ≡ true → Says r (first_some (beyond hash e t fs h) fs) → Says r (enclosed apex hash closer e t fs)
  went_beyond t r c m s = subst (λ x. Says r x)
      (ap (λ x. first_some (beyond hash e t fs x) fs) is ∙ sym (enclosed_so apex hash fs closer e t None true (cut_at None c) (enclosed_at true m))) s

  pub hashed_went_beyond : (fails : Name → Bool) (before after : ℕ) (r : Answered) → first_some (cut_above apex e k) fs ≡ None → list_any (encloses k) fs ≡ true
      → HashesInTurn fails (hashed_beyond h e fs) before after r → HashesInTurn fails (hashed_enclosed apex hash closer e fs) before after r
  hashed_went_beyond fails before after r c m s = subst (λ ns. HashesInTurn fails ns before after r)
      (ap (λ x. hashed_beyond x e fs) is ∙ sym (hashed_enclosed_so apex hash fs closer e None true (cut_at None c) (enclosed_at true m))) s

-- ---- the gap of the next closer name, whose hash is h

module _ (hash : Name → List ℕ) (fs : List HashLink) (closer e : Name) (h : List ℕ) where
  pub unasked : (t : ℕ) → asks_star h fs ≡ false → open_among h fs ≡ first_some (beyond hash e t fs h) fs
  unasked t m = sym (beyond_gaps hash e t fs h fs ∙ said_unasked (first_some (star_at (hash (low (star_under e))) t) fs) h fs m)

  pub hashed_unasked : (fails : Name → Bool) (n : ℕ) (o : Option CodeVerdict) → asks_star h fs ≡ false → HashesInTurn fails (hashed_beyond h e fs) n n (Ok o)
  hashed_unasked fails n o m = subst (λ ns. HashesInTurn fails ns n n (Ok o))
      (sym (ap (λ (x : Bool). elim x as (λ _. List Name) [ true ↦ star_under e ∷ [] | false ↦ [] ]) m)) (none fails n o)

  pub asked : (t : ℕ) (s : Option Verdict) → asks_star h fs ≡ true → s ≡ first_some (star_at (hash (low (star_under e))) t) fs → or_else s (open_among h fs) ≡ first_some (beyond hash e t fs h) fs
  asked t s m i = ap (λ x. or_else x (open_among h fs)) i ∙ sym (beyond_gaps hash e t fs h fs ∙ said_asked (first_some (star_at (hash (low (star_under e))) t) fs) h fs m)

  pub hashed_asked : (fails : Name → Bool) (before after : ℕ) (r : Answered) → asks_star h fs ≡ true → HashesInTurn fails (star_under e ∷ []) before after r → HashesInTurn fails (hashed_beyond h e fs) before after r
  hashed_asked fails before after r m s = subst (λ ns. HashesInTurn fails ns before after r)
      (sym (ap (λ (x : Bool). elim x as (λ _. List Name) [ true ↦ star_under e ∷ [] | false ↦ [] ]) m)) s

  pub asked_found : (t : ℕ) (o : Option CodeVerdict) → asks_star h fs ≡ true → (o ≡ None → ⊥) → option_map verdict_of o ≡ first_some (star_at (hash (low (star_under e))) t) fs → option_map verdict_of o ≡ first_some (beyond hash e t fs h) fs
  asked_found t None m n i = absurd (n refl)
  asked_found t (Some v) m n i = asked t (Some (verdict_of v)) m i

  pub asked_left : (t : ℕ) (o : Option CodeVerdict) → asks_star h fs ≡ true → o ≡ None → option_map verdict_of o ≡ first_some (star_at (hash (low (star_under e))) t) fs → open_among h fs ≡ first_some (beyond hash e t fs h) fs
  asked_left t o m n i = asked t None m (sym (ap (option_map verdict_of) n) ∙ i)
