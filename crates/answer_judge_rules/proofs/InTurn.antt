-- Names that are hashed in turn, until one fails.
use Rattle.std.proofs.Common.{◌≡◌, ℕ, ◌+◌, ◌≤◌, Bool, true, false, ◌||◌, List, [], ◌∷◌, length, refl, sym, ap, ◌∙◌, subst, inl, inr, arith}
use Rattle.std.specs.Prelude.{◌⊎◌, Result, Ok, Err, IsErrOf, OnOk}
use Rattle.std.specs.List.{list_any}
use Rattle.std.proofs.lemmas.Bool.{or_from, or_left, or_parts, or_right}
use Rattle.definitions.specs.Name.{Name}
use Rattle.denial_nsec3_hash.specs.declared.hasher.HashError.{HashError}
use Rattle.denial_nsec3_hash.specs.declared.hasher.HashError.TheVariants.{Failed, Memory}
use Rattle.answer_judge_rules.specs.Hashes.{up_to}
use Rattle.answer_judge_rules.specs.Hashing.{HashesInTurn}

-- a name that is hashed goes on, one that fails ends it
goes_on : (fails : Name → Bool) (n : Name) (ns : List Name) → fails n ≡ false → up_to fails (n ∷ ns) ≡ n ∷ up_to fails ns
goes_on fails n ns e = ap (λ (b : Bool). n ∷ (elim b as (λ _. List Name) [ true ↦ [] | false ↦ up_to fails ns ])) e

ends : (fails : Name → Bool) (n : Name) (ns : List Name) → fails n ≡ true → up_to fails (n ∷ ns) ≡ n ∷ []
ends fails n ns e = ap (λ (b : Bool). n ∷ (elim b as (λ _. List Name) [ true ↦ [] | false ↦ up_to fails ns ])) e

one : (fails : Name → Bool) (n : Name) → up_to fails (n ∷ []) ≡ n ∷ []
one fails n = go (fails n)
  where
    go : (b : Bool) → n ∷ (elim b as (λ _. List Name) [ true ↦ [] | false ↦ [] ]) ≡ n ∷ []
    go true = refl
    go false = refl

alone : (b : Bool) → (b || false) ≡ true → b ≡ true
alone true e = refl
alone false e = e

-- behind a name that was hashed
pub behind : {T U : Type 0} (fails : Name → Bool) (n : Name) (ns : List Name) (before mid after : ℕ) (h : T) (r : Result U HashError) → HashesInTurn fails (n ∷ []) before mid (Ok h) → HashesInTurn fails ns mid after r → HashesInTurn fails (n ∷ ns) before after r
behind fails n ns before mid after h (Ok v) a b =
    let here : fails n ≡ false = (or_parts (fails n) false a.0).0 in
    let count : mid ≡ before + 1 = a.1 in
    let more : after ≡ mid + length ns = b.1 in
    (or_from (fails n) (list_any fails ns) here b.0, omega arith)
behind fails n ns before mid after h (Err Failed) a b =
    let here : fails n ≡ false = (or_parts (fails n) false a.0).0 in
    let count : mid ≡ before + 1 = a.1 in
    let more : after ≡ mid + length (up_to fails ns) = b.1 in
    let all : length (up_to fails (n ∷ ns)) ≡ length (n ∷ up_to fails ns) = ap length (goes_on fails n ns here) in
    (or_right (fails n) (list_any fails ns) b.0, omega arith)
behind fails n ns before mid after h (Err Memory) a b =
    let here : fails n ≡ false = (or_parts (fails n) false a.0).0 in
    let count : mid ≡ before + 1 = a.1 in
    let less : mid ≤ after = b.0 in
    let more : after ≤ mid + length (up_to fails ns) = b.1 in
    let all : length (up_to fails (n ∷ ns)) ≡ length (n ∷ up_to fails ns) = ap length (goes_on fails n ns here) in
    (omega arith, omega arith)

-- a name that was not hashed ends all
pub stopped : (T U : Type 0) (fails : Name → Bool) (n : Name) (ns : List Name) (before after : ℕ) (e : HashError) → HashesInTurn {T = T} fails (n ∷ []) before after (Err e) → HashesInTurn {T = U} fails (n ∷ ns) before after (Err e)
stopped T U fails n ns before after Failed a =
    let here : fails n ≡ true = alone (fails n) a.0 in
    (or_left (fails n) (list_any fails ns) here, a.1 ∙ ap (λ ms. before + length ms) (one fails n ∙ sym (ends fails n ns here)))
stopped T U fails n ns before after Memory a =
    let count : after ≤ before + length (n ∷ []) = subst (λ ms. after ≤ before + length ms) (one fails n) a.1 in
    (a.0, omega arith)

-- whatever was to be returned
pub passed_on : (T U : Type 0) (fails : Name → Bool) (ns : List Name) (before after : ℕ) (e : HashError) → HashesInTurn {T = T} fails ns before after (Err e) → HashesInTurn {T = U} fails ns before after (Err e)
passed_on T U fails ns before after Failed h = h
passed_on T U fails ns before after Memory h = h

-- an error that is passed on
pub err_passed : {T U : Type 0} (like : Result T HashError) (fails : Name → Bool) (ns : List Name) (before after : ℕ) (e y : HashError) (r : Result U HashError) → r ≡ Err y → y ≡ e → HashesInTurn {T = T} fails ns before after (Err e) → HashesInTurn fails ns before after r
err_passed {T = T} {U = U} like fails ns before after e y r a b h =
    subst (λ (x : Result U HashError). HashesInTurn fails ns before after x) (sym (a ∙ ap (λ x. Err x) b)) (passed_on T U fails ns before after e h)

pub err_stopped : (T : Type 0) {U : Type 0} (fails : Name → Bool) (n : Name) (ns : List Name) (before after : ℕ) (e y : HashError) (r : Result U HashError) → r ≡ Err y → y ≡ e → HashesInTurn {T = T} fails (n ∷ []) before after (Err e) → HashesInTurn fails (n ∷ ns) before after r
err_stopped T {U = U} fails n ns before after e y r a b h =
    subst (λ (x : Result U HashError). HashesInTurn fails (n ∷ ns) before after x) (sym (a ∙ ap (λ x. Err x) b)) (stopped T U fails n ns before after e h)

pub err_memory : {U : Type 0} (fails : Name → Bool) (ns : List Name) (n : ℕ) (y : HashError) (r : Result U HashError) → r ≡ Err y → y ≡ Memory → HashesInTurn fails ns n n r
err_memory {U = U} fails ns n y r a b = subst (λ (x : Result U HashError). HashesInTurn fails ns n n x) (sym (a ∙ ap (λ x. Err x) b)) (omega arith, omega arith)

-- nothing is hashed
pub none : {T : Type 0} (fails : Name → Bool) (n : ℕ) (v : T) → HashesInTurn fails [] n n (Ok v)
none fails n v = (refl, omega arith)

-- ---- the same of the names up to one that fails

kept_on : (fails : Name → Bool) (ns : List Name) → list_any fails (up_to fails ns) ≡ list_any fails ns → (b : Bool) → (b || list_any fails (elim b as (λ _. List Name) [ true ↦ [] | false ↦ up_to fails ns ])) ≡ (b || list_any fails ns)
kept_on fails ns h true = refl
kept_on fails ns h false = h

pub kept : (fails : Name → Bool) (ns : List Name) → list_any fails (up_to fails ns) ≡ list_any fails ns
kept fails [] = refl
kept fails (n ∷ ns) = kept_on fails ns (kept fails ns) (fails n)

pub all_kept : (fails : Name → Bool) (ns : List Name) → list_any fails ns ≡ false → up_to fails ns ≡ ns
all_kept fails [] e = refl
all_kept fails (n ∷ ns) e = let p = or_parts (fails n) (list_any fails ns) e in goes_on fails n ns p.0 ∙ ap (λ ms. n ∷ ms) (all_kept fails ns p.1)

fewer : (fails : Name → Bool) (n : Name) (ns : List Name) → length (up_to fails ns) ≤ length ns → (b : Bool) → length (n ∷ (elim b as (λ _. List Name) [ true ↦ [] | false ↦ up_to fails ns ])) ≤ length (n ∷ ns)
fewer fails n ns h true = omega arith
fewer fails n ns h false = omega arith

pub no_more : (fails : Name → Bool) (ns : List Name) → length (up_to fails ns) ≤ length ns
no_more fails [] = omega arith
no_more fails (n ∷ ns) = fewer fails n ns (no_more fails ns) (fails n)

pub none_failed : {T : Type 0} (fails : Name → Bool) (ns : List Name) (before after : ℕ) (r : Result T HashError) → HashesInTurn fails ns before after r → OnOk r (list_any fails (up_to fails ns) ≡ false)
none_failed fails ns before after (Ok v) h = kept fails ns ∙ h.0
none_failed fails ns before after (Err e) h = tt

pub some_failed : {T : Type 0} (fails : Name → Bool) (ns : List Name) (before after : ℕ) (r : Result T HashError) → HashesInTurn fails ns before after r → IsErrOf r Failed → list_any fails (up_to fails ns) ≡ true
some_failed fails ns before after (Ok v) h e = cc
some_failed fails ns before after (Err Failed) h e = kept fails ns ∙ h.0
some_failed fails ns before after (Err Memory) h e = cc

pub all_counted : {T : Type 0} (fails : Name → Bool) (ns : List Name) (before after : ℕ) (r : Result T HashError) → HashesInTurn fails ns before after r → IsErrOf r Memory ⊎ (after ≡ before + length (up_to fails ns))
all_counted fails ns before after (Ok v) h = inr (h.1 ∙ ap (λ ms. before + length ms) (sym (all_kept fails ns h.0)))
all_counted fails ns before after (Err Failed) h = inr h.1
all_counted fails ns before after (Err Memory) h = inl refl

pub at_most : {T : Type 0} (fails : Name → Bool) (ns : List Name) (before after : ℕ) (r : Result T HashError) → HashesInTurn fails ns before after r → after ≤ before + length (up_to fails ns)
at_most fails ns before after (Ok v) h = let count : after ≡ before + length (up_to fails ns) = h.1 ∙ ap (λ ms. before + length ms) (sym (all_kept fails ns h.0)) in omega arith
at_most fails ns before after (Err Failed) h = let count : after ≡ before + length (up_to fails ns) = h.1 in omega arith
at_most fails ns before after (Err Memory) h = h.1

pub at_least : {T : Type 0} (fails : Name → Bool) (ns : List Name) (before after : ℕ) (r : Result T HashError) → HashesInTurn fails ns before after r → before ≤ after
at_least fails ns before after (Ok v) h = let count : after ≡ before + length ns = h.1 in omega arith
at_least fails ns before after (Err Failed) h = let count : after ≡ before + length (up_to fails ns) = h.1 in omega arith
at_least fails ns before after (Err Memory) h = h.0
