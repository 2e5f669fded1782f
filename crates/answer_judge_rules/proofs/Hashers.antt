-- One name that is hashed, and the wildcard under a name.
use Rattle.std.proofs.Common.{◌≡◌, ℕ, ◌+◌, Bool, true, false, List, [], ◌∷◌, ◌++◌, length, refl, sym, ap, ◌∙◌, arith}
use Rattle.std.specs.Prelude.{Option, Some, None, Result, Ok, Err, IfOk, IsErrOf, is_none, unwrap_or}
use Rattle.std.proofs.lemmas.Bool.{or_from, or_left}
use Rattle.definitions.specs.Name.{Name, low, wire}
use Rattle.definitions.specs.Zone.{star_under}
use Rattle.definitions.proofs.ZoneNames.{low-low}
use Rattle.denial_nsec3_hash.specs.declared.hasher.HashError.{HashError}
use Rattle.denial_nsec3_hash.specs.declared.hasher.HashError.TheVariants.{Failed, Memory}
use Rattle.denial_laws.specs.Facts.{HashLink}
use Rattle.answer_judge_rules.specs.Hashes.{up_to}
use Rattle.answer_judge_rules.specs.Hashing.{fails_as, hash_as, HashesInTurn}

-- what is answered for a name in lower case is its hash
pub hash_is : (hash : List ℕ → ℕ → ℕ → List ℕ → Option (List ℕ)) (l : HashLink) (n : Name) (octets h : List ℕ) → octets ≡ wire (low n) → hash octets 1 l.iterations l.salt ≡ Some h → h ≡ hash_as hash l (low n)
hash_is hash l n octets h e a =
    sym (ap (λ m. unwrap_or (hash (wire m) 1 l.iterations l.salt) []) (low-low n)
    ∙ ap (λ o. unwrap_or (hash o 1 l.iterations l.salt) []) (sym e)
    ∙ ap (λ o. unwrap_or o []) a)

pub hash_found : {T : Type 0} (items : T → List ℕ) (hash : List ℕ → ℕ → ℕ → List ℕ → Option (List ℕ)) (l : HashLink) (n : Name) (octets : List ℕ) (r : Result T HashError) → octets ≡ wire (low n) → IfOk r (λ h. hash octets 1 l.iterations l.salt ≡ Some (items h)) → IfOk r (λ h. items h ≡ hash_as hash l (low n))
hash_found items hash l n octets (Ok h) e a = hash_is hash l n octets (items h) e a
hash_found items hash l n octets (Err x) e a = tt

one : (fails : Name → Bool) (n : Name) → up_to fails (n ∷ []) ≡ n ∷ []
one fails n = go (fails n)
  where
    go : (b : Bool) → n ∷ (elim b as (λ _. List Name) [ true ↦ [] | false ↦ [] ]) ≡ n ∷ []
    go true = refl
    go false = refl

-- one name was hashed, or failed
pub one_hashed : {T : Type 0} (items : T → List ℕ) (hash : List ℕ → ℕ → ℕ → List ℕ → Option (List ℕ)) (l : HashLink) (n : Name) (octets : List ℕ) (before after : ℕ) (r : Result T HashError)
    → octets ≡ wire (low n)
    → IfOk r (λ h. hash octets 1 l.iterations l.salt ≡ Some (items h))
    → (IsErrOf r Failed → hash octets 1 l.iterations l.salt ≡ None)
    → after ≡ before + 1
    → HashesInTurn (fails_as hash l) (n ∷ []) before after r
one_hashed items hash l n octets before after (Ok h) e ok failed count =
    let answer : hash (wire (low n)) 1 l.iterations l.salt ≡ Some (items h) = ap (λ o. hash o 1 l.iterations l.salt) (sym e) ∙ ok in
    (or_from (fails_as hash l n) false (ap is_none answer) refl, omega arith)
one_hashed items hash l n octets before after (Err Failed) e ok failed count =
    let answer : hash (wire (low n)) 1 l.iterations l.salt ≡ None = ap (λ o. hash o 1 l.iterations l.salt) (sym e) ∙ failed refl in
    (or_left (fails_as hash l n) false (ap is_none answer), count ∙ ap (λ ms. before + length ms) (sym (one (fails_as hash l) n)))
one_hashed items hash l n octets before after (Err Memory) e ok failed count =
    let all : length (up_to (fails_as hash l) (n ∷ [])) ≡ 1 = ap length (one (fails_as hash l) n) in
    (omega arith, omega arith)

-- ---- the wildcard

-- the octets that are written for it
pub star_wire : (start mid octets : List ℕ) (e : Name) → start ≡ [] → mid ≡ start ++ 1 ∷ 42 ∷ [] → octets ≡ mid ++ wire (low e) → octets ≡ wire (low (star_under e))
star_wire start mid octets e s m o = o ∙ ap (λ x. x ++ wire (low e)) (m ∙ ap (λ x. x ++ 1 ∷ 42 ∷ []) s)
