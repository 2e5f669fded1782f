-- Names that a hasher hashes, and names on which it fails.
use Rattle.std.proofs.Common.{◌≡◌, ℕ, ◌+◌, ◌<◌, ◌≤◌, List, [], ◌∷◌, ◌++◌, map, take, length, get_or, inl, inr, sym, ap, subst, ◌∙◌}
use Rattle.std.specs.Prelude.{IfErr, Result, Ok, Err}
use Rattle.std.specs.List.{Contains}
use Rattle.std.proofs.lemmas.List.{map-append, take_all, take_more}
use Rattle.definitions.specs.Name.{Name}
use Rattle.definitions.specs.ZoneChain.{Mode, Nsec, Nsec3}
use Rattle.definitions.proofs.Members.{In, append_in, contained, in_contained, in_map}
use Rattle.denial_nsec3_hash.specs.declared.hasher.HashError.{HashError}
use Rattle.denial_nsec3_hash.specs.declared.hasher.HashError.TheVariants.{Failed, Memory}
use Rattle.answer_terms.specs.Hashing.{Hasher}
use Rattle.answer_zone.specs.HashedZone.{AreHashed, FailsOn, HashesEach, IsHashFailure}

to_in : {X : Type 0} (xs : List X) (x : X) → Contains xs x → In x xs
to_in xs x c = in_contained xs x c.0 c.1 c.2

-- among more names
fails_on : (hash : Hasher) (mode : Mode) (ns ms : List Name) → ((n : Name) → In n ns → In n ms) → FailsOn hash mode ns → FailsOn hash mode ms
fails_on hash Nsec ns ms f h = h
fails_on hash (Nsec3 i s o) ns ms f h = (h.0, contained ms h.0 (f h.0 (to_in ns h.0 h.1)), h.2)

pub fails_among : (hash : Hasher) (mode : Mode) (ns ms : List Name) (e : HashError) → ((n : Name) → In n ns → In n ms) → IsHashFailure hash mode ns e → IsHashFailure hash mode ms e
fails_among hash mode ns ms Failed f h = fails_on hash mode ns ms f h
fails_among hash mode ns ms Memory f h = tt

-- one of some
pub fails_one : {A : Type 0} (hash : Hasher) (mode : Mode) (f : A → Name) (xs : List A) (i : ℕ) (x : A) (e : HashError) → i < length xs → x ≡ get_or xs i x → IsHashFailure hash mode (f x ∷ []) e → IsHashFailure hash mode (map f xs) e
fails_one hash mode f xs i x e h is k =
    fails_among hash mode (f x ∷ []) (map f xs) e
    (λ n j. elim j [
      | inl s ↦ subst (λ m. In m (map f xs)) (sym s) (in_map f xs x (in_contained xs x i h (sym is)))
      | inr b ↦ absurd b
    ]) k

-- of a call on some names, each of which is one of others
pub fails_within : {T : Type 0} (hash : Hasher) (mode : Mode) (ns ms : List Name) (r : Result T HashError) → ((n : Name) → In n ns → In n ms) → HashesEach hash mode ns r → IfErr r (IsHashFailure hash mode ms)
fails_within hash mode ns ms (Ok x) f h = tt
fails_within hash mode ns ms (Err e) f h = fails_among hash mode ns ms e f h

-- ---- names that are hashed

pub none_hashed : (hash : Hasher) (mode : Mode) → AreHashed hash mode []
none_hashed hash Nsec = tt
none_hashed hash (Nsec3 i s o) = λ n c. absurd (to_in [] n c)

-- one more
pub hashed_more : {A : Type 0} (hash : Hasher) (mode : Mode) (f : A → Name) (xs : List A) (i : ℕ) (x : A) → i < length xs → x ≡ get_or xs i x
    → AreHashed hash mode (map f (take i xs)) → AreHashed hash mode (f x ∷ []) → AreHashed hash mode (map f (take (i + 1) xs))
hashed_more hash Nsec f xs i x h is front one = tt
hashed_more hash (Nsec3 k s o) f xs i x h is front one =
    let more : map f (take (i + 1) xs) ≡ map f (take i xs) ++ f x ∷ [] = ap (map f) (take_more xs i x h ∙ ap (λ y. take i xs ++ y ∷ []) (sym is)) ∙ map-append f (take i xs) (x ∷ []) in
    λ n c. elim (append_in (map f (take i xs)) (f x ∷ []) n (subst (In n) more (to_in (map f (take (i + 1) xs)) n c))) [
      | inl j ↦ front n (contained (map f (take i xs)) n j)
      | inr j ↦ one n (contained (f x ∷ []) n j)
    ]

-- all of them
pub hashed_all : {A : Type 0} (hash : Hasher) (mode : Mode) (f : A → Name) (xs : List A) (i : ℕ) → length xs ≤ i → AreHashed hash mode (map f (take i xs)) → AreHashed hash mode (map f xs)
hashed_all hash mode f xs i h all = subst (λ ys. AreHashed hash mode (map f ys)) (take_all i xs h) all
