-- Records of the kept chain that are said of names are the proofs of the definitions.
use Rattle.std.proofs.Common.{◌≡◌, List, [], ◌∷◌, map, refl, sym, ap, subst, ◌∙◌}
use Rattle.std.specs.Prelude.{IfErr, Result, Ok, Err, Vec, unwrap_or}
use Rattle.std.specs.declared.alloc.Global.{Global}
use Rattle.definitions.specs.Name.{Name, low, wire}
use Rattle.definitions.specs.ZoneChain.{Mode, Nsec, Nsec3}
use Rattle.denial_nsec3_hash.specs.declared.hasher.HashError.{HashError}
use Rattle.denial_nsec3_hash.specs.declared.hasher.HashError.TheVariants.{Memory}
use Rattle.messages.specs.HandedRr.{HandedRr}
use Rattle.messages.proofs.ZoneNames.{low-low}
use Rattle.answer_terms.specs.GroupView.{Adds, GroupView}
use Rattle.answer_terms.specs.HashedLinks.{HashedLink, hashed_said_of}
use Rattle.answer_terms.specs.Hashing.{Hasher, hash_in}
use Rattle.answer_terms.specs.Links.{ChainLink, said_of}
use Rattle.answer_terms.specs.Served.{chain_ttl, proofs_of, served_of}
use Rattle.answer_terms.proofs.HashedLinks.{proofs_are_hashed}
use Rattle.answer_zone.specs.HashedZone.{HashesEach, IsHashFailure}
use Rattle.answer_zone_records.specs.MadeLinks.{IsChain}
use Rattle.answer_zone_records.specs.declared.chains.Chain.TheVariants.{Names, Hashes}
use Rattle.answer_zone_records.specs.Round.{IsCircle, IsRound}
use Rattle.answer_zone_records.proofs.Led.{chain_circle, chain_round}
use Rattle.answer_zone_records.proofs.ZoneLinks.{proofs_are_said}

pub named_proofs : (hash : Hasher) (apex : Name) (mode : Mode) (rs : List HandedRr) (qs : List Name) (old new : List GroupView) (ls : Vec ChainLink Global) → IsChain hash apex mode rs (Names ls)
    → Adds old new (said_of apex (chain_ttl apex rs) qs ls.items) → Adds old new (proofs_of (served_of apex mode (hash_in hash mode) rs) qs)
named_proofs hash apex Nsec rs qs old new ls k a = subst (Adds old new) (ap (said_of apex (chain_ttl apex rs) qs) k ∙ proofs_are_said apex (hash_in hash Nsec) rs qs) a
named_proofs hash apex (Nsec3 i s o) rs qs old new ls k a = absurd k

-- a name is hashed in lower case
hashed_low : {A : Type 0} (hash : Hasher) (mode : Mode) (f : A → Name) (xs : List A) → map (λ x. hash_in hash mode (f x)) xs ≡ map (hash_in hash mode) (map (λ x. low (f x)) xs)
hashed_low hash mode f [] = refl
hashed_low hash mode f (x ∷ xs) = λ t. one mode t ∷ hashed_low hash mode f xs t
  where
    one : (m : Mode) → hash_in hash m (f x) ≡ hash_in hash m (low (f x))
    one Nsec = refl
    one (Nsec3 i s o) = ap (λ n. unwrap_or (hash (wire n) 1 i s) []) (sym (low-low (f x)))

pub hashed_proofs : {A : Type 0} (hash : Hasher) (apex : Name) (mode : Mode) (rs : List HandedRr) (f : A → Name) (xs : List A) (old new : List GroupView) (ls : Vec HashedLink Global) → IsChain hash apex mode rs (Hashes ls)
    → Adds old new (hashed_said_of (chain_ttl apex rs) (map (λ x. hash_in hash mode (f x)) xs) ls.items) → Adds old new (proofs_of (served_of apex mode (hash_in hash mode) rs) (map (λ x. low (f x)) xs))
hashed_proofs hash apex Nsec rs f xs old new ls k a = absurd k
hashed_proofs hash apex (Nsec3 i s o) rs f xs old new ls k a =
    let mode = Nsec3 i s o in
    subst (Adds old new) ((λ t. hashed_said_of (chain_ttl apex rs) (hashed_low hash mode f xs t) (k t)) ∙ proofs_are_hashed apex i s o (hash_in hash mode) rs (map (λ x. low (f x)) xs)) a

memory_is : (hash : Hasher) (mode : Mode) (ns : List Name) (e : HashError) → e ≡ Memory → IsHashFailure hash mode ns e
memory_is hash mode ns e is = subst (IsHashFailure hash mode ns) (sym is) tt

-- a chain of names needs no hashes, and only memory can fail
pub named_hashed : {T : Type 0} (hash : Hasher) (apex : Name) (mode : Mode) (rs : List HandedRr) (qs : List Name) (ls : Vec ChainLink Global) (r : Result T HashError) → IsChain hash apex mode rs (Names ls) → IfErr r (λ e. e ≡ Memory)
    → HashesEach hash mode qs r
named_hashed hash apex Nsec rs qs ls (Ok x) k h = tt
named_hashed hash apex Nsec rs qs ls (Err e) k h = memory_is hash Nsec qs e h
named_hashed hash apex (Nsec3 i s o) rs qs ls r k h = absurd k

-- ---- each record leads to the next

pub named_round : (hash : Hasher) (apex : Name) (mode : Mode) (rs : List HandedRr) (ls : Vec ChainLink Global) → IsChain hash apex mode rs (Names ls) → IsRound apex ls.items
named_round hash apex Nsec rs ls k = subst (IsRound apex) (sym k) (chain_round apex rs)
named_round hash apex (Nsec3 i s o) rs ls k = absurd k

pub hashed_circle : (hash : Hasher) (apex : Name) (mode : Mode) (rs : List HandedRr) (ls : Vec HashedLink Global) → IsChain hash apex mode rs (Hashes ls) → IsCircle ls.items
hashed_circle hash apex Nsec rs ls k = absurd k
hashed_circle hash apex (Nsec3 i s o) rs ls k = subst IsCircle (sym k) (chain_circle (hash_in hash (Nsec3 i s o)) (Nsec3 i s o) apex rs)
