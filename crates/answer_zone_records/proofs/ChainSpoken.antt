-- Records of a chain that speak for one name or hash more.
use Rattle.std.proofs.Common.{◌≡◌, ℕ, ◌+◌, ◌<◌, Bool, true, false, ◌||◌, List, [], ◌∷◌, ◌++◌, map, take, length, get_or, refl, sym, ap, subst, ◌∙◌}
use Rattle.std.specs.Prelude.{Vec}
use Rattle.std.specs.declared.alloc.Global.{Global}
use Rattle.std.specs.List.{AllByRecursion}
use Rattle.std.proofs.lemmas.List.{append-nil, map-append, take_more}
use Rattle.std.proofs.lemmas.List.Folds.{list_any-append}
use Rattle.definitions.specs.Name.{Name, labels_eq, low}
use Rattle.definitions.specs.Covering.{covers}
use Rattle.answer_terms.specs.HashedLinks.{HashedLink, hashed_link_at_or_around, hashed_link_speaks}
use Rattle.answer_terms.specs.Links.{ChainLink, link_speaks}
use Rattle.answer_zone_records.specs.ChainPlaces.{AreAt}
use Rattle.answer_zone_records.specs.Round.{link_speaks_for}
use Rattle.answer_zone_records.proofs.Picked.{either_at}

-- items so far, and one more
so_far : {A B : Type 0} (f : A → B) (xs : List A) (i : ℕ) (x : A) → i < length xs → x ≡ get_or xs i x → map f (take (i + 1) xs) ≡ map f (take i xs) ++ f x ∷ []
so_far f xs i x h e = ap (map f) (take_more xs i x h ∙ ap (λ y. take i xs ++ y ∷ []) (sym e)) ∙ map-append f (take i xs) (x ∷ [])

last : (a b : Bool) → (a || (b || false)) ≡ (a || b)
last true b = refl
last false true = refl
last false false = refl

abbrev pub speaks_all : Name → List Name → ChainLink → Bool
speaks_all apex qs l = link_speaks apex qs (low l.owner) (low l.next)

pub more_names : {A : Type 0} (f : A → Name) (apex : Name) (ls : List ChainLink) (xs : List A) (i : ℕ) (x : A) (q : Name) (ks js : List ℕ) → i < length xs → x ≡ get_or xs i x → f x ≡ low q
    → AreAt (speaks_all apex (map f (take i xs))) ls ks → AreAt (link_speaks_for apex q) ls js → AreAt (speaks_all apex (map f (take (i + 1) xs))) ls (ks ++ js)
more_names f apex ls xs i x q ks js h e is a b = λ k l inside at.
    ap (λ qs. speaks_all apex qs l) (so_far f xs i x h e ∙ ap (λ n. map f (take i xs) ++ n ∷ []) is)
    ∙ list_any-append (λ q. labels_eq (low l.owner) q || covers (low apex) (low l.owner) (low l.next) q) (map f (take i xs)) (low q ∷ [])
    ∙ either_at (speaks_all apex (map f (take i xs))) (link_speaks_for apex q) ls ks js a b k l inside at

pub more_hashes : (ls : List HashedLink) (xs : List (Vec ℕ Global)) (i : ℕ) (x : Vec ℕ Global) (ks js : List ℕ) → i < length xs → x ≡ get_or xs i x
    → AreAt (hashed_link_speaks (map (λ h. h.items) (take i xs))) ls ks → AreAt (λ l. hashed_link_at_or_around l x.items) ls js → AreAt (hashed_link_speaks (map (λ h. h.items) (take (i + 1) xs))) ls (ks ++ js)
more_hashes ls xs i x ks js h e a b = λ k l inside at.
    ap (λ hs. hashed_link_speaks hs l) (so_far (λ (h : Vec ℕ Global). h.items) xs i x h e)
    ∙ list_any-append (hashed_link_at_or_around l) (map (λ h. h.items) (take i xs)) (x.items ∷ [])
    ∙ last (hashed_link_speaks (map (λ h. h.items) (take i xs)) l) (hashed_link_at_or_around l x.items)
    ∙ either_at (hashed_link_speaks (map (λ h. h.items) (take i xs))) (λ l. hashed_link_at_or_around l x.items) ls ks js a b k l inside at

-- nothing more
pub no_more : {A : Type 0} (p : A → Bool) (xs : List A) (ks : List ℕ) → AreAt p xs (ks ++ []) → AreAt p xs ks
no_more p xs ks a = subst (AreAt p xs) (append-nil ks) a

pub all_more : (P : ℕ → Type 0) (ks : List ℕ) (k : ℕ) → AllByRecursion P ks → P k → AllByRecursion P (ks ++ k ∷ [])
all_more P [] k h p = (p, tt)
all_more P (j ∷ ks) k h p = (h.0, all_more P ks k h.1 p)
