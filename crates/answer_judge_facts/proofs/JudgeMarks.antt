-- RRsets that records verify, one record after another.
use Rattle.std.proofs.Common.{◌≡◌, ℕ, zero, suc, ◌<◌, Bool, true, false, ◌&&◌, ◌||◌, not, List, [], ◌∷◌, map, length, get_or, set, refl, sym, ap, ◌∙◌, arith}
use Rattle.std.specs.List.{list_any}
use Rattle.std.proofs.lemmas.Bool.{or_parts, and_parts, not-true, false≢true}
use Rattle.answer_judge_facts.specs.declared.groups.SignedRrset.{SignedRrset}
use Rattle.std.specs.Prelude.{◌==◌, Option, Some, None, is_some}
use Rattle.std.specs.Option.{option_map}
use Rattle.definitions.specs.Name.{Name, same}
use Rattle.definitions.specs.Signing.{Fields}
use Rattle.messages.specs.Message.{Spelled, rrsig_at}
use Rattle.answer_judge_keys.specs.Trusted.{is_signature, signs}
use Rattle.answer_judge_facts.specs.declared.groups.Signed.{Signed}
use Rattle.answer_judge_facts.specs.Verified.{Trusting, is_verified, verifies_with, verified_by, verified_with}
use Rattle.answer_judge_facts.specs.Marked.{data_in, marked_if, marked, or_first, signed_of}
use Rattle.definitions.specs.Limits.{pointer_limit}

-- two groups of one type and one owner
abbrev pub is_like : SignedRrset → SignedRrset → Bool
is_like a b = (a.rtype == b.rtype) && same a.owner b.owner

-- no two are
abbrev pub are_apart : List SignedRrset → Bool
are_apart [] = true
are_apart (g ∷ gs) = not (list_any (is_like g) gs) && are_apart gs

-- the item at a place
pub item_one : {X : Type 0} (xs : List X) (i : ℕ) (x y : X) → i < length xs → x ≡ get_or xs i x → y ≡ get_or xs i y → x ≡ y
item_one [] i x y h e d = absurd (omega arith)
item_one (a ∷ xs) zero x y h e d = e ∙ sym d
item_one (a ∷ xs) (suc i) x y h e d = item_one xs i x y (omega arith) e d

pub or_true : (a b : Bool) → b ≡ true → (a || b) ≡ true
or_true true b h = refl
or_true false b h = h

pub any_at : {X : Type 0} (p : X → Bool) (xs : List X) (i : ℕ) (x : X) → i < length xs → x ≡ get_or xs i x → p x ≡ true → list_any p xs ≡ true
any_at p [] i x h e k = absurd (omega arith)
any_at p (y ∷ xs) zero x h e k = ap (λ b. b || list_any p xs) (ap p (sym e) ∙ k)
any_at p (y ∷ xs) (suc i) x h e k = or_true (p y) (list_any p xs) (any_at p xs i x (omega arith) e k)

pub or_no : (b : Bool) → (b || false) ≡ b
or_no true = refl
or_no false = refl

pub first_no : (s : Option Signed) → or_first s None ≡ s
first_no None = refl
first_no (Some s) = refl

pub unmarked_one : (g : SignedRrset) → marked_if None g ≡ g
unmarked_one g = λ i. record { owner = g.owner; rtype = g.rtype; items = g.items; verified = first_no g.verified i }

pub unmarked_by : (b : SignedRrset → Option Signed) → ((g : SignedRrset) → b g ≡ None) → (gs : List SignedRrset) → map (λ g. marked_if (b g) g) gs ≡ gs
unmarked_by b f [] = refl
unmarked_by b f (g ∷ gs) = let one = ap (λ v. marked_if v g) (f g) ∙ unmarked_one g in let rest = unmarked_by b f gs in (λ i. one i ∷ rest i)

-- none of them is meant
pub unmarked : (p : SignedRrset → Bool) (b : SignedRrset → Option Signed) → ((g : SignedRrset) → p g ≡ false → b g ≡ None) → (gs : List SignedRrset) → list_any p gs ≡ false → map (λ g. marked_if (b g) g) gs ≡ gs
unmarked p b f [] h = refl
unmarked p b f (g ∷ gs) h =
    let o = or_parts (p g) (list_any p gs) h in
    let one = ap (λ v. marked_if v g) (f g o.0) ∙ unmarked_one g in
    let rest = unmarked p b f gs o.1 in
    (λ i. one i ∷ rest i)

pub none_like : (p q : SignedRrset → Bool) → ((g : SignedRrset) → p g ≡ true → q g ≡ true) → (gs : List SignedRrset) → list_any q gs ≡ false → list_any p gs ≡ false
none_like p q f [] h = refl
none_like p q f (g ∷ gs) h =
    let o = or_parts (q g) (list_any q gs) h in
    let first : (v : Bool) → p g ≡ v → p g ≡ false = λ v e. elim v as (λ v. p g ≡ v → p g ≡ false) [ true ↦ (λ t. absurd (false≢true (sym o.0 ∙ f g t))) | false ↦ (λ t. t) ] e in
    (λ i. first (p g) refl i || none_like p q f gs o.1 i)

-- only the one at a place is meant
pub marked_at : (p : SignedRrset → Bool) (b : SignedRrset → Option Signed) → ((g : SignedRrset) → p g ≡ false → b g ≡ None) → ((g h : SignedRrset) → p g ≡ true → p h ≡ true → is_like g h ≡ true)
    → (gs : List SignedRrset) (i : ℕ) (g : SignedRrset) → are_apart gs ≡ true → i < length gs → g ≡ get_or gs i g → p g ≡ true → map (λ g. marked_if (b g) g) gs ≡ set gs i (marked_if (b g) g)
marked_at p b f like [] i g a h e k = absurd (omega arith)
marked_at p b f like (x ∷ gs) zero g a h e k =
    let o = and_parts (not (list_any (is_like x) gs)) (are_apart gs) a in
    let is : p x ≡ true = ap p (sym e) ∙ k in
    let rest = unmarked p b f gs (none_like p (is_like x) (λ y t. like x y is t) gs (not-true _ o.0)) in
    (λ j. marked_if (b (sym e j)) (sym e j) ∷ rest j)
marked_at p b f like (x ∷ gs) (suc i) g a h e k =
    let o = and_parts (not (list_any (is_like x) gs)) (are_apart gs) a in
    let inside : i < length gs = omega arith in
    let first : (v : Bool) → p x ≡ v → p x ≡ false = λ v t. elim v as (λ v. p x ≡ v → p x ≡ false) [
      | true ↦ (λ t. absurd (false≢true (sym (not-true _ o.0) ∙ any_at (is_like x) gs i g inside e (like x g t k))))
      | false ↦ (λ t. t)
    ] t in
    let one = ap (λ v. marked_if v x) (f x (first (p x) refl)) ∙ unmarked_one x in
    let rest = marked_at p b f like gs i g o.1 inside e k in
    (λ j. one j ∷ rest j)

-- by one record and then by others, or by all of them
abbrev pub or_rest : Option Fields → Option Fields → Option Fields
or_rest x y = elim x [ None ↦ y | Some f ↦ Some f ]

first_next : (v : Option Signed) (x y : Option Fields) → or_first (or_first v (option_map signed_of (or_rest x None))) (option_map signed_of y) ≡ or_first v (option_map signed_of (or_rest x y))
first_next (Some s) x y = refl
first_next None (Some f) y = refl
first_next None None y = refl

-- whether a group is verified then
pub first_is : (v : Option Signed) (x : Option Fields) → is_some (or_first v (option_map signed_of x)) ≡ (is_some v || is_some x)
first_is (Some s) x = refl
first_is None None = refl
first_is None (Some f) = refl

-- a signature that verifies was read
gives_is : (b : Bool) (o : Option (Fields × List ℕ)) → (b ≡ true → is_some o ≡ true) → is_some (elim b as (λ _. Option Fields) [ true ↦ option_map (λ f. f.0) o | false ↦ None ]) ≡ b
gives_is false o h = refl
gives_is true None h = h refl
gives_is true (Some f) h = refl

pub gate_none : (b : Bool) → elim b as (λ _. Bool) [ false ↦ false | true ↦ false ] ≡ false
gate_none true = refl
gate_none false = refl

with_read : (w : Trusting) (k : ℕ) (m : List ℕ) (o : Name) (t : ℕ) (items : List (List ℕ)) (r : Spelled) → verifies_with w k m o t items r ≡ true → is_some (rrsig_at k m r) ≡ true
with_read w k m o t items r h =
    let gate = is_signature r && (r.class == 1) && same r.owner o in
    let go : (f : Option (Fields × List ℕ)) → rrsig_at k m r ≡ f → is_some f ≡ true = λ f. elim f as (λ f. rrsig_at k m r ≡ f → is_some f ≡ true) [
      | None ↦ λ e. absurd (false≢true (sym (gate_none gate)
          ∙ sym (ap (λ (f : Option (Fields × List ℕ)). elim gate as (λ _. Bool) [ false ↦ false | true ↦ elim f as (λ _. Bool) [ None ↦ false | Some f ↦ (f.0.covered == t) && signs w.answers w.apex w.keys w.now o items f.0 f.1 ] ]) e)
          ∙ h))
      | Some f ↦ λ e. refl
    ] in
    go (rrsig_at k m r) refl

pub with_is : (w : Trusting) (k : ℕ) (m : List ℕ) (o : Name) (t : ℕ) (items : List (List ℕ)) (r : Spelled) → is_some (verified_with w k m o t items r) ≡ verifies_with w k m o t items r
with_is w k m o t items r = gives_is (verifies_with w k m o t items r) (rrsig_at k m r) (with_read w k m o t items r)

rest_is : (x y : Option Fields) → is_some (or_rest x y) ≡ (is_some x || is_some y)
rest_is None y = refl
rest_is (Some f) y = refl

-- a first signature verifies exactly where one does
pub by_is : (w : Trusting) (k : ℕ) (m : List ℕ) (rs : List Spelled) (o : Name) (t : ℕ) (items : List (List ℕ)) → is_some (verified_by w k m rs o t items) ≡ is_verified w k m rs o t items
by_is w k m [] o t items = refl
by_is w k m (r ∷ rs) o t items =
    rest_is (verified_with w k m o t items r) (verified_by w k m rs o t items)
    ∙ (λ i. with_is w k m o t items r i || by_is w k m rs o t items i)

pub marked_is : (w : Trusting) (m : List ℕ) (rs : List Spelled) (g : SignedRrset) → is_some (marked w m rs g).verified ≡ (is_some g.verified || is_verified w pointer_limit m rs g.owner g.rtype (data_in g))
marked_is w m rs g =
    first_is g.verified (verified_by w pointer_limit m rs g.owner g.rtype (data_in g))
    ∙ ap (λ b. is_some g.verified || b) (by_is w pointer_limit m rs g.owner g.rtype (data_in g))

pub marked_next : (w : Trusting) (m : List ℕ) (r : Spelled) (rs : List Spelled) (gs : List SignedRrset) → map (marked w m rs) (map (marked w m (r ∷ [])) gs) ≡ map (marked w m (r ∷ rs)) gs
marked_next w m r rs [] = refl
marked_next w m r rs (g ∷ gs) =
    let v = first_next g.verified (verified_with w pointer_limit m g.owner g.rtype (data_in g) r) (verified_by w pointer_limit m rs g.owner g.rtype (data_in g)) in
    let rest = marked_next w m r rs gs in
    (λ i. record { owner = g.owner; rtype = g.rtype; items = g.items; verified = v i } ∷ rest i)

pub marked_done : (w : Trusting) (m : List ℕ) (gs : List SignedRrset) → map (marked w m []) gs ≡ gs
marked_done w m [] = refl
marked_done w m (g ∷ gs) = let one = unmarked_one g in let rest = marked_done w m gs in (λ i. one i ∷ rest i)
