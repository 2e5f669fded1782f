-- How many signatures are tried, by groups as the code has them, is how many are due.
use Rattle.std.proofs.Common.{[], ◌≡◌, ℕ, zero, suc, ◌+◌, ◌<◌, ◌≤◌, Bool, true, false, not, ◌&&◌, ◌||◌, ◌==◌, List, ◌∷◌, ◌++◌, map, length, drop, get_or, refl, sym, ap, ◌∙◌, arith}
use Rattle.std.specs.Prelude.{IfSome, Option, Some, None}
use Rattle.std.specs.Option.{is_some, option_map}
use Rattle.answer_judge_facts.specs.declared.groups.Signed.{Signed}
use Rattle.std.specs.List.{AllByRecursion, find, list_any}
use Rattle.std.proofs.lemmas.Bool.{and_parts, eqb-true, or_parts, not-true, false≢true}
use Rattle.std.proofs.lemmas.List.{drop_all}
use Rattle.definitions.specs.Limits.{pointer_limit}
use Rattle.definitions.specs.Name.{Name, labels_eq, low, same}
use Rattle.definitions.specs.Signing.{Fields, in_time}
use Rattle.messages.specs.Record.{Signature, fields_of, fields_read, signature_of, spelled}
use Rattle.messages.specs.declared.view.ViewRecord.{ViewRecord}
use Rattle.messages.specs.Message.{Spelled, rrsig_at}
use Rattle.messages.proofs.Lists.{items_from, list_any-map}
use Rattle.messages.proofs.ZoneNames.{low-low, same_labels}
use Rattle.answer_judge_facts.specs.Sought.{Sought}
use Rattle.answer_judge_facts.specs.Counted.{can_try, is_tried, one_if, tries, tries_fields}
use Rattle.answer_judge_keys.specs.Trusted.{fits_key, is_due, is_signature, labels_fit}
use Rattle.denial_laws.specs.NsecRules.{first_some}
use Rattle.answer_judge_facts.specs.Marked.{data_in, is_of, is_tried_in, marked, or_first, signed_of, tries_group, tries_in}
use Rattle.answer_judge_facts.specs.Verified.{Trusting, is_verified, verified_with}
use Rattle.answer_judge_facts.specs.declared.groups.SignedRrset.{SignedRrset}
use Rattle.answer_judge_facts.proofs.JudgeCase.{is_due-owner, is_verified-owner}
use Rattle.answer_judge_facts.proofs.JudgeMarks.{any_at, are_apart, is_like, marked_done, marked_is, none_like, or_no, or_rest}
use Rattle.answer_judge_facts.proofs.JudgeTried.{both_of}

-- ---- tests of two parts

none_of : (p c : SignedRrset → Bool) (gs : List SignedRrset) → list_any p gs ≡ false → list_any (λ g. p g && c g) gs ≡ false
none_of p c [] h = refl
none_of p c (g ∷ gs) h =
    let o = or_parts (p g) (list_any p gs) h in
    λ i. (o.0 i && c g) || none_of p c gs o.1 i

-- where the second part is the same for all that pass the first
pub any_alike : (p c : SignedRrset → Bool) (b : Bool) (gs : List SignedRrset) → AllByRecursion (λ g. p g ≡ true → c g ≡ b) gs → list_any (λ g. p g && c g) gs ≡ (list_any p gs && b)
any_alike p c b [] h = refl
any_alike p c b (g ∷ gs) h =
    let rest = any_alike p c b gs h.1 in
    let go : (t : Bool) → p g ≡ t → ((t && c g) || list_any (λ g. p g && c g) gs) ≡ ((t || list_any p gs) && b) =
    λ t. elim t as (λ t. p g ≡ t → ((t && c g) || list_any (λ g. p g && c g) gs) ≡ ((t || list_any p gs) && b)) [
      | true ↦ λ e. (λ i. h.0 e i || rest i) ∙ absorbed b (list_any p gs)
      | false ↦ λ e. rest
    ] in
    go (p g) refl
  where
    absorbed : (b x : Bool) → (b || (x && b)) ≡ b
    absorbed true x = refl
    absorbed false true = refl
    absorbed false false = refl

-- of groups that are apart, one at a place passes the first part alone
any_one : (o : Name) (t : ℕ) (c : SignedRrset → Bool) (gs : List SignedRrset) (i : ℕ) (g : SignedRrset) → are_apart gs ≡ true → i < length gs → g ≡ get_or gs i g → is_of o t g ≡ true → list_any (λ g. is_of o t g && c g) gs ≡ c g
any_one o t c [] i g a h e k = absurd (omega arith)
any_one o t c (x ∷ gs) zero g a h e k =
    let p = and_parts (not (list_any (is_like x) gs)) (are_apart gs) a in
    let is : is_of o t x ≡ true = ap (is_of o t) (sym e) ∙ k in
    let none = none_of (is_of o t) c gs (none_like (is_of o t) (is_like x) (λ y s. both_of o t x y is s) gs (not-true _ p.0)) in
    (λ j. (is j && c x) || none j) ∙ or_no (c x) ∙ ap c (sym e)
any_one o t c (x ∷ gs) (suc i) g a h e k =
    let p = and_parts (not (list_any (is_like x) gs)) (are_apart gs) a in
    let inside : i < length gs = omega arith in
    let first : (v : Bool) → is_of o t x ≡ v → is_of o t x ≡ false = λ v s. elim v as (λ v. is_of o t x ≡ v → is_of o t x ≡ false) [
      | true ↦ (λ s. absurd (false≢true (sym (not-true _ p.0) ∙ any_at (is_like x) gs i g inside e (both_of o t x g s k))))
      | false ↦ (λ s. s)
    ] s in
    (λ j. (first (is_of o t x) refl j && c x) || list_any (λ g. is_of o t g && c g) gs) ∙ any_one o t c gs i g p.1 inside e k

-- ---- one record

gate_class : (a x : Bool) → elim (a && false) as (λ _. Bool) [ false ↦ false | true ↦ x ] ≡ false
gate_class true x = refl
gate_class false x = refl

gate_shut : (b : Bool) → elim b as (λ _. Bool) [ false ↦ false | true ↦ false ] ≡ false
gate_shut true = refl
gate_shut false = refl

abbrev tried_of : Trusting → List SignedRrset → Name → Option (Fields × List ℕ) → Bool
tried_of w gs owner o = elim o [ None ↦ false | Some f ↦ list_any (tries_group w owner f.0) gs ]

same_count : (n m : ℕ) (b : Bool) → m ≡ n → b ≡ false → m ≡ n + one_if b
same_count n m b e f = omega (arith, e, ap one_if f)

pub count_class : (w : Trusting) (m : List ℕ) (r : Spelled) (gs : List SignedRrset) (n k : ℕ) → (r.class == 1) ≡ false → k ≡ n → k ≡ n + one_if (is_tried_in w m gs r)
count_class w m r gs n k h e =
    same_count n k (is_tried_in w m gs r) e
    ((λ i. elim (is_signature r && h i) as (λ _. Bool) [ false ↦ false | true ↦ tried_of w gs r.owner (rrsig_at pointer_limit m r) ])
    ∙ gate_class (is_signature r) (tried_of w gs r.owner (rrsig_at pointer_limit m r)))

pub count_unread : (w : Trusting) (m : List ℕ) (r : Spelled) (gs : List SignedRrset) (n k : ℕ) → rrsig_at pointer_limit m r ≡ None → k ≡ n → k ≡ n + one_if (is_tried_in w m gs r)
count_unread w m r gs n k h e =
    same_count n k (is_tried_in w m gs r) e
    ((λ i. elim (is_signature r && (r.class == 1)) as (λ _. Bool) [ false ↦ false | true ↦ tried_of w gs r.owner (h i) ])
    ∙ gate_shut (is_signature r && (r.class == 1)))

-- a signature record of class IN
read_as : (w : Trusting) (m : List ℕ) (r : Spelled) (f : Fields × List ℕ) (gs : List SignedRrset) → rrsig_at pointer_limit m r ≡ Some f → is_signature r ≡ true → (r.class == 1) ≡ true → is_tried_in w m gs r ≡ list_any (tries_group w r.owner f.0) gs
read_as w m r f gs e s c = λ i. elim (s i && c i) as (λ _. Bool) [ false ↦ false | true ↦ tried_of w gs r.owner (e i) ]

pub count_none : (w : Trusting) (m : List ℕ) (r : Spelled) (f : Fields × List ℕ) (gs : List SignedRrset) (n k : ℕ) → rrsig_at pointer_limit m r ≡ Some f → is_signature r ≡ true → (r.class == 1) ≡ true
    → list_any (is_of r.owner f.0.covered) gs ≡ false → k ≡ n → k ≡ n + one_if (is_tried_in w m gs r)
count_none w m r f gs n k e s c none same =
    same_count n k (is_tried_in w m gs r) same (read_as w m r f gs e s c ∙ none_of (is_of r.owner f.0.covered) (λ g. not (is_some g.verified) && can_try w g.owner (data_in g) f.0) gs none)

at_place : (w : Trusting) (m : List ℕ) (r : Spelled) (f : Fields × List ℕ) (gs : List SignedRrset) (i : ℕ) (g : SignedRrset) → rrsig_at pointer_limit m r ≡ Some f → is_signature r ≡ true → (r.class == 1) ≡ true
    → are_apart gs ≡ true → i < length gs → g ≡ get_or gs i g → is_of r.owner f.0.covered g ≡ true → is_tried_in w m gs r ≡ (not (is_some g.verified) && can_try w g.owner (data_in g) f.0)
at_place w m r f gs i g e s c a h at own =
    read_as w m r f gs e s c ∙ any_one r.owner f.0.covered (λ g. not (is_some g.verified) && can_try w g.owner (data_in g) f.0) gs i g a h at own

pub count_again : (w : Trusting) (m : List ℕ) (r : Spelled) (f : Fields × List ℕ) (gs : List SignedRrset) (i : ℕ) (g : SignedRrset) (n k : ℕ) → rrsig_at pointer_limit m r ≡ Some f → is_signature r ≡ true → (r.class == 1) ≡ true
    → are_apart gs ≡ true → i < length gs → g ≡ get_or gs i g → is_of r.owner f.0.covered g ≡ true → is_some g.verified ≡ true → k ≡ n → k ≡ n + one_if (is_tried_in w m gs r)
count_again w m r f gs i g n k e s c a h at own v same =
    same_count n k (is_tried_in w m gs r) same (at_place w m r f gs i g e s c a h at own ∙ ap (λ b. not b && can_try w g.owner (data_in g) f.0) v)

-- by the covered type alone, which is that of the signature where it reads
pub count_type_none : (w : Trusting) (m : List ℕ) (r : Spelled) (gs : List SignedRrset) (t n k : ℕ) → IfSome (rrsig_at pointer_limit m r) (λ f. Some t ≡ Some f.0.covered) → is_signature r ≡ true → (r.class == 1) ≡ true
    → list_any (is_of r.owner t) gs ≡ false → k ≡ n → k ≡ n + one_if (is_tried_in w m gs r)
count_type_none w m r gs t n k is s c none same = go (rrsig_at pointer_limit m r) refl is
  where
    go : (o : Option (Fields × List ℕ)) → rrsig_at pointer_limit m r ≡ o → IfSome o (λ f. Some t ≡ Some f.0.covered) → k ≡ n + one_if (is_tried_in w m gs r)
    go None e x = count_unread w m r gs n k e same
    go (Some f) e x = let even : t ≡ f.0.covered = cc in count_none w m r f gs n k e s c (ap (λ (t : ℕ). list_any (is_of r.owner t) gs) (sym even) ∙ none) same

pub count_type_again : (w : Trusting) (m : List ℕ) (r : Spelled) (gs : List SignedRrset) (i : ℕ) (g : SignedRrset) (t n k : ℕ) → IfSome (rrsig_at pointer_limit m r) (λ f. Some t ≡ Some f.0.covered) → is_signature r ≡ true → (r.class == 1) ≡ true
    → are_apart gs ≡ true → i < length gs → g ≡ get_or gs i g → is_of r.owner t g ≡ true → is_some g.verified ≡ true → k ≡ n → k ≡ n + one_if (is_tried_in w m gs r)
count_type_again w m r gs i g t n k is s c a h at own v same = go (rrsig_at pointer_limit m r) refl is
  where
    go : (o : Option (Fields × List ℕ)) → rrsig_at pointer_limit m r ≡ o → IfSome o (λ f. Some t ≡ Some f.0.covered) → k ≡ n + one_if (is_tried_in w m gs r)
    go None e x = count_unread w m r gs n k e same
    go (Some f) e x = let even : t ≡ f.0.covered = cc in count_again w m r f gs i g n k e s c a h at (ap (λ (t : ℕ). is_of r.owner t g) (sym even) ∙ own) v same

-- whether the signer is lowered makes no difference
pub try-signer : (w : Trusting) (owner : Name) (items : List (List ℕ)) (s : Signature) → can_try w owner items (fields_of s) ≡ can_try w owner items (fields_read s)
try-signer w owner items s =
    let d : is_due w.apex w.now owner (fields_of s) ≡ is_due w.apex w.now owner (fields_read s) = ap (λ n. labels_fit w.apex owner (fields_read s) && in_time (fields_read s) w.now && labels_eq n (low w.apex)) (low-low (fields_read s).signer) in
    λ i. elim (not (length items == 0) && d i) as (λ _. Bool) [ false ↦ false | true ↦ is_some (find (fits_key (fields_read s)) w.keys) ]

pub count_now : (w : Trusting) (m : List ℕ) (r : Spelled) (s : Signature) (gs : List SignedRrset) (i : ℕ) (g : SignedRrset) (n k : ℕ) → rrsig_at pointer_limit m r ≡ Some (signature_of s) → is_signature r ≡ true → (r.class == 1) ≡ true
    → are_apart gs ≡ true → i < length gs → g ≡ get_or gs i g → is_of r.owner (fields_read s).covered g ≡ true → is_some g.verified ≡ false
    → k ≡ n + one_if (can_try w (get_or gs i g).owner (data_in (get_or gs i g)) (fields_read s)) → k ≡ n + one_if (is_tried_in w m gs r)
count_now w m r s gs i g n k e sig c a h at own not_yet counted =
    let f = signature_of s in
    let is : is_tried_in w m gs r ≡ can_try w (get_or gs i g).owner (data_in (get_or gs i g)) (fields_read s) =
    at_place w m r f gs i g e sig c a h at own ∙ ap (λ b. not b && can_try w g.owner (data_in g) f.0) not_yet
    ∙ try-signer w g.owner (data_in g) s ∙ ap (λ (y : SignedRrset). can_try w y.owner (data_in y) (fields_read s)) at in
    counted ∙ ap (λ b. n + one_if b) (sym is)

-- ---- records in turn

pub tries_unsigned : (w : Trusting) (m : List ℕ) (r : Spelled) (gs : List SignedRrset) → is_signature r ≡ false → is_tried_in w m gs r ≡ false
tries_unsigned w m r gs h = λ i. elim (h i && (r.class == 1)) as (λ _. Bool) [ false ↦ false | true ↦ tried_of w gs r.owner (rrsig_at pointer_limit m r) ]

pub tries_next : (w : Trusting) (m : List ℕ) (rs : List ViewRecord) (i : ℕ) (r : ViewRecord) (now new : List SignedRrset) → i < length rs → r ≡ get_or rs i r → new ≡ map (marked w m (spelled r ∷ [])) now
    → tries_in w m now (map spelled (drop i rs)) ≡ one_if (is_tried_in w m now (spelled r)) + tries_in w m new (map spelled (drop (i + 1) rs))
tries_next w m rs i r now new h e n =
    ap (λ ys. tries_in w m now (map spelled ys)) (items_from rs i r h e)
    ∙ ap (λ gs. one_if (is_tried_in w m now (spelled r)) + tries_in w m gs (map spelled (drop (i + 1) rs))) (sym n)

pub tries_last : (w : Trusting) (m : List ℕ) (rs : List ViewRecord) (i : ℕ) (gs : List SignedRrset) → length rs ≤ i → tries_in w m gs (map spelled (drop i rs)) ≡ 0
tries_last w m rs i gs h = ap (λ ys. tries_in w m gs (map spelled ys)) (drop_all i rs h)

-- ---- the groups are what is sought

pub record AreSought (s : Sought) (gs : List SignedRrset) : Type 0 where
  pub found : (o : Name) (t : ℕ) → s.is o t ≡ list_any (is_of o t) gs
  pub datas : (o : Name) (t : ℕ) → AllByRecursion (λ g. is_of o t g ≡ true → data_in g ≡ s.datas o t) gs
  pub fresh : AllByRecursion (λ g. g.verified ≡ None) gs

try-owner : (w : Trusting) (a b : Name) (items : List (List ℕ)) (f : Fields) → low a ≡ low b → can_try w a items f ≡ can_try w b items f
try-owner w a b items f h =
    let d = is_due-owner w.apex w.now a b f h in
    λ i. elim (not (length items == 0) && d i) as (λ _. Bool) [ false ↦ false | true ↦ is_some (find (fits_key f) w.keys) ]

each_alike : (w : Trusting) (m : List ℕ) (s : Sought) (earlier : List Spelled) (o : Name) (f : Fields) (gs : List SignedRrset) → AllByRecursion (λ g. is_of o f.covered g ≡ true → data_in g ≡ s.datas o f.covered) gs → AllByRecursion (λ g. g.verified ≡ None) gs
    → AllByRecursion (λ g. is_of o f.covered g ≡ true → (not (is_some (marked w m earlier g).verified) && can_try w g.owner (data_in g) f)
    ≡ (not (is_verified w pointer_limit m earlier o f.covered (s.datas o f.covered)) && can_try w o (s.datas o f.covered) f)) gs
each_alike w m s earlier o f [] d v = tt
each_alike w m s earlier o f (g ∷ gs) d v = (
  (λ is.
      let p = and_parts (g.rtype == f.covered) (same o g.owner) is in
      let owner : low g.owner ≡ low o = sym (same_labels (low o) (low g.owner) p.1) in
      let kind : g.rtype ≡ f.covered = eqb-true g.rtype f.covered p.0 in
      let items = d.0 is in
      ap (λ b. not b && can_try w g.owner (data_in g) f) (marked_is w m earlier g)
      ∙ (λ i. not (is_some (v.0 i) || is_verified w pointer_limit m earlier g.owner (kind i) (items i)) && can_try w g.owner (items i) f)
      ∙ (λ i. not (is_verified-owner w pointer_limit m earlier g.owner o f.covered (s.datas o f.covered) owner i) && try-owner w g.owner o (s.datas o f.covered) f owner i)),
  each_alike w m s earlier o f gs d.1 v.1,
)

pub tried_fields : (w : Trusting) (m : List ℕ) (s : Sought) (gs : List SignedRrset) (earlier : List Spelled) (o : Name) (f : Fields) → AreSought s gs → list_any (tries_group w o f) (map (marked w m earlier) gs) ≡ tries_fields w pointer_limit m s earlier o f
tried_fields w m s gs earlier o f a =
    list_any-map (tries_group w o f) (marked w m earlier) gs
    ∙ any_alike (is_of o f.covered) (λ g. not (is_some (marked w m earlier g).verified) && can_try w g.owner (data_in g) f)
    (not (is_verified w pointer_limit m earlier o f.covered (s.datas o f.covered)) && can_try w o (s.datas o f.covered) f) gs
    (each_alike w m s earlier o f gs (a.datas o f.covered) a.fresh)
    ∙ ap (λ b. b && (not (is_verified w pointer_limit m earlier o f.covered (s.datas o f.covered)) && can_try w o (s.datas o f.covered) f)) (sym (a.found o f.covered))

tried_alike : (w : Trusting) (m : List ℕ) (s : Sought) (gs : List SignedRrset) (earlier : List Spelled) (r : Spelled) → AreSought s gs → is_tried_in w m (map (marked w m earlier) gs) r ≡ is_tried w pointer_limit m s earlier r
tried_alike w m s gs earlier r a = λ i. elim (is_signature r && (r.class == 1)) as (λ _. Bool) [
  | false ↦ false
  | true ↦ elim (rrsig_at pointer_limit m r) as (λ _. Bool) [ None ↦ false | Some f ↦ tried_fields w m s gs earlier r.owner f.0 a i ]
]

first_behind : (v : Option Signed) (x y : Option Fields) → or_first (or_first v (option_map signed_of x)) (option_map signed_of (or_rest y None)) ≡ or_first v (option_map signed_of (or_rest x y))
first_behind (Some s) x y = refl
first_behind None (Some f) y = refl
first_behind None None None = refl
first_behind None None (Some f) = refl

rest_none : (x : Option Fields) → or_rest x None ≡ x
rest_none None = refl
rest_none (Some f) = refl

first_more : {X : Type 0} (p : X → Option Fields) (xs : List X) (x : X) → first_some p (xs ++ x ∷ []) ≡ or_rest (first_some p xs) (p x)
first_more p [] x = rest_none (p x)
first_more p (y ∷ xs) x = ap (or_rest (p y)) (first_more p xs x) ∙ rest_assoc (p y) (first_some p xs) (p x)
  where
    rest_assoc : (a b c : Option Fields) → or_rest a (or_rest b c) ≡ or_rest (or_rest a b) c
    rest_assoc (Some f) b c = refl
    rest_assoc None b c = refl

pub marked_more : (w : Trusting) (m : List ℕ) (earlier : List Spelled) (r : Spelled) (gs : List SignedRrset) → map (marked w m (r ∷ [])) (map (marked w m earlier) gs) ≡ map (marked w m (earlier ++ r ∷ [])) gs
marked_more w m earlier r [] = refl
marked_more w m earlier r (g ∷ gs) =
    let p = verified_with w pointer_limit m g.owner g.rtype (data_in g) in
    let v = first_behind g.verified (first_some p earlier) (p r) ∙ ap (λ x. or_first g.verified (option_map signed_of x)) (sym (first_more p earlier r)) in
    let rest = marked_more w m earlier r gs in
    (λ i. record { owner = g.owner; rtype = g.rtype; items = g.items; verified = v i } ∷ rest i)

from_earlier : (w : Trusting) (m : List ℕ) (s : Sought) (gs : List SignedRrset) (earlier rs : List Spelled) → AreSought s gs → tries_in w m (map (marked w m earlier) gs) rs ≡ tries w pointer_limit m s earlier rs
from_earlier w m s gs earlier [] a = refl
from_earlier w m s gs earlier (r ∷ rs) a =
    (λ i. one_if (tried_alike w m s gs earlier r a i) + tries_in w m (marked_more w m earlier r gs i) rs)
    ∙ ap (λ n. one_if (is_tried w pointer_limit m s earlier r) + n) (from_earlier w m s gs (earlier ++ r ∷ []) rs a)

pub tries_are : (w : Trusting) (m : List ℕ) (s : Sought) (gs : List SignedRrset) (rs : List Spelled) → AreSought s gs → tries_in w m gs rs ≡ tries w pointer_limit m s [] rs
tries_are w m s gs rs a = ap (λ x. tries_in w m x rs) (sym (marked_done w m gs)) ∙ from_earlier w m s gs [] rs a
