-- The groups that a judge gathers are the RRsets that are sought.
use Rattle.std.proofs.Common.{◌≡◌, ℕ, Bool, true, false, ◌&&◌, ◌||◌, ◌==◌, List, [], ◌∷◌, ◌++◌, length, map, refl, sym, ap, subst, ◌∙◌, inl, inr, ◌⊎◌, ⊎_elim}
use Rattle.std.specs.Prelude.{Option, Some, None}
use Rattle.std.specs.List.{AllByRecursion, cons_option, filter_map, list_any}
use Rattle.std.proofs.lemmas.Bool.{and_parts, and_from, eqb-true, false≢true}
use Rattle.definitions.proofs.Members.{both_ways}
use Rattle.definitions.specs.Limits.{pointer_limit}
use Rattle.definitions.specs.Dnskey.{Dnskey, dnskey_data}
use Rattle.definitions.specs.Name.{Name, low, same, at_or_above}
use Rattle.definitions.specs.Zone.{sorted_data}
use Rattle.messages.specs.Message.{Spelled, canonical_data}
use Rattle.messages.proofs.Lists.{Has, all_at, any_from, found}
use Rattle.messages.proofs.ZoneNames.{labels_eq-same, same_labels}
use Rattle.answer_judge_facts.specs.Sought.{answer_sought, is_alone, keys_sought}
use Rattle.answer_judge_facts.specs.Marked.{AreGathered, IsAlone, IsGathered, data_in, is_chain, is_chain_type, is_of, stands_alone}
use Rattle.answer_judge_facts.specs.Ranked.{AskedLast}
use Rattle.answer_judge_facts.specs.Verified.{datum_of, is_hash_alone, one_known, rrset_in}
use Rattle.answer_judge_keys.specs.HashOwner.{spells_hash}
use Rattle.answer_judge_facts.specs.declared.groups.SignedRrset.{SignedRrset}
use Rattle.answer_judge_facts.proofs.JudgeCase.{rrset_in-owner}
use Rattle.answer_judge_facts.proofs.JudgeCounted.{AreSought}
use Rattle.answer_judge_facts.proofs.JudgeFacts.{alone_owner, chain_cases, chain_type, group_alone}
use Rattle.answer_judge_facts.proofs.JudgeMarks.{or_no}

-- ---- the keys

pub keys_are : (apex : Name) (ks : List Dnskey) (g : SignedRrset) → g.owner ≡ apex → g.rtype ≡ 48 → data_in g ≡ sorted_data (map dnskey_data ks) → g.verified ≡ None → AreSought (keys_sought apex ks) (g ∷ [])
keys_are apex ks g o t d v = record {
  found = λ p u. sym ((λ i. ((t i == u) && same p (o i)) || false) ∙ or_no ((48 == u) && same p apex));
  datas = λ p u. ((λ is. d), tt);
  fresh = (v, tt);
}

-- ---- the RRset that was asked for, and RRsets of chains

both_owners : (a b c : Name) → same a b ≡ true → same a c ≡ true → same b c ≡ true
both_owners a b c h k = labels_eq-same (low b) (low c) (sym (same_labels (low a) (low b) h) ∙ same_labels (low a) (low c) k)

-- an item that is kept
some_kept : {X Y : Type 0} (f : X → Option Y) (xs : List X) → (filter_map f xs ≡ []) ⊎ ((x : X) × Has xs x × ((y : Y) × (f x ≡ Some y)))
some_kept f [] = inl refl
some_kept {X} {Y} f (x ∷ xs) =
    let go : (o : Option Y) → f x ≡ o → (cons_option o (filter_map f xs) ≡ []) ⊎ ((z : X) × Has (x ∷ xs) z × ((y : Y) × (f z ≡ Some y))) =
    λ o. elim o as (λ o. f x ≡ o → (cons_option o (filter_map f xs) ≡ []) ⊎ ((z : X) × Has (x ∷ xs) z × ((y : Y) × (f z ≡ Some y)))) [
      | None ↦ λ e. ⊎_elim (λ n. inl n) (λ h. inr (h.0, inr h.1, h.2)) (some_kept f xs)
      | Some y ↦ λ e. inr (x, inl refl, (y, e))
    ] in
    ⊎_elim (λ n. inl (ap (λ o. cons_option o (filter_map f xs)) refl ∙ n)) (λ h. inr h) (go (f x) refl)

tested : (b : Bool) (x : Option (List ℕ)) (d : List ℕ) → elim b as (λ _. Option (List ℕ)) [ true ↦ x | false ↦ None ] ≡ Some d → b ≡ true
tested true x d e = refl
tested false x d e = cc

-- an owner whose RRset isn't empty has a record of it
pub record_there : (k : ℕ) (m : List ℕ) (rs : List Spelled) (o : Name) (t : ℕ) → (rrset_in k m rs o t ≡ [] → ⊥) → (r : Spelled) × Has rs r × (((r.class == 1) && (r.rtype == t) && same r.owner o) ≡ true)
record_there k m rs o t h = ⊎_elim
    (λ n. absurd (h (ap sorted_data n)))
    (λ f. (f.0, f.1, tested _ (canonical_data k m f.0) f.2.0 f.2.1))
    (some_kept (datum_of k m o t) rs)

-- one that stands alone isn't empty
not_empty : (m : List ℕ) (apex : Name) (rs : List Spelled) (t : ℕ) (o : Name) → stands_alone m apex rs t o ≡ true → rrset_in pointer_limit m rs o t ≡ [] → ⊥
not_empty m apex rs t o h e = ⊎_elim
    (λ k.
    let one = (and_parts (at_or_above apex o) (length (rrset_in pointer_limit m rs o 47) == 1) k.1).1 in
    let none : rrset_in pointer_limit m rs o 47 ≡ [] = ap (rrset_in pointer_limit m rs o) (sym k.0) ∙ e in
    false≢true (sym (ap (λ ds. length ds == 1) none) ∙ one))
    (λ k.
    let one = (and_parts (spells_hash apex o) (one_known (rrset_in pointer_limit m rs o 50)) k.1).1 in
    let none : rrset_in pointer_limit m rs o 50 ≡ [] = ap (rrset_in pointer_limit m rs o) (sym k.0) ∙ e in
    false≢true (sym (ap one_known none) ∙ one))
    (chain_cases t (is_alone pointer_limit m apex rs o) (is_hash_alone pointer_limit m apex rs o) h)

chain_from : (m : List ℕ) (apex : Name) (rs : List Spelled) (gs : List SignedRrset) (o : Name) (t : ℕ) → AllByRecursion (IsAlone m apex rs) gs → list_any (is_of o t) gs ≡ true → stands_alone m apex rs t o ≡ true
chain_from m apex rs gs o t each h =
    let f = found (is_of o t) gs h in
    group_alone m rs apex o t f.0 (all_at (IsAlone m apex rs) gs f.0 each f.1) f.2

chain_to : (m : List ℕ) (apex : Name) (rs : List Spelled) (gs : List SignedRrset) (o : Name) (t : ℕ) → AreGathered m apex rs rs gs → stands_alone m apex rs t o ≡ true → list_any (is_of o t) gs ≡ true
chain_to m apex rs gs o t a h =
    let f = record_there pointer_limit m rs o t (not_empty m apex rs t o h) in
    let r : Spelled = f.0 in
    let q = and_parts ((r.class == 1) && (r.rtype == t)) (same r.owner o) f.2 in
    let k = and_parts (r.class == 1) (r.rtype == t) q.0 in
    let kind : r.rtype ≡ t = eqb-true r.rtype t k.1 in
    let of_chain : is_chain r ≡ true = and_from _ _ (ap is_chain_type kind ∙ chain_type m apex rs t o h) k.0 in
    let stands : stands_alone m apex rs r.rtype r.owner ≡ true = ap (λ n. stands_alone m apex rs n r.owner) kind ∙ sym (alone_owner m rs apex t r.owner o q.1) ∙ h in
    let gathered = all_at (IsGathered m apex rs gs) rs r a.all f.1 of_chain stands in
    let g = found (is_of r.owner r.rtype) gs gathered in
    let p = and_parts ((g.0).rtype == r.rtype) (same r.owner (g.0).owner) g.2 in
    any_from (is_of o t) gs g.0 g.1 (and_from _ _ (ap (λ n. (g.0).rtype == n) (sym kind) ∙ p.0) (both_owners r.owner o (g.0).owner q.1 p.1))

chain_data : (m : List ℕ) (apex : Name) (rs : List Spelled) (gs : List SignedRrset) (o : Name) (t : ℕ) → AllByRecursion (IsAlone m apex rs) gs → AllByRecursion (λ g. is_of o t g ≡ true → data_in g ≡ rrset_in pointer_limit m rs o t) gs
chain_data m apex rs [] o t each = tt
chain_data m apex rs (g ∷ gs) o t each = (
  (λ is.
      let p = and_parts (g.rtype == t) (same o g.owner) is in
      (each.0).data_are ∙ rrset_in-owner pointer_limit m rs g.owner o g.rtype (sym (same_labels (low o) (low g.owner) p.1)) ∙ ap (rrset_in pointer_limit m rs o) (eqb-true g.rtype t p.0)),
  chain_data m apex rs gs o t each.1,
)

chain_fresh : (m : List ℕ) (apex : Name) (rs : List Spelled) (gs : List SignedRrset) → AllByRecursion (IsAlone m apex rs) gs → AllByRecursion (λ g. g.verified ≡ None) gs
chain_fresh m apex rs [] each = tt
chain_fresh m apex rs (g ∷ gs) each = ((each.0).unverified, chain_fresh m apex rs gs each.1)

any_last : (p : SignedRrset → Bool) (gs : List SignedRrset) (x : SignedRrset) → list_any p (gs ++ x ∷ []) ≡ (list_any p gs || p x)
any_last p [] x = or_no (p x)
any_last p (g ∷ gs) x = ap (λ b. p g || b) (any_last p gs x) ∙ or_assoc (p g) (list_any p gs) (p x)
  where
    or_assoc : (a b c : Bool) → (a || (b || c)) ≡ ((a || b) || c)
    or_assoc true b c = refl
    or_assoc false b c = refl

all_last : (P : SignedRrset → Type 0) (gs : List SignedRrset) (x : SignedRrset) → AllByRecursion P gs → P x → AllByRecursion P (gs ++ x ∷ [])
all_last P [] x h k = (k, tt)
all_last P (g ∷ gs) x h k = (h.0, all_last P gs x h.1 k)

one_behind : (m : List ℕ) (apex : Name) (rs : List Spelled) (name : Name) (rtype : ℕ) (gs : List SignedRrset) (x : SignedRrset) → AreGathered m apex rs rs gs → x.owner ≡ name → x.rtype ≡ rtype → data_in x ≡ rrset_in pointer_limit m rs name rtype → x.verified ≡ None
    → AreSought (answer_sought pointer_limit m apex rs name rtype) (gs ++ x ∷ [])
one_behind m apex rs name rtype gs x a o k d v = record {
  found = λ p t.
      (λ i. both_ways (stands_alone m apex rs t p) (list_any (is_of p t) gs) (chain_to m apex rs gs p t a) (chain_from m apex rs gs p t a.each) i || ((sym k i == t) && same p (sym o i)))
      ∙ sym (any_last (is_of p t) gs x);
  datas = λ p t. all_last (λ g. is_of p t g ≡ true → data_in g ≡ rrset_in pointer_limit m rs p t) gs x (chain_data m apex rs gs p t a.each) (λ is.
      let q = and_parts (x.rtype == t) (same p x.owner) is in
      let owner : low name ≡ low p = ap low (sym o) ∙ sym (same_labels (low p) (low x.owner) q.1) in
      d ∙ rrset_in-owner pointer_limit m rs name p rtype owner ∙ ap (rrset_in pointer_limit m rs p) (sym k ∙ eqb-true x.rtype t q.0));
  fresh = all_last (λ g. g.verified ≡ None) gs x (chain_fresh m apex rs gs a.each) v;
}

pub answer_is : (m : List ℕ) (apex : Name) (rs : List Spelled) (name : Name) (rtype : ℕ) (gs : List SignedRrset) → AskedLast m apex rs name rtype gs → AreSought (answer_sought pointer_limit m apex rs name rtype) gs
answer_is m apex rs name rtype gs l = subst (AreSought (answer_sought pointer_limit m apex rs name rtype)) (sym l.are) (one_behind m apex rs name rtype l.chains l.asked l.gathered l.owner_is l.rtype_is l.datas_are l.unverified)
