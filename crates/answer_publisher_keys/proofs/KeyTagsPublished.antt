-- The tags of keys that are published differ.
use Rattle.std.proofs.Common.{◌≡◌, ℕ, Bool, true, false, cond, not, ◌&&◌, List, [], ◌∷◌, map, refl, sym, ap, subst, ◌∙◌, T, eqb, inl, inr, ⊎_elim}
use Rattle.std.specs.Prelude.{Option, Some, None, Ok, Err, nat_eq}
use Rattle.std.specs.declared.cmp.Ordering.{Ordering}
use Rattle.std.specs.declared.cmp.Ordering.TheVariants.{Less, Equal, Greater}
use Rattle.std.specs.Ordering.{eq_by_cmp, is_eq, is_lt, ordering_reverse}
use Rattle.std.specs.Cmp.Lexicographic.{nat_list_cmp_total}
use Rattle.std.specs.FinMap.Entries.{find, below_all, is_sorted}
use Rattle.std.specs.Str.{bytes_eq}
use lib.Pointwise.{bytes_decides}
use Rattle.std.specs.List.{AllByRecursion, IsDistinct, filter, list_any}
use Rattle.std.proofs.lemmas.Bool.{and_from, and_parts, eq-eqb, eqb-true, false_from_ne_true, false≢true}
use Rattle.std.proofs.lemmas.Cmp.{tied_itself}
use Rattle.definitions.specs.Dnskey.{Dnskey, key_tag, same_key}
use Rattle.answer_publisher_keys.specs.declared.keys.Publication.{Publication}
use Rattle.answer_publisher_keys.specs.Bindings.{BoundKey, Call, Outcome, ZoneKeys, apply, dnskeys, has_role, is_published, no_keys, published}
use Rattle.answer_terms.specs.EqualTags.{clashes, has_equal_tags}
use Rattle.keyset.specs.KeyState.{Key, Reference, key_of, reference_cmp}
use Rattle.answer_publisher_keys.specs.KeyTags.{PublishedTagsDiffer, PublishedTagsPass, behind, left}
use Rattle.answer_publisher_keys.proofs.KeyTags.{HasOwnTags, LeavesOwn, apply_own, none_own}
use Rattle.messages.proofs.Lists.{Has, found, some_is}

-- ---- entries in order

both_first : (a b : Bool) → T (a && b) → T a
both_first true b p = tt
both_first false b p = p

both_second : (a b : Bool) → T (a && b) → T b
both_second true b p = p
both_second false b p = absurd p

below_has : (q : Reference) (es : List (Reference × BoundKey)) (e : Reference × BoundKey) → T (below_all reference_cmp q es) → Has es e → T (is_lt (reference_cmp q e.0))
below_has q [] e below h = absurd h
below_has q (x ∷ es) e below h = ⊎_elim
    (λ same. subst (λ (y : Reference × BoundKey). T (is_lt (reference_cmp q y.0))) (sym same) (both_first (is_lt (reference_cmp q x.0)) (below_all reference_cmp q es) below))
    (λ later. below_has q es e (both_second (is_lt (reference_cmp q x.0)) (below_all reference_cmp q es) below) later)
    h

not_tied : (o : Ordering) → T (is_lt o) → is_eq (ordering_reverse o) ≡ false
not_tied Less p = refl
not_tied Equal p = absurd p
not_tied Greater p = absurd p

past : (q p : Reference) → T (is_lt (reference_cmp q p)) → eq_by_cmp reference_cmp p q ≡ false
past q p l = ap is_eq (nat_list_cmp_total.antisymm p q) ∙ not_tied (reference_cmp q p) l

-- an entry is found at its reference
found_at : (es : List (Reference × BoundKey)) (e : Reference × BoundKey) → T (is_sorted reference_cmp es) → Has es e → find reference_cmp e.0 es ≡ Some e.1
found_at [] e s h = absurd h
found_at (x ∷ es) e s h = ⊎_elim
    (λ same. ap (λ b. cond b (Some x.1) (find reference_cmp e.0 es)) (ap (eq_by_cmp reference_cmp e.0) (ap (λ (y : Reference × BoundKey). y.0) (sym same)) ∙ ap is_eq (tied_itself nat_list_cmp_total e.0)) ∙ ap (λ (y : Reference × BoundKey). Some y.1) (sym same))
    (λ later.
    ap (λ b. cond b (Some x.1) (find reference_cmp e.0 es)) (past x.0 e.0 (below_has x.0 es e (both_first (below_all reference_cmp x.0 es) (is_sorted reference_cmp es) s) later))
    ∙ found_at es e (both_second (below_all reference_cmp x.0 es) (is_sorted reference_cmp es) s) later)
    h

-- ---- tags of entries

role_of : (p : Publication) (o : Option Key) → elim o [ None ↦ false | Some k ↦ has_role p k.roles ] ≡ true → (k : Key) × (o ≡ Some k)
role_of p None h = absurd (false≢true h)
role_of p (Some k) h = (k, refl)

-- a published entry has the tag of a key
tag_of : (s : ZoneKeys) (p : Publication) (e : Reference × BoundKey) → HasOwnTags s → Has s.bound e → is_published s.keys p e.0 ≡ true → (k : Key) × (key_of s.keys e.0 ≡ Some k) × (key_tag e.1.key ≡ k.tag)
tag_of s p e own h shown =
    let k = role_of p (key_of s.keys e.0) shown in
    let b = own.tied e.0 k.0 k.1 in
    let same : b.0 ≡ e.1 = some_is b.0 e.1 (sym b.1 ∙ found_at s.bound e own.sorted h) in
    (k.0, k.1, ap (λ (c : BoundKey). key_tag c.key) (sym same) ∙ b.2)

one_reference : (s : ZoneKeys) (p : Publication) (e f : Reference × BoundKey) → HasOwnTags s → Has s.bound e → Has s.bound f → is_published s.keys p e.0 ≡ true → is_published s.keys p f.0 ≡ true → key_tag e.1.key ≡ key_tag f.1.key → e.0 ≡ f.0
one_reference s p e f own he hf se sf same =
    let a = tag_of s p e own he se in
    let b = tag_of s p f own hf sf in
    own.apart e.0 f.0 a.0 b.0 a.1 b.1 (sym a.2 ∙ same ∙ b.2)

-- the keys of the entries that pass a test
abbrev keys_where : (Reference → Bool) → List (Reference × BoundKey) → List Dnskey
keys_where t es = dnskeys (map (λ (e : Reference × BoundKey). e.1) (filter (λ (e : Reference × BoundKey). t e.0) es))

apart_from : (q : Reference) (tag : ℕ) (t : Reference → Bool) (es : List (Reference × BoundKey)) → T (below_all reference_cmp q es) → ((f : Reference × BoundKey) → Has es f → t f.0 ≡ true → tag ≡ key_tag f.1.key → q ≡ f.0) → AllByRecursion (λ y. nat_eq tag y ≡ false) (map key_tag (keys_where t es))
apart_from q tag t [] below one = tt
apart_from q tag t (x ∷ es) below one =
    let lt = both_first (is_lt (reference_cmp q x.0)) (below_all reference_cmp q es) below in
    let rest = apart_from q tag t es (both_second (is_lt (reference_cmp q x.0)) (below_all reference_cmp q es) below) (λ f h. one f (inr h)) in
    at (t x.0) refl lt rest
  where
    unlike : t x.0 ≡ true → T (is_lt (reference_cmp q x.0)) → nat_eq tag (key_tag x.1.key) ≡ false
    unlike e lt = false_from_ne_true (nat_eq tag (key_tag x.1.key)) (λ same.
        let r : q ≡ x.0 = one x (inl refl) e (eqb-true tag (key_tag x.1.key) same) in
        false≢true (sym (past q x.0 lt) ∙ ap (eq_by_cmp reference_cmp x.0) r ∙ ap is_eq (tied_itself nat_list_cmp_total x.0)))

    at : (b : Bool) → t x.0 ≡ b → T (is_lt (reference_cmp q x.0)) → AllByRecursion (λ y. nat_eq tag y ≡ false) (map key_tag (keys_where t es)) → AllByRecursion (λ y. nat_eq tag y ≡ false) (map key_tag (dnskeys (map (λ (e : Reference × BoundKey). e.1) (cond b (x ∷ filter (λ (e : Reference × BoundKey). t e.0) es) (filter (λ (e : Reference × BoundKey). t e.0) es)))))
    at true e lt rest = (unlike e lt, rest)
    at false e lt rest = rest

all_apart : (t : Reference → Bool) (es : List (Reference × BoundKey)) → T (is_sorted reference_cmp es) → ((e f : Reference × BoundKey) → Has es e → Has es f → t e.0 ≡ true → t f.0 ≡ true → key_tag e.1.key ≡ key_tag f.1.key → e.0 ≡ f.0) → IsDistinct nat_eq (map key_tag (keys_where t es))
unfolding IsDistinct
all_apart t [] s one = tt
all_apart t (x ∷ es) s one =
    let below = both_first (below_all reference_cmp x.0 es) (is_sorted reference_cmp es) s in
    let rest = all_apart t es (both_second (below_all reference_cmp x.0 es) (is_sorted reference_cmp es) s) (λ e f he hf. one e f (inr he) (inr hf)) in
    let head : t x.0 ≡ true → AllByRecursion (λ y. nat_eq (key_tag x.1.key) y ≡ false) (map key_tag (keys_where t es)) = λ shown. apart_from x.0 (key_tag x.1.key) t es below (λ f h. one x f (inl refl) (inr h) shown) in
    elim (t x.0) as (λ b. (b ≡ true → AllByRecursion (λ y. nat_eq (key_tag x.1.key) y ≡ false) (map key_tag (keys_where t es))) → IsDistinct nat_eq (map key_tag (dnskeys (map (λ (e : Reference × BoundKey). e.1) (cond b (x ∷ filter (λ (e : Reference × BoundKey). t e.0) es) (filter (λ (e : Reference × BoundKey). t e.0) es)))))) [
      | true ↦ λ h. (h refl, rest)
      | false ↦ λ h. rest
    ] head

-- the tags of a published set are distinct
pub distinct_tags : (s : ZoneKeys) (p : Publication) → HasOwnTags s → IsDistinct nat_eq (map key_tag (dnskeys (published s p)))
distinct_tags s p own = all_apart (is_published s.keys p) s.bound own.sorted (λ e f he hf. one_reference s p e f own he hf)

-- ---- a judge finds none of one tag

tag_in : (ks : List Dnskey) (tag : ℕ) (b : Dnskey) → AllByRecursion (λ y. nat_eq tag y ≡ false) (map key_tag ks) → Has ks b → nat_eq tag (key_tag b) ≡ false
tag_in [] tag b h i = absurd i
tag_in (k ∷ ks) tag b h i = ⊎_elim (λ e. ap (λ (x : Dnskey). nat_eq tag (key_tag x)) e ∙ h.0) (λ later. tag_in ks tag b h.1 later) i

one_key : (ks : List Dnskey) (a b : Dnskey) → IsDistinct nat_eq (map key_tag ks) → Has ks a → Has ks b → key_tag a ≡ key_tag b → a ≡ b
unfolding IsDistinct
one_key [] a b d ha hb e = absurd ha
one_key (k ∷ ks) a b d ha hb e = ⊎_elim
    (λ (x : a ≡ k). ⊎_elim
    (λ (y : b ≡ k). x ∙ sym y)
    (λ (y : Has ks b). absurd (false≢true (sym (tag_in ks (key_tag k) b d.0 y) ∙ eq-eqb (key_tag k) (key_tag b) (ap key_tag (sym x) ∙ e))))
    hb)
    (λ (x : Has ks a). ⊎_elim
    (λ (y : b ≡ k). absurd (false≢true (sym (tag_in ks (key_tag k) a d.0 x) ∙ eq-eqb (key_tag k) (key_tag a) (ap key_tag (sym y) ∙ sym e))))
    (λ (y : Has ks b). one_key ks a b d.1 x y e)
    hb)
    ha

same_itself : (k : Dnskey) → same_key k k ≡ true
same_itself k =
    let flags = eq-eqb k.flags k.flags refl in
    let protocol = and_from (eqb k.flags k.flags) (eqb k.protocol k.protocol) flags (eq-eqb k.protocol k.protocol refl) in
    let algorithm = and_from (eqb k.flags k.flags && eqb k.protocol k.protocol) (eqb k.algorithm k.algorithm) protocol (eq-eqb k.algorithm k.algorithm refl) in
    and_from (eqb k.flags k.flags && eqb k.protocol k.protocol && eqb k.algorithm k.algorithm) (bytes_eq k.octets k.octets) algorithm ((bytes_decides k.octets k.octets).1 refl)

pub passes : (ks : List Dnskey) → IsDistinct nat_eq (map key_tag ks) → has_equal_tags ks ≡ false
passes ks d = false_from_ne_true (has_equal_tags ks) (λ e.
    let a = found (λ (x : Dnskey). list_any (clashes x) ks) ks e in
    let b = found (clashes a.0) ks a.2 in
    let parts = and_parts (nat_eq (key_tag a.0) (key_tag b.0)) (not (same_key a.0 b.0)) b.2 in
    let same : a.0 ≡ b.0 = one_key ks a.0 b.0 d a.1 b.1 (eqb-true (key_tag a.0) (key_tag b.0) parts.0) in
    false≢true (sym (ap (λ t. not t) (ap (same_key a.0) (sym same) ∙ same_itself a.0)) ∙ parts.1))

pub equal_tags : (s : ZoneKeys) (p : Publication) → HasOwnTags s → has_equal_tags (dnskeys (published s p)) ≡ false
equal_tags s p own = passes (dnskeys (published s p)) (distinct_tags s p own)

-- ---- whatever calls

left_own : (s : ZoneKeys) (o : Outcome) → HasOwnTags s → LeavesOwn o → HasOwnTags (left s o)
left_own s (Ok r) h l = l
left_own s (Err e) h l = h

-- the tags of a zone's keys are their own, whatever calls are behind them
pub behind_own : (digest : Dnskey → Option (List ℕ)) (s : ZoneKeys) (cs : List (ℕ × Call)) → HasOwnTags s → HasOwnTags (behind digest s cs)
behind_own digest s [] h = h
behind_own digest s (c ∷ cs) h = behind_own digest (left s (apply digest c.1 c.0 s)) cs (left_own s (apply digest c.1 c.0 s) h (apply_own digest c.1 c.0 s h))

pub tags_differ : PublishedTagsDiffer
tags_differ digest name cs p = distinct_tags (behind digest (no_keys name) cs) p (behind_own digest (no_keys name) cs (none_own name))

pub tags_pass : PublishedTagsPass
tags_pass digest name cs p = equal_tags (behind digest (no_keys name) cs) p (behind_own digest (no_keys name) cs (none_own name))
