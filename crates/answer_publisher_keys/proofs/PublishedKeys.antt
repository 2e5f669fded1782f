-- What a zone's keys publish is what the key set lists, whatever calls they have behind them.
use Rattle.std.proofs.Common.{◌≡◌, ℕ, Bool, true, false, cond, ◌&&◌, List, [], ◌∷◌, map, refl, sym, ap, subst, ◌∙◌, T, inl, inr}
use Rattle.std.specs.Prelude.{Option, Some, None, ◌↔◌, filter}
use Rattle.std.specs.List.{Contains}
use Rattle.std.specs.declared.cmp.Ordering.{Ordering}
use Rattle.std.specs.declared.cmp.Ordering.TheVariants.{Less, Equal, Greater}
use Rattle.std.specs.Ordering.{eq_by_cmp, is_eq, is_lt, nat_cmp, ordering_reverse}
use Rattle.std.specs.Cmp.{IsTotalOrder, nat_cmp_total, on_total}
use Rattle.std.specs.Cmp.Lexicographic.{nat_list_cmp_total, slice_cmp}
use Rattle.std.specs.FinMap.{nat_cmp-IsAntisymmetric, slice_cmp-IsAntisymmetric}
use Rattle.std.specs.FinMap.Entries.{find, below_all, is_sorted}
use Rattle.std.proofs.lemmas.Bool.{false≢true}
use Rattle.definitions.specs.Dnskey.{Dnskey, Ds, dnskey_data, key_tag}
use Rattle.definitions.specs.Sorting.{sort_by}
use Rattle.definitions.proofs.Members.{In, Rises, contained, filter_in, in_contained, in_filter, in_map, map_in, rising_same, sort_has, sort_keeps}
use Rattle.keyset.specs.KeyState.{Key, KeySetState, Reference, key_of, reference_cmp, references_where}
use Rattle.keyset.proofs.KeyFinds.{both_first, both_second, is_itself, is_same}
use Rattle.messages.proofs.Lists.{some_is}
use Rattle.answer_publisher_keys.specs.declared.keys.Publication.{Publication}
use Rattle.answer_publisher_keys.specs.declared.keys.Publication.TheVariants.{AtParent, Present, Signs, SignsKeys, SignsZone}
use Rattle.answer_publisher_keys.specs.Bindings.{BoundKey, ListsRoles, ZoneKeys, bound_at, dnskey_rdata, dnskeys, ds_cmp, ds_of, ds_set, has_role, is_published, keys_by_tag, no_keys, published, references_in, shown}
use Rattle.answer_publisher_keys.specs.KeyTags.{behind}
use Rattle.answer_publisher_keys.specs.PublishedKeys.{AreOf, IsPublishedAs, PublishedKeysAreThoseOfTheSet, PublishesKeySet}
use Rattle.answer_publisher_keys.proofs.BoundAll.{AllBound, all_behind}
use Rattle.answer_publisher_keys.proofs.KeyTags.{HasOwnTags, none_own}
use Rattle.answer_publisher_keys.proofs.KeyTagsPublished.{behind_own}

pub lists_roles : ListsRoles
lists_roles AtParent s = refl
lists_roles Present s = refl
lists_roles SignsKeys s = refl
lists_roles SignsZone s = refl
lists_roles Signs s = refl

-- ---- entries in order of reference

less_of : (o : Ordering) → T (is_lt o) → o ≡ Less
less_of Less h = refl
less_of Equal h = absurd h
less_of Greater h = absurd h

module _ {X : Type 0} where
  below_in : (q : Reference) (es : List (Reference × X)) (e : Reference × X) → T (below_all reference_cmp q es) → In e es → reference_cmp q e.0 ≡ Less
  below_in q [] e b i = absurd i
  below_in q (x ∷ es) e b i = elim i [
    | inl same ↦ ap (λ (y : Reference × X). reference_cmp q y.0) same ∙ less_of (reference_cmp q x.0) (both_first (is_lt (reference_cmp q x.0)) (below_all reference_cmp q es) b)
    | inr later ↦ below_in q es e (both_second (is_lt (reference_cmp q x.0)) (below_all reference_cmp q es) b) later
  ]

  abbrev references : List (Reference × X) → List Reference
  references es = map (λ (e : Reference × X). e.0) es

  -- the references of what passes a test rise
  rises_passing : (p : Reference × X → Bool) (es : List (Reference × X)) → T (is_sorted reference_cmp es) → Rises reference_cmp nat_list_cmp_total (references (filter p es))
  rises_passing p [] s = tt
  rises_passing p (e ∷ es) s =
      let below = both_first (below_all reference_cmp e.0 es) (is_sorted reference_cmp es) s in
      let rest = rises_passing p es (both_second (below_all reference_cmp e.0 es) (is_sorted reference_cmp es) s) in
      let first : (q : Reference) → In q (references (filter p es)) → reference_cmp e.0 q ≡ Less = λ q i.
      let m = map_in (λ (e : Reference × X). e.0) (filter p es) q i in
      ap (reference_cmp e.0) m.makes ∙ below_in e.0 es m.item below (filter_in p es m.item m.inside).0 in
      elim (p e) as (λ b. Rises reference_cmp nat_list_cmp_total (references (cond b (e ∷ filter p es) (filter p es)))) [
        | true ↦ (first, rest)
        | false ↦ rest
      ]

  -- an entry is found at its reference
  found_in : (es : List (Reference × X)) (e : Reference × X) → T (is_sorted reference_cmp es) → In e es → find reference_cmp e.0 es ≡ Some e.1
  found_in [] e s i = absurd i
  found_in (x ∷ es) e s i = elim i [
    | inl same ↦
        ap (λ b. cond b (Some x.1) (find reference_cmp e.0 es)) (ap (λ (y : Reference × X). eq_by_cmp reference_cmp e.0 y.0) (sym same) ∙ is_itself e.0) ∙ ap (λ (y : Reference × X). Some y.1) (sym same)
    | inr later ↦
        let less = below_in x.0 es e (both_first (below_all reference_cmp x.0 es) (is_sorted reference_cmp es) s) later in
        ap (λ b. cond b (Some x.1) (find reference_cmp e.0 es)) (ap is_eq (nat_list_cmp_total.antisymm e.0 x.0 ∙ ap ordering_reverse less))
        ∙ found_in es e (both_second (below_all reference_cmp x.0 es) (is_sorted reference_cmp es) s) later
  ]

  -- and what is found is an entry
  found_entry : (es : List (Reference × X)) (q : Reference) (x : X) → find reference_cmp q es ≡ Some x → In (q, x) es
  found_entry [] q x f = cc
  found_entry (e ∷ es) q x f = at (eq_by_cmp reference_cmp q e.0) refl f (λ g. found_entry es q x g)
    where
      at : (t : Bool) → eq_by_cmp reference_cmp q e.0 ≡ t → cond t (Some e.1) (find reference_cmp q es) ≡ Some x → (find reference_cmp q es ≡ Some x → In (q, x) es) → In (q, x) (e ∷ es)
      at true same g more = inl (λ i. (is_same q e.0 same i, sym (some_is e.1 x g) i))
      at false other g more = inr (more g)

-- ---- what is published

with_role : (p : Publication) (o : Option Key) → elim o [ None ↦ false | Some k ↦ has_role p k.roles ] ≡ true → (k : Key) × (o ≡ Some k) × (has_role p k.roles ≡ true)
with_role p None h = absurd (false≢true h)
with_role p (Some k) h = (k, refl, h)

all_in : {X : Type 0} (P : X → Type 0) (xs : List X) (x : X) → Rattle.std.specs.List.AllByRecursion P xs → In x xs → P x
all_in P [] x h i = absurd i
all_in P (y ∷ ys) x h i = elim i [ inl e ↦ subst P (sym e) h.0 | inr later ↦ all_in P ys x h.1 later ]

module _ (digest : Dnskey → Option (List ℕ)) (s : ZoneKeys) (own : HasOwnTags s) (made : AllBound (λ b. digest b.key ≡ Some b.digest) s.bound) where
  abbrev Shows : Publication → Reference → BoundKey → Type 0
  Shows p q b = IsPublishedAs digest s p q b

  is_shown : (p : Publication) (e : Reference × BoundKey) → In e (shown s p) → Shows p e.0 e.1
  is_shown p e h =
      let i = filter_in (λ (e : Reference × BoundKey). is_published s.keys p e.0) s.bound e h in
      let k = with_role p (key_of s.keys e.0) i.1 in
      let found = found_in s.bound e own.sorted i.0 in
      let tied = own.tied e.0 k.0 k.1 in
      let same : tied.0 ≡ e.1 = some_is tied.0 e.1 (sym tied.1 ∙ found) in
      record {
        key = k.0;
        held = k.1;
        role = k.2;
        bound = found;
        tag = ap (λ (b : BoundKey). key_tag b.key) (sym same) ∙ tied.2;
        digested = all_in (λ (e : Reference × BoundKey). digest e.1.key ≡ Some e.1.digest) s.bound e made i.0;
      }

  shown_by : (p : Publication) (q : Reference) (b : BoundKey) (k : Key) → key_of s.keys q ≡ Some k → has_role p k.roles ≡ true → bound_at s.bound q ≡ Some b → In (q, b) (shown s p)
  shown_by p q b k held role bound =
      in_filter (λ (e : Reference × BoundKey). is_published s.keys p e.0) s.bound (q, b) (found_entry s.bound q b bound) (ap (λ o. elim o [ None ↦ false | Some k ↦ has_role p k.roles ]) held ∙ role)

  -- ---- references

  abbrev holds : Publication → Reference × Key → Bool
  holds p e = has_role p e.1.roles

  abbrev held_by : Publication → List (Reference × Key)
  held_by p = filter (holds p) s.keys.keys

  into_list : (p : Publication) (q : Reference) → In q (map (λ e. e.0) (shown s p)) → In q (references_in p s.keys)
  into_list p q i =
      let m = map_in (λ (e : Reference × BoundKey). e.0) (shown s p) q i in
      let is = is_shown p m.item m.inside in
      let there : In m.item.0 (map (λ (e : Reference × Key). e.0) (held_by p)) =
      in_map (λ (e : Reference × Key). e.0) (held_by p) (m.item.0, is.key) (in_filter (holds p) s.keys.keys (m.item.0, is.key) (found_entry s.keys.keys m.item.0 is.key is.held) is.role) in
      subst (In q) (sym (lists_roles p s.keys)) (subst (λ r. In r (map (λ (e : Reference × Key). e.0) (held_by p))) (sym m.makes) there)

  from_list : (p : Publication) (q : Reference) → In q (references_in p s.keys) → In q (map (λ e. e.0) (shown s p))
  from_list p q i =
      let m = map_in (λ (e : Reference × Key). e.0) (held_by p) q (subst (In q) (lists_roles p s.keys) i) in
      let f = filter_in (holds p) s.keys.keys m.item m.inside in
      let held = found_in s.keys.keys m.item own.rises f.0 in
      let tied = own.tied m.item.0 m.item.1 held in
      subst (λ r. In r (map (λ (e : Reference × BoundKey). e.0) (shown s p))) (sym m.makes)
      (in_map (λ (e : Reference × BoundKey). e.0) (shown s p) (m.item.0, tied.0) (shown_by p m.item.0 tied.0 m.item.1 held f.1 tied.1))

  same_references : (p : Publication) → map (λ e. e.0) (shown s p) ≡ references_in p s.keys
  same_references p =
      rising_same reference_cmp nat_list_cmp_total (map (λ e. e.0) (shown s p)) (references_in p s.keys)
      (rises_passing (λ (e : Reference × BoundKey). is_published s.keys p e.0) s.bound own.sorted)
      (subst (Rises reference_cmp nat_list_cmp_total) (sym (lists_roles p s.keys)) (rises_passing (holds p) s.keys.keys own.rises))
      (into_list p) (from_list p)

  -- ---- what is made of published keys

  module _ {X : Type 0} (p : Publication) (make : BoundKey → X) where
    abbrev IsMade : X → Type 0
    IsMade x = (q : Reference) × (b : BoundKey) × Shows p q b × (x ≡ make b)

    made_of : (x : X) → In x (map make (published s p)) → IsMade x
    made_of x i =
        let m = map_in make (published s p) x i in
        let e = map_in (λ (e : Reference × BoundKey). e.1) (shown s p) m.item m.inside in
        (e.item.0, e.item.1, is_shown p e.item e.inside, m.makes ∙ ap make e.makes)

    made_in : (x : X) → IsMade x → In x (map make (published s p))
    made_in x h =
        let i = in_map (λ (e : Reference × BoundKey). e.1) (shown s p) (h.0, h.1) (shown_by p h.0 h.1 h.2.key h.2.held h.2.role h.2.bound) in
        subst (λ y. In y (map make (published s p))) (sym h.3) (in_map make (published s p) h.1 i)

    to_in : (xs : List X) (x : X) → Contains xs x → In x xs
    to_in xs x c = in_contained xs x c.0 c.1 c.2

    are_of : AreOf digest s p make (map make (published s p))
    are_of x = ((λ c. made_of x (to_in (map make (published s p)) x c)), (λ h. contained (map make (published s p)) x (made_in x h)))

    -- in an order in which what compares equal is one
    sorted_of : (R : X → X → Ordering) → IsTotalOrder R → ((q r : Reference) (b c : BoundKey) → Shows p q b → Shows p r c → R (make b) (make c) ≡ Equal → make b ≡ make c)
        → AreOf digest s p make (sort_by R (map make (published s p)))
    sorted_of R o exact x = (
      (λ c. made_of x (sort_has R o (map make (published s p)) x (to_in (sort_by R (map make (published s p))) x c))),
      (λ h. contained (sort_by R (map make (published s p))) x (sort_keeps R o (map make (published s p)) x one (made_in x h))),
    )
      where
        one : (a b : X) → In a (map make (published s p)) → In b (map make (published s p)) → R a b ≡ Equal → a ≡ b
        one a b i j e =
            let m = made_of a i in
            let n = made_of b j in
            m.3 ∙ exact m.0 n.0 m.1 n.1 m.2 n.2 (ap (λ x. R x (make n.1)) (sym m.3) ∙ ap (R a) (sym n.3) ∙ e) ∙ sym n.3

  -- keys of one tag are one
  one_tag : (p : Publication) (q r : Reference) (b c : BoundKey) → Shows p q b → Shows p r c → nat_cmp (key_tag b.key) (key_tag c.key) ≡ Equal → b ≡ c
  one_tag p q r b c h k e =
      let tags : key_tag b.key ≡ key_tag c.key = nat_cmp-IsAntisymmetric (key_tag b.key) (key_tag c.key) e in
      let same : q ≡ r = own.apart q r h.key k.key h.held k.held (sym h.tag ∙ tags ∙ k.tag) in
      some_is b c (sym h.bound ∙ ap (bound_at s.bound) same ∙ k.bound)

  data_of : (bs : List BoundKey) → map dnskey_data (dnskeys bs) ≡ map (λ (b : BoundKey). dnskey_data b.key) bs
  data_of [] = refl
  data_of (b ∷ bs) = ap (λ ds. dnskey_data b.key ∷ ds) (data_of bs)

  pub publishes : PublishesKeySet digest s
  publishes = record {
    references = same_references;
    keys = λ p. are_of p (λ b. b.key);
    ds = sorted_of AtParent ds_of ds_cmp (on_total (λ (d : Ds). d.tag) nat_cmp_total) (λ q r b c h k e. ap ds_of (one_tag AtParent q r b c h k e));
    dnskeys = subst (λ ds. AreOf digest s Present (λ (b : BoundKey). dnskey_data b.key) (sort_by (slice_cmp nat_cmp) ds)) (sym (data_of (published s Present)))
        (sorted_of Present (λ (b : BoundKey). dnskey_data b.key) (slice_cmp nat_cmp) nat_list_cmp_total (λ q r b c h k e. slice_cmp-IsAntisymmetric nat_cmp-IsAntisymmetric (dnskey_data b.key) (dnskey_data c.key) e));
    signers = λ p. sorted_of p (λ (b : BoundKey). b.key) (λ a b. nat_cmp (key_tag a) (key_tag b)) (on_total key_tag nat_cmp_total) (λ q r b c h k e. ap (λ (b : BoundKey). b.key) (one_tag p q r b c h k e));
  }

-- ---- whatever calls

pub published_are_listed : PublishedKeysAreThoseOfTheSet
published_are_listed digest name cs =
    publishes digest (behind digest (no_keys name) cs) (behind_own digest (no_keys name) cs (none_own name)) (all_behind digest (λ b. digest b.key ≡ Some b.digest) (λ kind algorithm octets d e. e) name cs)
