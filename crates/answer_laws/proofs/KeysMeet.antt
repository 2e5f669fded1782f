-- Keys of three states meet where their references do.
use Rattle.std.proofs.Common.{◌≡◌, Bool, true, false, cond, ◌&&◌, ◌||◌, List, [], ◌∷◌, map, refl, sym, ap, subst, ◌∙◌, T, inl, inr, ⊎_elim}
use Rattle.std.specs.Prelude.{Contains, Option, Some, None, if◌then◌else◌}
use Rattle.std.specs.List.{filter, list_any}
use Rattle.std.specs.Str.{bytes_eq}
use Rattle.std.specs.Cmp.Lexicographic.{bytes_decides}
use Rattle.std.specs.Ordering.{eq_by_cmp}
use Rattle.std.specs.FinMap.Entries.{find, is_sorted}
use Rattle.std.proofs.lemmas.Bool.{and_parts, false_from_ne_true, false≢true}
use Rattle.definitions.specs.Dnskey.{Dnskey}
use Rattle.keyset_keys.specs.declared.keys.KeyType.{KeyType}
use Rattle.keyset.specs.KeyState.{Key, Reference, ds, key_of, keysigners, ksk_is, listed, present, reference_cmp, references_where, signs, zonesigners, zsk_is}
use Rattle.keyset.proofs.KeyFinds.{first_found, is_same, later, sorted_rest}
use Rattle.keyset_laws.specs.KeyLife.{differ, meet, tags_of}
use Rattle.keyset_laws.specs.Sides.{is_empty}
use Rattle.keyset_laws.proofs.Contents.{found_named}
use Rattle.answer_publisher_keys.specs.declared.keys.Publication.{Publication}
use Rattle.answer_publisher_keys.specs.declared.keys.Publication.TheVariants as publication
use Rattle.answer_publisher_keys.specs.Bindings.{BoundKey, ZoneKeys, bound_at, dnskeys, ds_cmp, ds_of, ds_set, has_role, is_published, published}
use Rattle.definitions.specs.Sorting.{sort_by}
use Rattle.answer_judge.specs.Meeting.{Meet}
use Rattle.answer_judge.proofs.GivenLists.{contained_has, has_contained}
use Rattle.answer_laws.proofs.KeyHistory.{StayBound}
use Rattle.answer_publisher_keys.proofs.KeyTags.{HasOwnTags}
use Rattle.messages.proofs.Lists.{Has, found, some_is}

-- the keys of three states meet
abbrev pub KeysMeet : ZoneKeys → ZoneKeys → ZoneKeys → Type 0
KeysMeet x y z = Meet (dnskeys (published x publication.AtParent)) (dnskeys (published y publication.Present)) (dnskeys (published y publication.SignsKeys)) (dnskeys (published z publication.SignsZone))

-- ---- a key of the set that has a role

abbrev keys_in : (KeyType → Bool) → List (Reference × Key) → List Reference
keys_in p es = map (λ (e : Reference × Key). e.0) (filter (λ (e : Reference × Key). p e.1.roles) es)

named_found : (p : KeyType → Bool) (es : List (Reference × Key)) (q : Reference) → T (is_sorted reference_cmp es) → Has (keys_in p es) q → (k : Key) × (find reference_cmp q es ≡ Some k) × (p k.roles ≡ true)
named_found p [] q s h = absurd h
named_found p (e ∷ es) q s h = at (p e.1.roles) refl h (λ i. let f = named_found p es q (sorted_rest es e s) i in (f.0, later es e s q f.0 f.1, f.2))
  where
    Found : Type 0
    Found = (k : Key) × (find reference_cmp q (e ∷ es) ≡ Some k) × (p k.roles ≡ true)

    at : (b : Bool) → p e.1.roles ≡ b → Has (map (λ (e : Reference × Key). e.0) (cond b (e ∷ filter (λ (e : Reference × Key). p e.1.roles) es) (filter (λ (e : Reference × Key). p e.1.roles) es))) q → (Has (keys_in p es) q → Found) → Found
    at true i h behind = ⊎_elim (λ (same : q ≡ e.0). (e.1, ap (λ (x : Reference). find reference_cmp x (e ∷ es)) same ∙ first_found es e s, i)) behind h
    at false i h behind = behind h

listed_has : (qs : List Reference) (q : Reference) → listed qs q ≡ true → Has qs q
listed_has qs q e = let f = found (λ (p : Reference). bytes_eq p q) qs e in subst (Has qs) ((bytes_decides f.0 q).0 f.2) f.1

-- ---- its DNSKEY

entry_has : (t : Reference → Bool) (q : Reference) (b : BoundKey) (es : List (Reference × BoundKey)) → find reference_cmp q es ≡ Some b → t q ≡ true → Has (dnskeys (map (λ (e : Reference × BoundKey). e.1) (filter (λ (e : Reference × BoundKey). t e.0) es))) b.key
entry_has t q b [] f h = cc
entry_has t q b (e ∷ es) f h = at (eq_by_cmp reference_cmp q e.0) refl f (λ g. entry_has t q b es g h)
  where
    rest : List (Reference × BoundKey)
    rest = filter (λ (e : Reference × BoundKey). t e.0) es

    keys : Bool → List Dnskey
    keys u = dnskeys (map (λ (e : Reference × BoundKey). e.1) (cond u (e ∷ rest) rest))

    behind : (u : Bool) → Has (keys false) b.key → Has (keys u) b.key
    behind true h = inr h
    behind false h = h

    at : (u : Bool) → eq_by_cmp reference_cmp q e.0 ≡ u → cond u (Some e.1) (find reference_cmp q es) ≡ Some b → (find reference_cmp q es ≡ Some b → Has (keys false) b.key) → Has (keys (t e.0)) b.key
    at true i f more = subst (λ u. Has (keys u) b.key) (sym (ap t (sym (is_same q e.0 i)) ∙ h)) (inl (ap (λ (c : BoundKey). c.key) (sym (some_is e.1 b f))))
    at false i f more = behind (t e.0) (more f)

-- the DNSKEY that a reference is bound to is published
abbrev IsPublishedAs : ZoneKeys → Publication → Reference → Type 0
IsPublishedAs s p q = (b : BoundKey) × (bound_at s.bound q ≡ Some b) × Has (dnskeys (published s p)) b.key

published_as : (s : ZoneKeys) (p : Publication) (q : Reference) → HasOwnTags s → Has (references_where (has_role p) s.keys) q → IsPublishedAs s p q
published_as s p q own h =
    let f = named_found (has_role p) s.keys.keys q own.rises h in
    let b = own.tied q f.0 f.1 in
    let role : is_published s.keys p q ≡ true = ap (λ (o : Option Key). elim o [ None ↦ false | Some k ↦ has_role p k.roles ]) f.1 ∙ f.2 in
    (b.0, b.1, entry_has (is_published s.keys p) q b.0 s.bound b.1 role)

-- ---- three states

-- what a state's keys are, whose references stay bound up to now
pub record IsPast (s now : ZoneKeys) : Type 0 where
  pub own : HasOwnTags s
  pub stays : StayBound s.bound now.bound

-- a reference has one key in two states
one_key : (x y now : ZoneKeys) (q : Reference) (a b : BoundKey) → IsPast x now → IsPast y now → bound_at x.bound q ≡ Some a → bound_at y.bound q ≡ Some b → a.key ≡ b.key
one_key x y now q a b px py e f =
    let c = px.stays q a e in
    let d = py.stays q b f in
    sym c.2 ∙ ap (λ (b : BoundKey). b.key) (some_is c.0 d.0 (sym c.1 ∙ d.1)) ∙ d.2

shared : (x y now : ZoneKeys) (p r : Publication) (q : Reference) → IsPast x now → IsPast y now → (a : IsPublishedAs x p q) → (b : IsPublishedAs y r q) → Has (dnskeys (published x p)) b.0.key
shared x y now p r q px py a b = subst (Has (dnskeys (published x p))) (one_key x y now q a.0 b.0 px py a.1 b.1) a.2

first_two : (a b c : Bool) → (a && b && c) ≡ true → (a ≡ true) × (b ≡ true)
first_two true true c e = (refl, refl)
first_two true false c e = cc
first_two false b c e = cc

pub keys_meet : (x y z now : ZoneKeys) → IsPast x now → IsPast y now → IsPast z now → meet x.keys y.keys z.keys ≡ true → KeysMeet x y z
keys_meet x y z now px py pz e =
    let two = first_two (list_any (λ q. listed (present y.keys) q && listed (keysigners y.keys) q) (ds x.keys)) (list_any (λ q. listed (zonesigners z.keys) q) (present y.keys)) (differ (tags_of y.keys (present y.keys))) e in
    let anchor = found (λ q. listed (present y.keys) q && listed (keysigners y.keys) q) (ds x.keys) two.0 in
    let both = and_parts (listed (present y.keys) anchor.0) (listed (keysigners y.keys) anchor.0) anchor.2 in
    let signer = found (λ q. listed (zonesigners z.keys) q) (present y.keys) two.1 in
    let parent = published_as x publication.AtParent anchor.0 px.own anchor.1 in
    let there = published_as y publication.Present anchor.0 py.own (listed_has (present y.keys) anchor.0 both.0) in
    let keys = published_as y publication.SignsKeys anchor.0 py.own (listed_has (keysigners y.keys) anchor.0 both.1) in
    let member = published_as y publication.Present signer.0 py.own signer.1 in
    let zone = published_as z publication.SignsZone signer.0 pz.own (listed_has (zonesigners z.keys) signer.0 signer.2) in
    record {
      anchor = there.0.key;
      at_parent = contained_has (dnskeys (published x publication.AtParent)) there.0.key (shared x y now publication.AtParent publication.Present anchor.0 px py parent there);
      anchor_present = contained_has (dnskeys (published y publication.Present)) there.0.key there.2;
      signs_keys = contained_has (dnskeys (published y publication.SignsKeys)) there.0.key (shared y y now publication.SignsKeys publication.Present anchor.0 py py keys there);
      signer = member.0.key;
      signer_present = contained_has (dnskeys (published y publication.Present)) member.0.key member.2;
      signs_zone = contained_has (dnskeys (published z publication.SignsZone)) member.0.key (shared z y now publication.SignsZone publication.Present signer.0 pz py zone member);
    }

-- ---- keys that sign the zone are among those that sign any RRset

more_have : (t u : Reference → Bool) → ((q : Reference) → t q ≡ true → u q ≡ true) → (es : List (Reference × BoundKey)) (k : Dnskey) → Has (dnskeys (map (λ (e : Reference × BoundKey). e.1) (filter (λ (e : Reference × BoundKey). t e.0) es))) k
    → Has (dnskeys (map (λ (e : Reference × BoundKey). e.1) (filter (λ (e : Reference × BoundKey). u e.0) es))) k
more_have t u f [] k h = absurd h
more_have t u f (e ∷ es) k h = at (t e.0) refl (u e.0) refl h (more_have t u f es k)
  where
    keys : (Reference → Bool) → Bool → List Dnskey
    keys v b = dnskeys (map (λ (e : Reference × BoundKey). e.1) (cond b (e ∷ filter (λ (e : Reference × BoundKey). v e.0) es) (filter (λ (e : Reference × BoundKey). v e.0) es)))

    at : (a : Bool) → t e.0 ≡ a → (b : Bool) → u e.0 ≡ b → Has (keys t a) k → (Has (keys t false) k → Has (keys u false) k) → Has (keys u b) k
    at true i true j h more = ⊎_elim (λ same. inl same) (λ rest. inr (more rest)) h
    at true i false j h more = absurd (false≢true (sym j ∙ f e.0 i))
    at false i true j h more = inr (more h)
    at false i false j h more = more h

or_second : (a b : Bool) → b ≡ true → (a || b) ≡ true
or_second true b h = refl
or_second false b h = h

signs_any : (s : ZoneKeys) (q : Reference) → is_published s.keys publication.SignsZone q ≡ true → is_published s.keys publication.Signs q ≡ true
signs_any s q h = at (key_of s.keys q) h
  where
    at : (o : Option Key) → elim o [ None ↦ false | Some k ↦ has_role publication.SignsZone k.roles ] ≡ true → elim o [ None ↦ false | Some k ↦ has_role publication.Signs k.roles ] ≡ true
    at None h = h
    at (Some k) h = or_second (ksk_is signs k.roles) (zsk_is signs k.roles) h

signs_so : (s : ZoneKeys) (k : Dnskey) (b : Bool) → Contains (dnskeys (published s publication.SignsZone)) k → Contains (dnskeys (published s (if b then publication.Signs else publication.SignsZone))) k
signs_so s k true h =
    contained_has (dnskeys (published s publication.Signs)) k
    (more_have (is_published s.keys publication.SignsZone) (is_published s.keys publication.Signs) (signs_any s) s.bound k (has_contained (dnskeys (published s publication.SignsZone)) k h))
signs_so s k false h = h

-- so keys that meet do so with whichever sign an answer
pub meet_so : (x y z : ZoneKeys) (b : Bool) → KeysMeet x y z
    → Meet (dnskeys (published x publication.AtParent)) (dnskeys (published y publication.Present)) (dnskeys (published y publication.SignsKeys)) (dnskeys (published z (if b then publication.Signs else publication.SignsZone)))
meet_so x y z b m = record {
  anchor = m.anchor;
  at_parent = m.at_parent;
  anchor_present = m.anchor_present;
  signs_keys = m.signs_keys;
  signer = m.signer;
  signer_present = m.signer_present;
  signs_zone = signs_so z m.signer b m.signs_zone;
}

-- ---- an empty DS set

none_passes : (t : Reference → Bool) (es : List (Reference × BoundKey)) → ((q : Reference) → t q ≡ false) → filter (λ (e : Reference × BoundKey). t e.0) es ≡ []
none_passes t [] h = refl
none_passes t (e ∷ es) h =
    ap (λ b. cond b (e ∷ filter (λ (e : Reference × BoundKey). t e.0) es) (filter (λ (e : Reference × BoundKey). t e.0) es)) (h e.0) ∙ none_passes t es h

empty_lists : (qs : List Reference) (q : Reference) → is_empty qs ≡ true → listed qs q ≡ true → ⊥
empty_lists [] q e l = cc
empty_lists (p ∷ qs) q e l = cc

none_published : (s : ZoneKeys) (p : Publication) → is_empty (references_where (has_role p) s.keys) ≡ true → published s p ≡ []
none_published s p e = ap (λ es. map (λ (e : Reference × BoundKey). e.1) es) (none_passes (is_published s.keys p) s.bound (λ q. at q (key_of s.keys q) refl))
  where
    at : (q : Reference) (o : Option Key) → key_of s.keys q ≡ o → elim o [ None ↦ false | Some k ↦ has_role p k.roles ] ≡ false
    at q None f = refl
    at q (Some k) f = false_from_ne_true (has_role p k.roles) (λ role. empty_lists (references_where (has_role p) s.keys) q e (found_named (has_role p) s.keys q k f role))

-- a DS set that isn't empty is of keys at the parent
pub some_at_parent : (s : ZoneKeys) → is_empty (ds_set s) ≡ false → is_empty (ds s.keys) ≡ false
some_at_parent s some = false_from_ne_true (is_empty (ds s.keys)) (λ e. false≢true (sym some ∙ ap (λ bs. is_empty (sort_by ds_cmp (map ds_of bs))) (none_published s publication.AtParent e)))
