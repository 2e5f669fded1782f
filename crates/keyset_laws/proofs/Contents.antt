-- What things show, and that states of one content show the same keys.
use Rattle.std.proofs.Common.{◌≡◌, Bool, true, false, cond, List, [], ◌∷◌, map, refl, ap, subst, ◌∙◌, T, ◌&&◌, ◌||◌}
use Rattle.std.specs.Prelude.{Some}
use Rattle.std.specs.List.{filter}
use Rattle.std.specs.Str.{bytes_eq}
use Rattle.std.specs.Ordering.{eq_by_cmp}
use Rattle.std.specs.Cmp.Lexicographic.{bytes_decides}
use Rattle.std.specs.FinMap.Entries.{find, is_sorted}
use Rattle.std.proofs.lemmas.Bool.{and_from, or_right}
use Rattle.keyset_keys.specs.declared.keys.KeyType.{KeyType}
use Rattle.keyset.specs.KeyState.{Key, KeySetState, Reference, ds, is_at_parent, is_present, key_of, keysigners, ksk_is, listed, main_is, present, reference_cmp, references_where, signs, zsk_is}
use Rattle.keyset.proofs.KeyFinds.{first_found, later, sorted_rest, is_same}
use Rattle.keyset.proofs.KeyTables.{and_left as left_of, and_right as right_of}
use Rattle.keyset_laws.specs.KeyLife.{Thing, DsSet, DnskeyAnswer, ZoneAnswer, content, same_content, same_references}
use Rattle.keyset_laws.specs.Sides.{Side, OfKeys, OfZone, is_empty, is_shown, shows}

-- ---- equal contents

pub references_same : (ps qs : List Reference) → same_references ps qs ≡ true → ps ≡ qs
references_same [] [] h = refl
references_same [] (q ∷ qs) h = cc
references_same (p ∷ ps) [] h = cc
references_same (p ∷ ps) (q ∷ qs) h =
    (λ i. (bytes_decides p q).0 (left_of (bytes_eq p q) (same_references ps qs) h) i ∷ references_same ps qs (right_of (bytes_eq p q) (same_references ps qs) h) i)

pub contents_same : (xs ys : List (List Reference)) → same_content xs ys ≡ true → xs ≡ ys
contents_same [] [] h = refl
contents_same [] (y ∷ ys) h = cc
contents_same (x ∷ xs) [] h = cc
contents_same (x ∷ xs) (y ∷ ys) h =
    (λ i. references_same x y (left_of (same_references x y) (same_content xs ys) h) i ∷ contents_same xs ys (right_of (same_references x y) (same_content xs ys) h) i)

first_list : List (List Reference) → List Reference
first_list [] = []
first_list (x ∷ xs) = x

second_list : List (List Reference) → List Reference
second_list [] = []
second_list (x ∷ xs) = first_list xs

pub shows_same : (side : Side) (thing : Thing) (q : Reference) (x y : KeySetState) → content thing x ≡ content thing y → shows side thing q x ≡ shows side thing q y
unfolding first_list second_list
shows_same OfKeys DsSet q x y e = ap (λ c. is_empty (first_list c) || listed (first_list c) q) e
shows_same OfKeys DnskeyAnswer q x y e = ap (λ c. listed (first_list c) q && listed (second_list c) q) e
shows_same OfKeys ZoneAnswer q x y e = refl
shows_same OfZone DsSet q x y e = refl
shows_same OfZone DnskeyAnswer q x y e = ap (λ c. listed (first_list c) q) e
shows_same OfZone ZoneAnswer q x y e = ap (λ c. listed (first_list c) q) e

-- ---- what roles say

is_listed_here : (q : Reference) (qs : List Reference) → listed (q ∷ qs) q ≡ true
is_listed_here q qs = ap (λ b. b || listed qs q) ((bytes_decides q q).1 refl)

is_listed_later : (p q : Reference) (qs : List Reference) → listed qs q ≡ true → listed (p ∷ qs) q ≡ true
is_listed_later p q qs h = or_right (bytes_eq p q) (listed qs q) h

abbrev passing : (KeyType → Bool) → List (Reference × Key) → List (Reference × Key)
passing p es = filter (λ (e : Reference × Key). p e.1.roles) es

abbrev named : List (Reference × Key) → List Reference
named es = map (λ (e : Reference × Key). e.0) es

-- a key that is found and passes is listed
pub found_listed : (p : KeyType → Bool) (es : List (Reference × Key)) (q : Reference) (k : Key) → find reference_cmp q es ≡ Some k → p k.roles ≡ true → listed (named (passing p es)) q ≡ true
found_listed p [] q k f h = cc
found_listed p (e ∷ es) q k f h = at (eq_by_cmp reference_cmp q e.0) refl f (λ g. found_listed p es q k g h)
  where
    kept : (b : Bool) → listed (named (passing p es)) q ≡ true → listed (named (cond b (e ∷ passing p es) (passing p es))) q ≡ true
    kept true h = is_listed_later e.0 q (named (passing p es)) h
    kept false h = h

    at : (t : Bool) → eq_by_cmp reference_cmp q e.0 ≡ t → cond t (Some e.1) (find reference_cmp q es) ≡ Some k → (find reference_cmp q es ≡ Some k → listed (named (passing p es)) q ≡ true)
        → listed (named (cond (p e.1.roles) (e ∷ passing p es) (passing p es))) q ≡ true
    at true i g more =
        let same : e.1 ≡ k = cc in
        let yes : p e.1.roles ≡ true = ap (λ (k : Key). p k.roles) same ∙ h in
        ap (λ b. listed (named (cond b (e ∷ passing p es) (passing p es))) q) yes
        ∙ subst (λ x. listed (x ∷ named (passing p es)) x ≡ true → listed (x ∷ named (passing p es)) q ≡ true) (is_same q e.0 i) (λ h. h) (is_listed_here e.0 (named (passing p es)))
    at false i g more = kept (p e.1.roles) (more g)

pub found_named : (p : KeyType → Bool) (s : KeySetState) (q : Reference) (k : Key) → key_of s q ≡ Some k → p k.roles ≡ true → listed (references_where p s) q ≡ true
found_named p s q k f h = found_listed p s.keys q k f h

-- a key whose roles show it is shown
pub shown_shows : (side : Side) (thing : Thing) (s : KeySetState) (q : Reference) (k : Key) → key_of s q ≡ Some k → is_shown side thing k.roles ≡ true → shows side thing q s ≡ true
shown_shows OfKeys DsSet s q k f h = or_right (is_empty (ds s)) (listed (ds s) q) (found_named (ksk_is is_at_parent) s q k f h)
shown_shows OfKeys DnskeyAnswer s q k f h =
    and_from (listed (present s) q) (listed (keysigners s) q)
    (found_named (main_is is_present) s q k f (left_of (main_is is_present k.roles) (ksk_is signs k.roles) h))
    (found_named (ksk_is signs) s q k f (right_of (main_is is_present k.roles) (ksk_is signs k.roles) h))
shown_shows OfKeys ZoneAnswer s q k f h = refl
shown_shows OfZone DsSet s q k f h = refl
shown_shows OfZone DnskeyAnswer s q k f h = found_named (main_is is_present) s q k f (left_of (main_is is_present k.roles) (zsk_is (λ _. true) k.roles) h)
shown_shows OfZone ZoneAnswer s q k f h = found_named (zsk_is signs) s q k f h

-- no key of a set passes, none is listed
none_filtered : (p : KeyType → Bool) (es : List (Reference × Key)) → T (is_sorted reference_cmp es) → ((q : Reference) (k : Key) → find reference_cmp q es ≡ Some k → p k.roles ≡ false) → filter (λ (e : Reference × Key). p e.1.roles) es ≡ []
none_filtered p [] s h = refl
none_filtered p (e ∷ es) s h =
    ap (λ b. cond b (e ∷ filter (λ (e : Reference × Key). p e.1.roles) es) (filter (λ (e : Reference × Key). p e.1.roles) es)) (h e.0 e.1 (first_found es e s))
    ∙ none_filtered p es (sorted_rest es e s) (λ q k f. h q k (later es e s q k f))

pub none_empty : (p : KeyType → Bool) (s : KeySetState) → T (is_sorted reference_cmp s.keys) → ((q : Reference) (k : Key) → key_of s q ≡ Some k → p k.roles ≡ false) → is_empty (references_where p s) ≡ true
none_empty p s sorted h = ap (λ es. is_empty (map (λ (e : Reference × Key). e.0) es)) (none_filtered p s.keys sorted h)
