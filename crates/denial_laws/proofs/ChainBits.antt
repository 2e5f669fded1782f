-- What the bits of a record of a chain say of the types at its owner.
use Rattle.std.proofs.Common.{◌≡◌, ℕ, ◌<◌, Bool, true, false, ◌&&◌, ◌||◌, not, cond, List, [], ◌∷◌, ◌++◌, length, map, refl, sym, ap, ◌∙◌, ◌⊎◌, inl, inr, arith}
use Rattle.std.specs.Prelude.{filter, nat_eq, ◌==◌, if◌then◌else◌}
use Rattle.std.specs.List.{AllByRecursion, list_any}
use Rattle.std.proofs.lemmas.Bool.{and_parts, or_parts, or_from, false≢true, false_from_ne_true, eqb-true, eq-eqb, ne_eqb}
use Rattle.std.proofs.lemmas.List.Folds.{list_any-append}
use Rattle.definitions.specs.Name.{Name, low, same, labels_eq, at_or_above, strictly_above}
use Rattle.definitions.specs.Bitmap.{bitmap, bitmap_has}
use Rattle.definitions.specs.Zone.{Zone, Rr, owner_of, apex_of, is_of, has, is_delegation}
use Rattle.definitions.specs.ZoneChain.{types_among, types_at, at_apex, if_has, nsec_types, nsec3_types}
use Rattle.definitions.proofs.BitmapLaws.{spells_set}
use Rattle.definitions.proofs.Members.{In, any_of}
use Rattle.definitions.proofs.ZoneNames.{low-low}
use Rattle.denial_laws.specs.Aliases.{IsOrderly, is_alias_type}
use Rattle.denial_laws.specs.Truth.{IsServable, ShowsTypes, is_added_type, is_foreign_type, is_meta_type}
use Rattle.denial_laws.specs.NsecRules.{has_nxname, is_cut}
use Rattle.denial_laws.specs.Laws.{is_asked_type}
use Rattle.denial_laws.proofs.NameFacts.{same_names, names_same, strictly_from, strictly_unlike}

pub all_at : {X : Type 0} (P : X → Type 0) (xs : List X) (x : X) → AllByRecursion P xs → In x xs → P x
all_at P [] x h i = absurd i
all_at {X} P (y ∷ xs) x h i = elim i [
  | inl e ↦ rw e h.0
  | inr j ↦ all_at P xs x h.1 j
]

-- types that signing adds to the bits
abbrev is_added : ℕ → Bool
is_added t = list_any (nat_eq t) (46 ∷ 47 ∷ 48 ∷ 51 ∷ [])

not_added : (t : ℕ) → is_added_type t ≡ false → is_added t ≡ false
not_added t h =
    let a = or_parts (nat_eq t 46) _ h in
    let b = or_parts (nat_eq t 47) _ a.1 in
    let c = or_parts (nat_eq t 48) _ b.1 in
    let d = or_parts (nat_eq t 50) _ c.1 in
    let e = or_parts (nat_eq t 51) _ d.1 in
    λ i. a.0 i || (b.0 i || (c.0 i || (e.0 i || false)))

asked_not_foreign : (t : ℕ) → is_asked_type t ≡ true → is_foreign_type t ≡ false
asked_not_foreign t h = false_from_ne_true (is_foreign_type t) (λ e.
    false≢true (sym (ap (λ b. not (b || is_meta_type t)) e) ∙ h))

asked_ordinary : (t : ℕ) → is_asked_type t ≡ true → is_added_type t ≡ false
asked_ordinary t h = (or_parts (is_added_type t) (is_alias_type t) (asked_not_foreign t h)).0

-- no question asks for CNAME
pub asked_no_cname : (t : ℕ) → is_asked_type t ≡ true → (t == 5) ≡ false
asked_no_cname t h = (or_parts (t == 5) (t == 39) (or_parts (is_added_type t) (is_alias_type t) (asked_not_foreign t h)).1).0

-- ---- the types at an owner

eq_swap : (a b : ℕ) → nat_eq a b ≡ (b == a)
eq_swap a b = elim (nat_eq a b) as (λ r. nat_eq a b ≡ r → r ≡ (b == a)) [
  | true ↦ λ e. sym (eq-eqb b a (sym (eqb-true a b e)))
  | false ↦ λ e. sym (ne_eqb b a (λ s. false≢true (sym e ∙ eq-eqb a b (sym s))))
] refl

type_first : (b : Bool) (t : ℕ) (r : Rr) (rs : List Rr) → list_any (nat_eq t) (map (λ r. r.rtype) (cond b (r ∷ rs) rs)) ≡ ((b && (r.rtype == t)) || list_any (nat_eq t) (map (λ r. r.rtype) rs))
type_first true t r rs = ap (λ b. b || list_any (nat_eq t) (map (λ r. r.rtype) rs)) (eq_swap t r.rtype)
type_first false t r rs = refl

types_have : (rs : List Rr) (o : Name) (t : ℕ) → list_any (nat_eq t) (types_among rs o) ≡ list_any (is_of o t) rs
types_have [] o t = refl
types_have (r ∷ rs) o t = type_first (labels_eq (owner_of r) o) t r (filter (λ r. labels_eq (owner_of r) o) rs) ∙ ap (λ b. is_of o t r || b) (types_have rs o t)

-- no owner has a type that no record has
pub none_of_types : (p : ℕ → Bool) (z : Zone) → AllByRecursion (λ r. p r.rtype ≡ false) z.records → (o : Name) (t : ℕ) → p t ≡ true → has z o t ≡ false
none_of_types p z none o t h = false_from_ne_true (has z o t) (λ e.
    let r = any_of (is_of o t) z.records e in
    let same : r.0.rtype ≡ t = eqb-true r.0.rtype t (and_parts (labels_eq (owner_of r.0) o) _ r.1.1).1 in
    false≢true (sym (all_at (λ r. p r.rtype ≡ false) z.records r.0 none r.1.0) ∙ ap p same ∙ h))

-- none has a type that signing adds
none_added : (z : Zone) → IsServable z → (o : Name) (t : ℕ) → is_added_type t ≡ true → has z o t ≡ false
none_added z s o t h = none_of_types is_added_type z s.ordinary o t h

-- no delegation has CNAME or DNAME
pub cut_no_cname : (z : Zone) → IsOrderly z → (o : Name) → is_delegation z o ≡ true → has z o 5 ≡ false
cut_no_cname z s o d = false_from_ne_true (has z o 5) (λ h.
    let two : 2 ≡ 5 = s.alone o 2 h (and_parts (has z o 2) (strictly_above (apex_of z) o) d).0 in
    omega (arith, two))

pub cut_no_dname : (z : Zone) → IsOrderly z → (o : Name) → is_delegation z o ≡ true → has z o 39 ≡ false
cut_no_dname z s o d = false_from_ne_true (has z o 39) (λ h. false≢true (sym (s.uncut o h) ∙ d))

-- ---- lists of types that a record of a chain has

-- of ordinary types: those at the owner, of a delegation NS and DS alone
record HasTypes (z : Zone) (o : Name) (ts : List ℕ) : Type 0 where
  plain : is_delegation z o ≡ false → (t : ℕ) → is_added t ≡ false → list_any (nat_eq t) ts ≡ has z o t
  cut : is_delegation z o ≡ true → (t : ℕ) → is_added t ≡ false → list_any (nat_eq t) ts ≡ (nat_eq t 2 || (nat_eq t 43 && has z o 43))

or_false : (b : Bool) → (b || false) ≡ b
or_false true = refl
or_false false = refl

or_and : (b : Bool) → (b || false) ≡ (b && true)
or_and true = refl
or_and false = refl

and_false : (b : Bool) → false ≡ (b && false)
and_false true = refl
and_false false = refl

module _ (t : ℕ) (h : is_added t ≡ false) where
  no_46 : nat_eq t 46 ≡ false
  no_46 = (or_parts (nat_eq t 46) _ h).0

  no_47 : nat_eq t 47 ≡ false
  no_47 = (or_parts (nat_eq t 47) _ (or_parts (nat_eq t 46) _ h).1).0

  no_48 : nat_eq t 48 ≡ false
  no_48 = (or_parts (nat_eq t 48) _ (or_parts (nat_eq t 47) _ (or_parts (nat_eq t 46) _ h).1).1).0

  no_51 : nat_eq t 51 ≡ false
  no_51 = (or_parts (nat_eq t 51) _ (or_parts (nat_eq t 48) _ (or_parts (nat_eq t 47) _ (or_parts (nat_eq t 46) _ h).1).1).1).0

  nsec_cut : (ds : Bool) → list_any (nat_eq t) (2 ∷ (if ds then 43 ∷ [] else []) ++ 46 ∷ 47 ∷ []) ≡ (nat_eq t 2 || (nat_eq t 43 && ds))
  nsec_cut true = (λ i. nat_eq t 2 || (nat_eq t 43 || (no_46 i || (no_47 i || false)))) ∙ ap (λ b. nat_eq t 2 || b) (or_and (nat_eq t 43))
  nsec_cut false = (λ i. nat_eq t 2 || (no_46 i || (no_47 i || false))) ∙ ap (λ b. nat_eq t 2 || b) (and_false (nat_eq t 43))

  nsec3_cut : (ds : Bool) → list_any (nat_eq t) (2 ∷ (if ds then 43 ∷ 46 ∷ [] else [])) ≡ (nat_eq t 2 || (nat_eq t 43 && ds))
  nsec3_cut true = (λ i. nat_eq t 2 || (nat_eq t 43 || (no_46 i || false))) ∙ ap (λ b. nat_eq t 2 || b) (or_and (nat_eq t 43))
  nsec3_cut false = ap (λ b. nat_eq t 2 || b) (and_false (nat_eq t 43))

  nsec_added : (apex : Bool) → list_any (nat_eq t) (46 ∷ 47 ∷ (if apex then 48 ∷ [] else [])) ≡ false
  nsec_added true = λ i. no_46 i || (no_47 i || (no_48 i || false))
  nsec_added false = λ i. no_46 i || (no_47 i || false)

  nsec3_added : (apex : Bool) → list_any (nat_eq t) (46 ∷ (if apex then 48 ∷ 51 ∷ [] else [])) ≡ false
  nsec3_added true = λ i. no_46 i || (no_48 i || (no_51 i || false))
  nsec3_added false = λ i. no_46 i || false

  joined : (ts us : List ℕ) → list_any (nat_eq t) us ≡ false → list_any (nat_eq t) (ts ++ us) ≡ list_any (nat_eq t) ts
  joined ts us e = list_any-append (nat_eq t) ts us ∙ ap (λ b. list_any (nat_eq t) ts || b) e ∙ or_false (list_any (nat_eq t) ts)

  some_joined : (ts us : List ℕ) → list_any (nat_eq t) us ≡ false → list_any (nat_eq t) (if length ts == 0 then [] else ts ++ us) ≡ list_any (nat_eq t) ts
  some_joined [] us e = refl
  some_joined (u ∷ ts) us e = ap (λ b. list_any (nat_eq t) (if b then [] else (u ∷ ts) ++ us)) (ne_eqb (length (u ∷ ts)) 0 (λ n. omega arith)) ∙ joined (u ∷ ts) us e

nsec_has : (z : Zone) (o : Name) → HasTypes z o (nsec_types z true o)
nsec_has z o = record {
  plain = λ d t n. ap (λ b. list_any (nat_eq t) (if b then 2 ∷ if_has z o 43 ++ 46 ∷ 47 ∷ [] else types_at z o ++ 46 ∷ 47 ∷ at_apex z o (48 ∷ []))) d
      ∙ joined t n (types_at z o) (46 ∷ 47 ∷ at_apex z o (48 ∷ [])) (nsec_added t n (labels_eq o (apex_of z)))
      ∙ types_have z.records o t;
  cut = λ d t n. ap (λ b. list_any (nat_eq t) (if b then 2 ∷ if_has z o 43 ++ 46 ∷ 47 ∷ [] else types_at z o ++ 46 ∷ 47 ∷ at_apex z o (48 ∷ []))) d
      ∙ nsec_cut t n (has z o 43);
}

nsec3_has : (z : Zone) (o : Name) → HasTypes z o (nsec3_types z true o)
nsec3_has z o =
    let types : List ℕ = if length (types_at z o) == 0 then [] else types_at z o ++ 46 ∷ at_apex z o (48 ∷ 51 ∷ []) in
    record {
      plain = λ d t n. ap (λ b. list_any (nat_eq t) (if b then 2 ∷ (if has z o 43 then 43 ∷ 46 ∷ [] else []) else types)) d
          ∙ some_joined t n (types_at z o) (46 ∷ at_apex z o (48 ∷ 51 ∷ [])) (nsec3_added t n (labels_eq o (apex_of z)))
          ∙ types_have z.records o t;
      cut = λ d t n. ap (λ b. list_any (nat_eq t) (if b then 2 ∷ (if has z o 43 then 43 ∷ 46 ∷ [] else []) else types)) d
          ∙ nsec3_cut t n (has z o 43);
    }

-- ---- what bits say

-- bits of a chain's record have no type that is asked for and that the name lacks
abbrev pub LacksTypes : Zone → Name → List ℕ → Type 0
LacksTypes z o bits = (t : ℕ) → t < 65536 → is_asked_type t ≡ true → has z o t ≡ false → bitmap_has bits t ≡ false

module _ (z : Zone) (s : IsServable z) (o : Name) (ts : List ℕ) (k : HasTypes z o ts) where
  bit : (t : ℕ) → t < 65536 → bitmap_has (bitmap ts) t ≡ list_any (nat_eq t) ts
  bit t l = (spells_set ts).members t l

  two_shown : (d : Bool) → is_delegation z o ≡ d → list_any (nat_eq 2) ts ≡ has z o 2
  two_shown true d = k.cut d 2 refl ∙ sym (and_parts (has z o 2) (strictly_above (apex_of z) o) d).0
  two_shown false d = k.plain d 2 refl

  alias_shown : (d : Bool) → is_delegation z o ≡ d → list_any (nat_eq 5) ts ≡ has z o 5
  alias_shown true d = k.cut d 5 refl ∙ sym (cut_no_cname z s.aliases o d)
  alias_shown false d = k.plain d 5 refl

  redirect_shown : (d : Bool) → is_delegation z o ≡ d → list_any (nat_eq 39) ts ≡ has z o 39
  redirect_shown true d = k.cut d 39 refl ∙ sym (cut_no_dname z s.aliases o d)
  redirect_shown false d = k.plain d 39 refl

  type_shown : (t : ℕ) → (is_delegation z o ≡ false) ⊎ (t ≡ 43) → has z o t ≡ true → (d : Bool) → is_delegation z o ≡ d → list_any (nat_eq t) ts ≡ true
  type_shown t c h true d = elim c [
    | inl n ↦ absurd (false≢true (sym n ∙ d))
    | inr e ↦
        let there : has z o 43 ≡ true = ap (has z o) (sym e) ∙ h in
        k.cut d t (ap is_added e) ∙ (λ i. nat_eq (e i) 2 || (nat_eq (e i) 43 && there i))
  ]
  type_shown t c h false d =
      let ordinary : is_added_type t ≡ false = false_from_ne_true _ (λ f. false≢true (sym (none_added z s o t f) ∙ h)) in
      k.plain d t (not_added t ordinary) ∙ h

  type_lacks : (t : ℕ) → is_asked_type t ≡ true → has z o t ≡ false → (d : Bool) → is_delegation z o ≡ d → list_any (nat_eq t) ts ≡ false
  type_lacks t a n true d =
      k.cut d t (not_added t (asked_ordinary t a))
      ∙ or_from (nat_eq t 2) _
      (false_from_ne_true _ (λ e. false≢true (sym n ∙ ap (has z o) (eqb-true t 2 e) ∙ (and_parts (has z o 2) (strictly_above (apex_of z) o) d).0)))
      (false_from_ne_true _ (λ e.
      let both = and_parts (nat_eq t 43) (has z o 43) e in
      false≢true (sym n ∙ ap (has z o) (eqb-true t 43 both.0) ∙ both.1)))
  type_lacks t a n false d = k.plain d t (not_added t (asked_ordinary t a)) ∙ n

  shown : ShowsTypes z o (bitmap ts)
  shown = record {
    two = bit 2 (omega arith) ∙ two_shown (is_delegation z o) refl;
    alias = bit 5 (omega arith) ∙ alias_shown (is_delegation z o) refl;
    redirect = bit 39 (omega arith) ∙ redirect_shown (is_delegation z o) refl;
    shows = λ t l c h. bit t l ∙ type_shown t c h (is_delegation z o) refl;
  }

  lacking : LacksTypes z o (bitmap ts)
  lacking t l a n = bit t l ∙ type_lacks t a n (is_delegation z o) refl

pub nsec_shows : (z : Zone) → IsServable z → (o : Name) → ShowsTypes z o (bitmap (nsec_types z true o))
nsec_shows z s o = shown z s o (nsec_types z true o) (nsec_has z o)

-- nor NXNAME
pub nsec_named : (z : Zone) → IsServable z → (o : Name) → has_nxname (bitmap (nsec_types z true o)) ≡ false
nsec_named z s o =
    let none : has z o 128 ≡ false = none_of_types is_meta_type z s.real o 128 refl in
    (spells_set (nsec_types z true o)).members 128 (omega arith) ∙ go none (is_delegation z o) refl
  where
    go : has z o 128 ≡ false → (d : Bool) → is_delegation z o ≡ d → list_any (nat_eq 128) (nsec_types z true o) ≡ false
    go none true d = (nsec_has z o).cut d 128 refl
    go none false d = (nsec_has z o).plain d 128 refl ∙ none

pub nsec_lacks : (z : Zone) → IsServable z → (o : Name) → LacksTypes z o (bitmap (nsec_types z true o))
nsec_lacks z s o = lacking z s o (nsec_types z true o) (nsec_has z o)

pub nsec3_shows : (z : Zone) → IsServable z → (o : Name) → ShowsTypes z o (bitmap (nsec3_types z true o))
nsec3_shows z s o = shown z s o (nsec3_types z true o) (nsec3_has z o)

pub nsec3_lacks : (z : Zone) → IsServable z → (o : Name) → LacksTypes z o (bitmap (nsec3_types z true o))
nsec3_lacks z s o = lacking z s o (nsec3_types z true o) (nsec3_has z o)

-- ---- which owners are delegations

apart : (z : Zone) (n : Name) → at_or_above (apex_of z) (low n) ≡ true → (b : Bool) → same n z.name ≡ b → not b ≡ strictly_above (apex_of z) (low n)
apart z n a true e =
    let apex : same (apex_of z) (low n) ≡ true = names_same (apex_of z) (low n) (ap low (sym (same_names n z.name e))) in
    sym (false_from_ne_true (strictly_above (apex_of z) (low n)) (λ h. strictly_unlike (apex_of z) (low n) h apex))
apart z n a false e = sym (strictly_from (apex_of z) (low n) a (λ s. false≢true (sym e ∙ names_same n z.name (sym (low-low n) ∙ sym (same_names (apex_of z) (low n) s) ∙ low-low z.name))))

-- the bits of a name at or below the apex are those of a delegation exactly where it is one
pub cut_test : (z : Zone) (n : Name) (bits : List ℕ) → at_or_above (apex_of z) (low n) ≡ true → ShowsTypes z (low n) bits → is_cut z.name n bits ≡ is_delegation z (low n)
cut_test z n bits a k i = k.two i && apart z n a (same n z.name) refl i
