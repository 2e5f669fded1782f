-- Signatures that are asked for, one after another.
use Rattle.std.proofs.Common.{◌≡◌, Bool, true, false, List, [], ◌∷◌, ◌++◌, Option, Some, None, refl, sym, ap, subst, ◌∙◌}
use Rattle.std.specs.Prelude.{◌&&◌, ◌||◌, Result, is_none, if◌then◌else◌}
use Rattle.std.specs.List.{AllByRecursion, find, list_any}
use Rattle.std.specs.Option.{option_map}
use Rattle.std.proofs.lemmas.Bool.{and_parts, false≢true}
use Rattle.std.proofs.lemmas.Slice.Eq.{bytes_eq-Decides}
use Rattle.std.specs.Str.{bytes_eq}
use Rattle.definitions.specs.Dnskey.{same_key}
use Rattle.answer_scheme.specs.Answers.{SignatureTest}
use Rattle.answer_judge_keys.proofs.GivenKeys.{same_key-is}
use Rattle.answer_judge_table.specs.Asking.{AgreesAsking, KeepsNew, PassesEach, are_new, unchecked}
use Rattle.answer_judge_table.specs.Table.{Checked, Tried, is_entry_of, is_same_try, passes_by, told}

either_false : (a b : Bool) → (a || b) ≡ false → (a ≡ false) × (b ≡ false)
either_false false b h = (refl, h)
either_false true b h = cc

both_true : (a b : Bool) → a ≡ true → b ≡ true → (a && b) ≡ true
both_true true b h k = k
both_true false b h k = cc

none_is : (o : Option Bool) → is_none o ≡ true → o ≡ None
none_is None h = refl
none_is (Some b) h = cc

is_none_of : (o : Option Bool) → o ≡ None → is_none o ≡ true
is_none_of o h = ap is_none h

-- what a first entry leaves to those behind it
behind_one : (t : Tried) (c : Checked) (a : Tried) (table : List Checked) (b : Bool) → option_map (λ (e : Checked). e.passes) (if b then Some c else find (is_entry_of t) table) ≡ None
    → (told table t ≡ None → told (table ++ unchecked a ∷ []) t ≡ None) → option_map (λ (e : Checked). e.passes) (if b then Some c else find (is_entry_of t) (table ++ unchecked a ∷ [])) ≡ None
behind_one t c a table true e rest = cc
behind_one t c a table false e rest = rest e

-- one more entry, which is of another signature
told_behind : (table : List Checked) (a t : Tried) → told table t ≡ None → is_same_try t a ≡ false → told (table ++ unchecked a ∷ []) t ≡ None
told_behind [] a t h other = ap (λ (b : Bool). option_map (λ (c : Checked). c.passes) (if b then Some (unchecked a) else None)) other
told_behind (c ∷ table) a t h other = behind_one t c a table (is_entry_of t c) h (λ k. told_behind table a t k other)

-- one more that neither the table has nor was asked for
pub one_more : (table : List Checked) (asks : List Tried) (t : Tried) → are_new table asks ≡ true → told table t ≡ None → list_any (is_same_try t) asks ≡ false → are_new table (asks ++ t ∷ []) ≡ true
one_more table [] t h none other = both_true (is_none (told table t)) true (is_none_of (told table t) none) refl
one_more table (a ∷ asks) t h none other =
    let parts = and_parts (is_none (told table a)) (are_new (table ++ unchecked a ∷ []) asks) h in
    let others = either_false (is_same_try t a) (list_any (is_same_try t) asks) other in
    both_true (is_none (told table a)) (are_new (table ++ unchecked a ∷ []) (asks ++ t ∷ [])) parts.0
    (one_more (table ++ unchecked a ∷ []) asks t parts.1 (told_behind table a t none others.0) others.1)

-- a list that grows by one, all of one kind
pub all_more : {X : Type 0} (P : X → Type 0) (xs : List X) (x : X) → AllByRecursion P xs → P x → AllByRecursion P (xs ++ x ∷ [])
all_more P [] x h k = (k, tt)
all_more P (y ∷ xs) x h k = (h.0, all_more P xs x h.1 k)

-- ---- signatures that are noted

pub keeps_more : (t : Tried) (old new : List Tried) → list_any (is_same_try t) old ≡ false → new ≡ old ++ t ∷ [] → KeepsNew t old new
keeps_more t old new other is table none h = ap (are_new table) is ∙ one_more table old t h none other

-- one signature
same_try_is : (t u : Tried) → is_same_try t u ≡ true → u ≡ t
same_try_is t u e =
    let k = and_parts (bytes_eq u.signature t.signature && bytes_eq u.octets t.octets) (same_key u.key t.key) e in
    let p = and_parts (bytes_eq u.signature t.signature) (bytes_eq u.octets t.octets) k.0 in
    let signature = (bytes_eq-Decides u.signature t.signature).0 p.0 in
    let octets = (bytes_eq-Decides u.octets t.octets).0 p.1 in
    let key = same_key-is u.key t.key k.1 in
    λ i. record { key = key i; octets = octets i; signature = signature i }

-- one that is among those that pass passes
pub among_passes : (test : SignatureTest) (t : Tried) (asks : List Tried) → list_any (is_same_try t) asks ≡ true → PassesEach asks test → passes_by test t ≡ true
among_passes test t [] any each = absurd (false≢true any)
among_passes test t (a ∷ asks) any each = go (is_same_try t a) refl any (λ h. among_passes test t asks h each.1)
  where
    go : (b : Bool) → is_same_try t a ≡ b → (b || list_any (is_same_try t) asks) ≡ true → (list_any (is_same_try t) asks ≡ true → passes_by test t ≡ true) → passes_by test t ≡ true
    go true same h rest = subst (λ u. passes_by test u ≡ true) (same_try_is t a same) each.0
    go false other h rest = rest h

-- a list that grew by one, all of one kind
pub all_less : {X : Type 0} (P : X → Type 0) (xs : List X) (x : X) → AllByRecursion P (xs ++ x ∷ []) → AllByRecursion P xs × P x
all_less P [] x h = (tt, h.0)
all_less P (y ∷ xs) x h = let rest = all_less P xs x h.1 in ((h.0, rest.0), rest.1)

-- what agrees behind one more agreed before, and passes it
pub agrees_kept : {E : Type 0} (table : List Checked) (old new : List Tried) (kept : Result (Unit {0}) E) (t : Tried) → ((test : SignatureTest) → PassesEach new test → PassesEach old test × (passes_by test t ≡ true))
    → (test : SignatureTest) → AgreesAsking table new kept test → AgreesAsking table old kept test × (true ≡ passes_by test t)
agrees_kept table old new kept t passes test agrees = let more = passes test agrees.2 in ((agrees.0, agrees.1, more.0), sym more.1)
