-- A response suggests the alias that its message does, where none of its other records is a DNAME.
use Rattle.std.proofs.Common.{◌≡◌, ℕ, Bool, true, false, not, ◌&&◌, ◌||◌, List, [], ◌∷◌, ◌++◌, Option, Some, None, Result, Ok, Err, cond, eqb, refl, sym, ap, ◌∙◌}
use Rattle.std.specs.Prelude.{◌==◌, if◌then◌else◌}
use Rattle.std.specs.List.{AllByRecursion, AllZip, find, list_any}
use Rattle.std.specs.Option.{option_map}
use Rattle.std.proofs.lemmas.Bool.{or_parts}
use Rattle.definitions.specs.Name.{Name, at_or_above, same, strictly_above}
use Rattle.messages.specs.Message.{Asked, Message, Spelled, message}
use Rattle.messages.specs.declared.error.MessageError.{MessageError}
use Rattle.messages.specs.Written.{Written}
use Rattle.messages.specs.WrittenLaws.{spelled_from}
use Rattle.messages.proofs.MessageWritten.{end_of}
use Rattle.answer_judge.specs.Judging.{JudgeInput}
use Rattle.answer_findings.specs.Hints.{answer_records}
use Rattle.answer_findings.specs.Judgements.{alias_hint, asking}
use Rattle.server_laws.proofs.Alone.{SameButTtl}
use Rattle.server_laws.proofs.Replied.{IsUnused}

-- records whose owner, type and class are the same
pub record IsNamedLike (r s : Spelled) : Type 0 where
  owner_is : r.owner ≡ s.owner
  type_is : r.rtype ≡ s.rtype
  class_is : r.class ≡ s.class

pub named_like : (p q : ℕ) (vs ws : List Written) → AllZip SameButTtl vs ws → AllZip IsNamedLike (spelled_from p vs) (spelled_from q ws)
named_like p q [] [] h = tt
named_like p q [] (w ∷ ws) h = absurd h
named_like p q (v ∷ vs) [] h = absurd h
named_like p q (v ∷ vs) (w ∷ ws) h = (record { owner_is = h.0.owner_is; type_is = h.0.type_is; class_is = h.0.class_is }, named_like (end_of p v) (end_of q w) vs ws h.1)

-- records that suggest a DNAME above the name, and a CNAME at it
abbrev dname_at : JudgeInput → ℕ → ℕ → Name → Bool
dname_at h class rtype owner = (class == 1) && ((rtype == 39) && at_or_above h.apex owner && strictly_above owner h.asked.name)

abbrev cname_at : JudgeInput → ℕ → ℕ → Name → Bool
cname_at h class rtype owner = (class == 1) && ((rtype == 5) && same owner h.asked.name)

abbrev hints_dname : JudgeInput → Spelled → Bool
hints_dname h r = dname_at h r.class r.rtype r.owner

abbrev hints_cname : JudgeInput → Spelled → Bool
hints_cname h r = cname_at h r.class r.rtype r.owner

abbrev owner_in : JudgeInput → List Spelled → Option Name
owner_in h rs = option_map (λ (r : Spelled). r.owner) (find (hints_dname h) rs)

abbrev IsNoDname : Spelled → Type 0
IsNoDname r = eqb r.rtype 39 ≡ false

no_and : (b : Bool) → (b && false) ≡ false
no_and true = refl
no_and false = refl

no_owner : (h : JudgeInput) (rs : List Spelled) → AllByRecursion IsNoDname rs → owner_in h rs ≡ None
no_owner h [] none = refl
no_owner h (r ∷ rs) none =
    ap (λ b. option_map (λ (x : Spelled). x.owner) (cond b (Some r) (find (hints_dname h) rs)))
    (ap (λ b. (r.class == 1) && (b && at_or_above h.apex r.owner && strictly_above r.owner h.asked.name)) none.0 ∙ no_and (r.class == 1))
    ∙ no_owner h rs none.1

-- the first DNAME above the name is the same
owners_alike : (h : JudgeInput) (rs ss more : List Spelled) → AllZip IsNamedLike rs ss → AllByRecursion IsNoDname more → owner_in h (ss ++ more) ≡ owner_in h rs
owners_alike h [] [] more z none = no_owner h more none
owners_alike h [] (s ∷ ss) more z none = absurd z
owners_alike h (r ∷ rs) [] more z none = absurd z
owners_alike h (r ∷ rs) (s ∷ ss) more z none = go (hints_dname h r) (hints_dname h s) (λ i. dname_at h (z.0.class_is i) (z.0.type_is i) (z.0.owner_is i)) (owners_alike h rs ss more z.1 none)
  where
    go : (b c : Bool) → b ≡ c → owner_in h (ss ++ more) ≡ owner_in h rs
        → option_map (λ (x : Spelled). x.owner) (cond c (Some s) (find (hints_dname h) (ss ++ more))) ≡ option_map (λ (x : Spelled). x.owner) (cond b (Some r) (find (hints_dname h) rs))
    go true true e later = ap (λ (o : Name). Some o) (sym z.0.owner_is)
    go false false e later = later
    go true false e later = absurd cc
    go false true e later = absurd cc

-- a CNAME at the name stays
cname_stays : (h : JudgeInput) (rs ss more : List Spelled) → AllZip IsNamedLike rs ss → list_any (hints_cname h) rs ≡ true → list_any (hints_cname h) (ss ++ more) ≡ true
cname_stays h [] ss more z e = absurd cc
cname_stays h (r ∷ rs) [] more z e = absurd z
cname_stays h (r ∷ rs) (s ∷ ss) more z e = go (hints_cname h r) (hints_cname h s) (λ i. cname_at h (z.0.class_is i) (z.0.type_is i) (z.0.owner_is i)) e (cname_stays h rs ss more z.1)
  where
    go : (b c : Bool) → b ≡ c → (b || list_any (hints_cname h) rs) ≡ true → (list_any (hints_cname h) rs ≡ true → list_any (hints_cname h) (ss ++ more) ≡ true) → (c || list_any (hints_cname h) (ss ++ more)) ≡ true
    go true true e f later = refl
    go false false e f later = later f
    go true false e f later = absurd cc
    go false true e f later = absurd cc

-- records that are not used for DNAME are none
pub no_dnames : (p : ℕ) (ws : List Written) → AllByRecursion (IsUnused 39) ws → AllByRecursion IsNoDname (spelled_from p ws)
no_dnames p [] h = tt
no_dnames p (w ∷ ws) h =
    let p46 = or_parts (eqb w.rtype 46 || eqb w.rtype 47 || eqb w.rtype 50) (eqb w.rtype 39) h.0 in
    (p46.1, no_dnames (end_of p w) ws h.1)

abbrev by_owner : JudgeInput → Option Name → Bool → Option Asked
by_owner h o cname = elim o [ Some owner ↦ Some (asking h owner 39) | None ↦ if at_or_above h.apex h.asked.name && not (h.asked.rtype == 5) && cname then Some (asking h h.asked.name 5) else None ]

-- where one reads as these records and more, and another as those
pub suggested : (k : ℕ) (h : JudgeInput) (m n : List ℕ) (asked other : Asked) (rs ss more : List Spelled) → message k n ≡ Ok (record { asked = other; records = rs }) → message k m ≡ Ok (record { asked = asked; records = ss ++ more })
    → AllZip IsNamedLike rs ss → AllByRecursion IsNoDname more
    → (q : Asked) → alias_hint k (record h { answer_bytes = n }) ≡ Some q → alias_hint k (record h { answer_bytes = m }) ≡ Some q
suggested k h m n asked other rs ss more reads_n reads_m z none q e =
    ap (λ xs. by_owner h (owner_in h xs) (list_any (hints_cname h) xs)) here
    ∙ go (owner_in h rs) (list_any (hints_cname h) rs) (owners_alike h rs ss more z none) refl (ap (λ xs. by_owner h (owner_in h xs) (list_any (hints_cname h) xs)) (sym there) ∙ e)
  where
    here : answer_records k (record h { answer_bytes = m }) ≡ ss ++ more
    here = ap (λ (o : Result Message MessageError). elim o as (λ _. List Spelled) [ Err x ↦ [] | Ok y ↦ y.records ]) reads_m

    there : answer_records k (record h { answer_bytes = n }) ≡ rs
    there = ap (λ (o : Result Message MessageError). elim o as (λ _. List Spelled) [ Err x ↦ [] | Ok y ↦ y.records ]) reads_n

    go : (o : Option Name) (b : Bool) → owner_in h (ss ++ more) ≡ o → list_any (hints_cname h) rs ≡ b → by_owner h o b ≡ Some q → by_owner h (owner_in h (ss ++ more)) (list_any (hints_cname h) (ss ++ more)) ≡ Some q
    go (Some owner) b owned is told = ap (λ o. by_owner h o (list_any (hints_cname h) (ss ++ more))) owned ∙ told
    go None true owned is told = (λ i. by_owner h (owned i) (cname_stays h rs ss more z is i)) ∙ told
    go None false owned is told =
        absurd (let none : None ≡ Some q = sym (ap (λ b. if b then Some (asking h h.asked.name 5) else None) (no_and (at_or_above h.apex h.asked.name && not (h.asked.rtype == 5)))) ∙ told in cc)
