use Rattle.std.proofs.Common.{◌≡◌, ℕ, zero, suc, ◌+◌, ◌-◌, ◌<◌, List, [], ◌∷◌, Some, None, length, refl, sym, ap, ◌∙◌, arith}
use Rattle.std.specs.List.{slice_get}
use Rattle.definitions.specs.Name.{Name}
use Rattle.plain.specs.declared.record.Record.{Record}
use Rattle.denial_nsec_data.specs.Hashed.{Nsec3Data}
use Rattle.messages.proofs.Lists.{some_is}
use Rattle.answer_zone_records.specs.MadeLinks.{last_next}
use Rattle.answer_zone_records.proofs.hash_chain.next_of_last.Goals as goal

last_at : (hash : List ℕ) (rs : List (Record Name Nsec3Data)) (k : ℕ) (r : Record Name Nsec3Data) → k + 1 ≡ length rs → Some r ≡ slice_get rs k → last_next hash rs ≡ r.content.next_owner
last_at hash [] k r h e = absurd (omega (arith, h))
last_at hash (x ∷ []) zero r h e = ap (λ (y : Record Name Nsec3Data). y.content.next_owner) (sym (some_is r x e))
last_at hash (x ∷ []) (suc k) r h e = absurd (omega (arith, h))
last_at hash (x ∷ y ∷ ys) zero r h e = absurd (omega (arith, h))
last_at hash (x ∷ y ∷ ys) (suc k) r h e = last_at x.content.next_owner (y ∷ ys) k r (omega (arith, h)) e

last_is : (rs : List (Record Name Nsec3Data)) (r : Record Name Nsec3Data) → Some r ≡ slice_get rs (length rs - 1) → last_next [] rs ≡ r.content.next_owner
last_is [] r e = absurd cc
last_is (x ∷ xs) r e = last_at [] (x ∷ xs) (length (x ∷ xs) - 1) r (omega arith) e

some_there : (rs : List (Record Name Nsec3Data)) (k : ℕ) → k < length rs → None ≡ slice_get rs k → ⊥
some_there [] k h e = omega (arith, h)
some_there (x ∷ xs) zero h e = cc
some_there (x ∷ xs) (suc k) h e = some_there xs k (omega (arith, h)) e

none_is : (rs : List (Record Name Nsec3Data)) → None ≡ slice_get rs (length rs - 1) → [] ≡ last_next [] rs
none_is [] e = refl
none_is (x ∷ xs) e = absurd (some_there (x ∷ xs) (length (x ∷ xs) - 1) (omega arith) e)

pub returns-in-Some : goal.returns-in-Some
returns-in-Some c =
    c.as_slice.ensures.value ∙ c.next_owner.ensures ∙ ap (λ d. d.next_owner) c.«data».ensures
    ∙ sym (last_is c.args.nsec3s.now c.in-Some.nsec3.now c.in-Some.ensures.value)

pub returns-in-None : goal.returns-in-None
returns-in-None c = none_is c.args.nsec3s.now c.in-None.ensures.value
