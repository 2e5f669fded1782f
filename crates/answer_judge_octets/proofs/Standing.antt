-- Octets that stand in others, and how many entries of a table have such.
use Rattle.std.proofs.Common.{◌≡◌, ℕ, ◌+◌, ◌≤◌, Bool, true, false, ◌||◌, List, [], ◌∷◌, ◌++◌, zero, suc, ◌-◌, take, drop, length, length-append, filter, Option, Some, None, refl, sym, subst, ◌∙◌, arith}
use Rattle.std.specs.Prelude.{is_some, nat_lt}
use Rattle.std.proofs.Math.Seq.{take-append_seam}
use Rattle.std.proofs.lemmas.Bool.{false≢true, le-ltb}
use Rattle.std.proofs.lemmas.List.{append-nil, take-append-drop}
use Rattle.std.proofs.lemmas.Slice.Eq.{starts_is}
use Rattle.std.proofs.lemmas.Bool.Decides.{Decides-eqb}
use Rattle.std.proofs.lemmas.List.Sums.{count_by-le-length, length-filter}
use Rattle.std.specs.List.{slice_range}
use Rattle.memchr.specs.Find.{FindsNeedle}
use Rattle.memchr.proofs.lemmas.MatchLemmas.{OccursAt-from_part, OccursAt-part}
use Rattle.answer_judge_octets.specs.Replying.{begins_with, stands_in}

first_stands : (b c : Bool) → b ≡ true → (b || c) ≡ true
first_stands true c h = refl
first_stands false c h = cc

-- what octets begin with stands in them
stands_at_front : (octets part : List ℕ) → begins_with part octets ≡ true → stands_in octets part ≡ true
stands_at_front [] part h = first_stands (begins_with part []) false h
stands_at_front (x ∷ octets) part h = first_stands (begins_with part (x ∷ octets)) (stands_in octets part) h

-- ---- how many there are

-- where all of a list have room, so have some of it
pub have_room : {A : Type 0} (p : A → Bool) (xs : List A) (room most more : ℕ) → length xs ≤ room → most ≡ room + more → nat_lt room (length xs) ≡ nat_lt most (length (filter p xs) + more)
have_room p xs room most more all is =
    let few : length (filter p xs) ≤ length xs = omega (arith, length-filter p xs, count_by-le-length p xs) in
    le-ltb room (length xs) all ∙ sym (le-ltb most (length (filter p xs) + more) (omega (arith, few, is)))

-- ---- what is cut out of octets stands there

abbrev none : List ℕ
none = []

starts : (part octets rest : List ℕ) → octets ≡ part ++ rest → begins_with part octets ≡ true
starts part octets rest e = (starts_is Decides-eqb octets part (begins_with part octets) refl).1 rest e

later_stands : (b c : Bool) → c ≡ true → (b || c) ≡ true
later_stands true c h = refl
later_stands false c h = h

none_taken : (n : ℕ) → take n none ≡ none
none_taken zero = refl
none_taken (suc n) = refl

stands_taken : (a n : ℕ) (octets : List ℕ) → stands_in octets (take n (drop a octets)) ≡ true
stands_taken zero n octets = stands_at_front octets (take n octets) (starts (take n octets) octets (drop n octets) (sym (take-append-drop n octets)))
stands_taken (suc a) n [] = stands_at_front [] (take n []) (starts (take n []) [] [] (sym (append-nil (take n none) ∙ none_taken n)))
stands_taken (suc a) n (x ∷ octets) = later_stands (begins_with (take n (drop a octets)) (x ∷ octets)) (stands_in octets (take n (drop a octets))) (stands_taken a n octets)

pub stands_cut : (octets : List ℕ) (a b : ℕ) → stands_in octets (slice_range octets a b) ≡ true
stands_cut octets a b = stands_taken a (b - a) octets

-- ---- what stands in octets is cut out of them, and a search finds it

-- octets that are cut out of others at a place
record IsCutAt (octets part : List ℕ) (at : ℕ) : Type 0 where
  pub fits : at + length part ≤ length octets
  pub is : take (length part) (drop at octets) ≡ part

cut_at_front : (octets part : List ℕ) → begins_with part octets ≡ true → IsCutAt octets part 0
cut_at_front octets part h =
    let rest = drop (length part) octets in
    let is : octets ≡ part ++ rest = (starts_is Decides-eqb octets part (begins_with part octets) refl).0 h in
    let fits = length-append part rest in
    let cut : IsCutAt (part ++ rest) part 0 = record { fits = omega (arith, fits); is = take-append_seam part rest } in
    subst (λ l. IsCutAt l part 0) (sym is) cut

cut_behind : (x : ℕ) (octets part : List ℕ) (at : ℕ) → IsCutAt octets part at → IsCutAt (x ∷ octets) part (suc at)
cut_behind x octets part at cut = let fits = cut.fits in record { fits = omega (arith, fits); is = cut.is }

stands_somewhere : (octets part : List ℕ) → stands_in octets part ≡ true → (at : ℕ) × IsCutAt octets part at
stands_somewhere [] part h = go (begins_with part []) refl h
  where
    go : (b : Bool) → begins_with part [] ≡ b → (b || false) ≡ true → (at : ℕ) × IsCutAt [] part at
    go true e both = (0, cut_at_front [] part e)
    go false e both = absurd (false≢true both)
stands_somewhere (x ∷ octets) part h = go (begins_with part (x ∷ octets)) refl h (λ rest. stands_somewhere octets part rest)
  where
    go : (b : Bool) → begins_with part (x ∷ octets) ≡ b → (b || stands_in octets part) ≡ true
        → (stands_in octets part ≡ true → (at : ℕ) × IsCutAt octets part at) → (at : ℕ) × IsCutAt (x ∷ octets) part at
    go true e both behind = (0, cut_at_front (x ∷ octets) part e)
    go false e both behind = let cut = behind both in (suc cut.0, cut_behind x octets part cut.0 cut.1)

-- what a search finds stands there, also where it is no octet, and what it doesn't find doesn't
pub found_stands : (octets part : List ℕ) (found : Option ℕ) → FindsNeedle octets part 0 found → is_some found ≡ stands_in octets part
found_stands octets part (Some at) h =
    sym (subst (λ (l : List ℕ). stands_in octets l ≡ true) (OccursAt-part octets part at h.1) (stands_taken at (length part) octets))
found_stands octets part None h = sym (go (stands_in octets part) refl)
  where
    go : (b : Bool) → stands_in octets part ≡ b → b ≡ false
    go false e = refl
    go true e =
        let cut = stands_somewhere octets part e in
        let fits = cut.1.fits in
        absurd (h cut.0 (omega arith) (omega (arith, fits)) (OccursAt-from_part octets part cut.0 fits cut.1.is))
