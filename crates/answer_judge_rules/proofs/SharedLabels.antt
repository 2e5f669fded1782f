-- Labels that two names have in common at their ends, counted in one walk over both.
use Rattle.std.proofs.Common.{◌≡◌, ℕ, zero, suc, ◌+◌, ◌-◌, ◌<◌, ◌≤◌, Bool, true, false, ◌&&◌, ◌||◌, [], ◌∷◌, ◌++◌, drop, length, length-append, refl, sym, ap, ◌∙◌, inl, inr, arith}
use Rattle.std.specs.Prelude.{◌⊎◌}
use Rattle.std.specs.Str.{bytes_eq, str_to_ascii_lowercase}
use Rattle.std.proofs.lemmas.Bool.{cases_lt}
use Rattle.definitions.specs.Name.{Name, Label, same, at_or_above}
use Rattle.names_labels.proofs.Compares.{other_length, ends_short}
use Rattle.names_labels.proofs.Rooted.{same-rooted}
use Rattle.answer_judge_rules.specs.Enclosers.{shared}

abbrev alike : Label → Label → Bool
alike a b = bytes_eq (str_to_ascii_lowercase a) (str_to_ascii_lowercase b)

-- labels of both names in turn: one more that is the same, or none so far
abbrev pub run : ℕ → Name → Name → ℕ
run s [] m = s
run s (a ∷ n) [] = s
run s (a ∷ n) (b ∷ m) = run (elim (alike a b) [ true ↦ s + 1 | false ↦ 0 ]) n m

pub shared-le : (n m : Name) → shared n m ≤ length n
shared-le [] m = omega arith
shared-le (l ∷ n) m = go (at_or_above (l ∷ n) m) (shared-le n m)
  where
    go : (b : Bool) → shared n m ≤ length n → (elim b as (λ _. ℕ) [ true ↦ length (l ∷ n) | false ↦ shared n m ]) ≤ length (l ∷ n)
    go true h = omega arith
    go false h = omega arith

chosen : (l : Label) (n m : Name) (b : Bool) → at_or_above (l ∷ n) m ≡ b → shared (l ∷ n) m ≡ (elim b as (λ _. ℕ) [ true ↦ length (l ∷ n) | false ↦ shared n m ])
chosen l n m b e = ap (λ (x : Bool). elim x as (λ _. ℕ) [ true ↦ length (l ∷ n) | false ↦ shared n m ]) e

-- ---- labels that one of the names has in front

-- one more in front of the other name, which is as long without it
longer : (n : Name) (b : Label) (m : Name) → length n ≤ length m → shared n (b ∷ m) ≡ shared n m
longer [] b m h = refl
longer (l ∷ n) b m h =
    let e : at_or_above (l ∷ n) (b ∷ m) ≡ at_or_above (l ∷ n) m = ap (λ t. t || at_or_above (l ∷ n) m) (other_length (l ∷ n) (b ∷ m) (λ k. omega (arith, k, h))) in
    λ i. elim (e i) as (λ _. ℕ) [ true ↦ length (l ∷ n) | false ↦ longer n b m (omega arith) i ]

pub others_cut : (n m : Name) (k : ℕ) → k + length n ≡ length m → shared n (drop k m) ≡ shared n m
others_cut n m zero h = refl
others_cut n [] (suc k) h = absurd (omega arith)
others_cut n (b ∷ m) (suc k) h = others_cut n m k (omega arith) ∙ sym (longer n b m (omega arith))

pub labels_cut : (n m : Name) (k : ℕ) → k + length m ≡ length n → shared (drop k n) m ≡ shared n m
labels_cut n m zero h = refl
labels_cut [] m (suc k) h = absurd (omega arith)
labels_cut (l ∷ n) m (suc k) h = labels_cut n m k (omega arith) ∙ sym (chosen l n m false (sym (ends_short (l ∷ n) m (omega arith))))

-- ---- the walk

-- names that are the same have all labels in common
all_shared : (n m : Name) → same n m ≡ true → shared n m ≡ length n
all_shared [] m e = refl
all_shared (l ∷ n) [] e = cc
all_shared (l ∷ n) (b ∷ m) e = chosen l n (b ∷ m) true (ap (λ t. t || at_or_above (l ∷ n) m) e)

-- those that are as long and not the same have in common what they have without their first labels
apart : (a b : Label) (n m : Name) → length n ≡ length m → same (a ∷ n) (b ∷ m) ≡ false → shared (a ∷ n) (b ∷ m) ≡ shared n m
apart a b n m h e =
    chosen a n (b ∷ m) false ((λ i. e i || sym (ends_short (a ∷ n) m (omega arith)) i))
    ∙ longer n b m (omega arith)

abbrev ended : ℕ → Name → Name → Bool → ℕ
ended s n m b = elim b [ true ↦ s + length n | false ↦ shared n m ]

step : (s : ℕ) (a b : Label) (n m : Name) → length n ≡ length m → (x y : Bool) → alike a b ≡ x → same n m ≡ y → ended (elim x as (λ _. ℕ) [ true ↦ s + 1 | false ↦ 0 ]) n m y ≡ ended s (a ∷ n) (b ∷ m) (x && y)
step s a b n m h true true e k = omega arith
step s a b n m h true false e k = sym (apart a b n m h (λ i. e i && k i))
step s a b n m h false true e k = omega (arith, all_shared n m k, apart a b n m h (λ i. e i && k i))
step s a b n m h false false e k = sym (apart a b n m h (λ i. e i && k i))

run_ends : (s : ℕ) (n m : Name) → length n ≡ length m → run s n m ≡ ended s n m (same n m)
run_ends s [] [] h = omega arith
run_ends s [] (b ∷ m) h = absurd (omega arith)
run_ends s (a ∷ n) [] h = absurd (omega arith)
run_ends s (a ∷ n) (b ∷ m) h =
    run_ends (elim (alike a b) [ true ↦ s + 1 | false ↦ 0 ]) n m (omega arith)
    ∙ step s a b n m (omega arith) (alike a b) (same n m) refl refl

pub run_shared : (n m : Name) → length n ≡ length m → run 0 n m ≡ shared n m
run_shared n m h = run_ends 0 n m h ∙ go (same n m) refl
  where
    go : (b : Bool) → same n m ≡ b → ended 0 n m b ≡ shared n m
    go true e = omega (arith, all_shared n m e)
    go false e = refl

-- ---- the root's labels behind them

above_rooted : (n m : Name) → at_or_above (n ++ [] ∷ []) (m ++ [] ∷ []) ≡ at_or_above n m
above_rooted n [] = (λ i. same-rooted n [] i || at_or_above (n ++ [] ∷ []) []) ∙ gone n
  where
    no_name : (l : Label) (k : Name) → same (k ++ l ∷ []) [] ≡ false
    no_name l [] = refl
    no_name l (x ∷ k) = refl

    or_false : (t : Bool) → (t || false) ≡ t
    or_false true = refl
    or_false false = refl

    gone : (k : Name) → (same k [] || at_or_above (k ++ [] ∷ []) []) ≡ same k []
    gone k = ap (λ t. same k [] || t) (no_name [] k) ∙ or_false (same k [])
above_rooted n (b ∷ m) = λ i. same-rooted n (b ∷ m) i || above_rooted n m i

pub root_above : (m : Name) → at_or_above [] m ≡ true
root_above [] = refl
root_above (b ∷ m) = root_above m

pub shared-rooted : (n m : Name) → shared (n ++ [] ∷ []) (m ++ [] ∷ []) ≡ suc (shared n m)
shared-rooted [] m = chosen [] [] (m ++ [] ∷ []) true (above_rooted [] m ∙ root_above m)
shared-rooted (l ∷ n) m =
    (λ i. elim (above_rooted (l ∷ n) m i) as (λ _. ℕ) [ true ↦ length (l ∷ (n ++ [] ∷ [])) | false ↦ shared-rooted n m i ])
    ∙ go (at_or_above (l ∷ n) m)
  where
    go : (b : Bool) → (elim b as (λ _. ℕ) [ true ↦ length (l ∷ (n ++ [] ∷ [])) | false ↦ suc (shared n m) ]) ≡ suc (elim b as (λ _. ℕ) [ true ↦ length (l ∷ n) | false ↦ shared n m ])
    go true = omega (arith, length-append n ([] ∷ []))
    go false = refl

cut : (ns ms : Name) (j k : ℕ) → j ≡ length ns - length ms → k ≡ length ms - length ns → shared (drop j ns) (drop k ms) ≡ shared ns ms
cut ns ms j k e f = go (cases_lt (length ns) (length ms))
  where
    go : (length ns < length ms) ⊎ (length ms ≤ length ns) → shared (drop j ns) (drop k ms) ≡ shared ns ms
    go (inl l) = let none : j ≡ 0 = omega arith in ap (λ x. shared (drop x ns) (drop k ms)) none ∙ others_cut ns ms k (omega arith)
    go (inr l) = let none : k ≡ 0 = omega arith in ap (λ x. shared (drop j ns) (drop x ms)) none ∙ labels_cut ns ms j (omega arith)

-- two names with the root's labels, of which the longer one's first labels are passed over
pub shared_so : (n m ns ms left right : Name) (count others j k r : ℕ) → ns ≡ n ++ [] ∷ [] → ms ≡ m ++ [] ∷ [] → count ≡ length ns → others ≡ length ms
    → j ≡ count - others → k ≡ others - count → left ≡ drop j ns → right ≡ drop k ms → r ≡ shared left right → r ≡ suc (shared n m)
shared_so n m ns ms left right count others j k r a b c d e f x y h =
    h ∙ (λ i. shared (x i) (y i)) ∙ cut ns ms j k (omega arith) (omega arith) ∙ (λ i. shared (a i) (b i)) ∙ shared-rooted n m
