-- Lines that end in a line feed, of texts that are joined and cut.
use Rattle.std.proofs.Common.{◌≡◌, ℕ, zero, suc, ◌+◌, ◌-◌, ◌<◌, ◌≤◌, ◌==◌, ◌||◌, Bool, true, false, not, cond, List, [], ◌∷◌, ◌++◌, length, take, drop, take_all, length-drop, Some, None, refl, sym, ap, subst, ◌∙◌, append_assoc, arith, nat_lt}
use Rattle.std.specs.List.{flat_map, position, prefix_len}
use Rattle.std.proofs.lemmas.Bool.Decides.{nat_tests}
use Rattle.std.proofs.lemmas.Bool.{eqb-true}
use Rattle.server_zone.specs.Lines.{has_feed, led, whole_lines, unfinished}

neither : (a b : Bool) → (a || b) ≡ false → (a ≡ false) × (b ≡ false)
neither true b h = cc
neither false b h = (refl, h)

-- where a line feed stands there is a line
some_line : (cs : List ℕ) → has_feed cs ≡ true → (l : List ℕ) × (ls : List (List ℕ)) × (whole_lines cs ≡ l ∷ ls)
some_line [] h = absurd (cc)
some_line (c ∷ cs) h =
    elim (c == 10) as (λ b. (b || has_feed cs) ≡ true → (l : List ℕ) × (ls : List (List ℕ)) × (cond b ([] ∷ whole_lines cs) (led c (whole_lines cs)) ≡ l ∷ ls)) [
      | true ↦ λ _. ([], whole_lines cs, refl)
      | false ↦ λ k. let w = some_line cs k in (c ∷ w.0, w.1, ap (led c) w.2)
    ] h

led_append : (c : ℕ) (cs : List ℕ) (more : List (List ℕ)) → has_feed cs ≡ true → led c (whole_lines cs ++ more) ≡ led c (whole_lines cs) ++ more
led_append c cs more h =
    let w = some_line cs h in
    ap (λ ls. led c (ls ++ more)) w.2 ∙ sym (ap (λ ls. led c ls ++ more) w.2)

feeds_append : (xs ys : List ℕ) → has_feed xs ≡ true → has_feed (xs ++ ys) ≡ true
feeds_append [] ys h = absurd (cc)
feeds_append (c ∷ cs) ys h =
    elim (c == 10) as (λ b. (b || has_feed cs) ≡ true → (b || has_feed (cs ++ ys)) ≡ true) [ true ↦ λ _. refl | false ↦ λ k. feeds_append cs ys k ] h

feed_behind : (xs ys : List ℕ) → has_feed ys ≡ true → has_feed (xs ++ ys) ≡ true
feed_behind [] ys h = h
feed_behind (c ∷ cs) ys h = elim (c == 10) as (λ b. (b || has_feed (cs ++ ys)) ≡ true) [ true ↦ refl | false ↦ feed_behind cs ys h ]

-- a text that ends in a line feed does so behind its first octet
ends_cond : (b : Bool) (c : ℕ) (cs : List ℕ) → cond b (unfinished cs) (c ∷ cs) ≡ [] → (b ≡ true) × (unfinished cs ≡ [])
ends_cond true c cs k = (refl, k)
ends_cond false c cs k = absurd (cc)

ends : (c : ℕ) (cs : List ℕ) → unfinished (c ∷ cs) ≡ [] → (has_feed (c ∷ cs) ≡ true) × (unfinished cs ≡ [])
ends c cs h = ends_cond (has_feed (c ∷ cs)) c cs h

append_step : (c : ℕ) (cs ys : List ℕ) → has_feed (c ∷ cs) ≡ true → whole_lines (cs ++ ys) ≡ whole_lines cs ++ whole_lines ys → whole_lines (c ∷ (cs ++ ys)) ≡ whole_lines (c ∷ cs) ++ whole_lines ys
append_step c cs ys f e =
    elim (c == 10) as (λ b. (b || has_feed cs) ≡ true → cond b ([] ∷ whole_lines (cs ++ ys)) (led c (whole_lines (cs ++ ys))) ≡ cond b ([] ∷ whole_lines cs) (led c (whole_lines cs)) ++ whole_lines ys) [
      | true ↦ λ _. ap (λ ls. [] ∷ ls) e
      | false ↦ λ k. ap (led c) e ∙ led_append c cs (whole_lines ys) k
    ] f

-- the lines of a text whose lines are whole, and those of what stands behind it
pub whole_append : (xs ys : List ℕ) → unfinished xs ≡ [] → whole_lines (xs ++ ys) ≡ whole_lines xs ++ whole_lines ys
whole_append [] ys h = refl
whole_append (c ∷ cs) ys h = let e = ends c cs h in append_step c cs ys e.0 (whole_append cs ys e.1)

pub unfinished_append : (xs ys : List ℕ) → unfinished xs ≡ [] → unfinished (xs ++ ys) ≡ unfinished ys
unfinished_append [] ys h = refl
unfinished_append (c ∷ cs) ys h =
    let e = ends c cs h in
    ap (λ b. cond b (unfinished (cs ++ ys)) (c ∷ (cs ++ ys))) (feeds_append (c ∷ cs) ys e.0) ∙ unfinished_append cs ys e.1

-- octets without a line feed
pub no_lines : (xs : List ℕ) → has_feed xs ≡ false → whole_lines xs ≡ []
no_lines [] h = refl
no_lines (c ∷ cs) h =
    elim (c == 10) as (λ b. (b || has_feed cs) ≡ false → cond b ([] ∷ whole_lines cs) (led c (whole_lines cs)) ≡ []) [
      | true ↦ λ k. absurd (cc)
      | false ↦ λ k. ap (led c) (no_lines cs k)
    ] h

pub all_unfinished : (xs : List ℕ) → has_feed xs ≡ false → unfinished xs ≡ xs
all_unfinished [] h = refl
all_unfinished (c ∷ cs) h = ap (λ b. cond b (unfinished cs) (c ∷ cs)) h

-- a line and its line feed, in front of octets
pub line_in_front : (line more : List ℕ) → has_feed line ≡ false → whole_lines (line ++ 10 ∷ more) ≡ line ∷ whole_lines more
line_in_front [] more h = refl
line_in_front (c ∷ cs) more h =
    elim (c == 10) as (λ b. (b || has_feed cs) ≡ false → cond b ([] ∷ whole_lines (cs ++ 10 ∷ more)) (led c (whole_lines (cs ++ 10 ∷ more))) ≡ (c ∷ cs) ∷ whole_lines more) [
      | true ↦ λ k. absurd (cc)
      | false ↦ λ k. ap (led c) (line_in_front cs more k)
    ] h

pub unfinished_behind : (line more : List ℕ) → unfinished (line ++ 10 ∷ more) ≡ unfinished more
unfinished_behind [] more = refl
unfinished_behind (c ∷ cs) more =
    ap (λ b. cond b (unfinished (cs ++ 10 ∷ more)) (c ∷ (cs ++ 10 ∷ more))) (feed_behind (c ∷ cs) (10 ∷ more) refl) ∙ unfinished_behind cs more

-- one line more
pub line_behind : (xs line : List ℕ) → unfinished xs ≡ [] → has_feed line ≡ false → whole_lines (xs ++ line ++ 10 ∷ []) ≡ whole_lines xs ++ line ∷ []
line_behind xs line h n = ap whole_lines (append_assoc xs line (10 ∷ [])) ∙ whole_append xs (line ++ 10 ∷ []) h ∙ ap (λ ls. whole_lines xs ++ ls) (line_in_front line [] n)

pub ends_behind : (xs line : List ℕ) → unfinished xs ≡ [] → unfinished (xs ++ line ++ 10 ∷ []) ≡ []
ends_behind xs line h = ap unfinished (append_assoc xs line (10 ∷ [])) ∙ unfinished_append xs (line ++ 10 ∷ []) h ∙ unfinished_behind line []

-- ---- what a text is

abbrev spelled_by : List (List ℕ) → List ℕ
spelled_by ls = flat_map (λ l. l ++ 10 ∷ []) ls

spell_led : (c : ℕ) (cs : List ℕ) → has_feed cs ≡ true → spelled_by (led c (whole_lines cs)) ≡ c ∷ spelled_by (whole_lines cs)
spell_led c cs h =
    let w = some_line cs h in
    ap (λ ls. spelled_by (led c ls)) w.2 ∙ sym (ap (λ ls. c ∷ spelled_by ls) w.2)

spell_feedless : (b : Bool) (c : ℕ) (cs : List ℕ) → has_feed cs ≡ b → cs ≡ spelled_by (whole_lines cs) ++ unfinished cs → c ∷ cs ≡ spelled_by (led c (whole_lines cs)) ++ cond b (unfinished cs) (c ∷ cs)
spell_feedless true c cs f e = ap (λ xs. c ∷ xs) e ∙ sym (ap (λ xs. xs ++ unfinished cs) (spell_led c cs f))
spell_feedless false c cs f e = sym (ap (λ ls. spelled_by (led c ls) ++ c ∷ cs) (no_lines cs f))

spell_step : (c : ℕ) (cs : List ℕ) (b : Bool) → (c == 10) ≡ b → cs ≡ spelled_by (whole_lines cs) ++ unfinished cs
    → c ∷ cs ≡ spelled_by (cond b ([] ∷ whole_lines cs) (led c (whole_lines cs))) ++ cond (b || has_feed cs) (unfinished cs) (c ∷ cs)
spell_step c cs true is e = let ten : c ≡ 10 = eqb-true c 10 is in (λ i. ten i ∷ e i)
spell_step c cs false is e = spell_feedless (has_feed cs) c cs refl e

pub text_is : (text : List ℕ) → text ≡ flat_map (λ l. l ++ 10 ∷ []) (whole_lines text) ++ unfinished text
text_is [] = refl
text_is (c ∷ cs) = spell_step c cs (c == 10) refl (text_is cs)

feedless_cond : (b : Bool) (c : ℕ) (cs : List ℕ) → has_feed (c ∷ cs) ≡ b → has_feed (unfinished cs) ≡ false → has_feed (cond b (unfinished cs) (c ∷ cs)) ≡ false
feedless_cond true c cs is h = h
feedless_cond false c cs is h = is

pub unfinished_feedless : (text : List ℕ) → has_feed (unfinished text) ≡ false
unfinished_feedless [] = refl
unfinished_feedless (c ∷ cs) = feedless_cond (has_feed (c ∷ cs)) c cs refl (unfinished_feedless cs)

-- ---- cuts

led_take : (c k : ℕ) (ls : List (List ℕ)) → led c (take k ls) ≡ take k (led c ls)
led_take c zero ls = refl
led_take c (suc k) [] = refl
led_take c (suc k) (l ∷ ls) = refl

-- a text that is cut has the first of its lines
pub cut_lines : (text : List ℕ) (at : ℕ) → (k : ℕ) × (whole_lines (take at text) ≡ take k (whole_lines text))
cut_lines text zero = (0, refl)
cut_lines [] (suc at) = (0, refl)
cut_lines (c ∷ cs) (suc at) =
    let cut = cut_lines cs at in
    elim (c == 10) as (λ b. (k : ℕ) × (cond b ([] ∷ whole_lines (take at cs)) (led c (whole_lines (take at cs))) ≡ take k (cond b ([] ∷ whole_lines cs) (led c (whole_lines cs))))) [
      | true ↦ (suc cut.0, ap (λ ls. [] ∷ ls) cut.1)
      | false ↦ (cut.0, ap (led c) cut.1 ∙ led_take c cut.0 (whole_lines cs))
    ]

-- ---- the first line feed

-- how many octets stand in front of it
abbrev ahead : List ℕ → ℕ
ahead xs = prefix_len (λ c. not (c == 10)) xs

longer : (c : ℕ) (cs : List ℕ) (k : ℕ) → cs ≡ take k cs ++ 10 ∷ drop (k + 1) cs → c ∷ cs ≡ take (1 + k) (c ∷ cs) ++ 10 ∷ drop (1 + k + 1) (c ∷ cs)
longer c cs k e =
    let p : 1 + k ≡ suc k = omega arith in
    let q : 1 + k + 1 ≡ suc (k + 1) = omega arith in
    rw (q, p) (ap (λ xs. c ∷ xs) e)

unfed : (c : ℕ) (cs : List ℕ) (k : ℕ) → (c == 10) ≡ false → has_feed (take k cs) ≡ false → has_feed (take (1 + k) (c ∷ cs)) ≡ false
unfed c cs k n h =
    let p : 1 + k ≡ suc k = omega arith in
    rw p (ap (λ b. b || has_feed (take k cs)) n ∙ h)

cut_cond : (c : ℕ) (cs : List ℕ) (b : Bool) → (c == 10) ≡ b → cond (not b) (1 + ahead cs) 0 < length (c ∷ cs)
    → (ahead cs < length cs → (cs ≡ take (ahead cs) cs ++ 10 ∷ drop (ahead cs + 1) cs) × (has_feed (take (ahead cs) cs) ≡ false))
    → (c ∷ cs ≡ take (cond (not b) (1 + ahead cs) 0) (c ∷ cs) ++ 10 ∷ drop (cond (not b) (1 + ahead cs) 0 + 1) (c ∷ cs)) × (has_feed (take (cond (not b) (1 + ahead cs) 0) (c ∷ cs)) ≡ false)
cut_cond c cs true is h f = (ap (λ d. d ∷ cs) (eqb-true c 10 is), refl)
cut_cond c cs false is h f =
    let k = f (omega arith) in
    (longer c cs (ahead cs) k.0, unfed c cs (ahead cs) is k.1)

cut_at : (xs : List ℕ) → ahead xs < length xs → (xs ≡ take (ahead xs) xs ++ 10 ∷ drop (ahead xs + 1) xs) × (has_feed (take (ahead xs) xs) ≡ false)
cut_at [] h = absurd (omega arith)
cut_at (c ∷ cs) h = cut_cond c cs (c == 10) refl h (λ l. cut_at cs l)

none_cond : (c : ℕ) (cs : List ℕ) (b : Bool) → length (c ∷ cs) ≤ cond (not b) (1 + ahead cs) 0 → (length cs ≤ ahead cs → has_feed cs ≡ false) → (b || has_feed cs) ≡ false
none_cond c cs true h f = absurd (omega arith)
none_cond c cs false h f = f (omega arith)

none_at : (xs : List ℕ) → length xs ≤ ahead xs → has_feed xs ≡ false
none_at [] h = refl
none_at (c ∷ cs) h = none_cond c cs (c == 10) h (λ l. none_at cs l)

is_none : (n m : ℕ) → cond (nat_lt n m) (Some n) None ≡ None → m ≤ n
is_none n m e = grind (arith, nat_tests)

is_some : (n m k : ℕ) → cond (nat_lt n m) (Some n) None ≡ Some k → (n < m) × (n ≡ k)
is_some n m k e = grind (arith, nat_tests)

pub no_feed_at : (xs : List ℕ) → position (λ c. c == 10) xs ≡ None → has_feed xs ≡ false
no_feed_at xs e = none_at xs (is_none (ahead xs) (length xs) e)

whole_rest : (xs : List ℕ) (n : ℕ) → take (length xs - n) (drop n xs) ≡ drop n xs
whole_rest xs n = take_all (length xs - n) (drop n xs) (omega (arith, length-drop {A = ℕ}))

pub feed_at : (xs : List ℕ) (k : ℕ) → position (λ c. c == 10) xs ≡ Some k → (xs ≡ take k xs ++ 10 ∷ take (length xs - (k + 1)) (drop (k + 1) xs)) × (has_feed (take k xs) ≡ false)
feed_at xs k e =
    let f : (ahead xs < length xs) × (ahead xs ≡ k) = is_some (ahead xs) (length xs) k e in
    let cut = subst (λ n. (xs ≡ take n xs ++ 10 ∷ drop (n + 1) xs) × (has_feed (take n xs) ≡ false)) f.1 (cut_at xs f.0) in
    (cut.0 ∙ sym (ap (λ ys. take k xs ++ 10 ∷ ys) (whole_rest xs (k + 1))), cut.1)
