-- A row of labels cut where one begins.
use Rattle.std.specs.Prelude.{◌↔◌, IsTrue}
use Rattle.std.proofs.Common.{◌≡◌, ℕ, zero, suc, ◌+◌, ◌-◌, ◌<◌, ◌≤◌, Bool, true, false, List, [], ◌∷◌, ◌++◌, length, take, drop, refl, sym, ap, ◌∙◌, length-append, arith, eqb, leb, eq-eqb, ◌⊎◌, inl, inr}
use Rattle.std.specs.List.{AllByRecursion}
use Rattle.std.proofs.lemmas.List.{take_at, drop_at, take-append-drop}
use Rattle.std.proofs.lemmas.Bool.{eqb-true, leb-true, leb-false}
use Rattle.names_wire.specs.Name.{Name, Label}
use Rattle.names_labels.specs.Flat.{spelled, labels_in, IsRun, SplitsLabel, SplitsLast, SplitsRun, StartsLabel}
use Rattle.names_labels.proofs.Runs.{spelled-append, labels_in-spelled, drop-one}

short_take : (k : ℕ) (ls : Name) → AllByRecursion (λ l. length l ≤ 63) ls → AllByRecursion (λ l. length l ≤ 63) (take k ls)
short_take zero ls a = tt
short_take (suc k) [] a = tt
short_take (suc k) (l ∷ ls) a = (a.0, short_take k ls a.1)

short_drop : (k : ℕ) (ls : Name) → AllByRecursion (λ l. length l ≤ 63) ls → AllByRecursion (λ l. length l ≤ 63) (drop k ls)
short_drop zero ls a = a
short_drop (suc k) [] a = tt
short_drop (suc k) (l ∷ ls) a = short_drop k ls a.1

-- labels in front and behind
pub record CutsRun (run : List ℕ) (place k : ℕ) : Type 0 where
  pub within : place ≤ length run
  pub front : labels_in (take place run) ≡ take k (labels_in run)
  pub front_octets : take place run ≡ spelled (take k (labels_in run))
  pub front_run : IsRun (take place run)
  pub back : labels_in (drop place run) ≡ drop k (labels_in run)
  pub back_octets : drop place run ≡ spelled (drop k (labels_in run))
  pub back_run : IsRun (drop place run)

pub parts : (run : List ℕ) (k : ℕ) → IsRun run → run ≡ spelled (take k (labels_in run)) ++ spelled (drop k (labels_in run))
parts run k r = r.whole ∙ ap spelled (sym (take-append-drop k (labels_in run))) ∙ spelled-append (take k (labels_in run)) (drop k (labels_in run))

of_spelled : (bs : List ℕ) (ls : Name) → bs ≡ spelled ls → AllByRecursion (λ l. length l ≤ 63) ls → IsRun bs
of_spelled bs ls e a =
    let n : labels_in bs ≡ ls = ap labels_in e ∙ labels_in-spelled ls in
    record { whole = e ∙ ap spelled (sym n); short = rw n a }

pub cuts : (run : List ℕ) (place k : ℕ) → IsRun run → place ≡ length (spelled (take k (labels_in run))) → CutsRun run place k
cuts run place k r e =
    let ls = labels_in run in
    let p = parts run k r in
    let f : take place run ≡ spelled (take k ls) = ap (take place) p ∙ take_at (spelled (take k ls)) (spelled (drop k ls)) place (sym e) in
    let b : drop place run ≡ spelled (drop k ls) = ap (drop place) p ∙ drop_at (spelled (take k ls)) (spelled (drop k ls)) place (sym e) in
    record {
      within = omega (arith, e, ap length p, length-append (spelled (take k ls)) (spelled (drop k ls)));
      front = ap labels_in f ∙ labels_in-spelled (take k ls);
      front_octets = f;
      front_run = of_spelled (take place run) (take k ls) f (short_take k ls r.short);
      back = ap labels_in b ∙ labels_in-spelled (drop k ls);
      back_octets = b;
      back_run = of_spelled (drop place run) (drop k ls) b (short_drop k ls r.short);
    }

-- what is left of a row behind so many labels
pub record Behind (run rest : List ℕ) (k : ℕ) : Type 0 where
  pub left : IsRun rest
  pub labels : labels_in rest ≡ drop k (labels_in run)
  pub octets : length run ≡ length (spelled (take k (labels_in run))) + length rest

pub begun : (run : List ℕ) → IsRun run → Behind run run 0
begun run r = record { left = r; labels = refl; octets = omega arith }

pub octets_left : (run rest : List ℕ) (k : ℕ) → IsRun run → IsRun rest → labels_in rest ≡ drop k (labels_in run) → length run ≡ length (spelled (take k (labels_in run))) + length rest
octets_left run rest k r l e =
    omega (arith, ap length (parts run k r), length-append (spelled (take k (labels_in run))) (spelled (drop k (labels_in run))), ap length (l.whole ∙ ap spelled e))

pub one_behind : (run rest behind : List ℕ) (k : ℕ) (l : Label) → IsRun run → Behind run rest k → SplitsLabel rest l behind → Behind run behind (k + 1)
one_behind run rest behind k l r b s =
    let e : labels_in behind ≡ drop (k + 1) (labels_in run) = sym (drop-one (labels_in run) k l (labels_in behind) (sym b.labels ∙ s.first)) in
    record { left = s.behind; labels = e; octets = octets_left run behind (k + 1) r s.behind e }

-- the octets in front of what is left
pub parts_behind : (run rest : List ℕ) (k : ℕ) → IsRun run → Behind run rest k → SplitsRun run (take (length run - length rest) run) rest
parts_behind run rest k r b =
    let c = cuts run (length run - length rest) k r (omega (arith, b.octets)) in
    record { labels = sym (take-append-drop k (labels_in run)) ∙ (λ i. sym c.front i ++ sym b.labels i); in_front = c.front_run; behind = b.left }

-- ---- where labels begin

-- a later label begins at a later place
pub starts_rise : (ls : Name) (j k : ℕ) → j < k → j < length ls → length (spelled (take j ls)) < length (spelled (take k ls))
starts_rise [] j k h a = absurd (omega arith)
starts_rise (l ∷ ls) j zero h a = absurd (omega arith)
starts_rise (l ∷ ls) zero (suc k) h a = omega arith
starts_rise (l ∷ ls) (suc j) (suc k) h a =
    omega (arith, length-append l (spelled (take j ls)), length-append l (spelled (take k ls)), starts_rise ls j k (omega arith) (omega arith))

pub starts_grow : (ls : Name) (j k : ℕ) → j ≤ k → length (spelled (take j ls)) ≤ length (spelled (take k ls))
starts_grow [] zero k h = omega arith
starts_grow [] (suc j) k h = omega arith
starts_grow (l ∷ ls) zero k h = omega arith
starts_grow (l ∷ ls) (suc j) zero h = absurd (omega arith)
starts_grow (l ∷ ls) (suc j) (suc k) h = omega (arith, length-append l (spelled (take j ls)), length-append l (spelled (take k ls)), starts_grow ls j k (omega arith))

-- Behind k labels, each of which begins before the place.
pub record Seeks (run rest : List ℕ) (place k : ℕ) : Type 0 where
  pub behind : Behind run rest k
  pub within : k ≤ length (labels_in run)
  pub before : (j : ℕ) → j < k → length (spelled (take j (labels_in run))) < place

pub seeks_more : (run rest behind : List ℕ) (place k : ℕ) (l : Label) → IsRun run → Seeks run rest place k → SplitsLabel rest l behind → length run - length rest < place → Seeks run behind place (k + 1)
seeks_more run rest behind place k l r s p h = record {
  behind = one_behind run rest behind k l r s.behind p;
  within = more (labels_in run) k (sym s.behind.labels ∙ p.first);
  before = λ j a. cases j a;
}
  where
    more : (ls : Name) (k : ℕ) → drop k ls ≡ l ∷ labels_in behind → k + 1 ≤ length ls
    more [] zero e = cc
    more [] (suc k) e = cc
    more (x ∷ ls) zero e = omega arith
    more (x ∷ ls) (suc k) e = omega (arith, more ls k e)

    cases : (j : ℕ) → j < k + 1 → length (spelled (take j (labels_in run))) < place
    cases j a = omega (arith, starts_grow (labels_in run) j k (omega arith), s.behind.octets, h)

pub not_reached : (run rest : List ℕ) (place k : ℕ) → Seeks run rest place k → labels_in rest ≡ [] → length run - length rest < place → StartsLabel (labels_in run) place → ⊥
not_reached run rest place k s e h w =
    omega (arith, w.2, starts_grow (labels_in run) w.0 k (past (labels_in run) k w.0 (sym s.behind.labels ∙ e) w.1), s.behind.octets, h)
  where
    past : (ls : Name) (k j : ℕ) → drop k ls ≡ [] → j ≤ length ls → j ≤ k
    past [] k j d a = omega arith
    past (x ∷ ls) zero j d a = cc
    past (x ∷ ls) (suc k) zero d a = omega arith
    past (x ∷ ls) (suc k) (suc j) d a = omega (arith, past ls k j d (omega arith))

pub reached : (run rest : List ℕ) (place k : ℕ) (t : Bool) → Seeks run rest place k → (length run - length rest < place → ⊥) → t ≡ eqb (length run - length rest) place → IsTrue t ↔ StartsLabel (labels_in run) place
reached run rest place k t s h e = (
  λ a. (k, s.within, omega (arith, eqb-true (length run - length rest) place (sym e ∙ a), s.behind.octets)),
  λ w. e ∙ ap (λ n. eqb n place) (same w) ∙ eqb-refl place,
)
  where
    eqb-refl : (n : ℕ) → eqb n n ≡ true
    eqb-refl n = eq-eqb n n refl

    same : StartsLabel (labels_in run) place → length run - length rest ≡ place
    same w = go (leb k w.0) refl
      where
        go : (b : Bool) → leb k w.0 ≡ b → length run - length rest ≡ place
        go true a = omega (arith, w.2, h, s.behind.octets, starts_grow (labels_in run) k w.0 (leb-true k w.0 a))
        go false a = let x = s.before w.0 (leb-false k w.0 a) in absurd (omega (arith, w.2, x))

drop_past : {X : Type 0} (xs : List X) (j k : ℕ) → drop j xs ≡ [] → j ≤ k → drop k xs ≡ []
drop_past [] j zero e h = refl
drop_past [] j (suc k) e h = refl
drop_past (x ∷ xs) zero k e h = cc
drop_past (x ∷ xs) (suc j) zero e h = absurd (omega arith)
drop_past (x ∷ xs) (suc j) (suc k) e h = drop_past xs j k e (omega arith)

pub labels_behind : (run rest : List ℕ) (k count : ℕ) → Behind run rest k → (k ≡ count) ⊎ ((labels_in rest ≡ []) × (k ≤ count)) → labels_in rest ≡ drop count (labels_in run)
labels_behind run rest k count b (inl e) = b.labels ∙ ap (λ n. drop n (labels_in run)) e
labels_behind run rest k count b (inr p) = p.0 ∙ sym (drop_past (labels_in run) k count (sym b.labels ∙ p.0) p.1)

-- behind k labels, and the one behind these, which begins at a place
pub record ReachesLast (run rest : List ℕ) (start k : ℕ) (last : Label) : Type 0 where
  pub behind : Behind run rest (k + 1)
  pub labels : drop k (labels_in run) ≡ last ∷ labels_in rest
  pub place : start ≡ length (spelled (take k (labels_in run)))

pub reaches_first : (run rest : List ℕ) (l : Label) → IsRun run → SplitsLabel run l rest → ReachesLast run rest 0 0 l
reaches_first run rest l r s = record { behind = one_behind run run rest 0 l r (begun run r) s; labels = s.first; place = refl }

pub reaches_next : (run rest behind : List ℕ) (start k : ℕ) (last l : Label) → IsRun run → ReachesLast run rest start k last → SplitsLabel rest l behind → ReachesLast run behind (length run - length rest) (k + 1) l
reaches_next run rest behind start k last l r w s = record {
  behind = one_behind run rest behind (k + 1) l r w.behind s;
  labels = sym w.behind.labels ∙ s.first;
  place = omega (arith, w.behind.octets);
}

-- where nothing stands behind it, it is the last one
pub splits_last : (run rest : List ℕ) (start k : ℕ) (last : Label) → IsRun run → ReachesLast run rest start k last → labels_in rest ≡ [] → (start ≤ length run) × SplitsLast run (take start run) last
splits_last run rest start k last r w e =
    let c = cuts run start k r w.place in (
      c.within,
      record {
        last = sym (take-append-drop k (labels_in run)) ∙ (λ i. sym c.front i ++ (w.labels ∙ ap (λ x. last ∷ x) e) i);
        in_front = c.front_run;
      },
    )
