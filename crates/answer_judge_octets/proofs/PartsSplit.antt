-- Octets that are put together of parts.
use Rattle.std.proofs.Common.{◌≡◌, ℕ, ◌+◌, ◌<◌, ◌≤◌, List, ◌++◌, length, take, drop, get_or, sym, ap, subst, ◌∙◌, append_assoc, length-append, arith, inl, inr, Bor}
use Rattle.std.specs.Prelude.{◌⊎◌, Option, Some, None, MatchOption}
use Rattle.std.specs.Option.{option_map}
use Rattle.std.specs.Int.{w16, w32, to_be_bytes, from_be_bytes}
use Rattle.std.specs.List.{IsSplitAt}
use Rattle.std.proofs.lemmas.List.{take-append-drop, get_or-take, get_or_past, length-take-le}
use Rattle.std.proofs.lemmas.Bool.{cases_lt}
use Rattle.std.proofs.lemmas.Nat.{be_bytes_2, be_bytes_4}
use Rattle.names_rdata.specs.Composing.{with_length}
use Rattle.definitions.proofs.SignedLaws.{pieces}
use Rattle.answer_judge_octets.specs.EntryLaws.{Writes, four, two}
use Rattle.answer_judge_octets.specs.Written.{IsShort, IsLong, Splits, with_long_length}

module _ (to : ℕ → List ℕ) (bound : ℕ) (writes : Writes to bound) where
  abbrev led : List ℕ → List ℕ
  led a = to (length a) ++ a

  abbrev Few : List ℕ → Type 0
  Few a = length a < bound

  -- a head that says n, and what stands behind it
  too_few : (rest : List ℕ) (n : ℕ) → n < bound → length rest < n → (a behind : List ℕ) → Few a → to n ++ rest ≡ led a ++ behind → ⊥
  too_few rest n fits short a behind few e =
      let whole : to n ++ rest ≡ to (length a) ++ (a ++ behind) = e ∙ append_assoc (to (length a)) a behind in
      let p = pieces (to n) (to (length a)) rest (a ++ behind) (writes.width n (length a)) whole in
      let says : n ≡ length a = writes.once n (length a) fits few p.0 in
      let long : length rest ≡ length a + length behind = ap length p.1 ∙ length-append a behind in
      omega arith

  found : (rest front back : List ℕ) (n : ℕ) → n < bound → IsSplitAt rest n front back → Few front × (to n ++ rest ≡ led front ++ back)
  found rest front back n fits is = (
    subst (λ (k : ℕ). k < bound) (sym is.3) fits,
    ap (λ (r : List ℕ). to n ++ r) (sym (take-append-drop n rest) ∙ ap (λ (r : List ℕ). r ++ drop n rest) (sym is.1) ∙ ap (λ (r : List ℕ). front ++ r) (sym is.2))
        ∙ sym (append_assoc (to n) front back) ∙ ap (λ (k : ℕ). to k ++ front ++ back) (sym is.3),
  )

  pub split : (rest : List ℕ) (n : ℕ) → n < bound → (o : Option (Bor (List ℕ) × Bor (List ℕ)))
      → MatchOption o (length rest < n) (λ p. IsSplitAt rest n p.0.now p.1.now)
      → Splits Few led (to n ++ rest) (option_map (λ p. (p.0.now, p.1.now)) o)
  split rest n fits None h = too_few rest n fits h
  split rest n fits (Some p) h = found rest p.0.now p.1.now n fits h

-- ---- octets that begin with a number

abbrev pub AreOctets : List ℕ → Type 0
AreOctets octets = (i : ℕ) → get_or octets i 0 < 256

-- what stands in the first octets, and what stands behind them
abbrev pub IsFirst : ℕ → List ℕ → List ℕ → List ℕ → Type 0
IsFirst n octets front rest = (front ≡ take n octets) × (rest ≡ drop n octets) × (length rest + n ≡ length octets)

pub front_length : (n : ℕ) (octets front rest : List ℕ) → IsFirst n octets front rest → length front ≡ n
front_length n octets front rest is = ap length is.0 ∙ length-take-le n octets (omega (arith, is.2))

pub whole : (n : ℕ) (octets front rest : List ℕ) → IsFirst n octets front rest → octets ≡ front ++ rest
whole n octets front rest is = sym (take-append-drop n octets) ∙ ap (λ (r : List ℕ). r ++ drop n octets) (sym is.0) ∙ ap (λ (r : List ℕ). front ++ r) (sym is.1)

small_at : (n : ℕ) (octets front rest : List ℕ) → AreOctets octets → IsFirst n octets front rest → (i : ℕ) → (i < n) ⊎ (n ≤ i) → get_or front i 0 < 256
small_at n octets front rest small is i (inl low) = subst (λ (k : ℕ). k < 256) (sym (ap (λ (l : List ℕ). get_or l i 0) is.0 ∙ get_or-take n octets i 0 low)) (small i)
small_at n octets front rest small is i (inr high) =
    let short : length front ≤ i = omega (arith, front_length n octets front rest is) in
    subst (λ (k : ℕ). k < 256) (sym (get_or_past front i 0 short)) (omega arith)

pub small_front : (n : ℕ) (octets front rest : List ℕ) → AreOctets octets → IsFirst n octets front rest → AreOctets front
small_front n octets front rest small is i = small_at n octets front rest small is i (cases_lt i n)

module _ (octets front rest : List ℕ) (n : ℕ) (small : AreOctets octets) (o : Option (Bor (List ℕ) × Bor (List ℕ))) (h : MatchOption o (length rest < n) (λ p. IsSplitAt rest n p.0.now p.1.now)) where
  -- a part behind its length in two octets
  pub short_parts : IsFirst 2 octets front rest → n ≡ from_be_bytes w16 front → n < 65536 → Splits IsShort with_length octets (option_map (λ p. (p.0.now, p.1.now)) o)
  short_parts is says fits =
      let spelled : to_be_bytes w16 n ≡ front = be_bytes_2 front n (front_length 2 octets front rest is) (small_front 2 octets front rest small is) says in
      let is_whole : to_be_bytes w16 n ++ rest ≡ octets = ap (λ (f : List ℕ). f ++ rest) spelled ∙ sym (whole 2 octets front rest is) in
      subst (λ (w : List ℕ). Splits IsShort with_length w (option_map (λ p. (p.0.now, p.1.now)) o)) is_whole (split (to_be_bytes w16) 65536 two rest n fits o h)

  -- a part behind its length in four octets
  pub long_parts : IsFirst 4 octets front rest → n ≡ from_be_bytes w32 front → n < 4294967296 → Splits IsLong with_long_length octets (option_map (λ p. (p.0.now, p.1.now)) o)
  long_parts is says fits =
      let spelled : to_be_bytes w32 n ≡ front = be_bytes_4 front n (front_length 4 octets front rest is) (small_front 4 octets front rest small is) says in
      let is_whole : to_be_bytes w32 n ++ rest ≡ octets = ap (λ (f : List ℕ). f ++ rest) spelled ∙ sym (whole 4 octets front rest is) in
      subst (λ (w : List ℕ). Splits IsLong with_long_length w (option_map (λ p. (p.0.now, p.1.now)) o)) is_whole (split (to_be_bytes w32) 4294967296 four rest n fits o h)
