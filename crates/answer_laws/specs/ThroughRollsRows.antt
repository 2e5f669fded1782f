-- A roll of a zone signing key, worked through by computing: what is shown, behind which calls, and what of it is retired when.
use Rattle.std.specs.Prelude.{◌≡◌, ◌*◌, true, false, [], ◌∷◌, None, codes, length, map}
use Rattle.keyset_rolls.specs.declared.rolls.RollType.TheVariants.{AlgorithmRoll, ZskRoll}
use Rattle.answer_events.specs.declared.key_kind.KeyKind.TheVariants.{Ksk, Zsk}
use Rattle.keyset.specs.KeyState.{Reference}
use Rattle.keyset.specs.KeyRows.{second}
use Rattle.keyset_laws.specs.KeyLife.{DnskeyAnswer}
use Rattle.definitions.specs.Name.{Name}
use Rattle.answer_publisher_keys.specs.Bindings.{Add, Finish, Report1, Report2, Start, Wait1, Wait2}
use Rattle.answer_laws.specs.ThroughRolls.{History, Unretired, is_retired, no_history, steps, with_call, with_thing}

abbrev apex : Name
apex = codes "example" ∷ []

abbrev K : Reference
K = codes "K"

abbrev A : Reference
A = codes "A"

abbrev B : Reference
B = codes "B"

-- K and A come into use until 7200: nine accepted calls
abbrev first_roll : History
first_roll =
    let h = with_call no_history 0 (Add Ksk K None 13 (0 ∷ 16 ∷ []) true) in
    let h = with_call h 0 (Add Zsk A None 13 (0 ∷ 1 ∷ 0 ∷ 0 ∷ []) true) in
    let h = with_call h 0 (Add Zsk B None 13 (0 ∷ 5 ∷ 0 ∷ 0 ∷ []) true) in
    let h = with_call h 0 (Start AlgorithmRoll [] (K ∷ A ∷ [])) in
    let h = with_call h 0 (Report1 AlgorithmRoll 3600) in
    let h = with_call h (3600 * second) (Wait1 AlgorithmRoll) in
    let h = with_call h (3600 * second) (Report2 AlgorithmRoll 3600) in
    let h = with_call h (7200 * second) (Wait2 AlgorithmRoll) in
    with_call h (7200 * second) (Finish AlgorithmRoll)

-- a DS set and a DNSKEY answer are shown, A is rolled to B up to the first wait, with a DNSKEY answer behind the start and an
-- answer of the zone behind the wait
abbrev zsk_roll : History
zsk_roll =
    let h = with_thing (with_thing first_roll (7200 * second)) (7200 * second) in
    let h = with_thing (with_call h (7200 * second) (Start ZskRoll (A ∷ []) (B ∷ []))) (7200 * second) in
    let h = with_call h (7200 * second) (Report1 ZskRoll 3600) in
    with_thing (with_call h (10800 * second) (Wait1 ZskRoll)) (10800 * second)

pub record RollByHand : Type 0 where
  pub all_accepted : length (steps apex zsk_roll.calls) ≡ 12
  pub shown_behind : map (λ s. s.behind) zsk_roll.shown ≡ 9 ∷ 9 ∷ 10 ∷ 12 ∷ []
  -- the DS set, the DNSKEY answer of behind the start and the answer of behind the wait may be in use together
  pub unretired : Unretired apex zsk_roll.calls (10800 * second) 9 10 12
  -- the DNSKEY answer of before the start is retired with the report's TTL
  pub retired : map (λ at. is_retired DnskeyAnswer apex zsk_roll.calls 9 (at * second)) (10799 ∷ 10800 ∷ []) ≡ false ∷ true ∷ []
