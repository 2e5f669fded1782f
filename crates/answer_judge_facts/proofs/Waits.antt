-- For how long a record's signature does not hold, from what the code reads of it.
use Rattle.std.proofs.Common.{◌≡◌, ℕ, zero, suc, ◌+◌, ◌<◌, ◌≤◌, Bool, true, false, ◌&&◌, List, [], ◌∷◌, length, get_or, refl, sym, ap, ◌∙◌, arith}
use Rattle.std.specs.Prelude.{◌==◌, ◌%◌, ◌-◌, IfSome, MatchOption, Option, Some, None, if◌then◌else◌}
use Rattle.std.specs.List.{list_any}
use Rattle.std.proofs.lemmas.Bool.{or_left, or_right}
use Rattle.definitions.specs.Limits.{pointer_limit}
use Rattle.definitions.specs.Serial.{serial_le}
use Rattle.definitions.specs.Signing.{Fields}
use Rattle.messages.specs.Message.{Spelled, quad, rrsig_at}
use Rattle.answer_judge_keys.specs.Trusted.{is_signature}
use Rattle.answer_judge_facts.specs.Validity.{idle_at, idle_for, wait_in}
use Rattle.answer_judge_facts.specs.Marked.{is_of}
use Rattle.answer_judge_facts.specs.Times.{Times, times_of}
use Rattle.answer_judge_facts.specs.declared.groups.SignedRrset.{SignedRrset}
use Rattle.answer_judge_facts.proofs.Seconds.{holds, stand_there}

abbrev wait_from : ℕ → List SignedRrset → Spelled → Bool → Option (Fields × List ℕ) → Option ℕ
wait_from now gs r b x = elim b [
  | false ↦ None
  | true ↦ elim x [ None ↦ None | Some f ↦ if list_any (is_of r.owner f.0.covered) gs then idle_at now (times_of f.0) else None ]
]

gate_shut : (b : Bool) → elim b as (λ _. Option ℕ) [ false ↦ None | true ↦ None ] ≡ None
gate_shut true = refl
gate_shut false = refl

either_none : (b : Bool) → (if b then None else None) ≡ (let n : Option ℕ = None in n)
either_none true = refl
either_none false = refl

-- an item at a place that passes
pub passes_at : {X : Type 0} (p : X → Bool) (xs : List X) (i : ℕ) → i < length xs → ((x : X) → x ≡ get_or xs i x → p x ≡ true) → list_any p xs ≡ true
passes_at p [] i l h = absurd (omega (arith, l))
passes_at p (x ∷ xs) zero l h = or_left (p x) (list_any p xs) (h x refl)
passes_at p (x ∷ xs) (suc i) l h = or_right (p x) (list_any p xs) (passes_at p xs i (omega (arith, l)) (λ y e. h y e))

module _ (now : ℕ) (m : List ℕ) (gs : List SignedRrset) (r : Spelled) where
  abbrev gate : Bool
  gate = is_signature r && (r.class == 1)

  abbrev read : Option (Fields × List ℕ)
  read = rrsig_at pointer_limit m r

  pub no_signature : gate ≡ false → None ≡ wait_in now m gs r
  no_signature h = sym (ap (λ b. wait_from now gs r b read) h)

  pub unread : read ≡ None → None ≡ wait_in now m gs r
  unread h = sym (ap (wait_from now gs r gate) h ∙ gate_shut gate)

  pub too_short : length m < r.start + 16 → None ≡ wait_in now m gs r
  too_short short = go read refl
    where
      go : (x : Option (Fields × List ℕ)) → read ≡ x → None ≡ wait_in now m gs r
      go None e = unread e
      go (Some f) e = absurd (omega (arith, short, (stand_there pointer_limit m r f e).inside))

  -- times that stand there are those of the signature
  module _ (inception expiration : ℕ) (ends : expiration ≡ quad m (r.start + 8)) (begins : inception ≡ quad m (r.start + 12)) where
    abbrev times : Times
    times = record { inception = inception; expiration = expiration }

    times_are : (f : Fields × List ℕ) → read ≡ Some f → times_of f.0 ≡ times
    times_are f e =
        let at = stand_there pointer_limit m r f e in
        let i = at.inception ∙ sym begins in
        let x = at.expiration ∙ sym ends in
        λ j. record { inception = i j; expiration = x j }

    pub held : holds now times ≡ true → None ≡ wait_in now m gs r
    held h = go read refl
      where
        go : (x : Option (Fields × List ℕ)) → read ≡ x → None ≡ wait_in now m gs r
        go None e = unread e
        go (Some f) e =
            let nothing : idle_at now (times_of f.0) ≡ None = ap (idle_at now) (times_are f e) ∙ ap (λ b. if b then None else Some (idle_for now times)) h in
            sym (ap (wait_from now gs r gate) e ∙ (λ i. elim gate as (λ _. Option ℕ) [ false ↦ None | true ↦ if list_any (is_of r.owner f.0.covered) gs then nothing i else None ])
            ∙ (λ i. elim gate as (λ _. Option ℕ) [ false ↦ None | true ↦ either_none (list_any (is_of r.owner f.0.covered) gs) i ]) ∙ gate_shut gate)

    pub unsought : (f : Fields × List ℕ) → read ≡ Some f → list_any (is_of r.owner f.0.covered) gs ≡ false → None ≡ wait_in now m gs r
    unsought f e none =
        sym (ap (wait_from now gs r gate) e ∙ (λ i. elim gate as (λ _. Option ℕ) [ false ↦ None | true ↦ if none i then idle_at now (times_of f.0) else None ]) ∙ gate_shut gate)

    pub waits : (f : Fields × List ℕ) → gate ≡ true → read ≡ Some f → list_any (is_of r.owner f.0.covered) gs ≡ true → holds now times ≡ false → Some (idle_for now times) ≡ wait_in now m gs r
    waits f g e some h =
        sym ((λ i. wait_from now gs r (g i) (e i)) ∙ (λ i. if some i then idle_at now (times_of f.0) else None) ∙ ap (idle_at now) (times_are f e) ∙ ap (λ b. if b then None else Some (idle_for now times)) h)
