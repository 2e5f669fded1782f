-- What comes of a message, of signatures that are missing for it, or of a fault: one of these, unless the server fails.
use Rattle.std.proofs.Common.{◌≡◌, ◌∙◌, ℕ, ◌<◌, Bool, true, false, List, [], length, refl, sym, ap, subst, inl, inr, arith}
use Rattle.std.specs.Prelude.{◌⊎◌, ◌↔◌}
use Rattle.std.proofs.lemmas.Bool.{false≢true}
use Rattle.answer_publisher.specs.Inputs.{Input}
use Rattle.answer_publisher.specs.declared.fault.AnswerFault.{AnswerFault}
use Rattle.answer_publisher.specs.declared.fault.AnswerFault.TheVariants as fault
use Rattle.server_answers.specs.Responding.{rcode_of}

-- a message; signatures that are missing; that the question is not allowed; or that the server fails
pub data Kind : Type 0 where
  Whole : List ℕ → Kind
  Lacking : List Input → Kind
  Barred : Kind
  Failing : Kind

abbrev pub kind_of : AnswerFault → Kind
kind_of fault.QuestionNotAllowed = Barred
kind_of _ = Failing

-- which of them it is: of what is a message, what is wanted for one where signatures are, and whether the question is allowed
abbrev pub OfKind : (List ℕ → Type 0) → List Input → Bool → Bool → Kind → Type 0
OfKind Is wanted signed may (Whole m) = Is m × (may ≡ true)
OfKind Is wanted signed may (Lacking is) = (signed ≡ true) × (is ≡ wanted) × (0 < length is) × (may ≡ true)
OfKind Is wanted signed may Barred = may ≡ false
OfKind Is wanted signed may Failing = Unit {0}

-- the same, or one of both is a failure
abbrev pub Agree : {A : Type 0} → A → A → A → Type 0
Agree failed x y = (x ≡ y) ⊎ ((x ≡ failed) ⊎ (y ≡ failed))

module _ (Is : List ℕ → Type 0) (wanted : List Input) (signed may : Bool) (once : (m n : List ℕ) → Is m → Is n → m ≡ n) (none : (m : List ℕ) → signed ≡ true → Is m → wanted ≡ []) where
  lacks : (m : List ℕ) (is : List Input) → Is m → signed ≡ true → is ≡ wanted → 0 < length is → ⊥
  lacks m is p s e some = let size : length is ≡ 0 = ap length (e ∙ none m s p) in omega arith

  barred : may ≡ true → may ≡ false → ⊥
  barred t f = false≢true (sym f ∙ t)

  pub kinds_agree : (k l : Kind) → OfKind Is wanted signed may k → OfKind Is wanted signed may l → Agree Failing k l
  kinds_agree (Whole m) (Whole n) p q = inl (ap Whole (once m n p.0 q.0))
  kinds_agree (Whole m) (Lacking is) p q = absurd (lacks m is p.0 q.0 q.1 q.2)
  kinds_agree (Whole m) Barred p q = absurd (barred p.1 q)
  kinds_agree (Lacking is) (Whole m) p q = absurd (lacks m is q.0 p.0 p.1 p.2)
  kinds_agree (Lacking is) (Lacking js) p q = inl (ap Lacking (p.1 ∙ sym q.1))
  kinds_agree (Lacking is) Barred p q = absurd (barred p.3 q)
  kinds_agree Barred (Whole m) p q = absurd (barred q.1 p)
  kinds_agree Barred (Lacking is) p q = absurd (barred q.3 p)
  kinds_agree Barred Barred p q = inl refl
  kinds_agree Failing l p q = inr (inl refl)
  kinds_agree (Whole m) Failing p q = inr (inr refl)
  kinds_agree (Lacking is) Failing p q = inr (inr refl)
  kinds_agree Barred Failing p q = inr (inr refl)

  -- and so is what becomes of them
  pub made_agree : {A : Type 0} (f : Kind → A) (k l : Kind) (x y : A) → OfKind Is wanted signed may k → OfKind Is wanted signed may l → x ≡ f k → y ≡ f l → Agree (f Failing) x y
  made_agree f k l x y p q a b = elim (kinds_agree k l p q) [
    | inl e ↦ inl (a ∙ ap f e ∙ sym b)
    | inr (inl e) ↦ inr (inl (a ∙ ap f e))
    | inr (inr e) ↦ inr (inr (b ∙ ap f e))
  ]

-- a fault is of its kind, if it says that the question is not allowed exactly where that is so
pub fault_kind : (Is : List ℕ → Type 0) (wanted : List Input) (signed may : Bool) (f : AnswerFault) → (f ≡ fault.QuestionNotAllowed) ↔ (may ≡ false) → OfKind Is wanted signed may (kind_of f)
fault_kind Is wanted signed may fault.QuestionNotAllowed h = h.0 refl
fault_kind Is wanted signed may fault.HashFailed h = tt
fault_kind Is wanted signed may fault.SignFailed h = tt
fault_kind Is wanted signed may fault.TooLong h = tt
fault_kind Is wanted signed may fault.Memory h = tt

-- the response code of each
abbrev pub rcode_kind : Kind → ℕ
rcode_kind Barred = 5
rcode_kind _ = 2
