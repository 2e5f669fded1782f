-- The verdict on a name, case by case.
use Rattle.std.proofs.Common.{◌≡◌, ℕ, Bool, true, false, ◌&&◌, sym, ap, subst, ◌∙◌, Option, Some, None, Result}
use Rattle.std.specs.Prelude.{◌==◌, if◌then◌else◌, IfOk}
use Rattle.std.specs.declared.alloc.AllocError.{AllocError}
use Rattle.definitions.specs.Name.{Name, labels_eq, low}
use Rattle.definitions.specs.Zone.{Zone, Verdict, Open, Delegated, NoName, is_open, cut, exists, ce, star_under, at_existing, at_star, verdict}
use Rattle.definitions.specs.declared.reference.verdict.PlainVerdict.{PlainVerdict}
use Rattle.definitions.specs.Reference.{verdict_of}

-- the verdict, from whether the name is left open, its delegation, whether it exists, and its closest encloser
abbrev pub said : Zone → Name → ℕ → Bool → Option Name → Bool → Option Name → Verdict
said z q t left c there e = elim left [
  | true ↦ Open
  | false ↦ elim c [
    | Some d ↦ if labels_eq d q && (t == 43) then at_existing z q 43 else Delegated
    | None ↦ elim there [
      | true ↦ at_existing z q t
      | false ↦ elim e [ None ↦ NoName | Some n ↦ at_star z (star_under n) t ]
    ]
  ]
]

pub verdict-said : (z : Zone) (optout : Bool) (n q : Name) (t : ℕ) → q ≡ low n → verdict z optout n t ≡ said z q t (is_open z optout q) (cut z q) (exists z q) (ce z q)
verdict-said z optout n q t h = ap (λ p. said z p t (is_open z optout p) (cut z p) (exists z p) (ce z p)) (sym h)

pub verdict-open : (z : Zone) (optout : Bool) (n q : Name) (t : ℕ) → q ≡ low n → is_open z optout q ≡ true → verdict z optout n t ≡ Open
verdict-open z optout n q t h o = verdict-said z optout n q t h ∙ ap (λ b. said z q t b (cut z q) (exists z q) (ce z q)) o

pub verdict-cut : (z : Zone) (optout : Bool) (n q c : Name) (t : ℕ) → q ≡ low n → is_open z optout q ≡ false → cut z q ≡ Some c → verdict z optout n t ≡ (if labels_eq c q && (t == 43) then at_existing z q 43 else Delegated)
verdict-cut z optout n q c t h o d = verdict-said z optout n q t h ∙ (λ i. said z q t (o i) (d i) (exists z q) (ce z q))

pub verdict-exists : (z : Zone) (optout : Bool) (n q : Name) (t : ℕ) → q ≡ low n → is_open z optout q ≡ false → cut z q ≡ None → exists z q ≡ true → verdict z optout n t ≡ at_existing z q t
verdict-exists z optout n q t h o d x = verdict-said z optout n q t h ∙ (λ i. said z q t (o i) (d i) (x i) (ce z q))

pub verdict-alone : (z : Zone) (optout : Bool) (n q : Name) (t : ℕ) → q ≡ low n → is_open z optout q ≡ false → cut z q ≡ None → exists z q ≡ false → ce z q ≡ None → verdict z optout n t ≡ NoName
verdict-alone z optout n q t h o d x e = verdict-said z optout n q t h ∙ (λ i. said z q t (o i) (d i) (x i) (e i))

pub verdict-star : (z : Zone) (optout : Bool) (n q s : Name) (t : ℕ) → q ≡ low n → is_open z optout q ≡ false → cut z q ≡ None → exists z q ≡ false → ce z q ≡ Some s → verdict z optout n t ≡ at_star z (star_under s) t
verdict-star z optout n q s t h o d x e = verdict-said z optout n q t h ∙ (λ i. said z q t (o i) (d i) (x i) (e i))

-- a program's answer is a verdict that is the same
pub says : (r : Result PlainVerdict AllocError) (v w : Verdict) → IfOk r (λ x. verdict_of x ≡ v) → w ≡ v → IfOk r (λ x. verdict_of x ≡ w)
says r v w h e = let P : Verdict → Type 0 = λ u. IfOk r (λ x. verdict_of x ≡ u) in subst P (sym e) h
