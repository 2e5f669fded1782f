-- What facts decide, where a program found it.
use Rattle.std.proofs.Common.{◌≡◌, ℕ, ◌<◌, List, Option, Some, None, Result, Ok, Err, sym, ◌∙◌, ap}
use Rattle.std.specs.Prelude.{IfOk}
use Rattle.definitions.specs.Name.{Name}
use Rattle.definitions.specs.Zone.{Verdict}
use Rattle.denial_laws.specs.Facts.{Facts}
use Rattle.denial_laws.specs.Deciding.{decided}
use Rattle.denial_laws.specs.Laws.{DecidesTruly}
use Rattle.denial_laws.proofs.Sound.{true_facts_decide_truly}

-- it is what each zone says of which they are true
pub truly : (apex : Name) (hash : Name → List ℕ) (f : Facts) (q : Name) (t : ℕ) → t < 65536 → (o : Option Verdict) → o ≡ decided apex hash f q t → DecidesTruly apex hash f q t o
truly apex hash f q t k None e = tt
truly apex hash f q t k (Some v) e = λ z mode n s a. true_facts_decide_truly z hash mode f q t v s k a (ap (λ m. decided m hash f q t) n ∙ sym e)

-- what holds of an answer holds of what follows from it
pub ok_more : {A E : Type 0} (P Q : A → Type 0) (r : Result A E) → ((x : A) → P x → Q x) → IfOk r P → IfOk r Q
ok_more P Q (Ok x) f h = f x h
ok_more P Q (Err e) f h = tt
