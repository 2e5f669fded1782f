-- A simulation in progress: whatever follows the events so far ends the whole.
use Rattle.std.proofs.Common.{◌≡◌, ℕ, ◌+◌, ◌<◌, ◌≤◌, length, drop, List, [], ◌∷◌, ◌++◌, get_or, subst, sym, append_assoc, ap, ◌∙◌}
use Rattle.std.proofs.lemmas.List.{drop_more, drop_all, append-nil}
use Rattle.answer_events.specs.declared.event.Event.{Event}
use Rattle.answer_outcomes.specs.declared.outcome.Outcome.{Outcome}
use Rattle.std.specs.Prelude.{Ok, Err}
use Rattle.answer_events.specs.declared.event.Act.{Act}
use Rattle.answer_events.specs.declared.event.Act.TheVariants as act
use Rattle.answer_outcomes.specs.declared.outcome.Outcome.TheVariants as outcome
use Rattle.answer_publisher.specs.declared.fault.ReplaceFault.TheVariants.{TooSoon, Zone}
use Rattle.answer_laws.specs.Simulating.{Sofar, StepOf, Simulates, now_in}
use Rattle.answer_publisher.specs.World.{World}

-- the outcomes so far begin every simulation that goes on from here
abbrev pub GoesOn : World → Sofar → List Event → List Outcome → ℕ → Sofar → Type 0
GoesOn w first es outs i s = (rest : List Outcome) (last : Sofar) → Simulates w s (drop i es) rest last → Simulates w first es (outs ++ rest) last

pub step_on : (w : World) (first : Sofar) (es : List Event) (outs new : List Outcome) (i : ℕ) (s t : Sofar) (d : Event) (o : Outcome) → i < length es → StepOf w s (get_or es i d).at (get_or es i d).act o t → new ≡ outs ++ o ∷ [] → GoesOn w first es outs i s → GoesOn w first es new (i + 1) t
step_on w first es outs new i s t d o lt h e on rest last run =
    let P : List Event → Type 0 = λ xs. Simulates w s xs (o ∷ rest) last in
    let Q : List Outcome → Type 0 = λ os. Simulates w first es os last in
    subst Q (sym (ap (λ os. os ++ rest) e ∙ append_assoc outs (o ∷ []) rest)) (on (o ∷ rest) last (subst P (sym (drop_more es i d lt)) (t, h, run)))

pub at_end : (w : World) (first : Sofar) (es : List Event) (outs : List Outcome) (i : ℕ) (s : Sofar) → length es ≤ i → GoesOn w first es outs i s → (last : Sofar) × Simulates w first es outs last
at_end w first es outs i s h on =
    let P : List Event → Type 0 = λ xs. Simulates w s xs [] s in
    let Q : List Outcome → Type 0 = λ os. Simulates w first es os s in
    (s, subst Q (append-nil outs) (on [] s (subst P (sym (drop_all i es h)) (λ _. s))))

-- a step knows of the zone's records those of now alone
now_step : (w : World) (s t : Sofar) (at : ℕ) (a : Act) (o : Outcome) → StepOf (now_in w s) s at a o t → StepOf w s at a o t
now_step w s t at (act.Key c) (outcome.Key r) h = h
now_step w s t at (act.Key c) _ h = absurd h
now_step w s t at (act.Replace records) (outcome.Replaced (Ok u)) h = h
now_step w s t at (act.Replace records) (outcome.Replaced (Err TooSoon)) h = h
now_step w s t at (act.Replace records) (outcome.Replaced (Err (Zone f))) h = h
now_step w s t at (act.Replace records) _ h = absurd h
now_step w s t at act.ShowDs (outcome.Ds place set) h = h
now_step w s t at act.ShowDs _ h = absurd h
now_step w s t at act.ShowCds (outcome.Cds set) h = h
now_step w s t at act.ShowCds _ h = absurd h
now_step w s t at act.ShowCdnskey (outcome.Cdnskey set) h = h
now_step w s t at act.ShowCdnskey _ h = absurd h
now_step w s t at act.ShowDnskey (outcome.Message place octets) h = h
now_step w s t at act.ShowDnskey (outcome.Refused e) h = h
now_step w s t at act.ShowDnskey _ h = absurd h
now_step w s t at (act.Ask q) (outcome.Message place octets) h = h
now_step w s t at (act.Ask q) (outcome.Refused e) h = h
now_step w s t at (act.Ask q) _ h = absurd h
now_step w s t at (act.Judge ds dnskey answer) o h = h
now_step w s t at (act.JudgeBytes ds dnskey answer q) o h = h

-- a step of the event at a place, in the same world, whose zone has these records now
pub step_at : (v w : World) (s t : Sofar) (es : List Event) (i : ℕ) (d : Event) (o : Outcome) → v ≡ now_in w s → d ≡ get_or es i d → StepOf v s d.at d.act o t → StepOf w s (get_or es i d).at (get_or es i d).act o t
step_at v w s t es i d o e f h =
    let P : Event → Type 0 = λ x. StepOf v s x.at x.act o t in
    let Q : World → Type 0 = λ x. StepOf x s (get_or es i d).at (get_or es i d).act o t in
    now_step w s t (get_or es i d).at (get_or es i d).act o (subst Q e (subst P f h))
