-- A life from its beginning is a simulation.
use Rattle.std.proofs.Common.{◌≡◌, ℕ, true, List, [], ◌∷◌, ◌++◌, Option, refl, sym, ap, subst, ◌∙◌}
use Rattle.std.specs.List.{flat_map}
use Rattle.answer_events.specs.declared.event.Event.{Event}
use Rattle.answer_publisher.specs.World.{World}
use Rattle.answer_outcomes.specs.declared.outcome.Outcome.{Outcome}
use Rattle.answer_laws.specs.Simulating.{Simulates, Sofar, begin}
use Rattle.answer_laws.specs.Versions.{Parting, no_parting, parting_with}
use Rattle.answer_laws.proofs.Simulations.{runs_are_simulations}
use Rattle.server_zone.specs.States.{State}
use Rattle.served_lives.specs.Lives.{AnswersLieBehind, Happening, Lives, LivesAreSimulations, IsNewborn, Mirrors, PartsInto, events_of}
use Rattle.served_lives.proofs.Events.{happening_is_events}

-- one run behind another
joined : (w : World) (s t u : Sofar) (es fs : List Event) (os ps : List Outcome) → Simulates w s es os t → Simulates w t fs ps u → Simulates w s (es ++ fs) (os ++ ps) u
joined w s t u [] fs [] ps a b = subst (λ (x : Sofar). Simulates w x fs ps u) a b
joined w s t u (e ∷ es) fs (o ∷ os) ps a b = (a.0, a.1, joined w a.0 t u es fs os ps a.2 b)
joined w s t u [] fs (o ∷ os) ps a b = absurd a
joined w s t u (e ∷ es) fs [] ps a b = absurd a

parted : (p : Parting) (es fs : List Event) (os ps : List Outcome) (c d : Option ℕ) → PartsInto p es os c → ((q : Parting) → q.since ≡ c → q.kept ≡ true → PartsInto q fs ps d) → PartsInto p (es ++ fs) (os ++ ps) d
parted p [] fs [] ps c d a b = b p a.0 a.1
parted p (e ∷ es) fs (o ∷ os) ps c d a b = (a.0, parted (parting_with p e.at e.act o) es fs os ps c d a.1 b)
parted p [] fs (o ∷ os) ps c d a b = absurd a
parted p (e ∷ es) fs [] ps c d a b = absurd a

life_simulates : (w : World) (st t : State) (s u : Sofar) (hs : List Happening) → Mirrors w st s → (l : Lives w st s hs t u)
    → (os : List Outcome) × Simulates w s (flat_map events_of hs) os u × Mirrors w t u
    × (AnswersLieBehind w st s hs t u l → (p : Parting) → p.since ≡ st.closed → p.kept ≡ true → PartsInto p (flat_map events_of hs) os t.closed)
life_simulates w st t s u [] m l = (
  [],
  l.1,
  subst (λ (x : Sofar). Mirrors w t x) (sym l.1) (subst (λ (x : State). Mirrors w x s) (sym l.0) m),
  λ b p e k. (e ∙ sym (ap (λ (x : State). x.closed) l.0), k),
)
life_simulates w st t s u (h ∷ hs) m l =
    let first = happening_is_events w st l.0 s l.1 h m l.2 in
    let rest = life_simulates w l.0 t l.1 u hs first.2 l.3 in (
      first.0 ++ rest.0,
      joined w s l.1 u (events_of h) (flat_map events_of hs) first.0 rest.0 first.1 rest.1,
      rest.2,
      λ b p e k. parted p (events_of h) (flat_map events_of hs) first.0 rest.0 l.0.closed t.closed (first.3 p e k b.0) (λ q f n. rest.3 b.1 q f n),
    )

-- a newborn zone is what a simulation begins with
newborn_mirrors : (w : World) (st : State) → IsNewborn w st → Mirrors w st (begin w.zone)
newborn_mirrors w st n = record { zone_is = n.zone_is; life_is = n.life_is; keys_are = n.keys_are }

pub lives_are_simulations : LivesAreSimulations
lives_are_simulations w rs hs st t u z n l =
    let r = life_simulates w st t (begin w.zone) u hs (newborn_mirrors w st n) l in
    (r.0, r.1, runs_are_simulations w rs (flat_map events_of hs) r.0 u z r.1, r.2, λ c b. r.3 b no_parting (sym c) refl)
