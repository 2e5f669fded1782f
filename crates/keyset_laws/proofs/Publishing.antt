-- Once a DS set was published, none is empty.
use Rattle.std.proofs.Common.{◌≡◌, ℕ, suc, ◌≤◌, Bool, true, false, List, [], ◌∷◌, ◌++◌, length, take, refl, sym, ap, ◌∙◌, ◌||◌, ◌⊎◌, inl, inr, ⊎_elim, slice_get, arith}
use Rattle.std.proofs.lemmas.List.{take-append-le, take_all}
use Rattle.std.specs.Prelude.{Option, Some, None, Ok}
use Rattle.std.specs.List.{list_any}
use Rattle.std.proofs.lemmas.Bool.{and_from, false≢true, le-leb, leb-true, true≢false}
use Rattle.keyset_rolls.specs.declared.rolls.Action.{Action}
use Rattle.keyset_rolls.specs.declared.rolls.RollState.{RollState}
use Rattle.keyset_rolls.specs.declared.rolls.RollState.TheVariants.{Propagation2}
use Rattle.keyset_rolls.specs.declared.rolls.RollType.TheVariants.{AlgorithmRoll}
use Rattle.keyset.specs.KeyState.{Answer, KeySetState, Reference, Refusal, ds, listed, phase_of}
use Rattle.keyset.specs.KeyRuns.{Add, Call, Delete, Finish, Report1, Report2, SetAtParent, SetDecoupled, SetDsVisible, SetPresent, SetRrsigVisible, SetSigner, SetStale, SetVisible, Start, Wait1, Wait2, on_state}
use Rattle.keyset.proofs.KeyMaps.{index_same}
use Rattle.keyset.proofs.KeyWaits.{phases_follow}
use Rattle.keyset_laws.specs.KeyLife.{DsSet, Step, is_first_wait, states}
use Rattle.keyset.specs.KeyState.{is_at_parent, ksk_is}
use Rattle.keyset_laws.proofs.Contents.{found_named}
use Rattle.keyset_laws.specs.Sides.{OfKeys, is_empty, is_shown}
use Rattle.keyset_laws.specs.Anchors.{Anchored, Grows, HasKey, Kept, Life, NoDs, Rests, Switches}
use Rattle.keyset_laws.proofs.SideWords.{is_first}
use Rattle.keyset_laws.proofs.LifeSteps.{Noted, Sides}
use Rattle.keyset_laws.proofs.Lived.{Lived}
use Rattle.keyset_laws.proofs.Retiring.{get_place, state_further, step_of}
use Rattle.keyset_laws.proofs.Sided.{of_lasting}
use Rattle.keyset_laws.proofs.Turns.{early_first, ends_key}

-- whether an algorithm's first wait stands among some steps
abbrev pub waited : List Step → Bool
waited ts = list_any (λ (t : Step). is_first_wait AlgorithmRoll t.call) ts

pub record Published (life : Life) (steps : List Step) (s : KeySetState) : Type 0 where
  pub now : waited steps ≡ true → is_empty (ds s) ≡ false
  pub each : (i : ℕ) (x : KeySetState) → slice_get (states life.start steps) i ≡ Some x → is_empty (ds x) ≡ true → waited (take i steps) ≡ false

not_empty : (qs : List Reference) (q : Reference) → listed qs q ≡ true → is_empty qs ≡ false
not_empty [] q l = cc
not_empty (p ∷ qs) q l = refl

has_ds : (s : KeySetState) (q : Reference) → HasKey s q (is_shown OfKeys DsSet) → is_empty (ds s) ≡ false
has_ds s q h = not_empty (ds s) q (found_named (ksk_is is_at_parent) s q h.0 h.1 h.2)

-- an empty DS set has only empty ones before it, and the roll of the algorithm hasn't had its first wait
abbrev Fresh : Life → List Step → KeySetState → Type 0
Fresh life steps s = NoDs life steps × ((phase_of s AlgorithmRoll ≡ None) ⊎ (is_first (phase_of s AlgorithmRoll) ≡ true))

sides_ds : (life : Life) (steps : List Step) (s : KeySetState) (p : Noted) → Sides life steps s p → (is_empty (ds s) ≡ false) ⊎ Fresh life steps s
sides_ds life steps s p (inl u) = inr (u.no_ds, inl (u.no_roll AlgorithmRoll refl))
sides_ds life steps s p (inr h) = at (h OfKeys)
  where
    at : Kept OfKeys life steps s p → (is_empty (ds s) ≡ false) ⊎ Fresh life steps s
    at (Rests w) = inl (has_ds s w.anchor w.anchored.in_ends)
    at (Grows r w) = ⊎_elim
        (λ (e : (r ≡ AlgorithmRoll) × NoDs life steps). inr (e.1, inr (ap (λ r. is_first (phase_of s r)) (sym e.0) ∙ early_first OfKeys r life steps (p r) w.new (phase_of s r) w.early)))
        (λ (a : (q : Reference) × Anchored OfKeys life steps s q). inl (has_ds s a.0 a.1.in_ends))
        w.anchored
    at (Switches r w) =
        let k = w.lasting in
        let parts = of_lasting OfKeys r k.0.roles k.2 in
        inl (has_ds s w.new (ends_key (λ thing. HasKey s w.new (is_shown OfKeys thing)) OfKeys r (k.0, k.1, parts.2) (k.0, k.1, parts.3)))

-- the phase that an accepted first wait enters
wait_enters : (c : Call) (now : ℕ) (s x : KeySetState) (acts : List Action) → on_state c now s ≡ Ok (x, acts) → is_first_wait AlgorithmRoll c ≡ true → phase_of x AlgorithmRoll ≡ Some Propagation2
wait_enters (Wait1 a) now s x acts e w =
    let same : AlgorithmRoll ≡ a = index_same AlgorithmRoll a (Rattle.std.proofs.lemmas.Bool.eqb-true (Rattle.keyset.specs.KeyState.index_of AlgorithmRoll) (Rattle.keyset.specs.KeyState.index_of a) w) in
    ap (phase_of x) same ∙ ((phases_follow a 0 now s).1 x acts e).0
wait_enters (Add q n) now s x acts e w = cc
wait_enters (SetDecoupled q v) now s x acts e w = cc
wait_enters (SetPresent q v) now s x acts e w = cc
wait_enters (SetSigner q v) now s x acts e w = cc
wait_enters (SetAtParent q v) now s x acts e w = cc
wait_enters (SetVisible q v) now s x acts e w = cc
wait_enters (SetDsVisible q v) now s x acts e w = cc
wait_enters (SetRrsigVisible q v) now s x acts e w = cc
wait_enters (SetStale q) now s x acts e w = cc
wait_enters (Delete q) now s x acts e w = cc
wait_enters (Start a olds news) now s x acts e w = cc
wait_enters (Report1 a ttl) now s x acts e w = cc
wait_enters (Report2 a ttl) now s x acts e w = cc
wait_enters (Wait2 a) now s x acts e w = cc
wait_enters (Finish a) now s x acts e w = cc

not_waiting : (o : Option RollState) → o ≡ Some Propagation2 → (o ≡ None) ⊎ (is_first o ≡ true) → ⊥
not_waiting o e (inl n) = absurd (none_some (sym n ∙ e))
  where
    none_some : ◌≡◌ {A = Option RollState} None (Some Propagation2) → ⊥
    none_some i = cc
not_waiting o e (inr f) = false≢true (ap is_first (sym e) ∙ f)

waited_or : (ts : List Step) (t : Step) → waited (ts ++ t ∷ []) ≡ true → (waited ts ≡ true) ⊎ (is_first_wait AlgorithmRoll t.call ≡ true)
waited_or [] t h = inr (at (is_first_wait AlgorithmRoll t.call) h)
  where
    at : (b : Bool) → (b || false) ≡ true → b ≡ true
    at true h = refl
    at false h = h
waited_or (x ∷ ts) t h = at (is_first_wait AlgorithmRoll x.call) h (λ k. waited_or ts t k)
  where
    at : (b : Bool) → (b || waited (ts ++ t ∷ [])) ≡ true → (waited (ts ++ t ∷ []) ≡ true → (waited ts ≡ true) ⊎ (is_first_wait AlgorithmRoll t.call ≡ true)) → ((b || waited ts) ≡ true) ⊎ (is_first_wait AlgorithmRoll t.call ≡ true)
    at true h more = inl refl
    at false h more = more h

pub published_more : (life : Life) (steps : List Step) (s x : KeySetState) (c : Call) (now : ℕ) (p q : Noted) (acts : List Action) → Lived life steps s p → Lived life (steps ++ step_of now c x ∷ []) x q → on_state c now s ≡ Ok (x, acts) → Published life steps s → Published life (steps ++ step_of now c x ∷ []) x
published_more life steps s x c now p q acts before h e old = record {
  now = then_some;
  each = λ i y f empty. ⊎_elim
      (λ (w : (slice_get (states life.start steps) i ≡ Some y) × (i ≤ length steps)). ap waited (take-append-le i steps (step_of now c x ∷ []) w.1) ∙ old.each i y w.0 empty)
      (λ (w : (i ≡ suc (length steps)) × (x ≡ y)). last i w.0 (ap (λ s. is_empty (ds s)) w.1 ∙ empty))
      (get_place life.start steps (step_of now c x) i y f);
}
  where
    then_some : waited (steps ++ step_of now c x ∷ []) ≡ true → is_empty (ds x) ≡ false
    then_some w = ⊎_elim
        (λ (some : is_empty (ds x) ≡ false). some)
        (λ (n : Fresh life (steps ++ step_of now c x ∷ []) x).
        ⊎_elim
        (λ (k : waited steps ≡ true). absurd (false≢true (sym (old.now k) ∙ n.0 before.base.here.0 s (state_further life.start steps (step_of now c x ∷ []) before.base.here.0 s before.base.here.1))))
        (λ (k : is_first_wait AlgorithmRoll c ≡ true). absurd (not_waiting (phase_of x AlgorithmRoll) (wait_enters c now s x acts e k) n.1))
        (waited_or steps (step_of now c x) w))
        (sides_ds life (steps ++ step_of now c x ∷ []) x q h.sides)

    none_so_far : (b : Bool) → waited (steps ++ step_of now c x ∷ []) ≡ b → is_empty (ds x) ≡ true → b ≡ false
    none_so_far true i empty = absurd (true≢false (sym empty ∙ then_some i))
    none_so_far false i empty = refl

    last : (i : ℕ) → i ≡ suc (length steps) → is_empty (ds x) ≡ true → waited (take i (steps ++ step_of now c x ∷ [])) ≡ false
    last i e empty =
        let long = Rattle.std.proofs.lemmas.List.length-append steps (step_of now c x ∷ []) in
        let one : length {A = Step} (step_of now c x ∷ []) ≡ 1 = refl in
        let far : length (steps ++ step_of now c x ∷ []) ≤ i = omega (arith, long, e, one) in
        ap waited (take_all i (steps ++ step_of now c x ∷ []) far) ∙ none_so_far (waited (steps ++ step_of now c x ∷ [])) refl empty
