use Rattle.std.proofs.Common.{◌≡◌, ◌∙◌, sym, ap, subst, refl, []}
use Rattle.std.specs.Prelude.{Err, IsSome, Result, string_bytes}
use Rattle.std.specs.Map.{lookup}
use Rattle.std.specs.Str.{bytes_eq}
use Rattle.std.specs.Option.{option_copied_mut}
use Rattle.std.proofs.lemmas.Map.Text.{hash_map_updates_text}
use Rattle.keyset_keys.specs.declared.errors.Error.{Error}
use Rattle.keyset_keys.specs.declared.errors.Error.TheVariants.{KeyNotFound}
use Rattle.keyset.specs.declared.set.KeySet.TheInside.{Inside}
use Rattle.keyset.specs.contracts.set.KeySet.{the_view}
use Rattle.keyset.specs.KeyState.{by_kind, Key, KeySetState, Reference, Refusal, write}
use Rattle.keyset.specs.KeyAnswers.{GivesAtOnce}
use Rattle.keyset.specs.KeySteps.{set_to}
use Rattle.keyset.proofs.KeySettings.{written, unwritten}
use Rattle.keyset.proofs.set.KeySet.set.Goals as goal
use Rattle.keyset.proofs.set.KeySet.set.Goals.{in-Some, in-None}

abbrev Given : (Key → Result Key Refusal) → Reference → KeySetState → Inside → Result (Unit {0}) Error → Type 0
Given h q s i r = GivesAtOnce {X = Unit {0}} (λ _. []) s (the_view i) r (write h q s)

there_at : (h : Key → Result Key Refusal) (q : Reference) (s t : KeySetState) (i j : Inside) (r x : Result (Unit {0}) Error) → t ≡ s → i ≡ j → r ≡ x → Given h q t j x → Given h q s i r
there_at h q s t i j r x e f g done = subst (λ s. Given h q s i r) e (subst (λ i. Given h q t i r) (sym f) (subst (λ r. Given h q t j r) (sym g) done))

pub returns : goal.returns
returns c =
    let h = set_to c.args.setting in
    let q = c.args.pubref.now in
    let es = c.self.inside.keys.entries in
    elim c.match-get_mut.branch [
      | in-Some w ↦
          let after = c.get_mut.follows.lender w.apply.new.key in
          let holds = c.get_mut.follows.holds w.apply.new.key in
          let there = sym c.get_mut.ensures.value ∙ ap option_copied_mut w.in-Some.is in
          let some : IsSome (lookup (λ k. bytes_eq q (string_bytes k)) es) = subst IsSome (sym there) refl in
          let done = written c.self.inside.name (by_kind c.self.inside.rollstates.entries) es after.entries q w.in-Some.key.now w.apply.new.key h w.apply.result there holds.0 (λ p. hash_map_updates_text q c.self.inside.keys after _ (holds.3 some) p) w.apply.ensures in
          there_at h q c.args.self.now _ c.match-get_mut.self-inside _ c.match-get_mut.result w.apply.result c.self.view_is w.self-inside-is w.result-is done
      | in-None w ↦
          let there = sym c.get_mut.ensures.value ∙ ap option_copied_mut w.in-None.is in
          let done = unwritten c.self.inside.name (by_kind c.self.inside.rollstates.entries) es q h there in
          there_at h q c.args.self.now _ c.match-get_mut.self-inside _ c.match-get_mut.result (Err KeyNotFound) c.self.view_is w.self-inside-is w.result-is (ap (λ ks. the_view (record c.self.inside { keys = ks })) c.get_mut.follows.holds-at-none, done)
    ]
