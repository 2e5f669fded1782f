use Rattle.std.proofs.Common.{◌≡◌, ◌∙◌, sym, ap, List, [], Bool, false, None, Some, refl, map, subst}
use Rattle.std.specs.Prelude.{is_some, IsSome, if◌then◌else◌}
use Rattle.std.specs.List.{list_any}
use Rattle.keyset_rolls.specs.declared.rolls.RollType.{RollType}
use Rattle.keyset.specs.KeyState.{Reference, KeySetState, NoSuitableKeyPresent, phase_of, algorithms_fault, first_fault, old_fault, first_new_fault, suitable, roles_after, start_fault}
use Rattle.keyset_rolls.specs.Rolls.{conflicts}
use Rattle.keyset.specs.Listing.{listed_by}
use Rattle.keyset.proofs.set.KeySet.check_start.Goals as goal

-- where nothing stands in the way of a start, only the keys after it decide
last_fault : (r : RollType) (olds news : List Reference) (s : KeySetState) (b : Bool) → is_some (phase_of s r) ≡ false → list_any (λ e. conflicts r e.0) s.rolls ≡ false → first_fault (old_fault r s) olds ≡ None → first_new_fault r s olds [] news ≡ None → algorithms_fault r olds news s ≡ None → b ≡ suitable r (roles_after r olds news s.keys) → start_fault r olds news s ≡ (if b then None else Some NoSuitableKeyPresent)
last_fault r olds news s b p q f g a h = rw (p, q, f, g, a, ← h) refl

pub returns-then-not-serves_after_start : goal.returns-then-not-serves_after_start
returns-then-not-serves_after_start g c =
    let s = c.args.self.now in
    let r = c.args.rolltype in
    let e = last_fault r (listed_by c.args.old.now) (listed_by c.args.new.now) s c.serves_after_start.result
    (ap is_some (sym c.phase.ensures) ∙ sym c.is_some.ensures ∙ c.if-is_some.false)
    (ap (λ (s : KeySetState). list_any (λ e. conflicts r e.0) s.rolls) (sym c.self.view_is) ∙ sym c.is_blocked.ensures ∙ c.if-is_blocked.false)
    (subst (λ qs. first_fault (old_fault r s) qs ≡ None) c.references-olds.ensures c.in_ok-check_old_keys.ensures)
    (subst (λ qs. first_new_fault r s (listed_by c.args.old.now) [] qs ≡ None) c.references-news.ensures c.in_ok-check_new_keys.ensures)
    (subst (λ qs. algorithms_fault r qs (listed_by c.args.new.now) s ≡ None) c.references-olds.ensures (subst (λ qs. algorithms_fault r (map g.T.AsStr.text c.references-olds.result.now) qs s ≡ None) c.references-news.ensures c.in_ok-check_algorithms.ensures))
    (c.serves_after_start.ensures ∙ ap (λ (s : KeySetState). suitable r (roles_after r (listed_by c.args.old.now) (listed_by c.args.new.now) s.keys)) c.self.view_is) in
    let f = e ∙ ap (λ b. if b then None else Some NoSuitableKeyPresent) c.if-not-serves_after_start.true in
    (f, subst IsSome (sym f) refl)

pub returns : goal.returns
returns g c =
    let s = c.args.self.now in
    let r = c.args.rolltype in
    let e = last_fault r (listed_by c.args.old.now) (listed_by c.args.new.now) s c.serves_after_start.result
    (ap is_some (sym c.phase.ensures) ∙ sym c.is_some.ensures ∙ c.if-is_some.false)
    (ap (λ (s : KeySetState). list_any (λ e. conflicts r e.0) s.rolls) (sym c.self.view_is) ∙ sym c.is_blocked.ensures ∙ c.if-is_blocked.false)
    (subst (λ qs. first_fault (old_fault r s) qs ≡ None) c.references-olds.ensures c.in_ok-check_old_keys.ensures)
    (subst (λ qs. first_new_fault r s (listed_by c.args.old.now) [] qs ≡ None) c.references-news.ensures c.in_ok-check_new_keys.ensures)
    (subst (λ qs. algorithms_fault r qs (listed_by c.args.new.now) s ≡ None) c.references-olds.ensures (subst (λ qs. algorithms_fault r (map g.T.AsStr.text c.references-olds.result.now) qs s ≡ None) c.references-news.ensures c.in_ok-check_algorithms.ensures))
    (c.serves_after_start.ensures ∙ ap (λ (s : KeySetState). suitable r (roles_after r (listed_by c.args.old.now) (listed_by c.args.new.now) s.keys)) c.self.view_is) in
    e ∙ ap (λ b. if b then None else Some NoSuitableKeyPresent) c.if-not-serves_after_start.false
