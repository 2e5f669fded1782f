-- What applying a line gives, and why it is refused.
use Rattle.std.proofs.Common.{◌≡◌, ℕ, false, cond, List, sym, ap, subst, ◌∙◌}
use Rattle.std.specs.Prelude.{Option, Some, None}
use Rattle.answer_terms.specs.Hashing.{Hasher}
use Rattle.session_grammar.specs.Grammar.{◌>>=◌}
use Rattle.server_zone.specs.Journals.{IsFit}
use Rattle.server_zone.specs.Lines.{has_feed}
use Rattle.server_zone.specs.StateLines.{StateLine, Nothing, Added, Replaced, Called, Other, state_line}
use Rattle.server_zone.specs.States.{Digest, Follows, gathering, OfLine, State, after, applied_line, behind_call}
use Rattle.server_zone.specs.declared.open_zone.Applied.{Applied}
use Rattle.server_zone.specs.declared.open_zone.Applied.TheVariants as applied

pub of_line : (P : StateLine → Type 0) (o : Option StateLine) (l : StateLine) → o ≡ Some l → P l → OfLine P o
of_line P o l e h = subst (OfLine P) (sym e) h

pub read_line : (P : StateLine → Type 0) (o : Option StateLine) (l : StateLine) → o ≡ Some l → OfLine P o → P l
read_line P o l e h = subst (OfLine P) e h

pub each_line : (P Q : StateLine → Type 0) (o : Option StateLine) → ((l : StateLine) → P l → Q l) → OfLine P o → OfLine Q o
each_line P Q (Some l) f h = f l h
each_line P Q None f h = h

-- what an accepted line answers leaves the state that the line alone determines
pub follows_after : (digest : Digest) (hash : Hasher) (latest : Option ℕ) (s t : State) (l : StateLine) (a : Applied) → Follows digest hash latest s l a t → after digest l s ≡ Some t
follows_after digest hash latest s t Nothing applied.Nothing h = ap Some (sym h)
follows_after digest hash latest s t Nothing applied.Gathered h = absurd h
follows_after digest hash latest s t Nothing (applied.Actions v) h = absurd h
follows_after digest hash latest s t Nothing applied.Replaced h = absurd h
follows_after digest hash latest s t (Added r) applied.Nothing h = absurd h
follows_after digest hash latest s t (Added r) applied.Gathered h = ap (λ b. cond b (Some (gathering r s)) None) h.0 ∙ ap Some (sym h.1)
follows_after digest hash latest s t (Added r) (applied.Actions v) h = absurd h
follows_after digest hash latest s t (Added r) applied.Replaced h = absurd h
follows_after digest hash latest s t (Replaced at) applied.Nothing h = absurd h
follows_after digest hash latest s t (Replaced at) applied.Gathered h = absurd h
follows_after digest hash latest s t (Replaced at) (applied.Actions v) h = absurd h
follows_after digest hash latest s t (Replaced at) applied.Replaced h = ap Some (sym h.3)
follows_after digest hash latest s t (Called at c) applied.Nothing h = absurd h
follows_after digest hash latest s t (Called at c) applied.Gathered h = absurd h
follows_after digest hash latest s t (Called at c) (applied.Actions v) h = ap (λ o. behind_call at o s) h.1 ∙ ap Some (sym h.2)
follows_after digest hash latest s t (Called at c) applied.Replaced h = absurd h
follows_after digest hash latest s t Other applied.Nothing h = absurd h
follows_after digest hash latest s t Other applied.Gathered h = absurd h
follows_after digest hash latest s t Other (applied.Actions v) h = absurd h
follows_after digest hash latest s t Other applied.Replaced h = absurd h

-- and is fit for it
pub follows_fit : (digest : Digest) (hash : Hasher) (latest : Option ℕ) (s t : State) (l : StateLine) (a : Applied) → Follows digest hash latest s l a t → IsFit hash s l
follows_fit digest hash latest s t (Replaced at) applied.Nothing h = absurd h
follows_fit digest hash latest s t (Replaced at) applied.Gathered h = absurd h
follows_fit digest hash latest s t (Replaced at) (applied.Actions v) h = absurd h
follows_fit digest hash latest s t (Replaced at) applied.Replaced h = h.2
follows_fit digest hash latest s t Nothing a h = tt
follows_fit digest hash latest s t (Added r) a h = tt
follows_fit digest hash latest s t (Called at c) a h = tt
follows_fit digest hash latest s t Other a h = tt

pub applied_as : (digest : Digest) (hash : Hasher) (latest : Option ℕ) (s t : State) (line : List ℕ) (l : StateLine) (a : Applied) → has_feed line ≡ false → state_line line ≡ Some l → Follows digest hash latest s l a t → applied_line digest s line ≡ Some t
applied_as digest hash latest s t line l a n e h =
    let read : Option State = state_line line >>= λ k. after digest k s in
    ap (λ b. cond b None read) n ∙ ap (λ o. o >>= λ k. after digest k s) e ∙ follows_after digest hash latest s t l a h
