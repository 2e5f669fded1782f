-- Laws of loops.
use Rattle.std.specs.Prelude.{◌≡◌, ℕ, ◌+◌, ◌-◌, ◌≤◌, length, None}
use Rattle.messages.specs.Message.{Asked}
use Rattle.evidence_laws.specs.Given.{Given}
use Rattle.resolution_walk.specs.declared.ending.Walk.{Walk}
use Rattle.resolution_walk.specs.declared.walk.Limits.{Limits}
use Rattle.walk_laws.specs.Loop.{AreWalks, Caller, Loops, Reaches, next}

-- A loop has no more calls that want messages than the limit of messages leaves room for, and no more that ask for signatures than
-- that of signatures does.
abbrev pub LoopsAreShort : Type 0
LoopsAreShort =
    (asked : Asked) (limits : Limits) (most m n : ℕ) (from e : Given) → Loops (λ f. Unit {0}) asked limits most from m n e
    → (m ≤ limits.messages - length from.messages) × (n ≤ most - length from.table)

-- the evidence behind so many calls, over which a walk ends the loop
pub record Ends (c : Caller) (asked : Asked) (limits : Limits) (most : ℕ) (walks : Given → Walk) (from : Given) : Type 0 where
  pub calls : ℕ
  pub last : Given
  pub reached : Reaches c asked most walks from calls last
  pub ends : next c asked most last (walks last).ending ≡ None
  pub few : calls ≤ (limits.messages - length from.messages) + (most - length from.table)

-- So the loop of each caller ends, whatever octets it hands in and whichever signatures pass.
abbrev pub LoopsEnd : Type 0
LoopsEnd =
    (c : Caller) (asked : Asked) (limits : Limits) (most : ℕ) (walks : Given → Walk) (from : Given) → AreWalks c asked limits most walks from
    → Ends c asked limits most walks from
