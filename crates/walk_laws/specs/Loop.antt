-- A loop of calls: where a walk wants messages or asks for signatures, the next one goes over evidence that has some of them too.
use Rattle.std.specs.Prelude.{◌≡◌, ℕ, suc, ◌+◌, ◌≤◌, Bool, true, List, ◌++◌, length, map, nat_le, Option, Some, None, Contains, if◌then◌else◌}
use Rattle.std.specs.Global.{Vec}
use Rattle.messages.specs.Message.{Asked}
use Rattle.answer_findings.specs.Table.{Checked, Tried, checked}
use Rattle.evidence_laws.specs.Given.{Given, Message}
use Rattle.resolution_walk.specs.Stopping.{StopsWithin}
use Rattle.resolution_walk.specs.declared.ending.Ending.{Ending}
use Rattle.resolution_walk.specs.declared.ending.Ending.TheVariants as ends
use Rattle.resolution_walk.specs.declared.ending.Walk.{Walk}
use Rattle.resolution_walk.specs.declared.ending.Wanted.{Wanted}
use Rattle.resolution_walk.specs.declared.walk.Limits.{Limits}
use Rattle.walk_laws.specs.New.{answers}

-- messages behind those that are there, and entries behind those of the table
abbrev pub with_messages : Given → List Message → Given
with_messages e ms = record e { messages = e.messages ++ ms }

abbrev pub with_entries : Given → List Checked → Given
with_entries e cs = record e { table = e.table ++ cs }

-- a walk over evidence
pub record Walks (asked : Asked) (limits : Limits) (e : Given) : Type 0 where
  pub walk : Walk
  pub stops : StopsWithin e asked limits walk

-- one message at least that answers one of those that are wanted, in whatever octets
pub record SomeAnswered (ws : List Wanted) (ms : List Message) : Type 0 where
  pub wanted : Wanted
  pub is_wanted : Contains ws wanted
  pub message : Message
  pub there : Contains ms message
  pub answer : answers wanted message ≡ true

-- one entry at least of one of the signatures that are asked for, whether it passes or not
pub record SomeChecked (asks : List Tried) (cs : List Checked) : Type 0 where
  pub tried : Tried
  pub is_asked : Contains asks tried
  pub entry : Checked
  pub there : Contains cs entry
  pub same : entry.tried ≡ tried

-- A loop over evidence of a kind: so many calls that want messages, and so many that ask for signatures, which with those of the table
-- are as many as are allowed, or fewer. What it comes to is handed in next.
pub data Loops (Kind : Given → Type 0) (asked : Asked) (limits : Limits) (most : ℕ) (from : Given) : ℕ → ℕ → Given → Type 0 where
  Begins : Loops Kind asked limits most from 0 0 from
  Wants : {m n : ℕ} {e : Given} {ms : List Message} (ws : Vec Wanted) → Loops Kind asked limits most from m n e → Kind e → (k : Walks asked limits e) → k.walk.ending ≡ ends.Wants ws
      → SomeAnswered ws.items ms → Loops Kind asked limits most from (suc m) n (with_messages e ms)
  Asks : {m n : ℕ} {e : Given} {cs : List Checked} (asks : Vec Tried) → Loops Kind asked limits most from m n e → Kind e → (k : Walks asked limits e) → k.walk.ending ≡ ends.Asks asks
      → length e.table + length asks.items ≤ most → SomeChecked asks.items cs → Loops Kind asked limits most from m (suc n) (with_entries e cs)

-- ---- a caller

-- what it hands in for a message that is wanted, and which signatures pass
pub record Caller : Type 0 where
  pub octets : Wanted → List ℕ
  pub passes : Tried → Bool

abbrev pub message_for : Caller → Asked → Wanted → Message
message_for c asked x = record { zone = x.zone; asked = record { name = x.name; rtype = x.rtype; class = asked.class }; octets = c.octets x }

abbrev pub entry_for : Caller → Tried → Checked
entry_for c t = checked t (c.passes t)

-- the evidence of its next call; none behind an end, which too many signatures are too
abbrev pub next : Caller → Asked → ℕ → Given → Ending → Option Given
next c asked most e (ends.Wants ws) = Some (with_messages e (map (message_for c asked) ws.items))
next c asked most e (ends.Asks asks) = if nat_le (length e.table + length asks.items) most then Some (with_entries e (map (entry_for c) asks.items)) else None
next c asked most e _ = None

-- what it comes to from some evidence on, by so many calls
pub data Reaches (c : Caller) (asked : Asked) (most : ℕ) (walks : Given → Walk) (from : Given) : ℕ → Given → Type 0 where
  AtOnce : Reaches c asked most walks from 0 from
  ByCall : {calls : ℕ} {e f : Given} → Reaches c asked most walks from calls e → next c asked most e (walks e).ending ≡ Some f → Reaches c asked most walks from (suc calls) f

-- its calls are walks: over evidence that it comes to, and not over all that there may be
abbrev pub AreWalks : Caller → Asked → Limits → ℕ → (Given → Walk) → Given → Type 0
AreWalks c asked limits most walks from = (calls : ℕ) (e : Given) → Reaches c asked most walks from calls e → StopsWithin e asked limits (walks e)
