-- Loops end.
use Rattle.std.proofs.Common.{◌≡◌, ℕ, zero, suc, ◌+◌, ◌-◌, ◌<◌, ◌≤◌, length, Bool, true, false, List, map, Some, None, refl, ap, ◌∙◌, arith, length-append}
use Rattle.std.specs.Prelude.{nat_le, if◌then◌else◌}
use Rattle.std.specs.Global.{Vec}
use Rattle.std.proofs.lemmas.Bool.{leb-true, ltb-true}
use Rattle.std.proofs.lemmas.List.{length-map}
use Rattle.messages.specs.Message.{Asked}
use Rattle.answer_findings.specs.Table.{Checked, Tried}
use Rattle.evidence_laws.specs.Given.{Given, Message}
use Rattle.resolution_walk.specs.declared.ending.Ending.{Ending}
use Rattle.resolution_walk.specs.declared.ending.Ending.TheVariants as ends
use Rattle.resolution_walk.specs.declared.ending.Walk.{Walk}
use Rattle.resolution_walk.specs.declared.ending.Wanted.{Wanted}
use Rattle.resolution_walk.specs.declared.walk.Limits.{Limits}
use Rattle.walk_laws.specs.Laws.{Ends, LoopsAreShort, LoopsEnd}
use Rattle.walk_laws.specs.Loop.{AreWalks, Caller, Reaches, AtOnce, ByCall, Loops, Begins, Wants, Asks, Walks, entry_for, message_for, next, with_entries, with_messages}
use Rattle.walk_laws.proofs.Ends.{IsWithin, within, wants_more}
use Rattle.walk_laws.proofs.New.{asks_new, nothing_is_wanted_twice}

-- ---- one call

module _ (e : Given) (asked : Asked) (limits : Limits) (k : Walks asked limits e) where
  pub room_left : (ws : Vec Wanted) → k.walk.ending ≡ ends.Wants ws → length e.messages < limits.messages
  room_left ws is =
      let inner : IsWithin e limits.messages k.walk.ending k.stops.ending = within e limits.messages k.stops.ending k.walk.ending k.stops.is (ap wants_more is) in
      ltb-true (length e.messages) limits.messages (inner.room ws is)

  pub some_wanted : (ws : Vec Wanted) → k.walk.ending ≡ ends.Wants ws → 0 < length ws.items
  some_wanted ws is = (nothing_is_wanted_twice.messages e asked limits k.walk ws k.stops is).some

  pub few_messages : (ws : Vec Wanted) → k.walk.ending ≡ ends.Wants ws → length ws.items ≤ 2
  few_messages ws is = (nothing_is_wanted_twice.messages e asked limits k.walk ws k.stops is).few

  pub some_asked : (asks : Vec Tried) → k.walk.ending ≡ ends.Asks asks → 0 < length asks.items
  some_asked asks is = (asks_new e asked limits k.walk asks k.stops is).some

-- ---- loops are short

module _ (Kind : Given → Type 0) (asked : Asked) (limits : Limits) (most : ℕ) (from : Given) where
  messages_grow : (m n : ℕ) (e : Given) → Loops Kind asked limits most from m n e → length from.messages + m ≤ length e.messages
  messages_grow m n e Begins = omega arith
  messages_grow m n e (Wants {m = less} {e = f} {ms = ms} ws before kind k is some) =
      omega (arith, messages_grow less n f before, length-append f.messages ms, some.there.1)
  messages_grow m n e (Asks {n = less} {e = f} asks before kind k is few some) = messages_grow m less f before

  table_grows : (m n : ℕ) (e : Given) → Loops Kind asked limits most from m n e → length from.table + n ≤ length e.table
  table_grows m n e Begins = omega arith
  table_grows m n e (Wants {m = less} {e = f} ws before kind k is some) = table_grows less n f before
  table_grows m n e (Asks {n = less} {e = f} {cs = cs} asks before kind k is few some) =
      omega (arith, table_grows m less f before, length-append f.table cs, some.there.1)

  few_want : (m n : ℕ) (e : Given) → Loops Kind asked limits most from m n e → m ≤ limits.messages - length from.messages
  few_want m n e Begins = omega arith
  few_want m n e (Wants {m = less} {e = f} ws before kind k is some) = omega (arith, messages_grow less n f before, room_left f asked limits k ws is)
  few_want m n e (Asks {n = less} {e = f} asks before kind k is few some) = few_want m less f before

  pub few_ask : (m n : ℕ) (e : Given) → Loops Kind asked limits most from m n e → n ≤ most - length from.table
  few_ask m n e Begins = omega arith
  few_ask m n e (Wants {m = less} {e = f} ws before kind k is some) = few_ask less n f before
  few_ask m n e (Asks {n = less} {e = f} asks before kind k is few some) = omega (arith, table_grows m less f before, few, some_asked f asked limits k asks is)

pub loops_are_short : LoopsAreShort
loops_are_short asked limits most m n from e loop = (few_want (λ f. Unit {0}) asked limits most from m n e loop, few_ask (λ f. Unit {0}) asked limits most from m n e loop)

-- ---- and end

module _ (c : Caller) (asked : Asked) (limits : Limits) (most : ℕ) (walks : Given → Walk) where
  abbrev Soon : Given → Type 0
  Soon e = Ends c asked limits most walks e

  -- one call, and those behind it
  behind : (e f : Given) → next c asked most e (walks e).ending ≡ Some f → (calls : ℕ) (last : Given) → Reaches c asked most walks f calls last → Reaches c asked most walks e (suc calls) last
  behind e f is calls last AtOnce = ByCall AtOnce is
  behind e f is calls last (ByCall {calls = less} {e = before} reached more) = ByCall (behind e f is less before reached) more

  abbrev Are : Given → Type 0
  Are e = AreWalks c asked limits most walks e

  are_behind : (e f : Given) → next c asked most e (walks e).ending ≡ Some f → Are e → Are f
  are_behind e f is are calls last reached = are (suc calls) last (behind e f is calls last reached)

  -- what the limits leave room for
  abbrev left : Given → ℕ
  left e = (limits.messages - length e.messages) + (most - length e.table)

  module _ (e : Given) (are : Are e) (rest : (f : Given) → Are f → left f < left e → Soon f) where
    abbrev walk : Walks asked limits e
    walk = record { walk = walks e; stops = are 0 e AtOnce }

    now : next c asked most e (walks e).ending ≡ None → Soon e
    now none = record { calls = 0; last = e; reached = AtOnce; ends = none; few = omega arith }

    call : (f : Given) → next c asked most e (walks e).ending ≡ Some f → left f < left e → Soon e
    call f is less =
        let more : Soon f = rest f (are_behind e f is are) less in
        record { calls = suc more.calls; last = more.last; reached = behind e f is more.calls more.last more.reached; ends = more.ends; few = omega (arith, more.few, less) }

    by_end : (ending : Ending) → (walks e).ending ≡ ending → Soon e
    by_end (ends.Wants ws) is =
        let ms : List Message = map (message_for c asked) ws.items in
        call (with_messages e ms) (ap (next c asked most e) is)
        (omega (arith, length-append e.messages ms, length-map ws.items (message_for c asked), some_wanted e asked limits walk ws is, room_left e asked limits walk ws is))
    by_end (ends.Asks asks) is = by_room (nat_le (length e.table + length asks.items) most) refl
      where
        by_room : (b : Bool) → nat_le (length e.table + length asks.items) most ≡ b → Soon e
        by_room true fits =
            let cs : List Checked = map (entry_for c) asks.items in
            call (with_entries e cs) (ap (next c asked most e) is ∙ ap (λ (b : Bool). if b then Some (with_entries e cs) else None) fits)
            (omega (arith, length-append e.table cs, length-map asks.items (entry_for c), some_asked e asked limits walk asks is, leb-true (length e.table + length asks.items) most fits))
        by_room false over = now (ap (next c asked most e) is ∙ ap (λ (b : Bool). if b then Some (with_entries e (map (entry_for c) asks.items)) else None) over)
    by_end (ends.Secure of v) is = now (ap (next c asked most e) is)
    by_end (ends.Leads lead) is = now (ap (next c asked most e) is)
    by_end (ends.Unsigned cut datas) is = now (ap (next c asked most e) is)
    by_end (ends.LeftOpen of) is = now (ap (next c asked most e) is)
    by_end (ends.Untold of by name t r) is = now (ap (next c asked most e) is)
    by_end ends.TooManyCuts is = now (ap (next c asked most e) is)
    by_end ends.TooManyAliases is = now (ap (next c asked most e) is)
    by_end ends.TooManyMessages is = now (ap (next c asked most e) is)
    by_end ends.Outside is = now (ap (next c asked most e) is)

  loop : (fuel : ℕ) (e : Given) → Are e → left e ≤ fuel → Soon e
  loop zero e are enough = by_end e are (λ f on less. absurd (omega (arith, enough, less))) (walks e).ending refl
  loop (suc fuel) e are enough = by_end e are (λ f on less. loop fuel f on (omega (arith, enough, less))) (walks e).ending refl

pub loops_end : LoopsEnd
loops_end c asked limits most walks from are = loop c asked limits most walks (left c asked limits most walks from) from are (omega arith)
