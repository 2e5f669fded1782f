-- What a walk wants is not there.
use Rattle.std.specs.Prelude.{◌≡◌, ◌<◌, ◌≤◌, length, Bool, false, List, Contains}
use Rattle.std.specs.Global.{Vec}
use Rattle.messages.specs.Message.{Asked}
use Rattle.answer_findings.specs.Table.{Checked, Tried, is_same_try}
use Rattle.evidence_laws.specs.Given.{Given, Message, is_answer}
use Rattle.resolution_walk.specs.Stopping.{StopsWithin}
use Rattle.resolution_walk.specs.declared.ending.Ending.TheVariants as ends
use Rattle.resolution_walk.specs.declared.ending.Walk.{Walk}
use Rattle.resolution_walk.specs.declared.ending.Wanted.{Wanted}
use Rattle.resolution_walk.specs.declared.walk.Limits.{Limits}

-- a message answers what is wanted, in whatever octets
abbrev pub answers : Wanted → Message → Bool
answers x m = is_answer x.zone x.name x.rtype m

-- One message is wanted or two, and no message that is there answers any.
pub record AreUnanswered (e : Given) (ws : List Wanted) : Type 0 where
  pub some : 0 < length ws
  pub few : length ws ≤ 2
  pub new : (x : Wanted) (m : Message) → Contains ws x → Contains e.messages m → answers x m ≡ false

-- Signatures are asked for, one at least, and no entry that is there is of any.
pub record AreUnchecked (e : Given) (asks : List Tried) : Type 0 where
  pub some : 0 < length asks
  pub new : (t : Tried) (c : Checked) → Contains asks t → Contains e.table c → is_same_try t c.tried ≡ false

-- Where a walk wants messages or asks for signatures, none of them is there.
pub record NothingIsWantedTwice : Type 0 where
  pub messages : (e : Given) (asked : Asked) (limits : Limits) (w : Walk) (ws : Vec Wanted) → StopsWithin e asked limits w → w.ending ≡ ends.Wants ws → AreUnanswered e ws.items
  pub signatures : (e : Given) (asked : Asked) (limits : Limits) (w : Walk) (asks : Vec Tried) → StopsWithin e asked limits w → w.ending ≡ ends.Asks asks → AreUnchecked e asks.items
