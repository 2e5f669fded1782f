-- What is replied to evidence in octets.
use Rattle.std.specs.Prelude.{◌≡◌, ◌⊎◌, ℕ, Bool, true, false, List, [], length}
use Rattle.std.specs.List.{list_any}
use Rattle.messages.specs.Message.{Asked}
use Rattle.answer_judge_octets.specs.Crowded.{is_crowded}
use Rattle.answer_judge_octets.specs.Replying.{IsHandedOut, Replied, number_of, only, report_of, report_size}
use Rattle.answer_judge_octets.specs.declared.octets.Report.{Report}
use Rattle.answer_judge_octets.specs.declared.reply.ReplyCode.{ReplyCode}
use Rattle.answer_judge_octets.specs.declared.reply.ReplyCode.TheVariants as c
use Rattle.evidence_laws.specs.Given.{Given, Message}
use Rattle.resolution_walk.specs.Ended.{IsWalked, LastsIfSaid}
use Rattle.resolution_walk.specs.Stopping.{StopsWithin}
use Rattle.resolution_walk.specs.Truth.{WalksTruly}
use Rattle.resolution_walk.specs.declared.ending.Walk.{Walk}
use Rattle.resolution_walk.specs.declared.walk.Limits.{Limits}
use Rattle.resolution_octets.specs.Limiting.{limits_of, reply_limits_of}
use Rattle.resolution_octets.specs.Saying.{IsSaid}
use Rattle.resolution_octets.specs.Spelling.{Spells, Unread}
use Rattle.resolution_octets.specs.declared.octets.OctetEvidence.{OctetEvidence}

-- A walk over evidence: where it leads from the anchor down and how long that lasts; where it stops within limits, which messages it
-- wants there, and how often was verified and hashed on the way; and that of evidence of a tree it says what the tree says.
pub record IsWalk (e : Given) (asked : Asked) (limits : Limits) (w : Walk) : Type 0 where
  pub walked : IsWalked e asked w
  pub stops : StopsWithin e asked limits w
  pub lasts : LastsIfSaid w
  pub honest : WalksTruly e asked w

-- a walk within the limits of the evidence, and what it is replied as
pub record SaysWalked (case : OctetEvidence) (e : Given) (asked : Asked) (said : Replied) : Type 0 where
  pub walk : Walk
  pub is_walk : IsWalk e asked (limits_of case) walk
  pub is_said : IsSaid case.moment (reply_limits_of case (length e.table)) e asked walk said

-- a message would cost too much work to be judged
abbrev pub are_crowded : List Message → Bool
are_crowded messages = list_any (λ m. is_crowded m.octets) messages

-- What is said of evidence: that one of its messages would cost too much work, or what a walk over it comes to.
pub data Says (case : OctetEvidence) (e : Given) (asked : Asked) (said : Replied) : Type 0 where
  Crowded : are_crowded e.messages ≡ true → said ≡ only c.MessageTooLong → Says case e asked said
  Walked : are_crowded e.messages ≡ false → SaysWalked case e asked said → Says case e asked said

-- what the octets spell, and what is said of it
pub record IsReply (case : OctetEvidence) (said : Replied) : Type 0 where
  pub evidence : Given
  pub asked : Asked
  pub spelled : Spells case evidence asked
  pub says : Says case evidence asked said

-- A reply: that memory ran out, or that octets spell nothing, or what a walk over what they spell says.
abbrev pub Replies : OctetEvidence → Replied → Type 0
Replies case said = ((said ≡ only said.code) × ((said.code ≡ c.OutOfMemory) ⊎ Unread case said.code)) ⊎ IsReply case said

-- a reply, and what its report says
pub record IsReported (case : OctetEvidence) (old new : List ℕ) (report : Report) (code : ReplyCode) : Type 0 where
  pub said : Replied
  pub replies : Replies case said
  pub handed_out : IsHandedOut said old new code
  pub report_is : report ≡ report_of said

-- what a caller gets in octets: of a report of another size nothing but that
pub record Answers (case : OctetEvidence) (old new : List ℕ) (before after : Report) (code : ReplyCode) : Type 0 where
  pub known : before.size ≡ report_size → IsReported case old new after code
  pub unknown : (before.size ≡ report_size → ⊥) → (code ≡ c.BadCase) × (new ≡ old) × (after ≡ before)

-- the same, the code as its number
pub record AnswersWalk (case : OctetEvidence) (old new : List ℕ) (before after : Report) (number : ℕ) : Type 0 where
  pub code : ReplyCode
  pub number_is : number ≡ number_of code
  pub answers : Answers case old new before after code
