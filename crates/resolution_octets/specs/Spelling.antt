-- What the octets of evidence spell.
use Rattle.std.specs.Prelude.{◌≡◌, ℕ, ◌*◌, ◌==◌, ◌||◌, ◌⊎◌, Bool, true, false, List, [], ◌∷◌, length, Option, Some, None, Contains, if◌then◌else◌}
use Rattle.definitions.specs.Dnskey.{Ds}
use Rattle.definitions.specs.Name.{Name, low}
use Rattle.messages.specs.Message.{Asked}
use Rattle.messages.specs.NameOctets.{name_of_octets}
use Rattle.messages_canonical.specs.InForm.{GrowsTooLong, IsInForm}
use Rattle.answer_findings.specs.Table.{Checked}
use Rattle.answer_judge_octets.specs.Replying.{flag_of, judged_ds}
use Rattle.answer_judge_octets.specs.Written.{FitsChecked, FitsDs, IsList, checked_octets, ds_octets}
use Rattle.answer_judge_octets.specs.declared.reply.ReplyCode.{ReplyCode}
use Rattle.answer_judge_octets.specs.declared.reply.ReplyCode.TheVariants as c
use Rattle.evidence_laws.specs.Given.{Given, Message}
use Rattle.resolution_octets.specs.Sent.{FitsSent, Sent, sent_octets}
use Rattle.resolution_octets.specs.declared.octets.OctetEvidence.{OctetEvidence}

-- the sizes of evidence that are known: with a limit of work, and without
abbrev pub is_known_size : ℕ → Bool
is_known_size size = (size == 136) || (size == 128)

-- what its flag says, if anything
abbrev pub flag_in : OctetEvidence → Option Bool
flag_in case = if is_known_size case.size then flag_of case.one_moment else None

-- ---- messages

-- A message that octets spell: with both names, of class IN, and in the form in which signatures are verified.
pub record IsRead (s : Sent) (m : Message) : Type 0 where
  pub zone : name_of_octets s.zone ≡ Some m.zone
  pub name : name_of_octets s.name ≡ Some m.asked.name
  pub rtype : m.asked.rtype ≡ s.rtype
  pub class : m.asked.class ≡ 1
  pub octets : IsInForm s.octets m.octets

abbrev pub AreRead : List Sent → List Message → Type 0
AreRead [] [] = Unit {0}
AreRead (s ∷ ss) (m ∷ ms) = IsRead s m × AreRead ss ms
AreRead _ _ = ⊥

-- why one is refused
abbrev pub IsUnread : Sent → ReplyCode → Type 0
IsUnread s c.BadMessages = (name_of_octets s.zone ≡ None) ⊎ (name_of_octets s.name ≡ None)
IsUnread s c.MessageTooLong = GrowsTooLong s.octets
IsUnread s _ = ⊥

pub record SomeUnread (ss : List Sent) (code : ReplyCode) : Type 0 where
  pub sent : Sent
  pub there : Contains ss sent
  pub unread : IsUnread sent code

-- ---- evidence

-- DS records of the anchor that are judged by, one at least
pub record HasDs (case : OctetEvidence) (ds : List Ds) : Type 0 where
  pub ds_set : List Ds
  pub spelled : IsList FitsDs ds_octets case.ds.now ds_set
  pub judged : ds ≡ judged_ds case.algorithms.now ds_set
  pub some : (length ds == 0) ≡ false

-- the name of an anchor's zone that octets spell, in lower case
pub record IsAnchor (octets : List ℕ) (anchor : Name) : Type 0 where
  pub name : Name
  pub spelled : name_of_octets octets ≡ Some name
  pub lowered : anchor ≡ low name

-- What the octets spell: evidence, and a question of class IN.
pub record Spells (case : OctetEvidence) (e : Given) (asked : Asked) : Type 0 where
  pub anchor : IsAnchor case.anchor.now e.anchor
  pub ds : HasDs case e.ds
  pub name : name_of_octets case.name.now ≡ Some asked.name
  pub rtype : asked.rtype ≡ case.rtype
  pub class : asked.class ≡ 1
  pub sent : List Sent
  pub messages : IsList FitsSent sent_octets case.messages.now sent
  pub read : AreRead sent e.messages
  pub entries : IsList FitsChecked checked_octets case.checked.now e.table
  pub algorithms : e.algorithms ≡ case.algorithms.now
  pub at : e.at ≡ case.moment * 1000000000
  pub limit : e.limit ≡ case.limit
  pub one_moment : flag_in case ≡ Some e.one_moment

-- a DS set of which no record is judged by
pub record HasNoDs (case : OctetEvidence) : Type 0 where
  pub ds_set : List Ds
  pub ds : IsList FitsDs ds_octets case.ds.now ds_set
  pub none : (length (judged_ds case.algorithms.now ds_set) == 0) ≡ true

-- no list of DS records, or one without any that is judged by
abbrev pub LacksDs : OctetEvidence → Type 0
LacksDs case = ((ds : List Ds) → IsList FitsDs ds_octets case.ds.now ds → ⊥) ⊎ HasNoDs case

-- messages of which one is refused
pub record HasUnread (case : OctetEvidence) (code : ReplyCode) : Type 0 where
  pub sent : List Sent
  pub messages : IsList FitsSent sent_octets case.messages.now sent
  pub some : SomeUnread sent code

-- which octets of evidence spell nothing
abbrev pub Unread : OctetEvidence → ReplyCode → Type 0
Unread case c.BadCase = flag_in case ≡ None
Unread case c.BadApex = name_of_octets case.anchor.now ≡ None
Unread case c.BadDsSet = LacksDs case
Unread case c.BadName = name_of_octets case.name.now ≡ None
Unread case c.BadSignatures = (table : List Checked) → IsList FitsChecked checked_octets case.checked.now table → ⊥
Unread case c.BadMessages = ((sent : List Sent) → IsList FitsSent sent_octets case.messages.now sent → ⊥) ⊎ HasUnread case c.BadMessages
Unread case c.MessageTooLong = HasUnread case c.MessageTooLong
Unread case _ = ⊥
