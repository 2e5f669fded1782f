-- Messages that hold each RRset of a zone's answer, in whichever order and beside whatever else.
use Rattle.std.specs.Prelude.{◌≡◌, ℕ, ◌<◌, Bool, true, false, ◌&&◌, ◌==◌, List, [], ◌∷◌, Some, None}
use Rattle.std.specs.List.{AllByRecursion, list_any}
use Rattle.std.specs.Option.{option_map}
use Rattle.definitions.specs.Dnskey.{Dnskey}
use Rattle.definitions.specs.Name.{IsName, at_or_above, same}
use Rattle.definitions.specs.Signing.{Fields, label_count}
use Rattle.definitions.specs.ZoneChain.{Mode}
use Rattle.fact_laws.specs.Due.{due_facts}
use Rattle.fact_laws.specs.Laws.{Includes}
use Rattle.messages.specs.Handed.{IsHanded}
use Rattle.messages.specs.HandedRr.{HandedRr, among}
use Rattle.messages.specs.Message.{Asked, Message, Spelled}
use Rattle.answer_scheme.specs.Answers.{Answers}
use Rattle.answer_terms.specs.Accepting.{zone_of}
use Rattle.answer_terms.specs.Hashing.{hash_in}
use Rattle.answer_terms.specs.Served.{ServedRrset, answer_groups}
use Rattle.answer_zone_records.specs.AliasFaults.{IsAcceptedWithAliases}
use Rattle.answer_judge_facts.specs.Verified.{Trusting, rrset_in, verified_by, verified_rrset}
use Rattle.answer_judge.specs.Judged.{trusting}
use Rattle.answer_judge.specs.Judging.{JudgeInput}
use Rattle.answer_judge.specs.Meeting.{served_from}
use Rattle.message_laws.specs.Shown.{shown_facts}

-- An RRset is in a message: the records of its owner and type there that read, of class IN, are its own; and the first signature there
-- that verifies them, at the moment, has the label count of their source (RFC 4035, 5.3).
pub record HoldsRrset (w : Trusting) (k : ℕ) (m : List ℕ) (rs : List Spelled) (g : ServedRrset) : Type 0 where
  pub datas_are : rrset_in k m rs g.owner g.rtype ≡ g.datas
  pub labels_are : option_map (λ (f : Fields). f.labels) (verified_by w k m rs g.owner g.rtype g.datas) ≡ Some (label_count g.source)

-- a signed RRset of the question's name and type
abbrev pub is_asked_for : Asked → ServedRrset → Bool
is_asked_for asked g = (g.rtype == asked.rtype) && same g.owner asked.name && g.signed

-- Each RRset of an answer that is signed is in the message; where none of them is of the question's name and type, none such is verified
-- there.
pub record HoldsAnswer (w : Trusting) (k : ℕ) (m : List ℕ) (rs : List Spelled) (groups : List ServedRrset) (asked : Asked) : Type 0 where
  pub each : AllByRecursion (λ g. g.signed ≡ true → HoldsRrset w k m rs g) groups
  pub other : list_any (is_asked_for asked) groups ≡ false → verified_rrset w k m rs asked.name asked.rtype ≡ None

-- A message that holds an accepted zone's answer shows what is due of that, for any question at or below the apex that asks for no type
-- of signatures or of chains.
abbrev pub HeldIsIncluded : Type 0
HeldIsIncluded =
    (a : Answers) (k : ℕ) (h : JudgeInput) (usable : List Dnskey) (read : Message) (mode : Mode) (rs : List HandedRr) (asked : Asked)
    → IsName h.apex → AllByRecursion IsHanded rs → h.limit < 65536 → IsAcceptedWithAliases a.hash h.apex mode h.limit rs → at_or_above h.apex asked.name ≡ true → among (46 ∷ 47 ∷ 50 ∷ []) asked.rtype ≡ false
    → HoldsAnswer (trusting a h usable) k h.answer_bytes read.records (answer_groups (served_from a h mode rs) asked.name asked.rtype) asked
    → Includes (shown_facts a k h usable read asked) (due_facts (zone_of h.apex rs) (hash_in a.hash mode) mode asked.name asked.rtype)
