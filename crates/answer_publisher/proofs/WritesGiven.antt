-- What a publisher writes gives the RRsets of its zone and keys.
use Rattle.std.proofs.Common.{◌≡◌, ℕ, Bool, false, List, [], ◌∷◌, ◌++◌, Option, subst, lit<}
use Rattle.std.specs.List.{AllByRecursion, AllZip}
use Rattle.definitions.specs.Name.{IsName, Name}
use Rattle.definitions.specs.Dnskey.{Dnskey}
use Rattle.definitions.specs.Limits.{pointer_limit}
use Rattle.answer_publisher.specs.Answering.{AnswersApex, AnswersKeys, apex_question}
use Rattle.answer_publisher.specs.Composed.{IsAnswer}
use Rattle.answer_terms.specs.Given.{Gives, GivesAnswer, GivesKeys}
use Rattle.messages.specs.Handed.{AreHanded}
use Rattle.messages.specs.Message.{Asked}
use Rattle.answer_terms.specs.GroupView.{GroupView, Presents}
use Rattle.answer_terms.specs.Hashing.{Hasher, hash_in, served}
use Rattle.answer_terms.specs.Served.{ServedRrset, answer_groups, by_tag, key_group, keys_ttl}
use Rattle.messages.specs.WrittenLaws.{IsQuestion}
use Rattle.answer_terms.specs.ZoneView.{AcceptedZone}
use Rattle.answer_zone.specs.ZoneInOrder.{AreZoneRecords}
use Rattle.answer_publisher.proofs.WritesAnswer.{answer_gives}
use Rattle.answer_publisher.proofs.WritesGroups.{IsFormed}
use Rattle.answer_publisher.proofs.WritesData.{of_chain}
use Rattle.answer_publisher.proofs.WritesZone.{Named, answer_formed, keys_formed}

-- a name owns it
abbrev pub NamedView : GroupView → Type 0
NamedView g = IsName g.owner

named : (vs : List GroupView) (gs : List ServedRrset) → AllZip Presents vs gs → AllByRecursion NamedView vs → AllByRecursion Named gs
named [] [] h n = tt
named [] (g ∷ gs) h n = absurd h
named (v ∷ vs) [] h n = absurd h
named (v ∷ vs) (g ∷ gs) h n = (subst IsName h.0.owner_is n.0, named vs gs h.1 n.1)

named_both : (vs ws : List GroupView) → AllByRecursion NamedView vs → AllByRecursion NamedView ws → AllByRecursion NamedView (vs ++ ws)
named_both [] ws n m = m
named_both (v ∷ vs) ws n m = (n.0, named_both vs ws n.1 m)

-- the zone's answer to a question
pub answer_given : (sign : Dnskey → List ℕ → Option (List ℕ)) (verifies : Dnskey → List ℕ → List ℕ → Bool) (hash : Hasher) (z : AcceptedZone) (at life flags : ℕ) (signers : List Dnskey) (asked : Asked) (answer authority : List GroupView) (m : List ℕ)
    → AreZoneRecords z.apex z.records → AreHanded z.apex z.records → IsQuestion asked → of_chain asked.rtype ≡ false
    → AllByRecursion NamedView answer → AllByRecursion NamedView authority → AllZip Presents (answer ++ authority) (answer_groups (served hash z) asked.name asked.rtype)
    → IsAnswer sign verifies z.apex at life (by_tag signers) flags asked answer authority m → GivesAnswer verifies pointer_limit (served hash z) z.apex signers at life asked m
answer_given sign verifies hash z at life flags signers asked answer authority m published handed is plain owners others presents written =
    let groups : List ServedRrset = answer_groups (served hash z) asked.name asked.rtype in
    let names : AllByRecursion Named groups = named (answer ++ authority) groups presents (named_both answer authority owners others) in
    let formed : AllByRecursion IsFormed groups = answer_formed z.apex z.mode (hash_in hash z.mode) z.records published handed asked.name asked.rtype is.name is.rtype plain names in
    answer_gives sign verifies z.apex at life (by_tag signers) flags asked answer authority groups m handed.apex_is is formed presents written

-- an RRset of the apex
pub apex_given : (sign : Dnskey → List ℕ → Option (List ℕ)) (verifies : Dnskey → List ℕ → List ℕ → Bool) (apex : Name) (at life : ℕ) (signers : List Dnskey) (of : ServedRrset) (m : List ℕ)
    → IsName apex → IsFormed of → AnswersApex sign verifies apex at life (by_tag signers) of m → Gives verifies pointer_limit apex at life (by_tag signers) (apex_question apex of.rtype) (of ∷ []) m
apex_given sign verifies apex at life signers of m name formed w =
    answer_gives sign verifies apex at life (by_tag signers) 33792 (apex_question apex of.rtype) (w.group ∷ []) [] (of ∷ []) m
    name (record { name = name; rtype = formed.rtype; class = lit< tt }) (formed, tt) (w.presents, tt) w.written

-- the DNSKEY answer
pub keys_given : (sign : Dnskey → List ℕ → Option (List ℕ)) (verifies : Dnskey → List ℕ → List ℕ → Bool) (hash : List ℕ → ℕ → ℕ → List ℕ → Option (List ℕ)) (z : AcceptedZone) (at life : ℕ) (present signers : List Dnskey) (m : List ℕ)
    → AreHanded z.apex z.records → AnswersKeys sign verifies (served hash z) z.apex at life present (by_tag signers) m → GivesKeys verifies pointer_limit (keys_ttl (served hash z)) z.apex present signers at life m
keys_given sign verifies hash z at life present signers m handed w =
    apex_given sign verifies z.apex at life signers (key_group z.apex (keys_ttl (served hash z)) present) m handed.apex_is (keys_formed z.apex z.records handed present) w
