-- What is given is told.
use Rattle.std.proofs.Common.{ℕ, Bool, List, [], ◌∷◌}
use Rattle.definitions.specs.Name.{Name}
use Rattle.definitions.specs.Dnskey.{Dnskey}
use Rattle.messages.specs.Message.{Asked, Spelled}
use Rattle.answer_terms.specs.Served.{ServedRrset}
use Rattle.answer_terms.specs.Given.{AreGroups, Gives}
use Rattle.answer_terms.specs.Told.{Tells, TellsGroups}

groups_told : (v : Dnskey → List ℕ → List ℕ → Bool) (k : ℕ) (m : List ℕ) (rs : List Spelled) (apex : Name) (at life : ℕ) (keys : List Dnskey) (gs : List ServedRrset) → AreGroups v k m rs apex at life keys gs → TellsGroups v k m rs apex at life keys gs
groups_told v k m rs apex at life keys [] h = h
groups_told v k m rs apex at life keys (g ∷ gs) (own, signatures, rest, are, records, signs, more, kept, ttls) =
    (own, signatures, rest, are, records, signs, groups_told v k m rest apex at life keys gs more)

pub told : (v : Dnskey → List ℕ → List ℕ → Bool) (k : ℕ) (apex : Name) (at life : ℕ) (keys : List Dnskey) (asked : Asked) (groups : List ServedRrset) (bytes : List ℕ) → Gives v k apex at life keys asked groups bytes → Tells v k apex at life keys asked groups bytes
told v k apex at life keys asked groups bytes g = record {
  read = g.read;
  reads = g.reads;
  name_is = g.name_is;
  rtype_is = g.rtype_is;
  class_is = g.class_is;
  groups_are = groups_told v k bytes g.read.records apex at life keys groups g.groups_are;
}
