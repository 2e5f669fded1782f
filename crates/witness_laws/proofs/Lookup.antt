-- Which message of the evidence answers a question.
use Rattle.std.proofs.Common.{◌≡◌, ℕ, Bool, true, false, cond, ◌&&◌, List, [], ◌∷◌, Option, Some, None, find, option_map, refl, sym, ap, ◌∙◌, inl, inr}
use Rattle.std.specs.Prelude.{◌==◌}
use Rattle.std.proofs.lemmas.Bool.{and_parts, eqb-true}
use Rattle.definitions.specs.Name.{Name, low, same}
use Rattle.definitions.proofs.Members.{In}
use Rattle.messages.proofs.Lists.{some_is}
use Rattle.messages.proofs.ZoneNames.{same_labels}
use Rattle.evidence_laws.specs.Given.{Message, is_answer, message_of}
use Rattle.witness_laws.specs.Evidence.{evidence}

found_in : {X : Type 0} (p : X → Bool) (xs : List X) (x : X) → find p xs ≡ Some x → In x xs × (p x ≡ true)
found_in p [] x e = absurd cc
found_in p (y ∷ xs) x e = go (p y) refl e (found_in p xs x)
  where
    go : (b : Bool) → p y ≡ b → cond b (Some y) (find p xs) ≡ Some x → (find p xs ≡ Some x → In x xs × (p x ≡ true)) → In x (y ∷ xs) × (p x ≡ true)
    go true h k rest = let alike : y ≡ x = some_is y x k in (inl (sym alike), ap p (sym alike) ∙ h)
    go false h k rest = let later = rest k in (inr later.0, later.1)

mapped : {X Y : Type 0} (f : X → Y) (o : Option X) (y : Y) → option_map f o ≡ Some y → (x : X) × (o ≡ Some x) × (f x ≡ y)
mapped f None y e = absurd cc
mapped f (Some x) y e = (x, refl, some_is (f x) y e)

-- a message that is there, of a zone and for a name up to case and a type
pub record Answers (zone name : Name) (t : ℕ) (octets : List ℕ) : Type 0 where
  pub message : Message
  pub there : In message evidence.messages
  pub octets_are : message.octets ≡ octets
  pub zone_is : low message.zone ≡ low zone
  pub name_is : low message.asked.name ≡ low name
  pub rtype_is : message.asked.rtype ≡ t

abbrev octets_of : Message → List ℕ
octets_of m = m.octets

pub answered : (zone name : Name) (t : ℕ) (octets : List ℕ) → message_of evidence zone name t ≡ Some octets → Answers zone name t octets
answered zone name t octets e =
    let p : Message → Bool = is_answer zone name t in
    let m = mapped octets_of (find p evidence.messages) octets e in
    let found = found_in p evidence.messages m.0 m.1 in
    let parts = and_parts (same m.0.zone zone && same m.0.asked.name name) (m.0.asked.rtype == t) found.1 in
    let names = and_parts (same m.0.zone zone) (same m.0.asked.name name) parts.0 in
    record {
      message = m.0;
      there = found.0;
      octets_are = m.2;
      zone_is = same_labels (low m.0.zone) (low zone) names.0;
      name_is = same_labels (low m.0.asked.name) (low name) names.1;
      rtype_is = eqb-true m.0.asked.rtype t parts.1;
    }
