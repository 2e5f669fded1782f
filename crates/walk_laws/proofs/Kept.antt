-- Messages that are there are found.
use Rattle.std.proofs.Common.{◌≡◌, ℕ, Bool, true, false, ◌&&◌, List, [], ◌∷◌, ◌++◌, Some, refl}
use Rattle.std.specs.Prelude.{◌==◌, is_none, if◌then◌else◌}
use Rattle.std.specs.List.{find}
use Rattle.std.specs.Option.{option_map}
use Rattle.std.proofs.lemmas.Bool.{and_from, eq-eqb, false≢true}
use Rattle.definitions.specs.Name.{same}
use Rattle.denial_laws.proofs.NameFacts.{names_same}
use Rattle.evidence_laws.specs.Given.{Message, is_answer}
use Rattle.walk_laws.specs.Found.{MessagesAreFound}
use Rattle.walk_laws.proofs.Found.{found_in, in_list}

module _ {X Y : Type 0} (f : X → Y) (p : X → Bool) where
  -- what is found in front
  stays : (xs ys : List X) (y : Y) → option_map f (find p xs) ≡ Some y → option_map f (find p (xs ++ ys)) ≡ Some y
  stays [] ys y is = absurd cc
  stays (x ∷ xs) ys y is = go (p x) is (stays xs ys y)
    where
      go : (b : Bool) → option_map f (if b then Some x else find p xs) ≡ Some y → (option_map f (find p xs) ≡ Some y → option_map f (find p (xs ++ ys)) ≡ Some y)
          → option_map f (if b then Some x else find p (xs ++ ys)) ≡ Some y
      go true is rest = is
      go false is rest = rest is

  -- where nothing is
  added : (xs ys : List X) → is_none (option_map f (find p xs)) ≡ true → option_map f (find p (xs ++ ys)) ≡ option_map f (find p ys)
  added [] ys none = refl
  added (x ∷ xs) ys none = go (p x) none (added xs ys)
    where
      go : (b : Bool) → is_none (option_map f (if b then Some x else find p xs)) ≡ true → (is_none (option_map f (find p xs)) ≡ true → option_map f (find p (xs ++ ys)) ≡ option_map f (find p ys))
          → option_map f (if b then Some x else find p (xs ++ ys)) ≡ option_map f (find p ys)
      go true none rest = absurd (false≢true none)
      go false none rest = rest none

abbrev octets_of : Message → List ℕ
octets_of m = m.octets

its_own : (m : Message) → is_answer m.zone m.asked.name m.asked.rtype m ≡ true
its_own m =
    and_from (same m.zone m.zone && same m.asked.name m.asked.name) (m.asked.rtype == m.asked.rtype)
    (and_from (same m.zone m.zone) (same m.asked.name m.asked.name) (names_same m.zone m.zone refl) (names_same m.asked.name m.asked.name refl)) (eq-eqb m.asked.rtype m.asked.rtype refl)

pub messages_are_found : MessagesAreFound
messages_are_found = record {
  there = λ e m there. found_in octets_of (is_answer m.zone m.asked.name m.asked.rtype) e.messages m (in_list e.messages m there) (its_own m);
  stays = λ e ms zone name t octets is. stays octets_of (is_answer zone name t) e.messages ms octets is;
  added = λ e ms zone name t none. added octets_of (is_answer zone name t) e.messages ms none;
}
