-- What is appended in parts lacks room where one of the parts does.
use Rattle.std.proofs.Common.{◌≡◌, ℕ, List, ◌++◌, ◌+◌, ◌≤◌, length, Result, Ok, Err, sym, subst, arith, length-append}
use Rattle.std.specs.Result.{OnOk, OnErr}
use Rattle.names_wire.specs.Room.{LeavesRoom}

module _ {B : Type 0} (lacks_room : B → ℕ → Type 0) where
  -- room that is lacked for some octets is lacked for more
  abbrev pub Grows : Type 0
  Grows = (b : B) (m n : ℕ) → m ≤ n → lacks_room b m → lacks_room b n

  pub lacks_first : Grows → (old : B) (xs ys : List ℕ) → lacks_room old (length xs) → lacks_room old (length (xs ++ ys))
  lacks_first grows old xs ys h = grows old (length xs) (length (xs ++ ys)) (omega (arith, length-append xs ys)) h

  pub lacks_second : (old mid : B) (xs ys : List ℕ) → LeavesRoom lacks_room old mid (length xs) → lacks_room mid (length ys) → lacks_room old (length (xs ++ ys))
  lacks_second old mid xs ys l h = subst (lacks_room old) (sym (length-append xs ys)) (l (length ys) h)

  pub left_by_two : (old mid new : B) (xs ys : List ℕ) → LeavesRoom lacks_room old mid (length xs) → LeavesRoom lacks_room mid new (length ys) → LeavesRoom lacks_room old new (length (xs ++ ys))
  left_by_two old mid new xs ys l k m h =
      let e : length xs + (length ys + m) ≡ length (xs ++ ys) + m = omega (arith, length-append xs ys) in
      subst (lacks_room old) e (l (length ys + m) (k m h))

  -- the same of a call that appends the second part
  pub full_second : {E : Type 0} (r : Result (Unit {0}) E) (old mid : B) (xs ys : List ℕ) → LeavesRoom lacks_room old mid (length xs) → OnErr r (lacks_room mid (length ys)) → OnErr r (lacks_room old (length (xs ++ ys)))
  full_second (Ok _) old mid xs ys l h = tt
  full_second (Err _) old mid xs ys l h = lacks_second old mid xs ys l h

  pub left_second : {E : Type 0} (r : Result (Unit {0}) E) (old mid new : B) (xs ys : List ℕ) → LeavesRoom lacks_room old mid (length xs) → OnOk r (LeavesRoom lacks_room mid new (length ys)) → OnOk r (LeavesRoom lacks_room old new (length (xs ++ ys)))
  left_second (Ok _) old mid new xs ys l k = left_by_two old mid new xs ys l k
  left_second (Err _) old mid new xs ys l k = tt
