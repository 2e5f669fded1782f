-- How many signatures of a message are verified (RFC 4035, 5.3): those that are due and have a key, each on an RRset that no
-- earlier one verified.
use Rattle.std.specs.Prelude.{ℕ, ◌+◌, Bool, true, false, not, ◌&&◌, ◌==◌, List, [], ◌∷◌, ◌++◌, length, Some, None, is_some, if◌then◌else◌}
use Rattle.std.specs.List.{find}
use Rattle.definitions.specs.Name.{Name}
use Rattle.definitions.specs.Signing.{Fields}
use Rattle.messages.specs.Message.{Spelled, rrsig_at}
use Rattle.answer_judge_keys.specs.Trusted.{fits_key, is_due, is_signature}
use Rattle.answer_judge_facts.specs.Sought.{Sought}
use Rattle.answer_judge_facts.specs.Verified.{Trusting, is_verified}

abbrev pub one_if : Bool → ℕ
one_if b = if b then 1 else 0

-- data that aren't empty, a signature that is due, and a key of its tag and algorithm
abbrev pub can_try : Trusting → Name → List (List ℕ) → Fields → Bool
can_try w owner items f = elim (not (length items == 0) && is_due w.apex w.now owner f) [
  | false ↦ false
  | true ↦ is_some (find (fits_key f) w.keys)
]

-- a signature of an RRset that is sought, behind some records of which none verifies that
abbrev pub tries_fields : Trusting → ℕ → List ℕ → Sought → List Spelled → Name → Fields → Bool
tries_fields w k m s earlier owner f =
    let items = s.datas owner f.covered in
    s.is owner f.covered && (not (is_verified w k m earlier owner f.covered items) && can_try w owner items f)

abbrev pub is_tried : Trusting → ℕ → List ℕ → Sought → List Spelled → Spelled → Bool
is_tried w k m s earlier r = elim (is_signature r && (r.class == 1)) [
  | false ↦ false
  | true ↦ elim (rrsig_at k m r) [ None ↦ false | Some f ↦ tries_fields w k m s earlier r.owner f.0 ]
]

-- of some records behind others
abbrev pub tries : Trusting → ℕ → List ℕ → Sought → List Spelled → List Spelled → ℕ
tries w k m s earlier [] = 0
tries w k m s earlier (r ∷ rs) = one_if (is_tried w k m s earlier r) + tries w k m s (earlier ++ r ∷ []) rs
