-- A walk over a message that reads finds what reading finds.
use Rattle.std.proofs.Common.{◌≡◌, ℕ, zero, suc, ◌+◌, ◌<◌, ◌≤◌, true, false, List, [], Option, Some, None, Ok, refl, sym, ap, subst, ◌∙◌, arith}
use Rattle.std.specs.Prelude.{slice_get, ◌&&◌}
use Rattle.definitions.specs.Limits.{pointer_limit}
use Rattle.definitions.specs.Name.{Name}
use Rattle.definitions.specs.Reading.{Reads, root, label, pointer}
use Rattle.definitions.proofs.ReadingLaws.{reads_exactly}
use Rattle.messages.specs.Message.{Spelled, owner_at, record_at, records_at}
use Rattle.messages_canonical.specs.InForm.{are_in_form, is_in_form}
use Rattle.messages_canonical.specs.Walking.{EndsName}
use Rattle.messages.proofs.MessageParts.{next_record, one_read, owner_reads}

-- ---- names

-- behind a label the name goes on
pub goes_on : {m : List ℕ} {p k e : ℕ} {n : Name} (h : ℕ) → Reads m p k n e → slice_get m p ≡ Some h → (h ≡ 0 → ⊥) → h < 192 → (rest : Name) × Reads m (p + (h + 1)) k rest e
goes_on h (root s b) at some small = let is : h ≡ 0 = cc in absurd (some is)
goes_on {m} {p} {k} {e} h (label {n = n} {e = q} {ls = ls} s a c d f g r) at some small =
    let is : h ≡ n = cc in
    let place : q ≡ p + (h + 1) = omega (arith, d, is) in
    (ls, subst (λ x. Reads m x k ls e) place r)
goes_on h (pointer {high = high} s a c d f b r) at some small = let is : h ≡ high = cc in absurd (omega (arith, is, a, small))

-- a root octet ends it
pub ends_at_root : {m : List ℕ} {p k e : ℕ} {n : Name} → Reads m p k n e → slice_get m p ≡ Some 0 → e ≡ p + 1
ends_at_root (root s b) at = b
ends_at_root (label {n = n} s a c d f g r) at = let is : n ≡ 0 = cc in absurd (omega (arith, is, a))
ends_at_root (pointer {high = high} s a c d f b r) at = let is : high ≡ 0 = cc in absurd (omega (arith, is, a))

-- and so does a pointer
pub ends_at_pointer : {m : List ℕ} {p k e : ℕ} {n : Name} (h : ℕ) → Reads m p k n e → slice_get m p ≡ Some h → 192 ≤ h → e ≡ p + 2
ends_at_pointer h (root s b) at large = let is : h ≡ 0 = cc in absurd (omega (arith, is, large))
ends_at_pointer h (label {n = n} s a c d f g r) at large = let is : h ≡ n = cc in absurd (omega (arith, is, c, large))
ends_at_pointer h (pointer s a c d f b r) at large = b

-- where no octet stands, none is read
pub begins_inside : {m : List ℕ} {p k e : ℕ} {n : Name} → Reads m p k n e → slice_get m p ≡ None → ⊥
begins_inside (root s b) at = cc
begins_inside (label s a c d f g r) at = cc
begins_inside (pointer s a c d f b r) at = cc

-- from another place on it is as far as from the first
pub ends_behind : (m : List ℕ) (p q : ℕ) (found : Option ℕ) → ((n : Name) (e : ℕ) → Reads m p pointer_limit n e → (rest : Name) × Reads m q pointer_limit rest e) → EndsName m q found → EndsName m p found
ends_behind m p q found on here n e r = let next = on n e r in here next.0 e next.1

-- an owner's name ends where it is found to end
pub owner_ends : (m : List ℕ) (p : ℕ) (n : Name × ℕ) (found : Option ℕ) → owner_at pointer_limit m p ≡ Ok n → EndsName m p found → found ≡ Some n.1
owner_ends m p n found h ends = ends n.0 n.1 ((reads_exactly m p pointer_limit n.0 n.1).0 (owner_reads pointer_limit m p n h)).0

-- ---- records in turn

-- whether all data are in form depends on the records that are left alone
pub record Leaves (m : List ℕ) (rs : List Spelled) (left p : ℕ) : Type 0 where
  pub rest : List Spelled
  pub reads : records_at left pointer_limit m p ≡ Ok rest
  pub same : are_in_form pointer_limit m rs ≡ are_in_form pointer_limit m rest

-- of all records that may stand from a place on
abbrev pub Walks : List ℕ → ℕ → ℕ → ℕ → ℕ → Type 0
Walks m first count left p = (rs : List Spelled) → records_at count pointer_limit m first ≡ Ok rs → Leaves m rs left p

-- a record that is in form
pub leaves_more : (m : List ℕ) (rs : List Spelled) (left p q : ℕ) (l : Leaves m rs (suc left) p) → ((r : Spelled × ℕ) → record_at pointer_limit m p ≡ Ok r → (q ≡ r.1) × (is_in_form pointer_limit m r.0 ≡ true)) → Leaves m rs left q
leaves_more m rs left p q l here =
    let n = next_record pointer_limit m left p l.rest l.reads in
    let at = here n.next n.is in
    let tail : are_in_form pointer_limit m n.more ≡ are_in_form pointer_limit m n.more = refl in
    record {
      rest = n.more;
      reads = ap (λ x. records_at left pointer_limit m x) at.0 ∙ n.reads;
      same = l.same ∙ ap (are_in_form pointer_limit m) n.whole ∙ ap (λ b. b && are_in_form pointer_limit m n.more) at.1;
    }

-- one that isn't
pub leaves_unlike : (m : List ℕ) (rs : List Spelled) (left p : ℕ) (l : Leaves m rs (suc left) p) → ((r : Spelled × ℕ) → record_at pointer_limit m p ≡ Ok r → is_in_form pointer_limit m r.0 ≡ false) → are_in_form pointer_limit m rs ≡ false
leaves_unlike m rs left p l here =
    let n = next_record pointer_limit m left p l.rest l.reads in
    l.same ∙ ap (are_in_form pointer_limit m) n.whole ∙ ap (λ b. b && are_in_form pointer_limit m n.more) (here n.next n.is)

-- none is left
pub leaves_none : (m : List ℕ) (rs : List Spelled) (p : ℕ) (l : Leaves m rs zero p) → are_in_form pointer_limit m rs ≡ true
leaves_none m rs p l = let e : [] ≡ l.rest = one_read [] l.rest l.reads in l.same ∙ ap (are_in_form pointer_limit m) (sym e)
