-- The first signature of a message that verifies an RRset, and what it says (RFC 4034, 3.1).
use Rattle.std.specs.Prelude.{◌≡◌, ℕ, Bool, true, false, List, ◌∷◌, ◌++◌, Some, is_some}
use Rattle.definitions.specs.Limits.{pointer_limit}
use Rattle.definitions.specs.Name.{Name}
use Rattle.definitions.specs.Signing.{Fields}
use Rattle.messages.specs.Message.{Spelled, rrsig_at}
use Rattle.answer_judge_facts.specs.Trusted.{is_due, is_signature, signs}
use Rattle.answer_judge_facts.specs.Verified.{Trusting, is_verified, verified_by}

-- an RRset and the message that it stands in
pub record Held : Type 0 where
  pub message : List ℕ
  pub records : List Spelled
  pub owner : Name
  pub rtype : ℕ
  pub items : List (List ℕ)

abbrev pub is_held : Trusting → Held → Bool
is_held w h = is_verified w pointer_limit h.message h.records h.owner h.rtype h.items

-- Fields of a signature in the message that covers the RRset's type, is the apex's and in time, has a label count that fits
-- the owner, and passes under a key; no record before it verifies the RRset.
pub record IsFirst (w : Trusting) (h : Held) (f : Fields) : Type 0 where
  pub before : List Spelled
  pub found : Spelled
  pub behind : List Spelled
  pub signature : List ℕ
  pub split : h.records ≡ before ++ found ∷ behind
  pub none_before : is_verified w pointer_limit h.message before h.owner h.rtype h.items ≡ false
  pub is : is_signature found ≡ true
  pub reads : rrsig_at pointer_limit h.message found ≡ Some (f, signature)
  pub covered : f.covered ≡ h.rtype
  pub due : is_due w.apex w.now h.owner f ≡ true
  pub passes : signs w.answers w.apex w.keys w.now h.owner h.items f signature ≡ true

-- an RRset is verified exactly where there is a first signature, and that says these fields
pub record SaysFirst : Type 0 where
  pub verified : (w : Trusting) (h : Held) → is_held w h ≡ is_some (verified_by w pointer_limit h.message h.records h.owner h.rtype h.items)
  pub first : (w : Trusting) (h : Held) (f : Fields) → verified_by w pointer_limit h.message h.records h.owner h.rtype h.items ≡ Some f → IsFirst w h f
