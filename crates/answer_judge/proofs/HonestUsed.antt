-- Which RRsets a judge seeks for a question, and whether their signatures are there.
use Rattle.std.proofs.Common.{◌≡◌, ℕ, true, false, ◌&&◌, ◌||◌, List, Option, Some, None, eqb, refl, sym, ap, ◌∙◌}
use Rattle.std.specs.Prelude.{◌==◌, is_some, length, nat_eq}
use Rattle.std.proofs.lemmas.Bool.{and_from, eq-eqb, false≢true, or_left, or_parts, or_right}
use Rattle.definitions.specs.Name.{Name, low, same, at_or_above}
use Rattle.definitions.specs.Signing.{Fields}
use Rattle.denial_laws.specs.Truth.{is_added_type}
use Rattle.messages.specs.Message.{Spelled}
use Rattle.messages.proofs.ZoneNames.{labels_eq-same}
use Rattle.answer_judge_facts.specs.Sought.{answer_sought, is_alone}
use Rattle.answer_judge_facts.specs.Verified.{Trusting, is_hash_alone, is_verified, rrset_in, verified_by}
use Rattle.answer_judge_facts.proofs.JudgeMarks.{by_is}

pub first_there : (w : Trusting) (k : ℕ) (m : List ℕ) (rs : List Spelled) (owner : Name) (t : ℕ) (items : List (List ℕ)) → is_verified w k m rs owner t items ≡ true → (f : Fields) × (verified_by w k m rs owner t items ≡ Some f)
first_there w k m rs owner t items e = go (verified_by w k m rs owner t items) refl (by_is w k m rs owner t items ∙ e)
  where
    go : (o : Option Fields) → verified_by w k m rs owner t items ≡ o → is_some (verified_by w k m rs owner t items) ≡ true → (f : Fields) × (verified_by w k m rs owner t items ≡ Some f)
    go None i s = absurd (false≢true (sym (ap (λ (o : Option Fields). is_some o) i) ∙ s))
    go (Some f) i s = (f, i)

module _ (k : ℕ) (m : List ℕ) (apex : Name) (rs : List Spelled) (q : Name) (t : ℕ) where
  abbrev Sought : Name → ℕ → Type 0
  Sought o u = (answer_sought k m apex rs q t).is o u ≡ true

  pub asked_sought : Sought q t
  asked_sought = or_right (((47 == t) && is_alone k m apex rs q) || ((50 == t) && is_hash_alone k m apex rs q)) ((t == t) && same q q) (and_from _ _ (eq-eqb t t refl) (labels_eq-same (low q) (low q) refl))

  pub link_sought : (o : Name) → at_or_above apex o ≡ true → (length (rrset_in k m rs o 47) == 1) ≡ true → Sought o 47
  link_sought o above one = or_left (is_alone k m apex rs o || false) ((t == 47) && same o q) (or_left (is_alone k m apex rs o) false (and_from _ _ above one))

  pub hash_sought : (o : Name) → is_hash_alone k m apex rs o ≡ true → Sought o 50
  hash_sought o alone = or_left (is_hash_alone k m apex rs o) ((t == 50) && same o q) alone

pub not_keys : (t : ℕ) → is_added_type t ≡ false → eqb t 48 ≡ false
not_keys t h = (or_parts (nat_eq t 48) _ (or_parts (nat_eq t 47) _ (or_parts (nat_eq t 46) _ h).1).1).0
