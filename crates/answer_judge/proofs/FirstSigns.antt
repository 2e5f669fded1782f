-- The first signature that verifies an RRset.
use Rattle.std.proofs.Common.{◌≡◌, ℕ, Bool, true, false, ◌&&◌, ◌||◌, not, List, [], ◌∷◌, length, refl, sym, ap, ◌∙◌}
use Rattle.std.specs.Prelude.{◌==◌, Option, Some, None, is_some, unwrap_or}
use Rattle.std.specs.List.{find}
use Rattle.std.specs.Option.{option_map}
use Rattle.std.proofs.lemmas.Bool.{and_parts, eqb-true, false≢true}
use Rattle.definitions.specs.Limits.{pointer_limit}
use Rattle.definitions.specs.Name.{Name, same}
use Rattle.definitions.specs.Signing.{Fields, signed_octets}
use Rattle.messages.specs.Message.{Spelled, rrsig_at}
use Rattle.answer_judge_facts.specs.Trusted.{fits_key, is_due, is_signature, signs}
use Rattle.answer_judge_facts.specs.Verified.{Trusting, verifies_with, verified_by, verified_with}
use Rattle.answer_judge.specs.FirstSignature.{Held, IsFirst}
use Rattle.answer_judge_facts.proofs.JudgeMarks.{with_is}

-- what stands behind an open gate
pub opened : (b c : Bool) → elim b as (λ _. Bool) [ false ↦ false | true ↦ c ] ≡ true → (b ≡ true) × (c ≡ true)
opened true c h = (refl, h)
opened false c h = absurd (false≢true h)

-- fields that were read, with the signature beside them
pub read_of : (b : Bool) (o : Option (Fields × List ℕ)) (f : Fields) → elim b as (λ _. Option Fields) [ true ↦ option_map (λ x. x.0) o | false ↦ None ] ≡ Some f → (b ≡ true) × (signature : List ℕ) × (o ≡ Some (f, signature))
read_of false o f h = cc
read_of true None f h = cc
read_of true (Some x) f h = let is : x.0 ≡ f = ap (λ o. unwrap_or o f) h in (refl, x.1, λ i. Some (is i, x.1))

module _ (w : Trusting) (m : List ℕ) (o : Name) (t : ℕ) (items : List (List ℕ)) where
  abbrev by : List Spelled → Option Fields
  by rs = verified_by w pointer_limit m rs o t items

  abbrev held : List Spelled → Held
  held rs = record { message = m; records = rs; owner = o; rtype = t; items = items }

  -- a record that verifies them
  found : (r : Spelled) (rs : List Spelled) (f : Fields) → verified_with w pointer_limit m o t items r ≡ Some f → IsFirst w (held (r ∷ rs)) f
  found r rs f e =
      let got = read_of (verifies_with w pointer_limit m o t items r) (rrsig_at pointer_limit m r) f e in
      let gate = is_signature r && (r.class == 1) && same r.owner o in
      let says : Option (Fields × List ℕ) → Bool = λ x. elim x as (λ _. Bool) [ None ↦ false | Some f ↦ (f.0.covered == t) && signs w.answers w.apex w.keys w.now o items f.0 f.1 ] in
      let pass = opened gate (says (rrsig_at pointer_limit m r)) got.0 in
      let both = and_parts (f.covered == t) (signs w.answers w.apex w.keys w.now o items f got.1) (sym (ap says got.2) ∙ pass.1) in
      let key : Bool = elim (find (fits_key f) w.keys) as (λ _. Bool) [ None ↦ false | Some k ↦ w.answers.verifies k (signed_octets f o 1 items) got.1 ] in
      let due = opened (not (length items == 0) && is_due w.apex w.now o f) key both.1 in
      record {
        before = [];
        found = r;
        behind = rs;
        signature = got.1;
        split = refl;
        none_before = refl;
        is = (and_parts (is_signature r) (r.class == 1) (and_parts (is_signature r && (r.class == 1)) (same r.owner o) pass.0).0).0;
        reads = got.2;
        covered = eqb-true f.covered t both.0;
        due = (and_parts (not (length items == 0)) (is_due w.apex w.now o f) due.0).1;
        passes = both.1;
      }

  -- one behind a record that doesn't
  behind : (r : Spelled) (rs : List Spelled) (f : Fields) → verified_with w pointer_limit m o t items r ≡ None → IsFirst w (held rs) f → IsFirst w (held (r ∷ rs)) f
  behind r rs f e first =
      let no : verifies_with w pointer_limit m o t items r ≡ false = sym (with_is w pointer_limit m o t items r) ∙ ap is_some e in
      record {
        before = r ∷ first.before;
        found = first.found;
        behind = first.behind;
        signature = first.signature;
        split = ap (λ l. r ∷ l) first.split;
        none_before = (λ i. no i || first.none_before i);
        is = first.is;
        reads = first.reads;
        covered = first.covered;
        due = first.due;
        passes = first.passes;
      }

  pub first_of : (rs : List Spelled) (f : Fields) → by rs ≡ Some f → IsFirst w (held rs) f
  first_of [] f e = cc
  first_of (r ∷ rs) f e =
      let next = first_of rs f in
      let go : (x : Option Fields) → verified_with w pointer_limit m o t items r ≡ x → elim x as (λ _. Option Fields) [ None ↦ by rs | Some y ↦ Some y ] ≡ Some f → IsFirst w (held (r ∷ rs)) f =
      λ x. elim x as (λ x. verified_with w pointer_limit m o t items r ≡ x → elim x as (λ _. Option Fields) [ None ↦ by rs | Some y ↦ Some y ] ≡ Some f → IsFirst w (held (r ∷ rs)) f) [
        | None ↦ λ is h. behind r rs f is (next h)
        | Some y ↦ λ is h. found r rs f (is ∙ h)
      ] in
      go (verified_with w pointer_limit m o t items r) refl e
