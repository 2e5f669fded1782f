-- Why signatures as the code has them cannot be used at a moment.
use Rattle.std.proofs.Common.{◌≡◌, ℕ, Bool, ◌==◌, List, map, length, sym, ap, ◌∙◌}
use Rattle.std.specs.Prelude.{Option, Some, None, if◌then◌else◌}
use Rattle.std.specs.List.{list_any}
use Rattle.std.proofs.lemmas.List.{length-map}
use Rattle.definitions.specs.Signing.{Fields, in_time}
use Rattle.messages.specs.Record.{Signature, fields_of}
use Rattle.messages.proofs.Lists.{list_any-map}
use Rattle.answer_extended_errors.specs.Extended.{has_expired, untimely}
use Rattle.answer_extended_errors.specs.declared.error.ExtendedError.{ExtendedError}
use Rattle.answer_extended_errors.specs.declared.error.ExtendedError.TheVariants as e

-- there are none, one holds, one has expired
abbrev pub untimely_by : Bool → Bool → Bool → Option ExtendedError
untimely_by none holds expired =
    if none then Some e.RrsigsMissing
    else if holds then None
    else if expired then Some e.SignatureExpired
    else Some e.SignatureNotYetValid

any_fields : (p : Fields → Bool) (ss : List Signature) (b : Bool) → b ≡ list_any (λ s. p (fields_of s)) ss → b ≡ list_any p (map fields_of ss)
any_fields p ss b e = e ∙ sym (list_any-map p fields_of ss)

pub untimely_is : (now : ℕ) (ss : List Signature) (none holds expired : Bool) → none ≡ (length ss == 0) → holds ≡ list_any (λ s. in_time (fields_of s) now) ss → expired ≡ list_any (λ s. has_expired now (fields_of s)) ss
    → untimely_by none holds expired ≡ untimely now (map fields_of ss)
untimely_is now ss none holds expired n h x =
    let empty = n ∙ ap (λ k. k == 0) (sym (length-map ss fields_of)) in
    let held = any_fields (λ f. in_time f now) ss holds h in
    let past = any_fields (has_expired now) ss expired x in
    λ i. untimely_by (empty i) (held i) (past i)
