-- The signature that a record is, over one of some RRsets.
use Rattle.std.proofs.Common.{◌≡◌, ℕ, Bool, true, false, ◌&&◌, ◌==◌, List, sym, ap, ◌∙◌}
use Rattle.std.specs.Prelude.{Option, Some, None}
use Rattle.definitions.specs.Limits.{pointer_limit}
use Rattle.definitions.specs.Name.{Name, labels_eq, low, same}
use Rattle.definitions.specs.Signing.{Fields}
use Rattle.messages.specs.Message.{Spelled, if_true, rrsig_at}
use Rattle.messages.specs.Record.{Signature, fields_of, fields_read, signature_of}
use Rattle.messages.proofs.ZoneNames.{low-low}
use Rattle.answer_judge_keys.specs.Trusted.{is_signature}
use Rattle.answer_extended_errors.specs.Extended.{RrsetTest, signature_at}

-- its RRset passes the test or not, and its signer is the apex or not
pub signature_is : (m : List ℕ) (apex : Name) (is : RrsetTest) (r : Spelled) (s : Signature) (own signed : Bool) → is_signature r ≡ true → (r.class == 1) ≡ true → rrsig_at pointer_limit m r ≡ Some (signature_of s)
    → own ≡ is r.owner (fields_read s).covered → signed ≡ same (fields_read s).signer apex → if_true (own && signed) (fields_of s) ≡ signature_at pointer_limit m apex is r
signature_is m apex is r s own signed kind class read o n =
    let signer : signed ≡ same (fields_of s).signer apex = n ∙ sym (ap (λ (x : Name). labels_eq x (low apex)) (low-low (fields_read s).signer)) in
    (λ i. if_true (o i && signer i) (fields_of s))
    ∙ sym (λ i. elim (kind i && class i) as (λ _. Option Fields) [
      | false ↦ None
      | true ↦ elim (read i) as (λ _. Option Fields) [ None ↦ None | Some f ↦ if_true (is r.owner f.0.covered && same f.0.signer apex) f.0 ]
    ])
