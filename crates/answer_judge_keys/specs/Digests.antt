-- Digests of a key that were made.
use Rattle.std.specs.Prelude.{◌≡◌, ◌==◌, ℕ, Bool, false, List, Some, None}
use Rattle.std.specs.Option.{option_map}
use Rattle.std.specs.Str.{bytes_eq}
use Rattle.definitions.specs.Name.{Name}
use Rattle.definitions.specs.Dnskey.{Dnskey, digested}
use Rattle.answer_scheme.specs.Answers.{Answers}
use Rattle.answer_judge_keys.specs.declared.digests.MadeDigest.{MadeDigest}

-- the key's digest of its type
abbrev pub IsMade : Answers → Name → Dnskey → MadeDigest → Type 0
IsMade a apex k d = a.digest d.algorithm (digested apex k) ≡ option_map (λ v. v.items) d.octets

abbrev pub is_of_type : ℕ → MadeDigest → Bool
is_of_type n d = d.algorithm == n

-- whether it is these octets; where the type has none, none are
abbrev pub is_digest : MadeDigest → List ℕ → Bool
is_digest d octets = elim d.octets [ None ↦ false | Some v ↦ bytes_eq v.items octets ]
