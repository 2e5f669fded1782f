-- What several reads add up to.
use Rattle.std.proofs.Common.{◌≡◌, ℕ, List, ◌++◌, Option, Some, None, IfSome, sym, ap, ◌∙◌, append_assoc, append-nil}
use Rattle.std.specs.Io.KnownBytes.{Consumes, IsAtEnd}
use Rattle.denialbench.specs.Input.{ReadsOn}

consumes_two : (a b c : Option (List ℕ)) (old octets new : List ℕ) → Consumes a b old → Consumes b c octets → new ≡ old ++ octets → Consumes a c new
consumes_two None b c old octets new p q e = tt
consumes_two (Some x) None c old octets new p q e = absurd p
consumes_two (Some x) (Some y) None old octets new p q e = absurd q
consumes_two (Some x) (Some y) (Some z) old octets new p q e = p ∙ ap (λ l. old ++ l) q ∙ sym (append_assoc old octets z) ∙ ap (λ l. l ++ z) (sym e)

pub consumes_more : (a b c : Option (List ℕ)) (old new : List ℕ) (n : ℕ) → Consumes a b old → ReadsOn b c old new n → Consumes a c new
consumes_more a b c old new n p r = consumes_two a b c old r.octets new p r.consumed r.added

pub consumes_whole : (a b : Option (List ℕ)) (octets : List ℕ) → Consumes a b octets → IsAtEnd b → IfSome a (λ xs. octets ≡ xs)
consumes_whole None b octets p q = tt
consumes_whole (Some x) None octets p q = absurd p
consumes_whole (Some x) (Some y) octets p q = sym (p ∙ ap (λ l. octets ++ l) q ∙ append-nil octets)
