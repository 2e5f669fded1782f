-- What a call does to a zone that is open.
use Rattle.std.proofs.Common.{◌≡◌, ℕ, subst}
use Rattle.std.specs.Prelude.{Option, Some}
use Rattle.server_zone.specs.States.{state_of, ungathered}
use Rattle.zermuita_zone.specs.Calls.{ForgetsIn}
use Rattle.zermuita_zone.specs.declared.opened.OpenZone.{OpenZone}

pub forgets : (o new : Option OpenZone) (z z' : OpenZone) (reply : ℕ) → Some z ≡ o → new ≡ Some z' → state_of z'.zone ≡ ungathered (state_of z.zone) → z'.zone.publisher ≡ z.zone.publisher → z'.zone.addresses ≡ z.zone.addresses → reply ≡ 64 → ForgetsIn o new reply
forgets o new z z' reply is stays state rest addresses done =
    subst (λ (o : Option OpenZone). ForgetsIn o new reply) is (record { z' = z'; state = state; rest = rest; addresses = addresses; stays_open = stays; reply_is = done })
