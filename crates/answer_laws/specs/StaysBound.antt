-- What a reference is bound to.
use Rattle.std.specs.Prelude.{◌≡◌, ℕ, Bool, List, Option, Some, Ok}
use Rattle.definitions.specs.Dnskey.{Dnskey}
use Rattle.answer_events.specs.declared.key_kind.KeyKind.{KeyKind}
use Rattle.keyset.specs.KeyState.{Reference}
use Rattle.keyset_rolls.specs.declared.rolls.Action.{Action}
use Rattle.answer_publisher_keys.specs.Bindings.{Add, Call, ZoneKeys, apply, dnskey_at, dnskey_for}
use Rattle.answer_publisher_keys.specs.KeyTags.{behind}

-- an accepted add binds its reference to its key
abbrev pub AddsBind : Type 0
AddsBind =
    (digest : Dnskey → Option (List ℕ)) (s t : ZoneKeys) (kind : KeyKind) (q : Reference) (private : Option Reference) (algorithm : ℕ) (octets : List ℕ) (available : Bool) (now : ℕ) (actions : List Action)
    → apply digest (Add kind q private algorithm octets available) now s ≡ Ok (t, actions) → dnskey_at t.bound q ≡ Some (dnskey_for kind algorithm octets)

-- to no other key is it ever bound, whatever calls come behind, accepted and refused, a delete of the key among them
abbrev pub ReferencesStayBound : Type 0
ReferencesStayBound =
    (digest : Dnskey → Option (List ℕ)) (s : ZoneKeys) (cs : List (ℕ × Call)) (q : Reference) (k : Dnskey)
    → dnskey_at s.bound q ≡ Some k → dnskey_at (behind digest s cs).bound q ≡ Some k
