-- Calls on the keys of a zone.
use Rattle.std.specs.Prelude.{ℕ, Bool, List, map, Option, None, string_bytes}
use Rattle.keyset.specs.KeyState.{Reference, text_of, is_available}
use Rattle.keyset_rolls.specs.declared.rolls.RollType.{RollType}
use Rattle.answer_events.specs.declared.event.AddKey.{AddKey}
use Rattle.answer_events.specs.declared.event.KeyCall.{KeyCall}
use Rattle.answer_events.specs.declared.event.KeyCall.TheVariants as call
use Rattle.answer_events.specs.declared.key_kind.KeyKind.{KeyKind}
use Rattle.answer_events.specs.declared.key_kind.KeyKind.TheVariants.{Ksk, Zsk, Csk, Include}

-- an entry point has its bit beside that of a zone key (RFC 4034, 2.1.1)
abbrev pub flags_of : KeyKind → ℕ
flags_of Ksk = 257
flags_of Zsk = 256
flags_of Csk = 257
flags_of Include = 256

-- what is set of a key by hand, outside rolls: a flag, a stamp, or that the key is no longer used
pub data Setting : Type 0 where
  Decoupled : Bool → Setting
  Present : Bool → Setting
  Signer : Bool → Setting
  AtParent : Bool → Setting
  Visible : ℕ → Setting
  DsVisible : ℕ → Setting
  RrsigVisible : ℕ → Setting
  Stale : Setting

-- a call on the keys; an add names the key's private reference, algorithm and octets, and whether it is available
pub data Call : Type 0 where
  Add : KeyKind → Reference → Option Reference → ℕ → List ℕ → Bool → Call
  Set : Reference → Setting → Call
  Delete : Reference → Call
  Start : RollType → List Reference → List Reference → Call
  Report1 : RollType → ℕ → Call
  Wait1 : RollType → Call
  Report2 : RollType → ℕ → Call
  Wait2 : RollType → Call
  Finish : RollType → Call

-- an add of a kind of key
abbrev pub add_of : KeyKind → AddKey → Call
add_of kind k = Add kind (string_bytes k.pubref) (text_of k.privref) k.algorithm k.public_key.items (is_available k.available)

-- a key call by its arguments
abbrev pub call_of : KeyCall → Call
call_of (call.AddKeyKsk key) = add_of Ksk key
call_of (call.AddKeyZsk key) = add_of Zsk key
call_of (call.AddKeyCsk key) = add_of Csk key
call_of (call.AddPublicKey pubref algorithm key available) = Add Include (string_bytes pubref) None algorithm key.items available
call_of (call.SetDecoupled pubref value) = Set (string_bytes pubref) (Decoupled value)
call_of (call.SetPresent pubref value) = Set (string_bytes pubref) (Present value)
call_of (call.SetSigner pubref value) = Set (string_bytes pubref) (Signer value)
call_of (call.SetAtParent pubref value) = Set (string_bytes pubref) (AtParent value)
call_of (call.SetVisible pubref time) = Set (string_bytes pubref) (Visible time)
call_of (call.SetDsVisible pubref time) = Set (string_bytes pubref) (DsVisible time)
call_of (call.SetRrsigVisible pubref time) = Set (string_bytes pubref) (RrsigVisible time)
call_of (call.SetStale pubref) = Set (string_bytes pubref) Stale
call_of (call.DeleteKey pubref) = Delete (string_bytes pubref)
call_of (call.StartRoll r olds news) = Start r (map string_bytes olds.items) (map string_bytes news.items)
call_of (call.Propagation1Complete r ttl) = Report1 r ttl
call_of (call.CacheExpired1 r) = Wait1 r
call_of (call.Propagation2Complete r ttl) = Report2 r ttl
call_of (call.CacheExpired2 r) = Wait2 r
call_of (call.RollDone r) = Finish r
