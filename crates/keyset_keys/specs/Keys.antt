-- A key of a zone: its roles with their flags, and its stamps (RFC 6781, section 4.1). Moments are numbers of
-- nanoseconds.
use Rattle.std.specs.Prelude.{ℕ, Bool, true, false, not, ◌&&◌, List, Option, Some, None, String, string_bytes}
use Rattle.keyset_keys.specs.declared.keys.Available.{Available}
use Rattle.keyset_keys.specs.declared.keys.Available.TheVariants as available
use Rattle.keyset_keys.specs.declared.keys.KeyState as flags
use Rattle.keyset_keys.specs.declared.keys.KeyType.{KeyType}
use Rattle.keyset_keys.specs.declared.keys.KeyType.TheVariants.{Ksk, Zsk, Csk, Include}
use Rattle.keyset_keys.specs.declared.keys.KeyTimestamps.{KeyTimestamps}

-- what a key is called by
abbrev pub Reference : Type 0
Reference = List ℕ

-- the bytes of a text, where there is one
abbrev pub text_of : {A : Type 0} → Option (String A) → Option Reference
text_of None = None
text_of (Some t) = Some (string_bytes t)

abbrev pub is_available : Available → Bool
is_available available.Available = true
is_available available.NotAvailable = false

-- the flags of a role
abbrev pub Flags : Type 0
Flags = flags.KeyState

pub record Key : Type 0 where
  pub private : Option Reference
  pub decoupled : Bool
  pub roles : KeyType
  pub algorithm : ℕ
  pub tag : ℕ
  pub stamps : KeyTimestamps

-- ---- roles

-- the role that stands for the key: its only one, or of a combined key that of the KSK
abbrev pub main_role : KeyType → Flags
main_role (Ksk f) = f
main_role (Zsk f) = f
main_role (Csk f g) = f
main_role (Include f) = f

-- a test of the KSK role, and of the ZSK role; false where there is none
abbrev pub ksk_is : (Flags → Bool) → KeyType → Bool
ksk_is p (Ksk f) = p f
ksk_is p (Zsk f) = false
ksk_is p (Csk f g) = p f
ksk_is p (Include f) = false

abbrev pub zsk_is : (Flags → Bool) → KeyType → Bool
zsk_is p (Ksk f) = false
zsk_is p (Zsk f) = p f
zsk_is p (Csk f g) = p g
zsk_is p (Include f) = false

-- a test of the role that stands for the key
abbrev pub main_is : (Flags → Bool) → KeyType → Bool
main_is p r = p (main_role r)

-- a test of every role
abbrev pub each_is : (Flags → Bool) → KeyType → Bool
each_is p (Ksk f) = p f
each_is p (Zsk f) = p f
each_is p (Csk f g) = p f && p g
each_is p (Include f) = p f

-- a change of the KSK role, of the ZSK role, and of every role
abbrev pub on_ksk : (Flags → Flags) → KeyType → KeyType
on_ksk h (Ksk f) = Ksk (h f)
on_ksk h (Zsk f) = Zsk f
on_ksk h (Csk f g) = Csk (h f) g
on_ksk h (Include f) = Include f

abbrev pub on_zsk : (Flags → Flags) → KeyType → KeyType
on_zsk h (Ksk f) = Ksk f
on_zsk h (Zsk f) = Zsk (h f)
on_zsk h (Csk f g) = Csk f (h g)
on_zsk h (Include f) = Include f

abbrev pub on_each : (Flags → Flags) → KeyType → KeyType
on_each h (Ksk f) = Ksk (h f)
on_each h (Zsk f) = Zsk (h f)
on_each h (Csk f g) = Csk (h f) (h g)
on_each h (Include f) = Include (h f)

-- ---- flags

abbrev pub is_old : Flags → Bool
is_old f = f.old

abbrev pub is_present : Flags → Bool
is_present f = f.present

abbrev pub signs : Flags → Bool
signs f = f.signer

abbrev pub is_at_parent : Flags → Bool
is_at_parent f = f.at_parent

-- a test of a role that isn't old, and of one that is
abbrev pub current : (Flags → Bool) → Flags → Bool
current p f = not f.old && p f

abbrev pub outgoing : (Flags → Bool) → Flags → Bool
outgoing p f = f.old && p f

-- old and no longer used
abbrev pub is_stale : Flags → Bool
is_stale f = f.old && not f.signer && not f.present && not f.at_parent

-- may be rolled to
abbrev pub is_fresh : Flags → Bool
is_fresh f = f.available && not f.old && not f.signer && not f.present && not f.at_parent

abbrev pub set_old : Bool → Flags → Flags
set_old b f = record f { old = b }

abbrev pub set_signer : Bool → Flags → Flags
set_signer b f = record f { signer = b }

abbrev pub set_present : Bool → Flags → Flags
set_present b f = record f { present = b }

abbrev pub set_at_parent : Bool → Flags → Flags
set_at_parent b f = record f { at_parent = b }

-- the flags of a key that was added
abbrev pub clear : Bool → Flags
clear available = record { available = available; old = false; signer = false; present = false; at_parent = false }

-- ---- stamps

abbrev pub publish : ℕ → KeyTimestamps → KeyTimestamps
publish now s = record s { published = Some now }

abbrev pub see : ℕ → KeyTimestamps → KeyTimestamps
see now s = record s { visible = Some now }

abbrev pub see_ds : ℕ → KeyTimestamps → KeyTimestamps
see_ds now s = record s { ds_visible = Some now }

abbrev pub see_rrsig : ℕ → KeyTimestamps → KeyTimestamps
see_rrsig now s = record s { rrsig_visible = Some now }

abbrev pub withdraw : ℕ → KeyTimestamps → KeyTimestamps
withdraw now s = record s { withdrawn = Some now }

-- ---- keys

abbrev pub with_roles : (KeyType → KeyType) → Key → Key
with_roles h k = record k { roles = h k.roles }

abbrev pub with_stamps : (KeyTimestamps → KeyTimestamps) → Key → Key
with_stamps h k = record k { stamps = h k.stamps }

-- a key that is new: made at a moment, no other stamp, managed by its references
abbrev pub new_key : Option Reference → KeyType → ℕ → ℕ → ℕ → Key
new_key private roles algorithm tag created = record {
  private = private;
  decoupled = false;
  roles = roles;
  algorithm = algorithm;
  tag = tag;
  stamps = record { creation = Some created; published = None; visible = None; ds_visible = None; rrsig_visible = None; withdrawn = None };
}
