-- Keys together with the DNSKEYs that their references are bound to, call by call.
use Rattle.std.specs.Prelude.{◌≡◌, ℕ, Bool, false, not, ◌||◌, List, [], map, filter, Option, Some, None, option_map, Result, Ok, Err, if◌then◌else◌}
use Rattle.std.specs.declared.cmp.Ordering.{Ordering}
use Rattle.std.specs.Ordering.{nat_cmp}
use Rattle.std.specs.Cmp.Lexicographic.{slice_cmp}
use Rattle.definitions.specs.Sorting.{sort_by}
use Rattle.answer_terms.specs.Served.{by_tag}
use Rattle.answer_publisher_keys.specs.declared.keys.Publication.{Publication}
use Rattle.answer_publisher_keys.specs.declared.keys.Publication.TheVariants as publication
use Rattle.std.specs.FinMap.Entries as entries
use Rattle.definitions.specs.Dnskey.{Dnskey, Ds, dnskey_data, key_tag, same_key}
use Rattle.keyset_keys.specs.declared.keys.KeyType.{KeyType}
use Rattle.answer_events.specs.declared.key_kind.KeyKind.{KeyKind}
use Rattle.answer_events.specs.declared.key_kind.KeyKind.TheVariants as kind
pub use Rattle.answer_events.specs.Calls.{Call, Setting, Add, Set, Delete, Start, Report1, Wait1, Report2, Wait2, Finish, flags_of}
use Rattle.answer_events.specs.Calls as calls
use Rattle.keyset_rolls.specs.declared.rolls.RollType.{RollType}
use Rattle.keyset_rolls.specs.declared.rolls.Action.{Action}
use Rattle.keyset.specs.KeyState as key_set
use Rattle.keyset.specs.KeyState.{KeySetState, Reference, reference_cmp, Refusal, Answer, asks_parent, key_of, ksk_is, zsk_is, main_is, is_at_parent, is_present, signs}
use Rattle.keyset.specs.KeyRuns as runs
use Rattle.keyset.specs.KeyRuns.{Kind, OfKsk, OfZsk, OfCsk, OfOther}

-- a key that a reference is bound to, with its digest
pub record BoundKey : Type 0 where
  pub key : Dnskey
  pub digest : List ℕ

-- the key set, and what was ever bound, in ascending order of reference
pub record ZoneKeys : Type 0 where
  pub keys : KeySetState
  pub bound : List (Reference × BoundKey)

pub data Fault : Type 0 where
  ReferenceBound : Fault
  DigestFailed : Fault
  Refused : Refusal → Fault

abbrev pub dnskey_for : KeyKind → ℕ → List ℕ → Dnskey
dnskey_for kind algorithm octets = record { flags = flags_of kind; protocol = 3; algorithm = algorithm; octets = octets }

abbrev pub bound_at : List (Reference × BoundKey) → Reference → Option BoundKey
bound_at bound q = entries.find reference_cmp q bound

-- bound to another key
abbrev pub is_bound_away : List (Reference × BoundKey) → Reference → Dnskey → Bool
is_bound_away bound q k = elim (bound_at bound q) [ None ↦ false | Some b ↦ not (same_key b.key k) ]

-- the key that a reference is bound to, by itself
abbrev pub dnskey_at : List (Reference × BoundKey) → Reference → Option Dnskey
dnskey_at bound q = option_map (λ b. b.key) (bound_at bound q)

-- ---- calls on the key set alone

abbrev pub kind_in : KeyKind → Kind
kind_in kind.Ksk = OfKsk
kind_in kind.Zsk = OfZsk
kind_in kind.Csk = OfCsk
kind_in kind.Include = OfOther

-- the roles of a new key
abbrev pub roles_of : KeyKind → Bool → KeyType
roles_of kind available = runs.roles_of (kind_in kind) available

-- a key of another owner has no private reference
abbrev pub private_for : KeyKind → Option Reference → Option Reference
private_for kind.Include private = None
private_for _ private = private

-- what is handed in of a new key, made at a moment: it has the tag of its DNSKEY
abbrev pub new_in_set : KeyKind → Option Reference → ℕ → ℕ → ℕ → Bool → runs.NewKey
new_in_set kind private algorithm tag now available = record { kind = kind_in kind; private = private_for kind private; algorithm = algorithm; tag = tag; created = now; available = available }

abbrev pub setting_call : Reference → Setting → runs.Call
setting_call q (calls.Decoupled b) = runs.SetDecoupled q b
setting_call q (calls.Present b) = runs.SetPresent q b
setting_call q (calls.Signer b) = runs.SetSigner q b
setting_call q (calls.AtParent b) = runs.SetAtParent q b
setting_call q (calls.Visible time) = runs.SetVisible q time
setting_call q (calls.DsVisible time) = runs.SetDsVisible q time
setting_call q (calls.RrsigVisible time) = runs.SetRrsigVisible q time
setting_call q calls.Stale = runs.SetStale q

-- a call at a moment, as one on the key set
abbrev pub set_call : Call → ℕ → runs.Call
set_call (Add kind q private algorithm octets available) now = runs.Add q (new_in_set kind private algorithm (key_tag (dnskey_for kind algorithm octets)) now available)
set_call (Set q setting) now = setting_call q setting
set_call (Delete q) now = runs.Delete q
set_call (Start r olds news) now = runs.Start r olds news
set_call (Report1 r ttl) now = runs.Report1 r ttl
set_call (Wait1 r) now = runs.Wait1 r
set_call (Report2 r ttl) now = runs.Report2 r ttl
set_call (Wait2 r) now = runs.Wait2 r
set_call (Finish r) now = runs.Finish r

abbrev pub on_state : Call → ℕ → KeySetState → Answer
on_state c now s = runs.on_state (set_call c now) now s

-- ---- calls on both

abbrev pub Outcome : Type 0
Outcome = Result (ZoneKeys × List Action) Fault

abbrev pub lifted : List (Reference × BoundKey) → Answer → Outcome
lifted b (Ok a) = Ok (record { keys = a.0; bound = b }, a.1)
lifted b (Err e) = Err (Refused e)

-- an accepted add binds its reference
abbrev pub bind : Reference → BoundKey → List (Reference × BoundKey) → List (Reference × BoundKey)
bind q b bound = entries.put reference_cmp q b bound

-- What a call gives. `digest` is the scheme's digest of a key; None where it fails. A delete leaves its reference bound.
abbrev pub apply : (Dnskey → Option (List ℕ)) → Call → ℕ → ZoneKeys → Outcome
apply digest (Add kind q private algorithm octets available) now s =
    let k = dnskey_for kind algorithm octets in
    if is_bound_away s.bound q k then Err ReferenceBound
    else elim (digest k) [
      | None ↦ Err DigestFailed
      | Some d ↦ lifted (bind q (record { key = k; digest = d }) s.bound) (on_state (Add kind q private algorithm octets available) now s.keys)
    ]
apply digest c now s = lifted s.bound (on_state c now s.keys)

-- no keys, nothing bound
abbrev pub no_keys : List (List ℕ) → ZoneKeys
no_keys name = record { keys = record { name = name; keys = []; rolls = [] }; bound = [] }

-- ---- what is published

-- what the DS set, the DNSKEY set and the kinds of signatures are of
abbrev pub has_role : Publication → KeyType → Bool
has_role publication.AtParent r = ksk_is is_at_parent r
has_role publication.Present r = main_is is_present r
has_role publication.SignsKeys r = ksk_is signs r
has_role publication.SignsZone r = zsk_is signs r
has_role publication.Signs r = ksk_is signs r || zsk_is signs r

-- the references of such keys, as the key set lists them
abbrev pub references_in : Publication → KeySetState → List Reference
references_in publication.AtParent s = key_set.ds s
references_in publication.Present s = key_set.present s
references_in publication.SignsKeys s = key_set.keysigners s
references_in publication.SignsZone s = key_set.zonesigners s
references_in publication.Signs s = key_set.signers s

-- they are those whose keys have the role
abbrev pub ListsRoles : Type 0
ListsRoles = (p : Publication) (s : KeySetState) → references_in p s ≡ key_set.references_where (has_role p) s

-- a reference has a key with this role
abbrev pub is_published : KeySetState → Publication → Reference → Bool
is_published s p q = elim (key_of s q) [ None ↦ false | Some k ↦ has_role p k.roles ]

-- the bound keys of these references, in order of reference, each beside its reference, and by themselves
abbrev pub shown : ZoneKeys → Publication → List (Reference × BoundKey)
shown s p = filter (λ e. is_published s.keys p e.0) s.bound

abbrev pub published : ZoneKeys → Publication → List BoundKey
published s p = map (λ e. e.1) (shown s p)

-- their keys
abbrev pub dnskeys : List BoundKey → List Dnskey
dnskeys bs = map (λ b. b.key) bs

-- the DS of type 2 of a bound key (RFC 4509)
abbrev pub ds_of : BoundKey → Ds
ds_of b = record { tag = key_tag b.key; algorithm = b.key.algorithm; digest_type = 2; digest = b.digest }

-- DS records by tag
abbrev pub ds_cmp : Ds → Ds → Ordering
ds_cmp a b = nat_cmp a.tag b.tag

-- the DS set, in order of tag
abbrev pub ds_set : ZoneKeys → List Ds
ds_set s = sort_by ds_cmp (map ds_of (published s publication.AtParent))

-- the keys of these references, in order of tag
abbrev pub keys_by_tag : ZoneKeys → Publication → List Dnskey
keys_by_tag s p = by_tag (dnskeys (published s p))

-- the data of the DNSKEY RRset, in canonical order (RFC 4034, 6.3)
abbrev pub dnskey_rdata : ZoneKeys → List (List ℕ)
dnskey_rdata s = sort_by (slice_cmp nat_cmp) (map dnskey_data (dnskeys (published s publication.Present)))

-- what the parent is asked for while a roll asks for its DS set: that set as CDS records, and the keys that it is of as CDNSKEY
-- records (RFC 7344, 3); nothing at other times
abbrev pub cds_set : ZoneKeys → List Ds
cds_set s = if asks_parent s.keys then ds_set s else []

abbrev pub cdnskey_set : ZoneKeys → List Dnskey
cdnskey_set s = if asks_parent s.keys then keys_by_tag s publication.AtParent else []
