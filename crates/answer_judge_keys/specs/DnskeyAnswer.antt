-- The keys of a DNSKEY answer.
use Rattle.std.specs.Prelude.{ℕ, ◌&&◌, ◌==◌, List, Option, None, if◌then◌else◌}
use Rattle.std.specs.List.{filter_map}
use Rattle.definitions.specs.Name.{Name, same}
use Rattle.definitions.specs.Dnskey.{Dnskey, dnskey_of_data}
use Rattle.messages.specs.Message.{Spelled, data_of}

-- at the apex, class IN, data that read as a key
abbrev pub key_at : List ℕ → Name → Spelled → Option Dnskey
key_at m apex s = if same s.owner apex && (s.rtype == 48) && (s.class == 1) then dnskey_of_data (data_of m s) else None

abbrev pub keys_in : List ℕ → Name → List Spelled → List Dnskey
keys_in m apex rs = filter_map (key_at m apex) rs
