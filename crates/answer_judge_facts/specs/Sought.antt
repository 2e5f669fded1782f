-- Which RRsets a judge seeks in a message.
use Rattle.std.specs.Prelude.{ℕ, Bool, ◌&&◌, ◌||◌, ◌==◌, List, length, map}
use Rattle.definitions.specs.Name.{Name, same, at_or_above}
use Rattle.definitions.specs.Dnskey.{Dnskey, dnskey_data}
use Rattle.definitions.specs.Zone.{sorted_data}
use Rattle.messages.specs.Message.{Spelled}
use Rattle.answer_judge_facts.specs.Verified.{is_hash_alone, rrset_in}

-- the RRsets that are sought: a test of owner and type, and their canonical data
pub record Sought : Type 0 where
  pub is : Name → ℕ → Bool
  pub datas : Name → ℕ → List (List ℕ)

-- the RRset of the keys
abbrev pub keys_sought : Name → List Dnskey → Sought
keys_sought apex ks = record { is = λ o t. (48 == t) && same o apex; datas = λ o t. sorted_data (map dnskey_data ks) }

-- an owner at or below the apex, whose NSEC RRset is one record
abbrev pub is_alone : ℕ → List ℕ → Name → List Spelled → Name → Bool
is_alone k m apex rs owner = at_or_above apex owner && (length (rrset_in k m rs owner 47) == 1)

-- the RRset that was asked for, and the NSEC and NSEC3 RRsets of one record
abbrev pub answer_sought : ℕ → List ℕ → Name → List Spelled → Name → ℕ → Sought
answer_sought k m apex rs name rtype = record {
  is = λ o t. ((47 == t) && is_alone k m apex rs o) || ((50 == t) && is_hash_alone k m apex rs o) || ((rtype == t) && same o name);
  datas = λ o t. rrset_in k m rs o t;
}
