use Rattle.std.proofs.Common.{◌≡◌, ◌++◌, drop, map}
use Rattle.std.specs.Cow.{cow_slice_items}
use Rattle.definitions.specs.Dnskey.{dnskey_data}
use Rattle.answer_judge_facts.proofs.key_rrset.key_group.Given as goal

abbrev pub invariant-loop-key : goal.invariant-loop-key
invariant-loop-key l = map cow_slice_items l.items.items ++ map dnskey_data (drop l.key-index l.keys) ≡ map dnskey_data l.keys
