use Rattle.std.proofs.Common.{◌≡◌, map, take}
use Rattle.std.specs.List.{AllByRecursion, filter}
use Rattle.messages.specs.HandedRr.{handed_of}
use Rattle.server_glue.specs.Glue.{IsAddress, is_address}
use Rattle.server_glue.proofs.addresses.copied_addresses.Given as goal

abbrev pub invariant-loop-record : goal.invariant-loop-record
invariant-loop-record l = record {
  copies : map handed_of l.addresses.items ≡ filter is_address (map handed_of (take l.record-index l.records));
  each : AllByRecursion IsAddress (map handed_of l.addresses.items);
}
