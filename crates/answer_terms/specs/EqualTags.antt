-- Keys that a signature can't tell apart by their tag.
use Rattle.std.specs.Prelude.{Bool, List, not, ◌&&◌, ◌==◌}
use Rattle.std.specs.List.{list_any}
use Rattle.definitions.specs.Dnskey.{Dnskey, key_tag, same_key}

-- two unlike keys of one tag
abbrev pub clashes : Dnskey → Dnskey → Bool
clashes a b = (key_tag a == key_tag b) && not (same_key a b)

abbrev pub has_equal_tags : List Dnskey → Bool
has_equal_tags ks = list_any (λ a. list_any (clashes a) ks) ks
