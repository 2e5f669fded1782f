use Rattle.std.proofs.Common.{◌≡◌, [], drop, map, take}
use Rattle.keyset.specs.KeyState.{first_new_fault}
use Rattle.keyset.specs.Listing.{listed_by}
use Rattle.keyset.proofs.set.KeySet.check_new_keys.Given as goal

-- the references before are listed, and the first fault of what is left is that of all
abbrev pub invariant-loop-i : goal.invariant-loop-i
invariant-loop-i g l =
    let text = g.T.AsStr.text in
    let fault = first_new_fault l.rolltype l.self (listed_by l.old) in
    (l.before ≡ record { all = map text l.new; count = l.i })
    × (listed_by l.before ≡ map text (take l.i l.new))
    × (fault (map text (take l.i l.new)) (map text (drop l.i l.new)) ≡ fault [] (map text l.new))
