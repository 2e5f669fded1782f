-- What a DNAME makes of a name below its owner.
use Rattle.std.proofs.Common.{◌≡◌, ◌+◌, ◌-◌, ◌<◌, Bool, true, ◌++◌, length, take, sym, ap, ◌∙◌, arith, length-append}
use Rattle.std.specs.Prelude.{nat_le, if◌then◌else◌}
use Rattle.std.proofs.lemmas.Bool.{lt-leb}
use Rattle.std.proofs.lemmas.List.{take_at}
use Rattle.definitions.specs.Name.{Name, same, wire_len}
use Rattle.definitions.proofs.ZoneNames.{same-length}
use Rattle.denial_laws.specs.Leading.{Lead, To, TooLong, exchanged}
use Rattle.names_labels.specs.Flat.{spelled}
use Rattle.names_labels.proofs.Checks.{length-spelled_sum}
use Rattle.names_labels.proofs.Wholes.{wire_len-append}

abbrev told_by : Name → Lead
told_by n = if nat_le (wire_len n) 255 then To n else TooLong

module _ (name owner target front suffix : Name) (parts : front ++ suffix ≡ name) (is : same owner suffix ≡ true) where
  -- the labels in front of the owner's
  front_is : take (length name - length owner) name ≡ front
  front_is =
      let even : length owner ≡ length suffix = same-length owner suffix is in
      let whole : length name ≡ length front + length suffix = ap length (sym parts) ∙ length-append front suffix in
      ap (take (length name - length owner)) (sym parts) ∙ take_at front suffix (length name - length owner) (omega (arith, even, whole))

  told_is : told_by (front ++ target) ≡ exchanged name owner target
  told_is = sym (ap (λ n. told_by (n ++ target)) front_is)

  -- octets of what it makes, and the root's
  octets_are : wire_len (front ++ target) ≡ length (spelled front) + length (spelled target) + 1
  octets_are = omega (arith, wire_len-append front target, length-spelled_sum front, length-spelled_sum target)

  pub leads_nowhere : 254 < length (spelled front) + length (spelled target) → TooLong ≡ exchanged name owner target
  leads_nowhere long = ap (λ (b : Bool). if b then To (front ++ target) else TooLong) (sym (lt-leb (wire_len (front ++ target)) 255 (omega (arith, octets_are)))) ∙ told_is
