use Rattle.std.proofs.Common.{◌∙◌, ap, drop, sym, take, arith}
use Rattle.std.specs.Int.{w64, from_le_bytes}
use Rattle.std.proofs.lemmas.Nat.{le_bytes_8}
use Rattle.std.proofs.lemmas.List.{length-take-le, length-drop}
use Rattle.names_labels.proofs.Tails.{eight_taken, octets_below}
use Rattle.names_labels.proofs.order.eight_at.Goals as goal

pub returns : goal.returns
returns c =
    let xs = c.args.octets.now in
    let p = c.args.place in
    le_bytes_8 (take 8 (drop p xs)) c.from_le_bytes.result (length-take-le 8 (drop p xs) (omega (arith, c.requires, length-drop p xs)))
    (octets_below xs p (λ i. (c.type_inv.octets i).fits))
    (c.from_le_bytes.ensures ∙ ap (from_le_bytes w64) (sym (eight_taken xs p c.requires)))
