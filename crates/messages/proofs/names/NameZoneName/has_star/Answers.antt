use Rattle.std.proofs.Common.{◌∙◌, ◌∷◌, [], ap}
use Rattle.std.specs.List.{list_any}
use Rattle.std.specs.Str.{bytes_eq}
use Rattle.messages.proofs.NameFlat.{star_rooted, wire_labels, wire_run}
use Rattle.messages.proofs.names.NameZoneName.has_star.Goals as goal

pub loop-label-init : goal.loop-label-init
loop-label-init g c =
    let s = c.as_slice-rest in
    let n = c.args.self.now in
    record { row = wire_run s.result.now n s.ensures.value s.ensures.name; left = ap (list_any (bytes_eq (42 ∷ []))) (wire_labels s.result.now n s.ensures.value) ∙ star_rooted n }
