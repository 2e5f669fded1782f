use Rattle.std.proofs.Common.{◌≡◌, ◌-◌, take, length, ap, subst, ◌∙◌, arith}
use Rattle.std.specs.Fmt.{HasWritten}
use Rattle.names_labels.specs.Flat.{labels_in}
use Rattle.names_labels.specs.Dotted.{dotted}
use Rattle.names_labels.proofs.Texts.{dotted_some, without_dot}
use Rattle.names_labels.proofs.text.write_labels_in.Goals as goal

pub without_last-requires-clause-some : goal.without_last-requires-clause-some
without_last-requires-clause-some g c =
    omega (arith, ap length c.write_run-end.ensures.text, dotted_some (labels_in c.args.run.now) c.requires.some)

pub returns : goal.returns
returns g c = λ p h.
    let labels = labels_in c.args.run.now in
    let whole : take c.write_run-end.result c.write_run-end.new.characters ≡ dotted labels = c.write_run-end.ensures.text in
    subst (λ t. HasWritten g.W.Write.write_str_gives c.args.f.now t c.write_str.new.self) (c.without_last.ensures ∙ ap (λ t. take (length t - 1) t) whole ∙ without_dot labels c.requires.some) (c.write_str.ensures.writes p h)
