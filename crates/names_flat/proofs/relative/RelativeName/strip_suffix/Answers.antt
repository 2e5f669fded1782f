use Rattle.std.proofs.Common.{◌≡◌, ◌-◌, length, ap, sym, ◌∙◌, true, arith}
use Rattle.definitions.specs.Name.{at_or_above}
use Rattle.names_labels.specs.Flat.{spelled}
use Rattle.names_flat.proofs.Stripped.{strips, suffix_starts, suffix_within, stripped}
use Rattle.names_flat.proofs.relative.RelativeName.strip_suffix.Goals as goal

pub overflow_sub-len : goal.overflow_sub-len
overflow_sub-len g c =
    let b = g.N.Labels.name c.args.base.now in
    let same = g.met.N.Relative.unrooted c.args.base.now in
    let above : at_or_above b c.args.self.now ≡ true = sym (c.ends_with.ensures ∙ ap (λ m. at_or_above m c.args.self.now) same) ∙ c.if-not-ends_with.false in
    omega (arith, suffix_within b c.args.self.now (strips b c.args.self.now above), c.len.ensures, c.from.ensures, c.compose_len.ensures, ap (λ m. length (spelled m)) same)

pub truncate-requires : goal.truncate-requires
truncate-requires g c =
    let b = g.N.Labels.name c.args.base.now in
    let same = g.met.N.Relative.unrooted c.args.base.now in
    let above : at_or_above b c.args.self.now ≡ true = sym (c.ends_with.ensures ∙ ap (λ m. at_or_above m c.args.self.now) same) ∙ c.if-not-ends_with.false in
    suffix_starts b c.args.self.now (c.len.result - c.from.result) (strips b c.args.self.now above)
    (omega (arith, c.len.ensures, c.from.ensures, c.compose_len.ensures, ap (λ m. length (spelled m)) same))

pub returns-clause-ok : goal.returns-clause-ok
returns-clause-ok g c =
    let b = g.N.Labels.name c.args.base.now in
    let same = g.met.N.Relative.unrooted c.args.base.now in
    let above : at_or_above b c.args.self.now ≡ true = sym (c.ends_with.ensures ∙ ap (λ m. at_or_above m c.args.self.now) same) ∙ c.if-not-ends_with.false in
    let p = c.truncate.ensures.parts in (
      p.0,
      p.1,
      stripped b c.args.self.now (c.len.result - c.from.result) c.truncate.new.self p.0 (strips b c.args.self.now above)
          (omega (arith, c.len.ensures, c.from.ensures, c.compose_len.ensures, ap (λ m. length (spelled m)) same)) p.1 c.truncate.ensures.place,
    )
