use Rattle.std.proofs.Common.{◌≡◌, ◌-◌, ◌++◌, ◌∷◌, [], length, ap, sym, refl, ◌∙◌, true, arith}
use Rattle.definitions.specs.Name.{at_or_above}
use Rattle.names_labels.specs.Flat.{spelled}
use Rattle.names_flat.proofs.Stripped.{at_or_above-rooted, strips, suffix_starts, stripped, rooted_place, rooted_within}
use Rattle.names_flat.proofs.name.Name.strip_suffix.Goals as goal

pub returns-then-not-ends_with-clause-err : goal.returns-then-not-ends_with-clause-err
returns-then-not-ends_with-clause-err g c =
    let b = g.N.Labels.name c.args.base.now in
    let above : c.ends_with.result ≡ at_or_above b c.args.self =
    c.ends_with.ensures ∙ ap (λ m. at_or_above m (c.args.self ++ [] ∷ [])) (g.met.N.Absolute.rooted c.args.base.now) ∙ at_or_above-rooted b c.args.self in
    (λ h. sym above ∙ c.if-not-ends_with.true, λ h. refl)

pub overflow_sub-len : goal.overflow_sub-len
overflow_sub-len g c =
    let b = g.N.Labels.name c.args.base.now in
    let root = g.met.N.Absolute.rooted c.args.base.now in
    let above : at_or_above b c.args.self ≡ true =
    sym (c.ends_with.ensures ∙ ap (λ m. at_or_above m (c.args.self ++ [] ∷ [])) root ∙ at_or_above-rooted b c.args.self) ∙ c.if-not-ends_with.false in
    omega (arith, rooted_within b c.args.self (strips b c.args.self above), ap length c.as_slice.ensures.value, c.from.ensures, c.compose_len.ensures, ap (λ m. length (spelled m)) root)

pub truncate-requires : goal.truncate-requires
truncate-requires g c =
    let b = g.N.Labels.name c.args.base.now in
    let root = g.met.N.Absolute.rooted c.args.base.now in
    let above : at_or_above b c.args.self ≡ true =
    sym (c.ends_with.ensures ∙ ap (λ m. at_or_above m (c.args.self ++ [] ∷ [])) root ∙ at_or_above-rooted b c.args.self) ∙ c.if-not-ends_with.false in
    suffix_starts b c.args.self (length c.as_slice.result.now - c.from.result) (strips b c.args.self above)
    (omega (arith, rooted_place b c.args.self, ap length c.as_slice.ensures.value, c.from.ensures, c.compose_len.ensures, ap (λ m. length (spelled m)) root))

pub returns-clause-ok : goal.returns-clause-ok
returns-clause-ok g c =
    let b = g.N.Labels.name c.args.base.now in
    let root = g.met.N.Absolute.rooted c.args.base.now in
    let above : at_or_above b c.args.self ≡ true =
    sym (c.ends_with.ensures ∙ ap (λ m. at_or_above m (c.args.self ++ [] ∷ [])) root ∙ at_or_above-rooted b c.args.self) ∙ c.if-not-ends_with.false in
    let p = c.truncate.ensures.parts in (
      p.0,
      p.1,
      stripped b c.args.self (length c.as_slice.result.now - c.from.result) c.truncate.result p.0 (strips b c.args.self above)
          (omega (arith, rooted_place b c.args.self, ap length c.as_slice.ensures.value, c.from.ensures, c.compose_len.ensures, ap (λ m. length (spelled m)) root)) p.1 c.truncate.ensures.place,
    )

pub returns-clause-err : goal.returns-clause-err
returns-clause-err g c =
    let b = g.N.Labels.name c.args.base.now in
    let above : at_or_above b c.args.self ≡ true =
    sym (c.ends_with.ensures ∙ ap (λ m. at_or_above m (c.args.self ++ [] ∷ [])) (g.met.N.Absolute.rooted c.args.base.now) ∙ at_or_above-rooted b c.args.self) ∙ c.if-not-ends_with.false in
    (λ h. cc, λ h. sym h ∙ above)
