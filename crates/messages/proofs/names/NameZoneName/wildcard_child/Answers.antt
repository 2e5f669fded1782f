use Rattle.std.proofs.Common.{◌≡◌, ◌∷◌, ◌≤◌, [], refl, arith}
use Rattle.definitions.specs.Name.{wire, wire_len}
use Rattle.messages.proofs.NameLaws.{wire_len-star}
use Rattle.messages.proofs.NameFlat.{never_none, row_len, spelled_one, star_octets, star_spells}
use Rattle.messages.proofs.names.NameZoneName.wildcard_child.Goals as goal

pub returns-then-run-gt253-clause-none : goal.returns-then-run-gt253-clause-none
returns-then-run-gt253-clause-none g c = (
  λ h. omega (arith, row_len c.as_slice-run.result.now c.args.self.now c.as_slice-run.ensures.value, wire_len-star c.args.self.now, c.if-run-gt253.true),
  λ h. refl,
)

pub returns-clause-some : goal.returns-clause-some
returns-clause-some g c =
    let n = c.args.self.now in
    let bs = c.extend_from_slice-2.new.self.items in
    let e : bs ≡ wire ((42 ∷ []) ∷ n) =
    star_octets bs c.in_ok-octets.octets.items c.extend_from_slice.new.self.items c.as_slice-run.result.now n c.in_ok-octets.ensures.items c.in_ok-extend_from_slice.ensures.items c.in_ok-extend_from_slice-2.ensures.items c.as_slice-run.ensures.value in
    spelled_one bs ((42 ∷ []) ∷ n) c.from_octets.result c.ok.result c.ok.ensures.value c.from_octets.ensures.ok e

pub returns-clause-none : goal.returns-clause-none
returns-clause-none g c =
    let n = c.args.self.now in
    let bs = c.extend_from_slice-2.new.self.items in
    let e : bs ≡ wire ((42 ∷ []) ∷ n) =
    star_octets bs c.in_ok-octets.octets.items c.extend_from_slice.new.self.items c.as_slice-run.result.now n c.in_ok-octets.ensures.items c.in_ok-extend_from_slice.ensures.items c.in_ok-extend_from_slice-2.ensures.items c.as_slice-run.ensures.value in
    let short : wire_len n ≤ 253 = omega (arith, row_len c.as_slice-run.result.now n c.as_slice-run.ensures.value, c.if-run-gt253.false) in
    let there = c.from_octets.ensures.accepts.1 ((42 ∷ []) ∷ n, star_spells bs n e c.as_slice-run.ensures.name short) in (
      λ z. never_none c.from_octets.result c.ok.result c.ok.ensures.value there z,
      λ h. absurd (omega (arith, h, short, wire_len-star n)),
    )
