use Rattle.std.proofs.Common.{◌≡◌, ◌∙◌, ◌-◌, ◌≤◌, IfOk, ap, arith, drop, length, subst, sym}
use Rattle.std.proofs.lemmas.Result.{IfOk-weaker}
use Rattle.definitions.specs.Name.{wire_len}
use Rattle.definitions.specs.Zone.{star_under}
use Rattle.names_labels.specs.Flat.{name_in}
use Rattle.names_labels.proofs.Checks.{spells_flat}
use Rattle.names_flat.proofs.Splits.{read_name}
use Rattle.messages.proofs.NameFlat.{suffix_room, suffix_spells, wire_run}
use Rattle.messages.proofs.names.NameZoneName.suffix.Goals as goal

pub behind-requires : goal.behind-requires
behind-requires g c = wire_run c.as_slice.result.now c.args.self.now c.as_slice.ensures.value c.as_slice.ensures.name

pub copied-requires : goal.copied-requires
copied-requires g c =
    let k = c.depth.result - c.args.count in
    spells_flat c.behind.result.now (drop k c.args.self.now)
    (suffix_spells c.behind.result.now c.as_slice.result.now c.args.self.now k (omega (arith, c.depth.ensures)) c.as_slice.ensures.value c.as_slice.ensures.name c.behind.ensures.run c.behind.ensures.labels)

pub returns-clause-labels : goal.returns-clause-labels
returns-clause-labels g c =
    let k = c.depth.result - c.args.count in
    let s = suffix_spells c.behind.result.now c.as_slice.result.now c.args.self.now k (omega (arith, c.depth.ensures)) c.as_slice.ensures.value c.as_slice.ensures.name c.behind.ensures.run c.behind.ensures.labels in
    let to : drop k c.args.self.now ≡ drop (length c.args.self.now - c.args.count) c.args.self.now = ap (λ d. drop (d - c.args.count) c.args.self.now) c.depth.ensures in
    subst (λ m. IfOk c.copied.result (λ n. n ≡ m)) (read_name c.behind.result.now (drop k c.args.self.now) s ∙ to) c.copied.ensures

pub returns-clause-room : goal.returns-clause-room
returns-clause-room g c = λ h.
    let k = c.depth.result - c.args.count in
    let s = suffix_spells c.behind.result.now c.as_slice.result.now c.args.self.now k (omega (arith, c.depth.ensures)) c.as_slice.ensures.value c.as_slice.ensures.name c.behind.ensures.run c.behind.ensures.labels in
    let room = suffix_room c.behind.result.now c.args.self.now k c.as_slice.ensures.name (omega (arith, c.depth.ensures, h)) (omega (arith, c.depth.ensures)) s in
    IfOk-weaker c.copied.result (λ n. n ≡ name_in c.behind.result.now) (λ n. wire_len (star_under n) ≤ 255) (λ n e. subst (λ x. wire_len (star_under x) ≤ 255) (sym e) room) c.copied.ensures
