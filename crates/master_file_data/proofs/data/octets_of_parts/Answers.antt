use Rattle.std.proofs.Common.{◌≡◌, ◌<◌, ◌≤◌, ◌+◌, ◌++◌, [], List, ℕ, arith, drop, get_or, length, option_map, sym, subst}
use Rattle.std.proofs.lemmas.Grind.{common_steps}
use Rattle.master_file_data.specs.declared.layout.Part.TheVariants as p
use Rattle.master_file_data.specs.Parts.{AreParts}
use Rattle.master_file_data.proofs.Steps.{drop_at, none_left, parts_all, parts_step}
use Rattle.master_file_data.proofs.data.octets_of_parts.Goals as goal

pub loop-part-preserved : goal.loop-part-preserved
loop-part-preserved c =
    let ps = c.args.parts.now in
    let i = c.loop-part.part-index in
    let origin = option_map (λ n. n.now) c.args.origin in
    let out = c.loop-part.out.items in
    let head = c.in_ok-octets.octets.items in
    let inside : i < length ps = omega arith in
    let items : c.extend_from_slice.new.self.items ≡ out ++ head = grind (arith, common_steps) in
    let step = parts_step ps (drop i ps) (drop (i + 1) ps) (get_or ps i p.Name) origin c.args.fields.now c.loop-part.rest.now c.in_ok-octets.behind.now out head c.loop-part.invariant (drop_at ps i p.Name inside) c.in_ok-octets.ensures in
    subst (λ (l : List ℕ). (os : List ℕ) → AreParts (drop (i + 1) ps) origin c.in_ok-octets.behind.now os → AreParts ps origin c.args.fields.now (l ++ os)) (sym items) step

pub returns-then-is_empty : goal.returns-then-is_empty
returns-then-is_empty c =
    let ps = c.args.parts.now in
    let i = c.loop-part.part-index in
    let past : length ps ≤ i = omega arith in
    let none : c.loop-part.rest.now ≡ [] = grind (arith, common_steps) in
    parts_all ps (drop i ps) (option_map (λ n. n.now) c.args.origin) c.args.fields.now c.loop-part.rest.now c.loop-part.out.items c.loop-part.invariant (none_left ps i past) none
