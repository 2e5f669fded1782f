use Rattle.std.proofs.Common.{◌≡◌, ◌+◌, ◌++◌, ℕ, List, length, sym, ap, ◌∙◌}
use Rattle.std.specs.Prelude.{Option, None, Some}
use Rattle.std.specs.Option.{option_map}
use Rattle.definitions.specs.Limits.{pointer_limit}
use Rattle.definitions.specs.Name.{Name, wire}
use Rattle.messages.specs.Message.{data_of, nsec_at}
use Rattle.messages.specs.Record.{link_of, spelled}
use Rattle.messages.proofs.InFull.{in_full}
use Rattle.messages.proofs.view.ViewRecord.nsec_data.Goals as goal

pub returns-then-is_in_full : goal.returns-then-is_in_full
returns-then-is_in_full c =
    let m = c.args.message.now in
    let r = spelled c.args.self.now in
    let l = link_of c.in-Some.link in
    let octets = c.octets-octets.result.now in
    let read : nsec_at pointer_limit m r ≡ Some l = sym c.link.ensures ∙ ap (option_map link_of) c.in-Some.is in
    let long : length (data_of m r) ≡ length (wire l.0) + length l.1 = ap length (sym c.octets-octets.ensures.data) ∙ c.is_in_full.ensures c.if-is_in_full.true in
    let is : octets ≡ wire l.0 ++ l.1 = c.octets-octets.ensures.data ∙ in_full m r l read long in
    let canonical : Option (Name × List ℕ) → Option (List ℕ) = λ o. elim o [ None ↦ None | Some n ↦ Some (wire n.0 ++ n.1) ] in
    ap (λ (x : List ℕ). Some x) is ∙ ap canonical (sym read)
