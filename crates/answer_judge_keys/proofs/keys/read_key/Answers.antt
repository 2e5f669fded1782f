use Rattle.std.proofs.Common.{◌+◌, ◌<◌, ℕ, length, get_or, subst, sym, List}
use Rattle.messages.specs.Record.{spelled}
use Rattle.answer_judge_keys.proofs.JudgeKeys.{data_spelled, range_small}
use Rattle.answer_judge_keys.proofs.keys.read_key.Goals as goal

pub new-requires : goal.new-requires
new-requires c =
    let r = spelled c.args.view.now in
    let small : (i : ℕ) → i < length c.octets-data.result.now → get_or c.octets-data.result.now i 0 < 256 =
    subst (λ (d : List ℕ). (i : ℕ) → i < length d → get_or d i 0 < 256) (sym c.octets-data.ensures.«data») (range_small c.args.message.now r.start (r.start + r.length) c.type_inv.message) in
    data_spelled c.octets-data.result.now c.in_ok-dnskey.dnskey small c.in_ok-dnskey.ensures
