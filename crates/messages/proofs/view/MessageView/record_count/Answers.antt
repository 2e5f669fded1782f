use Rattle.std.proofs.Common.{◌∙◌, ap, length, sym}
use Rattle.messages.specs.Message.{Message}
use Rattle.messages.proofs.CountedRecords.{read_length}
use Rattle.messages.proofs.view.MessageView.record_count.Goals as goal

pub returns : goal.returns
returns c =
    sym (read_length c.self.inside.count c.self.inside.bytes.now c.self.inside.first c.self.invariant)
    ∙ ap (λ (v : Message). length v.records) c.self.view_is
