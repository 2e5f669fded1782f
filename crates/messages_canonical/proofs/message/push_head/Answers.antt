use Rattle.std.proofs.Common.{◌++◌, take, ap, ◌∙◌}
use Rattle.std.specs.Int.{w16, to_be_bytes}
use Rattle.std.proofs.lemmas.List.{take_min}
use Rattle.definitions.specs.Name.{wire}
use Rattle.messages_canonical.proofs.Pieces.{head_written}
use Rattle.messages_canonical.proofs.message.push_head.Goals as goal

pub returns : goal.returns
returns c =
    let m = c.args.bytes.now in
    let a = c.extend_from_slice.new.self.items in
    let b = c.put_kept.new.rdata.items in
    let d = c.push_u16.new.out.items in
    head_written m c.args.octets.now.items a b d c.push_u16-2.new.out.items c.args.view.now.asked (take c.min.result m)
    (ap (λ n. take n m) c.min.ensures ∙ take_min 12 m)
    c.in_ok-extend_from_slice.ensures.items
    (c.in_ok-put_kept.ensures ∙ ap (λ n. a ++ wire n) c.question-question.ensures.name)
    (c.in_ok-push_u16.ensures.ok ∙ ap (λ n. b ++ to_be_bytes w16 n) (c.to_int.ensures ∙ c.question-question.ensures.rtype))
    (c.in_ok-push_u16-2.ensures.ok ∙ ap (λ n. d ++ to_be_bytes w16 n) (c.to_int-2.ensures ∙ c.question-question.ensures.class))
