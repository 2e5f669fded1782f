use Rattle.std.proofs.Common.{rules, ◌≡◌, ◌∙◌, ◌++◌, Err, ap, arith}
use Rattle.std.specs.Prelude.{slice_index_or}
use Rattle.std.proofs.lemmas.List.{take_all}
use Rattle.names_builder.specs.Addresses.{decimal_label, decimal_labels}
use Rattle.names_builder.specs.declared.push_error.PushError.TheVariants.{ShortBuf}
use Rattle.names_builder.proofs.Numbers.{ended_with, is_ended, more_labels, one_octet}
use Rattle.names_builder.proofs.Room.{for_want_of_room, decimal_fits}
use Rattle.names_builder.proofs.reverse.append_octets.Goals as goal

pub loop-octet-init : goal.loop-octet-init
loop-octet-init c = is_ended c.args.builder.now c.requires.closed

pub loop-octet-preserved : goal.loop-octet-preserved
loop-octet-preserved c =
    let xs = c.args.octets.now in
    let i = c.loop-octet.octet-index in
    c.in_ok-append_dec_u8_label.ensures.ok ∙ more_labels c.loop-octet.builder _ _ c.loop-octet.invariant ∙ ap ended_with (one_octet decimal_label xs i c.args.builder.now.done (omega arith))

pub returns-clause-labels : goal.returns-clause-labels
returns-clause-labels c =
    c.loop-octet.invariant
    ∙ ap (λ xs. ended_with (c.args.builder.now.done ++ decimal_labels xs)) (take_all c.loop-octet.octet-index c.args.octets.now (omega arith))

pub returns-in_err-append_dec_u8_label-clause-memory : goal.returns-in_err-append_dec_u8_label-clause-memory
returns-in_err-append_dec_u8_label-clause-memory c =
    let xs = c.args.octets.now in
    let i = c.loop-octet.octet-index in
    let refused = c.in_err-append_dec_u8_label in
    let full : refused.field-0.0 ≡ ShortBuf = for_want_of_room refused.field-0.0 _ (λ e. refused.ensures.long_label (ap Err e)) (λ e. refused.ensures.long_name.0 (ap Err e)) (decimal_fits c.loop-octet.builder c.args.builder.now.done xs i (slice_index_or xs i 0) c.loop-octet.invariant c.requires.room (omega arith)) in
    search rules
