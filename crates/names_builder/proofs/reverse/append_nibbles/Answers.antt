use Rattle.std.proofs.Common.{rules, Err, ◌<◌, ◌≡◌, ◌∙◌, ◌++◌, ◌∷◌, ◌/◌, ◌%◌, [], take, ap, append_assoc, arith}
use Rattle.std.specs.Prelude.{slice_index_or}
use Rattle.std.proofs.lemmas.List.{take_all}
use Rattle.names_builder.specs.Addresses.{hex_digit, hex_labels}
use Rattle.names_builder.specs.declared.push_error.PushError.TheVariants.{ShortBuf}
use Rattle.names_builder.proofs.Numbers.{ended_with, is_ended, more_labels, some_nibbles, upper}
use Rattle.names_builder.proofs.Room.{for_want_of_room, low_fits, high_fits}
use Rattle.names_builder.proofs.reverse.append_nibbles.Goals as goal

pub loop-octet-init : goal.loop-octet-init
loop-octet-init c = is_ended c.args.builder.now c.requires.closed

pub loop-octet-preserved : goal.loop-octet-preserved
loop-octet-preserved c =
    let xs = c.args.octets.now in
    let i = c.loop-octet.octet-index in
    let o = slice_index_or xs i 0 in
    let built = c.args.builder.now.done ++ hex_labels (take i xs) in
    let low = (hex_digit (o % 16) ∷ []) ∷ [] in
    let high = (hex_digit (o / 16 % 16) ∷ []) ∷ [] in
    let small : o / 16 % 16 ≡ o / 16 = (let fits : o < 256 = omega (arith, c.type_inv.octets i) in upper o fits) in
    c.in_ok-append_hex_digit_label-2.ensures.ok
    ∙ more_labels c.append_hex_digit_label.new.self (built ++ low) high (c.in_ok-append_hex_digit_label.ensures.ok ∙ more_labels c.loop-octet.builder built low c.loop-octet.invariant)
    ∙ ap ended_with (append_assoc built low high ∙ ap (λ v. built ++ (low ++ (hex_digit v ∷ []) ∷ [])) small ∙ some_nibbles (λ v. (hex_digit (v % 16) ∷ []) ∷ (hex_digit (v / 16) ∷ []) ∷ []) xs i c.args.builder.now.done (omega arith))

pub returns-clause-labels : goal.returns-clause-labels
returns-clause-labels c =
    c.loop-octet.invariant
    ∙ ap (λ xs. ended_with (c.args.builder.now.done ++ hex_labels xs)) (take_all c.loop-octet.octet-index c.args.octets.now (omega arith))

pub returns-in_err-append_hex_digit_label-clause-memory : goal.returns-in_err-append_hex_digit_label-clause-memory
returns-in_err-append_hex_digit_label-clause-memory c =
    let xs = c.args.octets.now in
    let i = c.loop-octet.octet-index in
    let refused = c.in_err-append_hex_digit_label in
    let full : refused.field-0.0 ≡ ShortBuf = for_want_of_room refused.field-0.0 _ (λ e. refused.ensures.long_label (ap Err e)) (λ e. refused.ensures.long_name.0 (ap Err e)) (low_fits c.loop-octet.builder c.args.builder.now.done xs i _ c.loop-octet.invariant c.requires.room (omega arith)) in
    search rules

pub returns-in_err-append_hex_digit_label-2-clause-memory : goal.returns-in_err-append_hex_digit_label-2-clause-memory
returns-in_err-append_hex_digit_label-2-clause-memory c =
    let xs = c.args.octets.now in
    let i = c.loop-octet.octet-index in
    let refused = c.in_err-append_hex_digit_label-2 in
    let full : refused.field-0.0 ≡ ShortBuf = for_want_of_room refused.field-0.0 _ (λ e. refused.ensures.long_label (ap Err e)) (λ e. refused.ensures.long_name.0 (ap Err e)) (high_fits c.loop-octet.builder c.append_hex_digit_label.new.self c.args.builder.now.done xs i _ _ c.loop-octet.invariant c.in_ok-append_hex_digit_label.ensures.ok c.requires.room (omega arith)) in
    search rules
