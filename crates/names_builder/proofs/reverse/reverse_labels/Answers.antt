use Rattle.std.proofs.Common.{rules, ◌≡◌, ◌∙◌, ◌≤◌, ◌*◌, Err, length, take, drop, ap, arith}
use Rattle.names_builder.specs.Addresses.{below_in_addr, below_ip6}
use Rattle.names_builder.specs.Building.{octets_of_building, with_labels}
use Rattle.names_builder.specs.declared.push_error.PushError.TheVariants.{ShortBuf}
use Rattle.names_builder.proofs.Builds.{longer_labels}
use Rattle.names_builder.proofs.Room.{for_want_of_room, length-of_octets, length-of_nibbles}
use Rattle.names_builder.proofs.reverse.reverse_labels.Goals.{in-V4+in_ok-append_octets-in-V4+in_ok-append_label-in-V4, in-V6+in_ok-append_nibbles-in-V6+in_ok-append_label-in-V6}
use Rattle.names_builder.proofs.reverse.reverse_labels.Goals as goal

pub returns-in_err-append_label-in-V4-clause-memory : goal.returns-in_err-append_label-in-V4-clause-memory
returns-in_err-append_label-in-V4-clause-memory c =
    let refused = c.in_err-append_label-in-V4 in
    let b = c.append_octets.new.builder in
    let xs = c.reverse.new.self in
    let four : length xs ≡ 4 = omega arith in
    let few : length (octets_of_building b) ≤ 4 * length xs = length-of_octets b c.new-builder.result xs c.new-builder.ensures c.in_ok-append_octets-in-V4.ensures.labels in
    let full : refused.field-0.0 ≡ ShortBuf = for_want_of_room refused.field-0.0 _ (λ e. absurd (omega (arith, refused.ensures.long_label.0 (ap Err e)))) (λ e. (refused.ensures.long_name.0 (ap Err e)).1) (omega (arith, longer_labels b (take 1 below_in_addr))) in
    search rules

pub returns-in_err-append_label-in-V6-clause-memory : goal.returns-in_err-append_label-in-V6-clause-memory
returns-in_err-append_label-in-V6-clause-memory c =
    let refused = c.in_err-append_label-in-V6 in
    let b = c.append_nibbles.new.builder in
    let xs = c.reverse-in-V6.new.self in
    let sixteen : length xs ≡ 16 = omega arith in
    let few : length (octets_of_building b) ≤ 4 * length xs = length-of_nibbles b c.new-builder.result xs c.new-builder.ensures c.in_ok-append_nibbles-in-V6.ensures.labels in
    let full : refused.field-0.0 ≡ ShortBuf = for_want_of_room refused.field-0.0 _ (λ e. absurd (omega (arith, refused.ensures.long_label.0 (ap Err e)))) (λ e. (refused.ensures.long_name.0 (ap Err e)).1) (omega (arith, longer_labels b (take 1 below_ip6))) in
    search rules

pub returns-in_err-append_label-clause-memory : goal.returns-in_err-append_label-clause-memory
returns-in_err-append_label-clause-memory c =
    let refused = c.in_err-append_label in
    let b = c.match-addr.builder in
    let few : length (octets_of_building b) ≤ 68 = elim c.match-addr.branch [
      | in-V4+in_ok-append_octets-in-V4+in_ok-append_label-in-V4 w ↦
          let before = w.append_octets.new.builder in
          let xs = w.reverse.new.self in
          let four : length xs ≡ 4 = omega arith in
          let digits : length (octets_of_building before) ≤ 4 * length xs = length-of_octets before c.new-builder.result xs c.new-builder.ensures w.in_ok-append_octets-in-V4.ensures.labels in
          let is : b ≡ with_labels before (take 1 below_in_addr) = w.builder-is ∙ w.in_ok-append_label-in-V4.ensures.ok in
          omega (arith, ap (λ x. length (octets_of_building x)) is, longer_labels before (take 1 below_in_addr))
      | in-V6+in_ok-append_nibbles-in-V6+in_ok-append_label-in-V6 w ↦
          let before = w.append_nibbles.new.builder in
          let xs = w.reverse-in-V6.new.self in
          let sixteen : length xs ≡ 16 = omega arith in
          let digits : length (octets_of_building before) ≤ 4 * length xs = length-of_nibbles before c.new-builder.result xs c.new-builder.ensures w.in_ok-append_nibbles-in-V6.ensures.labels in
          let is : b ≡ with_labels before (take 1 below_ip6) = w.builder-is ∙ w.in_ok-append_label-in-V6.ensures.ok in
          omega (arith, ap (λ x. length (octets_of_building x)) is, longer_labels before (take 1 below_ip6))
    ] in
    let full : refused.field-0.0 ≡ ShortBuf = for_want_of_room refused.field-0.0 _ (λ e. absurd (omega (arith, refused.ensures.long_label.0 (ap Err e)))) (λ e. (refused.ensures.long_name.0 (ap Err e)).1) (omega (arith, few, longer_labels b (drop 1 below_ip6))) in
    search rules
