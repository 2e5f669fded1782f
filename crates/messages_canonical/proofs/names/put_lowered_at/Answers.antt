use Rattle.std.proofs.Common.{◌≡◌, ◌++◌, length, take, drop, ap, ◌∙◌, arith}
use Rattle.std.specs.Str.{str_to_ascii_lowercase}
use Rattle.messages_canonical.proofs.NamesInFull.{grows, lowered_behind}
use Rattle.messages_canonical.proofs.names.put_lowered_at.Goals as goal

pub lower_behind-requires : goal.lower_behind-requires
lower_behind-requires c =
    let more = grows c.args.message.now c.args.start c.args.rdata.now.items c.put_name_at.new.rdata.items c.requires c.in_ok-put_name_at.ensures in
    omega (arith, c.len-len.ensures, more)

pub returns : goal.returns
returns c =
    let old = c.args.rdata.now.items in
    let new = c.put_name_at.new.rdata.items in
    let count : c.len-len.result ≡ length old = omega (arith, c.len-len.ensures, c.args.rdata.now.ok.0) in
    lowered_behind c.args.message.now c.args.start old new c.lower_behind.new.rdata.items c.requires c.in_ok-put_name_at.ensures
    (c.lower_behind.ensures ∙ ap (λ n. take n new ++ str_to_ascii_lowercase (drop n new)) count)
