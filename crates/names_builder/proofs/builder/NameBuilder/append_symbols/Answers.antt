use Rattle.std.proofs.Common.{◌∙◌, sym}
use Rattle.names_wire.proofs.OnError.{on_err}
use Rattle.names_builder.proofs.Fronts.{symbols_front}
use Rattle.names_builder.proofs.builder.NameBuilder.append_symbols.Goals as goal

pub put_back-requires : goal.put_back-requires
put_back-requires g c = (
  c.args.self.now,
  symbols_front g.S.Iterator.next_gives c.args.symbols c.args.self.now c.add_symbols-done.new.self (g.B.OctetsBuilder.bytes c.self.inside.builder) c.self.inside.head c.len-len.result c.add_symbols-done.result
      c.self.invariant c.self.view_is c.len-len.ensures.value (sym c.is_err.ensures.value ∙ c.if-is_err.true) c.add_symbols-done.ensures.refused,
)

pub returns-then-is_err-clause-err : goal.returns-then-is_err-clause-err
returns-then-is_err-clause-err g c =
    on_err _ (c.put_back.ensures c.args.self.now
    (symbols_front g.S.Iterator.next_gives c.args.symbols c.args.self.now c.add_symbols-done.new.self (g.B.OctetsBuilder.bytes c.self.inside.builder) c.self.inside.head c.len-len.result c.add_symbols-done.result
    c.self.invariant c.self.view_is c.len-len.ensures.value (sym c.is_err.ensures.value ∙ c.if-is_err.true) c.add_symbols-done.ensures.refused))
