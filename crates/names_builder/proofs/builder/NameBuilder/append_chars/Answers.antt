use Rattle.std.proofs.Common.{◌≡◌, ◌++◌, ◌∙◌, true, sym, subst}
use Rattle.std.specs.Prelude.{IfErr}
use Rattle.names_wire.specs.Spelled.{SpellsNothing}
use Rattle.names_wire.proofs.OnError.{on_err}
use Rattle.names_builder.specs.FromText.{is_text, text_behind}
use Rattle.names_builder.proofs.Fronts.{text_front}
use Rattle.names_builder.proofs.builder.NameBuilder.append_chars.Goals as goal

pub put_back-requires : goal.put_back-requires
put_back-requires g c = (
  c.args.self.now,
  text_front g.C.Iterator.next_gives c.args.chars c.new.result c.args.self.now c.append_text-done.new.self (g.B.OctetsBuilder.bytes c.self.inside.builder) c.self.inside.head c.len-len.result c.append_text-done.result
      c.self.invariant c.self.view_is c.len-len.ensures.value (sym c.is_err.ensures.value ∙ c.if-is_err.true) c.append_text-done.ensures.stands,
)

pub returns-then-is_err-clause-refused : goal.returns-then-is_err-clause-refused
returns-then-is_err-clause-refused g c =
    subst (λ r. IfErr c.append_text-done.result (λ e. is_text e ≡ true → SpellsNothing g.C.Iterator.next_gives c.args.chars (λ text. text_behind c.args.self.now (r ++ text))))
    c.new.ensures c.append_text-done.ensures.refused

pub returns-then-is_err-clause-err : goal.returns-then-is_err-clause-err
returns-then-is_err-clause-err g c =
    on_err _ (c.put_back.ensures c.args.self.now
    (text_front g.C.Iterator.next_gives c.args.chars c.new.result c.args.self.now c.append_text-done.new.self (g.B.OctetsBuilder.bytes c.self.inside.builder) c.self.inside.head c.len-len.result c.append_text-done.result
    c.self.invariant c.self.view_is c.len-len.ensures.value (sym c.is_err.ensures.value ∙ c.if-is_err.true) c.append_text-done.ensures.stands))
