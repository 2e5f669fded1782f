use Rattle.std.proofs.Common.{ap, ◌∙◌, ◌++◌, ◌∷◌, [], inl, inr}
use Rattle.std.proofs.lemmas.Result.{err_from_is_err_and}
use Rattle.names_builder.specs.declared.text_error.Fault.TheVariants.{Symbol as BadText}
use Rattle.definitions.specs.Text.{symbols_of}
use Rattle.names_wire.specs.Symbols.{symbol_of, followed_by, left_of}
use Rattle.names_builder.proofs.FromTexts.{made_whole, text_step, text_stops, whole_fault}
use Rattle.names_builder.proofs.builder.NameBuilder.push_char.Goals as goal

pub returns-in_ok-push_symbol-clause-ok : goal.returns-in_ok-push_symbol-clause-ok
returns-in_ok-push_symbol-clause-ok g c = λ rest.
    text_step c.args.self.now c.push_symbol.new.self (c.args.reader.now ++ c.args.ch ∷ rest) (c.push.new.self ++ rest) (symbol_of c.in-Some.symbol)
    (c.in_ok-symbol.ensures.read rest ∙ ap (λ o. followed_by o (symbols_of (c.push.new.self ++ rest))) c.in-Some.is) c.in_ok-push_symbol.ensures.ok

pub returns-in_ok-push_symbol-clause-adds : goal.returns-in_ok-push_symbol-clause-adds
returns-in_ok-push_symbol-clause-adds g c =
    let left = c.in_ok-symbol.ensures.left ∙ ap (λ o. left_of o (c.args.reader.now ++ c.args.ch ∷ [])) c.in-Some.is in
    inr (
      symbol_of c.in-Some.symbol,
      made_whole (symbol_of c.in-Some.symbol) c.args.reader.now c.push.new.self c.args.ch
          (λ rest. c.in_ok-symbol.ensures.read rest ∙ ap (λ o. followed_by o (symbols_of (c.push.new.self ++ rest))) c.in-Some.is) left,
      c.in_ok-push_symbol.ensures.ok,
      left,
    )

pub returns-in_err-symbol-clause-fault : goal.returns-in_err-symbol-clause-fault
returns-in_err-symbol-clause-fault g c =
    let p = err_from_is_err_and c.from_residual.result c.from_residual.ensures.1 in
    rw (p.1, p.2.1) (inl (c.in_err-symbol.ensures.stops, c.in_err-symbol.ensures.err, ap BadText c.in_err-symbol.ensures.kind))

pub returns-in_err-push_symbol-clause-fault : goal.returns-in_err-push_symbol-clause-fault
returns-in_err-push_symbol-clause-fault g c =
    let p = err_from_is_err_and c.from_residual-in_err-push_symbol.result c.from_residual-in_err-push_symbol.ensures.1 in
    rw (p.1, p.2) (whole_fault c.args.self.now (symbol_of c.in-Some.symbol) c.args.reader.now c.args.ch c.in_err-push_symbol.field-0.0
    (made_whole (symbol_of c.in-Some.symbol) c.args.reader.now c.push.new.self c.args.ch
    (λ rest. c.in_ok-symbol.ensures.read rest ∙ ap (λ o. followed_by o (symbols_of (c.push.new.self ++ rest))) c.in-Some.is)
    (c.in_ok-symbol.ensures.left ∙ ap (λ o. left_of o (c.args.reader.now ++ c.args.ch ∷ [])) c.in-Some.is)) c.in_err-push_symbol.ensures.fault)

pub returns-in_err-push_symbol-clause-refused : goal.returns-in_err-push_symbol-clause-refused
returns-in_err-push_symbol-clause-refused g c =
    let p = err_from_is_err_and c.from_residual-in_err-push_symbol.result c.from_residual-in_err-push_symbol.ensures.1 in
    rw (p.1, p.2) (λ h rest. text_stops c.args.self.now (c.args.reader.now ++ c.args.ch ∷ rest) (c.push.new.self ++ rest) (symbol_of c.in-Some.symbol)
    (c.in_ok-symbol.ensures.read rest ∙ ap (λ o. followed_by o (symbols_of (c.push.new.self ++ rest))) c.in-Some.is) (c.in_err-push_symbol.ensures.refused h))
