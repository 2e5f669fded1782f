use Rattle.std.proofs.Common.{◌≡◌, ℕ, List, None, ap, sym, ◌∙◌, ◌++◌, ◌∷◌}
use Rattle.definitions.specs.Text.{symbols_of}
use Rattle.names_wire.specs.Pending.{pending_text}
use Rattle.names_wire.proofs.OnError.{on_err}
use Rattle.names_wire.proofs.symbol.SymbolReader.push.Goals as goal

pub returns-in_err-symbol-in-TwoDigits-clause-err : goal.returns-in_err-symbol-in-TwoDigits-clause-err
returns-in_err-symbol-in-TwoDigits-clause-err c = on_err {P = (rest : List ℕ) → symbols_of (c.args.self.now ++ c.args.ch ∷ rest) ≡ None} _ (λ rest.
    ap (λ t. symbols_of (t ++ c.args.ch ∷ rest)) (sym c.self.view_is ∙ ap pending_text c.in-TwoDigits.is)
    ∙ ap (λ ch. symbols_of (92 ∷ c.in-TwoDigits.first ∷ c.in-TwoDigits.second ∷ ch ∷ rest)) (sym c.in_ok-digit-in-TwoDigits.ensures.ok)
    ∙ c.in_err-symbol-in-TwoDigits.ensures.err rest)
