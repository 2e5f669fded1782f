use Rattle.std.proofs.Common.{◌≡◌, ℕ, false, List, [], ◌∷◌, length, refl, sym, ap, ◌∙◌}
use Rattle.std.specs.Prelude.{◌==◌}
use Rattle.std.proofs.Output.{has_written_of_eq}
use Rattle.base64.specs.Engines.{standard}
use Rattle.base64.specs.GeneralPurpose.{encode_of}
use Rattle.denial_fields.specs.Fields.{base64_field}
use Rattle.denial_fields.proofs.digits.Base64FieldDisplay.fmt.Goals as goal

some : (xs : List ℕ) → (length xs == 0) ≡ false → 32 ∷ encode_of standard xs ≡ base64_field xs
some [] h = cc h
some (x ∷ xs) h = refl

pub returns-clause-writes : goal.returns-clause-writes
returns-clause-writes g c = λ p k.
    has_written_of_eq g.W.Write.write_str_gives _ _ _ _ (ap (λ t. 32 ∷ t) c.new.ensures ∙ some c.args.self.now.0.now (sym c.is_empty.ensures ∙ c.if-is_empty.false)) (c.write.ensures.writes p k)
