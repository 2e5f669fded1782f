-- The texts of faults of form.
use Rattle.std.specs.Prelude.{ℕ, List, Option, Some, None}
use Rattle.names_parser.specs.declared.error.FormError.{FormError}
use Rattle.names_parser.specs.declared.error.ParseError.{ParseError}
use Rattle.names_parser.specs.declared.error.ParseError.TheVariants.{ShortInput, Form}

abbrev pub text_of : FormError → List ℕ
text_of f = f.0.now

-- the text of a fault of form
abbrev pub form_text : ParseError → Option (List ℕ)
form_text ShortInput = None
form_text (Form f) = Some (text_of f)
