-- Classes as text (RFC 3597, 5).
use Rattle.std.specs.Prelude.{ℕ, List, ◌++◌, if◌then◌else◌, nat_eq, codes}
use Rattle.std.specs.Fmt.{decimal}

abbrev pub class_text : ℕ → List ℕ
class_text n = if nat_eq n 1 then codes "IN" else codes "CLASS" ++ decimal n
