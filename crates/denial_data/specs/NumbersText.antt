-- The numbers of a signature as text (RFC 4034, 3.2).
use Rattle.std.specs.Prelude.{ℕ, List, ◌∷◌, ◌++◌}
use Rattle.std.specs.Fmt.{decimal}
use Rattle.numbers.specs.Types.{type_text}
use Rattle.denial_data.specs.declared.proto_rrsig.Numbers.{Numbers}

-- the text of the last four numbers, with a blank between each two
abbrev pub times_text : Numbers → List ℕ
times_text n = decimal n.original_ttl ++ 32 ∷ decimal n.expiration ++ 32 ∷ decimal n.inception ++ 32 ∷ decimal n.key_tag

-- the text of the numbers: the type's name first, then the others
abbrev pub numbers_text : Numbers → List ℕ
numbers_text n = type_text n.type_covered ++ 32 ∷ decimal n.algorithm ++ 32 ∷ decimal n.labels ++ 32 ∷ times_text n
