use Rattle.std.proofs.Common.{◌≡◌, [], Ok, refl, sym, ◌∙◌, arith, true}
use Rattle.std.specs.Prelude.{codes}
use Rattle.std.specs.Str.{bytes_eq}
use Rattle.hex.specs.Hex.{decode_of, decode_pairs}
use Rattle.denial_fields.proofs.salt.Nsec3Salt+Vec+u8.from_str.Goals as goal

no_digits : decode_of [] ≡ Ok []
unfolding decode_pairs
no_digits = refl

pub returns-then-eq : goal.returns-then-eq
returns-then-eq c =
    let e : bytes_eq c.args.text.now (codes "-") ≡ true = sym c.eq.ensures ∙ c.if-eq.true in
    rw (e, c.empty.ensures) (no_digits, omega arith)
