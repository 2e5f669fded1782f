use Rattle.std.proofs.Common.{◌∙◌}
use Rattle.std.specs.Str.{bytes_eq}
use Rattle.messages.proofs.NameFlat.{first_star}
use Rattle.messages.proofs.names.NameZoneName.is_wildcard.Goals as goal

pub returns : goal.returns
returns g c =
    c.eq.ensures ∙ (λ i. bytes_eq ((c.as_slice.ensures.value ∙ c.first.ensures) i) (c.as_slice-2.ensures i)) ∙ first_star c.args.self.now
