use Rattle.std.proofs.Common.{◌∙◌, sym}
use Rattle.messages.specs.Questions.{asked_of}
use Rattle.answer_publisher.proofs.AliasOf.{no_alias_of}
use Rattle.answer_publisher.proofs.publishing.Publisher.alias_of.Goals as goal

pub returns-then-not-has_aliases : goal.returns-then-not-has_aliases
returns-then-not-has_aliases g c =
    let z = c.args.self.now.zone in
    sym (no_alias_of z.apex z.records (sym c.has_aliases.ensures ∙ c.if-not-has_aliases.true) z.mode (asked_of c.args.question.now))
