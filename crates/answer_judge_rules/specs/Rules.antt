-- Verdicts of the code, as contracts see them.
use Rattle.definitions.specs.Zone.{Verdict, Records, NoType, NoName, StarRecords, StarNoType, Delegated, Open, Unsigned}
use Rattle.answer_judge_rules.specs.declared.verdict.Verdict.{Verdict as CodeVerdict}
use Rattle.answer_judge_rules.specs.declared.verdict.Verdict.TheVariants as v

-- a verdict of the code
abbrev pub verdict_of : CodeVerdict → Verdict
verdict_of (v.Records ds) = Records ds
verdict_of v.NoType = NoType
verdict_of v.NoName = NoName
verdict_of (v.StarRecords ds) = StarRecords ds
verdict_of v.StarNoType = StarNoType
verdict_of v.Delegated = Delegated
verdict_of v.Open = Open
verdict_of v.Unsigned = Unsigned
