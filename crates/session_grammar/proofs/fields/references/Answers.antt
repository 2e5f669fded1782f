use Rattle.std.proofs.Common.{lit<, sym, ◌∙◌, ap}
use Rattle.std.proofs.lemmas.Iterator.Consumers.{map_from_collect}
use Rattle.std.proofs.lemmas.Iterator.Splits.{YieldsList-from_str_split}
use Rattle.std.proofs.lemmas.Result.{IfOk-at_ok}
use Rattle.session_grammar.specs.Readings.{texts}
use Rattle.session_grammar.proofs.FieldLemmas.{split_reads}
use Rattle.session_grammar.proofs.fields.references.Goals as goal

pub returns : goal.returns
returns c =
    let parts = IfOk-at_ok _ c.in_ok-parts.was (map_from_collect c.collect.result c.collect.ensures.ran (YieldsList-from_str_split 44 c.args.text.now (lit< tt) c.split.ensures.text c.split.ensures.has_more c.split.ensures.pattern)) in
    split_reads _ c.each_reference.result c.args.text.now (texts c.deref.result.now) (sym c.if-eq.ensures) (ap texts c.deref.ensures.value ∙ parts) c.each_reference.ensures
