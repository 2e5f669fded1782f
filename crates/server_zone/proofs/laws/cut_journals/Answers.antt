use Rattle.server_zone.proofs.LineLemmas.{cut_lines, text_is, unfinished_feedless}
use Rattle.server_zone.proofs.JournalLemmas.{cuts_keep_state}
use Rattle.server_zone.proofs.laws.cut_journals.Goals as goal

pub returns : goal.returns
returns c = record {
  spelled = λ text. (text_is text, unfinished_feedless text);
  lines = cut_lines;
  state = cuts_keep_state;
}
