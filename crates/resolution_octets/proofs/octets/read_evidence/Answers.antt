use Rattle.std.proofs.Common.{refl, rules}
use Rattle.answer_judge_octets.specs.Written.{IsList}
use Rattle.resolution_octets.specs.Sent.{FitsSent, sent_octets}
use Rattle.resolution_octets.proofs.MessagesRead.{some_unread}
use Rattle.resolution_octets.proofs.octets.read_evidence.Goals as goal

pub returns-in_err-messages-clause-unread : goal.returns-in_err-messages-clause-unread
returns-in_err-messages-clause-unread c =
    let case = c.args.evidence.now in
    let spelled : IsList FitsSent sent_octets case.messages.now c.in-Some.sent.items = search rules in
    let some = some_unread case c.in-Some.sent.items spelled in search (rules, some)

pub returns-clause-ok : goal.returns-clause-ok
returns-clause-ok c = record {
  anchor = search rules;
  ds = search rules;
  name = search rules;
  rtype = search rules;
  class = search rules;
  sent = c.in-Some.sent.items;
  messages = search rules;
  read = search rules;
  entries = search rules;
  algorithms = refl;
  at = refl;
  limit = refl;
  one_moment = search rules;
}
