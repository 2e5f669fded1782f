-- How a question of the code is seen.
use Rattle.definitions.specs.Name.{Name}
use Rattle.messages.specs.declared.question.Question.{Question}
use Rattle.messages.specs.Message.{Asked}

abbrev pub asked_of : Question Name → Asked
asked_of q = record { name = q.name; rtype = q.rtype; class = q.class }
