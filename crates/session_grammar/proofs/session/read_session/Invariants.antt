use Rattle.std.proofs.Common.{◌≡◌, length}
use Rattle.session_grammar.specs.Lines.{lines_of}
use Rattle.session_grammar.specs.Readings.{session_view}
use Rattle.session_grammar.specs.Sessions.{session_of, session_behind}
use Rattle.session_grammar.proofs.session.read_session.Given as goal

-- the lines so far and the rest are the session
abbrev pub invariant-loop-line : goal.invariant-loop-line
invariant-loop-line l = session_behind l.lines.number (session_view l.reading) (lines_of l.lines.rest.now) ≡ session_of l.input

abbrev pub decreases-loop-line : goal.decreases-loop-line
decreases-loop-line l = length l.lines.rest.now
