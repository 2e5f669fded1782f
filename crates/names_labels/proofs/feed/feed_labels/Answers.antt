use Rattle.names_wire.specs.Label.{octets_of}
use Rattle.names_labels.proofs.Feeds.{fed_more}
use Rattle.names_labels.proofs.feed.feed_labels.Goals as goal

pub loop-label-preserved : goal.loop-label-preserved
loop-label-preserved g c = fed_more g.H.Hasher.write _ c.loop-label.state c.hash.new.state c.loop-label.labels c.next.new.self (octets_of c.in-Some.label) c.in-Some.ensures.steps c.loop-label.invariant c.hash.ensures
