use Rattle.std.proofs.Common.{◌≡◌}
use Rattle.std.specs.List.{fold}
use Rattle.names_labels.specs.Feed.{labels_feed}
use Rattle.names_labels.proofs.feed.feed_labels.Given as goal

abbrev pub invariant-loop-label : goal.invariant-loop-label
invariant-loop-label g l = fold g.H.Hasher.write l.fn.state (labels_feed (g.N.Labels.labels l.name)) ≡ fold g.H.Hasher.write l.state (labels_feed l.labels)
