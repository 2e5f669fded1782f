use Rattle.keyset.proofs.KeyRunTags as tags
use Rattle.keyset.proofs.laws.tags_differ.Goals as goal

pub returns : goal.returns
returns c = tags.tags_differ
