use Rattle.answer_publisher_keys.proofs.KeyTagsPublished.{tags_differ, tags_pass}
use Rattle.answer_publisher_keys.proofs.laws.published_tags_differ.Goals as goal

pub returns : goal.returns
returns c = record { differ = tags_differ; pass = tags_pass }
