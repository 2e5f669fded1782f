use Rattle.answer_publisher_keys.proofs.PublishedKeys.{lists_roles, published_are_listed}
use Rattle.answer_publisher_keys.proofs.laws.published_keys_are_those_of_the_set.Goals as goal

pub returns : goal.returns
returns c = record { lists = lists_roles; published = published_are_listed }
