use Rattle.listings.proofs.Linking.{links_linked, linked_links}
use Rattle.listings.proofs.laws.links_are_the_linked.Goals as goal

pub returns : goal.returns
returns c = λ relation x s t. (links_linked relation x s t, linked_links relation x s t)
