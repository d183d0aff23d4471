use Rattle.listings.proofs.Marking.{Counted}
use Rattle.listings.proofs.listing.copying.Copied.count_links.Given as goal

abbrev pub invariant-loop-pair : goal.invariant-loop-pair
invariant-loop-pair l = Counted l.x l.pair-items l.pair-index l.links l.lefts l.rights
