use Rattle.std.proofs.Common.{eqb}
use Rattle.std.proofs.lemmas.List.Filters.{dedup_is}
use Rattle.listings.proofs.Starting.{members_sorted}
use Rattle.listings.proofs.listing.starting.distinct_codes.Goals as goal

pub returns : goal.returns
returns c =
    let once = dedup_is eqb _ _ c.dedup.ensures.filtered in
    rw (← c.in_ok-codes.ensures, c.shrink_to_fit.ensures.items) (members_sorted _ _ _ c.sort_unstable.ensures.permutation once)
