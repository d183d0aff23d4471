use Rattle.std.proofs.Common.{ℕ, Bool, sym, ap, ◌∙◌, ap₂}
use Rattle.lattice.specs.Candidates.{last_of}
use Rattle.listings.specs.Calls.{tallied}
use Rattle.listings.specs.Candidates.{candidates}
use Rattle.listings.specs.Replies.{reply}
use Rattle.listings.specs.View.{relation_of}
use Rattle.listings.proofs.Levels.{level_handed, level_ended}
use Rattle.listings.proofs.listing.Listing.tally.Goals as goal

pub returns : goal.returns
unfolding reply
returns g c =
    let l = c.args.self.now in
    ap (λ (x : ℕ). tallied l.tally.handed x l.tally.ended) l.reached.1
    ∙ ap₂ (λ (n : ℕ) (end : Bool). tallied n (last_of (candidates (relation_of l)) n) end) (sym (level_handed l)) (sym (level_ended l))
