use Rattle.std.proofs.Common.{Bool, cond, [], sym, ap, ◌∙◌}
use Rattle.listings.specs.Calls.{totalled, refused}
use Rattle.listings.specs.Replies.{candidate_count, reply}
use Rattle.listings.specs.View.{relation_of}
use Rattle.listings.proofs.Levels.{level_ended}
use Rattle.listings.proofs.listing.Listing.total.Goals as goal

pub returns-then-self : goal.returns-then-self
unfolding reply
returns-then-self g c =
    let l = c.args.self.now in
    let end = c.if-self.true in
    ap totalled (l.reached.2 end)
    ∙ ap (λ (b : Bool). cond b (totalled (candidate_count (relation_of l))) (refused (28, 0) [])) (sym (level_ended l ∙ end))

pub returns-else-self : goal.returns-else-self
unfolding reply
returns-else-self g c =
    let l = c.args.self.now in
    ap (λ (b : Bool). cond b (totalled (candidate_count (relation_of l))) (refused (28, 0) [])) (sym (level_ended l ∙ c.if-self.false))
