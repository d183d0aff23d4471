use Rattle.std.proofs.Common.{◌≡◌, ℕ, Bool, cond, sum_by, rules, sym, ◌∙◌}
use Rattle.std.proofs.iter.runs.Made.{chains}
use Rattle.std.proofs.lemmas.List.Sums.{length-filter}
use Rattle.listings.proofs.listing.counting.count_set.Goals as goal

pub returns : goal.returns
returns c =
    let marks = c.args.marks.now in
    let total : c.sum.result ≡ sum_by (λ (mark : Bool). cond mark 1 0) marks = search (rules, chains) in
    total ∙ sym (length-filter (λ (mark : Bool). mark) marks)
