use Rattle.std.proofs.Common.{◌≡◌, ℕ, cond, ◌==◌, fold, rules, ap, ◌∙◌}
use Rattle.std.proofs.iter.runs.Made.{chains}
use lib.Bits.{bit_and}
use Rattle.lattice.proofs.Closures.{widening_inside_whole}
use Rattle.lattice.proofs.Conditions.{inside_below}
use Rattle.lattice.proofs.Meets.{running_widens}
use Rattle.lattice.specs.Sets.{whole}
use Rattle.lattice.specs.Widening.{running_meet}
use Rattle.lattice.proofs.widening.widen.Goals as goal

pub returns : goal.returns
unfolding running_meet
returns c =
    let k = c.args.width.conditions in
    let codes = c.args.codes.now in
    let x = c.args.x in
    let met : c.fold.result ≡ fold (λ all d. cond (bit_and d (bit_and x c.whole-whole.result) == bit_and x c.whole-whole.result) (bit_and all d) all) c.whole-whole.result codes = search (rules, chains) in
    met
    ∙ ap (λ (v : ℕ). running_meet v codes (bit_and x v)) c.whole-whole.ensures
    ∙ running_widens k codes (bit_and x (whole k)) (inside_below k x)
    ∙ widening_inside_whole k codes x
