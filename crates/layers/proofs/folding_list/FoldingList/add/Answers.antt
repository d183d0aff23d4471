use Rattle.std.proofs.Common.{◌≡◌, true, List, sym, subst, arith}
use Rattle.layers.specs.declared.folding_list.Folding.{Folding}
use Rattle.layers.specs.Foldings.{chain_free}
use Rattle.layers.specs.Held.{foldings}
use Rattle.layers.proofs.Growth.{ascending_push, unchained_push, narrow_push}
use Rattle.layers.proofs.folding_list.FoldingList.add.Goals as goal

pub invariant_of-self-clause-ascending : goal.invariant_of-self-clause-ascending
invariant_of-self-clause-ascending c =
    let old = c.args.self.now in
    rw c.push_reserved.ensures.items (ascending_push (foldings old) c.args.from c.args.to old.ascending c.in_ok-check.ensures)

pub invariant_of-self-clause-unchained : goal.invariant_of-self-clause-unchained
invariant_of-self-clause-unchained c =
    let old = c.args.self.now in
    subst (λ (fs : List Folding). chain_free fs ≡ true) (sym c.push_reserved.ensures.items) (unchained_push (foldings old) c.args.from c.args.to old.unchained c.in_ok-check.ensures)

pub invariant_of-self-clause-narrow : goal.invariant_of-self-clause-narrow
invariant_of-self-clause-narrow c =
    rw c.push_reserved.ensures.items (narrow_push (foldings c.args.self.now) c.args.from c.args.to c.args.self.now.narrow (omega arith))
