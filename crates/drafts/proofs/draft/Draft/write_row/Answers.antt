use Rattle.std.proofs.Common.{vec_items, arith}
use Rattle.std.proofs.lemmas.List.FromFn.{fill_by_all}
use Rattle.drafts.specs.Live.{live_code}
use Rattle.drafts.proofs.draft.Draft.write_row.Goals as goal

pub returns : goal.returns
returns g c =
    let v = c.args.self.now in
    fill_by_all (live_code (g.L.Table.meaning v.left) (g.R.Table.meaning v.right) (vec_items v.comparisons) c.args.s) c.loop-t.words _ 0 c.loop-t.auto.words (λ k h. c.loop-t.invariant k (omega arith))
