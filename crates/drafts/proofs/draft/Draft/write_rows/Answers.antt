use Rattle.std.proofs.Common.{◌*◌, map, vec_items, ◌∙◌, arith}
use Rattle.lattice.specs.Sets.{range}
use Rattle.drafts.specs.Live.{live_code}
use Rattle.drafts.proofs.Words.{part_length, row_within, rows_next}
use Rattle.drafts.proofs.draft.Draft.write_rows.Goals as goal

pub loop-s-preserved : goal.loop-s-preserved
loop-s-preserved g c =
    let v = c.args.self.now in
    let code = live_code (g.L.Table.meaning v.left) (g.R.Table.meaning v.right) (vec_items v.comparisons) in
    let s = c.loop-s.s in
    let width = c.args.rights in
    let inside = row_within s c.args.lefts width c.loop-s-test.true in
    let long = part_length c.loop-s.words (s * width) width (omega (arith, c.requires, c.loop-s.auto.words)) in
    rows_next (λ r. map (code r) (range width)) c.loop-s.words c.write_row.new.words s width _
    (omega (arith, c.requires, c.loop-s.auto.words))
    c.loop-s.invariant
    (rw long at c.write_row.ensures)
    (c.write_row.auto.words ∙ long)
