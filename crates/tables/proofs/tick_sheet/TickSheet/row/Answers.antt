use Rattle.std.proofs.Common.{length, vec_items, ap, ◌∙◌}
use Rattle.tables.specs.Rows.{row_lies, allowed_from}
use Rattle.tables.proofs.tick_sheet.TickSheet.row.Goals as goal

pub row_of-requires : goal.row_of-requires
row_of-requires c =
    let t = c.args.self.now in
    let h = allowed_from (vec_items t.words) t.subjects t.properties t.allowed in
    row_lies t.subjects t.properties c.args.s (length c.as_slice.result.now) c.requires (ap length c.as_slice.ensures.value ∙ h.consistent.whole)
