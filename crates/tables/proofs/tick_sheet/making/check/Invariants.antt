use Rattle.std.proofs.Common.{◌≡◌, ◌-◌, map}
use Rattle.std.specs.List.{range_with_len}
use Rattle.tables.specs.TickSheet.{row, rows_fault, sheet_fault}
use Rattle.tables.proofs.SheetRows.{Left}
use Rattle.tables.proofs.tick_sheet.making.check.Given as goal

-- the questions that are left give the answer of all of them
abbrev pub invariant-loop-s : goal.invariant-loop-s
invariant-loop-s l =
    let s = l.s-iterator.count in
    Left l.words l.subjects l.properties s l.s-iterator.iter.size l.s-iterator.iter.rest.now
    × (rows_fault s (map (row l.words l.properties) (range_with_len s (l.subjects - s))) ≡ sheet_fault l.words l.subjects l.properties)
