use Rattle.std.proofs.Common.{ℕ, List, is_some, vec_items, sym, ap, ◌∙◌, rules}
use Rattle.tables.specs.TickSheet.{sheet_fault}
use Rattle.tables.specs.Rows.{allowed_from}
use Rattle.tables.proofs.tick_sheet.TickSheet.new.Goals as goal

pub returns-in-Ok : goal.returns-in-Ok
returns-in-Ok c =
    let n = c.args.subjects in
    let m = c.args.properties in
    let passed = ap (λ (ws : List ℕ). is_some (sheet_fault ws n m)) (sym c.as_slice.ensures.value) ∙ ap is_some c.in-Ok.ensures in
    record { answer = search rules; consistent = (allowed_from (vec_items c.args.words) n m passed).consistent }
