use Rattle.std.proofs.Common.{refl, rules, tests}
use Rattle.std.proofs.lemmas.Iterator.{YieldsList-from_range}
use Rattle.std.proofs.lemmas.Iterator.Consumers.{YieldsList-from_filter, nth_from_yields_List}
use Rattle.tables.specs.TickSheet.{is_ticked, ticked}
use Rattle.tables.proofs.tick_sheet.reading.tick_at.Goals as goal

pub returns : goal.returns
unfolding ticked
returns c =
    let ticks = YieldsList-from_range {s = c.filter.result.iter} 0 64 64 (cc) refl in
    let nth = nth_from_yields_List {v = λ x. x} c.nth.result c.nth.new.self c.args.i c.nth.ensures.ran (YieldsList-from_filter {v = λ x. x} {s = c.filter.result} _ (is_ticked c.args.word) ticks c.filter.ensures.closure (λ v b q k. search (rules, tests))) in
    search (rules, nth)
