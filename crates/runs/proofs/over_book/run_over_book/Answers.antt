use Rattle.std.proofs.Common.{vec_items, subst, ap₂}
use Rattle.contexts.specs.Relation.{Relation}
use Rattle.drafts.proofs.Likeness.{live_alike}
use Rattle.listings.specs.Runs.{Ran}
use Rattle.runs.proofs.Likeness.{ran_over}
use Rattle.runs.proofs.over_book.run_over_book.Goals as goal

pub returns-in-Ok-run : goal.returns-in-Ok-run
returns-in-Ok-run g c =
    let draft = c.args.draft in
    let left = g.L.Table.meaning draft.left in
    let right = g.R.Table.meaning draft.right in
    let comparisons = vec_items draft.comparisons in
    let calls = vec_items c.args.calls in
    let answers = vec_items c.in-Ok-run.field-0.answers in
    let back = c.into_tables-context.ensures in
    let ran = subst (λ (r : Relation). Ran r calls answers) c.in-Ok.ensures c.in-Ok-run.ensures.1 in
    (ap₂ (λ (l : g.row.L.Denot) (r : g.row.R.Denot). (l, r)) back.0 back.1, ran_over left right comparisons calls answers (live_alike left right comparisons) ran)
