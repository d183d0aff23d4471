use Rattle.std.proofs.Common.{◌≡◌, vec_items, ap, ◌∙◌, subst, ap₂}
use Rattle.contexts.specs.Relation.{Relation}
use Rattle.drafts.specs.Live.{live}
use Rattle.drafts.specs.declared.draft.Draft.{Draft}
use Rattle.drafts.specs.declared.draft.live.Live.{Live}
use Rattle.listings.specs.Runs.{Ran}
use Rattle.runs.proofs.Likeness.{ran_over}
use Rattle.runs.proofs.over_tables.run_over_tables.Goals as goal

pub returns-in-Ok : goal.returns-in-Ok
returns-in-Ok g c =
    let started = c.start.ensures in
    let draft = c.args.draft in
    let v = c.start.result in
    let e = c.in-Ok.ensures in
    let same : c.in-Ok.field-0.context ≡ v = e.0 in
    let back = c.into_tables.ensures in
    let answers = vec_items c.in-Ok.field-0.answers in
    let relation : live (g.L.Table.meaning v.draft.left) (g.R.Table.meaning v.draft.right) (vec_items v.draft.comparisons) ≡ live (g.L.Table.meaning draft.left) (g.R.Table.meaning draft.right) (vec_items draft.comparisons) =
    ap (λ (d : Draft g.row.L.Denot g.row.R.Denot). live (g.L.Table.meaning d.left) (g.R.Table.meaning d.right) (vec_items d.comparisons)) started.draft
    in (
      ap₂ (λ (l : g.row.L.Denot) (r : g.row.R.Denot). (l, r))
          (back.0 ∙ ap (λ (w : Live g.row.L.Denot g.row.R.Denot). w.draft.left) same ∙ ap (λ (d : Draft g.row.L.Denot g.row.R.Denot). d.left) started.draft)
          (back.1 ∙ ap (λ (w : Live g.row.L.Denot g.row.R.Denot). w.draft.right) same ∙ ap (λ (d : Draft g.row.L.Denot g.row.R.Denot). d.right) started.draft),
      ran_over (g.L.Table.meaning draft.left) (g.R.Table.meaning draft.right) (vec_items draft.comparisons) (vec_items c.args.calls) answers started.alike
          (subst (λ (r : Relation). Ran r (vec_items c.args.calls) answers) relation e.1),
    )
