use Rattle.std.proofs.Common.{ℕ, map, vec_items, ap, ◌∙◌}
use Rattle.contexts.specs.Relation.{Relation}
use Rattle.listings.specs.Replies.{replies}
use Rattle.listings.specs.View.{level, ask_of}
use Rattle.listings.proofs.Answering.{ran}
use Rattle.listings.proofs.runs.run.Goals as goal

pub returns-in-Ok-start : goal.returns-in-Ok-start
returns-in-Ok-start g c =
    let started = c.in-Ok-start.ensures in
    let asks = map ask_of (vec_items c.args.calls) in
    let r = g.C.Context.relation c.args.context in (
      c.close-context.ensures ∙ c.answer_all-answers.ensures.same ∙ started.0,
      ran r (vec_items c.args.calls) (vec_items c.answer_all-answers.result)
          (c.answer_all-answers.ensures.replies
          ∙ ap (λ (relation : Relation). replies relation (level c.in-Ok-start.listing) asks) started.1
          ∙ ap (λ (n : ℕ). replies r n asks) started.2),
    )
