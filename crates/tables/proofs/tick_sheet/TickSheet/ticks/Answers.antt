use Rattle.std.proofs.Common.{vec_items, ap, ◌∙◌, inl, inr}
use Rattle.tables.specs.TickSheet.{presence_word}
use Rattle.tables.specs.Rows.{list_none}
use Rattle.tables.proofs.tick_sheet.TickSheet.ticks.Goals as goal
use Rattle.tables.proofs.tick_sheet.TickSheet.ticks.Goals.{then-s-self-via-then-s-self, then-s-self-via-else-s-self+then-p-self}

pub returns-then-s-self : goal.returns-then-s-self
returns-then-s-self c =
    let t = c.args.self.now in
    list_none (vec_items t.words) t.subjects t.properties c.args.s c.args.p
    (elim c.then-s-self.branch [ then-s-self-via-then-s-self w ↦ inl w.if-s-self.true | then-s-self-via-else-s-self+then-p-self w ↦ inr (inr w.if-p-self.true) ])

pub returns-else-row-eq-PRESENT : goal.returns-else-row-eq-PRESENT
returns-else-row-eq-PRESENT c =
    let t = c.args.self.now in
    list_none (vec_items t.words) t.subjects t.properties c.args.s c.args.p
    (inr (inl (λ e. c.if-row-eq-PRESENT.false (ap presence_word c.row-row.ensures.value ∙ e))))
