use Rattle.std.proofs.Common.{◌∙◌, vec_items}
use Rattle.std.proofs.lemmas.Result.{IfOk-weaker}
use Rattle.drafts.proofs.Pairing.{pairs_are}
use Rattle.drafts.proofs.draft.live.LiveContext.coded_pairs.Goals as goal

pub returns : goal.returns
returns g c =
    let v = c.args.self.now.draft in
    let p = c.in_ok-prepare.field-0 in
    let ready = c.in_ok-prepare.ensures in
    IfOk-weaker c.coded_pairs.result _ _
    (λ pairs e. e ∙ pairs_are (g.L.Table.meaning v.left) (g.R.Table.meaning v.right) (vec_items v.comparisons) (vec_items p.comparisons) p.lefts p.rights ready.2 ready.0 ready.1)
    c.coded_pairs.ensures
