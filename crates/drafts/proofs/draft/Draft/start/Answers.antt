use Rattle.std.proofs.Common.{vec_items}
use Rattle.drafts.proofs.Likeness.{live_alike}
use Rattle.drafts.proofs.draft.Draft.start.Goals as goal

pub returns-clause-alike : goal.returns-clause-alike
returns-clause-alike g c = live_alike (g.L.Table.meaning c.args.self.left) (g.R.Table.meaning c.args.self.right) (vec_items c.args.self.comparisons)
