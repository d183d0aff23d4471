use Rattle.std.proofs.Common.{arith}
use Rattle.std.proofs.lemmas.List.FromFn.{fill_by_all}
use Rattle.contexts.specs.Book.{presence_word}
use Rattle.drafts.proofs.draft.freezing.write_presence.Goals as goal

pub returns : goal.returns
returns g c =
    fill_by_all (λ s. presence_word ((g.T.Table.meaning c.args.table.now).present s)) c.loop-s.words _ 0 c.loop-s.auto.words (λ k h. c.loop-s.invariant k (omega arith))
