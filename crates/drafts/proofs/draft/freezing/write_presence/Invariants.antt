use Rattle.std.proofs.Common.{◌≡◌, ℕ, ◌<◌, get_or}
use Rattle.contexts.specs.Book.{presence_word}
use Rattle.drafts.proofs.draft.freezing.write_presence.Given as goal

abbrev pub invariant-loop-s : goal.invariant-loop-s
invariant-loop-s g l = (k : ℕ) → k < l.s → get_or l.words k 0 ≡ presence_word ((g.T.Table.meaning l.table).present k)
