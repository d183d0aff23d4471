use Rattle.std.proofs.Common.{◌≡◌, ◌++◌, vec_items}
use Rattle.contexts.proofs.Coding.{rows_coded, row_coded}
use Rattle.contexts.proofs.context.Context.coded_pairs.Given as goal

abbrev pub invariant-loop-t : goal.invariant-loop-t
invariant-loop-t g l = vec_items l.pairs ≡ rows_coded (g.Self.Context.relation l.self) l.s ++ row_coded (g.Self.Context.relation l.self) l.s l.t

abbrev pub invariant-loop-s : goal.invariant-loop-s
invariant-loop-s g l = vec_items l.pairs ≡ rows_coded (g.Self.Context.relation l.self) l.s
