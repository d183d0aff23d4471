use Rattle.std.proofs.Common.{◌≡◌, ◌++◌, drop, vec_items}
use Rattle.drafts.specs.Preparing.{coded_from}
use Rattle.drafts.proofs.draft.rows.push_row.Given as goal

abbrev pub invariant-loop-t : goal.invariant-loop-t
invariant-loop-t l = vec_items l.pairs ++ coded_from l.s l.t (drop l.t l.row) ≡ vec_items l.initial.pairs ++ coded_from l.s 0 l.row
