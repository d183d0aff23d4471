use Rattle.std.proofs.Common.{◌≡◌, drop}
use Rattle.tables.specs.Meaning.{contains}
use Rattle.drafts.proofs.draft.lists.contains.Given as goal

abbrev pub invariant-loop-x : goal.invariant-loop-x
invariant-loop-x l = contains (drop l.x-index l.values) l.v ≡ contains l.values l.v
