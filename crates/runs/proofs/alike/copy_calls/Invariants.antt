use Rattle.std.proofs.Common.{◌≡◌, map, take, vec_items}
use Rattle.listings.specs.View.{ask_of}
use Rattle.runs.proofs.alike.copy_calls.Given as goal

abbrev pub invariant-loop-call : goal.invariant-loop-call
invariant-loop-call l = map ask_of (vec_items l.copies) ≡ map ask_of (take l.call-index l.calls)
