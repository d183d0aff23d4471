use Rattle.std.specs.Prelude.{ℕ, cond, List, length, Some, None, Option, nat_lt}
use Rattle.records.specs.Refusals.{Refusal}
use Rattle.layers.specs.declared.picks.PicksFault.{PicksFault}
use Rattle.layers.specs.declared.picks.PicksFault.TheVariants.{Full}

-- The first no to one more pick, whatever its property.
abbrev pub picks_fault : List ℕ → Option Refusal
picks_fault ps = cond (nat_lt (length ps) 16) None (Some (14, 0))

-- How the refusal of a pick is told.
abbrev pub picks_refusal : PicksFault → Refusal
picks_refusal Full = (14, 0)
