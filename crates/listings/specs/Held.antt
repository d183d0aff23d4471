-- What a listing's copy of its context means.
use Rattle.std.specs.Prelude.{vec_items}
use Rattle.contexts.specs.Relation.{Relation}
use Rattle.listings.specs.Copied.{copied}
use Rattle.listings.specs.declared.listing.copying.Copied.{Copied}

-- The relation that a copy holds.
abbrev pub held : Copied → Relation
held copy = copied (vec_items copy.left_present) (vec_items copy.right_present) copy.width.conditions (vec_items copy.pairs)
