use Rattle.std.proofs.Common.{◌≡◌, ◌*◌, map, take, vec_items}
use Rattle.std.specs.List.{flat_map}
use Rattle.lattice.specs.Sets.{range}
use Rattle.drafts.specs.Live.{live_code}
use Rattle.drafts.proofs.draft.Draft.write_rows.Given as goal

abbrev pub invariant-loop-s : goal.invariant-loop-s
invariant-loop-s g l =
    take (l.s * l.rights) l.words
    ≡ flat_map (λ s. map (live_code (g.L.Table.meaning l.self.left) (g.R.Table.meaning l.self.right) (vec_items l.self.comparisons) s) (range l.rights)) (range l.s)
