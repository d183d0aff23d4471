use Rattle.std.proofs.Common.{refl, ap, ◌∙◌}
use Rattle.listings.specs.Copied.{marks_set}
use Rattle.listings.proofs.Levels.{told_of}
use Rattle.listings.proofs.listing.copying.Copied.examine.Goals as goal

pub returns : goal.returns
returns c =
    let counts = c.count_links-counts.ensures in
    told_of c.args.self.now c.args.x c.requires.some c.requires.below _ refl counts.links counts.left counts.right
    (c.count_set.ensures ∙ ap marks_set c.as_slice.ensures.value)
    (c.count_set-2.ensures ∙ ap marks_set c.as_slice-2.ensures.value)
    refl
