use Rattle.listings.specs.View.{relation_of, level}
use Rattle.report.proofs.Telling.{always_totalled, ended_after}
use Rattle.candidates.proofs.print_candidates.Goals as goal

pub unwrap-total-requires : goal.unwrap-total-requires
unwrap-total-requires g c =
    let before = c.loop-line.listing in
    let after = c.next_line.new.listing in
    let told = c.in_ok-line.ensures in
    let ended = ended_after (relation_of before) (relation_of after) (level before) (level after) c.in_ok-line.field-0 told.went.relation told.went.level c.in_default.is told.told in
    always_totalled (relation_of after) (level after) c.total.result ended c.total.ensures
