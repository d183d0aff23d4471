use Rattle.std.proofs.Common.{vec_items, ◌∙◌, arith}
use Rattle.std.specs.Vec.Iter.{into_iter_items}
use Rattle.listings.specs.View.{relation_of, level}
use Rattle.listings.proofs.Answering.{run_more}
use Rattle.listings.proofs.listing.Listing.answer_all.Goals as goal

pub loop-call-preserved : goal.loop-call-preserved
loop-call-preserved g c =
    let before = c.loop-call.invariant in
    let e = c.answer.ensures in
    let pushed = c.push_reserved.ensures in
    let next = c.in-Some.ensures.steps in (
      e.went.context ∙ before.0,
      e.went.relation ∙ before.1,
      omega (arith, pushed.len, pushed.capacity, next.1, before.2),
      run_more (relation_of c.loop-call.self) (relation_of c.args.self.now) (level c.loop-call.self) (level c.answer.new.self) (vec_items c.loop-call.answers) (vec_items c.push_reserved.new.self) c.answer.result c.in-Some.call (into_iter_items c.loop-call.call-iterator) (into_iter_items c.next.new.self) _ before.1 e.reply e.went.level pushed.items next.0 before.3,
    )
