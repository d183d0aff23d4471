use Rattle.std.proofs.Common.{map, ap, ◌∙◌}
use Rattle.std.proofs.lemmas.List.{take_all}
use Rattle.listings.specs.View.{ask_of}
use Rattle.runs.proofs.Likeness.{asks_push}
use Rattle.runs.proofs.alike.copy_calls.Goals as goal

pub loop-call-preserved : goal.loop-call-preserved
loop-call-preserved c =
    asks_push c.args.calls.now _ _ c.loop-call.call-index c.call-item.result _ c.loop-call-test.true c.loop-call.invariant (c.in_ok-copy_call.ensures ∙ ap ask_of c.call-item.is) c.in_ok-push.ensures.items

pub returns : goal.returns
returns c = c.loop-call.invariant ∙ ap (map ask_of) (take_all c.loop-call.call-index c.args.calls.now c.loop-call-test.false)
