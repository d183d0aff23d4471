use Rattle.lattice.proofs.Search.{tried_is_trial, passed_accepted, failed_refused}
use Rattle.std.proofs.Common.{◌∙◌}
use Rattle.lattice.proofs.closed.accepted.Goals as goal

pub returns-then-trial-place : goal.returns-then-trial-place
returns-then-trial-place c =
    let k = c.args.width.conditions in
    let codes = c.args.codes.now in
    let x = c.args.x in
    let j = c.args.place in
    let tried = c.widen-trial.ensures ∙ tried_is_trial 64 k codes x j c.args.width.few c.requires.code c.requires.condition c.if-high-ne0.false in
    (passed_accepted k codes x j c.widen-trial.result c.requires.condition c.if-high-ne0.false tried c.if-trial-place.true, tried)

pub returns-else-trial-place : goal.returns-else-trial-place
returns-else-trial-place c =
    let k = c.args.width.conditions in
    let codes = c.args.codes.now in
    let x = c.args.x in
    let j = c.args.place in
    let tried = c.widen-trial.ensures ∙ tried_is_trial 64 k codes x j c.args.width.few c.requires.code c.requires.condition c.if-high-ne0.false in
    failed_refused k codes x j c.widen-trial.result tried c.if-trial-place.false
