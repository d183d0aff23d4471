use Rattle.std.proofs.Common.{◌≡◌, None, arith}
use Rattle.std.specs.List.{slice_get}
use Rattle.tables.specs.Meaning.{contains}
use Rattle.tables.proofs.Entries.{some_within}
use Rattle.drafts.proofs.Walks.{some_here, some_next, some_end}
use Rattle.drafts.proofs.conditions.share.Goals as goal

pub returns-then-contains : goal.returns-then-contains
returns-then-contains g c =
    let xs = (g.L.Table.meaning c.args.left.now.table.now).values c.args.left.now.subject c.args.left.now.property in
    let ys = (g.R.Table.meaning c.args.right.now.table.now).values c.args.right.now.subject c.args.right.now.property in
    some_here (contains ys) xs c.loop-v.i c.in-Some.v c.in-Some.ensures c.if-contains.ensures c.loop-v.invariant

pub overflow_add-i : goal.overflow_add-i
overflow_add-i g c =
    let xs = (g.L.Table.meaning c.args.left.now.table.now).values c.args.left.now.subject c.args.left.now.property in
    let inside = some_within xs c.loop-v.i c.in-Some.v c.in-Some.ensures in
    omega (arith, (g.met.L.Table.sound c.args.left.now.table.now).short_lists c.args.left.now.subject c.args.left.now.property)

pub loop-v-smaller : goal.loop-v-smaller
loop-v-smaller g c =
    let xs = (g.L.Table.meaning c.args.left.now.table.now).values c.args.left.now.subject c.args.left.now.property in
    let inside = some_within xs c.loop-v.i c.in-Some.v c.in-Some.ensures in
    omega arith

pub loop-v-preserved : goal.loop-v-preserved
loop-v-preserved g c =
    let xs = (g.L.Table.meaning c.args.left.now.table.now).values c.args.left.now.subject c.args.left.now.property in
    let ys = (g.R.Table.meaning c.args.right.now.table.now).values c.args.right.now.subject c.args.right.now.property in
    some_next (contains ys) xs c.loop-v.i c.in-Some.v c.in-Some.ensures c.if-contains.ensures c.loop-v.invariant

pub returns : goal.returns
returns g c =
    let xs = (g.L.Table.meaning c.args.left.now.table.now).values c.args.left.now.subject c.args.left.now.property in
    let ys = (g.R.Table.meaning c.args.right.now.table.now).values c.args.right.now.subject c.args.right.now.property in
    let ended : None ≡ slice_get xs c.loop-v.i = cc in
    some_end (contains ys) xs c.loop-v.i ended c.loop-v.invariant
