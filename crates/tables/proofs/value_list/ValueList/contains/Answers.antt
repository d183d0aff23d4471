use Rattle.std.proofs.Common.{◌≡◌, None, sym, ◌∙◌, arith}
use Rattle.std.specs.List.{slice_get}
use Rattle.tables.proofs.Entries.{some_within, contains_some, contains_other, contains_none}
use Rattle.tables.proofs.value_list.ValueList.contains.Goals as goal

pub returns-then-x-v : goal.returns-then-x-v
returns-then-x-v g c =
    let xs = (g.T.Table.meaning c.args.self.now.table.now).values c.args.self.now.subject c.args.self.now.property in
    sym (contains_some xs c.loop-x.i c.in-Some.x c.args.v c.in-Some.ensures c.if-x-v.true) ∙ c.loop-x.invariant

pub overflow_add-i : goal.overflow_add-i
overflow_add-i g c =
    let xs = (g.T.Table.meaning c.args.self.now.table.now).values c.args.self.now.subject c.args.self.now.property in
    let within = some_within xs c.loop-x.i c.in-Some.x c.in-Some.ensures in
    omega (arith, (g.met.T.Table.sound c.args.self.now.table.now).short_lists c.args.self.now.subject c.args.self.now.property)

pub loop-x-smaller : goal.loop-x-smaller
loop-x-smaller g c =
    let xs = (g.T.Table.meaning c.args.self.now.table.now).values c.args.self.now.subject c.args.self.now.property in
    let within = some_within xs c.loop-x.i c.in-Some.x c.in-Some.ensures in
    omega arith

pub loop-x-preserved : goal.loop-x-preserved
loop-x-preserved g c =
    let xs = (g.T.Table.meaning c.args.self.now.table.now).values c.args.self.now.subject c.args.self.now.property in
    sym (contains_other xs c.loop-x.i c.in-Some.x c.args.v c.in-Some.ensures c.if-x-v.false) ∙ c.loop-x.invariant

pub returns : goal.returns
returns g c =
    let xs = (g.T.Table.meaning c.args.self.now.table.now).values c.args.self.now.subject c.args.self.now.property in
    let ended : None ≡ slice_get xs c.loop-x.i = cc in
    sym (contains_none xs c.loop-x.i c.args.v ended) ∙ c.loop-x.invariant
