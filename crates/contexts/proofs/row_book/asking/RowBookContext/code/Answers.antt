use Rattle.std.proofs.Common.{◌≡◌, get_or, vec_items, arith}
use Rattle.std.proofs.lemmas.Bool.Decides.{nat_tests}
use Rattle.std.proofs.lemmas.Grind.{common_steps}
use Rattle.contexts.specs.Book.{pair_place}
use Rattle.contexts.specs.Books.{facts, pair_within}
use Rattle.contexts.proofs.row_book.asking.RowBookContext.code.Goals as goal

pub index-requires : goal.index-requires
index-requires c =
    let b = c.args.self.now in
    let f = facts (vec_items b.words) b.lefts b.rights b.conditions b.allowed in
    omega (arith, f.whole, b.words.ok.0, pair_within b.lefts b.rights c.args.s c.args.t (omega arith) (omega arith))

pub returns-then-t-self : goal.returns-then-t-self
returns-then-t-self c =
    let b = c.args.self.now in
    let f = facts (vec_items b.words) b.lefts b.rights b.conditions b.allowed in
    let i = pair_place b.lefts b.rights c.args.s c.args.t in
    let within = pair_within b.lefts b.rights c.args.s c.args.t c.if-s-self.true c.if-t-self.true in
    let read : c.index.result.now ≡ get_or (vec_items b.words) i 0 = grind (arith, common_steps, f.whole) in
    grind (arith, nat_tests)
