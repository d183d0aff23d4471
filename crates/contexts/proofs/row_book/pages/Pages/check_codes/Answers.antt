use Rattle.std.proofs.Common.{◌≡◌, ◌+◌, ◌*◌, length, true, false, Ok, Err, refl, rules, arith}
use Rattle.std.specs.Option.{option_map_or}
use Rattle.std.proofs.lemmas.Iterator.{first_from_Range}
use borrow.Author.Tests.{tests}
use Rattle.contexts.specs.declared.row_book.BookFault.TheVariants.{WrongCode}
use Rattle.contexts.specs.BookOpening.{code_allowed}
use Rattle.contexts.proofs.Failing.{answered_by_first}
use Rattle.contexts.proofs.row_book.pages.Pages.check_codes.Goals as goal

pub returns : goal.returns
returns c =
    let p = c.args.self.now in
    let test = code_allowed p.words.now p.lefts p.rights p.width.conditions in
    let found = first_from_Range _ _ _ c.find.result (λ i. test i ≡ false) (λ i. test i ≡ true) c.find.ensures.ran (λ x q k. search (rules, tests)) (λ x q k. search (rules, tests)) in
    let whole : p.lefts + p.rights + p.lefts * p.rights ≡ length p.words.now = omega arith in
    let answer = answered_by_first 23 WrongCode (λ i. refl) test (p.lefts + p.rights) (p.lefts * p.rights) _ whole c.find.result found in
    let told : c.map_or.result ≡ option_map_or (λ i. Err (WrongCode i)) c.find.result (Ok tt) = search rules in
    rw told answer
