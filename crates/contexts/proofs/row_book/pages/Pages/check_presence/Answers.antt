use Rattle.std.proofs.Common.{◌≡◌, ◌+◌, ◌<◌, ◌≤◌, take, Ok, Err, refl, rules, arith}
use Rattle.std.specs.Option.{option_map_or}
use Rattle.std.proofs.lemmas.Iterator.{YieldsList-from_slice, IsFirst-from_position}
use borrow.Author.Tests.{tests}
use Rattle.contexts.specs.declared.row_book.BookFault.TheVariants.{UnknownPresence}
use Rattle.contexts.specs.BookOpening.{presence_known}
use Rattle.contexts.proofs.Failing.{presence_found, answered_by_first}
use Rattle.contexts.proofs.row_book.pages.Pages.check_presence.Goals as goal

pub returns : goal.returns
returns c =
    let p = c.args.self.now in
    let n = p.lefts + p.rights in
    let found = IsFirst-from_position _ _ c.position.result (λ w. 1 < w) (λ w. w ≤ 1) c.position.ensures.ran (YieldsList-from_slice (take n p.words.now) (search rules)) (λ x q k. search (rules, tests)) (λ x q k. search (rules, tests)) in
    let answer = answered_by_first 22 UnknownPresence (λ i. refl) (presence_known p.words.now) 0 n n (omega arith) c.position.result (presence_found p.words.now n (omega arith) c.position.result found) in
    let told : c.map_or.result ≡ option_map_or (λ i. Err (UnknownPresence i)) c.position.result (Ok tt) = search rules in
    rw told answer
