use Rattle.std.proofs.Common.{rules, tests, ◌≡◌, ℕ, ◌<◌, List, eqb, length, get_or, take, drop, ap, ◌∙◌, zero-add, arith}
use lib.Bits.{bit_and}
use Rattle.std.specs.List.{enumerate_from}
use Rattle.std.proofs.lemmas.Iterator.{YieldsList, YieldsList-from_slice, YieldsList-from_take}
use Rattle.std.proofs.lemmas.Iterator.Adapters.{YieldsList-from_skip}
use Rattle.std.proofs.lemmas.Iterator.Consumers.{YieldsList-from_filter, YieldsList-from_enumerate, YieldsList-turn, YieldsList-end}
use Rattle.std.proofs.lemmas.List.FromFn.{length-enumerate_from, get_or-enumerate_from}
use Rattle.std.proofs.lemmas.List.{take_all, length_push}
use Rattle.records.specs.Writing.{put_at}
use Rattle.contexts.specs.declared.coded_pair.CodedPair.{CodedPair}
use Rattle.listings.specs.Copied.{linking, subjects_of}
use Rattle.listings.specs.Pages.{link_bytes}
use Rattle.listings.proofs.Paging.{written_more, page_subjects}
use Rattle.listings.proofs.listing.paging.write_links.Given as given
use Rattle.listings.proofs.listing.paging.write_links.Goals as goal
use Rattle.listings.proofs.listing.paging.write_links.Goals.{After-into_iter-i-iterator, In-Some}

-- The pairs on a page.
abbrev page_of : (ps : List CodedPair) (x from count : ℕ) → List CodedPair
page_of ps x from count = take count (drop from (linking x ps))

-- The loop runs over the pairs on the page, numbered from 0.
listed : (c : After-into_iter-i-iterator) → YieldsList given.iterator-loop-i.next_gives (λ p. (p.0, p.1.now)) c.into_iter-i-iterator.result (enumerate_from 0 (page_of c.args.pairs.now c.args.x c.args.from c.args.count))
listed c =
    let same : c.into_iter-i-iterator.result.iter.iter.iter ≡ c.filter-links.result = cc in
    YieldsList-from_enumerate (YieldsList-from_take c.args.count (YieldsList-from_skip c.args.from (YieldsList-from_filter _ (λ (p : CodedPair). eqb (bit_and p.code c.args.x) c.args.x) (YieldsList-from_slice c.args.pairs.now cc) (ap (λ s. s.p) same ∙ c.filter-links.ensures.closure) (λ p b q k. search (rules, tests))) cc) cc) cc

-- Where the item of a turn stands on the page.
placed : (c : In-Some) →
    let page = page_of c.args.pairs.now c.args.x c.args.from c.args.count in
    let n = length c.loop-i.yielded in
    YieldsList given.iterator-loop-i.next_gives (λ p. (p.0, p.1.now)) c.into_iter-i-iterator.result (enumerate_from 0 page)
    → (n < length page) × (c.in-Some.i ≡ n) × (c.in-Some.pair.now ≡ get_or page n c.in-Some.pair.now)
placed c list =
    let page = page_of c.args.pairs.now c.args.x c.args.from c.args.count in
    let n = length c.loop-i.yielded in
    let turn = YieldsList-turn list c.loop-i.yielded _ c.loop-i.yielded_by _ _ _ c.in-Some.is c.next.ensures.steps in
    let inside : n < length page = omega (arith, turn.0, length-enumerate_from 0 page) in
    let item = turn.1 ∙ get_or-enumerate_from 0 page n (c.in-Some.i, c.in-Some.pair.now) inside in
    (inside, ap (λ (x : ℕ × CodedPair). x.0) item ∙ zero-add n, ap (λ (x : ℕ × CodedPair). x.1) item)

pub loop-i-init : goal.loop-i-init
unfolding link_bytes
loop-i-init c = search rules

pub loop-i-preserved : goal.loop-i-preserved
loop-i-preserved c =
    let on = goal.at.loop-i-preserved c in
    let at = placed on.In-Some (listed on.After-into_iter-i-iterator) in
    let page = page_of c.args.pairs.now c.args.x c.args.from c.args.count in
    let n = length c.loop-i.yielded in
    rw length_push (written_more page n c.in-Some.pair.now c.args.out.now c.loop-i.out c.put_link.new.out at.0 at.2 c.loop-i.invariant (rw (← at.1) c.put_link.ensures))

pub returns : goal.returns
returns c =
    let page = page_of c.args.pairs.now c.args.x c.args.from c.args.count in
    let end = YieldsList-end (listed (goal.at.returns c).After-into_iter-i-iterator) c.loop-i.yielded _ c.loop-i.yielded_by _ _ c.in-None.is c.next.ensures.steps in
    let all : take (length c.loop-i.yielded) page ≡ page = take_all (length c.loop-i.yielded) page (omega (arith, end.1, length-enumerate_from 0 page)) in
    c.loop-i.invariant ∙ ap (λ (ls : List (ℕ × ℕ)). put_at 0 (link_bytes ls) c.args.out.now) (ap subjects_of all ∙ page_subjects c.args.from c.args.count (linking c.args.x c.args.pairs.now))
