use Rattle.std.proofs.Common.{◌≡◌, ℕ, ◌<◌, List, length, vec_items, get_or, take, sym, refl, ap, ◌∙◌, subst, arith}
use Rattle.std.specs.List.{AllByRecursion}
use Rattle.std.proofs.ByRecursion.{All-get_or}
use Rattle.std.proofs.lemmas.List.{length-take}
use Rattle.contexts.specs.declared.coded_pair.CodedPair.{CodedPair}
use Rattle.listings.specs.Copied.{Within}
use Rattle.listings.specs.declared.listing.copying.Copied.{Copied}
use Rattle.listings.proofs.Levels.{pairs_few, pairs_within}
use Rattle.listings.proofs.Marking.{no_pair, linking_fewer, counted_none, counted_all}
use Rattle.listings.proofs.listing.copying.Copied.count_links.Goals as goal

pub loop-pair-init : goal.loop-pair-init
loop-pair-init c = counted_none c.args.x c.deref-pair-items.result.now _ _ refl refl refl refl

inside : (v : Copied) (ps : List CodedPair) (i : ℕ) → ps ≡ vec_items v.pairs → i < length ps → Within (get_or ps i no_pair)
inside v ps i same h = All-get_or Within ps i no_pair h (subst (AllByRecursion Within) (sym same) (pairs_within v))

pub bounds-lefts-pair : goal.bounds-lefts-pair
bounds-lefts-pair c = (inside c.args.self.now _ _ c.deref-pair-items.ensures.value c.loop-pair-test.true).0

pub bounds-rights-pair : goal.bounds-rights-pair
bounds-rights-pair c = (inside c.args.self.now _ _ c.deref-pair-items.ensures.value c.loop-pair-test.true).1

pub overflow_add-links : goal.overflow_add-links
overflow_add-links c =
    let ps = c.deref-pair-items.result.now in
    let seen = take c.loop-pair.pair-index ps in
    omega (arith, pairs_few c.args.self.now, ap length c.deref-pair-items.ensures.value, c.loop-pair-test.true, c.loop-pair.invariant.0, linking_fewer c.args.x seen, length-take c.loop-pair.pair-index ps)

pub returns-clause-left : goal.returns-clause-left
returns-clause-left c =
    let all = counted_all c.args.x c.deref-pair-items.result.now c.loop-pair.pair-index c.loop-pair.links c.loop-pair.lefts c.loop-pair.rights c.loop-pair-test.false c.loop-pair.invariant in
    c.count_set.ensures ∙ rw (← c.deref-pair-items.ensures.value) all.1

pub returns-clause-right : goal.returns-clause-right
returns-clause-right c =
    let all = counted_all c.args.x c.deref-pair-items.result.now c.loop-pair.pair-index c.loop-pair.links c.loop-pair.lefts c.loop-pair.rights c.loop-pair-test.false c.loop-pair.invariant in
    c.count_set-2.ensures ∙ rw (← c.deref-pair-items.ensures.value) all.2
