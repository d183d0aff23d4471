use Rattle.std.proofs.Common.{rules, ◌≡◌, map, vec_items, IfOk, arith}
use Rattle.std.proofs.lemmas.Iterator.{items_from_collect, YieldsList-from_map, YieldsList-from_range}
use Rattle.lattice.specs.Sets.{range}
use Rattle.listings.proofs.Starting.{copy_means, copy_is_small, copy_is_coded, copy_is_below}
use Rattle.listings.proofs.listing.starting.copy.Given as given
use Rattle.listings.proofs.listing.starting.copy.Goals as goal
use Rattle.listings.proofs.listing.starting.copy.Goals.{After-conditions}

-- Every left and every right subject was asked.
lefts_asked : (g : given.Over) (c : After-conditions g) →
    let r = g.C.Context.relation c.args.context.now in
    vec_items c.in_ok-left_present.left_present ≡ map r.left_present (range r.lefts)
lefts_asked g c =
    let r = g.C.Context.relation c.args.context.now in
    let got : IfOk c.collect.result (λ v. vec_items v ≡ map r.left_present (range r.lefts)) =
    items_from_collect _ c.collect.ensures.ran (YieldsList-from_map _ r.left_present (YieldsList-from_range 0 _ r.lefts c.map.ensures.source (omega (arith, c.lefts.ensures))) c.map.ensures.closure (λ x t q k. search rules))
    in rw c.in_ok-left_present.was at got

rights_asked : (g : given.Over) (c : After-conditions g) →
    let r = g.C.Context.relation c.args.context.now in
    vec_items c.in_ok-right_present.right_present ≡ map r.right_present (range r.rights)
rights_asked g c =
    let r = g.C.Context.relation c.args.context.now in
    let got : IfOk c.collect-2.result (λ v. vec_items v ≡ map r.right_present (range r.rights)) =
    items_from_collect _ c.collect-2.ensures.ran (YieldsList-from_map _ r.right_present (YieldsList-from_range 0 _ r.rights c.map-2.ensures.source (omega (arith, c.rights.ensures))) c.map-2.ensures.closure (λ x t q k. search rules))
    in rw c.in_ok-right_present.was at got

pub invariant_of-result-2 : goal.invariant_of-result-2
invariant_of-result-2 g c =
    let sound = g.met.C.Context.sound c.args.context.now in
    let c' = (goal.at.invariant_of-result-2 g c).After-conditions in
    let lefts = lefts_asked g c' in
    let rights = rights_asked g c' in
    record {
      few = copy_is_small _ sound lefts rights c.conditions.ensures c.in_ok-pairs.ensures;
      coded = copy_is_coded _ sound lefts rights c.conditions.ensures c.in_ok-pairs.ensures;
      below = copy_is_below _ sound lefts rights c.conditions.ensures c.in_ok-pairs.ensures;
      known = rw (← c.as_slice.ensures.value) c.in_ok-distinct.ensures;
    }

pub returns : goal.returns
returns g c =
    let c' = (goal.at.returns g c).After-conditions in
    copy_means _ (g.met.C.Context.sound c.args.context.now) (lefts_asked g c') (rights_asked g c') c.conditions.ensures c.in_ok-pairs.ensures
