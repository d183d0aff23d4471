use Rattle.std.proofs.Common.{◌≡◌, ◌<◌, Some, vec_items, refl, arith, rules, tests}
use Rattle.lattice.specs.Closed.{next_closed}
use Rattle.listings.specs.Counts.{candidate_body}
use Rattle.listings.specs.Replies.{candidate_count}
use Rattle.listings.specs.View.{relation_of}
use Rattle.listings.proofs.Levels.{step_within, step_bare, step_none, count_small, advanced, finished, stayed}
use Rattle.listings.proofs.listing.Listing.advance.Given as given
use Rattle.listings.proofs.listing.Listing.advance.Goals as goal
use Rattle.listings.proofs.listing.Listing.advance.Goals.{In-Some, In_default}

-- The next candidate, and its code.
found : (g : given.Over) (c : In-Some g) →
    let l = c.args.self.now in
    let r = c.in-Some.candidate in
    (Some r.code ≡ next_closed l.copy.width.conditions (vec_items l.copy.distinct) l.tally.last) × (r ≡ candidate_body (relation_of l) r.code) × (0 < r.links)
unfolding candidate_body
found g c = search (rules, tests)

-- No candidate is left.
none_left : (g : given.Over) (c : In_default g) → c.args.self.now.tally.handed ≡ candidate_count (relation_of c.args.self.now)
none_left g c =
    let l = c.args.self.now in
    let bare = step_bare l in
    let none = step_none l in
    search (rules, tests)

pub map-examined-requires : goal.map-examined-requires
map-examined-requires g c = let within = step_within c.args.self.now in search rules

pub overflow_add-self : goal.overflow_add-self
overflow_add-self g c =
    let l = c.args.self.now in
    let on = found g (goal.at.overflow_add-self g c).In-Some in
    omega (arith, (advanced l c.in-Some.candidate.code c.in-Some.candidate on.0 c.if-self.false on.1 on.2).0.0, count_small l.copy)

pub invariant_of-self : goal.invariant_of-self
invariant_of-self g c =
    let l = c.args.self.now in
    record { reached = (l.reached.0, l.reached.1, λ _. none_left g c) }

pub invariant_of-self-2 : goal.invariant_of-self-2
invariant_of-self-2 g c =
    let l = c.args.self.now in
    let on = found g (goal.at.invariant_of-self-2 g c).In-Some in
    record { reached = (advanced l c.in-Some.candidate.code c.in-Some.candidate on.0 c.if-self.false on.1 on.2).0 }

pub returns-then-self : goal.returns-then-self
returns-then-self g c =
    let end = stayed c.args.self.now c.if-self.true in
    record { went = record { context = refl; relation = refl; level = end.0 }; found = end.1 }

pub returns-in_default : goal.returns-in_default
returns-in_default g c =
    let end = finished c.args.self.now c.if-self.false (none_left g (goal.at.returns-in_default g c).In_default) in
    record { went = record { context = refl; relation = refl; level = end.0 }; found = end.1 }

pub returns : goal.returns
returns g c =
    let l = c.args.self.now in
    let on = found g (goal.at.returns g c).In-Some in
    let next = advanced l c.in-Some.candidate.code c.in-Some.candidate on.0 c.if-self.false on.1 on.2 in
    record { went = record { context = refl; relation = refl; level = next.1 }; found = (next.2, next.3) }
