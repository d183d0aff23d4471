use Rattle.std.proofs.Common.{◌≡◌, ℕ, ◌^◌, ◌<◌, ◌≤◌, Option, MatchOption, sym, arith, pow_pos, rules}
use Rattle.lattice.specs.Closed.{Accepted, trial}
use Rattle.lattice.proofs.FindMap.{found_first}
use Rattle.lattice.proofs.Raising.{none_past}
use Rattle.lattice.proofs.Search.{search_ended}
use Rattle.lattice.proofs.closed.next.Goals as goal

pub returns-then-x-whole : goal.returns-then-x-whole
returns-then-x-whole c =
    let k = c.args.width.conditions in
    let past : 2 ^ k ≤ c.args.x = omega arith in
    sym (none_past k c.args.codes.now c.args.x past)

pub returns : goal.returns
returns c =
    let k = c.args.width.conditions in
    let codes = c.args.codes.now in
    let x = c.args.x in
    let within : x < 2 ^ k = omega (arith, pow_pos k) in
    let Answer : ℕ → Option ℕ → Type 0 = λ j r. MatchOption r (Accepted k codes x j → ⊥) (λ t. Accepted k codes x j × (t ≡ trial k codes x j)) in
    search_ended k codes x within c.find_map.result (found_first _ _ Answer (λ j o q h. search rules) c.find_map.result c.find_map.ensures.runs)
