use Rattle.std.specs.Prelude.{ℕ, ◌^◌, Bool, cond, not, ◌||◌, ltb, List, [], ◌∷◌, map, length, Some, None, Option, ◌==◌, nat_lt}
use Rattle.std.specs.List.{list_all}
use Rattle.records.specs.Refusals.{Refusal}
use Rattle.layers.specs.declared.folding_list.Folding.{Folding}
use Rattle.layers.specs.declared.folding_list.FoldingFault.{FoldingFault}
use Rattle.layers.specs.declared.folding_list.FoldingFault.TheVariants.{Full, NotAbove, Chained}
use Rattle.tables.specs.Meaning.{contains}

-- The folding of one value into another.
abbrev pub folding : ℕ → ℕ → Folding
folding a b = record { from = a; to = b }

-- The values that are folded.
abbrev pub froms : List Folding → List ℕ
froms es = map (λ (e : Folding). e.from) es

-- The values that they become.
abbrev pub tos : List Folding → List ℕ
tos es = map (λ (e : Folding). e.to) es

-- What a value becomes: the `to` of the entry whose `from` it is, or itself where there is none.
abbrev pub becomes : List Folding → ℕ → ℕ
becomes [] v = v
becomes (e ∷ es) v = cond (e.from == v) e.to (becomes es v)

-- Whether a number is above every number of a list.
abbrev pub above_all : List ℕ → ℕ → Bool
above_all xs n = list_all (λ x. ltb x n) xs

-- Whether the folding of a into b would chain with itself or with an entry: a value would become one that is folded too.
abbrev pub chains : List Folding → ℕ → ℕ → Bool
chains es a b = a == b || (contains (froms es) b || contains (tos es) a)

-- The first no to one more entry, the folding of a into b.
abbrev pub folding_fault : List Folding → ℕ → ℕ → Option Refusal
folding_fault es a b =
    cond (nat_lt (length es) 64) (cond (above_all (froms es) a) (cond (chains es a b) (Some (13, 0)) None) (Some (12, 0))) (Some (11, 0))

-- How each refusal of an entry is told.
abbrev pub folding_refusal : FoldingFault → Refusal
folding_refusal Full = (11, 0)
folding_refusal NotAbove = (12, 0)
folding_refusal Chained = (13, 0)

-- Whether no value becomes one that is folded too.
abbrev pub chain_free : List Folding → Bool
chain_free es = list_all (λ b. not (contains (froms es) b)) (tos es)

-- Whether every value becomes one that takes four bytes.
abbrev pub four_byte_tos : List Folding → Bool
four_byte_tos es = list_all (λ b. ltb b (2 ^ 32)) (tos es)
