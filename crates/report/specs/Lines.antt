use Rattle.std.specs.Prelude.{ℕ, List, [], ◌∷◌, ◌++◌, codes, decimal}
use Rattle.records.specs.Refusals.{Refusal}
use Rattle.records.specs.declared.kinds.candidate.Candidate.{Candidate}
use Rattle.report.specs.declared.source.Source.{Source}
use Rattle.report.specs.declared.source.Source.TheVariants.{Left, Right, Draft}

-- The word that names a file in a line.
abbrev pub source_name : Source → List ℕ
source_name Left = codes "left"
source_name Right = codes "right"
source_name Draft = codes "draft"

-- `read 3 subjects and 2 properties of left`, and a line feed.
abbrev pub register_line : Source → ℕ → ℕ → List ℕ
register_line source subjects properties =
    codes "read " ++ (decimal subjects ++ (codes " subjects and " ++ (decimal properties ++ (codes " properties of " ++ (source_name source ++ 10 ∷ [])))))

-- `read 4 equal and 4 share conditions of draft`, and a line feed.
abbrev pub draft_line : ℕ → ℕ → List ℕ
draft_line equal share =
    codes "read " ++ (decimal equal ++ (codes " equal and " ++ (decimal share ++ (codes " share conditions of draft" ++ 10 ∷ []))))

-- `65 4 2 2`, and a line feed: the code of a candidate, its links, its left linked and its right linked.
abbrev pub candidate_line : Candidate → List ℕ
candidate_line c =
    decimal c.code ++ (codes " " ++ (decimal c.links ++ (codes " " ++ (decimal c.left_linked ++ (codes " " ++ (decimal c.right_linked ++ 10 ∷ []))))))

-- `end 5`, and a line feed: how many candidates there are.
abbrev pub end_line : ℕ → List ℕ
end_line total = codes "end " ++ (decimal total ++ 10 ∷ [])

-- `fault left 4 0`, and a line feed: the file, the number and the place of its refusal.
abbrev pub fault_line : Source → Refusal → List ℕ
fault_line source refusal =
    codes "fault " ++ (source_name source ++ (codes " " ++ (decimal refusal.0 ++ (codes " " ++ (decimal refusal.1 ++ 10 ∷ [])))))
