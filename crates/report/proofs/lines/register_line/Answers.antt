use Rattle.std.proofs.Common.{ℕ, List, [], ◌∷◌, ◌++◌, codes, decimal, ap, ◌∙◌}
use Rattle.std.proofs.lemmas.Result.{IfOk-weaker}
use Rattle.report.proofs.lines.register_line.Goals as goal

pub returns : goal.returns
returns c =
    IfOk-weaker c.format.result _ _ (λ s e. e ∙ ap (λ (v : List ℕ). codes "read " ++ (decimal c.args.subjects ++ (codes " subjects and " ++ (decimal c.args.properties ++ (codes " properties of " ++ (v ++ 10 ∷ [])))))) c.name-name.ensures) c.format.ensures.ok
