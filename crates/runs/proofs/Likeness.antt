-- Alike tables have one relation, and what a run owes to it settles its answers.
use Rattle.std.proofs.Common.{◌≡◌, ℕ, ◌+◌, ◌<◌, List, [], ◌∷◌, ◌++◌, map, length, get_or, take, sym, ap, ◌∙◌, subst}
use Rattle.std.proofs.lemmas.List.{map-append, take_more}
use Rattle.contexts.specs.Relation.{Relation}
use Rattle.drafts.specs.Alike.{AlikeTablesRelateAlike}
use Rattle.drafts.specs.Live.{live}
use Rattle.drafts.specs.declared.comparison.Comparison.{Comparison}
use Rattle.listings.specs.Calls.{Ask}
use Rattle.listings.specs.Kept.{Kept}
use Rattle.listings.specs.Runs.{Ran}
use Rattle.listings.specs.View.{ask_of}
use Rattle.listings.specs.declared.call.Answer.{Answer}
use Rattle.listings.specs.declared.call.Call.{Call}
use Rattle.tables.specs.Meaning.{Meaning}
use Rattle.runs.specs.Tables.{RanOver}

pub ran_over : (l r : Meaning) (cs : List Comparison) (calls : List Call) (answers : List Answer) → AlikeTablesRelateAlike l r cs → Ran (live l r cs) calls answers → RanOver l r cs calls answers
ran_over l r cs calls answers alike ran =
    record {
      ran = ran;
      alike_tables_answer_alike = λ l' r' el er rs kept. ran.settled rs (subst (λ (c : Relation). Kept c (map ask_of calls) rs) (sym (alike l' r' el er)) kept);
    }

-- one call more
pub asks_push : (calls copies pushed : List Call) (i : ℕ) (d copy : Call) → i < length calls → map ask_of copies ≡ map ask_of (take i calls) → ask_of copy ≡ ask_of (get_or calls i d) → pushed ≡ copies ++ copy ∷ [] → map ask_of pushed ≡ map ask_of (take (i + 1) calls)
asks_push calls copies pushed i d copy h before same push =
    ap (map ask_of) push
    ∙ map-append ask_of copies (copy ∷ [])
    ∙ ap (λ (us : List Ask). us ++ ask_of copy ∷ []) before
    ∙ ap (λ (a : Ask). map ask_of (take i calls) ++ a ∷ []) same
    ∙ sym (ap (map ask_of) (take_more calls i d h) ∙ map-append ask_of (take i calls) (get_or calls i d ∷ []))
