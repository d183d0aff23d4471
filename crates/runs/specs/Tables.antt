-- What a run of calls over two tables gives back.
use Rattle.std.specs.Prelude.{◌≡◌, List, map}
use Rattle.drafts.specs.Alike.{lefts_named, rights_named, AlikeAt}
use Rattle.drafts.specs.Live.{live}
use Rattle.drafts.specs.declared.comparison.Comparison.{Comparison}
use Rattle.listings.specs.Calls.{Reply}
use Rattle.listings.specs.Kept.{Kept}
use Rattle.listings.specs.Runs.{Ran}
use Rattle.listings.specs.View.{ask_of, reply_of}
use Rattle.listings.specs.declared.call.Answer.{Answer}
use Rattle.listings.specs.declared.call.Call.{Call}
use Rattle.tables.specs.Meaning.{Meaning}

-- The answers to the calls over two tables under some comparisons: what every run over the relation of the tables owes, and the same as any run over tables that are alike at the properties which the comparisons name.
pub record RanOver (left_meaning right_meaning : Meaning) (cs : List Comparison) (calls : List Call) (answers : List Answer) : Type 0 where
  pub ran : Ran (live left_meaning right_meaning cs) calls answers
  pub alike_tables_answer_alike :
      (l r : Meaning) → AlikeAt (lefts_named cs) left_meaning l → AlikeAt (rights_named cs) right_meaning r → (rs : List Reply) → Kept (live l r cs) (map ask_of calls) rs → map reply_of answers ≡ rs

-- Two runs answer alike where the comparisons are the same, in the same order, and the tables are alike, left with left and right with right, at the properties which they name.
abbrev pub AnswerAlike : Meaning → Meaning → Meaning → Meaning → List Comparison → List Comparison → List Answer → List Answer → Type 0
AnswerAlike l r l' r' cs cs' answers answers' =
    cs ≡ cs' → AlikeAt (lefts_named cs) l l' → AlikeAt (rights_named cs) r r' → map reply_of answers ≡ map reply_of answers'
