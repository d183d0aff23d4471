-- What a run of calls over a relation gives back.
use Rattle.std.specs.Prelude.{◌≡◌, List, map}
use Rattle.contexts.specs.Relation.{Relation}
use Rattle.listings.specs.Calls.{Reply}
use Rattle.listings.specs.Kept.{Kept}
use Rattle.listings.specs.View.{ask_of, reply_of}
use Rattle.listings.specs.declared.call.Answer.{Answer}
use Rattle.listings.specs.declared.call.Call.{Call}

-- The answers to the calls: they are what every run owes, and nothing else is.
pub record Ran (c : Relation) (calls : List Call) (answers : List Answer) : Type 0 where
  pub kept : Kept c (map ask_of calls) (map reply_of answers)
  pub settled : (rs : List Reply) → Kept c (map ask_of calls) rs → map reply_of answers ≡ rs
