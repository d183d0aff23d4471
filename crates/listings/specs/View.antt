-- The calls, answers and listings of the code, as the definitions speak of them.
use Rattle.std.specs.Prelude.{◌≡◌, ℕ, ◌+◌, min, cond, List, [], Ok, Err, vec_items, Result}
use Rattle.contexts.specs.Relation.{Relation}
use Rattle.listings.specs.Calls.{Ask, take_at, page_from, tally_now, total_now, Reply, handed, ended, paged, refused, tallied, totalled}
use Rattle.listings.specs.Held.{held}
use Rattle.listings.specs.Replies.{candidate_count}
use Rattle.listings.specs.Refusals.{take_refusal, page_refusal, total_refusal}
use Rattle.listings.specs.declared.call.Answer.{Answer}
use Rattle.listings.specs.declared.call.Answer.TheVariants as answers
use Rattle.listings.specs.declared.call.Call.{Call}
use Rattle.listings.specs.declared.call.Call.TheVariants as calls
use Rattle.listings.specs.declared.call.Taken.{Taken}
use Rattle.listings.specs.declared.call.Taken.TheVariants as taken
use Rattle.listings.specs.declared.call.Tally.{Tally}
use Rattle.listings.specs.declared.fault.PageFault.{PageFault}
use Rattle.listings.specs.declared.fault.TakeFault.{TakeFault}
use Rattle.listings.specs.declared.fault.TotalFault.{TotalFault}
use Rattle.listings.specs.declared.listing.Listing.{Listing}

-- A call, with the bytes of its buffer.
abbrev pub ask_of : Call → Ask
ask_of (calls.Take at buffer) = take_at at (vec_items buffer)
ask_of (calls.Page from buffer) = page_from from (vec_items buffer)
ask_of calls.Tally = tally_now
ask_of calls.Total = total_now

-- What a take answers, with the bytes that it left.
abbrev pub taken_of : Result Taken TakeFault → List ℕ → Reply
taken_of (Ok taken.Handed) b = handed b
taken_of (Ok taken.Ended) b = ended b
taken_of (Err e) b = refused (take_refusal e) b

-- What a page answers, with the bytes that it left.
abbrev pub paged_of : Result ℕ PageFault → List ℕ → Reply
paged_of (Ok n) b = paged n b
paged_of (Err e) b = refused (page_refusal e) b

-- What a tally answers.
abbrev pub tally_of : Tally → Reply
tally_of t = tallied t.handed t.last t.ended

-- What a total answers.
abbrev pub total_of : Result ℕ TotalFault → Reply
total_of (Ok n) = totalled n
total_of (Err e) = refused (total_refusal e) []

-- An answer, with the bytes of its buffer.
abbrev pub reply_of : Answer → Reply
reply_of (answers.Took taken buffer) = taken_of taken (vec_items buffer)
reply_of (answers.Paged count buffer) = paged_of count (vec_items buffer)
reply_of (answers.Tallied tally) = tally_of tally
reply_of (answers.Totalled total) = total_of total

-- The relation that a listing lists: the one that its own copy holds.
abbrev pub relation_of : {C : Type 0} → Listing C → Relation
relation_of l = held l.copy

-- How far it has come: how many it handed out, and one more once it has said "ended".
abbrev pub level : {C : Type 0} → Listing C → ℕ
level l = l.tally.handed + cond l.tally.ended 1 0

-- A listing l that went on by so many takes with space, and is now m: its context and its relation stayed.
pub record WentOn {C : Type 0} (l m : Listing C) (takes : ℕ) : Type 0 where
  pub context : m.context ≡ l.context
  pub relation : relation_of m ≡ relation_of l
  pub level : level m ≡ min (level l + takes) (candidate_count (relation_of l) + 1)
