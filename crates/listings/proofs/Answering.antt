-- The loop of a run: each call is answered as its level says, and a level past the end stays there.
use Rattle.std.proofs.Common.{◌≡◌, ℕ, ◌+◌, min, List, [], ◌∷◌, ◌++◌, map, sym, ap, ◌∙◌, subst, ⊎_elim, arith}
use Rattle.std.specs.Vec.Iter.{into_iter_items, into_iter_len}
use Rattle.std.specs.declared.alloc.Global.{Global}
use Rattle.std.specs.declared.vec.IntoIter.{IntoIter}
use Rattle.std.proofs.lemmas.List.{append_assoc, map_push, nil_from_length}
use Rattle.std.proofs.lemmas.Bool.{cases_lt}
use Rattle.contexts.specs.Relation.{Relation}
use Rattle.listings.specs.Calls.{Ask, Reply, with_space}
use Rattle.listings.specs.Kept.{Kept}
use Rattle.listings.specs.Replies.{candidate_count, reply, replies}
use Rattle.listings.specs.Runs.{Ran}
use Rattle.listings.specs.View.{ask_of, reply_of}
use Rattle.listings.specs.declared.call.Answer.{Answer}
use Rattle.listings.specs.declared.call.Call.{Call}
use Rattle.listings.proofs.Keeping.{replies_keep}
use Rattle.listings.proofs.Running.{replies_past}
use Rattle.listings.proofs.Settling.{kept_alike}

-- a level held at one past the end answers as any beyond
replies_capped : (c : Relation) (w : ℕ) (asks : List Ask) → replies c (min w (candidate_count c + 1)) asks ≡ replies c w asks
replies_capped c w asks =
    ⊎_elim (λ h. replies_past c (min w (candidate_count c + 1)) w asks (omega arith) h)
    (λ h. let same : min w (candidate_count c + 1) ≡ w = omega arith in ap (λ (v : ℕ). replies c v asks) same)
    (cases_lt (candidate_count c) w)

-- one call more
pub run_more :
    (x c : Relation) (w v : ℕ) (done told : List Answer) (answer : Answer) (call : Call) (before rest : List Call) (all : List Reply)
    → x ≡ c
    → reply_of answer ≡ reply x w (ask_of call)
    → v ≡ min (w + with_space (ask_of call)) (candidate_count x + 1)
    → told ≡ done ++ answer ∷ []
    → before ≡ call ∷ rest
    → map reply_of done ++ replies c w (map ask_of before) ≡ all
    → map reply_of told ++ replies c v (map ask_of rest) ≡ all
run_more x c w v done told answer call before rest all same by level pushed next so_far =
    let asks = map ask_of rest in
    let here = by ∙ ap (λ (r : Relation). reply r w (ask_of call)) same in
    let there = level ∙ ap (λ (r : Relation). min (w + with_space (ask_of call)) (candidate_count r + 1)) same in
    ap (λ (us : List Answer). map reply_of us ++ replies c v asks) pushed
    ∙ ap (λ (rs : List Reply). rs ++ replies c v asks) (map_push reply_of done answer)
    ∙ append_assoc (map reply_of done) (reply_of answer ∷ []) (replies c v asks)
    ∙ ap (λ (r : Reply). map reply_of done ++ r ∷ replies c v asks) here
    ∙ ap (λ (rs : List Reply). map reply_of done ++ reply c w (ask_of call) ∷ rs) (ap (λ (n : ℕ). replies c n asks) there ∙ replies_capped c (w + with_space (ask_of call)) asks)
    ∙ ap (λ (cs : List Call). map reply_of done ++ replies c w (map ask_of cs)) (sym next)
    ∙ so_far

pub none_left : (it : IntoIter Call Global) → into_iter_len it ≡ 0 → into_iter_items it ≡ []
none_left it h = nil_from_length (into_iter_items it) (sym it.rest.ok.0 ∙ h)

-- answers by the relation are what a run owes, and there are no others
pub ran : (c : Relation) (calls : List Call) (told : List Answer) → map reply_of told ≡ replies c 0 (map ask_of calls) → Ran c calls told
ran c calls told by =
    let asks = map ask_of calls in
    let kept = subst (Kept c asks) (sym by) (replies_keep c asks) in
    record { kept = kept; settled = λ rs other. kept_alike c asks (map reply_of told) rs kept other }
