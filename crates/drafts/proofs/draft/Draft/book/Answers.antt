use Rattle.std.proofs.Common.{◌≡◌, ◌+◌, ◌*◌, ◌++◌, length, take, drop, is_ok, None, vec_items, ap, ◌∙◌, rules}
use Rattle.std.proofs.lemmas.Result.{MatchResult-at_ok}
use Rattle.contexts.specs.Book.{book}
use Rattle.contexts.specs.BookMaking.{BookMade, BookRefused}
use Rattle.contexts.specs.BookOpening.{book_fault}
use Rattle.drafts.specs.Live.{live}
use Rattle.drafts.proofs.Books.{accepted, frozen_whole, opens}
use Rattle.drafts.specs.Soundness.{draft_sound}
use Rattle.drafts.proofs.draft.Draft.book.Given as given
use Rattle.drafts.proofs.draft.Draft.book.Goals as goal
use Rattle.drafts.proofs.draft.Draft.book.Goals.{After-open}

-- what was written opens, and means the draft
written : (g : given.Over) (c : After-open g) →
    let d = c.args.self.now in
    let w = take c.in_ok-words.words.len (c.freeze.new.words ++ drop (length c.freeze.new.words) c.in_ok-words.words.items) in
    (book_fault w c.subjects-lefts.result c.subjects-rights.result c.len.result ≡ None)
    × (book w c.subjects-lefts.result c.subjects-rights.result c.len.result ≡ live (g.L.Table.meaning d.left) (g.R.Table.meaning d.right) (vec_items d.comparisons))
written g c =
    let d = c.args.self.now in
    let l = g.L.Table.meaning d.left in
    let r = g.R.Table.meaning d.right in
    let cs = vec_items d.comparisons in
    let many : c.len.result ≡ length cs = c.len.ensures ∙ d.comparisons.ok.0 in
    let sound = draft_sound l r d.comparisons (g.met.L.Table.sound d.left) (g.met.R.Table.sound d.right) d.few in
    let n = c.in_ok-words.words.len in
    let el = c.subjects-lefts.ensures in
    let er = c.subjects-rights.ensures in
    let asked : n ≡ c.subjects-lefts.result + c.subjects-rights.result + c.subjects-lefts.result * c.subjects-rights.result = search rules in
    let size : n ≡ l.subjects + r.subjects + l.subjects * r.subjects = cc in
    let whole = frozen_whole (live l r cs) c.as_mut_slice.result.now c.freeze.new.words c.in_ok-words.words.items n (is_ok c.freeze.result) (ap is_ok c.unwrap.ensures) c.freeze.ensures.after (c.as_mut_slice.ensures.len ∙ size) size in
    opens (live l r cs) sound _ c.subjects-lefts.result c.subjects-rights.result c.len.result whole el er many

pub unwrap-requires-2 : goal.unwrap-requires-2
unwrap-requires-2 g c = accepted _ _ _ _ c.open.result c.open.ensures (written g (goal.at.unwrap-requires-2 g c).After-open).0

pub returns : goal.returns
returns g c =
    (MatchResult-at_ok (BookMade _ _ _ _) (BookRefused _ _ _ _) c.unwrap-2.result c.unwrap-2.ensures c.open.ensures).meaning ∙ (written g (goal.at.returns g c).After-open).1
