-- What holds of every list of a sheet. The lemmas stand here and not in proofs/: src/ cites them, and can cite nothing of its own crate's proofs/.
use Rattle.std.specs.Prelude.{ℕ, cond, List, [], nat_lt}
use Rattle.std.proofs.lemmas.Bool.{cond_both}
use Rattle.tables.specs.TickSheet.{row, tick_word, ticked, sheet_present}

-- what holds of the empty list and of every ticked list holds of every list of a sheet
pub listed : (P : List ℕ → Type 0) (ws : List ℕ) (n m s p : ℕ) → P [] → ((w : ℕ) → P (ticked w)) → P (cond (sheet_present ws n m s) (cond (nat_lt p m) (ticked (tick_word (row ws m s) p)) []) [])
listed P ws n m s p none some =
    cond_both (sheet_present ws n m s) (cond (nat_lt p m) (ticked (tick_word (row ws m s) p)) []) [] P
    (λ _. cond_both (nat_lt p m) (ticked (tick_word (row ws m s) p)) [] P (λ _. some (tick_word (row ws m s) p)) (λ _. none))
    (λ _. none)
