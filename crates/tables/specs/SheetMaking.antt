use Rattle.std.specs.Prelude.{◌≡◌, ℕ, List, Some, None, vec_items}
use Rattle.tables.specs.declared.tick_sheet.SheetRefusal.{SheetRefusal}
use Rattle.tables.specs.declared.tick_sheet.TickSheet.{TickSheet}
use Rattle.tables.specs.SheetRefusals.{sheet_refusal}
use Rattle.tables.specs.TickSheet.{sheet_fault}

-- A tick sheet is made where nothing refuses it, and holds just what was given.
pub record SheetMade (ws : List ℕ) (n m : ℕ) (t : TickSheet) : Type 0 where
  pub unrefused : sheet_fault ws n m ≡ None
  pub same_words : vec_items t.words ≡ ws
  pub same_subjects : t.subjects ≡ n
  pub same_properties : t.properties ≡ m

-- Words are refused by the first "no", and handed back unchanged.
pub record SheetRefused (ws : List ℕ) (n m : ℕ) (e : SheetRefusal) : Type 0 where
  pub first : sheet_fault ws n m ≡ Some (sheet_refusal e.fault)
  pub handed_back : vec_items e.words ≡ ws
