use Rattle.std.specs.Prelude.{◌≡◌, ℕ, List, Some, None, vec_items}
use Rattle.tables.specs.declared.register.RegisterFile.{RegisterFile}
use Rattle.tables.specs.declared.register.RegisterRefusal.{RegisterRefusal}
use Rattle.tables.specs.Register.{register_fault}
use Rattle.tables.specs.RegisterRefusals.{register_refusal}

-- A register file is made where nothing refuses it, and holds just what was given.
pub record RegisterMade (xs : List ℕ) (n m : ℕ) (t : RegisterFile) : Type 0 where
  pub unrefused : register_fault xs n m ≡ None
  pub same_bytes : vec_items t.bytes ≡ xs
  pub same_subjects : t.subjects ≡ n
  pub same_properties : t.properties ≡ m

-- Bytes are refused by the first "no", and handed back unchanged.
pub record RegisterRefused (xs : List ℕ) (n m : ℕ) (e : RegisterRefusal) : Type 0 where
  pub first : register_fault xs n m ≡ Some (register_refusal e.fault)
  pub handed_back : vec_items e.bytes ≡ xs
