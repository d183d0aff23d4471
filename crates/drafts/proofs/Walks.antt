-- One step of a walk over the entries of a list, asked one by one until there is none.
use Rattle.std.proofs.Common.{◌≡◌, ℕ, ◌+◌, ◌<◌, Bool, true, false, ◌&&◌, ◌||◌, List, length, get_or, drop, Some, None, sym, ap, ◌∙◌}
use Rattle.std.specs.List.{slice_get, list_any, list_all}
use Rattle.std.proofs.lemmas.List.{at_drop_more, at_drop_all}
use Rattle.std.proofs.lemmas.Bool.{or_left, and_left}
use Rattle.tables.proofs.Entries.{some_within, some_read, none_past}

pub some_at : {X : Type 0} (f : X → Bool) (xs : List X) (i : ℕ) (d : X) → i < length xs → f (get_or xs i d) ≡ true → list_any f (drop i xs) ≡ true
some_at f xs i d l h = at_drop_more (list_any f) xs i d l ∙ or_left _ _ h

pub some_after : {X : Type 0} (f : X → Bool) (xs : List X) (i : ℕ) (d : X) → i < length xs → f (get_or xs i d) ≡ false → list_any f (drop i xs) ≡ list_any f (drop (i + 1) xs)
some_after f xs i d l h = at_drop_more (list_any f) xs i d l ∙ ap (λ (b : Bool). b || list_any f (drop (i + 1) xs)) h

pub every_at : {X : Type 0} (f : X → Bool) (xs : List X) (i : ℕ) (d : X) → i < length xs → f (get_or xs i d) ≡ false → list_all f (drop i xs) ≡ false
every_at f xs i d l h = at_drop_more (list_all f) xs i d l ∙ and_left _ _ h

pub every_after : {X : Type 0} (f : X → Bool) (xs : List X) (i : ℕ) (d : X) → i < length xs → f (get_or xs i d) ≡ true → list_all f (drop i xs) ≡ list_all f (drop (i + 1) xs)
every_after f xs i d l h = at_drop_more (list_all f) xs i d l ∙ ap (λ (b : Bool). b && list_all f (drop (i + 1) xs)) h

-- What the entries left give is what all give: found here, or left to the next, or none found.
pub some_here : (f : ℕ → Bool) (xs : List ℕ) (i x : ℕ) → Some x ≡ slice_get xs i → true ≡ f x → list_any f (drop i xs) ≡ list_any f xs → true ≡ list_any f xs
some_here f xs i x e h inv = sym (some_at f xs i 0 (some_within xs i x e) (ap f (some_read xs i x 0 e) ∙ sym h)) ∙ inv

pub some_next : (f : ℕ → Bool) (xs : List ℕ) (i x : ℕ) → Some x ≡ slice_get xs i → false ≡ f x → list_any f (drop i xs) ≡ list_any f xs → list_any f (drop (i + 1) xs) ≡ list_any f xs
some_next f xs i x e h inv = sym (some_after f xs i 0 (some_within xs i x e) (ap f (some_read xs i x 0 e) ∙ sym h)) ∙ inv

pub some_end : (f : ℕ → Bool) (xs : List ℕ) (i : ℕ) → None ≡ slice_get xs i → list_any f (drop i xs) ≡ list_any f xs → false ≡ list_any f xs
some_end f xs i e inv = sym (at_drop_all (list_any f) xs i (none_past xs i e)) ∙ inv

pub every_here : (f : ℕ → Bool) (xs : List ℕ) (i x : ℕ) → Some x ≡ slice_get xs i → false ≡ f x → list_all f (drop i xs) ≡ list_all f xs → false ≡ list_all f xs
every_here f xs i x e h inv = sym (every_at f xs i 0 (some_within xs i x e) (ap f (some_read xs i x 0 e) ∙ sym h)) ∙ inv

pub every_next : (f : ℕ → Bool) (xs : List ℕ) (i x : ℕ) → Some x ≡ slice_get xs i → true ≡ f x → list_all f (drop i xs) ≡ list_all f xs → list_all f (drop (i + 1) xs) ≡ list_all f xs
every_next f xs i x e h inv = sym (every_after f xs i 0 (some_within xs i x e) (ap f (some_read xs i x 0 e) ∙ sym h)) ∙ inv

pub every_end : (f : ℕ → Bool) (xs : List ℕ) (i : ℕ) → None ≡ slice_get xs i → list_all f (drop i xs) ≡ list_all f xs → true ≡ list_all f xs
every_end f xs i e inv = sym (at_drop_all (list_all f) xs i (none_past xs i e)) ∙ inv
