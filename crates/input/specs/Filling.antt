-- What is read into a window is not known; where it is put is.
use Rattle.std.specs.Prelude.{ℕ, ◌≤◌, List, Result, Ok, Err, ◌≡◌, length, take}

-- a place from the first on, and not behind the last unless it is the first
abbrev pub Between : {E : Type 0} → ℕ → ℕ → Result ℕ E → Type 0
Between first last (Ok place) = (first ≤ place) × (first ≤ last → place ≤ last)
Between first last (Err error) = Unit {0}

-- the bytes that were held stay, and bytes are put behind them
pub record Fills {E : Type 0} (held : ℕ) (window : List ℕ) (answer : Result ℕ E) (after : List ℕ) : Type 0 where
  pub same_size : length after ≡ length window
  pub kept : take held after ≡ take held window
  pub within : Between held (length window) answer
