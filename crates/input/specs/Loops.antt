-- What the contract of the lookup that a run makes cites: from where a search of the directory may go down. Definitions only.
use Rattle.std.specs.Prelude.{ℕ, ◌≤◌, ◌<◌, ◌≡◌, List, length, get_or}
use Rattle.plan.specs.Limits.{inputs}
use Rattle.input.specs.Input.{entry_word}

-- for each input a place, n at most, from which on none of the first n entries is for it
pub record Ends (directory : List ℕ) (n : ℕ) (ends : List ℕ) : Type 0 where
  pub all : length ends ≡ inputs
  pub within : (input : ℕ) → input < inputs → get_or ends input 0 ≤ n
  pub after : (input i : ℕ) → input < inputs → get_or ends input 0 ≤ i → i < n → entry_word directory i 0 ≡ input → ⊥
