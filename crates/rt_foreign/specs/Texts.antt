-- How a text is given to C.
use Rattle.std.specs.Prelude.{◌≡◌, ◌⊎◌, ◌<◌, ◌≤◌, ◌++◌, ℕ, List, length, drop}
use Rattle.rt_foreign.specs.Status as status

-- the text stands in front of what was there behind it
pub record Fits (text had : List ℕ) (result : ℕ) (left : List ℕ) : Type 0 where
  pub room : length text ≤ length had
  pub done : result ≡ status.done
  pub written : left ≡ text ++ drop (length text) had

-- its room is too small, and stays as it is
pub record IsTooLong (text had : List ℕ) (result : ℕ) (left : List ℕ) : Type 0 where
  pub room : length had < length text
  pub too_small : result ≡ status.too_small
  pub same : left ≡ had

-- a text is given whole, or not at all; its length is said either way
pub record Gives (text had : List ℕ) (result : ℕ) (left : List ℕ) (len : ℕ) : Type 0 where
  pub whole : Fits text had result left ⊎ IsTooLong text had result left
  pub length : len ≡ length text

-- nothing is given, since nothing is open that could give it
pub record IsTurnedAway (had : List ℕ) (result : ℕ) (left : List ℕ) (len : ℕ) : Type 0 where
  pub closed : result ≡ status.closed
  pub same : left ≡ had
  pub none : len ≡ 0
