-- Where a key stands among entries in key order.
use Rattle.std.specs.Prelude.{◌≡◌, ℕ, suc, ◌<◌, ◌≤◌, List, [], ◌∷◌, length, take, drop}
use lib.ListN.{get_or}
use Rattle.std.specs.List.{filter}
use Rattle.std.specs.Map.{keys_of}
use Rattle.std.specs.Ordering.{is_gt}
use Rattle.std.specs.declared.cmp.Ordering.{Ordering}
use Rattle.std.specs.declared.cmp.Ordering.TheVariants.{Less, Equal, Greater}
use Rattle.std.specs.declared.sync.Arc.{Arc}
use Rattle.std.specs.declared.alloc.Global.{Global}
use Rattle.rt_map.specs.inside.Joined.{joined}

-- each key is below k
abbrev pub AllBelow : {K V : Type 0} → (K → K → Ordering) → K → List (K × V) → Type 0
AllBelow cmp k [] = Unit {0}
AllBelow cmp k (e ∷ es) = (cmp k e.0 ≡ Greater) × AllBelow cmp k es

-- each key is above k
abbrev pub AllAbove : {K V : Type 0} → (K → K → Ordering) → K → List (K × V) → Type 0
AllAbove cmp k [] = Unit {0}
AllAbove cmp k (e ∷ es) = (cmp k e.0 ≡ Less) × AllAbove cmp k es

-- the entry at this place has the key
pub record IsAt {K V : Type 0} (cmp : K → K → Ordering) (k : K) (es : List (K × V)) (at : ℕ) : Type 0 where
  pub within : at < length es
  pub below : AllBelow cmp k (take at es)
  pub same : (d : K × V) → cmp k (get_or es at d).0 ≡ Equal
  pub above : AllAbove cmp k (drop (suc at) es)

-- no entry has the key, which would go to this place
pub record IsGap {K V : Type 0} (cmp : K → K → Ordering) (k : K) (es : List (K × V)) (at : ℕ) : Type 0 where
  pub within : at ≤ length es
  pub below : AllBelow cmp k (take at es)
  pub above : AllAbove cmp k (drop at es)

-- so many entries are below the key, and no other one is
pub record IsStop {K V : Type 0} (cmp : K → K → Ordering) (k : K) (es : List (K × V)) (at : ℕ) : Type 0 where
  pub within : at ≤ length es
  pub below : AllBelow cmp k (take at es)
  pub none : filter (λ j. is_gt (cmp k j)) (keys_of (drop at es)) ≡ []

-- if the key is anywhere, it is in the part at this place
pub record IsPart {K V : Type 0} (cmp : K → K → Ordering) (k : K) (as' : List (Arc (List (K × V)) Global)) (at : ℕ) : Type 0 where
  pub within : at < length as'
  pub below : AllBelow cmp k (joined (take at as'))
  pub above : AllAbove cmp k (joined (drop (suc at) as'))
