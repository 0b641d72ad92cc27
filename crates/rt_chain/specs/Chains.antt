-- A chain that is cut at one place, as a value: what stands in front of the cut, and what behind it.
use Rattle.std.specs.Prelude.{◌≡◌, ℕ, Bool, true, false, not, nat_eq, Option, Some, None, List, [], ◌∷◌, ◌++◌, map, refl}
use Rattle.std.specs.List.{AllByRecursion, filter}
use Rattle.std.specs.Ordering.{is_le}
use Rattle.std.specs.BTreeMap.{insert_entry}
use Rattle.std.specs.Coded.{Coded, code_by, coded×, coded_ℕ, coded_list}
use Rattle.std.specs.declared.cmp.Ordering.{Ordering}
use Rattle.rt_chain.specs.declared.chain.Half.{Half}
use Rattle.rt_chain.specs.declared.chain.Half.TheVariants.{Front, Behind}

-- the first of some slots, or the one behind them
abbrev pub head_or : List ℕ → Option ℕ → Option ℕ
head_or [] behind = behind
head_or (n ∷ ns) behind = Some n

-- the last of some slots, or the one in front of them
abbrev pub last_or : Option ℕ → List ℕ → Option ℕ
last_or before [] = before
last_or before (n ∷ ns) = last_or (Some n) ns

-- the slot isn't one of these
abbrev pub IsOther : ℕ → List ℕ → Type 0
IsOther n ns = AllByRecursion (λ m. nat_eq n m ≡ false) ns

-- no slot stands twice
abbrev pub IsApart : List ℕ → Type 0
IsApart [] = Unit {0}
IsApart (n ∷ ns) = IsOther n ns × IsApart ns

-- the keys below one that compares to each, with what stands at them
abbrev pub below : {K X : Type 0} → (K → Ordering) → List (K × X) → List (K × X)
below compare places = filter (λ e. not (is_le (compare e.0))) places

module _ {K X : Type 0} (cmp : K → K → Ordering) (k : K) where
  -- whether the key lies at the first of these or behind it
  abbrev pub is_from_first : List (K × X) → Bool
  is_from_first [] = false
  is_from_first (e ∷ es) = is_le (cmp e.0 k)

  -- and whether it lies at the last of them or in front of it
  abbrev pub is_to_last : List (K × X) → Bool
  is_to_last [] = false
  is_to_last (e ∷ []) = is_le (cmp k e.0)
  is_to_last (e ∷ d ∷ es) = is_to_last (d ∷ es)

-- the keys in order, each with its slot and its value
pub record Chain (K X : Type 0) : Type 0 where
  pub front : List (K × (ℕ × X))
  pub behind : List (K × (ℕ × X))

-- the half in front, the half behind, or at the cut
abbrev pub half_between : Bool → Bool → Half → Half
half_between true behind at_cut = Front
half_between false true at_cut = Behind
half_between false false at_cut = at_cut

-- it is stored as the pair of its halves
abbrev pub chain_code : {K X : Type 0} → Coded K → Coded X → Coded (Chain K X)
chain_code {K} {X} key value =
    let half = coded_list (coded× key (coded× coded_ℕ value)) in
    code_by (List (K × (ℕ × X)) × List (K × (ℕ × X))) (coded× half half)
    (λ c. (c.front, c.behind)) (λ p. record { front = p.0; behind = p.1 }) (λ _. refl)

module _ {K X : Type 0} where
  -- both halves
  abbrev pub all_in : Chain K X → List (K × (ℕ × X))
  all_in c = c.front ++ c.behind

  abbrev pub in_half : Half → Chain K X → List (K × (ℕ × X))
  in_half Front c = c.front
  in_half Behind c = c.behind

  -- the entries without their slots
  abbrev pub entries_of : List (K × (ℕ × X)) → List (K × X)
  entries_of es = map (λ e. (e.0, e.1.1)) es

  -- the slots, in order
  abbrev pub slots_of : List (K × (ℕ × X)) → List ℕ
  slots_of es = map (λ e. e.1.0) es

  -- the last entry
  abbrev pub last_in : List (K × (ℕ × X)) → Option (K × (ℕ × X))
  last_in [] = None
  last_in (e ∷ []) = Some e
  last_in (e ∷ d ∷ es) = last_in (d ∷ es)

  -- the half of a key, which is the one that is named where the key lies at the cut
  abbrev pub half_at : (K → K → Ordering) → K → Half → Chain K X → Half
  half_at cmp k at_cut c = half_between (is_to_last cmp k c.front) (is_from_first cmp k c.behind) at_cut

  -- a slot with its value is put at a key of one half, and the other half stays
  abbrev pub Puts : Half → (K → K → Ordering) → K → ℕ × X → Chain K X → Chain K X → Type 0
  Puts Front cmp k p old new = (new.front ≡ insert_entry cmp old.front k p) × (new.behind ≡ old.behind)
  Puts Behind cmp k p old new = (new.front ≡ old.front) × (new.behind ≡ insert_entry cmp old.behind k p)

  -- the last entry in front of the cut, which has this slot, is the first one behind it now
  pub record CrossesBack (slot : ℕ) (old new : Chain K X) : Type 0 where
    pub one : K × (ℕ × X)
    pub is : one.1.0 ≡ slot
    pub was : old.front ≡ new.front ++ one ∷ []
    pub behind : new.behind ≡ one ∷ old.behind

  -- the first entry behind the cut, which has this slot, is the last one in front of it now
  pub record CrossesAhead (slot : ℕ) (old new : Chain K X) : Type 0 where
    pub one : K × (ℕ × X)
    pub is : one.1.0 ≡ slot
    pub was : old.behind ≡ one ∷ new.behind
    pub front : new.front ≡ old.front ++ one ∷ []

-- whether an answer is this half
abbrev pub is_half : Half → Option Half → Bool
is_half h None = false
is_half Front (Some Front) = true
is_half Front (Some Behind) = false
is_half Behind (Some Front) = false
is_half Behind (Some Behind) = true
