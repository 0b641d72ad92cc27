-- The nodes of a tree of forms.
use Rattle.std.specs.Prelude.{◌≡◌, ◌≢◌, ◌<◌, ◌+◌, ◌^◌, ◌&&◌, ◌==◌, ℕ, Bool, true, false, cond, not, nat_eq, nat_lt}
use Rattle.std.specs.Prelude.{List, [], ◌∷◌, ◌++◌, length}
use Rattle.std.specs.Prelude.{Option, Some, None}
use Rattle.std.specs.List.{list_any}
use Rattle.std.specs.Option.{option_map_or}
use Rattle.slab.specs.Slab.{Slab, get, slab_len}
use Rattle.rt_tree.specs.PathTree.{Key, Path, key_eq}
use Rattle.rt_query.specs.Queries.{Query, is_filtered}
use Rattle.rt_query.specs.QueryEq.{query_eq}
use Rattle.rt_nodes.specs.Forest.{Forest, bare, node, IsRow, row_at}
use Rattle.rt_nodes.specs.Changes.{Changed, with_content}
use Rattle.rt_nodes.specs.declared.nodes.Slot.{Slot}
use Rattle.rt_forms.specs.Numbers.{with_number, without_number}

-- what is registered at a path: the numbers of the plain form's listeners, the filtered forms with those
-- of theirs, and how many listeners there are at and under it
pub record Standing : Type 0 where
  pub plain : List ℕ
  pub filtered : List (Query × List ℕ)
  pub count : ℕ

abbrev pub Trees : Type 0
Trees = Forest Standing

abbrev pub Nodes : Type 0
Nodes = Slab (Slot Standing)

-- ---- the numbers of a form

abbrev pub among : Query → List (Query × List ℕ) → List ℕ
among q [] = []
among q (e ∷ es) = cond (query_eq e.0 q) e.1 (among q es)

-- at the node of its path
abbrev pub own : Query → Standing → List ℕ
own q x = cond (is_filtered q) (among q x.filtered) x.plain

-- the node of a key in a row, and the row below it
abbrev pub child_in : Key → Trees → Option (Standing × Trees)
child_in k bare = None
child_in k (node n key x below behind) = cond (key_eq k key) (Some (x, below)) (child_in k behind)

-- at a path below a node
abbrev pub seen : Query → Path → Standing → Trees → List ℕ
seen q [] x b = own q x
seen q (k ∷ p) x b = option_map_or (λ (c : Standing × Trees). seen q p c.0 c.1) (child_in k b) []

-- at a path below a row
abbrev pub seen_in : Query → Key → Path → Trees → List ℕ
seen_in q k p b = option_map_or (λ (c : Standing × Trees). seen q p c.0 c.1) (child_in k b) []

-- ---- all numbers

abbrev pub all_filtered : List (Query × List ℕ) → List ℕ
all_filtered [] = []
all_filtered (e ∷ es) = e.1 ++ all_filtered es

-- at a node
abbrev pub all_own : Standing → List ℕ
all_own x = x.plain ++ all_filtered x.filtered

-- in a row and below it
abbrev pub all_in : Trees → List ℕ
all_in bare = []
all_in (node n key x below behind) = (all_own x ++ all_in below) ++ all_in behind

-- at and under a path below a node
abbrev pub all_at : Path → Standing → Trees → List ℕ
all_at [] x b = all_own x ++ all_in b
all_at (k ∷ p) x b = option_map_or (λ (c : Standing × Trees). all_at p c.0 c.1) (child_in k b) []

-- ---- how many listeners there are

abbrev pub of_filtered : List (Query × List ℕ) → ℕ
of_filtered [] = 0
of_filtered (e ∷ es) = length e.1 + of_filtered es

abbrev pub held : Standing → ℕ
held x = length x.plain + of_filtered x.filtered

abbrev pub total : Trees → ℕ
total bare = 0
total (node n key x below behind) = x.count + total behind

-- ---- what each node keeps

-- each filtered form is of this path, has a listener, and stands once
abbrev pub AreAt : Path → List (Query × List ℕ) → Type 0
AreAt p [] = Unit {0}
AreAt p (e ∷ es) =
    (is_filtered e.0 ≡ true) × ((e.0).path ≡ p) × (0 < length e.1) × (among e.0 es ≡ []) × AreAt p es

-- the count is the sum over what stands at and under the node
pub record IsStanding (p : Path) (x : Standing) (below : Trees) : Type 0 where
  pub count : x.count ≡ held x + total below
  pub at : AreAt p x.filtered

-- of each node of a row, by the path that it stands under; none is without a listener
abbrev pub Good : Path → Trees → Type 0
Good p bare = Unit {0}
Good p (node n key x below behind) =
    (0 < x.count) × IsStanding (p ++ key ∷ []) x below × Good (p ++ key ∷ []) below × Good p behind

-- ---- a listener more

-- whether two paths are the same
abbrev pub same_path : Path → Path → Bool
same_path [] [] = true
same_path [] (k ∷ p) = false
same_path (j ∷ q) [] = false
same_path (j ∷ q) (k ∷ p) = key_eq j k && same_path q p

-- whether two queries of one path have one form
abbrev pub alike : Query → Query → Bool
alike q r = cond (is_filtered q) (query_eq r q) (not (is_filtered r))

-- a query's form got a listener at a node
pub record Gained (x y : Standing) (r : Query) (n : ℕ) : Type 0 where
  pub numbers : (q : Query) → own q y ≡ cond (alike q r) (with_number n (own q x)) (own q x)
  pub holds : held y ≡ held x + 1
  pub count : y.count ≡ x.count + 1
  pub at : (p : Path) → r.path ≡ p → AreAt p x.filtered → AreAt p y.filtered

-- at a path below a node
pub record Adds (x : Standing) (b : Trees) (y : Standing) (c : Trees) (p : Path) (r : Query)
    (n : ℕ) : Type 0 where
  pub numbers : (q : Query) (s : Path) → seen q s y c
      ≡ cond (same_path s p && alike q r) (with_number n (seen q s x b)) (seen q s x b)
  pub count : y.count ≡ x.count + 1
  pub standing : (d : Path) → r.path ≡ d ++ p → IsStanding d x b → Good d b → IsStanding d y c
  pub good : (d : Path) → r.path ≡ d ++ p → IsStanding d x b → Good d b → Good d c

-- at a path below a row
pub record AddsIn (b c : Trees) (k : Key) (p : Path) (r : Query) (n : ℕ) : Type 0 where
  pub numbers : (q : Query) (j : Key) (s : Path) → seen_in q j s c
      ≡ cond (same_path (j ∷ s) (k ∷ p) && alike q r) (with_number n (seen_in q j s b)) (seen_in q j s b)
  pub sum : total c ≡ total b + 1
  pub good : (d : Path) → r.path ≡ d ++ (k ∷ p) → Good d b → Good d c

-- nothing
abbrev pub empty : Standing
empty = record { plain = []; filtered = []; count = 0 }

-- one listener more under the node
abbrev pub passed : Standing → Standing
passed x = record x { count = x.count + 1 }

-- a row of one node was made for a listener
pub record Made (g : Trees) (n : ℕ) (k : Key) (p : Path) (r : Query) (m : ℕ) : Type 0 where
  pub value : Standing
  pub below : Trees
  pub is : g ≡ node n k value below bare
  pub adds : Adds empty bare value below p r m

-- a row became one with a listener more
pub record IsAdded (old new : Nodes) (o r parent : Option ℕ) (k : Key) (p : Path) (q : Query)
    (n : ℕ) : Type 0 where
  pub row : IsRow new r parent None (row_at new r)
  pub changed : Changed old new (row_at old o) (row_at new r)
  pub adds : AddsIn (row_at old o) (row_at new r) k p q n

-- ---- one node

-- a node changed, and no other
abbrev pub AllOthers : Nodes → Nodes → ℕ → Type 0
AllOthers old new n = ((m : ℕ) → m ≢ n → get new m ≡ get old m) × (slab_len new ≡ slab_len old)

-- the node is there, and may get a listener of the query's form
abbrev pub HasRoomAt : Nodes → ℕ → ℕ → Query → Type 0
HasRoomAt s n number q = (slot : Slot Standing) × (get s n ≡ Some slot)
    × (list_any (λ m. m == number) (own q slot.value) ≡ false) × (slot.value.count + 1 < 2 ^ 64)

-- and got it
abbrev pub Gains : Nodes → Nodes → ℕ → Query → ℕ → Type 0
Gains old new n q number = (slot : Slot Standing) × (y : Standing) × (get old n ≡ Some slot)
    × Gained slot.value y q number × (get new n ≡ Some (with_content y slot.first_child slot))
    × AllOthers old new n

-- the node is there, and may count a listener more
abbrev pub MayPass : Nodes → ℕ → Type 0
MayPass s n = (slot : Slot Standing) × (get s n ≡ Some slot) × (slot.value.count + 1 < 2 ^ 64)

-- and did, with another first child
abbrev pub Passes : Nodes → Nodes → ℕ → Option ℕ → Type 0
Passes old new n o = (slot : Slot Standing) × (get old n ≡ Some slot)
    × (get new n ≡ Some (with_content (passed slot.value) o slot)) × AllOthers old new n

-- ---- a listener less

-- a query's form lost a listener at a node
pub record Lost (x y : Standing) (r : Query) (n : ℕ) : Type 0 where
  pub numbers : (q : Query) → own q y ≡ cond (alike q r) (without_number n (own q x)) (own q x)
  pub holds : held y + 1 ≡ held x
  pub count : y.count + 1 ≡ x.count
  pub at : (p : Path) → AreAt p x.filtered → AreAt p y.filtered

-- the same, whatever the node's path
pub record Ends (x y : Standing) (r : Query) (n : ℕ) : Type 0 where
  pub by_path : (p : Path) → AreAt p x.filtered → Lost x y r n

-- at a path below a node
pub record Takes (x : Standing) (b : Trees) (y : Standing) (c : Trees) (p : Path) (r : Query)
    (n : ℕ) : Type 0 where
  pub numbers : (q : Query) (s : Path) → seen q s y c
      ≡ cond (same_path s p && alike q r) (without_number n (seen q s x b)) (seen q s x b)
  pub count : y.count + 1 ≡ x.count
  pub standing : (d : Path) → IsStanding d x b → Good d b → IsStanding d y c
  pub good : (d : Path) → Good d b → Good d c

-- at a path below a row
pub record TakesIn (b c : Trees) (k : Key) (p : Path) (r : Query) (n : ℕ) : Type 0 where
  pub numbers : (q : Query) (j : Key) (s : Path) → seen_in q j s c
      ≡ cond (same_path (j ∷ s) (k ∷ p) && alike q r) (without_number n (seen_in q j s b)) (seen_in q j s b)
  pub sum : total c + 1 ≡ total b
  pub good : (d : Path) → Good d b → Good d c

-- the row without one of its siblings, with all below it, where no listener is left there
abbrev pub pruned : ℕ → Trees → Trees
pruned k bare = bare
pruned k (node n key x below behind) = cond (nat_eq k n)
    (cond (nat_lt 0 x.count) (node n key x below behind) behind)
    (node n key x below (pruned k behind))

-- a row became one with a listener less
pub record IsTaken (old new : Nodes) (o r parent : Option ℕ) (k : Key) (p : Path) (q : Query)
    (n : ℕ) : Type 0 where
  pub row : IsRow new r parent None (row_at new r)
  pub changed : Changed old new (row_at old o) (row_at new r)
  pub takes : TakesIn (row_at old o) (row_at new r) k p q n

-- the node is there, and a listener of the query's form has the number at it
abbrev pub HasAt : Nodes → ℕ → ℕ → Query → Type 0
HasAt s n number q = (slot : Slot Standing) × (get s n ≡ Some slot)
    × (list_any (λ m. m == number) (own q slot.value) ≡ true) × (0 < slot.value.count)

-- and doesn't any more
abbrev pub Loses : Nodes → Nodes → ℕ → Query → ℕ → Type 0
Loses old new n q number = (slot : Slot Standing) × (y : Standing) × (get old n ≡ Some slot)
    × Ends slot.value y q number × (get new n ≡ Some (with_content y slot.first_child slot)) × AllOthers old new n

-- the node is there, and counts a listener
abbrev pub MayLeave : Nodes → ℕ → Type 0
MayLeave s n = (slot : Slot Standing) × (get s n ≡ Some slot) × (0 < slot.value.count)

-- and counts one less, with another first child
abbrev pub Leaves : Nodes → Nodes → ℕ → Option ℕ → Type 0
Leaves old new n o = (slot : Slot Standing) × (y : Standing) × (get old n ≡ Some slot)
    × (slot.value ≡ passed y) × (get new n ≡ Some (with_content y o slot)) × AllOthers old new n
