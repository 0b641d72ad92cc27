-- What a key finds in a row.
use Rattle.std.proofs.Common.{◌≡◌, ◌≤◌, ◌<◌, ℕ, ◌+◌, [], ◌∷◌, ◌++◌, Option, Some, None, Bool, true, false, cond, refl, sym, ap, subst, ◌∙◌, arith}
use Rattle.std.specs.Prelude.{nat_eq}
use Rattle.std.specs.declared.cmp.Ordering.{Ordering}
use Rattle.std.specs.declared.cmp.Ordering.TheVariants.{Less, Equal, Greater}
use Rattle.std.specs.Ordering.{is_eq, eq_by_cmp}
use Rattle.std.specs.Option.{option_map_or}
use Rattle.std.specs.Cmp.{tied_itself, Equal-is, both_ways}
use Rattle.std.specs.FinMap.Entries.{by_order}
use Rattle.std.proofs.lemmas.Bool.{eq-eqb}
use Rattle.slab.specs.Slab.{get}
use Rattle.rt_tree.specs.PathTree.{Key, Path, key_eq, key_eq-is, key_eq-same, key_eq-symm}
use Rattle.rt_order.specs.KeyOrder.{key_cmp}
use Rattle.rt_order.specs.laws.KeyOrder.{key_cmp_total, key_cmp-IsAntisymmetric}
use Rattle.rt_nodes.specs.Forest.{bare, node, first, times, AllAfter, Sound, IsRow, row_at}
use Rattle.rt_nodes.specs.Walks.{spot_in, index_in}
use Rattle.rt_nodes.specs.Changes.{with_below, planted}
use Rattle.rt_nodes.specs.declared.nodes.Slot.{Slot}
use Rattle.rt_nodes.specs.declared.nodes.SeekResult.TheVariants.{Here, Gap}
use Rattle.rt_nodes.proofs.Reached.{same_some, row_at_is, below_row, behind_row}
use Rattle.rt_nodes.proofs.Joining.{slots_same}
use Rattle.rt_nodes.proofs.Paths.{found_in_row, other_number}
use Rattle.rt_forms.specs.inside.Trees.{Standing, Trees, Nodes, child_in, total, IsStanding, Good}

-- the test of either order tells equal keys
tests_alike : (j k : Key) → eq_by_cmp key_cmp j k ≡ key_eq j k
tests_alike j k = both_ways (eq_by_cmp key_cmp j k) (key_eq j k)
    (λ e. ap (key_eq j) (sym (key_cmp-IsAntisymmetric j k ((Equal-is (key_cmp j k)).0 e))) ∙ key_eq-same j)
    (λ e. ap (λ x. eq_by_cmp key_cmp j x) (sym (key_eq-is j k e)) ∙ ap is_eq (tied_itself key_cmp_total j))

pub differs : (j k : Key) (r : Ordering) → key_cmp j k ≡ r → is_eq r ≡ false → key_eq j k ≡ false
differs j k r order not_equal = sym (tests_alike j k) ∙ ap is_eq order ∙ not_equal

pub equals : (j k : Key) → key_cmp j k ≡ Equal → key_eq j k ≡ true
equals j k order = sym (tests_alike j k) ∙ ap is_eq order

abbrev pub Child : Type 0
Child = Standing × Trees

-- ---- a key that is looked for
pub child_after : (k key : Key) (f : Trees) → key_cmp k key ≡ Less → AllAfter key f → child_in k f ≡ None
child_after k key bare less h = refl
child_after k key (node n j x below behind) less h =
    ap (λ b. cond b (Some (x, below)) (child_in k behind)) (differs k j Less (key_cmp_total.trans k key j less h.0) refl)
    ∙ child_after k key behind less h.1

pub child_lacks : (f : Trees) (k : Key) → Sound f → index_in k f ≡ None → child_in k f ≡ None
child_lacks bare k h e = refl
child_lacks (node m key x below behind) k h e =
    elim (key_cmp k key) as (λ r. key_cmp k key ≡ r → by_order r None (Some m) (index_in k behind) ≡ None → child_in k (node m key x below behind) ≡ None) [
      | Less ↦ λ order g. ap (λ b. cond b (Some (x, below)) (child_in k behind)) (differs k key Less order refl) ∙ child_after k key behind order h.0
      | Equal ↦ λ order g. cc
      | Greater ↦ λ order g. ap (λ b. cond b (Some (x, below)) (child_in k behind)) (differs k key Greater order refl) ∙ child_lacks behind k h.2 g
    ] refl e

pub child_found : (s : Nodes) (o parent previous : Option ℕ) (f : Trees) (k : Key) (n : ℕ) (slot : Slot Standing) → IsRow s o parent previous f → index_in k f ≡ Some n → get s n ≡ Some slot
    → child_in k f ≡ Some (slot.value, row_at s slot.first_child)
child_found s o parent previous bare k n slot h e there = cc
child_found s o parent previous (node m key x below behind) k n slot h e there =
    elim (key_cmp k key) as (λ r. key_cmp k key ≡ r → by_order r None (Some m) (index_in k behind) ≡ Some n → child_in k (node m key x below behind) ≡ Some (slot.value, row_at s slot.first_child)) [
      | Less ↦ λ order g. cc
      | Equal ↦ λ order g.
          let same : m ≡ n = same_some m n g in
          let b : row_at s (first below) ≡ below = row_at_is s (first below) (Some m) None below (below_row s o parent previous m key x below behind h) in
          ap (λ t. cond t (Some (x, below)) (child_in k behind)) (equals k key order)
          ∙ ap (λ c. Some (x, c)) (sym b)
          ∙ ap (λ (y : Slot Standing). Some (y.value, row_at s y.first_child)) (slots_same s m _ slot h.links.0 (ap (get s) same ∙ there))
      | Greater ↦ λ order g.
          ap (λ t. cond t (Some (x, below)) (child_in k behind)) (differs k key Greater order refl)
          ∙ child_found s (first behind) parent (Some m) behind k n slot (behind_row s o parent previous m key x below behind h) g there
    ] refl e

-- ---- a row with a node more
swapped : (c d : Bool) (x y z : Option Child) → (d ≡ true → c ≡ false) → cond c x (cond d y z) ≡ cond d y (cond c x z)
swapped true true x y z apart = cc (apart refl)
swapped true false x y z apart = refl
swapped false d x y z apart = refl

pub child_planted : (n : ℕ) (k : Key) (l : Standing) (b f : Trees) (o p q : Option ℕ) → Sound f → spot_in k o f ≡ Gap p q
    → (j : Key) → child_in j (planted n k l b f) ≡ cond (key_eq k j) (Some (l, b)) (child_in j f)
child_planted n k l b bare o p q sound spot j = ap (λ c. cond c (Some (l, b)) None) (key_eq-symm j k)
child_planted n k l b (node m key x below behind) o p q sound spot j =
    elim (key_cmp k key) as (λ r. key_cmp k key ≡ r → by_order r (Gap o (Some m)) (Here m) (spot_in k (Some m) behind) ≡ Gap p q
    → child_in j (by_order r (node n k l b (node m key x below behind)) (node m key x below behind) (node m key x below (planted n k l b behind)))
    ≡ cond (key_eq k j) (Some (l, b)) (cond (key_eq j key) (Some (x, below)) (child_in j behind))) [
      | Less ↦ λ order e. ap (λ c. cond c (Some (l, b)) (cond (key_eq j key) (Some (x, below)) (child_in j behind))) (key_eq-symm j k)
      | Equal ↦ λ order e. cc
      | Greater ↦ λ order e.
          ap (cond (key_eq j key) (Some (x, below))) (child_planted n k l b behind (Some m) p q sound.2 e j)
          ∙ swapped (key_eq j key) (key_eq k j) (Some (x, below)) (Some (l, b)) (child_in j behind)
          (λ same. ap (λ y. key_eq y key) (sym (key_eq-is k j same)) ∙ differs k key Greater order refl)
    ] refl spot

pub total_planted : (n : ℕ) (k : Key) (l : Standing) (b f : Trees) (o p q : Option ℕ) → spot_in k o f ≡ Gap p q → total (planted n k l b f) ≡ total f + l.count
total_planted n k l b bare o p q spot = omega arith
total_planted n k l b (node m key x below behind) o p q spot =
    elim (key_cmp k key) as (λ r. by_order r (Gap o (Some m)) (Here m) (spot_in k (Some m) behind) ≡ Gap p q
    → total (by_order r (node n k l b (node m key x below behind)) (node m key x below behind) (node m key x below (planted n k l b behind))) ≡ x.count + total behind + l.count) [
      | Less ↦ λ e. omega arith
      | Equal ↦ λ e. cc
      | Greater ↦ λ e. let rest = total_planted n k l b behind (Some m) p q e in omega (arith, rest)
    ] spot

pub good_planted : (d : Path) (n : ℕ) (k : Key) (l : Standing) (b f : Trees) → Good d f → 0 < l.count → IsStanding (d ++ k ∷ []) l b → Good (d ++ k ∷ []) b → Good d (planted n k l b f)
good_planted d n k l b bare h some here below = (some, here, below, tt)
good_planted d n k l b (node m key x under behind) h some here below =
    elim (key_cmp k key) as (λ r. Good d (by_order r (node n k l b (node m key x under behind)) (node m key x under behind) (node m key x under (planted n k l b behind)))) [
      | Less ↦ (some, here, below, h)
      | Equal ↦ h
      | Greater ↦ (h.0, h.1, h.2, good_planted d n k l b behind h.3 some here below)
    ]

-- ---- a row with another node
twice : (c : Bool) (x y z : Option Child) → cond c x z ≡ cond c x (cond c y z)
twice true x y z = refl
twice false x y z = refl

pub past : (c d : Bool) (x y z : Option Child) → (c ≡ true → d ≡ false) → cond d x (cond c y z) ≡ cond c y (cond d x z)
past true d x y z apart = ap (λ e. cond e x y) (apart refl)
past false d x y z apart = refl

pub child_with_below : (k : Key) (n : ℕ) (l : Standing) (b f : Trees) → index_in k f ≡ Some n → ((m : ℕ) → times m f ≤ 1)
    → (j : Key) → child_in j (with_below n l b f) ≡ cond (key_eq k j) (Some (l, b)) (child_in j f)
child_with_below k n l b bare e once j = cc
child_with_below k n l b (node m key x below behind) e once j =
    elim (key_cmp k key) as (λ r. key_cmp k key ≡ r → by_order r None (Some m) (index_in k behind) ≡ Some n
    → child_in j (cond (nat_eq n m) (node m key l b behind) (node m key x below (with_below n l b behind)))
    ≡ cond (key_eq k j) (Some (l, b)) (cond (key_eq j key) (Some (x, below)) (child_in j behind))) [
      | Less ↦ λ order g. cc
      | Equal ↦ λ order g.
          let same : k ≡ key = key_cmp-IsAntisymmetric k key order in
          let number : nat_eq n m ≡ true = eq-eqb n m (sym (ap (λ y. option_map_or (λ z. z) y m) g)) in
          let flip : key_eq j key ≡ key_eq k j = ap (key_eq j) (sym same) ∙ key_eq-symm j k in
          ap (λ c. child_in j (cond c (node m key l b behind) (node m key x below (with_below n l b behind)))) number
          ∙ ap (λ c. cond c (Some (l, b)) (child_in j behind)) flip
          ∙ twice (key_eq k j) (Some (l, b)) (Some (x, below)) (child_in j behind)
          ∙ ap (λ c. cond (key_eq k j) (Some (l, b)) (cond c (Some (x, below)) (child_in j behind))) (sym flip)
      | Greater ↦ λ order g.
          let number : nat_eq n m ≡ false = other_number n m key x below behind (found_in_row k n behind g) (once n) in
          let off : key_eq k key ≡ false = differs k key Greater order refl in
          ap (λ c. child_in j (cond c (node m key l b behind) (node m key x below (with_below n l b behind)))) number
          ∙ ap (cond (key_eq j key) (Some (x, below))) (child_with_below k n l b behind g (λ y. omega (arith, once y)) j)
          ∙ past (key_eq k j) (key_eq j key) (Some (x, below)) (Some (l, b)) (child_in j behind)
          (λ e. ap (λ y. key_eq y key) (sym (key_eq-is k j e)) ∙ off)
    ] refl e

pub total_with_below : (k : Key) (n : ℕ) (l : Standing) (b f : Trees) → index_in k f ≡ Some n → ((m : ℕ) → times m f ≤ 1)
    → total (with_below n l b f) + option_map_or (λ (c : Child). (c.0).count) (child_in k f) 0 ≡ total f + l.count
total_with_below k n l b bare e once = cc
total_with_below k n l b (node m key x below behind) e once =
    elim (key_cmp k key) as (λ r. key_cmp k key ≡ r → by_order r None (Some m) (index_in k behind) ≡ Some n
    → total (cond (nat_eq n m) (node m key l b behind) (node m key x below (with_below n l b behind)))
    + option_map_or (λ (c : Child). (c.0).count) (cond (key_eq k key) (Some (x, below)) (child_in k behind)) 0 ≡ x.count + total behind + l.count) [
      | Less ↦ λ order g. cc
      | Equal ↦ λ order g.
          let number : nat_eq n m ≡ true = eq-eqb n m (sym (ap (λ y. option_map_or (λ z. z) y m) g)) in
          (λ i. total (cond (number i) (node m key l b behind) (node m key x below (with_below n l b behind)))
          + option_map_or (λ (c : Child). (c.0).count) (cond (equals k key order i) (Some (x, below)) (child_in k behind)) 0)
          ∙ (let e : l.count + total behind + x.count ≡ x.count + total behind + l.count = omega arith in e)
      | Greater ↦ λ order g.
          let number : nat_eq n m ≡ false = other_number n m key x below behind (found_in_row k n behind g) (once n) in
          let rest = total_with_below k n l b behind g (λ y. omega (arith, once y)) in
          (λ i. total (cond (number i) (node m key l b behind) (node m key x below (with_below n l b behind)))
          + option_map_or (λ (c : Child). (c.0).count) (cond (differs k key Greater order refl i) (Some (x, below)) (child_in k behind)) 0)
          ∙ (let e : x.count + total (with_below n l b behind) + option_map_or (λ (c : Child). (c.0).count) (child_in k behind) 0 ≡ x.count + total behind + l.count = omega (arith, rest) in e)
    ] refl e

pub good_with_below : (d : Path) (k : Key) (n : ℕ) (l : Standing) (b f : Trees) → index_in k f ≡ Some n → ((m : ℕ) → times m f ≤ 1)
    → Good d f → 0 < l.count → IsStanding (d ++ k ∷ []) l b → Good (d ++ k ∷ []) b → Good d (with_below n l b f)
good_with_below d k n l b bare e once h some here below = tt
good_with_below d k n l b (node m key x under behind) e once h some here below =
    elim (key_cmp k key) as (λ r. key_cmp k key ≡ r → by_order r None (Some m) (index_in k behind) ≡ Some n
    → Good d (cond (nat_eq n m) (node m key l b behind) (node m key x under (with_below n l b behind)))) [
      | Less ↦ λ order g. cc
      | Equal ↦ λ order g.
          let same : k ≡ key = key_cmp-IsAntisymmetric k key order in
          let number : nat_eq n m ≡ true = eq-eqb n m (sym (ap (λ y. option_map_or (λ z. z) y m) g)) in
          subst (λ c. Good d (cond c (node m key l b behind) (node m key x under (with_below n l b behind)))) (sym number)
          (some, subst (λ y. IsStanding (d ++ y ∷ []) l b) same here, subst (λ y. Good (d ++ y ∷ []) b) same below, h.3)
      | Greater ↦ λ order g.
          let number : nat_eq n m ≡ false = other_number n m key x under behind (found_in_row k n behind g) (once n) in
          subst (λ c. Good d (cond c (node m key l b behind) (node m key x under (with_below n l b behind)))) (sym number)
          (h.0, h.1, h.2, good_with_below d k n l b behind g (λ y. omega (arith, once y)) h.3 some here below)
    ] refl e

-- ---- what is known of a node that is found
pub good_child : (d : Path) (k : Key) (f : Trees) (x : Standing) (b : Trees) → Good d f → child_in k f ≡ Some (x, b)
    → (0 < x.count) × IsStanding (d ++ k ∷ []) x b × Good (d ++ k ∷ []) b
good_child d k bare x b h e = cc
good_child d k (node m key y below behind) x b h e =
    elim (key_eq k key) as (λ c. key_eq k key ≡ c → cond c (Some (y, below)) (child_in k behind) ≡ Some (x, b) → (0 < x.count) × IsStanding (d ++ k ∷ []) x b × Good (d ++ k ∷ []) b) [
      | true ↦ λ same g.
          let pair : (y, below) ≡ (x, b) = same_some (y, below) (x, b) g in
          let is : k ≡ key = key_eq-is k key same in
          subst (λ (c : Child). (0 < (c.0).count) × IsStanding (d ++ k ∷ []) c.0 c.1 × Good (d ++ k ∷ []) c.1) pair
          (subst (λ z. (0 < y.count) × IsStanding (d ++ z ∷ []) y below × Good (d ++ z ∷ []) below) (sym is) (h.0, h.1, h.2))
      | false ↦ λ same g. good_child d k behind x b h.3 g
    ] refl e

pub count_child : (k : Key) (f : Trees) (x : Standing) (b : Trees) → child_in k f ≡ Some (x, b) → x.count ≤ total f
count_child k bare x b e = cc
count_child k (node m key y below behind) x b e =
    elim (key_eq k key) as (λ c. cond c (Some (y, below)) (child_in k behind) ≡ Some (x, b) → x.count ≤ y.count + total behind) [
      | true ↦ λ g. let same : y.count ≡ x.count = ap (λ (c : Child). (c.0).count) (same_some (y, below) (x, b) g) in omega (arith, same)
      | false ↦ λ g. let rest = count_child k behind x b g in omega (arith, rest)
    ] e
