-- What is seen below a node and a row, once a listener ended there.
use Rattle.std.proofs.Common.{◌≡◌, ◌≤◌, ◌<◌, ℕ, ◌+◌, List, [], ◌∷◌, ◌++◌, length, Option, Some, None, Bool, true, false, cond, nat_lt, refl, sym, ap, subst, ◌∙◌, arith}
use Rattle.std.specs.Prelude.{nat_eq, ◌&&◌}
use Rattle.std.specs.declared.cmp.Ordering.TheVariants.{Less, Equal, Greater}
use Rattle.std.specs.Option.{option_map_or}
use Rattle.std.specs.FinMap.Entries.{by_order}
use Rattle.std.proofs.lemmas.Bool.{eq-eqb}
use Rattle.rt_tree.specs.PathTree.{Key, Path, key_eq, key_eq-is, key_eq-symm}
use Rattle.rt_query.specs.Queries.{Query}
use Rattle.rt_order.specs.KeyOrder.{key_cmp}
use Rattle.rt_order.specs.laws.KeyOrder.{key_cmp-IsAntisymmetric}
use Rattle.rt_nodes.specs.Forest.{bare, node, times, AllAfter, Sound}
use Rattle.rt_nodes.specs.Walks.{index_in}
use Rattle.rt_nodes.specs.Changes.{InRow, without, with_below}
use Rattle.rt_nodes.proofs.Paths.{found_in_row, other_number}
use Rattle.rt_nodes.proofs.Taking.{later_of}
use Rattle.rt_forms.specs.Numbers.{without_number}
use Rattle.rt_forms.specs.inside.Trees.{Standing, Trees, AreAt, own, held, seen, seen_in, child_in, total, IsStanding, Good, same_path, alike, Lost, Takes, TakesIn, passed, pruned}
use Rattle.rt_forms.proofs.RowLaws.{Child, differs, equals, past, child_with_below, total_with_below, good_with_below, good_child, count_child}
use Rattle.rt_forms.proofs.AddLaws.{numbers_in}
use Rattle.rt_forms.proofs.LessLaws.{own_bound, no_numbers, some_is, none_is}

-- ---- no form has more listeners than are counted
bound_in : (q : Query) (k : Key) (s d : Path) (b : Trees) → Good d b → (o : Option Child) → child_in k b ≡ o
    → ((e : Path) (y : Standing) (c : Trees) → IsStanding e y c → Good e c → length (seen q s y c) ≤ y.count)
    → length (option_map_or (λ (c : Child). seen q s c.0 c.1) o []) ≤ total b
bound_in q k s d b g None e more = let least : 0 ≤ total b = omega arith in least
bound_in q k s d b g (Some c) e more =
    let known = good_child d k b c.0 c.1 g e in
    let le : length (seen q s c.0 c.1) ≤ (c.0).count = more (d ++ k ∷ []) c.0 c.1 known.1 known.2 in
    let under = count_child k b c.0 c.1 e in
    let all : length (seen q s c.0 c.1) ≤ total b = omega (arith, le, under) in all

pub seen_bound : (q : Query) (s d : Path) (x : Standing) (b : Trees) → IsStanding d x b → Good d b → length (seen q s x b) ≤ x.count
seen_bound q [] d x b h g = let le = own_bound q x in let sum = h.count in omega (arith, le, sum)
seen_bound q (k ∷ s) d x b h g =
    let le = bound_in q k s d b g (child_in k b) refl (λ e y c i j. seen_bound q s e y c i j) in
    let sum = h.count in omega (arith, le, sum)

pub seen_in_bound : (q : Query) (k : Key) (s d : Path) (b : Trees) → Good d b → length (seen_in q k s b) ≤ total b
seen_in_bound q k s d b g = bound_in q k s d b g (child_in k b) refl (λ e y c i j. seen_bound q s e y c i j)

-- ---- at the node
pub takes_here : (x y : Standing) (b : Trees) (r : Query) (n : ℕ) → Lost x y r n → Takes x b y b [] r n
takes_here x y b r n l = record {
  numbers = numbers;
  count = l.count;
  standing = λ d h good. record { count = let c = h.count in let e = l.count in let f = l.holds in omega (arith, c, e, f); at = l.at d h.at };
  good = λ d good. good;
}
  where
    numbers : (q : Query) (s : Path) → seen q s y b ≡ cond (same_path s [] && alike q r) (without_number n (seen q s x b)) (seen q s x b)
    numbers q [] = l.numbers q
    numbers q (j ∷ s) = refl

-- ---- below it
pub takes_below : (x y : Standing) (b c : Trees) (k : Key) (p : Path) (r : Query) (n : ℕ) → x ≡ passed y → TakesIn b c k p r n → Takes x b y c (k ∷ p) r n
takes_below x y b c k p r n is a = record {
  numbers = numbers;
  count = ap (λ (z : Standing). z.count) (sym is);
  standing = λ d h good. record {
    count =
        let e = h.count in
        let f = a.sum in
        let g : x.count ≡ y.count + 1 = ap (λ (z : Standing). z.count) is in
        let i : held x ≡ held y = ap held is in
        omega (arith, e, f, g, i);
    at = subst (λ (z : Standing). AreAt d z.filtered) is h.at;
  };
  good = λ d good. a.good d good;
}
  where
    numbers : (q : Query) (s : Path) → seen q s y c ≡ cond (same_path s (k ∷ p) && alike q r) (without_number n (seen q s x b)) (seen q s x b)
    numbers q [] = ap (own q) (sym is)
    numbers q (j ∷ s) = a.numbers q j s

-- ---- a row without one of its siblings
pub child_own : (key : Key) (f : Trees) → AllAfter key f → child_in key f ≡ None
child_own key bare h = refl
child_own key (node n j x below behind) h = ap (λ b. cond b (Some (x, below)) (child_in key behind)) (differs key j Less h.0 refl) ∙ child_own key behind h.1

pub child_without : (k : Key) (n : ℕ) (f : Trees) → index_in k f ≡ Some n → ((m : ℕ) → times m f ≤ 1) → Sound f
    → (j : Key) → child_in j (without n f) ≡ cond (key_eq k j) None (child_in j f)
child_without k n bare e once sound j = cc
child_without k n (node m key x below behind) e once sound j =
    elim (key_cmp k key) as (λ r. key_cmp k key ≡ r → by_order r None (Some m) (index_in k behind) ≡ Some n
    → child_in j (cond (nat_eq n m) behind (node m key x below (without n behind)))
    ≡ cond (key_eq k j) None (cond (key_eq j key) (Some (x, below)) (child_in j behind))) [
      | Less ↦ λ order g. cc
      | Equal ↦ λ order g.
          let same : k ≡ key = key_cmp-IsAntisymmetric k key order in
          let number : nat_eq n m ≡ true = eq-eqb n m (sym (ap (λ y. option_map_or (λ z. z) y m) g)) in
          let flip : key_eq j key ≡ key_eq k j = ap (key_eq j) (sym same) ∙ key_eq-symm j k in
          ap (λ c. child_in j (cond c behind (node m key x below (without n behind)))) number
          ∙ elim (key_eq k j) as (λ t. key_eq k j ≡ t → child_in j behind ≡ cond t None (cond t (Some (x, below)) (child_in j behind))) [
            | true ↦ λ t. ap (λ i. child_in i behind) (sym (key_eq-is k j t) ∙ same) ∙ child_own key behind sound.0
            | false ↦ λ t. refl
          ] refl
          ∙ ap (λ c. cond (key_eq k j) None (cond c (Some (x, below)) (child_in j behind))) (sym flip)
      | Greater ↦ λ order g.
          let number : nat_eq n m ≡ false = other_number n m key x below behind (found_in_row k n behind g) (once n) in
          let off : key_eq k key ≡ false = differs k key Greater order refl in
          ap (λ c. child_in j (cond c behind (node m key x below (without n behind)))) number
          ∙ ap (cond (key_eq j key) (Some (x, below))) (child_without k n behind g (λ y. omega (arith, once y)) sound.2 j)
          ∙ past (key_eq k j) (key_eq j key) (Some (x, below)) None (child_in j behind)
          (λ e. ap (λ y. key_eq y key) (sym (key_eq-is k j e)) ∙ off)
    ] refl e

pub total_without : (k : Key) (n : ℕ) (f : Trees) → index_in k f ≡ Some n → ((m : ℕ) → times m f ≤ 1)
    → total (without n f) + option_map_or (λ (c : Child). (c.0).count) (child_in k f) 0 ≡ total f
total_without k n bare e once = cc
total_without k n (node m key x below behind) e once =
    elim (key_cmp k key) as (λ r. key_cmp k key ≡ r → by_order r None (Some m) (index_in k behind) ≡ Some n
    → total (cond (nat_eq n m) behind (node m key x below (without n behind)))
    + option_map_or (λ (c : Child). (c.0).count) (cond (key_eq k key) (Some (x, below)) (child_in k behind)) 0 ≡ x.count + total behind) [
      | Less ↦ λ order g. cc
      | Equal ↦ λ order g.
          let number : nat_eq n m ≡ true = eq-eqb n m (sym (ap (λ y. option_map_or (λ z. z) y m) g)) in
          (λ i. total (cond (number i) behind (node m key x below (without n behind)))
          + option_map_or (λ (c : Child). (c.0).count) (cond (equals k key order i) (Some (x, below)) (child_in k behind)) 0)
          ∙ (let e : total behind + x.count ≡ x.count + total behind = omega arith in e)
      | Greater ↦ λ order g.
          let number : nat_eq n m ≡ false = other_number n m key x below behind (found_in_row k n behind g) (once n) in
          let rest = total_without k n behind g (λ y. omega (arith, once y)) in
          (λ i. total (cond (number i) behind (node m key x below (without n behind)))
          + option_map_or (λ (c : Child). (c.0).count) (cond (differs k key Greater order refl i) (Some (x, below)) (child_in k behind)) 0)
          ∙ (let e : x.count + total (without n behind) + option_map_or (λ (c : Child). (c.0).count) (child_in k behind) 0 ≡ x.count + total behind = omega (arith, rest) in e)
    ] refl e

good_without : (d : Path) (n : ℕ) (f : Trees) → Good d f → Good d (without n f)
good_without d n bare h = tt
good_without d n (node m key x below behind) h =
    elim (nat_eq n m) as (λ t. Good d (cond t behind (node m key x below (without n behind)))) [
      | true ↦ h.3
      | false ↦ (h.0, h.1, h.2, good_without d n behind h.3)
    ]

either_node : (b : Bool) (n : ℕ) (key : Key) (x : Standing) (below f g : Trees) → node n key x below (cond b f g) ≡ cond b (node n key x below f) (node n key x below g)
either_node true n key x below f g = refl
either_node false n key x below f g = refl

-- what is left where one of the siblings became another
pub pruned_with : (n : ℕ) (y : Standing) (c f : Trees) → InRow n f → pruned n (with_below n y c f) ≡ cond (nat_lt 0 y.count) (with_below n y c f) (without n f)
pruned_with n y c bare is = absurd is
pruned_with n y c (node m key x below behind) is =
    elim (nat_eq n m) as (λ t. nat_eq n m ≡ t → pruned n (cond t (node m key y c behind) (node m key x below (with_below n y c behind)))
    ≡ cond (nat_lt 0 y.count) (cond t (node m key y c behind) (node m key x below (with_below n y c behind))) (cond t behind (node m key x below (without n behind)))) [
      | true ↦ λ e. ap (λ t. cond t (cond (nat_lt 0 y.count) (node m key y c behind) behind) (node m key y c (pruned n behind))) e
      | false ↦ λ e.
          ap (λ t. cond t (cond (nat_lt 0 x.count) (node m key x below (with_below n y c behind)) (with_below n y c behind)) (node m key x below (pruned n (with_below n y c behind)))) e
          ∙ ap (node m key x below) (pruned_with n y c behind (later_of n m behind is e))
          ∙ either_node (nat_lt 0 y.count) m key x below (with_below n y c behind) (without n behind)
    ] refl

-- ---- in a row
module _ (m : ℕ) (k : Key) (x y : Standing) (b c f : Trees) (p : Path) (r : Query) (n : ℕ) (there : index_in k f ≡ Some m) (once : (i : ℕ) → times i f ≤ 1)
    (sound : Sound f) (child : child_in k f ≡ Some (x, b)) (d : Path) (good : Good d f) (a : Takes x b y c p r n) where
  was : (q : Query) (s : Path) → seen_in q k s f ≡ seen q s x b
  was q s = ap (λ z. option_map_or (λ (e : Child). seen q s e.0 e.1) z []) child

  numbers : (q : Query) (j : Key) (s : Path) → seen_in q j s (with_below m y c f) ≡ cond (same_path (j ∷ s) (k ∷ p) && alike q r) (without_number n (seen_in q j s f)) (seen_in q j s f)
  numbers = numbers_in f (with_below m y c f) k x y b c p r (without_number n) a.numbers was (child_with_below k m y c f there once)

  counted : option_map_or (λ (z : Child). (z.0).count) (child_in k f) 0 ≡ x.count
  counted = ap (λ o. option_map_or (λ (z : Child). (z.0).count) o 0) child

  -- a listener is left there
  stays : 0 < y.count → TakesIn f (with_below m y c f) k p r n
  stays some = record {
    numbers = numbers;
    sum = let e = total_with_below k m y c f there once in let g = counted in let h = a.count in omega (arith, e, g, h);
    good = λ e h.
        let known = good_child e k f x b h child in
        good_with_below e k m y c f there once h some (a.standing (e ++ k ∷ []) known.1 known.2) (a.good (e ++ k ∷ []) known.2);
  }

  -- or none
  goes : y.count ≡ 0 → TakesIn f (without m f) k p r n
  goes none = record {
    numbers = left;
    sum = let e = total_without k m f there once in let g = counted in let h = a.count in omega (arith, e, g, h, none);
    good = λ e h. good_without e m f h;
  }
    where
      empty : (q : Query) (s : Path) → seen q s y c ≡ []
      empty q s =
          let known = good_child d k f x b good child in
          let le = seen_bound q s (d ++ k ∷ []) y c (a.standing (d ++ k ∷ []) known.1 known.2) (a.good (d ++ k ∷ []) known.2) in
          no_numbers (seen q s y c) (omega (arith, le, none))

      left : (q : Query) (j : Key) (s : Path) → seen_in q j s (without m f) ≡ cond (same_path (j ∷ s) (k ∷ p) && alike q r) (without_number n (seen_in q j s f)) (seen_in q j s f)
      left q j s =
          let want : List ℕ = cond (same_path (j ∷ s) (k ∷ p) && alike q r) (without_number n (seen_in q j s f)) (seen_in q j s f) in
          let now : option_map_or (λ (e : Child). seen q s e.0 e.1) (cond (key_eq k j) (Some (y, c)) (child_in j f)) [] ≡ want =
          ap (λ o. option_map_or (λ (e : Child). seen q s e.0 e.1) o []) (sym (child_with_below k m y c f there once j)) ∙ numbers q j s in
          ap (λ o. option_map_or (λ (e : Child). seen q s e.0 e.1) o []) (child_without k m f there once sound j)
          ∙ elim (key_eq k j) as (λ t. option_map_or (λ (e : Child). seen q s e.0 e.1) (cond t (Some (y, c)) (child_in j f)) [] ≡ want
          → option_map_or (λ (e : Child). seen q s e.0 e.1) (cond t None (child_in j f)) [] ≡ want) [
            | true ↦ λ e. sym (empty q s) ∙ e
            | false ↦ λ e. e
          ] now

  pub takes_pruned : TakesIn f (pruned m (with_below m y c f)) k p r n
  takes_pruned =
      subst (λ g. TakesIn f g k p r n) (sym (pruned_with m y c f (found_in_row k m f there)))
      (elim (nat_lt 0 y.count) as (λ t. nat_lt 0 y.count ≡ t → TakesIn f (cond t (with_below m y c f) (without m f)) k p r n) [
        | true ↦ λ e. stays (some_is y.count e)
        | false ↦ λ e. goes (none_is y.count e)
      ] refl)
