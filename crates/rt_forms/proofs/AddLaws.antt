-- What is seen below a node and a row, once a listener was put there.
use Rattle.std.proofs.Common.{◌≡◌, ◌≤◌, ℕ, List, [], ◌∷◌, ◌++◌, Option, Some, true, false, cond, refl, sym, ap, ◌∙◌, arith, append_assoc, append-nil}
use Rattle.std.specs.Prelude.{◌&&◌}
use Rattle.std.specs.Option.{option_map_or}
use Rattle.rt_tree.specs.PathTree.{Key, Path, key_eq, key_eq-is, key_eq-symm}
use Rattle.rt_query.specs.Queries.{Query, is_filtered}
use Rattle.rt_nodes.specs.Forest.{bare, times, Sound}
use Rattle.rt_nodes.specs.Walks.{spot_in, index_in}
use Rattle.rt_nodes.specs.Changes.{with_below, planted}
use Rattle.rt_nodes.specs.declared.nodes.SeekResult.TheVariants.{Gap}
use Rattle.rt_nodes.proofs.Paths.{here, index_spot}
use Rattle.rt_forms.specs.Numbers.{with_number}
use Rattle.rt_forms.specs.inside.Trees.{Standing, Trees, seen, seen_in, child_in, IsStanding, same_path, alike, Gained, Adds, AddsIn, empty, passed}
use Rattle.rt_forms.proofs.RowLaws.{child_lacks, child_planted, total_planted, good_planted, child_with_below, total_with_below, good_with_below, good_child}

-- ---- at the node
pub adds_here : (x y : Standing) (b : Trees) (r : Query) (n : ℕ) → Gained x y r n → Adds x b y b [] r n
adds_here x y b r n g = record {
  numbers = numbers;
  count = g.count;
  standing = λ d at h good. record { count = let c = h.count in let e = g.count in let f = g.holds in omega (arith, c, e, f); at = g.at d (at ∙ append-nil d) h.at };
  good = λ d at h good. good;
}
  where
    numbers : (q : Query) (s : Path) → seen q s y b ≡ cond (same_path s [] && alike q r) (with_number n (seen q s x b)) (seen q s x b)
    numbers q [] = g.numbers q
    numbers q (j ∷ s) = refl

-- ---- below it
pub adds_below : (x : Standing) (b c : Trees) (k : Key) (p : Path) (r : Query) (n : ℕ) → AddsIn b c k p r n → Adds x b (passed x) c (k ∷ p) r n
adds_below x b c k p r n a = record {
  numbers = numbers;
  count = refl;
  standing = λ d at h good. record { count = let e = h.count in let f = a.sum in omega (arith, e, f); at = h.at };
  good = λ d at h good. a.good d at good;
}
  where
    numbers : (q : Query) (s : Path) → seen q s (passed x) c ≡ cond (same_path s (k ∷ p) && alike q r) (with_number n (seen q s x b)) (seen q s x b)
    numbers q [] = refl
    numbers q (j ∷ s) = a.numbers q j s

-- ---- in a row
pub seen_empty : (q : Query) (s : Path) → seen q s empty bare ≡ []
seen_empty q [] = elim (is_filtered q) as (λ b. cond {A = List ℕ} b [] [] ≡ []) [ true ↦ refl | false ↦ refl ]
seen_empty q (j ∷ s) = refl

append_key : (d : Path) (k : Key) (p : Path) → d ++ (k ∷ p) ≡ (d ++ k ∷ []) ++ p
append_key d k p = sym (append_assoc d (k ∷ []) p)

-- the same where another key is looked for
module _ (f g : Trees) (k : Key) (x y : Standing) (b c : Trees) (p : Path) (r : Query) (turn : List ℕ → List ℕ)
    (turns : (q : Query) (s : Path) → seen q s y c ≡ cond (same_path s p && alike q r) (turn (seen q s x b)) (seen q s x b))
    (was : (q : Query) (s : Path) → seen_in q k s f ≡ seen q s x b) (now : (j : Key) → child_in j g ≡ cond (key_eq k j) (Some (y, c)) (child_in j f)) where
  pub numbers_in : (q : Query) (j : Key) (s : Path) → seen_in q j s g ≡ cond (same_path (j ∷ s) (k ∷ p) && alike q r) (turn (seen_in q j s f)) (seen_in q j s f)
  numbers_in q j s =
      ap (λ o. option_map_or (λ (e : Standing × Trees). seen q s e.0 e.1) o []) (now j)
      ∙ elim (key_eq k j) as (λ t. key_eq k j ≡ t → option_map_or (λ (e : Standing × Trees). seen q s e.0 e.1) (cond t (Some (y, c)) (child_in j f)) []
      ≡ cond (key_eq j k && same_path s p && alike q r) (turn (seen_in q j s f)) (seen_in q j s f)) [
        | true ↦ λ e.
            let same : k ≡ j = key_eq-is k j e in
            turns q s
            ∙ ap (λ z. cond (same_path s p && alike q r) (turn z) z) (sym (was q s) ∙ ap (λ i. seen_in q i s f) same)
            ∙ ap (λ t. cond (t && same_path s p && alike q r) (turn (seen_in q j s f)) (seen_in q j s f)) (sym (key_eq-symm j k ∙ e))
        | false ↦ λ e. ap (λ t. cond (t && same_path s p && alike q r) (turn (seen_in q j s f)) (seen_in q j s f)) (sym (key_eq-symm j k ∙ e))
      ] refl

-- by a node that is new
pub adds_planted : (m : ℕ) (k : Key) (x : Standing) (b f : Trees) (o p' q' : Option ℕ) (p : Path) (r : Query) (n : ℕ) → Sound f → spot_in k o f ≡ Gap p' q'
    → Adds empty bare x b p r n → AddsIn f (planted m k x b f) k p r n
adds_planted m k x b f o p' q' p r n sound spot a = record {
  numbers = numbers_in f (planted m k x b f) k empty x bare b p r (with_number n) a.numbers was (child_planted m k x b f o p' q' sound spot);
  sum = let e = total_planted m k x b f o p' q' spot in let c = a.count in omega (arith, e, c);
  good = λ d at h.
      let path : r.path ≡ (d ++ k ∷ []) ++ p = at ∙ append_key d k p in
      let nothing : IsStanding (d ++ k ∷ []) empty bare = record { count = refl; at = tt } in
      good_planted d m k x b f h (let c = a.count in omega (arith, c)) (a.standing (d ++ k ∷ []) path nothing tt) (a.good (d ++ k ∷ []) path nothing tt);
}
  where
    was : (q : Query) (s : Path) → seen_in q k s f ≡ seen q s empty bare
    was q s =
        ap (λ z. option_map_or (λ (e : Standing × Trees). seen q s e.0 e.1) z []) (child_lacks f k sound (index_spot k o f ∙ ap here spot))
        ∙ sym (seen_empty q s)

-- by one that was there
pub adds_with_below : (m : ℕ) (k : Key) (x y : Standing) (b c f : Trees) (p : Path) (r : Query) (n : ℕ) → index_in k f ≡ Some m → ((i : ℕ) → times i f ≤ 1)
    → child_in k f ≡ Some (x, b) → Adds x b y c p r n → AddsIn f (with_below m y c f) k p r n
adds_with_below m k x y b c f p r n there once child a = record {
  numbers = numbers_in f (with_below m y c f) k x y b c p r (with_number n) a.numbers was (child_with_below k m y c f there once);
  sum =
      let e = total_with_below k m y c f there once in
      let g : option_map_or (λ (z : Standing × Trees). (z.0).count) (child_in k f) 0 ≡ x.count = ap (λ o. option_map_or (λ (z : Standing × Trees). (z.0).count) o 0) child in
      let h = a.count in omega (arith, e, g, h);
  good = λ d at h.
      let path : r.path ≡ (d ++ k ∷ []) ++ p = at ∙ append_key d k p in
      let known = good_child d k f x b h child in
      good_with_below d k m y c f there once h (let z = a.count in omega (arith, z)) (a.standing (d ++ k ∷ []) path known.1 known.2) (a.good (d ++ k ∷ []) path known.1 known.2);
}
  where
    was : (q : Query) (s : Path) → seen_in q k s f ≡ seen q s x b
    was q s = ap (λ z. option_map_or (λ (e : Standing × Trees). seen q s e.0 e.1) z []) child
