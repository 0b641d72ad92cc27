-- Those at, above and under a path, among those in order: the ones above stand in front of it, the nearest last.
use Rattle.std.proofs.Common.{◌≡◌, ℕ, zero, suc, ◌+◌, ◌-◌, ◌<◌, ◌≤◌, Bool, true, false, cond, ◌||◌, ◌&&◌, nat_lt, List, [], ◌∷◌, ◌++◌, length, take, drop, get_or, refl, sym, ap, subst, ◌∙◌, arith, Option, None, is_some, map}
use mathlib.Core.Bool.{true≢false}
use Rattle.std.specs.Prelude.{◌==◌}
use Rattle.std.specs.Cmp.{nat_eq_equiv}
use Rattle.std.specs.List.{All, list_any}
use Rattle.std.specs.List.Sorted.{IsPartitionedBy, IsPartitionPoint}
use Rattle.std.specs.Ordering.{is_le, is_lt, nat_cmp, ordering_reverse, ordering_then}
use Rattle.std.specs.declared.cmp.Ordering.TheVariants.{Less, Equal, Greater}
use Rattle.std.proofs.lemmas.Bool.{ltb-false, ltb-true}
use Rattle.std.proofs.lemmas.List.Folds.{list_any-append}
use Rattle.std.proofs.lemmas.List.{get_or-drop, get_or-take, length-drop, length-take-le}
use Rattle.rt_tree.specs.PathTree.{Key, Path, exact_paths, key_eq, key_eq-is, path_cmp, paths_total, strip}
use Rattle.rt_tree.specs.Assignments.{do_overlap, is_at_or_above}
use Rattle.rt_cover.specs.laws.Paths.{is_at_or_above-same}
use Rattle.rt_parts.specs.declared.places.ListenerPlace.{ListenerPlace}
use Rattle.rt_parts.specs.inside.Placed.{AreInOrder, HaveFrom, is_paired, stand_cmp, stand_of}
use Rattle.rt_parts.proofs.PathLaws.{above_first, under_from}
use Rattle.rt_parts.proofs.PlaceLaws.{behind_path, get_or_any, path_not_before}
use Rattle.rt_parts.proofs.PairLaws.{or_yes}
use Rattle.rt_parts.proofs.PushLaws.{or_cases}

-- ---- paths

-- what is at or above two paths is so of what both begin with
pub shared_none : (r : Path) → (right : Path) → is_at_or_above r [] ≡ true → is_at_or_above r (take 0 right) ≡ true
shared_none [] right e = refl
shared_none (k ∷ r) right e = absurd (true≢false (sym e))

pub shared_more : (k j : Key) (left right : Path) (n : ℕ)
    → ((r : Path) → is_at_or_above r left ≡ true → is_at_or_above r right ≡ true → is_at_or_above r (take n right) ≡ true)
    → (r : Path) → is_at_or_above r (k ∷ left) ≡ true → is_at_or_above r (j ∷ right) ≡ true → is_at_or_above r (take (n + 1) (j ∷ right)) ≡ true
shared_more k j left right n most [] a b = subst (λ m. is_at_or_above [] (take m (j ∷ right)) ≡ true) (let one : suc n ≡ n + 1 = omega arith in one) refl
shared_more k j left right n most (i ∷ r) a b =
    let one : n + 1 ≡ suc n = omega arith in
    subst (λ m. is_at_or_above (i ∷ r) (take m (j ∷ right)) ≡ true) (sym one)
    (elim (key_eq i j) as (λ c. key_eq i j ≡ c → is_some (cond c (strip r right) None) ≡ true → is_some (cond (key_eq i j) (strip r (take n right)) None) ≡ true) [
      | true ↦ λ e f. ap (λ c. is_some (cond c (strip r (take n right)) None)) e ∙ most r (first (key_eq i k) a) f
      | false ↦ λ e f. absurd (true≢false (sym f))
    ] refl b)
  where
    first : (c : Bool) → is_some (cond c (strip r left) None) ≡ true → is_at_or_above r left ≡ true
    first true e = e
    first false e = absurd (true≢false (sym e))

-- where the first keys differ
pub shared_apart : (k j : Key) (left right : Path) → key_eq k j ≡ false
    → (r : Path) → is_at_or_above r (k ∷ left) ≡ true → is_at_or_above r (j ∷ right) ≡ true → is_at_or_above r (take 0 (j ∷ right)) ≡ true
shared_apart k j left right other [] a b = refl
shared_apart k j left right other (i ∷ r) a b =
    let one : i ≡ k = key_eq-is i k (first (key_eq i k) (strip r left) a) in
    absurd (true≢false (sym (ap (λ z. key_eq z j) (sym one) ∙ first (key_eq i j) (strip r right) b) ∙ other))
  where
    first : (c : Bool) (o : Option Path) → is_some (cond c o None) ≡ true → c ≡ true
    first true o e = refl
    first false o e = absurd (true≢false (sym e))

not_behind : (a b : Path) → is_lt (path_cmp b a) ≡ false → is_le (path_cmp a b) ≡ true
not_behind a b e = ap is_le (paths_total.antisymm a b) ∙ elim (path_cmp b a) as (λ o. is_lt o ≡ false → is_le (ordering_reverse o) ≡ true) [
  | Less ↦ λ f. absurd (true≢false f)
  | Equal ↦ λ f. refl
  | Greater ↦ λ f. refl
] e

-- a path that is above another, and not in front of it, is the other
at_both : (r p : Path) → is_at_or_above r p ≡ true → is_lt (path_cmp r p) ≡ false → is_at_or_above p r ≡ true
at_both r p a e = elim (path_cmp r p) as (λ o. path_cmp r p ≡ o → is_at_or_above p r ≡ true) [
  | Less ↦ λ f. absurd (true≢false (sym (ap is_lt f) ∙ e))
  | Equal ↦ λ f. subst (λ z. is_at_or_above z r ≡ true) (exact_paths r p f) (is_at_or_above-same r)
  | Greater ↦ λ f. absurd (true≢false (sym (ap is_lt (paths_total.antisymm p r ∙ ap ordering_reverse f)) ∙ above_first r p a))
] refl

-- ---- places

abbrev pub before : Path → ListenerPlace → Bool
before p x = is_lt (stand_cmp (stand_of x) (p, 0))

-- in front of a path no path is behind it
in_front : (p : Path) (x : ListenerPlace) → before p x ≡ true → is_lt (path_cmp p x.path) ≡ false
in_front p x e = ap is_lt (paths_total.antisymm p x.path) ∙ elim (path_cmp x.path p) as (λ o. is_lt (ordering_then o (nat_cmp x.number 0)) ≡ true → is_lt (ordering_reverse o) ≡ false) [
  | Less ↦ λ f. refl
  | Equal ↦ λ f. refl
  | Greater ↦ λ f. absurd (true≢false (sym f))
] e

-- of two that stand in order the path of the second is not in front of the first's
later_path : (x y : ListenerPlace) → stand_cmp (stand_of x) (stand_of y) ≡ Less → is_lt (path_cmp y.path x.path) ≡ false
later_path x y e = ap is_lt (paths_total.antisymm y.path x.path) ∙ elim (path_cmp x.path y.path) as (λ o. ordering_then o (nat_cmp x.number y.number) ≡ Less → is_lt (ordering_reverse o) ≡ false) [
  | Less ↦ λ f. refl
  | Equal ↦ λ f. refl
  | Greater ↦ λ f. absurd (true≢false (sym (ap is_lt f)))
] e

-- the first ones
pub order_front : (n : ℕ) (places : List ListenerPlace) → n ≤ length places → AreInOrder places → AreInOrder (take n places)
order_front n places within up i j d lt le =
    let long : length (take n places) ≡ n = length-take-le n places within in
    let jn : j < n = omega (arith, le, long) in
    subst (λ z. stand_cmp (stand_of z) (stand_of (get_or (take n places) j d)) ≡ Less) (sym (get_or-take n places i d (omega (arith, lt, jn))))
    (subst (λ z. stand_cmp (stand_of (get_or places i d)) (stand_of z) ≡ Less) (sym (get_or-take n places j d jn)) (up i j d lt (omega (arith, jn, within))))

pub all_front : (P : ListenerPlace → Type 0) (n : ℕ) (places : List ListenerPlace) → n ≤ length places → All P places → All P (take n places)
all_front P n places within all k d lt =
    let kn : k < n = omega (arith, lt, length-take-le n places within) in
    subst P (sym (get_or-take n places k d kn)) (all k d (omega (arith, kn, within)))

-- those in front of the place of a path
pub front_of : (p : Path) (places : List ListenerPlace) (first : ℕ) → first ≤ length places → IsPartitionPoint (λ x. before p x ≡ true) (λ x. before p x ≡ false) places first
    → All (λ x. is_lt (path_cmp p x.path) ≡ false) (take first places)
front_of p places first within point k d lt =
    let kn : k < first = omega (arith, lt, length-take-le first places within) in
    subst (λ x. is_lt (path_cmp p x.path) ≡ false) (sym (get_or-take first places k d kn)) (in_front p (get_or places k d) (point.0 k d (omega (arith, kn, within)) kn))

-- and those behind it
pub rest_of : (p : Path) (places rest : List ListenerPlace) (first : ℕ) → rest ≡ drop first places → first ≤ length places → IsPartitionPoint (λ x. before p x ≡ true) (λ x. before p x ≡ false) places first
    → All (λ x. is_lt (path_cmp x.path p) ≡ false) rest
rest_of p places rest first is within point k d lt =
    let there : get_or rest k d ≡ get_or places (first + k) d = ap (λ z. get_or z k d) is ∙ get_or-drop first places k d in
    let fit : first + k < length places = omega (arith, lt, ap length is, length-drop first places, within) in
    ap (λ (x : ListenerPlace). is_lt (path_cmp x.path p)) there ∙ behind_path path_cmp paths_total stand_of p (get_or places (first + k) d) (point.1 (first + k) d (omega arith) fit)

-- where the last one is at or above the path, it alone is done
pub taken_last : (p : Path) (places : List ListenerPlace) (found : ListenerPlace → Bool) (end : ℕ) (last : ListenerPlace) → end + 1 ≡ length places → last ≡ get_or places end last
    → found last ≡ true → HaveFrom (λ x. is_at_or_above x.path p) found places end
taken_last p places found end last long is has k d ge lt e =
    let same : end ≡ k = omega (arith, ge, lt, long) in
    ap found (sym (is ∙ get_or_any places end last d (omega (arith, long)) ∙ ap (λ n. get_or places n d) same)) ∙ has

-- where it is not, so is none behind those that stand at what both paths begin with, or in front
pub passed_last : (p q : Path) (places : List ListenerPlace) (found : ListenerPlace → Bool) (end count : ℕ) (last : ListenerPlace) → end + 1 ≡ length places → last ≡ get_or places end last
    → AreInOrder places → All (λ x. is_lt (path_cmp p x.path) ≡ false) places → is_at_or_above last.path p ≡ false
    → ((r : Path) → is_at_or_above r last.path ≡ true → is_at_or_above r p ≡ true → is_at_or_above r q ≡ true)
    → IsPartitionPoint (λ x. is_le (path_cmp x.path q) ≡ true) (λ x. is_le (path_cmp x.path q) ≡ false) (take end places) count
    → HaveFrom (λ x. is_at_or_above x.path p) found places count
passed_last p q places found end count last long is up front other most point k d ge lt e =
    let there : last ≡ get_or places end d = is ∙ get_or_any places end last d (omega (arith, long)) in
    absurd (elim (nat_lt k end) as (λ b. nat_lt k end ≡ b → ⊥) [
      | true ↦ λ f.
          let l : k < end = ltb-true k end f in
          let x : ListenerPlace = get_or places k d in
          let above : is_at_or_above x.path last.path ≡ true =
          under_from x.path last.path p e
          (subst (λ (z : ListenerPlace). is_lt (path_cmp z.path x.path) ≡ false) (sym there) (later_path x (get_or places end d) (up k end d l (omega (arith, long)))))
          (subst (λ (z : ListenerPlace). is_lt (path_cmp p z.path) ≡ false) (sym there) (front end d (omega (arith, long)))) in
          let le : is_le (path_cmp x.path q) ≡ true = not_behind x.path q (above_first x.path q (most x.path above e)) in
          let past : is_le (path_cmp (get_or (take end places) k d).path q) ≡ false = point.1 k d ge (omega (arith, l, long, length-take-le end places (omega (arith, long)))) in
          true≢false (sym le ∙ ap (λ (z : ListenerPlace). is_le (path_cmp z.path q)) (sym (get_or-take end places k d l)) ∙ past)
      | false ↦ λ f.
          let le : end ≤ k = ltb-false k end f in
          let same : end ≡ k = omega (arith, le, lt, long) in
          true≢false (sym e ∙ ap (λ n. is_at_or_above (get_or places n d).path p) (sym same) ∙ ap (λ (z : ListenerPlace). is_at_or_above z.path p) (sym there) ∙ other)
    ] refl)

-- some more of those in front are done
pub above_more : (test found now : ListenerPlace → Bool) (places : List ListenerPlace) (left less : ℕ) → left ≤ length places → ((x : ListenerPlace) → found x ≡ true → now x ≡ true)
    → HaveFrom test now (take left places) less → HaveFrom test found places left → HaveFrom test now places less
above_more test found now places left less within kept done before k d ge lt e =
    elim (nat_lt k left) as (λ b. nat_lt k left ≡ b → now (get_or places k d) ≡ true) [
      | true ↦ λ f.
          let l : k < left = ltb-true k left f in
          let there : get_or (take left places) k d ≡ get_or places k d = get_or-take left places k d l in
          ap now (sym there) ∙ done k d ge (omega (arith, l, length-take-le left places within)) (ap test there ∙ e)
      | false ↦ λ f. kept (get_or places k d) (before k d (ltb-false k left f) lt e)
    ] refl

-- those at or under a path, of such that don't stand in front of it
pub under_parted : (p : Path) (places : List ListenerPlace) → AreInOrder places → All (λ x. is_lt (path_cmp x.path p) ≡ false) places → IsPartitionedBy (λ x. is_at_or_above p x.path) places
under_parted p places up behind i j d le lt e = elim (nat_lt i j) as (λ b. nat_lt i j ≡ b → is_at_or_above p (get_or places i d).path ≡ true) [
  | true ↦ λ f.
      let l : i < j = ltb-true i j f in
      under_from p (get_or places i d).path (get_or places j d).path e (behind i d (omega (arith, l, lt))) (later_path (get_or places i d) (get_or places j d) (up i j d l lt))
  | false ↦ λ f.
      let ge : j ≤ i = ltb-false i j f in
      let same : i ≡ j = omega (arith, ge, le) in
      ap (λ n. is_at_or_above p (get_or places n d).path) same ∙ e
] refl

-- a pair of each of these with the entry
pub paired_each : (old : List (ℕ × ℕ)) (places : List ListenerPlace) (entry k : ℕ) (d : ListenerPlace) → k < length places
    → is_paired entry (old ++ map (λ (x : ListenerPlace). (x.number, entry)) places) (get_or places k d) ≡ true
paired_each old [] entry k d lt = absurd (omega arith)
paired_each old (y ∷ places) entry zero d lt =
    list_any-append (λ (o : ℕ × ℕ). y.number == o.0 && entry == o.1) old (map (λ (x : ListenerPlace). (x.number, entry)) (y ∷ places))
    ∙ or_yes (list_any (λ (o : ℕ × ℕ). y.number == o.0 && entry == o.1) old) _ ((λ i. (nat_eq_equiv.refl y.number i && nat_eq_equiv.refl entry i) || list_any (λ (o : ℕ × ℕ). y.number == o.0 && entry == o.1) (map (λ (x : ListenerPlace). (x.number, entry)) places)))
paired_each old (y ∷ places) entry (suc k) d lt =
    let x : ListenerPlace = get_or places k d in
    let rest : is_paired entry ([] ++ map (λ (x : ListenerPlace). (x.number, entry)) places) x ≡ true = paired_each [] places entry k d (omega arith) in
    list_any-append (λ (o : ℕ × ℕ). x.number == o.0 && entry == o.1) old (map (λ (x : ListenerPlace). (x.number, entry)) (y ∷ places))
    ∙ or_yes (list_any (λ (o : ℕ × ℕ). x.number == o.0 && entry == o.1) old) _ (or_yes (x.number == y.number && entry == entry) _ rest)

pub under_found : (p : Path) (places : List ListenerPlace) (old : List (ℕ × ℕ)) (entry count : ℕ) → count ≤ length places
    → IsPartitionPoint (λ x. is_at_or_above p x.path ≡ true) (λ x. is_at_or_above p x.path ≡ false) places count
    → HaveFrom (λ x. is_at_or_above p x.path) (is_paired entry (old ++ map (λ (x : ListenerPlace). (x.number, entry)) (take count places))) places 0
under_found p places old entry count within point k d ge lt e = elim (nat_lt k count) as (λ b. nat_lt k count ≡ b → is_paired entry (old ++ map (λ (x : ListenerPlace). (x.number, entry)) (take count places)) (get_or places k d) ≡ true) [
  | true ↦ λ f.
      let l : k < count = ltb-true k count f in
      ap (is_paired entry (old ++ map (λ (x : ListenerPlace). (x.number, entry)) (take count places))) (sym (get_or-take count places k d l))
      ∙ paired_each old (take count places) entry k d (omega (arith, l, length-take-le count places within))
  | false ↦ λ f. absurd (true≢false (sym e ∙ point.1 k d (ltb-false k count f) lt))
] refl

-- those at, above and under a path
pub met_all : (p : Path) (places rest : List ListenerPlace) (first : ℕ) (mid new : ListenerPlace → Bool) → rest ≡ drop first places → first ≤ length places
    → IsPartitionPoint (λ x. before p x ≡ true) (λ x. before p x ≡ false) places first → ((x : ListenerPlace) → mid x ≡ true → new x ≡ true)
    → HaveFrom (λ x. is_at_or_above x.path p) mid (take first places) 0 → HaveFrom (λ x. is_at_or_above p x.path) new rest 0
    → All (λ x. do_overlap p x.path ≡ true → new x ≡ true) places
met_all p places rest first mid new is within point kept above under k d lt e =
    let x : ListenerPlace = get_or places k d in
    elim (nat_lt k first) as (λ b. nat_lt k first ≡ b → new x ≡ true) [
      | true ↦ λ f.
          let l : k < first = ltb-true k first f in
          let there : get_or (take first places) k d ≡ x = get_or-take first places k d l in
          let at : is_at_or_above x.path p ≡ true =
          or_cases (is_at_or_above p x.path) (is_at_or_above x.path p) e
          (λ g. absurd (true≢false (sym (point.0 k d (omega arith) l) ∙ path_not_before path_cmp paths_total stand_of p x (above_first p x.path g))))
          (λ g. g) in
          kept x (ap mid (sym there) ∙ above k d (omega arith) (omega (arith, l, length-take-le first places within)) (ap (λ (z : ListenerPlace). is_at_or_above z.path p) there ∙ at))
      | false ↦ λ f.
          let ge : first ≤ k = ltb-false k first f in
          let fit : k - first < length rest = omega (arith, ge, lt, ap length is, length-drop first places) in
          let same : first + (k - first) ≡ k = omega (arith, ge) in
          let there : get_or rest (k - first) d ≡ x = ap (λ z. get_or z (k - first) d) is ∙ get_or-drop first places (k - first) d ∙ ap (λ n. get_or places n d) same in
          let at : is_at_or_above p x.path ≡ true =
          or_cases (is_at_or_above p x.path) (is_at_or_above x.path p) e (λ g. g)
          (λ g. at_both x.path p g (behind_path path_cmp paths_total stand_of p x (point.1 k d ge lt))) in
          ap new (sym there) ∙ under (k - first) d (omega arith) fit (ap (λ (z : ListenerPlace). is_at_or_above p z.path) there ∙ at)
    ] refl
