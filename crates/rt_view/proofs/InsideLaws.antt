-- The children whose entries pass a test, when one is put or taken out; and so those in a range, and the others.
use Rattle.std.specs.Prelude.{T}
use Rattle.std.proofs.Common.{◌≡◌, ◌+◌, Bool, true, false, cond, not, [], ◌∷◌, ◌++◌, length, refl, sym, ap, subst, ◌∙◌, Some, is_some}
use Rattle.std.specs.declared.cmp.Ordering.{Ordering}
use Rattle.std.specs.declared.cmp.Ordering.TheVariants.{Less, Equal, Greater}
use Rattle.std.specs.Ordering.{is_lt, is_eq}
use Rattle.std.specs.List.{filter}
use Rattle.std.specs.Map.{lookup, remove_entry}
use Rattle.std.specs.BTreeMap.{is_at}
use Rattle.std.specs.FinMap as map_of
use Rattle.std.specs.FinMap.Entries.{by_order, is_sorted, below_all}
use Rattle.std.proofs.lemmas.List.Elements.{filter-append}
use Rattle.std.proofs.lemmas.List.Filters.{length-filter_both}
use Rattle.rt_tree.specs.PathTree.{PathTree, both, first, second}
use Rattle.rt_order.specs.Entries.{Entry, entry_cmp}
use Rattle.rt_order.specs.declared.cut.Range.{Range}
use Rattle.rt_order.specs.Cuts.{has}
use Rattle.rt_order.specs.laws.EntryOrder.{entry_cmp_total}
use Rattle.rt_view.specs.inside.Ranged.{inside, outside}
use Rattle.rt_view.specs.inside.Windows.{Entries, is_there}
use Rattle.rt_view.proofs.WindowLaws.{below_of, same_entry}

abbrev puts : Entry → PathTree → Entries → Entries
puts e v es = map_of.put entry_cmp e v es

abbrev pub removed : Entry → Entries → Entries
removed e es = remove_entry (is_at (entry_cmp e)) es

-- the children whose entries pass
abbrev pub passed : (Entry → Bool) → Entries → Entries
passed p es = filter (λ e. p e.0) es

is_less : (o : Ordering) → o ≡ Less → T (is_lt o)
is_less o e = subst (λ x. T (is_lt x)) (sym e) tt

-- below a list's head, so below the list
pub below_more : (e x : Entry) (xs : Entries) → entry_cmp e x ≡ Less → T (below_all entry_cmp x xs) → T (below_all entry_cmp e xs)
below_more e x [] l h = tt
below_more e x (y ∷ xs) l h = both _ _ (is_less _ (entry_cmp_total.trans e x y.0 l (below_of x y.0 (first _ _ h)))) (below_more e x xs l (second (is_lt (entry_cmp x y.0)) _ h))

pub sorted_more : (x : Entry × PathTree) (es : Entries) → T (is_sorted entry_cmp (x ∷ es)) → T (is_sorted entry_cmp es)
sorted_more x es h = second (below_all entry_cmp x.0 es) _ h

put_first : (e : Entry) (v : PathTree) (es : Entries) → T (below_all entry_cmp e es) → puts e v es ≡ (e, v) ∷ es
put_first e v [] h = refl
put_first e v (x ∷ es) h = ap (λ o. by_order o ((e, v) ∷ x ∷ es) ((x.0, v) ∷ es) (x ∷ puts e v es)) (below_of e x.0 (first _ _ h))

module _ (p : Entry → Bool) where
  below_passed : (e : Entry) (es : Entries) → T (below_all entry_cmp e es) → T (below_all entry_cmp e (passed p es))
  below_passed e [] h = tt
  below_passed e (x ∷ es) h =
      let rest = below_passed e es (second (is_lt (entry_cmp e x.0)) _ h) in
      elim (p x.0) as (λ b. T (below_all entry_cmp e (cond b (x ∷ passed p es) (passed p es)))) [
        | true ↦ both _ _ (first _ _ h) rest
        | false ↦ rest
      ]

  -- ---- one is put

  pub passed-puts : (e : Entry) (v : PathTree) (es : Entries) → T (is_sorted entry_cmp es) → p e ≡ true → passed p (puts e v es) ≡ puts e v (passed p es)
  passed-puts e v [] h is = ap (λ b. cond b ((e, v) ∷ []) []) is
  passed-puts e v (x ∷ es) h is =
      elim (entry_cmp e x.0) as (λ o. entry_cmp e x.0 ≡ o → passed p (by_order o ((e, v) ∷ x ∷ es) ((x.0, v) ∷ es) (x ∷ puts e v es)) ≡ puts e v (cond (p x.0) (x ∷ passed p es) (passed p es))) [
        | Less ↦ λ t.
            let low : T (below_all entry_cmp e (x ∷ es)) = both _ _ (is_less _ t) (below_more e x.0 es t (first _ _ h)) in
            ap (λ b. cond b ((e, v) ∷ passed p (x ∷ es)) (passed p (x ∷ es))) is ∙ sym (put_first e v (passed p (x ∷ es)) (below_passed e (x ∷ es) low))
        | Equal ↦ λ t.
            let here : p x.0 ≡ true = ap p (sym (same_entry e x.0 (ap is_eq t))) ∙ is in
            ap (λ b. cond b ((x.0, v) ∷ passed p es) (passed p es)) here
            ∙ sym (ap (λ b. puts e v (cond b (x ∷ passed p es) (passed p es))) here ∙ ap (λ o. by_order o ((e, v) ∷ x ∷ passed p es) ((x.0, v) ∷ passed p es) (x ∷ puts e v (passed p es))) t)
        | Greater ↦ λ t.
            let rest = passed-puts e v es (sorted_more x es h) is in
            elim (p x.0) as (λ b. cond b (x ∷ passed p (puts e v es)) (passed p (puts e v es)) ≡ puts e v (cond b (x ∷ passed p es) (passed p es))) [
              | true ↦ ap (λ (xs : Entries). x ∷ xs) rest ∙ sym (ap (λ o. by_order o ((e, v) ∷ x ∷ passed p es) ((x.0, v) ∷ passed p es) (x ∷ puts e v (passed p es))) t)
              | false ↦ rest
            ]
      ] refl

  -- and it doesn't pass
  pub passed-puts-beside : (e : Entry) (v : PathTree) (es : Entries) → p e ≡ false → passed p (puts e v es) ≡ passed p es
  passed-puts-beside e v [] is = ap (λ b. cond b ((e, v) ∷ []) []) is
  passed-puts-beside e v (x ∷ es) is =
      elim (entry_cmp e x.0) as (λ o. entry_cmp e x.0 ≡ o → passed p (by_order o ((e, v) ∷ x ∷ es) ((x.0, v) ∷ es) (x ∷ puts e v es)) ≡ cond (p x.0) (x ∷ passed p es) (passed p es)) [
        | Less ↦ λ t. ap (λ b. cond b ((e, v) ∷ passed p (x ∷ es)) (passed p (x ∷ es))) is
        | Equal ↦ λ t.
            let here : p x.0 ≡ false = ap p (sym (same_entry e x.0 (ap is_eq t))) ∙ is in
            ap (λ b. cond b ((x.0, v) ∷ passed p es) (passed p es)) here ∙ sym (ap (λ b. cond b (x ∷ passed p es) (passed p es)) here)
        | Greater ↦ λ t. ap (λ (xs : Entries). cond (p x.0) (x ∷ xs) xs) (passed-puts-beside e v es is)
      ] refl

  -- ---- one is taken out

  -- what passes isn't at an entry that doesn't
  missed : (e : Entry) (x : Entry) → p e ≡ false → p x ≡ true → is_eq (entry_cmp e x) ≡ false
  missed e x is at =
      elim (is_eq (entry_cmp e x)) as (λ b. is_eq (entry_cmp e x) ≡ b → b ≡ false) [
        | true ↦ λ t. let no : true ≡ false = sym at ∙ ap p (sym (same_entry e x t)) ∙ is in cc
        | false ↦ λ t. refl
      ] refl

  pub removed-passed-beside : (e : Entry) (es : Entries) → p e ≡ false → removed e (passed p es) ≡ passed p es
  removed-passed-beside e [] is = refl
  removed-passed-beside e (x ∷ es) is =
      elim (p x.0) as (λ b. p x.0 ≡ b → removed e (cond b (x ∷ passed p es) (passed p es)) ≡ cond b (x ∷ passed p es) (passed p es)) [
        | true ↦ λ t. ap (λ b. cond b (passed p es) (x ∷ removed e (passed p es))) (missed e x.0 is t) ∙ ap (λ (xs : Entries). x ∷ xs) (removed-passed-beside e es is)
        | false ↦ λ t. removed-passed-beside e es is
      ] refl

  pub passed-removed : (e : Entry) (es : Entries) → passed p (removed e es) ≡ removed e (passed p es)
  passed-removed e [] = refl
  passed-removed e (x ∷ es) =
      elim (is_eq (entry_cmp e x.0)) as (λ o. is_eq (entry_cmp e x.0) ≡ o → passed p (cond o es (x ∷ removed e es)) ≡ removed e (cond (p x.0) (x ∷ passed p es) (passed p es))) [
        | true ↦ λ t. elim (p x.0) as (λ b. p x.0 ≡ b → passed p es ≡ removed e (cond b (x ∷ passed p es) (passed p es))) [
          | true ↦ λ s. sym (ap (λ o. cond o (passed p es) (x ∷ removed e (passed p es))) t)
          | false ↦ λ s. sym (removed-passed-beside e es (ap p (same_entry e x.0 t) ∙ s))
        ] refl
        | false ↦ λ t. elim (p x.0) as (λ b. cond b (x ∷ passed p (removed e es)) (passed p (removed e es)) ≡ removed e (cond b (x ∷ passed p es) (passed p es))) [
          | true ↦ ap (λ (xs : Entries). x ∷ xs) (passed-removed e es) ∙ sym (ap (λ o. cond o (passed p es) (x ∷ removed e (passed p es))) t)
          | false ↦ passed-removed e es
        ]
      ] refl

  pub passed-removed-beside : (e : Entry) (es : Entries) → p e ≡ false → passed p (removed e es) ≡ passed p es
  passed-removed-beside e es is = passed-removed e es ∙ removed-passed-beside e es is

  -- ---- one is looked for

  pub there-passed-beside : (e : Entry) (es : Entries) → p e ≡ false → is_there e (passed p es) ≡ false
  there-passed-beside e [] is = refl
  there-passed-beside e (x ∷ es) is =
      elim (p x.0) as (λ b. p x.0 ≡ b → is_there e (cond b (x ∷ passed p es) (passed p es)) ≡ false) [
        | true ↦ λ t. ap (λ o. is_some (cond o (Some x.1) (lookup (is_at (entry_cmp e)) (passed p es)))) (missed e x.0 is t) ∙ there-passed-beside e es is
        | false ↦ λ t. there-passed-beside e es is
      ] refl

  pub there-passed : (e : Entry) (es : Entries) → p e ≡ true → is_there e (passed p es) ≡ is_there e es
  there-passed e [] is = refl
  there-passed e (x ∷ es) is =
      elim (is_eq (entry_cmp e x.0)) as (λ o. is_eq (entry_cmp e x.0) ≡ o → is_there e (cond (p x.0) (x ∷ passed p es) (passed p es)) ≡ is_some (cond o (Some x.1) (lookup (is_at (entry_cmp e)) es))) [
        | true ↦ λ t.
            let here : p x.0 ≡ true = ap p (sym (same_entry e x.0 t)) ∙ is in
            ap (λ b. is_there e (cond b (x ∷ passed p es) (passed p es))) here ∙ ap (λ o. is_some (cond o (Some x.1) (lookup (is_at (entry_cmp e)) (passed p es)))) t
        | false ↦ λ t. elim (p x.0) as (λ b. is_there e (cond b (x ∷ passed p es) (passed p es)) ≡ is_there e es) [
          | true ↦ ap (λ o. is_some (cond o (Some x.1) (lookup (is_at (entry_cmp e)) (passed p es)))) t ∙ there-passed e es is
          | false ↦ there-passed e es is
        ]
      ] refl

-- ---- in a range

pub inside-puts : (r : Range) (e : Entry) (v : PathTree) (es : Entries) → T (is_sorted entry_cmp es) → has r e ≡ true → inside r (puts e v es) ≡ puts e v (inside r es)
inside-puts r e v es h is = passed-puts (has r) e v es h is

pub inside-puts-beside : (r : Range) (e : Entry) (v : PathTree) (es : Entries) → has r e ≡ false → inside r (puts e v es) ≡ inside r es
inside-puts-beside r e v es is = passed-puts-beside (has r) e v es is

pub inside-removes : (r : Range) (e : Entry) (es : Entries) → inside r (removed e es) ≡ removed e (inside r es)
inside-removes r e es = passed-removed (has r) e es

pub inside-removes-beside : (r : Range) (e : Entry) (es : Entries) → has r e ≡ false → inside r (removed e es) ≡ inside r es
inside-removes-beside r e es is = passed-removed-beside (has r) e es is

pub inside-there : (r : Range) (e : Entry) (es : Entries) → has r e ≡ true → is_there e (inside r es) ≡ is_there e es
inside-there r e es is = there-passed (has r) e es is

pub inside-there-beside : (r : Range) (e : Entry) (es : Entries) → has r e ≡ false → is_there e (inside r es) ≡ false
inside-there-beside r e es is = there-passed-beside (has r) e es is

pub inside-append : (r : Range) (es ds : Entries) → inside r (es ++ ds) ≡ inside r es ++ inside r ds
inside-append r es ds = filter-append (λ (e : Entry × PathTree). has r e.0) es ds

-- ---- beside a range

pub outside-puts-beside : (r : Range) (e : Entry) (v : PathTree) (es : Entries) → has r e ≡ true → outside r (puts e v es) ≡ outside r es
outside-puts-beside r e v es is = passed-puts-beside (λ (x : Entry). not (has r x)) e v es (ap not is)

pub outside-removes-beside : (r : Range) (e : Entry) (es : Entries) → has r e ≡ true → outside r (removed e es) ≡ outside r es
outside-removes-beside r e es is = passed-removed-beside (λ (x : Entry). not (has r x)) e es (ap not is)

-- each child is one or the other
pub inside-outside : (r : Range) (es : Entries) → length (inside r es) + length (outside r es) ≡ length es
inside-outside r es = length-filter_both (λ (e : Entry × PathTree). has r e.0) (λ (e : Entry × PathTree). not (has r e.0)) (λ e. refl) es
