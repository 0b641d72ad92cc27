-- Linked children, and the entries and trees that they are.
use Rattle.std.specs.Prelude.{T, IfSome, IfNone}
use Rattle.std.proofs.Common.{◌≡◌, ℕ, suc, true, false, cond, not, [], ◌∷◌, ◌++◌, length, append_assoc, refl, sym, ap, subst, ◌∙◌, Option, Some, None, is_some, ◌<◌, ◌≤◌, ◌-◌, ◌+◌, List, map, take, drop, append-nil, arith, length-append}
use Rattle.std.specs.declared.cmp.Ordering.TheVariants.{Less, Equal, Greater}
use Rattle.std.specs.Ordering.{is_eq, is_le, is_lt, match_ordering}
use Rattle.std.specs.List.{AllByRecursion, filter}
use Rattle.std.specs.List.Sorted.{IsStrictlySortedBy}
use Rattle.std.specs.Option.{option_map}
use Rattle.std.specs.Map.{keys_of, lookup, remove_entry}
use Rattle.std.specs.BTreeMap.{insert_entry, is_at}
use Rattle.std.specs.FinMap as map_of
use Rattle.std.specs.FinMap.Entries.{below_all, by_order, is_sorted}
use Rattle.std.proofs.lemmas.Map.Keys.{sorted_head, sorted_tail}
use Rattle.rt_chain.specs.Chains as chains
use Rattle.rt_chain.specs.Chains.{Chain, all_in, below, half_between, in_half, last_in, last_or, slots_of, head_or}
use Rattle.rt_chain.specs.declared.chain.Half.{Half}
use Rattle.rt_chain.specs.declared.chain.Half.TheVariants.{Front, Behind}
use Rattle.rt_tree.specs.PathTree.{Key, PathTree, both}
use Rattle.rt_order.specs.declared.cut.Range.{Range}
use Rattle.rt_order.specs.Entries.{Entry, entry_cmp}
use Rattle.rt_view.proofs.WindowLaws.{same_entry}
use Rattle.rt_view.specs.declared.window.Child.{Child}
use Rattle.rt_view.specs.inside.ChildChain.{AllMarked, IsMarked, Linked, children_in, halves_of, key_above, last_below, last_child, Backs, Walks, near_cut}
use Rattle.rt_view.specs.inside.Windows.{Entries, GoesAhead, GoesBack, Puts, Taken, half_at, half_in, is_from_first, is_there, is_to_last}
use Rattle.std.proofs.lemmas.List.{drop-map, drop_at, length-drop, length-map, length-take-le, map-append, take-append-drop, take-map}
use Rattle.rt_query.specs.declared.row.Row.{Row}
use Rattle.rt_query.specs.Select.{row_of}

pub children-append : (es ds : Linked) → children_in (es ++ ds) ≡ children_in es ++ children_in ds
children-append [] ds = refl
children-append (e ∷ es) ds = ap (λ (xs : Entries). (e.0, e.1.1.value) ∷ xs) (children-append es ds)

pub children-length : (es : Linked) → length (children_in es) ≡ length es
children-length [] = refl
children-length (e ∷ es) = ap suc (children-length es)

-- all of a chain
pub children-all : (c : Chain Entry Child) → children_in (all_in c) ≡ children_in c.front ++ children_in c.behind
children-all c = children-append c.front c.behind

-- one is put, taken out, or looked for
pub children-insert : (es : Linked) (e : Entry) (p : ℕ × Child) → children_in (insert_entry entry_cmp es e p) ≡ map_of.put entry_cmp e p.1.value (children_in es)
children-insert [] e p = refl
children-insert (x ∷ es) e p =
    elim (entry_cmp e x.0) as (λ o. children_in (match_ordering o ((e, p) ∷ x ∷ es) ((x.0, p) ∷ es) (x ∷ insert_entry entry_cmp es e p))
    ≡ by_order o ((e, p.1.value) ∷ (x.0, x.1.1.value) ∷ children_in es) ((x.0, p.1.value) ∷ children_in es) ((x.0, x.1.1.value) ∷ map_of.put entry_cmp e p.1.value (children_in es))) [
      | Less ↦ refl
      | Equal ↦ refl
      | Greater ↦ ap (λ (xs : Entries). (x.0, x.1.1.value) ∷ xs) (children-insert es e p)
    ]

children-remove : (es : Linked) (e : Entry) → children_in (remove_entry (is_at (entry_cmp e)) es) ≡ remove_entry (is_at (entry_cmp e)) (children_in es)
children-remove [] e = refl
children-remove (x ∷ es) e =
    elim (is_eq (entry_cmp e x.0)) as (λ b. children_in (cond b es (x ∷ remove_entry (is_at (entry_cmp e)) es)) ≡ cond b (children_in es) ((x.0, x.1.1.value) ∷ remove_entry (is_at (entry_cmp e)) (children_in es))) [
      | true ↦ refl
      | false ↦ ap (λ (xs : Entries). (x.0, x.1.1.value) ∷ xs) (children-remove es e)
    ]

pub children-taken : (e : Entry) (old new : Chain Entry Child) → new.front ≡ remove_entry (is_at (entry_cmp e)) old.front → new.behind ≡ remove_entry (is_at (entry_cmp e)) old.behind → Taken e (halves_of old) (halves_of new)
children-taken e old new front behind = (ap children_in front ∙ children-remove old.front e, ap children_in behind ∙ children-remove old.behind e)

pub children-lookup : (es : Linked) (e : Entry) → is_some (lookup (is_at (entry_cmp e)) (children_in es)) ≡ is_some (lookup (is_at (entry_cmp e)) es)
children-lookup [] e = refl
children-lookup (x ∷ es) e =
    elim (is_eq (entry_cmp e x.0)) as (λ b. is_some (cond b (Some x.1.1.value) (lookup (is_at (entry_cmp e)) (children_in es))) ≡ is_some (cond b (Some x.1) (lookup (is_at (entry_cmp e)) es))) [
      | true ↦ refl
      | false ↦ children-lookup es e
    ]

-- ---- marks

pub marked-left : (P : Entry × (ℕ × Child) → Type 0) (es ds : Linked) → AllByRecursion P (es ++ ds) → AllByRecursion P es
marked-left P [] ds h = tt
marked-left P (e ∷ es) ds h = (h.0, marked-left P es ds h.1)

pub marked-right : (P : Entry × (ℕ × Child) → Type 0) (es ds : Linked) → AllByRecursion P (es ++ ds) → AllByRecursion P ds
marked-right P [] ds h = h
marked-right P (e ∷ es) ds h = marked-right P es ds h.1

pub has_names : (from : Range) (es : Linked) → AllByRecursion (IsMarked from) es → AllByRecursion (λ e. e.1.1.key ≡ e.0.1) es
has_names from [] h = tt
has_names from (e ∷ es) h = (h.0.0, has_names from es h.1)

marked-insert : (from : Range) (es : Linked) (e : Entry) (p : ℕ × Child) → IsMarked from (e, p) → AllByRecursion (IsMarked from) es → AllByRecursion (IsMarked from) (insert_entry entry_cmp es e p)
marked-insert from [] e p is h = (is, tt)
marked-insert from (x ∷ es) e p is h =
    elim (entry_cmp e x.0) as (λ o. entry_cmp e x.0 ≡ o → AllByRecursion (IsMarked from) (match_ordering o ((e, p) ∷ x ∷ es) ((x.0, p) ∷ es) (x ∷ insert_entry entry_cmp es e p))) [
      | Less ↦ λ t. (is, h)
      | Equal ↦ λ t. (subst (λ (y : Entry). IsMarked from (y, p)) (same_entry e x.0 (ap is_eq t)) is, h.1)
      | Greater ↦ λ t. (h.0, marked-insert from es e p is h.1)
    ] refl

marked-remove : (from : Range) (es : Linked) (e : Entry) → AllByRecursion (IsMarked from) es → AllByRecursion (IsMarked from) (remove_entry (is_at (entry_cmp e)) es)
marked-remove from [] e h = tt
marked-remove from (x ∷ es) e h =
    elim (is_eq (entry_cmp e x.0)) as (λ b. AllByRecursion (IsMarked from) (cond b es (x ∷ remove_entry (is_at (entry_cmp e)) es))) [
      | true ↦ h.1
      | false ↦ (h.0, marked-remove from es e h.1)
    ]

marked_below : (from : Range) (es : Linked) (e : Entry) → AllByRecursion (IsMarked from) es → AllByRecursion (IsMarked from) (below (entry_cmp e) es)
marked_below from [] e h = tt
marked_below from (x ∷ es) e h =
    elim (is_le (entry_cmp e x.0)) as (λ b. AllByRecursion (IsMarked from) (cond (not b) (x ∷ below (entry_cmp e) es) (below (entry_cmp e) es))) [
      | true ↦ marked_below from es e h.1
      | false ↦ (h.0, marked_below from es e h.1)
    ]

children_below : (es : Linked) (e : Entry) → children_in (below (entry_cmp e) es) ≡ filter (λ (x : Entry × PathTree). not (is_le (entry_cmp e x.0))) (children_in es)
children_below [] e = refl
children_below (x ∷ es) e =
    elim (is_le (entry_cmp e x.0)) as (λ b. children_in (cond (not b) (x ∷ below (entry_cmp e) es) (below (entry_cmp e) es))
    ≡ cond (not b) ((x.0, x.1.1.value) ∷ filter (λ (y : Entry × PathTree). not (is_le (entry_cmp e y.0))) (children_in es)) (filter (λ (y : Entry × PathTree). not (is_le (entry_cmp e y.0))) (children_in es))) [
      | true ↦ children_below es e
      | false ↦ ap (λ (xs : Entries). (x.0, x.1.1.value) ∷ xs) (children_below es e)
    ]

-- the key of a child that lies above the lower cut
abbrev pub key_marked : Option Child → Option Key
key_marked None = None
key_marked (Some c) = cond c.above (Some c.key) None

last_marked : (from : Range) (es : Linked) → AllByRecursion (IsMarked from) es → key_marked (option_map (λ (x : Entry × (ℕ × Child)). x.1.1) (last_in es)) ≡ key_above from (last_child (children_in es))
last_marked from [] h = refl
last_marked from (e ∷ []) h = λ i. cond (h.0.1 i) (Some (h.0.0 i)) None
last_marked from (e ∷ d ∷ es) h = last_marked from (d ∷ es) h.1

marked_before : (from : Range) (es : Linked) (e : Entry) → AllByRecursion (IsMarked from) es → key_marked (option_map (λ (x : Entry × (ℕ × Child)). x.1.1) (last_in (below (entry_cmp e) es))) ≡ key_above from (last_below e (children_in es))
marked_before from es e h = last_marked from (below (entry_cmp e) es) (marked_below from es e h) ∙ ap (λ (xs : Entries). key_above from (last_child xs)) (children_below es e)

-- ---- the halves

pub children-half : (h : Half) (c : Chain Entry Child) → children_in (in_half h c) ≡ half_in h (halves_of c)
children-half Front c = refl
children-half Behind c = refl

pub half-length : (h : Half) (c : Chain Entry Child) → length (in_half h c) ≡ length (half_in h (halves_of c))
half-length Front c = sym (children-length c.front)
half-length Behind c = sym (children-length c.behind)

children_first : (es : Linked) (e : Entry) → chains.is_from_first entry_cmp e es ≡ is_from_first (children_in es) e
children_first [] e = refl
children_first (x ∷ es) e = refl

children_last : (es : Linked) (e : Entry) → chains.is_to_last entry_cmp e es ≡ is_to_last (children_in es) e
children_last [] e = refl
children_last (x ∷ []) e = refl
children_last (x ∷ y ∷ es) e = children_last (y ∷ es) e

pub children-half_at : (e : Entry) (at_cut : Half) (c : Chain Entry Child) → chains.half_at entry_cmp e at_cut c ≡ half_at e at_cut (halves_of c)
children-half_at e at_cut c = ap (λ b. half_between b (chains.is_from_first entry_cmp e c.behind) at_cut) (children_last c.front e)
    ∙ ap (λ b. half_between (is_to_last (children_in c.front) e) b at_cut) (children_first c.behind e)

pub children-puts : (h : Half) (e : Entry) (p : ℕ × Child) (c d : Chain Entry Child) → chains.Puts h entry_cmp e p c d → Puts h e p.1.value (halves_of c) (halves_of d)
children-puts Front e p c d q = (ap children_in q.0 ∙ children-insert c.front e p, ap children_in q.1)
children-puts Behind e p c d q = (ap children_in q.0, ap children_in q.1 ∙ children-insert c.behind e p)

-- all of them
pub all-put : (e : Entry) (p : ℕ × Child) (c d : Chain Entry Child) → all_in d ≡ insert_entry entry_cmp (all_in c) e p
    → children_in d.front ++ children_in d.behind ≡ map_of.put entry_cmp e p.1.value (children_in c.front ++ children_in c.behind)
all-put e p c d whole = sym (children-all d) ∙ ap children_in whole ∙ children-insert (all_in c) e p ∙ ap (map_of.put entry_cmp e p.1.value) (children-all c)

pub all-taken : (e : Entry) (c d : Chain Entry Child) → all_in d ≡ remove_entry (is_at (entry_cmp e)) (all_in c)
    → children_in d.front ++ children_in d.behind ≡ remove_entry (is_at (entry_cmp e)) (children_in c.front ++ children_in c.behind)
all-taken e c d whole = sym (children-all d) ∙ ap children_in whole ∙ children-remove (all_in c) e ∙ ap (remove_entry (is_at (entry_cmp e))) (children-all c)

pub marks-put : (from : Range) (e : Entry) (p : ℕ × Child) (c d : Chain Entry Child) → all_in d ≡ insert_entry entry_cmp (all_in c) e p → IsMarked from (e, p) → AllMarked from c → AllMarked from d
marks-put from e p c d whole is h = subst (AllByRecursion (IsMarked from)) (sym whole) (marked-insert from (all_in c) e p is h)

pub marks-taken : (from : Range) (e : Entry) (c d : Chain Entry Child) → all_in d ≡ remove_entry (is_at (entry_cmp e)) (all_in c) → AllMarked from c → AllMarked from d
marks-taken from e c d whole h = subst (AllByRecursion (IsMarked from)) (sym whole) (marked-remove from (all_in c) e h)

pub children-there : (h : Half) (c : Chain Entry Child) (e : Entry) (o : Option Child) → o ≡ option_map (λ (q : ℕ × Child). q.1) (lookup (is_at (entry_cmp e)) (in_half h c))
    → is_some o ≡ is_there e (half_in h (halves_of c))
children-there h c e o is =
    ap is_some is ∙ mapped (lookup (is_at (entry_cmp e)) (in_half h c)) ∙ sym (children-lookup (in_half h c) e) ∙ ap (λ (es : Entries). is_there e es) (children-half h c)
  where
    mapped : (o : Option (ℕ × Child)) → is_some (option_map (λ (q : ℕ × Child). q.1) o) ≡ is_some o
    mapped None = refl
    mapped (Some q) = refl

pub children-was : (h : Half) (c : Chain Entry Child) (e : Entry) → is_some (lookup (is_at (entry_cmp e)) (in_half h c)) ≡ is_there e (half_in h (halves_of c))
children-was Front c e = sym (children-lookup c.front e)
children-was Behind c e = sym (children-lookup c.behind e)

-- the key of the child of a half before an entry
pub half-before : (from : Range) (h : Half) (c : Chain Entry Child) (e : Entry) → AllMarked from c
    → key_marked (option_map (λ (x : Entry × (ℕ × Child)). x.1.1) (last_in (below (entry_cmp e) (in_half h c)))) ≡ key_above from (last_below e (half_in h (halves_of c)))
half-before from Front c e marks = marked_before from c.front e (marked-left (IsMarked from) c.front c.behind marks)
half-before from Behind c e marks = marked_before from c.behind e (marked-right (IsMarked from) c.front c.behind marks)

-- ---- a child crosses the cut

pub slots_last : (ns : Linked) (x : Entry × (ℕ × Child)) (o : Option ℕ) → last_or o (slots_of (ns ++ x ∷ [])) ≡ Some x.1.0
slots_last [] x o = refl
slots_last (n ∷ ns) x o = slots_last ns x (Some n.1.0)

module _ (from : Range) (c d : Chain Entry Child) (slot : ℕ) where
  pub back_goes : chains.CrossesBack slot c d → AllMarked from c → (last : ℕ) → Some last ≡ last_or None (slots_of c.front) → (child : Option (Key × PathTree))
      → ((fs gs : Linked) (e : Entry) (at : Child) → all_in c ≡ fs ++ (e, (last, at)) ∷ gs → child ≡ Some (at.key, at.value))
      → GoesBack child (halves_of c) (halves_of d)
  back_goes b h last ends child told =
      let here : Some last ≡ Some b.one.1.0 = ends ∙ ap (λ (es : Linked). last_or None (slots_of es)) b.was ∙ slots_last d.front b.one None in
      let same : b.one.1.0 ≡ last = cc in
      let line : all_in c ≡ d.front ++ b.one ∷ c.behind = ap (λ (es : Linked). es ++ c.behind) b.was ∙ append_assoc d.front (b.one ∷ []) c.behind in
      let at : all_in c ≡ d.front ++ (b.one.0, (last, b.one.1.1)) ∷ c.behind = line ∙ (λ i. d.front ++ (b.one.0, (same i, b.one.1.1)) ∷ c.behind) in
      let named : b.one.1.1.key ≡ b.one.0.1 = (marked-right (IsMarked from) d.front (b.one ∷ []) (subst (AllByRecursion (IsMarked from)) b.was (marked-left (IsMarked from) c.front c.behind h))).0.0 in
      subst (λ o. GoesBack o (halves_of c) (halves_of d)) (sym (told d.front c.behind b.one.0 b.one.1.1 at))
      (b.one.0, sym named, ap children_in b.was ∙ children-append d.front (b.one ∷ []), ap children_in b.behind)

  pub ahead_goes : chains.CrossesAhead slot c d → AllMarked from c → (head : ℕ) → Some head ≡ chains.head_or (slots_of c.behind) None → (child : Option (Key × PathTree))
      → ((fs gs : Linked) (e : Entry) (at : Child) → all_in c ≡ fs ++ (e, (head, at)) ∷ gs → child ≡ Some (at.key, at.value))
      → GoesAhead child (halves_of c) (halves_of d)
  ahead_goes b h head begins child told =
      let here : Some head ≡ Some b.one.1.0 = begins ∙ ap (λ (es : Linked). chains.head_or (slots_of es) None) b.was in
      let same : b.one.1.0 ≡ head = cc in
      let at : all_in c ≡ c.front ++ (b.one.0, (head, b.one.1.1)) ∷ d.behind = ap (λ (es : Linked). c.front ++ es) b.was ∙ (λ i. c.front ++ (b.one.0, (same i, b.one.1.1)) ∷ d.behind) in
      let named : b.one.1.1.key ≡ b.one.0.1 = (subst (AllByRecursion (IsMarked from)) b.was (marked-right (IsMarked from) c.front c.behind h)).0.0 in
      subst (λ o. GoesAhead o (halves_of c) (halves_of d)) (sym (told c.front d.behind b.one.0 b.one.1.1 at))
      (b.one.0, sym named, ap children_in b.was, ap children_in b.front ∙ children-append c.front (b.one ∷ []))

-- as an answer has it
pub back_crosses : (from : Range) (c d : Chain Entry Child) (o : Option ℕ) → IfSome o (λ slot. chains.CrossesBack slot c d) → IfNone o (c.front ≡ []) → AllMarked from c
    → (last : ℕ) → Some last ≡ last_or None (slots_of c.front) → (child : Option (Key × PathTree))
    → ((fs gs : Linked) (e : Entry) (at : Child) → all_in c ≡ fs ++ (e, (last, at)) ∷ gs → child ≡ Some (at.key, at.value))
    → GoesBack child (halves_of c) (halves_of d)
back_crosses from c d None some none h last ends child told = let no : Some last ≡ None = ends ∙ ap (λ (es : Linked). last_or None (slots_of es)) none in cc
back_crosses from c d (Some slot) some none h last ends child told = back_goes from c d slot some h last ends child told

pub ahead_crosses : (from : Range) (c d : Chain Entry Child) (o : Option ℕ) → IfSome o (λ slot. chains.CrossesAhead slot c d) → IfNone o (c.behind ≡ []) → AllMarked from c
    → (head : ℕ) → Some head ≡ chains.head_or (slots_of c.behind) None → (child : Option (Key × PathTree))
    → ((fs gs : Linked) (e : Entry) (at : Child) → all_in c ≡ fs ++ (e, (head, at)) ∷ gs → child ≡ Some (at.key, at.value))
    → GoesAhead child (halves_of c) (halves_of d)
ahead_crosses from c d None some none h head begins child told = let no : Some head ≡ None = begins ∙ ap (λ (es : Linked). chains.head_or (slots_of es) None) none in cc
ahead_crosses from c d (Some slot) some none h head begins child told = ahead_goes from c d slot some h head begins child told

-- and all stand where they stood
pub back_all : (c d : Chain Entry Child) (o : Option ℕ) → IfSome o (λ slot. chains.CrossesBack slot c d) → IfNone o (d ≡ c) → all_in d ≡ all_in c
back_all c d None some none = ap (λ (x : Chain Entry Child). all_in x) none
back_all c d (Some slot) b none =
    ap (λ (es : Linked). d.front ++ es) b.behind ∙ sym (append_assoc d.front (b.one ∷ []) c.behind) ∙ ap (λ (es : Linked). es ++ c.behind) (sym b.was)

pub ahead_all : (c d : Chain Entry Child) (o : Option ℕ) → IfSome o (λ slot. chains.CrossesAhead slot c d) → IfNone o (d ≡ c) → all_in d ≡ all_in c
ahead_all c d None some none = ap (λ (x : Chain Entry Child). all_in x) none
ahead_all c d (Some slot) b none =
    ap (λ (es : Linked). es ++ d.behind) b.front ∙ append_assoc c.front (b.one ∷ []) d.behind ∙ ap (λ (es : Linked). c.front ++ es) (sym b.was)

-- nothing to cross
pub no_last : (c : Chain Entry Child) → None ≡ last_or None (slots_of c.front) → c.front ≡ []
no_last c none = at c.front none
  where
    some : (es : Linked) (n : ℕ) → None ≡ last_or (Some n) (slots_of es) → ⊥
    some [] n h = cc
    some (e ∷ es) n h = some es e.1.0 h

    at : (es : Linked) → None ≡ last_or None (slots_of es) → es ≡ []
    at [] h = refl
    at (e ∷ es) h = absurd (some es e.1.0 h)

pub no_first : (c : Chain Entry Child) → None ≡ chains.head_or (slots_of c.behind) None → c.behind ≡ []
no_first c none = at c.behind none
  where
    at : (es : Linked) → None ≡ chains.head_or (slots_of es) None → es ≡ []
    at [] h = refl
    at (e ∷ es) h = cc

pub empty_front : (c : Chain Entry Child) → c.front ≡ [] → GoesBack None (halves_of c) (halves_of c)
empty_front c none = (ap children_in none, refl)

pub empty_behind : (c : Chain Entry Child) → c.behind ≡ [] → GoesAhead None (halves_of c) (halves_of c)
empty_behind c none = (ap children_in none, refl)

-- ---- no children

-- ---- in order

linked_below : (e : Entry) (es : Linked) → AllByRecursion (λ y. entry_cmp e y ≡ Less) (keys_of es) → T (below_all entry_cmp e (children_in es))
linked_below e [] h = tt
linked_below e (x ∷ es) h = both _ _ (subst (λ o. T (is_lt o)) (sym h.0) tt) (linked_below e es h.1)

linked_rise : (es : Linked) → IsStrictlySortedBy entry_cmp (keys_of es) → T (is_sorted entry_cmp (children_in es))
linked_rise [] h = tt
linked_rise (x ∷ es) h = both _ _ (linked_below x.0 es (sorted_head entry_cmp x.0 (keys_of es) h)) (linked_rise es (sorted_tail entry_cmp x.0 (keys_of es) h))

pub chain_rises : (c : Chain Entry Child) → IsStrictlySortedBy entry_cmp (keys_of (all_in c)) → T (is_sorted entry_cmp (children_in c.front ++ children_in c.behind))
chain_rises c h = subst (λ (es : Entries). T (is_sorted entry_cmp es)) (children-all c) (linked_rise (all_in c) h)

-- ---- backwards

pub back_begins : (all : Linked) (previous : Option ℕ) → previous ≡ last_or None (slots_of all) → Backs all 0 None previous
back_begins all previous is = record { before = all; behind = []; whole = sym (append-nil all); count = refl; first = refl; next = is }

-- the last of some
ends : (es : Linked) (n : ℕ) → last_or None (slots_of es) ≡ Some n → (ds : Linked) × ((x : Entry × (ℕ × Child)) × ((es ≡ ds ++ x ∷ []) × (x.1.0 ≡ n)))
ends [] n h = cc
ends (e ∷ es) n h = at e es h
  where
    at : (e : Entry × (ℕ × Child)) (es : Linked) → last_or (Some e.1.0) (slots_of es) ≡ Some n → (ds : Linked) × ((x : Entry × (ℕ × Child)) × ((e ∷ es ≡ ds ++ x ∷ []) × (x.1.0 ≡ n)))
    at e [] h = let same : e.1.0 ≡ n = cc in ([], (e, (refl, same)))
    at e (d ∷ es) h = let r = at d es h in (e ∷ r.0, (r.1.0, (ap (λ (xs : Linked). e ∷ xs) r.1.1.0, r.1.1.1)))

-- one more
pub back_more : (c : Chain Entry Child) (number : ℕ) (slot previous later : Option ℕ) (here : ℕ) → Backs c.front number slot previous → previous ≡ Some here
    → ((fs gs : Linked) (e : Entry) (at : Child) → all_in c ≡ fs ++ (e, (here, at)) ∷ gs → later ≡ last_or None (slots_of fs))
    → Backs c.front (number + 1) previous later
back_more c number slot previous later here b is told =
    let r = ends b.before here (sym b.next ∙ is) in
    let x = r.1.0 in
    let whole : c.front ≡ r.0 ++ x ∷ b.behind = b.whole ∙ ap (λ (es : Linked). es ++ b.behind) r.1.1.0 ∙ append_assoc r.0 (x ∷ []) b.behind in
    let line : all_in c ≡ r.0 ++ x ∷ (b.behind ++ c.behind) = ap (λ (es : Linked). es ++ c.behind) whole ∙ append_assoc r.0 (x ∷ b.behind) c.behind in
    let at : all_in c ≡ r.0 ++ (x.0, (here, x.1.1)) ∷ (b.behind ++ c.behind) = line ∙ (λ i. r.0 ++ (x.0, (r.1.1.1 i, x.1.1)) ∷ (b.behind ++ c.behind)) in
    record {
      before = r.0;
      behind = x ∷ b.behind;
      whole = whole;
      count = omega (arith, b.count);
      first = is ∙ ap (λ (n : ℕ). Some n) (sym r.1.1.1);
      next = told r.0 (b.behind ++ c.behind) x.0 x.1.1 at;
    }

-- so many end the list
pub back_done : (all : Linked) (number : ℕ) (slot previous : Option ℕ) → Backs all number slot previous → slot ≡ head_or (slots_of (near_cut Front number all)) None
back_done all number slot previous b =
    let cut : length b.before ≡ length all - number = omega (arith, b.count, ap (λ (es : Linked). length es) b.whole, length-append b.before b.behind) in
    let same : drop (length all - number) all ≡ b.behind = ap (drop (length all - number)) b.whole ∙ drop_at b.before b.behind (length all - number) cut in
    b.first ∙ ap (λ (es : Linked). head_or (slots_of es) None) (sym same)

-- and there are so many
pub back_on : (all : Linked) (number : ℕ) (slot previous : Option ℕ) → Backs all number slot previous → number < length all → previous ≡ None → ⊥
back_on all number slot previous b fewer none = at b.before b.whole (sym b.next ∙ none)
  where
    some : (es : Linked) (n : ℕ) → last_or (Some n) (slots_of es) ≡ None → ⊥
    some [] n h = cc
    some (e ∷ es) n h = some es e.1.0 h

    at : (before : Linked) → all ≡ before ++ b.behind → last_or None (slots_of before) ≡ None → ⊥
    at [] whole h = absurd (omega (arith, fewer, b.count, ap (λ (es : Linked). length es) whole))
    at (e ∷ es) whole h = some es e.1.0 h

-- ---- forwards

-- so many next to the cut
pub near_length : (h : Half) (n : ℕ) (es : Linked) → n ≤ length es → length (near_cut h n es) ≡ n
near_length Front n es many = omega (arith, many, length-drop (length es - n) es)
near_length Behind n es many = length-take-le n es many

front_near : (n : ℕ) (all : Linked) (next : Option ℕ) → next ≡ head_or (slots_of (near_cut Front n all)) None → (e : Entry) (p : ℕ × Child) (es : Linked) → near_cut Front n all ≡ (e, p) ∷ es → next ≡ Some p.0
front_near n all next is e p es whole = is ∙ ap (λ (xs : Linked). head_or (slots_of xs) None) whole

behind_near : (n : ℕ) (all : Linked) (next : Option ℕ) → next ≡ head_or (slots_of all) None → (e : Entry) (p : ℕ × Child) (es : Linked) → near_cut Behind n all ≡ (e, p) ∷ es → next ≡ Some p.0
behind_near n all next is e p es whole =
    is ∙ ap (λ (xs : Linked). head_or (slots_of xs) None) (sym (take-append-drop n all) ∙ ap (λ (xs : Linked). xs ++ drop n all) whole)

pub front_leads : (h : Half) → h ≡ Front → (n : ℕ) (c : Chain Entry Child) (next : Option ℕ) → next ≡ head_or (slots_of (near_cut Front n c.front)) None
    → (e : Entry) (p : ℕ × Child) (es : Linked) → near_cut h n (in_half h c) ≡ (e, p) ∷ es → next ≡ Some p.0
front_leads h is n c next at =
    subst (λ (k : Half). (e : Entry) (p : ℕ × Child) (es : Linked) → near_cut k n (in_half k c) ≡ (e, p) ∷ es → next ≡ Some p.0) (sym is) (front_near n c.front next at)

pub behind_leads : (h : Half) → h ≡ Behind → (n : ℕ) (c : Chain Entry Child) (next : Option ℕ) → next ≡ head_or (slots_of c.behind) None
    → (e : Entry) (p : ℕ × Child) (es : Linked) → near_cut h n (in_half h c) ≡ (e, p) ∷ es → next ≡ Some p.0
behind_leads h is n c next at =
    subst (λ (k : Half). (e : Entry) (p : ℕ × Child) (es : Linked) → near_cut k n (in_half k c) ≡ (e, p) ∷ es → next ≡ Some p.0) (sym is) (behind_near n c.behind next at)

pub walk_begins : (all : Linked) (next : Option ℕ) → ((e : Entry) (p : ℕ × Child) (es : Linked) → all ≡ (e, p) ∷ es → next ≡ Some p.0) → Walks all [] next
walk_begins all next h = record { done = []; left = all; whole = refl; told = refl; leads = h }

-- one of those next to the cut stands among all
pub among : (h : Half) (n : ℕ) (c : Chain Entry Child) (fs gs : Linked) (x : Entry × (ℕ × Child)) → near_cut h n (in_half h c) ≡ fs ++ x ∷ gs → (ds : Linked) × ((es : Linked) × (all_in c ≡ ds ++ x ∷ (gs ++ es)))
among Front n c fs gs x is =
    let m = length c.front - n in
    let front : c.front ≡ take m c.front ++ (fs ++ x ∷ gs) = sym (take-append-drop m c.front) ∙ ap (λ (xs : Linked). take m c.front ++ xs) is in
    let line : c.front ≡ (take m c.front ++ fs) ++ x ∷ gs = front ∙ sym (append_assoc (take m c.front) fs (x ∷ gs)) in
    (take m c.front ++ fs, (c.behind, ap (λ (xs : Linked). xs ++ c.behind) line ∙ append_assoc (take m c.front ++ fs) (x ∷ gs) c.behind))
among Behind n c fs gs x is =
    let behind : c.behind ≡ (fs ++ x ∷ gs) ++ drop n c.behind = sym (take-append-drop n c.behind) ∙ ap (λ (xs : Linked). xs ++ drop n c.behind) is in
    let line : c.behind ≡ fs ++ x ∷ (gs ++ drop n c.behind) = behind ∙ append_assoc fs (x ∷ gs) (drop n c.behind) in
    (c.front ++ fs, (drop n c.behind, ap (λ (xs : Linked). c.front ++ xs) line ∙ sym (append_assoc c.front fs (x ∷ (gs ++ drop n c.behind)))))

rows_length : (es : Linked) → length (map row_of (children_in es)) ≡ length es
rows_length es = length-map (children_in es) row_of ∙ children-length es

-- fewer rows than children: there is a next one
pub record Next (all : Linked) (rows : List Row) (next : Option ℕ) : Type 0 where
  pub done : Linked
  pub x : Entry × (ℕ × Child)
  pub left : Linked
  pub whole : all ≡ done ++ x ∷ left
  pub told : rows ≡ map row_of (children_in done)
  pub is : next ≡ Some x.1.0

pub walk_next : (all : Linked) (rows : List Row) (next : Option ℕ) → Walks all rows next → length rows < length all → Next all rows next
walk_next all rows next w fewer = at w.left w.whole w.leads
  where
    at : (left : Linked) → all ≡ w.done ++ left → ((e : Entry) (p : ℕ × Child) (es : Linked) → left ≡ (e, p) ∷ es → next ≡ Some p.0) → Next all rows next
    at [] whole leads = absurd (omega (arith, fewer, ap (λ (rs : List Row). length rs) w.told, rows_length w.done, ap (λ (xs : Linked). length xs) (whole ∙ append-nil w.done)))
    at (x ∷ es) whole leads = record { done = w.done; x = x; left = es; whole = whole; told = w.told; is = leads x.0 x.1 es refl }

-- one row more
pub walk_more : (all : Linked) (rows more : List Row) (next later : Option ℕ) (n : Next all rows next) (es : Linked) → n.x.1.1.key ≡ n.x.0.1 → more ≡ rows ++ record { key = n.x.1.1.key; value = n.x.1.1.value } ∷ []
    → later ≡ head_or (slots_of (n.left ++ es)) None → Walks all more later
walk_more all rows more next later n es named is leads = record {
  done = n.done ++ n.x ∷ [];
  left = n.left;
  whole = n.whole ∙ sym (append_assoc n.done (n.x ∷ []) n.left);
  told = is ∙ ap (λ (rs : List Row). rs ++ record { key = n.x.1.1.key; value = n.x.1.1.value } ∷ []) n.told ∙ ap (λ (r : Row). map row_of (children_in n.done) ++ r ∷ []) (λ i. record { key = named i; value = n.x.1.1.value })
      ∙ sym (ap (map row_of) (children-append n.done (n.x ∷ [])) ∙ map-append row_of (children_in n.done) (children_in (n.x ∷ [])));
  leads = λ e p ds h. leads ∙ ap (λ (xs : Linked). head_or (slots_of (xs ++ es)) None) h;
}

-- all are rows
pub walk_done : (all : Linked) (rows : List Row) (next : Option ℕ) → Walks all rows next → (length rows < length all → ⊥) → rows ≡ map row_of (children_in all)
walk_done all rows next w full = at w.left w.whole
  where
    at : (left : Linked) → all ≡ w.done ++ left → rows ≡ map row_of (children_in all)
    at [] whole = w.told ∙ ap (λ (xs : Linked). map row_of (children_in xs)) (sym (whole ∙ append-nil w.done))
    at (x ∷ es) whole = absurd (full (omega (arith, ap (λ (rs : List Row). length rs) w.told, rows_length w.done, ap (λ (xs : Linked). length xs) whole, length-append w.done (x ∷ es))))

-- and the walk doesn't end before
pub walk_on : (all : Linked) (rows : List Row) (next : Option ℕ) → Walks all rows next → length rows < length all → next ≡ None → ⊥
walk_on all rows next w fewer none = let n = walk_next all rows next w fewer in cc (n.is, none)

-- ---- as children

near_children : (h : Half) (n : ℕ) (es : Linked) → children_in (near_cut h n es) ≡ near_cut h n (children_in es)
near_children Front n es =
    sym (drop-map (λ (e : Entry × (ℕ × Child)). (e.0, e.1.1.value)) (length es - n) es) ∙ ap (λ (m : ℕ). drop (m - n) (children_in es)) (sym (children-length es))
near_children Behind n es = sym (take-map (λ (e : Entry × (ℕ × Child)). (e.0, e.1.1.value)) n es)

pub near-half : (h : Half) (n : ℕ) (c : Chain Entry Child) → children_in (near_cut h n (in_half h c)) ≡ near_cut h n (half_in h (halves_of c))
near-half Front n c = near_children Front n c.front
near-half Behind n c = near_children Behind n c.behind
