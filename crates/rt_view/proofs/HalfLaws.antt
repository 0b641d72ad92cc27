-- A window in two halves, when a child is put or taken out, and when another one crosses the cut for it.
use Rattle.std.specs.Prelude.{T, min}
use Rattle.std.proofs.Common.{◌≡◌, ℕ, ◌+◌, ◌-◌, ◌≤◌, Bool, true, false, cond, not, [], ◌∷◌, ◌++◌, length, ltb-false, ltb-true, refl, sym, ap, subst, ◌∙◌, arith, append-nil, append_assoc, length-append, Option, Some, None, is_some}
use Rattle.std.specs.Ordering.{is_eq, eq_by_cmp}
use Rattle.std.specs.Cmp.{tied_itself}
use Rattle.std.specs.FinMap as map_of
use Rattle.std.specs.FinMap.Entries.{find, find-put, is_sorted, is_sorted-put, is_sorted-where_key, length-put, length_without}
use Rattle.std.proofs.lemmas.List.{drop_at, length-drop, length-take, take_at, take_min}
use Rattle.rt_chain.specs.Chains.{is_half}
use Rattle.rt_chain.specs.declared.chain.Half.{Half}
use Rattle.rt_chain.specs.declared.chain.Half.TheVariants.{Front, Behind}
use Rattle.rt_tree.specs.PathTree.{Key, PathTree}
use Rattle.rt_order.specs.Entries.{Entry, entry_cmp}
use Rattle.rt_order.specs.laws.EntryOrder.{entry_cmp_total}
use Rattle.rt_query.specs.declared.query.Limit.{Limit}
use Rattle.rt_query.specs.declared.query.Limit.TheVariants.{First, Last}
use Rattle.rt_query.specs.Select.{limited}
use Rattle.rt_view.specs.inside.Ranged.{Halved}
use Rattle.rt_view.specs.inside.Turns.{Refilled, Refills, Spilled}
use Rattle.rt_view.specs.inside.Windows.{Entries, Goes, Had, IsWindow, Puts, Taken, half_in, half_of, is_over, is_there, joined, other_half, rest_from, shown_from, without}
use Rattle.rt_view.proofs.Orderings.{find_lookup}
use Rattle.rt_view.proofs.WindowLaws.{between_parts, missed_below, hit_below, remove_entry-without, sorted-left, sorted-right, without-append, without-missed}

abbrev puts : Entry → PathTree → Entries → Entries
puts e v es = map_of.put entry_cmp e v es

abbrev Rises : Entries → Type 0
Rises es = T (is_sorted entry_cmp es)

-- all that a window has, under a limit
abbrev pub has : Option Limit → Halved → Entries
has m c = joined m (shown_from m c) (rest_from m c)

-- and a window of these children
abbrev pub Is : Option Limit → Halved → Entries → Type 0
Is m c all = IsWindow m (shown_from m c) (rest_from m c) all

abbrev pub Whole : Option Limit → Halved → Type 0
Whole m c = Is m c (has m c)

pub has_both : (m : Option Limit) (c : Halved) → has m c ≡ c.0 ++ c.1
has_both None c = refl
has_both (Some (First n)) c = refl
has_both (Some (Last n)) c = refl

-- ---- how many are shown of how many

abbrev Fits : Option Limit → ℕ → ℕ → Type 0
Fits None s r = r ≡ 0
Fits (Some (First n)) s r = s ≡ min n (s + r)
Fits (Some (Last n)) s r = s ≡ min n (s + r)

abbrev Counts : Option Limit → Halved → Type 0
Counts m c = Fits m (length (shown_from m c)) (length (rest_from m c))

counts : (m : Option Limit) (c : Halved) → limited m (c.0 ++ c.1) ≡ shown_from m c → Counts m c
counts None c e = omega (arith, ap (λ (es : Entries). length es) e, length-append c.0 c.1)
counts (Some (First n)) c e = omega (arith, ap (λ (es : Entries). length es) e, length-take n (c.0 ++ c.1), length-append c.0 c.1)
counts (Some (Last n)) c e = omega (arith, ap (λ (es : Entries). length es) e, length-drop (length (c.0 ++ c.1) - n) (c.0 ++ c.1), length-append c.0 c.1)

no_length : (es : Entries) → length es ≡ 0 → es ≡ []
no_length [] h = refl
no_length (x ∷ es) h = absurd (omega (arith, h))

cut : (m : Option Limit) (c : Halved) → Counts m c → limited m (c.0 ++ c.1) ≡ shown_from m c
cut None c f = ap (λ (es : Entries). c.0 ++ es) (no_length c.1 f) ∙ append-nil c.0
cut (Some (First n)) c f = sym (take_min n (c.0 ++ c.1)) ∙ take_at c.0 c.1 (min n (length (c.0 ++ c.1))) (omega (arith, f, length-append c.0 c.1))
cut (Some (Last n)) c f = drop_at c.0 c.1 (length (c.0 ++ c.1) - n) (omega (arith, f, length-append c.0 c.1))

window : (m : Option Limit) (c : Halved) (all : Entries) → Rises all → c.0 ++ c.1 ≡ all → Counts m c → Is m c all
window m c all up whole f = record { rises = up; whole = has_both m c ∙ whole; cut = ap (limited m) (sym whole) ∙ cut m c f }

counted : (m : Option Limit) (c : Halved) → Whole m c → Counts m c
counted m c w = counts m c (ap (limited m) (sym (has_both m c)) ∙ w.cut)

rising : (m : Option Limit) (c : Halved) → Whole m c → Rises (c.0 ++ c.1)
rising m c w = subst Rises (has_both m c) w.rises

-- some are left, so any more may be
fits_rest : (m : Option Limit) (s r t : ℕ) → Fits m s r → 1 ≤ r → Fits m s t
fits_rest None s r t f some = absurd (omega (arith, f, some))
fits_rest (Some (First n)) s r t f some = omega (arith, f, some)
fits_rest (Some (Last n)) s r t f some = omega (arith, f, some)

fits_less : (m : Option Limit) (s r t : ℕ) → Fits m s r → t ≤ r → Fits m s t
fits_less None s r t f less = omega (arith, f, less)
fits_less (Some (First n)) s r t f less = omega (arith, f, less)
fits_less (Some (Last n)) s r t f less = omega (arith, f, less)

fits_none : (m : Option Limit) (s r t : ℕ) → Fits m s r → r ≡ 0 → t ≤ s → Fits m t r
fits_none None s r t f none less = f
fits_none (Some (First n)) s r t f none less = omega (arith, f, none, less)
fits_none (Some (Last n)) s r t f none less = omega (arith, f, none, less)

fits_more : (m : Option Limit) (s r t : ℕ) → Fits m s r → s ≤ t → is_over m t ≡ false → Fits m t r
fits_more None s r t f more short = f
fits_more (Some (First n)) s r t f more short = omega (arith, f, more, ltb-false n t short)
fits_more (Some (Last n)) s r t f more short = omega (arith, f, more, ltb-false n t short)

-- one too many is shown, and crosses
fits_over : (m : Option Limit) (s r t : ℕ) → Fits m s r → t + 1 ≤ s + 1 → is_over m (t + 1) ≡ true → Fits m t (r + 1)
fits_over None s r t f more long = cc
fits_over (Some (First n)) s r t f more long = omega (arith, f, more, ltb-true n (t + 1) long)
fits_over (Some (Last n)) s r t f more long = omega (arith, f, more, ltb-true n (t + 1) long)

over_some : (m : Option Limit) (n : ℕ) → is_over m n ≡ true → 1 ≤ n
over_some None n h = cc
over_some (Some (First k)) n h = omega (arith, ltb-true k n h)
over_some (Some (Last k)) n h = omega (arith, ltb-true k n h)

-- ---- in a half

twice : (h : Half) → other_half (other_half h) ≡ h
twice Front = refl
twice Behind = refl

pub same_half : (a h : Half) → is_half a (Some h) ≡ true → h ≡ a
same_half Front Front e = refl
same_half Front Behind e = cc
same_half Behind Front e = cc
same_half Behind Behind e = refl

other_is : (a h : Half) → is_half a (Some h) ≡ false → h ≡ other_half a
other_is Front Front e = cc
other_is Front Behind e = refl
other_is Behind Front e = refl
other_is Behind Behind e = cc

half_rises : (h : Half) (c : Halved) → Rises (c.0 ++ c.1) → Rises (half_in h c)
half_rises Front c up = sorted-left c.0 c.1 up
half_rises Behind c up = sorted-right c.0 c.1 up

-- no entry stands in both
once : (e : Entry) (h : Half) (c : Halved) → Rises (c.0 ++ c.1) → is_there e (half_in h c) ≡ true → is_there e (half_in (other_half h) c) ≡ false
once e Front c up there = missed_below e c.1 (hit_below e c.0 c.1 up there)
once e Behind c up there =
    elim (is_there e c.0) as (λ b. is_there e c.0 ≡ b → b ≡ false) [
      | true ↦ λ t. let no : true ≡ false = sym there ∙ missed_below e c.1 (hit_below e c.0 c.1 up t) in cc
      | false ↦ λ t. refl
    ] refl

-- ---- a child is put

length-puts : (e : Entry) (v : PathTree) (es : Entries) → Rises es → (length es ≤ length (puts e v es)) × (length (puts e v es) ≤ length es + 1)
length-puts e v es up = at (is_some (find entry_cmp e es)) (length-put entry_cmp entry_cmp_total e v es up)
  where
    at : (b : Bool) → length (puts e v es) ≡ cond b (length es) (length es + 1) → (length es ≤ length (puts e v es)) × (length (puts e v es) ≤ length es + 1)
    at true h = (omega (arith, h), omega (arith, h))
    at false h = (omega (arith, h), omega (arith, h))

is_put : (e : Entry) (v : PathTree) (es : Entries) → is_there e (puts e v es) ≡ true
is_put e v es =
    ap is_some (find_lookup (puts e v es) e ∙ find-put entry_cmp entry_cmp_total e e v es) ∙ ap (λ o. is_some (cond (is_eq o) (Some v) (find entry_cmp e es))) (tied_itself entry_cmp_total e)

put_into : (h : Half) (e : Entry) (v : PathTree) (c d : Halved) → Puts h e v c d → (half_in h d ≡ puts e v (half_in h c)) × (half_in (other_half h) d ≡ half_in (other_half h) c)
put_into Front e v c d q = q
put_into Behind e v c d q = (q.1, q.0)

-- a child is put into a window, which then has all with it, and comes to be shown
pub record Landed (m : Option Limit) (e : Entry) (v : PathTree) (c d : Halved) : Type 0 where
  pub before : Whole m c
  pub whole : d.0 ++ d.1 ≡ puts e v (c.0 ++ c.1)
  pub shown : shown_from m d ≡ puts e v (shown_from m c)
  pub rest : rest_from m d ≡ rest_from m c

-- or goes to the rest
pub record Passed (m : Option Limit) (e : Entry) (v : PathTree) (c d : Halved) : Type 0 where
  pub is : Is m d (puts e v (has m c))
  pub apart : is_there e (shown_from m c) ≡ false
  pub shown : shown_from m d ≡ shown_from m c

module _ (m : Option Limit) (e : Entry) (v : PathTree) (c d : Halved) (w : Whole m c) (whole : d.0 ++ d.1 ≡ puts e v (c.0 ++ c.1)) where
  all_with : d.0 ++ d.1 ≡ puts e v (has m c)
  all_with = whole ∙ ap (puts e v) (sym (has_both m c))

  all_rise : Rises (puts e v (has m c))
  all_rise = is_sorted-put entry_cmp entry_cmp_total e v (has m c) w.rises

  pub landed : (h s : Half) → s ≡ half_of m → is_half s (Some h) ≡ true → Puts h e v c d → Landed m e v c d
  landed h s is hit q =
      let at = put_into (half_of m) e v c d (subst (λ (x : Half). Puts x e v c d) (same_half s h hit ∙ is) q) in
      record { before = w; whole = whole; shown = at.0; rest = at.1 }

  pub passed : (h s : Half) → s ≡ half_of m → is_half s (Some h) ≡ false → 1 ≤ length (half_in h c) → Puts h e v c d → Passed m e v c d
  passed h s is missed some q =
      let other : h ≡ other_half (half_of m) = other_is s h missed ∙ ap other_half is in
      let at = put_into (other_half (half_of m)) e v c d (subst (λ (x : Half). Puts x e v c d) other q) in
      let stays : shown_from m d ≡ shown_from m c = subst (λ (x : Half). half_in x d ≡ half_in x c) (twice (half_of m)) at.1 in
      let left : 1 ≤ length (rest_from m c) = subst (λ (x : Half). 1 ≤ length (half_in x c)) other some in
      let there : is_there e (rest_from m d) ≡ true = ap (is_there e) at.0 ∙ is_put e v (rest_from m c) in
      let unseen = once e (other_half (half_of m)) d (subst Rises (sym all_with) all_rise) there in
      record {
        is = window m d (puts e v (has m c)) all_rise all_with (subst (λ (es : Entries). Fits m (length es) (length (rest_from m d))) (sym stays) (fits_rest m _ _ (length (rest_from m d)) (counted m c w) left));
        apart = ap (is_there e) (sym stays) ∙ subst (λ (x : Half). is_there e (half_in x d) ≡ false) (twice (half_of m)) unseen;
        shown = stays;
      }

-- ---- a child crosses the cut

goes_all : (h : Half) (o : Option (Key × PathTree)) (d g : Halved) → Goes h o d g → g.0 ++ g.1 ≡ d.0 ++ d.1
goes_all Front None d g q = ap (λ (x : Halved). x.0 ++ x.1) q.1
goes_all Behind None d g q = ap (λ (x : Halved). x.0 ++ x.1) q.1
goes_all Front (Some k) d g q = ap (λ (es : Entries). g.0 ++ es) q.3 ∙ sym (append_assoc g.0 ((q.0, k.1) ∷ []) d.1) ∙ ap (λ (es : Entries). es ++ d.1) (sym q.2)
goes_all Behind (Some k) d g q = ap (λ (es : Entries). es ++ g.1) q.3 ∙ append_assoc d.0 ((q.0, k.1) ∷ []) g.1 ∙ ap (λ (es : Entries). d.0 ++ es) (sym q.2)

goes_none : (h : Half) (d g : Halved) → Goes h None d g → (half_in h d ≡ []) × (g ≡ d)
goes_none Front d g q = q
goes_none Behind d g q = q

goes_one : (h : Half) (k : Key × PathTree) (d g : Halved) → Goes h (Some k) d g → (length (half_in h d) ≡ length (half_in h g) + 1) × (length (half_in (other_half h) g) ≡ length (half_in (other_half h) d) + 1)
goes_one Front k d g q = (omega (arith, ap (λ (es : Entries). length es) q.2, length-append g.0 ((q.0, k.1) ∷ [])), omega (arith, ap (λ (es : Entries). length es) q.3))
goes_one Behind k d g q = (omega (arith, ap (λ (es : Entries). length es) q.2), omega (arith, ap (λ (es : Entries). length es) q.3, length-append d.0 ((q.0, k.1) ∷ [])))

-- out of those of its half, and to those of the other one
goes_out : (h : Half) (k : Key × PathTree) (d g : Halved) → Rises (half_in h d) → Goes h (Some k) d g → Spilled (Some k) (half_in h d) (half_in h g)
goes_out Front k d g up q =
    let p : Entry × PathTree = (q.0, k.1) in
    let parts = between_parts g.0 p [] (subst Rises q.2 up) in
    (q.0, q.1, ap (find entry_cmp q.0) q.2 ∙ parts.found, sym (ap (without q.0) q.2 ∙ parts.gone ∙ append-nil g.0))
goes_out Behind k d g up q =
    let parts = between_parts [] (q.0, k.1) g.1 (subst Rises q.2 up) in
    (q.0, q.1, ap (find entry_cmp q.0) q.2 ∙ parts.found, sym (ap (without q.0) q.2 ∙ parts.gone))

goes_in : (h : Half) (k : Key × PathTree) (d g : Halved) → Rises (half_in h d) → Rises (half_in (other_half h) g) → Goes h (Some k) d g → Refilled (Some k) (half_in h d) (half_in (other_half h) d) (half_in (other_half h) g)
unfolding goes_out
goes_in Front k d g up high q =
    (q.0, q.1, (goes_out Front k d g up q).2, q.3 ∙ sym (between_parts [] (q.0, k.1) d.1 (subst Rises q.3 high)).back)
goes_in Behind k d g up high q =
    let parts = between_parts d.0 (q.0, k.1) [] (subst Rises q.3 high) in
    (q.0, q.1, (goes_out Behind k d g up q).2, q.3 ∙ sym parts.back ∙ ap (puts q.0 k.1) (append-nil d.0))

module _ (m : Option Limit) (e : Entry) (v : PathTree) (c d : Halved) (l : Landed m e v c d) where
  longer : (length (shown_from m c) ≤ length (shown_from m d)) × (length (shown_from m d) ≤ length (shown_from m c) + 1)
  longer =
      let more = length-puts e v (shown_from m c) (half_rises (half_of m) c (rising m c l.before)) in
      subst (λ (es : Entries). (length (shown_from m c) ≤ length es) × (length es ≤ length (shown_from m c) + 1)) (sym l.shown) more

  counts_in : (t : ℕ) → Fits m t (length (rest_from m c)) → Fits m t (length (rest_from m d))
  counts_in t f = subst (λ (es : Entries). Fits m t (length es)) (sym l.rest) f

  -- and no other one goes for it
  pub came : is_over m (length (shown_from m d)) ≡ false → Is m d (puts e v (has m c))
  unfolding longer
  came short =
      window m d (puts e v (has m c)) (all_rise m e v c d l.before l.whole) (all_with m e v c d l.before l.whole)
      (counts_in (length (shown_from m d)) (fits_more m (length (shown_from m c)) (length (rest_from m c)) (length (shown_from m d)) (counted m c l.before) longer.0 short))

  -- or the child next to the cut does
  pub spilt : (o : Option (Key × PathTree)) (g : Halved) → is_over m (length (shown_from m d)) ≡ true → Goes (half_of m) o d g
      → Is m g (puts e v (has m c)) × Spilled o (puts e v (shown_from m c)) (shown_from m g)
  spilt None g long goes = absurd (omega (arith, over_some m (length (shown_from m d)) long, ap (λ (es : Entries). length es) (goes_none (half_of m) d g goes).0))
  spilt (Some k) g long goes =
      let up = all_rise m e v c d l.before l.whole in
      let one = goes_one (half_of m) k d g goes in
      let fits = fits_over m (length (shown_from m c)) (length (rest_from m c)) (length (shown_from m g)) (counted m c l.before) (omega (arith, one.0, longer.1)) (ap (is_over m) (sym one.0) ∙ long) in
      let left : length (rest_from m g) ≡ length (rest_from m c) + 1 = one.1 ∙ ap (λ (es : Entries). length es + 1) l.rest in
      let all = all_with m e v c d l.before l.whole in
      let out = goes_out (half_of m) k d g (half_rises (half_of m) d (subst Rises (sym all) up)) goes in (
        window m g (puts e v (has m c)) up (goes_all (half_of m) (Some k) d g goes ∙ all) (subst (Fits m (length (shown_from m g))) (sym left) fits),
        subst (λ (es : Entries). Spilled (Some k) es (shown_from m g)) l.shown out,
      )

-- ---- a child is taken out

-- with nothing that crossed, or with a child for one that was shown
pub refills_left : (crossed : Option (Key × PathTree)) (rest left new : Entries) → Refilled crossed rest left new → Refills (record { was = true; is = false; crossed = crossed }) rest left new
refills_left None rest left new h = (h, tt)
refills_left (Some k) rest left new h = (h, refl)

shorter : (e : Entry) (es : Entries) → Rises es → length (without e es) ≤ length es
shorter e es up = omega (arith, length_without entry_cmp entry_cmp_total e es up)

one_shorter : (e : Entry) (es : Entries) → Rises es → is_there e es ≡ true → length (without e es) + 1 ≡ length es
one_shorter e es up there =
    omega (arith, subst (λ b. cond b 1 0 + length (without e es) ≡ length es) (ap is_some (sym (find_lookup es e)) ∙ there) (length_without entry_cmp entry_cmp_total e es up))

module _ (m : Option Limit) (e : Entry) (c d : Halved) (w : Whole m c) (t : Taken e c d) where
  half_less : (h : Half) → half_in h d ≡ without e (half_in h c)
  half_less Front = t.0 ∙ remove_entry-without e c.0 (sorted-left c.0 c.1 (rising m c w))
  half_less Behind = t.1 ∙ remove_entry-without e c.1 (sorted-right c.0 c.1 (rising m c w))

  pub shows_less : shown_from m d ≡ without e (shown_from m c)
  shows_less = half_less (half_of m)

  -- which half had it
  pub was_shown : (answer : Option Half) → Had e answer c → is_half (half_of m) answer ≡ is_there e (shown_from m c)
  was_shown answer h = at (half_of m)
    where
      at : (s : Half) → is_half s answer ≡ is_there e (half_in s c)
      at Front = h.0
      at Behind = h.1

  all_less : d.0 ++ d.1 ≡ without e (has m c)
  all_less = (λ i. half_less Front i ++ half_less Behind i) ∙ sym (without-append e c.0 c.1) ∙ ap (without e) (sym (has_both m c))

  less_rise : Rises (without e (has m c))
  less_rise = is_sorted-where_key entry_cmp (λ x. not (eq_by_cmp entry_cmp e x)) (has m c) w.rises

  pub take_stays : is_there e (shown_from m c) ≡ false → Is m d (without e (has m c))
  take_stays missed =
      let stays : shown_from m d ≡ shown_from m c = half_less (half_of m) ∙ without-missed e (shown_from m c) missed in
      let less = shorter e (rest_from m c) (half_rises (other_half (half_of m)) c (rising m c w)) in
      let rest : length (rest_from m d) ≤ length (rest_from m c) = subst (λ (es : Entries). length es ≤ length (rest_from m c)) (sym (half_less (other_half (half_of m)))) less in
      window m d (without e (has m c)) less_rise all_less
      (subst (λ (es : Entries). Fits m (length es) (length (rest_from m d))) (sym stays) (fits_less m (length (shown_from m c)) (length (rest_from m c)) (length (rest_from m d)) (counted m c w) rest))

  -- the child next to the cut comes for it, if there is one
  abbrev pub Refilling : Option (Key × PathTree) → Halved → Type 0
  Refilling o g = Is m g (without e (has m c)) × Refilled o (rest_from m c) (without e (shown_from m c)) (shown_from m g)

  module _ (there : is_there e (shown_from m c) ≡ true) where
    rest_stays : rest_from m d ≡ rest_from m c
    rest_stays = half_less (other_half (half_of m)) ∙ without-missed e (rest_from m c) (once e (half_of m) c (rising m c w) there)

    pub refilled : (o : Option (Key × PathTree)) (g : Halved) → Goes (other_half (half_of m)) o d g → Refilling o g
    unfolding rest_stays
    refilled None g goes =
        let none = goes_none (other_half (half_of m)) d g goes in
        let shown : shown_from m g ≡ without e (shown_from m c) = ap (shown_from m) none.1 ∙ shows_less in
        let rest : rest_from m g ≡ rest_from m c = ap (rest_from m) none.1 ∙ rest_stays in
        let less : length (shown_from m g) ≤ length (shown_from m c) = subst (λ (es : Entries). length es ≤ length (shown_from m c)) (sym shown) (shorter e (shown_from m c) (half_rises (half_of m) c (rising m c w))) in
        let fits = fits_none m (length (shown_from m c)) (length (rest_from m c)) (length (shown_from m g)) (counted m c w) (ap (λ (es : Entries). length es) (sym rest_stays ∙ none.0)) less in
        (window m g (without e (has m c)) less_rise (goes_all (other_half (half_of m)) None d g goes ∙ all_less) (subst (λ (es : Entries). Fits m (length (shown_from m g)) (length es)) (sym rest) fits), shown)
    refilled (Some k) g goes =
        let one = goes_one (other_half (half_of m)) k d g goes in
        let more : length (shown_from m g) ≡ length (shown_from m c) =
        subst (λ (x : Half). length (half_in x g) ≡ length (half_in x d) + 1) (twice (half_of m)) one.1 ∙ ap (λ (es : Entries). length es + 1) shows_less ∙ one_shorter e (shown_from m c) (half_rises (half_of m) c (rising m c w)) there in
        let fits = fits_less m (length (shown_from m c)) (length (rest_from m c)) (length (rest_from m g)) (counted m c w) (omega (arith, one.0, ap (λ (es : Entries). length es) rest_stays)) in
        let whole : g.0 ++ g.1 ≡ without e (has m c) = goes_all (other_half (half_of m)) (Some k) d g goes ∙ all_less in
        let came = goes_in (other_half (half_of m)) k d g (half_rises (other_half (half_of m)) d (subst Rises (sym all_less) less_rise)) (half_rises (other_half (other_half (half_of m))) g (subst Rises (sym whole) less_rise)) goes in (
          window m g (without e (has m c)) less_rise whole (subst (λ (n : ℕ). Fits m n (length (rest_from m g))) (sym more) fits),
          subst (λ (r : Entries). Refilled (Some k) r (without e (shown_from m c)) (shown_from m g)) rest_stays
              (subst (λ (es : Entries). Refilled (Some k) (rest_from m d) es (shown_from m g)) shows_less
              (subst (λ (x : Half). Refilled (Some k) (rest_from m d) (half_in x d) (half_in x g)) (twice (half_of m)) came)),
        )
