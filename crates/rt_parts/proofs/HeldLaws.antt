-- The listeners and their views, of what is held.
use Rattle.std.proofs.Common.{◌≡◌, ℕ, zero, suc, ◌<◌, ◌+◌, nat_lt, Bool, true, false, cond, not, ◌||◌, List, [], ◌∷◌, ◌++◌, length, get_or, map, refl, sym, ap, ◌∙◌, arith, Option, Some, None}
use Rattle.std.specs.Prelude.{◌==◌}
use Rattle.std.specs.List.{All, filter, filter_map, cons_option, find, list_any, position, position_or_len}
use Rattle.std.specs.Option.{option_and_then, option_map}
use Rattle.std.proofs.lemmas.List.Elements.{All-append, All-filter}
use Rattle.std.proofs.lemmas.List.Kept.{AllPairs-filter}
use Rattle.std.proofs.lemmas.List.Quantifiers.{all_pairs_push}
use Rattle.std.proofs.lemmas.List.{get_or-map, length-map}
use Rattle.rt_world.specs.Answers.{view_before}
use Rattle.rt_world.specs.World.{Listener}
use Rattle.rt_parts.specs.declared.listeners.HeldListener.{HeldListener}
use Rattle.rt_parts.specs.Listeners.{views_left, views_where}
use Rattle.rt_parts.specs.inside.HeldView.{all_of, AreHeld, views_of, IsHeld, listener_of, listeners_of, own_view, own_views, own_number, shown_in}

-- a test of what is made of each
pub any_map : {X Y : Type 0} (test : Y → Bool) (f : X → Y) (xs : List X) → list_any test (map f xs) ≡ list_any (λ x. test (f x)) xs
any_map test f [] = refl
any_map test f (x ∷ xs) = ap (λ b. test (f x) || b) (any_map test f xs)

-- where the first stands that passes
pub position_map : {X Y : Type 0} (test : Y → Bool) (f : X → Y) (xs : List X) → position test (map f xs) ≡ position (λ x. test (f x)) xs
position_map {X = X} test f xs = λ i. cond (nat_lt (first xs i) (length-map xs f i)) (Some (first xs i)) None
  where
    first : (ys : List X) → position_or_len test (map f ys) ≡ position_or_len (λ x. test (f x)) ys
    first [] = refl
    first (y ∷ ys) = ap (λ n. cond (not (test (f y))) (1 + n) 0) (first ys)

-- the views of the listeners that pass
pub views_held : (test : Listener → Bool) (held : List HeldListener) → views_where test (all_of held) ≡ own_views test held
views_held test [] = refl
views_held test (h ∷ hs) = ap (cons_option (own_view test h)) (views_held test hs)

-- ---- those that pass

pub held_filter : (test : HeldListener → Bool) (held : List HeldListener) → AreHeld held → AreHeld (filter test held)
held_filter test held h = record {
  rising = AllPairs-filter (λ (l m : HeldListener). l.number < m.number) test held h.rising;
  each = All-filter test IsHeld held h.each;
}

pub listeners_filter : (test : Listener → Bool) (held : List HeldListener) → listeners_of (filter (λ h. test (listener_of h)) held) ≡ filter test (listeners_of held)
listeners_filter test [] = refl
listeners_filter test (h ∷ hs) =
    elim (test (listener_of h)) as (λ b. listeners_of (cond b (h ∷ filter (λ h. test (listener_of h)) hs) (filter (λ h. test (listener_of h)) hs)) ≡ cond b (listener_of h ∷ filter test (listeners_of hs)) (filter test (listeners_of hs))) [
      | true ↦ ap (λ ls. listener_of h ∷ ls) (listeners_filter test hs)
      | false ↦ listeners_filter test hs
    ]

own_filter : (test : Listener → Bool) (held : List HeldListener) → views_of (filter (λ h. test (listener_of h)) held) ≡ map (λ c. c.1) (own_views test held)
own_filter test [] = refl
own_filter test (h ∷ hs) =
    elim (test (listener_of h)) as (λ b. views_of (cond b (h ∷ filter (λ h. test (listener_of h)) hs) (filter (λ h. test (listener_of h)) hs)) ≡ map (λ c. c.1) (cons_option (cond b (Some (h.number, h.view)) None) (own_views test hs))) [
      | true ↦ ap (λ cs. h.view ∷ cs) (own_filter test hs)
      | false ↦ own_filter test hs
    ]

pub views_filter : (test : Listener → Bool) (held : List HeldListener) → views_of (filter (λ h. test (listener_of h)) held) ≡ views_left test (all_of held)
views_filter test held = own_filter test held ∙ ap (map (λ c. c.1)) (sym (views_held test held))

-- ---- one more

above_held : (number : ℕ) (held : List HeldListener) → All (λ (l : Listener). l.number < number) (listeners_of held) → (k : ℕ) (d : HeldListener) → k < length held → (get_or held k d).number < number
above_held number held h k d lt =
    let at : get_or (listeners_of held) k (listener_of d) ≡ listener_of (get_or held k d) = get_or-map listener_of held k d (listener_of d) lt in
    let low : (get_or (listeners_of held) k (listener_of d)).number < number = h k (listener_of d) (omega (arith, length-map held listener_of)) in
    omega (arith, low, ap (λ (l : Listener). l.number) at)

-- all numbers are below it
pub all_below : (number : ℕ) (held : List HeldListener) → All (λ (l : Listener). l.number < number) (listeners_of held) → All (λ (h : HeldListener). h.number < number) held
all_below number held h k d lt = above_held number held h k d lt

pub held_more : (held : List HeldListener) (l : HeldListener) (number : ℕ) → AreHeld held → IsHeld l → l.number ≡ number → All (λ (m : Listener). m.number < number) (listeners_of held) → AreHeld (held ++ l ∷ [])
held_more held l number h own same above = record {
  rising = all_pairs_push (λ (a b : HeldListener). a.number < b.number) held l h.rising (λ k d lt. let low = above_held number held above k d lt in omega (arith, low, same));
  each = All-append IsHeld held (l ∷ []) h.each (one own);
}
  where
    one : IsHeld l → All IsHeld (l ∷ [])
    one h zero d lt = h
    one h (suc k) d lt = absurd (omega arith)

-- ---- the numbers of a seat

pub numbers_own : (seat : ℕ) (held : List HeldListener) → filter_map (own_number seat) held ≡ map (λ (l : Listener). l.number) (filter (λ (l : Listener). l.seat == seat) (listeners_of held))
numbers_own seat [] = refl
numbers_own seat (h ∷ hs) =
    elim (h.seat == seat) as (λ b. cons_option (cond b (Some h.number) None) (filter_map (own_number seat) hs) ≡ map (λ (l : Listener). l.number) (cond b (listener_of h ∷ filter (λ (l : Listener). l.seat == seat) (listeners_of hs)) (filter (λ (l : Listener). l.seat == seat) (listeners_of hs)))) [
      | true ↦ ap (λ ns. h.number ∷ ns) (numbers_own seat hs)
      | false ↦ numbers_own seat hs
    ]

-- ---- the one of a number

find_held : (number : ℕ) (held : List HeldListener) → find (λ (l : Listener). l.number == number) (listeners_of held) ≡ option_map listener_of (find (λ (h : HeldListener). h.number == number) held)
find_held number [] = refl
find_held number (h ∷ hs) =
    elim (h.number == number) as (λ b. cond b (Some (listener_of h)) (find (λ (l : Listener). l.number == number) (listeners_of hs)) ≡ option_map listener_of (cond b (Some h) (find (λ (h : HeldListener). h.number == number) hs))) [
      | true ↦ refl
      | false ↦ find_held number hs
    ]

pub view_held : (number : ℕ) (held : List HeldListener) → option_and_then (λ h. shown_in h.view) (find (λ (h : HeldListener). h.number == number) held) ≡ view_before (listeners_of held) number
view_held number held =
    step (find (λ (h : HeldListener). h.number == number) held) ∙ ap (option_and_then (λ (l : Listener). l.view)) (sym (find_held number held))
  where
    step : (o : Option HeldListener) → option_and_then (λ h. shown_in h.view) o ≡ option_and_then (λ (l : Listener). l.view) (option_map listener_of o)
    step (Some h) = refl
    step None = refl

pub none_held : (number : ℕ) (held : List HeldListener) → find (λ (l : Listener). l.number == number) (listeners_of held) ≡ None → find (λ (h : HeldListener). h.number == number) held ≡ None
none_held number held e = back (find (λ (h : HeldListener). h.number == number) held) (sym (find_held number held) ∙ e)
  where
    back : (o : Option HeldListener) → option_map listener_of o ≡ None → o ≡ None
    back (Some h) e = cc
    back None e = refl

pub none_seen : (number : ℕ) (held : List HeldListener) → find (λ (h : HeldListener). h.number == number) held ≡ None → find (λ (l : Listener). l.number == number) (listeners_of held) ≡ None
none_seen number held e = find_held number held ∙ ap (option_map listener_of) e
