use Rattle.std.proofs.Common.{◌≡◌, ◌||◌, ◌&&◌, ℕ, Bool, true, get_or, drop}
use Rattle.std.specs.Prelude.{IfSome}
use Rattle.std.specs.List.{list_any}
use Rattle.rt_query.specs.Supply.{does_supply}
use Rattle.rt_cover.specs.Cover.{Tagged}
use Rattle.rt_cover.specs.inside.Widest.{Entry, has_left, IsAmong, IsOfTops}
use Rattle.rt_cover.proofs.successors.add_forms.Given as goal

-- those that were gone over are told of, and the last that went in is left
abbrev pub invariant-loop-place : goal.invariant-loop-place
invariant-loop-place g l = record {
  told : (t : ℕ → Bool) → IsOfTops (g.E.EndedListeners.ended l.ending) l.entries t
      → (list_any t l.numbers.items || list_any (λ (e : Entry). list_any (λ (k : Tagged). does_supply k.form e.0) l.ranges && list_any t e.1) (drop l.place l.entries))
      ≡ (list_any t l.initial.numbers.items || list_any (λ (e : Entry). list_any (λ (k : Tagged). does_supply k.form e.0) l.ranges && list_any t e.1) l.entries);
  among : IsAmong l.place l.last;
  left : (d : Entry) → IfSome l.last (λ w. has_left (g.E.EndedListeners.ended l.ending) (get_or l.entries w d) ≡ true);
}
