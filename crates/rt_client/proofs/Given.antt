-- What a seat's thread has given to its work.
use Rattle.std.proofs.Common.{◌≡◌, ◌∙◌, ℕ, suc, List, [], ◌∷◌, ◌++◌, take, drop, Bool, true, false, Option, Some, None, Result, Ok, Err, refl, sym, ap, subst, append_assoc}
use mathlib.Core.List.{append-nil}
use Rattle.std.proofs.lemmas.Fn.{FoldsTo-push}
use Rattle.std.specs.Borrow.{Bor}
use Rattle.std.specs.Fn.{CalledAt, Mut}
use Rattle.std.specs.List.{slice_get}
use Rattle.rt_mail.specs.declared.item.Item.{Item}
use Rattle.rt_mail.specs.Lanes.{Ring}
use Rattle.rt_client.specs.Lanes.{due}
use Rattle.rt_client.specs.Calls.{Seated, IsOpen}
use Rattle.rt_client.specs.Settling.{IsHanded, Comes}
use Rattle.rt_client.specs.Waiting.{has_none, Awaits}
use Rattle.rt_client.specs.Giving.{with_ring, HasGiven, GivesAll}
use Rattle.rt_client.proofs.Followed.{opened}
use Rattle.rt_client.proofs.PutBy.{same_rest}

-- the first of some items, and the others
first_and_rest : (xs : List Item) (x : Item) → slice_get xs 0 ≡ Some x → xs ≡ x ∷ drop 1 xs
first_and_rest [] x e = absurd (cc)
first_and_rest (y ∷ ys) x e = let head : y ≡ x = cc in ap (λ (z : Item). z ∷ ys) head

none_left : (xs : List Item) → slice_get xs 0 ≡ None → xs ≡ []
none_left [] e = refl
none_left (x ∷ xs) e = absurd (cc)

-- what comes by a wait, behind what came before
comes_on : (n : ℕ) (old s t : Seated) (first : List Item) (there : Bool) → s ≡ with_ring s.ring.items old → Comes n old first → (w : Awaits s there t) → (k : ℕ) × Comes k old (first ++ w.came)
comes_on n old s t first there same comes w = by (has_none s.ring.items) refl
  where
    by : (b : Bool) → has_none s.ring.items ≡ b → (k : ℕ) × Comes k old (first ++ w.came)
    by false some = (n, subst (Comes n old) (sym (ap (λ (xs : List Item). first ++ xs) (w.held some) ∙ append-nil first)) comes)
    by true none =
        let settled = w.settled none in
        let hands = settled.settles.hands in
        let due_now = take (due s.ring hands.lane) hands.lane.waiting in
        let came : w.came ≡ due_now =
        same_rest s.ring.items w.came due_now
        (sym (ap (λ (z : Seated). z.ring.items) w.seat) ∙ ap (λ (z : Seated). z.ring.items) settled.settles.seated ∙ ap (λ (r : Ring). r.items) hands.ring) in
        let lane = opened settled.old settled.settles.before s hands.lane settled.settles.held settled.settles.own hands.is_open in
        let is_open = subst (λ z. IsOpen settled.old settled.settles.before z hands.lane) same lane in
        let handed : IsHanded old w.came = record {
          locked = settled.old;
          keeps = settled.gave;
          before = settled.settles.before;
          lane = hands.lane;
          is_open = record { held = is_open.held; own = is_open.own };
          count = due s.ring hands.lane;
          first = came;
        } in (suc n, (first, w.came, refl, comes, handed))

module _ {F E : Type 0} (g : Mut F (Bor Item × Unit {0}) (Result (Unit {0}) E)) where
  -- before the first
  pub nothing_given : (f : F) (s : Seated) → HasGiven g f s f s
  nothing_given f s = record {
    came = [];
    settlings = 0;
    comes = refl;
    given = [];
    items = append-nil s.ring.items;
    taken = refl;
    seat = refl;
  }

  -- items come
  pub more_came : (f : F) (old : Seated) (last : F) (s t : Seated) (there : Bool) → HasGiven g f old last s → Awaits s there t → HasGiven g f old last t
  more_came f old last s t there h w =
      let items = ap (λ (z : Seated). z.ring.items) w.seat in
      let more = comes_on h.settlings old s t h.came there h.seat h.comes w in
      record {
        came = h.came ++ w.came;
        settlings = more.0;
        comes = more.1;
        given = h.given;
        items =
            sym (append_assoc old.ring.items h.came w.came)
            ∙ ap (λ (xs : List Item). xs ++ w.came) h.items
            ∙ append_assoc h.given s.ring.items w.came
            ∙ ap (λ (xs : List Item). h.given ++ xs) (sym items);
        taken = h.taken;
        seat =
            w.seat
            ∙ ap (with_ring (s.ring.items ++ w.came)) h.seat
            ∙ ap (λ (xs : List Item). with_ring xs old) (sym items);
      }

  -- the first of them is taken
  pub one_given : (f : F) (old : Seated) (last : F) (s t : Seated) (x : Item) (next : F) → HasGiven g f old last s → slice_get s.ring.items 0 ≡ Some x
      → CalledAt g last x (Ok tt) next → t ≡ with_ring (drop 1 s.ring.items) s → HasGiven g f old next t
  one_given f old last s t x next h first called left =
      let items = ap (λ (z : Seated). z.ring.items) left in
      record {
        came = h.came;
        settlings = h.settlings;
        comes = h.comes;
        given = h.given ++ x ∷ [];
        items =
            h.items
            ∙ ap (λ (xs : List Item). h.given ++ xs) (first_and_rest s.ring.items x first)
            ∙ sym (append_assoc h.given (x ∷ []) (drop 1 s.ring.items))
            ∙ ap (λ (xs : List Item). (h.given ++ x ∷ []) ++ xs) (sym items);
        taken = FoldsTo-push (λ at item new. CalledAt g at item (Ok tt) new) f h.given last x next h.taken called;
        seat =
            left
            ∙ ap (with_ring (drop 1 s.ring.items)) h.seat
            ∙ ap (λ (xs : List Item). with_ring xs old) (sym items);
      }

  -- none is left
  pub all_given : (f : F) (old : Seated) (last : F) (s t : Seated) → HasGiven g f old last s → slice_get s.ring.items 0 ≡ None
      → t ≡ with_ring (drop 1 s.ring.items) s → GivesAll g f old t
  all_given f old last s t h none left =
      let empty = none_left s.ring.items none in
      let items : t.ring.items ≡ s.ring.items = ap (λ (z : Seated). z.ring.items) left ∙ ap (drop 1) empty ∙ sym empty in
      record {
        last = last;
        gave = record {
          came = h.came;
          settlings = h.settlings;
          comes = h.comes;
          given = h.given;
          items = h.items ∙ ap (λ (xs : List Item). h.given ++ xs) (sym items);
          taken = h.taken;
          seat =
              left
              ∙ ap (with_ring (drop 1 s.ring.items)) h.seat
              ∙ ap (λ (xs : List Item). with_ring xs old) (sym (ap (λ (z : Seated). z.ring.items) left));
        };
        all = items ∙ empty;
      }
