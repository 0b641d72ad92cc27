-- What a seat is told, item by item.
use Rattle.std.proofs.Common.{◌≡◌, ◌<◌, ◌++◌, ◌∷◌, [], ℕ, Bool, true, false, List, length, drop}
use Rattle.std.proofs.Common.{Some, None, refl, sym, ap, subst, ◌∙◌, arith, append_assoc}
use Rattle.std.specs.List.{slice_get}
use Rattle.rt_mail.specs.declared.item.Item.{Item}
use Rattle.rt_client.specs.Calls.{Seated}
use Rattle.rt_client.specs.Delivery.{emptied}
use Rattle.rt_connect.specs.Printing.{item_text, items_text}

-- the first item is told
pub told_first : (items : List Item) (item : Item) → slice_get items 0 ≡ Some item
    → items_text items ≡ item_text item ++ items_text (drop 1 items)
told_first [] item e = cc
told_first (i ∷ items) item e =
    let same : i ≡ item = cc in
    ap (λ j. item_text j ++ items_text items) same

-- there is none
pub told_none : (items : List Item) → slice_get items 0 ≡ None → items ≡ []
told_none [] e = refl
told_none (i ∷ items) e = cc

-- one more is told
pub told_more : (t o o' : List ℕ) (items : List Item) (item : Item) → t ≡ o ++ items_text items
    → slice_get items 0 ≡ Some item → o' ≡ o ++ item_text item → t ≡ o' ++ items_text (drop 1 items)
told_more t o o' items item e is more =
    e ∙ ap (λ x. o ++ x) (told_first items item is)
    ∙ sym (append_assoc o (item_text item) (items_text (drop 1 items)))
    ∙ ap (λ x. x ++ items_text (drop 1 items)) (sym more)

nonempty : (items : List Item) (item : Item) → slice_get items 0 ≡ Some item → 0 < length items
nonempty [] item e = cc
nonempty (i ∷ items) item e = omega arith

-- the seat had an item at first
pub had_one : (any : Bool) (seat first : Seated) (item : Item) → (any ≡ false → seat ≡ first)
    → (any ≡ true → 0 < length first.ring.items) → slice_get seat.ring.items 0 ≡ Some item
    → 0 < length first.ring.items
had_one true seat first item same had is = had refl
had_one false seat first item same had is =
    nonempty first.ring.items item
    (subst (λ (x : Seated). slice_get x.ring.items 0 ≡ Some item) (same refl) is)

-- an empty ring is as it is emptied
pub emptied_same : (seat : Seated) → seat.ring.items ≡ [] → seat ≡ emptied seat
emptied_same seat e = ap (λ is. record seat { ring = record (seat.ring) { items = is } }) e

-- so items are told one after another
pub ruleset telling = (told_first, told_none, emptied_same)
