-- Items handed over one by one.
use Rattle.std.proofs.Common.{◌≡◌, ℕ, zero, suc, ◌-◌, ◌<◌, ◌≤◌, List, [], ◌∷◌, ◌++◌, length, take, drop, refl, sym, ap, subst, ◌∙◌, append-nil, append_assoc, arith, Some}
use Rattle.std.proofs.lemmas.List.{length-append, length-take}
use Rattle.std.specs.Option.{option_map}
use Rattle.rt_mail.specs.declared.item.Item.{Item}
use Rattle.rt_mail.specs.Mailbox.{Known, nothing_known, taken, known_of}
use Rattle.rt_mail.specs.Lanes.{Ring, room, with_items, HandsOver}
use Rattle.rt_mail.specs.inside.Histories.{mirror_of, line_of}

-- what is known after items and then more
pub known-append : (m : Known) (xs ys : List Item) → known_of m (xs ++ ys) ≡ known_of (known_of m xs) ys
known-append m [] ys = refl
known-append m (x ∷ xs) ys = known-append (taken m x) xs ys

-- one more than the first k
pub take-more : (k : ℕ) (xs : List Item) (x : Item) (rest : List Item) → drop k xs ≡ x ∷ rest → take (suc k) xs ≡ take k xs ++ x ∷ []
take-more zero [] x rest e = cc
take-more zero (y ∷ xs) x rest e = let head : y ≡ x = cc in ap (λ z. z ∷ []) head
take-more (suc k) [] x rest e = cc
take-more (suc k) (y ∷ xs) x rest e = ap (λ z. y ∷ z) (take-more k xs x rest e)

pub drop-more : (k : ℕ) (xs : List Item) (x : Item) (rest : List Item) → drop k xs ≡ x ∷ rest → drop (suc k) xs ≡ rest
drop-more zero [] x rest e = cc
drop-more zero (y ∷ xs) x rest e = cc
drop-more (suc k) [] x rest e = cc
drop-more (suc k) (y ∷ xs) x rest e = drop-more k xs x rest e

pub shorter : (k : ℕ) (xs : List Item) (x : Item) (rest : List Item) → drop k xs ≡ x ∷ rest → suc k ≤ length xs
shorter zero [] x rest e = absurd (cc)
shorter zero (y ∷ xs) x rest e = omega arith
shorter (suc k) [] x rest e = absurd (cc)
shorter (suc k) (y ∷ xs) x rest e = omega (arith, shorter k xs x rest e)

-- one more in the history
pub mirror-more : (handed : List Item) (x : Item) → mirror_of (handed ++ x ∷ []) ≡ option_map (λ m. taken m x) (mirror_of handed)
mirror-more handed x = ap Some (known-append nothing_known handed (x ∷ []))

-- none are handed over
pub hands_none : (waiting handed : List Item) (ring : Ring) → HandsOver 0 (line_of waiting handed) ring (line_of waiting handed) ring
hands_none waiting handed ring = record { ring = λ i. record ring { items = sym (append-nil ring.items) i }; lane = refl }

-- one more is handed over
pub hands_more : (k : ℕ) (old before : List Item) (ring : Ring) (waiting handed : List Item) (mid_ring : Ring) (x : Item) (rest : List Item)
    → HandsOver k (line_of old before) ring (line_of waiting handed) mid_ring → waiting ≡ x ∷ rest
    → HandsOver (suc k) (line_of old before) ring (line_of rest (handed ++ x ∷ [])) (with_items (x ∷ []) mid_ring)
hands_more k old before ring waiting handed mid_ring x rest h e =
    let there : drop k old ≡ x ∷ rest = sym (ap (λ l. l.waiting) h.lane) ∙ e in
    let first : Known = known_of nothing_known before in
    let taken_on : take k old ++ x ∷ [] ≡ take (suc k) old = sym (take-more k old x rest there) in
    record {
      ring =
          (λ i. with_items (x ∷ []) (h.ring i))
          ∙ (λ i. record ring { items = (append_assoc ring.items (take k old) (x ∷ []) ∙ ap (λ z. ring.items ++ z) taken_on) i });
      lane = λ i. record {
        waiting = sym (drop-more k old x rest there) i;
        mirror =
            (mirror-more handed x
            ∙ ap (option_map (λ m. taken m x)) (ap (λ l. l.mirror) h.lane)
            ∙ ap Some (sym (known-append first (take k old) (x ∷ [])))
            ∙ ap (λ z. Some (known_of first z)) taken_on) i;
      };
    }

-- there is room for one more
pub room_more : (k : ℕ) (xs : List Item) (ring mid : Ring) → mid ≡ with_items (take k xs) ring → k ≤ length xs → 0 < room mid → suc k ≤ room ring
room_more k xs ring mid e le lt =
    let after : 0 < ring.capacity - length (ring.items ++ take k xs) = subst (λ r. 0 < room r) e lt in
    omega (arith, after, length-append ring.items (take k xs), length-take k xs)
