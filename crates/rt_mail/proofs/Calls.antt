-- Any calls on a lane and its ring.
use Rattle.std.proofs.Common.{◌≡◌, ℕ, zero, suc, min, List, [], ◌∷◌, ◌++◌, length, take, drop, refl, sym, ap, ◌∙◌, append-nil, append_assoc, Option, Some, None}
use Rattle.std.specs.Option.{option_map}
use Rattle.rt_mail.specs.declared.item.Item.{Item}
use Rattle.rt_mail.specs.declared.item.Item.TheVariants as item
use Rattle.rt_mail.specs.Mailbox.{Known, nothing_known, taken, known_of}
use Rattle.rt_mail.specs.Lanes.{room}
use Rattle.rt_mail.specs.Runs.{Call, Queue, Flush, Sign, Next, Mail, new_mail, after, after_all, put_by, put, handed_over}
use Rattle.rt_mail.specs.laws.InOrder.{HandsOverInOrder, MirrorsWhatIsHandedOver, CallsAreMade}
use Rattle.rt_mail.proofs.Handing.{known-append}

take_drop : (n : ℕ) (xs : List Item) → take n xs ++ drop n xs ≡ xs
take_drop zero xs = refl
take_drop (suc n) [] = refl
take_drop (suc n) (x ∷ xs) = ap (λ z. x ∷ z) (take_drop n xs)

-- ---- in order

-- all that was put in, by where it is
abbrev pub kept : Mail → List Item
kept m = handed_over m ++ m.lane.waiting

handed_keeps : (n : ℕ) (m : Mail) → (m.gone ++ (m.ring.items ++ take n m.lane.waiting)) ++ drop n m.lane.waiting ≡ kept m ++ []
handed_keeps n m =
    let front = m.gone ++ m.ring.items in
    ap (λ z. z ++ drop n m.lane.waiting) (sym (append_assoc m.gone m.ring.items (take n m.lane.waiting)))
    ∙ append_assoc front (take n m.lane.waiting) (drop n m.lane.waiting)
    ∙ ap (λ z. front ++ z) (take_drop n m.lane.waiting)
    ∙ sym (append-nil (front ++ m.lane.waiting))

next_keeps : (m : Mail) → (m.gone ++ take 1 m.ring.items) ++ drop 1 m.ring.items ≡ handed_over m
next_keeps m = append_assoc m.gone (take 1 m.ring.items) (drop 1 m.ring.items) ∙ ap (λ z. m.gone ++ z) (take_drop 1 m.ring.items)

one_keeps : (m : Mail) (c : Call) → kept (after m c) ≡ kept m ++ put_by c
one_keeps m (Queue new) = sym (append_assoc (handed_over m) m.lane.waiting (new ∷ []))
one_keeps m Flush = handed_keeps (min (length m.lane.waiting) (room m.ring)) m
one_keeps m (Sign receipt) =
    append-nil (m.gone ++ (m.ring.items ++ (m.lane.waiting ++ item.Receipt receipt ∷ [])))
    ∙ sym (append_assoc m.gone m.ring.items (m.lane.waiting ++ item.Receipt receipt ∷ []))
    ∙ sym (append_assoc (handed_over m) m.lane.waiting (item.Receipt receipt ∷ []))
one_keeps m Next = ap (λ z. z ++ m.lane.waiting) (next_keeps m) ∙ sym (append-nil (kept m))

all_keep : (calls : List Call) (m : Mail) → kept (after_all m calls) ≡ kept m ++ put calls
all_keep [] m = sym (append-nil (kept m))
all_keep (c ∷ cs) m =
    all_keep cs (after m c) ∙ ap (λ z. z ++ put cs) (one_keeps m c) ∙ append_assoc (kept m) (put_by c) (put cs)

pub hands_over_in_order : HandsOverInOrder
hands_over_in_order capacity calls = all_keep calls (new_mail capacity)

-- ---- the mirror

-- what the mirror knows
abbrev pub mirrored : Mail → Option Known
mirrored m = Some (known_of nothing_known (handed_over m))

-- more items are handed over
more_known : (m : Mail) (xs : List Item) → m.lane.mirror ≡ mirrored m
    → option_map (λ k. known_of k xs) m.lane.mirror ≡ Some (known_of nothing_known (m.gone ++ (m.ring.items ++ xs)))
more_known m xs e =
    ap (option_map (λ k. known_of k xs)) e
    ∙ ap Some (sym (known-append nothing_known (handed_over m) xs))
    ∙ ap (λ z. Some (known_of nothing_known z)) (append_assoc m.gone m.ring.items xs)

one_mirrored : (m : Mail) (c : Call) → m.lane.mirror ≡ mirrored m → (after m c).lane.mirror ≡ mirrored (after m c)
one_mirrored m (Queue new) e = e
one_mirrored m Flush e = more_known m (take (min (length m.lane.waiting) (room m.ring)) m.lane.waiting) e
one_mirrored m (Sign receipt) e =
    signed m.lane.mirror ∙ more_known m (m.lane.waiting ++ item.Receipt receipt ∷ []) e
  where
    signed : (o : Option Known) → option_map (λ k. taken (known_of k m.lane.waiting) (item.Receipt receipt)) o ≡ option_map (λ k. known_of k (m.lane.waiting ++ item.Receipt receipt ∷ [])) o
    signed None = refl
    signed (Some k) = ap Some (sym (known-append k m.lane.waiting (item.Receipt receipt ∷ [])))
one_mirrored m Next e = e ∙ ap (λ z. Some (known_of nothing_known z)) (sym (next_keeps m))

all_mirrored : (calls : List Call) (m : Mail) → m.lane.mirror ≡ mirrored m
    → (after_all m calls).lane.mirror ≡ mirrored (after_all m calls)
all_mirrored [] m e = e
all_mirrored (c ∷ cs) m e = all_mirrored cs (after m c) (one_mirrored m c e)

pub mirrors_what_is_handed_over : MirrorsWhatIsHandedOver
mirrors_what_is_handed_over capacity calls = all_mirrored calls (new_mail capacity) refl

-- ---- contracts

pub calls_are_made : CallsAreMade
calls_are_made = record {
  flush = λ m lane ring h i. record m { lane = h.lane i; ring = h.ring i };
}
