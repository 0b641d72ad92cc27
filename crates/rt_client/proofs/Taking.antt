-- A ring whose items a mirror takes, one by one.
use Rattle.std.proofs.Common.{◌≡◌, ℕ, zero, suc, ◌+◌, ◌<◌, List, [], ◌∷◌, length, drop, Option, Some, None, Err, IsTrue, is_some, refl, sym, ap, subst, ◌∙◌, arith}
use Rattle.std.specs.List.{slice_get}
use Rattle.rt_mail.specs.declared.item.Item.{Item}
use Rattle.rt_mail.specs.Lanes.{Ring}
use Rattle.rt_mail.specs.declared.error.MailError.{MailError}
use Rattle.rt_mail.specs.declared.error.MailError.TheVariants.{Failed, NoMemory}
use Rattle.rt_mail.specs.Mailbox.{Known, taken, known_of}
use Rattle.rt_mail.specs.Mirrors.{Takes}
use Rattle.rt_client.specs.Delivery.{TakesSome}

-- some first items are taken, and the others make of what is known what all make of it
pub record TakesOn (had : Ring) (old : Option Known) (left : Ring) (now : Option Known) : Type 0 where
  pub before : ℕ
  pub items : left.items ≡ drop before had.items
  pub capacity : left.capacity ≡ had.capacity
  pub start : Known
  pub works : old ≡ Some start
  pub known : Known
  pub knows : now ≡ Some known
  pub onward : known_of known left.items ≡ known_of start had.items

shorter : (n : ℕ) (xs : List Item) (x : Item) → slice_get (drop n xs) 0 ≡ Some x → n < length xs
shorter zero [] x e = absurd (cc)
shorter zero (y ∷ xs) x e = omega arith
shorter (suc n) [] x e = absurd (cc)
shorter (suc n) (y ∷ xs) x e = omega (arith, shorter n xs x e)

without_one : (n : ℕ) (xs : List Item) → drop 1 (drop n xs) ≡ drop (suc n) xs
without_one zero xs = refl
without_one (suc n) [] = refl
without_one (suc n) (y ∷ xs) = without_one n xs

taken_first : (m : Known) (xs : List Item) (x : Item) → slice_get xs 0 ≡ Some x → known_of (taken m x) (drop 1 xs) ≡ known_of m xs
taken_first m [] x e = cc
taken_first m (y ∷ xs) x e = let head : y ≡ x = cc in ap (λ z. known_of (taken m z) xs) (sym head)

-- one more item is taken
pub goes_on : (had ring next : Ring) (old now new : Option Known) (item : Item) (m : Known)
    → TakesOn had old ring now → slice_get ring.items 0 ≡ Some item → next ≡ record ring { items = drop 1 ring.items }
    → now ≡ Some m → new ≡ Some (taken m item) → TakesOn had old next new
goes_on had ring next old now new item m h e rest is after =
    let same : m ≡ h.known = cc (is, h.knows) in
    record {
      before = suc h.before;
      items = ap (λ r. r.items) rest ∙ ap (drop 1) h.items ∙ without_one h.before had.items;
      capacity = ap (λ r. r.capacity) rest ∙ h.capacity;
      start = h.start;
      works = h.works;
      known = taken m item;
      knows = after;
      onward = ap (λ r. known_of (taken m item) r.items) rest ∙ taken_first m ring.items item e ∙ ap (λ k. known_of k ring.items) same ∙ h.onward;
    }

-- memory lacks for the next one
pub stops : (had ring next : Ring) (old now new : Option Known) (item : Item)
    → TakesOn had old ring now → slice_get ring.items 0 ≡ Some item → next ≡ record ring { items = drop 1 ring.items } → new ≡ None
    → TakesSome had old next new
stops had ring next old now new item h e rest none = record {
  worked = subst (λ o. IsTrue (is_some o)) (sym h.works) refl;
  before = h.before;
  next = shorter h.before had.items item (subst (λ xs. slice_get xs 0 ≡ Some item) h.items e);
  ring = rest ∙ (λ i. record { items = (ap (drop 1) h.items ∙ without_one h.before had.items ∙ ap (λ k. drop k had.items) more) i; capacity = h.capacity i });
  failed = none;
}
  where
    more : suc h.before ≡ h.before + 1
    more = omega arith

-- of a mirror that has not failed
pub lacks : (now new : Option Known) (item : Item) (e : MailError) (m : Known) → now ≡ Some m → Takes now item (Err e) new
    → (e ≡ NoMemory) × (new ≡ None)
lacks now new item Failed m is t = absurd (cc (is, t.0))
lacks now new item NoMemory m is t = (refl, t.1)
