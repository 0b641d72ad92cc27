-- Runs of linked slots.
use Rattle.std.proofs.Common.{◌≡◌, ℕ, true, false, cond, List, [], ◌∷◌, ◌++◌, refl, sym, ap, subst, ◌∙◌, Option, Some, None}
use Rattle.std.proofs.lemmas.Bool.{eqb-true, eq-eqb}
use Rattle.std.specs.Prelude.{nat_eq}
use Rattle.std.specs.List.{AllByRecursion}
use Rattle.std.specs.Option.{option_map}
use Rattle.rt_chain.specs.Chains.{IsApart, IsOther, head_or, last_or}
use Rattle.rt_chain.specs.inside.Links.{Links, IsRun, is_link}

-- ---- parts of a run
pub head-append : (fs bs : List ℕ) (x : Option ℕ) → head_or (fs ++ bs) x ≡ head_or fs (head_or bs x)
head-append [] bs x = refl
head-append (a ∷ fs) bs x = refl

pub last-append : (y : Option ℕ) (fs bs : List ℕ) → last_or y (fs ++ bs) ≡ last_or (last_or y fs) bs
last-append y [] bs = refl
last-append y (a ∷ fs) bs = last-append (Some a) fs bs

pub run-left : (l : Links) (y : Option ℕ) (fs bs : List ℕ) (x : Option ℕ) → IsRun l y (fs ++ bs) x → IsRun l y fs (head_or bs x)
run-left l y [] bs x h = tt
run-left l y (a ∷ fs) bs x h = (h.0 ∙ ap (λ o. Some (y, o)) (head-append fs bs x), run-left l (Some a) fs bs x h.1)

pub run-right : (l : Links) (y : Option ℕ) (fs bs : List ℕ) (x : Option ℕ) → IsRun l y (fs ++ bs) x → IsRun l (last_or y fs) bs x
run-right l y [] bs x h = h
run-right l y (a ∷ fs) bs x h = run-right l (Some a) fs bs x h.1

pub run-append : (l : Links) (y : Option ℕ) (fs bs : List ℕ) (x : Option ℕ) → IsRun l y fs (head_or bs x) → IsRun l (last_or y fs) bs x → IsRun l y (fs ++ bs) x
run-append l y [] bs x h g = g
run-append l y (a ∷ fs) bs x h g = (h.0 ∙ ap (λ o. Some (y, o)) (sym (head-append fs bs x)), run-append l (Some a) fs bs x h.1 g)

-- ---- slots that stand once
pub other-left : (n : ℕ) (fs bs : List ℕ) → IsOther n (fs ++ bs) → IsOther n fs
other-left n [] bs h = tt
other-left n (a ∷ fs) bs h = (h.0, other-left n fs bs h.1)

pub other-right : (n : ℕ) (fs bs : List ℕ) → IsOther n (fs ++ bs) → IsOther n bs
other-right n [] bs h = h
other-right n (a ∷ fs) bs h = other-right n fs bs h.1

pub other-append : (n : ℕ) (fs bs : List ℕ) → IsOther n fs → IsOther n bs → IsOther n (fs ++ bs)
other-append n [] bs h g = g
other-append n (a ∷ fs) bs h g = (h.0, other-append n fs bs h.1 g)

-- the slots of the one part are others than those of the other
abbrev pub AreOthers : List ℕ → List ℕ → Type 0
AreOthers fs bs = AllByRecursion (λ a. IsOther a bs) fs

pub apart-left : (fs bs : List ℕ) → IsApart (fs ++ bs) → IsApart fs
apart-left [] bs h = tt
apart-left (a ∷ fs) bs h = (other-left a fs bs h.0, apart-left fs bs h.1)

pub apart-right : (fs bs : List ℕ) → IsApart (fs ++ bs) → IsApart bs
apart-right [] bs h = h
apart-right (a ∷ fs) bs h = apart-right fs bs h.1

pub apart-others : (fs bs : List ℕ) → IsApart (fs ++ bs) → AreOthers fs bs
apart-others [] bs h = tt
apart-others (a ∷ fs) bs h = (other-right a fs bs h.0, apart-others fs bs h.1)

pub apart-append : (fs bs : List ℕ) → IsApart fs → IsApart bs → AreOthers fs bs → IsApart (fs ++ bs)
apart-append [] bs h g o = g
apart-append (a ∷ fs) bs h g o = (other-append a fs bs h.0 o.0, apart-append fs bs h.1 g o.1)

pub turned : (m n : ℕ) → nat_eq m n ≡ false → nat_eq n m ≡ false
turned m n e = elim (nat_eq n m) as (λ b. nat_eq n m ≡ b → b ≡ false) [
  | true ↦ λ t. cc (e, eq-eqb m n (sym (eqb-true n m t)))
  | false ↦ λ t. refl
] refl

-- ---- two runs, joined
-- where the links lead once these two were linked to each other
abbrev pub JoinsTo : Links → Links → Option ℕ → Option ℕ → Type 0
JoinsTo l m p q = (n : ℕ) → m n ≡ option_map (λ (x : Option ℕ × Option ℕ). (cond (is_link q n) p x.0, cond (is_link p n) q x.1)) (l n)

-- a link leads out of these slots
abbrev pub LeadsOut : Option ℕ → List ℕ → Type 0
LeadsOut o ns = AllByRecursion (λ n. is_link o n ≡ false) ns

-- the run in front: its last slot leads to the other one
front : (l m : Links) (y : Option ℕ) (fs : List ℕ) (x p q : Option ℕ) → JoinsTo l m p q → IsApart fs → LeadsOut q fs → LeadsOut y fs → p ≡ last_or y fs
    → IsRun l y fs x → IsRun m y fs q
front l m y [] x p q j apart out before e h = tt
front l m y (a ∷ fs) x p q j apart out before e h = (
  j a ∙ ap (option_map (λ (z : Option ℕ × Option ℕ). (cond (is_link q a) p z.0, cond (is_link p a) q z.1))) h.0
      ∙ ap (λ b. Some (cond b p y, cond (is_link p a) q (head_or fs x))) out.0
      ∙ ap (λ (o : Option ℕ). Some (y, o)) (here fs apart.0 e),
  front l m (Some a) fs x p q j apart.1 out.1 (leads fs apart.0) e h.1,
)
  where
    leads : (bs : List ℕ) → IsOther a bs → LeadsOut (Some a) bs
    leads [] o = tt
    leads (b ∷ bs) o = (turned a b o.0, leads bs o.1)

    last-other : (b : ℕ) (bs : List ℕ) → IsOther a (b ∷ bs) → is_link (last_or (Some b) bs) a ≡ false
    last-other b [] o = o.0
    last-other b (c ∷ bs) o = last-other c bs o.1

    same : nat_eq a a ≡ true
    same = eq-eqb a a refl

    here : (bs : List ℕ) → IsOther a bs → p ≡ last_or (Some a) bs → cond (is_link p a) q (head_or bs x) ≡ head_or bs q
    here [] o f = ap (λ z. cond (is_link z a) q x) f ∙ ap (λ b. cond b q x) same
    here (b ∷ bs) o f = ap (λ z. cond (is_link z a) q (Some b)) f ∙ ap (λ z. cond z q (Some b)) (last-other b bs o)

-- the slots of a run that are neither of the two
beside : (l m : Links) (y : Option ℕ) (bs : List ℕ) (x p q : Option ℕ) → JoinsTo l m p q → LeadsOut q bs → LeadsOut p bs → IsRun l y bs x → IsRun m y bs x
beside l m y [] x p q j oq op h = tt
beside l m y (b ∷ bs) x p q j oq op h = (
  j b ∙ ap (option_map (λ (z : Option ℕ × Option ℕ). (cond (is_link q b) p z.0, cond (is_link p b) q z.1))) h.0
      ∙ ap (λ c. Some (cond c p y, cond (is_link p b) q (head_or bs x))) oq.0
      ∙ ap (λ c. Some (y, cond c q (head_or bs x))) op.0,
  beside l m (Some b) bs x p q j oq.1 op.1 h.1,
)

-- the run behind: its first slot leads back to the other one
back : (l m : Links) (y : Option ℕ) (bs : List ℕ) (x p q : Option ℕ) → JoinsTo l m p q → IsApart bs → LeadsOut p bs → q ≡ head_or bs q
    → IsRun l y bs x → IsRun m p bs x
back l m y [] x p q j apart out e h = tt
back l m y (b ∷ bs) x p q j apart out e h = (
  j b ∙ ap (option_map (λ (z : Option ℕ × Option ℕ). (cond (is_link q b) p z.0, cond (is_link p b) q z.1))) h.0
      ∙ ap (λ c. Some (cond c p y, cond (is_link p b) q (head_or bs x))) (ap (λ z. is_link z b) e ∙ same)
      ∙ ap (λ c. Some (p, cond c q (head_or bs x))) out.0,
  beside l m (Some b) bs x p q j (subst (λ z. LeadsOut z bs) (sym e) (leads bs apart.0)) out.1 h.1,
)
  where
    same : nat_eq b b ≡ true
    same = eq-eqb b b refl

    leads : (cs : List ℕ) → IsOther b cs → LeadsOut (Some b) cs
    leads [] o = tt
    leads (c ∷ cs) o = (turned b c o.0, leads cs o.1)

-- no slot leads out of slots that are others
pub none_out : (ns : List ℕ) → LeadsOut None ns
none_out [] = tt
none_out (n ∷ ns) = (refl, none_out ns)

pub slot_out : (n : ℕ) (ns : List ℕ) → IsOther n ns → LeadsOut (Some n) ns
slot_out n [] h = tt
slot_out n (m ∷ ns) h = (turned n m h.0, slot_out n ns h.1)

pub head_out : (fs bs : List ℕ) → AreOthers fs bs → LeadsOut (head_or bs None) fs
head_out fs [] h = none_out fs
head_out fs (b ∷ bs) h = each fs h
  where
    each : (cs : List ℕ) → AreOthers cs (b ∷ bs) → LeadsOut (Some b) cs
    each [] g = tt
    each (c ∷ cs) g = (g.0.0, each cs g.1)

pub last_out : (fs bs : List ℕ) → AreOthers fs bs → LeadsOut (last_or None fs) bs
last_out [] bs h = none_out bs
last_out (a ∷ fs) bs h = each a fs h
  where
    each : (c : ℕ) (cs : List ℕ) → AreOthers (c ∷ cs) bs → LeadsOut (last_or (Some c) cs) bs
    each c [] g = slot_out c bs g.0
    each c (d ∷ cs) g = each d cs g.1

-- what stood in two runs stands in one, once the last slot of the one and the first of the other are
-- linked to each other
pub joined_run : (l m : Links) (fs bs : List ℕ) (x y : Option ℕ) → JoinsTo l m (last_or None fs) (head_or bs None) → IsApart (fs ++ bs)
    → IsRun l None fs x → IsRun l y bs None → IsRun m None (fs ++ bs) None
joined_run l m fs bs x y j apart f g =
    let others : AreOthers fs bs = apart-others fs bs apart in
    run-append m None fs bs None
    (front l m None fs x (last_or None fs) (head_or bs None) j (apart-left fs bs apart) (head_out fs bs others) (none_out fs) refl f)
    (back l m y bs None (last_or None fs) (head_or bs None) j (apart-right fs bs apart) (last_out fs bs others) (heads bs) g)
  where
    heads : (cs : List ℕ) → head_or cs None ≡ head_or cs (head_or cs None)
    heads [] = refl
    heads (c ∷ cs) = refl

-- ---- slots that stay as they were
pub run_kept : (l m : Links) (n : ℕ) → ((k : ℕ) → nat_eq n k ≡ false → m k ≡ l k) → (y : Option ℕ) (ns : List ℕ) (x : Option ℕ) → IsOther n ns → IsRun l y ns x → IsRun m y ns x
run_kept l m n kept y [] x o h = tt
run_kept l m n kept y (k ∷ ns) x o h = (kept k o.0 ∙ h.0, run_kept l m n kept (Some k) ns x o.1 h.1)

pub run_same : (l m : Links) → ((k : ℕ) → m k ≡ l k) → (y : Option ℕ) (ns : List ℕ) (x : Option ℕ) → IsRun l y ns x → IsRun m y ns x
run_same l m same y [] x h = tt
run_same l m same y (k ∷ ns) x h = (same k ∙ h.0, run_same l m same (Some k) ns x h.1)

-- a slot that is vacant is none of a run
pub vacant_other : (l : Links) (n : ℕ) → l n ≡ None → (y : Option ℕ) (ns : List ℕ) (x : Option ℕ) → IsRun l y ns x → IsOther n ns
vacant_other l n free y [] x h = tt
vacant_other l n free y (k ∷ ns) x h = (
  elim (nat_eq n k) as (λ b. nat_eq n k ≡ b → b ≡ false) [
    | true ↦ λ e. cc (free, h.0, ap l (eqb-true n k e))
    | false ↦ λ e. refl
  ] refl,
  vacant_other l n free (Some k) ns x h.1,
)

-- ---- a slot more
slot_others : (fs : List ℕ) (n : ℕ) → IsOther n fs → AreOthers fs (n ∷ [])
slot_others [] n h = tt
slot_others (f ∷ fs) n h = ((turned n f h.0, tt), slot_others fs n h.1)

with_others : (fs gs : List ℕ) (n : ℕ) → AreOthers fs gs → IsOther n gs → AreOthers (fs ++ n ∷ []) gs
with_others [] gs n h o = (o, tt)
with_others (f ∷ fs) gs n h o = (h.0, with_others fs gs n h.1 o)

pub apart_with : (fs gs : List ℕ) (n : ℕ) → IsApart (fs ++ gs) → IsOther n (fs ++ gs) → IsApart ((fs ++ n ∷ []) ++ gs)
apart_with fs gs n h o =
    apart-append (fs ++ n ∷ []) gs (apart-append fs (n ∷ []) (apart-left fs gs h) (tt, tt) (slot_others fs n (other-left n fs gs o)))
    (apart-right fs gs h) (with_others fs gs n (apart-others fs gs h) (other-right n fs gs o))

pub assoc_one : (fs gs : List ℕ) (n : ℕ) → (fs ++ n ∷ []) ++ gs ≡ fs ++ n ∷ gs
assoc_one [] gs n = refl
assoc_one (f ∷ fs) gs n = ap (λ ns. f ∷ ns) (assoc_one fs gs n)

-- a slot without links is linked to the last of those in front of it, and to the first of those behind
pub run_with : (l m k : Links) (fs gs : List ℕ) (n : ℕ) → IsRun l None (fs ++ gs) None → IsApart (fs ++ gs) → IsOther n (fs ++ gs) → l n ≡ Some (None, None)
    → JoinsTo l m (last_or None fs) (Some n) → JoinsTo m k (Some n) (head_or gs None) → IsRun k None (fs ++ n ∷ gs) None
run_with l m k fs gs n run apart other alone j i =
    let both = apart_with fs gs n apart other in
    let some : last_or None (fs ++ n ∷ []) ≡ Some n = last-append None fs (n ∷ []) in
    let first : IsRun m None (fs ++ n ∷ []) None = joined_run l m fs (n ∷ []) (head_or gs None) None j (apart-left (fs ++ n ∷ []) gs both) (run-left l None fs gs None run) (alone, tt) in
    let rest : IsRun m (last_or None fs) gs None =
    beside l m (last_or None fs) gs None (last_or None fs) (Some n) j (slot_out n gs (other-right n fs gs other)) (last_out fs gs (apart-others fs gs apart)) (run-right l None fs gs None run) in
    subst (λ ns. IsRun k None ns None) (assoc_one fs gs n)
    (joined_run m k (fs ++ n ∷ []) gs None (last_or None fs) (subst (λ o. JoinsTo m k o (head_or gs None)) (sym some) i) both first rest)

-- ---- a slot less
pub apart_without : (fs gs : List ℕ) (n : ℕ) → IsApart (fs ++ n ∷ gs) → IsApart (fs ++ gs) × IsOther n (fs ++ gs)
apart_without fs gs n h =
    let right : IsApart (n ∷ gs) = apart-right fs (n ∷ gs) h in
    let others : AreOthers fs (n ∷ gs) = apart-others fs (n ∷ gs) h in (
      apart-append fs gs (apart-left fs (n ∷ gs) h) right.1 (behind fs others),
      other-append n fs gs (before fs others) right.0,
    )
  where
    behind : (hs : List ℕ) → AreOthers hs (n ∷ gs) → AreOthers hs gs
    behind [] o = tt
    behind (x ∷ hs) o = (o.0.1, behind hs o.1)

    before : (hs : List ℕ) → AreOthers hs (n ∷ gs) → IsOther n hs
    before [] o = tt
    before (x ∷ hs) o = (turned x n o.0.0, before hs o.1)

-- where a slot's links lead
pub links_at : (l : Links) (fs gs : List ℕ) (n : ℕ) → IsRun l None (fs ++ n ∷ gs) None → l n ≡ Some (last_or None fs, head_or gs None)
links_at l fs gs n run = (run-right l None fs (n ∷ gs) None run).0

-- a slot was taken out, and those beside it were linked to each other
pub run_without : (l m k : Links) (fs gs : List ℕ) (n : ℕ) → IsRun l None (fs ++ n ∷ gs) None → IsApart (fs ++ n ∷ gs) → ((j : ℕ) → nat_eq n j ≡ false → m j ≡ l j)
    → JoinsTo m k (last_or None fs) (head_or gs None) → IsRun k None (fs ++ gs) None
run_without l m k fs gs n run apart kept j =
    let left = apart_without fs gs n apart in
    joined_run m k fs gs (Some n) (Some n) j left.0 (run_kept l m n kept None fs (Some n) (other-left n fs gs left.1) (run-left l None fs (n ∷ gs) None run))
    (run_kept l m n kept (Some n) gs None (other-right n fs gs left.1) (run-right l None fs (n ∷ gs) None run).1)
