-- A row in which the leaf of one of its siblings, or what stands below it, was replaced.
use Rattle.std.proofs.Common.{◌≡◌, ◌≢◌, ◌≤◌, ◌<◌, ℕ, zero, suc, ◌+◌, Option, Some, None, true, false, cond, refl, sym, ap, subst, ◌∙◌, arith}
use Rattle.std.specs.Prelude.{nat_eq}
use Rattle.std.specs.Option.{option_map}
use Rattle.std.proofs.lemmas.Bool.{eqb-true, eq-eqb}
use Rattle.slab.specs.Slab.{Slab, get, slab_len}
use Rattle.rt_tree.specs.PathTree.{Key}
use Rattle.rt_nodes.specs.Forest.{Forest, bare, node, one_if, first, size, times, AllAfter, Sound, Links, IsRow}
use Rattle.rt_nodes.specs.Changes.{InRow, below_of, with_below, with_content, Changed}
use Rattle.rt_nodes.specs.declared.nodes.Slot.{Slot}
use Rattle.rt_nodes.proofs.Reached.{locate, not_nowhere}
use Rattle.rt_nodes.proofs.Felling.{one_of, links_kept}
use Rattle.rt_nodes.proofs.Joining.{in_row_times}
use Rattle.rt_nodes.proofs.Taking.{later_of, times_without, times_below_of}

module _ {X : Type 0} where
  pub times_with_below : (k : ℕ) (l : X) (b f : Forest X) → InRow k f → (m : ℕ) → times m (with_below k l b f) + times m (below_of k f) ≡ times m f + times m b
  times_with_below k l b bare is m = absurd is
  times_with_below k l b (node n key value below behind) is m =
      elim (nat_eq k n) as (λ t. nat_eq k n ≡ t → times m (cond t (node n key l b behind) (node n key value below (with_below k l b behind))) + times m (cond t below (below_of k behind)) ≡ one_if (nat_eq m n) + (times m below + times m behind) + times m b) [
        | true ↦ λ e. omega arith
        | false ↦ λ e. omega (arith, times_with_below k l b behind (later_of k n behind is e) m)
      ] refl

  pub size_with_below : (k : ℕ) (l : X) (b f : Forest X) → InRow k f → size (with_below k l b f) + size (below_of k f) ≡ size f + size b
  size_with_below k l b bare is = absurd is
  size_with_below k l b (node n key value below behind) is =
      elim (nat_eq k n) as (λ t. nat_eq k n ≡ t → size (cond t (node n key l b behind) (node n key value below (with_below k l b behind))) + size (cond t below (below_of k behind)) ≡ suc (size below + size behind) + size b) [
        | true ↦ λ e. omega arith
        | false ↦ λ e. omega (arith, size_with_below k l b behind (later_of k n behind is e))
      ] refl

  pub first_with_below : (k : ℕ) (l : X) (b f : Forest X) → first (with_below k l b f) ≡ first f
  first_with_below k l b bare = refl
  first_with_below k l b (node n key value below behind) = elim (nat_eq k n) as (λ t. first (cond t (node n key l b behind) (node n key value below (with_below k l b behind))) ≡ Some n) [ true ↦ refl | false ↦ refl ]

  after_with_below : (k : ℕ) (l : X) (b : Forest X) (j : Key) (f : Forest X) → AllAfter j f → AllAfter j (with_below k l b f)
  after_with_below k l b j bare h = tt
  after_with_below k l b j (node n key value below behind) h =
      elim (nat_eq k n) as (λ t. AllAfter j (cond t (node n key l b behind) (node n key value below (with_below k l b behind)))) [
        | true ↦ h
        | false ↦ (h.0, after_with_below k l b j behind h.1)
      ]

  pub sound_with_below : (k : ℕ) (l : X) (b f : Forest X) → Sound f → Sound b → Sound (with_below k l b f)
  sound_with_below k l b bare h g = tt
  sound_with_below k l b (node n key value below behind) h g =
      elim (nat_eq k n) as (λ t. Sound (cond t (node n key l b behind) (node n key value below (with_below k l b behind)))) [
        | true ↦ (h.0, g, h.2)
        | false ↦ (after_with_below k l b key behind h.0, h.1, sound_with_below k l b behind h.2 g)
      ]

  -- s before, t after the call on the row below, u after the children were set
  module _ (s t u : Slab (Slot X)) (k : ℕ) (l : X) (b : Forest X) (links_b : Links t (Some k) None b)
      (written : get u k ≡ option_map (with_content l (first b)) (get t k)) (others : (n : ℕ) → n ≢ k → get u n ≡ get t n)
      (apart : times k b ≡ 0) where
    links_below_now : Links u (Some k) None b
    links_below_now = links_kept t u (Some k) None b links_b (λ n some. others n (λ same. absurd (omega (arith, some, apart, ap (λ x. times x b) same))))

    pub links_with_below : (parent previous : Option ℕ) (f : Forest X) → Links s parent previous f → InRow k f → ((n : ℕ) → times n f ≤ 1)
        → ((n : ℕ) → 0 < times n f → times n (below_of k f) ≡ 0 → get t n ≡ get s n) → Links u parent previous (with_below k l b f)
    links_with_below parent previous bare h is once same = absurd is
    links_with_below parent previous (node n key value below behind) h is once same =
        elim (nat_eq k n) as (λ c. nat_eq k n ≡ c → ((m : ℕ) → 0 < times m (node n key value below behind) → times m (cond c below (below_of k behind)) ≡ 0 → get t m ≡ get s m) → Links u parent previous (cond c (node n key l b behind) (node n key value below (with_below k l b behind)))) [
          | true ↦ λ e g.
              let is_n : k ≡ n = eqb-true k n e in
              let here : get t n ≡ get s n = g n (omega (arith, one_of n)) (omega (arith, one_of n, once n)) in (
                ap (get u) (sym is_n) ∙ written ∙ ap (option_map (with_content l (first b))) (ap (get t) is_n ∙ here ∙ h.0),
                subst (λ x. Links u (Some x) None b) is_n links_below_now,
                links_kept s u parent (Some n) behind h.2 (λ m some. others m (λ eq. absurd (omega (arith, some, once m, one_of n, ap (λ x. one_if (nat_eq m x)) (sym is_n), ap (λ x. one_if (nat_eq x k)) eq, one_of k)))
                    ∙ g m (omega (arith, some)) (omega (arith, some, once m))),
              )
          | false ↦ λ e g.
              let later : InRow k behind = later_of k n behind is e in
              let inside : 0 < times k behind = in_row_times k behind later in
              let more : (m : ℕ) → times m (below_of k behind) ≤ times m behind = λ m. times_below_of k behind m in (
                others n (λ eq. cc (e, eq-eqb k n (sym eq)))
                    ∙ g n (omega (arith, one_of n)) (omega (arith, one_of n, once n, more n))
                    ∙ h.0 ∙ (λ i. Some (record { key = key; parent = parent; first_child = first below; previous = previous; next = sym (first_with_below k l b behind) i; value = value })),
                links_kept s u (Some n) None below h.1 (λ m some. others m (λ eq. absurd (omega (arith, some, once m, inside, ap (λ x. times x behind) eq)))
                    ∙ g m (omega (arith, some)) (omega (arith, some, once m, more m))),
                links_with_below parent (Some n) behind h.2 later (λ m. omega (arith, once m)) (λ m some none. g m (omega (arith, some)) none),
              )
        ] refl same

  module _ (s t u : Slab (Slot X)) (o parent link : Option ℕ) (l : X) (f b : Forest X) (k : ℕ)
      (h : IsRow s o parent None f) (once : (n : ℕ) → times n f ≤ 1) (is : InRow k f)
      (below : IsRow t link (Some k) None b) (changed : Changed s t (below_of k f) b)
      (written : get u k ≡ option_map (with_content l link) (get t k)) (others : (n : ℕ) → n ≢ k → get u n ≡ get t n) (len : slab_len u ≡ slab_len t) where
    counts : (n : ℕ) → times n (with_below k l b f) + times n (below_of k f) ≡ times n f + times n b
    counts n = times_with_below k l b f is n

    -- a node of the row that isn't below k isn't in b, which took only vacant numbers
    outside : (n : ℕ) → 0 < times n f → times n (below_of k f) ≡ 0 → times n b ≡ 0
    outside n there none = of (times n b) refl
      where
        of : (c : ℕ) → times n b ≡ c → c ≡ 0
        of zero e = refl
        of (suc c) e = absurd (not_nowhere s n (locate s o parent None f h n there) (changed.fresh n (omega (arith, e)) none))

    stays : (n : ℕ) → 0 < times n f → times n (below_of k f) ≡ 0 → get t n ≡ get s n
    stays n there none = changed.kept n none (outside n there none)

    the_node : times k (below_of k f) ≡ 0
    the_node = omega (arith, times_without k f is k, one_of k, once k)

    in_f : 0 < times k f
    in_f = in_row_times k f is

    within : (n : ℕ) → times n (below_of k f) ≤ times n f
    within n = times_below_of k f n

    pub with_row : IsRow u o parent None (with_below k l b f)
    with_row = record {
      links = links_with_below s t u k l b below.links (written ∙ (λ i. option_map (with_content l (sym below.starts i)) (get t k))) others (outside k in_f the_node) parent None f h.links is once stays;
      sound = sound_with_below k l b f h.sound below.sound;
      starts = first_with_below k l b f ∙ h.starts;
      fits = omega (arith, size_with_below k l b f is, changed.len, h.fits, len);
    }

    not_k : (n : ℕ) → times n f ≡ 0 → n ≢ k
    not_k n none same = absurd (omega (arith, none, in_f, ap (λ x. times x f) same))

    not_k_left : (n : ℕ) → times n (with_below k l b f) ≡ 0 → n ≢ k
    not_k_left n none same = absurd (omega (arith, none, in_f, the_node, counts k, ap (λ x. times x (with_below k l b f)) same))

    once_now : (n : ℕ) → times n (with_below k l b f) ≤ 1
    once_now n = of (times n f) refl (times n (below_of k f)) refl
      where
        of : (c : ℕ) → times n f ≡ c → (d : ℕ) → times n (below_of k f) ≡ d → times n (with_below k l b f) ≤ 1
        of zero e d g = omega (arith, counts n, changed.once n, e, within n)
        of (suc c) e zero g = omega (arith, counts n, once n, outside n (omega (arith, e)) g, g)
        of (suc c) e (suc d) g = omega (arith, counts n, once n, within n, changed.once n, e, g)

    pub with_changed : Changed s u f (with_below k l b f)
    with_changed = record {
      kept = λ n none left. others n (not_k n none) ∙ changed.kept n (omega (arith, within n, none)) (omega (arith, counts n, none, left, within n));
      gone = λ n there left. others n (not_k_left n left) ∙ changed.gone n (omega (arith, counts n, there, left)) (omega (arith, counts n, left, within n));
      fresh = λ n there none. changed.fresh n (omega (arith, counts n, there, none, within n)) (omega (arith, within n, none));
      once = once_now;
      len = omega (arith, size_with_below k l b f is, changed.len, len);
    }
