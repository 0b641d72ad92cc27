use Rattle.std.proofs.Common.{◌≡◌, Bool, true, false, [], ◌∷◌, refl, sym, ap, ◌∙◌}
use mathlib.Core.Bool.{true≢false}
use Rattle.std.specs.Prelude.{codes, is_some}
use Rattle.std.specs.Option.{option_map_or}
use Rattle.rt_tree.specs.PathTree.{null, of_leaf, leaf_at, put}
use Rattle.rt_mail.specs.Snapshots.{Known, seen_of, after_items}
use Rattle.rt_client.specs.laws.Telling.{listened, x_comes, y_comes, first_shown}
use Rattle.rt_client.proofs.examples.showing_examples.Goals as goal

-- whether the listener shows a leaf at its child y
abbrev shows_y : Known → Bool
shows_y known = option_map_or (λ s. option_map_or (λ t. is_some (leaf_at t (codes "y" ∷ []))) s.value false) (seen_of 1 known) false

first : shows_y first_shown ≡ true
unfolding null of_leaf leaf_at put
first = refl

half : shows_y (after_items [] (listened ∷ x_comes ∷ [])) ≡ false
unfolding null of_leaf leaf_at put
half = refl

-- such are not the first seat's
apart : (known : Known) → shows_y known ≡ false → known ≡ first_shown → ⊥
apart known none e = true≢false (sym first ∙ sym (ap shows_y e) ∙ none)

pub returns-clause-refuted : goal.returns-clause-refuted
returns-clause-refuted c = (
  apart [] refl,
  apart (after_items [] (listened ∷ x_comes ∷ [])) half,
  apart (after_items [] (y_comes ∷ listened ∷ [])) refl,
)
