use Rattle.std.proofs.Common.{◌≡◌, List, [], ◌∷◌, length, ap, ◌∙◌, arith}
use Rattle.std.proofs.lemmas.List.Sorted.{length_permutation}
use Rattle.serde_json.proofs.OnLiterals.{serde_json_on_literals}
use Rattle.rt_wire.specs.laws.Examples.{entry_at}
use Rattle.rt_wire.specs.Parts.{Part}
use Rattle.rt_wire.specs.ReadBack.{AreSameParts}
use Rattle.rt_wire.proofs.Others.{first_tag, tag_pushed, number_in, server_number, tag_in, client_number}
use Rattle.rt_wire.proofs.laws.nothing_else_is_read_back.Goals as goal

-- the first of parts that are the same as these has tag 1
first_is_one : (ps : List Part) → AreSameParts ((1, []) ∷ (2, []) ∷ []) ps → 2 ≡ first_tag ps → ⊥
first_is_one [] h e = h
first_is_one (p ∷ ps) h e = omega (arith, h.0, e)

pub returns : goal.returns
unfolding serde_json_on_literals
returns c = (
  (λ h. let e : 1 ≡ 2 = ap server_number h.1 ∙ ap number_in h.2 in omega arith),
  (λ h. let e : 1 ≡ 2 = ap client_number h.1 ∙ ap tag_in h.2 in omega arith),
  (λ h. let many : length h.0 ≡ 2 = length_permutation (entry_at [] 1 ∷ entry_at [] 1 ∷ []) h.0 h.1 in
      let one : 1 ≡ length h.0 = ap number_in h.2 in omega arith),
  (λ h. let e : 2 ≡ first_tag h.0 = ap tag_pushed h.2 in first_is_one h.0 h.1 e),
)
