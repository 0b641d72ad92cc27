-- A line with two names.
use Rattle.std.proofs.Common.{◌≡◌, ◌∙◌, ◌++◌, ℕ, List, ap, append_assoc}

pub with_names : (a x y b u v : List ℕ) → x ≡ y → u ≡ v → a ++ (x ++ (b ++ u)) ≡ a ++ y ++ b ++ v
with_names a x y b u v is are =
    ap (λ t. a ++ (t ++ (b ++ u))) is ∙ ap (λ t. a ++ (y ++ (b ++ t))) are ∙ simp append_assoc
