-- Texts that are written in pieces, of which some are known by what they are equal to.
use Rattle.std.proofs.Common.{◌≡◌, ◌++◌, ℕ, List, Result, subst, append_assoc, ◌∙◌, ap}
use Rattle.std.specs.Prelude.{OnOk}

-- one piece in the middle
pub around_one : (a x y b : List ℕ) → x ≡ y → a ++ (x ++ b) ≡ a ++ y ++ b
around_one a x y b is = ap (λ t. a ++ (t ++ b)) is ∙ simp append_assoc

-- two pieces
pub around_two : (a x y b u v c : List ℕ) → x ≡ y → u ≡ v → a ++ (x ++ (b ++ (u ++ c))) ≡ a ++ y ++ b ++ v ++ c
around_two a x y b u v c is are =
    ap (λ t. a ++ (t ++ (b ++ (u ++ c)))) is ∙ ap (λ t. a ++ (y ++ (b ++ (t ++ c)))) are ∙ simp append_assoc

-- what a call writes is another text, which is the same
pub written : {T E : Type 0} (r : Result T E) (new old text same : List ℕ) → text ≡ same
    → OnOk r (new ≡ old ++ text) → OnOk r (new ≡ old ++ same)
written r new old text same is h = subst (λ t. OnOk r (new ≡ old ++ t)) is h

-- three calls, one behind the other, of which the last writes seven pieces
pub behind_row : {T E : Type 0} (r : Result T E) (old first second new a x b k c u v d t w e : List ℕ)
    → first ≡ old ++ a → second ≡ first ++ x → u ≡ v → t ≡ w
    → OnOk r (new ≡ second ++ (b ++ (k ++ (c ++ (u ++ (d ++ (t ++ e)))))))
    → OnOk r (new ≡ old ++ (a ++ x ++ b ++ k ++ c ++ v ++ d ++ w ++ e))
behind_row r old first second new a x b k c u v d t w e is_first is_second is are h =
    let whole : second ++ (b ++ (k ++ (c ++ (u ++ (d ++ (t ++ e))))))
    ≡ old ++ (a ++ x ++ b ++ k ++ c ++ v ++ d ++ w ++ e) =
    ap (λ s. s ++ (b ++ (k ++ (c ++ (u ++ (d ++ (t ++ e))))))) (is_second ∙ ap (λ s. s ++ x) is_first)
    ∙ ap (λ p. ((old ++ a) ++ x) ++ (b ++ (k ++ (c ++ (p ++ (d ++ (t ++ e))))))) is
    ∙ ap (λ p. ((old ++ a) ++ x) ++ (b ++ (k ++ (c ++ (v ++ (d ++ (p ++ e))))))) are
    ∙ simp append_assoc in
    subst (λ s. OnOk r (new ≡ s)) whole h

-- three calls, one behind the other, of which the last writes three pieces
pub behind_two : {T E : Type 0} (r : Result T E) (old first second new a x y b c d : List ℕ)
    → first ≡ old ++ a → second ≡ first ++ x → x ≡ y → OnOk r (new ≡ second ++ (b ++ (c ++ d)))
    → OnOk r (new ≡ old ++ (a ++ y ++ b ++ c ++ d))
behind_two r old first second new a x y b c d is_first is_second is h =
    let whole : second ++ (b ++ (c ++ d)) ≡ old ++ (a ++ y ++ b ++ c ++ d) =
    ap (λ s. s ++ (b ++ (c ++ d))) (is_second ∙ ap (λ s. s ++ x) is_first ∙ ap (λ t. (old ++ a) ++ t) is)
    ∙ simp append_assoc in
    subst (λ t. OnOk r (new ≡ t)) whole h
