-- Texts that are put behind others.
use Rattle.std.proofs.Common.{◌≡◌, ℕ, List, ◌++◌, Result, Ok, Err, OnOk, ap, ◌∙◌, append_assoc}

pub on_ok : {A E P Q : Type 0} (r : Result A E) → (P → Q) → OnOk r P → OnOk r Q
on_ok (Ok a) f h = f h
on_ok (Err e) f h = tt

-- three of them
pub three : (o a b k x y z : List ℕ) → x ≡ o ++ a → y ≡ x ++ b → z ≡ y ++ k → z ≡ o ++ (a ++ b ++ k)
three o a b k x y z e f g =
    g ∙ ap (λ t. t ++ k) (f ∙ ap (λ t. t ++ b) e ∙ append_assoc o a b) ∙ append_assoc o (a ++ b) k

-- four of them
pub four : (o a b k d x y z w : List ℕ) → x ≡ o ++ a → y ≡ x ++ b → z ≡ y ++ k → w ≡ z ++ d
    → w ≡ o ++ (a ++ b ++ k ++ d)
four o a b k d x y z w e f g h =
    h ∙ ap (λ t. t ++ d) (g ∙ ap (λ t. t ++ k) (f ∙ ap (λ t. t ++ b) e ∙ append_assoc o a b) ∙ append_assoc o (a ++ b) k)
    ∙ append_assoc o (a ++ b ++ k) d

-- five of them
pub five : (o a b k d e x y z w v : List ℕ) → x ≡ o ++ a → y ≡ x ++ b → z ≡ y ++ k → w ≡ z ++ d → v ≡ w ++ e
    → v ≡ o ++ (a ++ b ++ k ++ d ++ e)
five o a b k d e x y z w v p q r s t =
    t ∙ ap (λ l. l ++ e) (four o a b k d x y z w p q r s) ∙ append_assoc o (a ++ b ++ k ++ d) e
