-- Pushes one behind the other. Assumes nothing.
use Rattle.std.proofs.Common.{◌≡◌, ℕ, List, [], ◌∷◌, ◌++◌, ap, ◌∙◌, append_assoc}
use Rattle.text.specs.Texts.{added}
use Rattle.text.proofs.Adding.{added_twice}

-- bytes, bytes, a byte and bytes
pub four : (text a b d : List ℕ) (s : ℕ) {x y z w : List ℕ} → x ≡ added text a → y ≡ added x b → z ≡ added y (s ∷ []) → w ≡ added z d → w ≡ added text (a ++ (b ++ (s ∷ d)))
four text a b d s {x} {y} {z} e f g h =
    let two : y ≡ added text (a ++ b) = f ∙ ap (λ (xs : List ℕ). added xs b) e ∙ added_twice text a b in
    let three : z ≡ added text ((a ++ b) ++ (s ∷ [])) = g ∙ ap (λ (xs : List ℕ). added xs (s ∷ [])) two ∙ added_twice text (a ++ b) (s ∷ []) in
    h
    ∙ ap (λ (xs : List ℕ). added xs d) three
    ∙ added_twice text ((a ++ b) ++ (s ∷ [])) d
    ∙ ap (added text) (append_assoc (a ++ b) (s ∷ []) d ∙ append_assoc a b (s ∷ d))
