-- Numbers and their bytes, and lists that are split at one place. Assumes nothing.
use Rattle.std.proofs.Common.{◌≡◌, ℕ, ◌+◌, ◌*◌, ◌/◌, ◌%◌, ◌<◌, ◌≤◌, List, [], ◌∷◌, ◌++◌, length, arith}
use Rattle.wire.specs.Bytes.{word2, word4}

pub word2_number : (a b v : ℕ) → a < 256 → b < 256 → a * 256 + b ≡ v → word2 v ≡ a ∷ b ∷ []
word2_number a b v ha hb e =
    let p : v / 256 % 256 ≡ a = omega arith in
    let q : v % 256 ≡ b = omega arith in
    cc

pub word2_one : (v w : ℕ) → v < 65536 → w < 65536 → word2 v ≡ word2 w → v ≡ w
word2_one v w hv hw e =
    let p : v / 256 % 256 ≡ w / 256 % 256 = cc in
    let q : v % 256 ≡ w % 256 = cc in
    omega arith

-- of every length that a file may have
pub number_word4 : (v : ℕ) → v ≤ 16384 → (v / 16777216 % 256) * 16777216 + (v / 65536 % 256) * 65536 + (v / 256 % 256) * 256 + v % 256 ≡ v
number_word4 v h = omega arith

pub byte_one : (v w : ℕ) → v ∷ [] ≡ w ∷ [] → v ≡ w
byte_one v w e = cc

-- two fronts of one length in the same list are the same, and so are the rests
pub split_same : {A : Type 0} (xs ys t u : List A) → length xs ≡ length ys → xs ++ t ≡ ys ++ u → (xs ≡ ys) × (t ≡ u)
split_same [] [] t u h e = (cc, e)
split_same [] (y ∷ ys) t u h e = absurd (omega arith)
split_same (x ∷ xs) [] t u h e = absurd (omega arith)
split_same (x ∷ xs) (y ∷ ys) t u h e =
    let first : x ≡ y = cc in
    let (same, rest) = split_same xs ys t u (omega arith) cc in
    (cc, rest)
