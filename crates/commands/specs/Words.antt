-- The words of a line, and the numbers and bytes that words write. Assumes nothing.
use Rattle.std.specs.Prelude.{◌≡◌, ℕ, ◌+◌, ◌-◌, ◌*◌, ◌<◌, ◌≤◌, min, Bool, true, cond, ◌&&◌, ◌||◌, List, [], ◌∷◌, length, take, nat_le}

-- blanks stand between words: the space and all that stands before it in ASCII
abbrev pub is_blank : ℕ → Bool
is_blank b = nat_le b 32

-- a byte in front of the first piece
abbrev pub prefixed : ℕ → List (List ℕ) → List (List ℕ)
prefixed b [] = (b ∷ []) ∷ []
prefixed b (p ∷ ps) = (b ∷ p) ∷ ps

-- the pieces between blanks
abbrev pub pieces : List ℕ → List (List ℕ)
pieces [] = [] ∷ []
pieces (b ∷ s) = cond (is_blank b) ([] ∷ pieces s) (prefixed b (pieces s))

-- those that are not empty
abbrev pub full : List (List ℕ) → List (List ℕ)
full [] = []
full ([] ∷ ps) = full ps
full ((b ∷ p) ∷ ps) = (b ∷ p) ∷ full ps

abbrev pub words : List ℕ → List (List ℕ)
words line = full (pieces line)

-- decimal digits, and the number that they write after a number
abbrev pub is_digit : ℕ → Bool
is_digit b = nat_le 48 b && nat_le b 57

abbrev pub all_digits : List ℕ → Bool
all_digits [] = true
all_digits (b ∷ s) = is_digit b && all_digits s

abbrev pub value_on : ℕ → List ℕ → ℕ
value_on v [] = v
value_on v (b ∷ s) = value_on (v * 10 + (b - 48)) s

-- a word that writes a number of at most so much
pub record Writes (word : List ℕ) (most v : ℕ) : Type 0 where
  pub some : 0 < length word
  pub digits : all_digits word ≡ true
  pub value : v ≡ value_on 0 word
  pub small : v ≤ most

-- hexadecimal digits, small or great letters
abbrev pub is_hex : ℕ → Bool
is_hex b = is_digit b || ((nat_le 65 b && nat_le b 70) || (nat_le 97 b && nat_le b 102))

abbrev pub hex_value : ℕ → ℕ
hex_value b = cond (nat_le b 57) (b - 48) (cond (nat_le b 70) (b - 55) (b - 87))

-- a word that writes bytes, two digits for each
pub data Spells : List ℕ → List ℕ → Type 0 where
  none : Spells [] []
  more : (a b : ℕ) (word bytes : List ℕ) → is_hex a ≡ true → is_hex b ≡ true → Spells word bytes → Spells (a ∷ b ∷ word) ((hex_value a * 16 + hex_value b) ∷ bytes)

-- so many of the bytes that the word writes stand at the front of a memory: all of them, or as many as it has room for
pub record Decoded (word : List ℕ) (n : ℕ) (memory : List ℕ) : Type 0 where
  pub bytes : List ℕ
  pub spelled : Spells word bytes
  pub many : n ≡ min (length bytes) (length memory)
  pub there : take n memory ≡ take n bytes
