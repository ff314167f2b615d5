-- What the digits of a word spell, and what has been put into the memory. Assumes nothing.
use Rattle.std.proofs.Common.{◌≡◌, ℕ, zero, suc, ◌+◌, ◌*◌, ◌<◌, ◌≤◌, min, true, List, [], ◌∷◌, length, get_or, set, drop, sym, refl, ap, ◌∙◌, subst, ⊎_elim, arith, length-set}
use Rattle.std.proofs.lemmas.List.{ext_get_or, get_or-take, get_or-drop, get_or-set_same, get_or-set_other, length-take-le}
use Rattle.std.specs.Simd.{first_chunks}
use Rattle.std.proofs.lemmas.Bool.{cases_eq, cases_lt}
use Rattle.commands.specs.Words.{is_hex, hex_value, Spells, none, more, Decoded}

-- two digits for each byte
pub spells_length : {word bytes : List ℕ} → Spells word bytes → length word ≡ 2 * length bytes
spells_length none = refl
spells_length (more a b word bytes ha hb s) = let e = spells_length s in omega arith

-- each of them a digit
pub spells_hex : {word bytes : List ℕ} → Spells word bytes → (k : ℕ) → k < length word → is_hex (get_or word k 0) ≡ true
spells_hex none k h = absurd (omega arith)
spells_hex (more a b word bytes ha hb s) zero h = ha
spells_hex (more a b word bytes ha hb s) (suc zero) h = hb
spells_hex (more a b word bytes ha hb s) (suc (suc k)) h = spells_hex s k (omega arith)

-- the digits of a pair
pair_at : (m : ℕ) (word : List ℕ) (i j : ℕ) → i < m → j < 2 → (at : ℕ) → at ≡ 2 * i + j → get_or (get_or (first_chunks 2 m word) i []) j 0 ≡ get_or word at 0
pair_at zero word i j h l at e = absurd (omega arith)
pair_at (suc m) word zero j h l at e = let same : j ≡ at = omega arith in get_or-take 2 word j 0 l ∙ ap (λ k. get_or word k 0) same
pair_at (suc m) word (suc i) j h l at e =
    let on : 2 + (2 * i + j) ≡ at = omega arith in
    pair_at m (drop 2 word) i j (omega arith) l (2 * i + j) refl ∙ get_or-drop 2 word (2 * i + j) 0 ∙ ap (λ k. get_or word k 0) on

module _ {pairs : List (List ℕ)} (word : List ℕ) {m i : ℕ} (front : pairs ≡ first_chunks 2 m word) (inside : i < m) where
  pub high_at : get_or (get_or pairs i []) 0 0 ≡ get_or word (2 * i) 0
  high_at = ap (λ ps. get_or (get_or ps i []) 0 0) front ∙ pair_at m word i 0 inside (omega arith) (2 * i) (omega arith)

  pub low_at : get_or (get_or pairs i []) 1 0 ≡ get_or word (2 * i + 1) 0
  low_at = ap (λ ps. get_or (get_or ps i []) 1 0) front ∙ pair_at m word i 1 inside (omega arith) (2 * i + 1) refl

-- the byte at a place
abbrev pub byte_at : List ℕ → ℕ → ℕ
byte_at word k = hex_value (get_or word (2 * k) 0) * 16 + hex_value (get_or word (2 * k + 1) 0)

-- i pairs of digits are read, and their bytes put into the memory as far as it reaches
pub record Sofar (word : List ℕ) (i : ℕ) (memory : List ℕ) : Type 0 where
  pub digits : (k : ℕ) → k < 2 * i → is_hex (get_or word k 0) ≡ true
  pub there : (k : ℕ) → k < i → k < length memory → get_or memory k 0 ≡ byte_at word k

module _ {word : List ℕ} {i : ℕ} {memory : List ℕ} (so : Sofar word i memory) (high : is_hex (get_or word (2 * i) 0) ≡ true) (low : is_hex (get_or word (2 * i + 1) 0) ≡ true) where
  two_digits : (k : ℕ) → k < 2 * (i + 1) → is_hex (get_or word k 0) ≡ true
  two_digits k h =
      ⊎_elim
      (λ l. so.digits k l)
      (λ g. ⊎_elim
      (λ e. subst (λ j. is_hex (get_or word j 0) ≡ true) (sym e) high)
      (λ ne. let e : k ≡ 2 * i + 1 = omega arith in subst (λ j. is_hex (get_or word j 0) ≡ true) (sym e) low)
      (cases_eq k (2 * i)))
      (cases_lt k (2 * i))

  pub put : {v : ℕ} {after : List ℕ} → i < length memory → v ≡ byte_at word i → after ≡ set memory i v → Sofar word (i + 1) after
  put {v} {after} inside is e = record {
    digits = two_digits;
    there = λ k h l.
        let long = ap length e ∙ length-set memory i v in
        ap (λ s. get_or s k 0) e
        ∙ ⊎_elim
        (λ q. subst (λ j. get_or (set memory i v) j 0 ≡ byte_at word j) (sym q) (get_or-set_same memory i v 0 inside ∙ is))
        (λ ne. get_or-set_other memory i k v 0 ne ∙ so.there k (omega arith) (omega arith))
        (cases_eq k i);
  }

  pub no_room : {after : List ℕ} → length memory ≤ i → after ≡ memory → Sofar word (i + 1) after
  no_room {after} outside e = record {
    digits = two_digits;
    there = λ k h l. let long = ap length e in ap (λ s. get_or s k 0) e ∙ so.there k (omega arith) (omega arith);
  }

-- the bytes that pairs of digits spell
abbrev pub bytes_of : List ℕ → List ℕ
bytes_of [] = []
bytes_of (a ∷ []) = []
bytes_of (a ∷ b ∷ word) = (hex_value a * 16 + hex_value b) ∷ bytes_of word

pub many_bytes : (m : ℕ) (word : List ℕ) → length word ≡ 2 * m → length (bytes_of word) ≡ m
many_bytes zero [] long = refl
many_bytes zero (a ∷ word) long = absurd (omega arith)
many_bytes (suc m) [] long = absurd (omega arith)
many_bytes (suc m) (a ∷ []) long = absurd (omega arith)
many_bytes (suc m) (a ∷ b ∷ word) long = ap suc (many_bytes m word (omega arith))

pub each_byte : (word : List ℕ) (k : ℕ) → k < length (bytes_of word) → get_or (bytes_of word) k 0 ≡ byte_at word k
each_byte [] k h = absurd (omega arith)
each_byte (a ∷ []) k h = absurd (omega arith)
each_byte (a ∷ b ∷ word) zero h = refl
each_byte (a ∷ b ∷ word) (suc k) h =
    let low : 2 * suc k + 1 ≡ suc (suc (2 * k + 1)) = omega arith in
    let high : 2 * suc k ≡ suc (suc (2 * k)) = omega arith in
    rw (low, high) (each_byte word k (omega arith))

pub spelling : (m : ℕ) (word : List ℕ) → length word ≡ 2 * m → ((k : ℕ) → k < 2 * m → is_hex (get_or word k 0) ≡ true) → Spells word (bytes_of word)
spelling zero [] long all = none
spelling zero (a ∷ word) long all = absurd (omega arith)
spelling (suc m) [] long all = absurd (omega arith)
spelling (suc m) (a ∷ []) long all = absurd (omega arith)
spelling (suc m) (a ∷ b ∷ word) long all = more a b word _ (all 0 (omega arith)) (all 1 (omega arith)) (spelling m word (omega arith) (λ k h. all (suc (suc k)) (omega arith)))

pub decoded : (word : List ℕ) (m n : ℕ) (memory : List ℕ) → length word ≡ 2 * m → n ≡ min m (length memory) → Sofar word m memory → Decoded word n memory
decoded word m n memory long least so =
    let many = many_bytes m word long in
    let inside : n ≤ length memory = omega arith in
    let short : n ≤ length (bytes_of word) = omega arith in
    let front = length-take-le n memory inside in
    record {
      bytes = bytes_of word;
      spelled = spelling m word long so.digits;
      many = least ∙ ap (λ i. min i (length memory)) (sym many);
      there =
          ext_get_or 0 _ _ (front ∙ sym (length-take-le n (bytes_of word) short)) λ k h.
          let lt : k < n = omega arith in
          get_or-take n memory k 0 lt ∙ so.there k (omega arith) (omega arith) ∙ sym (each_byte word k (omega arith)) ∙ sym (get_or-take n (bytes_of word) k 0 lt);
    }
