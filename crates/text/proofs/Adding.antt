-- What is added to a text of a bounded length: piece by piece, byte by byte, and where all of it fits. Assumes nothing.
use Rattle.std.proofs.Common.{◌≡◌, ℕ, ◌+◌, ◌<◌, ◌≤◌, List, [], ◌∷◌, ◌++◌, length, get_or, take, set, sym, ap, ◌∙◌, append_assoc, arith, rules}
use Rattle.std.proofs.lemmas.List.{places, same_lists, take_all, take-append-le, take_more, take_more_set, length-take-le, append-nil, length-append}
use Rattle.text.specs.Texts.{longest, added}

-- a list that is cut before more is put behind it, and cut again
cut_twice : (n : ℕ) (xs ys : List ℕ) → take n (take n xs ++ ys) ≡ take n (xs ++ ys)
cut_twice n xs ys = same_lists _ _ (search (rules, places)) (λ k d h. grind (arith, places))

pub added_twice : (text a b : List ℕ) → added (added text a) b ≡ added text (a ++ b)
added_twice text a b = cut_twice longest (text ++ a) b ∙ ap (take longest) (append_assoc text a b)

pub added_fits : (text a : List ℕ) → length text + length a ≤ longest → added text a ≡ text ++ a
added_fits text a fits = take_all longest (text ++ a) (omega (arith, length-append text a))

pub added_nothing : (text : List ℕ) → length text ≤ longest → added text [] ≡ text
added_nothing text fits = added_fits text [] (omega arith) ∙ append-nil text

-- a text that is full stays as it is
pub added_full : (text a : List ℕ) → length text ≡ longest → added text a ≡ text
added_full text a full = take-append-le longest text a (omega arith) ∙ take_all longest text (omega arith)

-- the next byte where there is room
pub added_next : (bytes : List ℕ) (len byte : ℕ) → length bytes ≡ longest → len < longest → take (len + 1) (set bytes len byte) ≡ added (take len bytes) (byte ∷ [])
added_next bytes len byte sized room =
    let n : length (take len bytes) ≡ len = length-take-le len bytes (omega arith) in
    take_more_set bytes len byte (omega arith) ∙ sym (added_fits (take len bytes) (byte ∷ []) (omega arith))

-- one byte more of what is added byte by byte
pub added_more :
    (text bytes was now : List ℕ) (i : ℕ) → i < length bytes → was ≡ added text (take i bytes) → now ≡ added was (get_or bytes i 0 ∷ []) → now ≡ added text (take (i + 1) bytes)
added_more text bytes was now i within known next =
    next
    ∙ ap (λ (xs : List ℕ). added xs (get_or bytes i 0 ∷ [])) known
    ∙ added_twice text (take i bytes) (get_or bytes i 0 ∷ [])
    ∙ ap (added text) (sym (take_more bytes i 0 within))
