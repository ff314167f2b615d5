-- How the first word of a line is cut off. Assumes nothing.
use Rattle.std.proofs.Common.{◌≡◌, ℕ, zero, suc, ◌<◌, ◌≤◌, true, false, not, cond, Option, Some, None, List, [], ◌∷◌, ◌++◌, length, get_or, take, drop, sym, refl, ap, ◌∙◌, subst, add-zero, arith, length-drop, take-append-drop, ⊎_elim}
use Rattle.std.specs.List.{position, position_or_len}
use Rattle.std.specs.Option.{unwrap_or}
use Rattle.std.proofs.lemmas.Bool.{not-false, not-true, cases_lt, both_ways}
use Rattle.std.proofs.lemmas.List.{get_or-take, get_or-drop, length-take-le, drop_all}
use Rattle.std.proofs.lemmas.List.Sums.{prefix_len-le-length, fails_before_first, passes_at_first}
use Rattle.std.proofs.lemmas.List.Quantifiers.{position-Some}
use Rattle.commands.specs.Words.{is_blank, prefixed, pieces, full, words}

words_blank : (b : ℕ) (s : List ℕ) → is_blank b ≡ true → words (b ∷ s) ≡ words s
words_blank b s h = ap (λ t. full (cond t ([] ∷ pieces s) (prefixed b (pieces s)))) h

-- blanks in front belong to no word
skipped : (n : ℕ) (s : List ℕ) → n ≤ length s → ((k : ℕ) → k < n → is_blank (get_or s k 0) ≡ true) → words (drop n s) ≡ words s
skipped zero s inside blank = refl
skipped (suc n) [] inside blank = absurd (omega arith)
skipped (suc n) (b ∷ s) inside blank = skipped n s (omega arith) (λ k h. blank (suc k) (omega arith)) ∙ sym (words_blank b s (blank 0 (omega arith)))

-- the pieces behind the first, of a line that is empty or begins with a blank
abbrev behind : List ℕ → List (List ℕ)
behind [] = []
behind (b ∷ s) = pieces s

ended : (q : List ℕ) → (0 < length q → is_blank (get_or q 0 0) ≡ true) → pieces q ≡ [] ∷ behind q
ended [] h = refl
ended (b ∷ s) h = ap (λ t. cond t ([] ∷ pieces s) (prefixed b (pieces s))) (h (omega arith))

run : (p q : List ℕ) (rest : List (List ℕ)) → ((k : ℕ) → k < length p → is_blank (get_or p k 0) ≡ false) → pieces q ≡ [] ∷ rest → pieces (p ++ q) ≡ p ∷ rest
run [] q rest all e = e
run (a ∷ p) q rest all e =
    ap (λ t. cond t ([] ∷ pieces (p ++ q)) (prefixed a (pieces (p ++ q)))) (all 0 (omega arith))
    ∙ ap (prefixed a) (run p q rest (λ k h. all (suc k) (omega arith)) e)

word_run : (p q : List ℕ) → 0 < length p → ((k : ℕ) → k < length p → is_blank (get_or p k 0) ≡ false) → (0 < length q → is_blank (get_or q 0 0) ≡ true) → words (p ++ q) ≡ p ∷ words q
word_run [] q some all end = absurd (omega arith)
word_run (a ∷ p) q some all end = ap full (run (a ∷ p) q (behind q) all (ended q end)) ∙ ap (λ ws. (a ∷ p) ∷ ws) (sym (ap full (ended q end)))

-- n bytes that are no blanks, with a blank or nothing behind them
first_word : (s : List ℕ) (n : ℕ) → 0 < n → n ≤ length s → ((k : ℕ) → k < n → is_blank (get_or s k 0) ≡ false) → (n < length s → is_blank (get_or s n 0) ≡ true) → words s ≡ take n s ∷ words (drop n s)
first_word s n some inside all end =
    let long = length-take-le n s inside in
    let left = length-drop n s in
    let at : get_or (drop n s) 0 0 ≡ get_or s n 0 = get_or-drop n s 0 0 ∙ ap (λ i. get_or s i 0) (add-zero n) in
    let front : (k : ℕ) → k < length (take n s) → is_blank (get_or (take n s) k 0) ≡ false = λ k h. let lt : k < n = omega arith in rw get_or-take (all k lt) in
    ap words (sym (take-append-drop n s)) ∙ word_run (take n s) (drop n s) (omega arith) front (λ h. subst (λ b. is_blank b ≡ true) (sym at) (end (omega arith)))

abbrev first_blank : List ℕ → Option ℕ
first_blank s = position is_blank s

abbrev first_full : List ℕ → Option ℕ
first_full s = position (λ b. not (is_blank b)) s

blanks_before : (s : List ℕ) (k : ℕ) → k < position_or_len (λ b. not (is_blank b)) s → is_blank (get_or s k 0) ≡ true
blanks_before s k h = not-false _ (fails_before_first (λ b. not (is_blank b)) s k 0 h)

pub no_word : (line : List ℕ) → first_full line ≡ None → words line ≡ []
no_word line none =
    let all : length line ≤ position_or_len (λ b. not (is_blank b)) line = grind (arith, none) in
    sym (skipped (length line) line (omega arith) (λ k h. blanks_before line k (omega arith))) ∙ ap words (drop_all (length line) line (omega arith))

-- the first blank, or the end
first_end : (s : List ℕ) (n : ℕ) → n ≡ unwrap_or (first_blank s) (length s) → n ≡ position_or_len is_blank s
first_end s n end = let inside = prefix_len-le-length (λ b. not (is_blank b)) s in grind (arith, end, inside)

-- what stands behind the blanks
module _ (line s : List ℕ) (start : ℕ) (is : first_full line ≡ Some start) (at : s ≡ drop start line) where
  filled : start < length line
  filled = (position-Some (λ b. not (is_blank b)) line start 0 is).0

  some : 0 < length s
  some = omega (arith, filled, ap length at, length-drop start line)

  full_first : is_blank (get_or s 0 0) ≡ false
  full_first =
      let first : get_or s 0 0 ≡ get_or line start 0 = ap (λ l. get_or l 0 0) at ∙ get_or-drop start line 0 0 ∙ ap (λ i. get_or line i 0) (add-zero start) in
      ap is_blank first ∙ not-true _ (position-Some (λ b. not (is_blank b)) line start 0 is).1

  same : words s ≡ words line
  same = ap words at ∙ skipped start line (omega (arith, filled)) (λ k h. not-false _ ((position-Some (λ b. not (is_blank b)) line start 0 is).2 k h))

  pub next : (r : Option ℕ) (n : ℕ) → r ≡ first_blank s → n ≡ unwrap_or r (length s) → {word rest : List ℕ} → word ≡ take n s → rest ≡ drop n s → words line ≡ word ∷ words rest
  next r n till end {word} {rest} front back =
      let e = first_end s n (end ∙ ap (λ q. unwrap_or q (length s)) till) in
      let inside = prefix_len-le-length (λ b. not (is_blank b)) s in
      let ends : n < length s → is_blank (get_or s n 0) ≡ true = rw e (passes_at_first is_blank s 0) in
      let more : 0 < n = ⊎_elim (λ h. h) (λ h. let none : n ≡ 0 = omega arith in absurd (both_ways _ full_first (rw none at ends some))) (cases_lt 0 n) in
      sym same
      ∙ first_word s n more (omega (arith, e, inside)) (λ k h. fails_before_first is_blank s k 0 (rw e at h)) ends
      ∙ (λ i. sym front i ∷ words (sym back i))
