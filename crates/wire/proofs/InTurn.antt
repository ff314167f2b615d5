-- So many parts one after another, each read in one way behind those before it. Assumes nothing.
use Rattle.std.proofs.Common.{◌≡◌, ℕ, ◌<◌, ◌⊎◌, List, [], ◌∷◌, ◌++◌, length, sym, refl, ◌∙◌, subst, subst₂, inl, inr, append_assoc, append-nil, arith}
use Rattle.std.specs.List.{flat_map}
use Rattle.std.proofs.lemmas.Bool.{cases_order}
use Rattle.refusal.specs.declared.Refusal.{Refusal}
use Rattle.wire.specs.Parts.{Each, next}
use Rattle.wire.proofs.OneWay.{OneWay}

module _ {A : Type 0} (Good : List A → Type 0) (Next : List A → A → Type 0) (bytes : A → List ℕ) (Broken : List A → List ℕ → Refusal → Type 0)
    (split : (xs ys : List A) (x : A) → Good (xs ++ x ∷ ys) → Good xs × Next xs x) (one_way : (xs : List A) → Good xs → OneWay (Next xs) bytes (Broken xs)) where
  -- the first part of some, and what follows it
  first_of : (t : List ℕ) (x : A) (xs : List A) → flat_map bytes (x ∷ xs) ++ t ≡ bytes x ++ (flat_map bytes xs ++ t)
  first_of t x xs = append_assoc (bytes x) (flat_map bytes xs) t

  -- a part counts to those read before
  moved : (zs xs : List A) (x : A) → Good (zs ++ x ∷ xs) → Good ((zs ++ x ∷ []) ++ xs)
  moved zs xs x g = subst Good (sym (append_assoc zs (x ∷ []) xs)) g

  -- two parts that stand in one place, behind the same ones
  next_same : (t u : List ℕ) (zs xs ys : List A) (x y : A) → Good (zs ++ x ∷ xs) → Good (zs ++ y ∷ ys) →
      flat_map bytes (x ∷ xs) ++ t ≡ flat_map bytes (y ∷ ys) ++ u → (x ≡ y) × (flat_map bytes xs ++ t ≡ flat_map bytes ys ++ u)
  next_same t u zs xs ys x y gx gy e =
      let (good, nx) = split zs xs x gx in
      let (_, ny) = split zs ys y gy in
      (one_way zs good).one_value nx (first_of t x xs) ny (e ∙ first_of u y ys)

  values : (t u : List ℕ) (zs xs ys : List A) → Good (zs ++ xs) → Good (zs ++ ys) → length xs ≡ length ys → flat_map bytes xs ++ t ≡ flat_map bytes ys ++ u → (xs ≡ ys) × (t ≡ u)
  values t u zs [] [] gx gy h e = (refl, e)
  values t u zs [] (y ∷ ys) gx gy h e = absurd (omega arith)
  values t u zs (x ∷ xs) [] gx gy h e = absurd (omega arith)
  values t u zs (x ∷ xs) (y ∷ ys) gx gy h e =
      let (same, left) = next_same t u zs xs ys x y gx gy e in
      let gy' = subst (λ z. Good ((zs ++ z ∷ []) ++ ys)) (sym same) (moved zs ys y gy) in
      let (more, rest) = values t u (zs ++ x ∷ []) xs ys (moved zs xs x gx) gy' (omega arith) left in
      (λ i. same i ∷ more i, rest)

  -- fewer parts and then a broken one, where more parts stand
  not_fewer : (t u : List ℕ) (zs xs ys : List A) {r : Refusal} → Good (zs ++ xs) → Good (zs ++ ys) → length ys < length xs → flat_map bytes xs ++ t ≡ flat_map bytes ys ++ u → Broken (zs ++ ys) u r → ⊥
  not_fewer t u zs [] ys gx gy h e b = omega arith
  not_fewer t u zs (x ∷ xs) [] {r} gx gy h e b =
      let (good, n) = split zs xs x gx in
      (one_way zs good).not_both (flat_map bytes xs ++ t) n (sym e ∙ first_of t x xs) (subst (λ l. Broken l u r) (append-nil zs) b)
  not_fewer t u zs (x ∷ xs) (y ∷ ys) {r} gx gy h e b =
      let (same, left) = next_same t u zs xs ys x y gx gy e in
      let gy' = subst (λ z. Good ((zs ++ z ∷ []) ++ ys)) (sym same) (moved zs ys y gy) in
      let b' = subst (λ l. Broken l u r) (sym (append_assoc zs (y ∷ []) ys)) b in
      not_fewer t u (zs ++ x ∷ []) xs ys (moved zs xs x gx) gy' (omega arith) left (subst (λ z. Broken ((zs ++ z ∷ []) ++ ys) u r) (sym same) b')

  pub each_one_value : {s t u : List ℕ} (xs ys : List A) → Good xs → Good ys → length xs ≡ length ys → s ≡ flat_map bytes xs ++ t → s ≡ flat_map bytes ys ++ u → (xs ≡ ys) × (t ≡ u)
  each_one_value {s} {t} {u} xs ys gx gy h ex ey = values t u [] xs ys gx gy h (sym ex ∙ ey)

  pub each_not_both : {s : List ℕ} (t : List ℕ) (xs : List A) (count : ℕ) {r : Refusal} → Good xs → length xs ≡ count → s ≡ flat_map bytes xs ++ t → Each count Good bytes Broken s r → ⊥
  each_not_both t xs count g h e (next ys u few gy ey b) = not_fewer t u [] xs ys g gy (omega arith) (sym e ∙ ey) b

  pub each_one_refusal : {s : List ℕ} (count : ℕ) {r q : Refusal} → Each count Good bytes Broken s r → Each count Good bytes Broken s q → r ≡ q
  each_one_refusal count {r} {q} (next xs t fx gx ex x) (next ys u fy gy ey y) = by (cases_order (length xs) (length ys))
    where
      by : (length xs ≡ length ys) ⊎ ((length xs < length ys) ⊎ (length ys < length xs)) → r ≡ q
      by (inl h) =
          let (same, rest) = each_one_value xs ys gx gy h ex ey in
          (one_way ys gy).one_refusal (subst₂ (λ l v. Broken l v r) same rest x) y
      by (inr (inl h)) = absurd (not_fewer u t [] ys xs gy gx h (sym ey ∙ ex) x)
      by (inr (inr h)) = absurd (not_fewer t u [] xs ys gx gy h (sym ex ∙ ey) y)
