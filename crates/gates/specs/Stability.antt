-- A placing is stable exactly when no van has a rival at its gate. Assumes nothing.
use Rattle.std.specs.Prelude.{◌≡◌, ℕ, ◌<◌, ◌≤◌, refl}
use Rattle.std.proofs.Common.{sym, ap, subst, ◌∙◌, ⊎_elim, arith}
use Rattle.std.proofs.lemmas.Bool.{cases_lt, cases_order}
use Rattle.gates.specs.Orders.{position}
use Rattle.gates.specs.Stable.{Sides, VanPrefers, GatePrefers, GateWants, taken, Stable}
use Rattle.gates.specs.Rivals.{Rival, Contested, Free, Settled}
use Rattle.gates.specs.Positions.{Ranked, ranked_from, stands, same}
use Rattle.gates.specs.Rivalry.{Further, contested_further}

module _ (s : Sides) (vans : (i : ℕ) → i < s.n → Ranked s.n (s.van i)) (gates : (g : ℕ) → g < s.n → Ranked s.n (s.gate g)) where
  -- in a stable placing nobody has a rival: he would share the gate, or he and the gate would prefer each other
  pub stable_settled : (h : ℕ → ℕ) → Stable s h → Settled s h
  stable_settled h st = record { placed = st.placed; quiet = quiet }
    where
      quiet : (i : ℕ) → i < s.n → Free s h i (h i)
      quiet i li j r =
          let g = taken s h i in
          let lj = r.other in
          let lg : g < s.n = (vans i li).within (h i) (st.placed i li) in
          let at_j : position s.n (s.van j) (taken s h j) ≡ h j = (vans j lj).once (h j) (st.placed j lj) in
          ⊎_elim
          (λ (lt : position s.n (s.van j) g < h j). st.content j g lj lg (omega (arith, at_j))
          (λ k lk e. let one : k ≡ i = st.apart k i lk li e in subst (λ x. GatePrefers s g j x) (sym one) r.preferred))
          (λ (le : h j ≤ position s.n (s.van j) g).
          let e : position s.n (s.van j) g ≡ h j = omega (arith, r.came) in
          let both : taken s h j ≡ g = ap (s.van j) (sym e) ∙ stands (vans j lj) g lg in
          let one : j ≡ i = st.apart j i lj li both in
          omega (arith, r.preferred, ap (position s.n (s.gate g)) one))
          (cases_lt (position s.n (s.van j) g) (h j))

  -- and where nobody has one, the placing is stable
  pub settled_stable : (h : ℕ → ℕ) → Settled s h → Stable s h
  settled_stable h st = record { placed = st.placed; apart = apart; content = content }
    where
      within : (i : ℕ) → i < s.n → taken s h i < s.n
      within i l = (vans i l).within (h i) (st.placed i l)

      comes : (i : ℕ) → i < s.n → position s.n (s.van i) (taken s h i) ≡ h i
      comes i l = (vans i l).once (h i) (st.placed i l)

      no_rival : (i g j : ℕ) → i < s.n → j < s.n → taken s h i ≡ g → GatePrefers s g j i → position s.n (s.van j) g ≤ h j → ⊥
      no_rival i g j li lj e p c = st.quiet i li j (subst (λ x. Rival s h i x j) (sym e) (record { other = lj; preferred = p; came = c }))

      apart : (i k : ℕ) → i < s.n → k < s.n → taken s h i ≡ taken s h k → i ≡ k
      apart i k li lk e =
          let g = taken s h i in
          let come_k : position s.n (s.van k) g ≡ h k = ap (position s.n (s.van k)) e ∙ comes k lk in
          ⊎_elim (same (gates g (within i li)) i k li lk)
          (⊎_elim
          (λ lt. absurd (no_rival k g i lk li (sym e) lt (omega (arith, comes i li))))
          (λ lt. absurd (no_rival i g k li lk refl lt (omega (arith, come_k)))))
          (cases_order (position s.n (s.gate g) i) (position s.n (s.gate g) k))

      -- every gate has a van, so each has one to compare with
      all : Ranked s.n (taken s h)
      all = ranked_from within apart

      content : (i g : ℕ) → i < s.n → g < s.n → VanPrefers s i g (taken s h i) → GateWants s h g i → ⊥
      content i g li lg likes wants =
          let k = position s.n (taken s h) g in
          let lk : k < s.n = all.every g lg in
          let e : taken s h k ≡ g = stands all g lg in
          no_rival k g i lk li e (wants k lk e) (omega (arith, comes i li))

  -- no stable placing further down leaves a van where it has a rival
  pub contested_passed : (h h' : ℕ → ℕ) → Further s h h' → Stable s h' → (i : ℕ) → i < s.n → Contested s h i (h' i) → ⊥
  contested_passed h h' up st i l c =
      let c' = contested_further up c in
      (stable_settled h' st).quiet i l c'.0 c'.1
